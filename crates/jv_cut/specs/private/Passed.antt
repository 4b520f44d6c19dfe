-- What was skipped at the start of a splitter's stream.
use Rattle.std.specs.Prelude.{◌≡◌, ℕ, ◌<◌, List, ◌++◌, length, slice_index, Bool, false}
use Rattle.jv_cut.specs.Bytes.{is_space}
use Rattle.jv_cut.specs.Cut.{cut_from}
use Rattle.jv_cut.specs.Rest.{Rest, cut_with, MayFollow}

-- no byte order mark is here, whatever bytes follow
pub record IsPastMark (r : Rest) : Type 0 where
  pub cut : (later : Bool) (more : List ℕ) → MayFollow r.ended more later → cut_with r more later ≡ cut_from 0 later r.place (r.unread ++ more)

-- no white space is here
abbrev pub IsPastSpace : Rest → Type 0
IsPastSpace r = 0 < length r.unread → is_space (slice_index r.unread 0) ≡ false
