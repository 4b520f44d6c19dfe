-- What a splitter finds at the start of the rest of its stream.
use Rattle.std.specs.Prelude.{◌≡◌, ◌⊎◌, ℕ, ◌≤◌, List, length, take, Bool, Option, Some, None, Result, Ok, Err}
use Rattle.jv_cut.specs.Text.{max_text}
use Rattle.jv_cut.specs.Cut.{with_text, no_text, clean, open_text, fault}
use Rattle.jv_cut.specs.Rest.{Rest, cut_of, cut_with, without, MayFollow}
use Rattle.jv_cut.specs.declared.splitting.CutFault.{CutFault}

-- The first remaining text has n bytes, whatever bytes follow.
pub record IsFirst (r : Rest) (n : ℕ) : Type 0 where
  pub within : n ≤ length r.unread
  pub cut : (later : Bool) (more : List ℕ) → MayFollow r.ended more later → cut_with r more later ≡ with_text r.place (take n r.unread) (cut_with (without r n) more later)

-- No complete text is left of the bytes that were fed. At most the bytes of one text are held.
pub record NoneLeft (r : Rest) : Type 0 where
  pub cut : (cut_of r ≡ no_text clean) ⊎ (cut_of r ≡ no_text open_text)
  pub held : length r.unread ≤ max_text

-- No text can be read here, whatever bytes follow.
pub record IsFault (r : Rest) (p : CutFault) : Type 0 where
  pub cut : (later : Bool) (more : List ℕ) → MayFollow r.ended more later → cut_with r more later ≡ no_text (fault p r.place)

abbrev pub FindsFirst : Result (Option ℕ) CutFault → Rest → Type 0
FindsFirst (Ok (Some n)) r = IsFirst r n
FindsFirst (Ok None) r = NoneLeft r
FindsFirst (Err p) r = IsFault r p
