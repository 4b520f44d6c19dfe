-- The rest of a splitter's stream.
use Rattle.std.specs.Prelude.{◌≡◌, ℕ, ◌+◌, List, [], ◌++◌, length, drop, Bool, true}
use Rattle.jv_cut.specs.Cut.{Cut, cut}

-- the bytes that were fed and not yet taken, the position of the first of them in the stream, and whether no more follow
pub record Rest : Type 0 where
  pub unread : List ℕ
  pub place : ℕ
  pub ended : Bool

-- the remaining texts
abbrev pub cut_of : Rest → Cut
cut_of r = cut r.ended r.place r.unread

-- the same with these bytes added; `later` says that no more follow after them
abbrev pub cut_with : Rest → List ℕ → Bool → Cut
cut_with r more later = cut later r.place (r.unread ++ more)

-- without its first n bytes
abbrev pub without : Rest → ℕ → Rest
without r n = record { unread = drop n r.unread; place = r.place + n; ended = r.ended }

-- the bytes that may still follow: none if the stream has ended
pub record MayFollow (ended : Bool) (more : List ℕ) (later : Bool) : Type 0 where
  pub none : ended ≡ true → (more ≡ []) × (later ≡ true)

-- s has the same remaining texts as r, whatever bytes follow
pub record SameTexts (r s : Rest) : Type 0 where
  pub ended : s.ended ≡ r.ended
  -- the same number of bytes was fed
  pub count : s.place + length s.unread ≡ r.place + length r.unread
  pub cut : (later : Bool) (more : List ℕ) → MayFollow r.ended more later → cut_with r more later ≡ cut_with s more later
