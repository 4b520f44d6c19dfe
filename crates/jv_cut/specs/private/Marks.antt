-- A prefix of a byte order mark.
use Rattle.std.specs.Prelude.{ℕ, List, [], ◌∷◌, Bool, true, false, ◌==◌, ◌&&◌}

-- the bytes may become a mark, with more bytes after them
abbrev pub may_become_mark : List ℕ → Bool
may_become_mark [] = true
may_become_mark (a ∷ []) = a == 239
may_become_mark (a ∷ b ∷ []) = (a == 239) && (b == 187)
may_become_mark (a ∷ b ∷ c ∷ rest) = false
