-- The bytes that an edit changes.
use Rattle.std.specs.Prelude.{◌≡◌, ℕ, ◌+◌, ◌≤◌, Bool, if◌then◌else◌, List, [], ◌∷◌, ◌++◌, length, take, drop}
use Rattle.std.specs.List.{flat_map, replace_range}
use Rattle.jq_pages.specs.Folds.{Folded, pieces, tail, output, errors}
use Rattle.jq_pages.specs.Pieces.{PieceView}
use Rattle.jq_pages.specs.declared.changes.Change.{Change}
use Rattle.jq_pages.specs.declared.changes.Edited.{Edited}
use Rattle.jq_pages.specs.declared.splices.Splice.{Splice}

-- the bytes with the `cut` bytes at position `at` replaced by `put`
abbrev pub spliced : Splice → List ℕ → List ℕ
spliced s bytes = replace_range bytes s.at (s.at + s.cut) s.put.items

-- The splice is within the old bytes, and makes the new bytes from them.
pub record IsSplice (s : Splice) (old new : List ℕ) : Type 0 where
  pub within : s.at + s.cut ≤ length old
  pub turns : spliced s old ≡ new

-- the piece of `close`, if it was run again
abbrev pub closing : Bool → PieceView → List PieceView
closing closed p = if closed then p ∷ [] else []

-- the pieces that a change puts in
abbrev pub came : {S : Type 0} → Change → Folded S → List PieceView
came c new = take c.put (drop c.from (pieces new)) ++ closing c.closed (tail new)

-- The splices of an edit. The bytes that they put in are those of the pieces that the edit puts in, and no others.
pub record IsSpliced {S : Type 0} (e : Edited) (old new : Folded S) : Type 0 where
  pub out : IsSplice e.out (output old) (output new)
  pub err : IsSplice e.err (errors old) (errors new)
  pub out_put : e.out.put.items ≡ flat_map (λ p. p.out) (came e.change new)
  pub err_put : e.err.put.items ≡ flat_map (λ p. p.err) (came e.change new)
