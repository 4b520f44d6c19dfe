-- The totals of a list of pieces.
use Rattle.std.specs.Prelude.{ℕ, ◌+◌, if◌then◌else◌, List, [], ◌∷◌, length, Option, Some, None}
use Rattle.jq_pages.specs.Pieces.{PieceView}
use Rattle.jq_pages.specs.declared.pieces.Last.{Last}
use Rattle.jq_pages.specs.declared.pieces.Last.TheVariants as last
use Rattle.jq_pages.specs.declared.totals.Totals.{Totals}

-- the last output of two parts, one after the other
abbrev pub later : (first second : Last) → Last
later first last.Nothing = first
later first last.Falsy = last.Falsy
later first last.Truthy = last.Truthy

-- the first status of two parts, one after the other
abbrev pub earlier : (first second : Option ℕ) → Option ℕ
earlier None second = second
earlier (Some status) second = Some status

-- the totals of two parts, one after the other
abbrev pub joined : (first second : Totals) → Totals
joined first second = record { out = first.out + second.out; err = first.err + second.err; failed = first.failed + second.failed; last = later first.last second.last; halt = earlier first.halt second.halt }

-- those of no piece
abbrev pub nothing : Totals
nothing = record { out = 0; err = 0; failed = 0; last = last.Nothing; halt = None }

-- those of one piece
abbrev pub total : PieceView → Totals
total p = record { out = length p.out; err = length p.err; failed = if p.failed then 1 else 0; last = p.last; halt = p.halt }

-- `out` and `err` are how many bytes the pieces have, `failed` how many of them failed, `last` is the last output, and `halt` the
-- first status.
abbrev pub totals : List PieceView → Totals
totals [] = nothing
totals (p ∷ ps) = joined (total p) (totals ps)
