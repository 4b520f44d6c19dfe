-- The order of two values, by what is open in the list of pairs.
use Rattle.std.proofs.Common.{◌≡◌, List, [], ◌∷◌, ◌++◌, Ordering, Less, Equal, Greater, refl}
use Rattle.std.specs.Ordering.{ordering_then}
use Rattle.jv_data.specs.private.Pairs.{parts_order}
use Rattle.jv_data.specs.declared.pairs.Pair.{Pair}

-- the order by the pairs of the list, the last one first, and then this one
abbrev pub open_order : List Pair → Ordering → Ordering
open_order [] o = o
open_order (p ∷ ps) o = open_order ps (ordering_then (parts_order p) o)

pub open_order-last : (ps : List Pair) (p : Pair) (o : Ordering) → open_order (ps ++ p ∷ []) o ≡ ordering_then (parts_order p) (open_order ps o)
open_order-last [] p o = refl
open_order-last (q ∷ ps) p o = open_order-last ps p (ordering_then (parts_order q) o)

pub then_again : (a b c : Ordering) → ordering_then (ordering_then a b) c ≡ ordering_then a (ordering_then b c)
then_again Less b c = refl
then_again Equal b c = refl
then_again Greater b c = refl
