-- The keys of a map are in order.
use Rattle.std.proofs.Common.{◌≡◌, List, [], ◌∷◌, String, Global, string_cmp, Ordering, Less, Equal, Greater, refl, sym, ◌∙◌}
use Rattle.std.specs.List.{AllByRecursion}
use Rattle.std.specs.List.Sorted.{IsStrictlySortedBy}
use Rattle.std.specs.Map.{keys_of}
use Rattle.std.specs.Ordering.{ordering_then}
use Rattle.jv_data.proofs.Utf8.{chars-cmp}
use Rattle.jv_data.specs.Members.{IsBefore, IsInOrder}
use Rattle.jv_data.specs.Text.{text_of}
use Rattle.jv_data.specs.View.{members_view}
use Rattle.jv_data.specs.declared.values.Val.{Val}

abbrev pub Entry : Type 0
Entry = String Global × Val

-- of two orderings in turn, the first decides if it is not `Equal`
pub first_decides : (o p : Ordering) → (o ≡ Equal → ⊥) → o ≡ ordering_then o p
first_decides Less p h = refl
first_decides Equal p h = absurd (h refl)
first_decides Greater p h = refl

in_order_after : (k : String Global) (es : List Entry) → AllByRecursion (λ l. string_cmp k l ≡ Less) (keys_of es) → IsBefore (text_of k) (members_view es)
in_order_after k [] h = tt
in_order_after k (e ∷ es) h = (sym (chars-cmp k e.0) ∙ h.0, in_order_after k es h.1)

-- the keys of a map rise by their code points
pub in_order : (es : List Entry) → IsStrictlySortedBy string_cmp (keys_of es) → IsInOrder (members_view es)
unfolding IsStrictlySortedBy
in_order [] h = tt
in_order (e ∷ es) h = (in_order_after e.0 es h.0, in_order es h.1)
