-- An array without the items of another.
use Rattle.std.proofs.Common.{◌≡◌, List, ◌∷◌, Bool, true, false, cond, not, filter, sym, ap}
use Rattle.std.proofs.lemmas.Bool.{false_from_ne_true}
use Rattle.std.proofs.lemmas.Map.Views.{list_any-from_Contains, Contains-from_any}
use Rattle.std.specs.Cmp.{back_equiv, eq_by_cmp_equiv}
use Rattle.std.specs.List.{Contains}
use Rattle.jv_data.proofs.shared.Order.{compare_total, same_Decides}
use Rattle.jv_data.specs.Value.{Value, Items, item, items_of, values_of}
use Rattle.jv_arith.specs.Arrays.{is_among, left_over}

among : (v : Value) (ws : List Value) → Contains ws v → is_among ws v ≡ true
among v ws h = list_any-from_Contains (back_equiv (eq_by_cmp_equiv compare_total)) v ws h

from_among : (v : Value) (ws : List Value) → is_among ws v ≡ true → Contains ws v
from_among v ws e = Contains-from_any (λ x y f. sym ((same_Decides y x).0 f)) v ws e

kept_by : (v : Value) (vs ws : Items) (b : Bool) → is_among (values_of ws) v ≡ b → left_over (item v vs) ws ≡ items_of (cond (not b) (v ∷ filter (λ u. not (is_among (values_of ws) u)) (values_of vs)) (filter (λ u. not (is_among (values_of ws) u)) (values_of vs)))
kept_by v vs ws b e = ap (λ c. items_of (cond (not c) (v ∷ filter (λ u. not (is_among (values_of ws) u)) (values_of vs)) (filter (λ u. not (is_among (values_of ws) u)) (values_of vs)))) e

pub item_gone : (v : Value) (vs ws : Items) → Contains (values_of ws) v → left_over (item v vs) ws ≡ left_over vs ws
item_gone v vs ws h = kept_by v vs ws true (among v (values_of ws) h)

pub item_stays : (v : Value) (vs ws : Items) → (Contains (values_of ws) v → ⊥) → left_over (item v vs) ws ≡ item v (left_over vs ws)
item_stays v vs ws h = kept_by v vs ws false (false_from_ne_true (is_among (values_of ws) v) (λ e. h (from_among v (values_of ws) e)))
