-- What is left of containers in one another.
use Rattle.std.proofs.Common.{◌≡◌, ◌∙◌, List, [], ◌∷◌, ◌++◌, false, ap, sym, refl, subst, append_assoc}
use Rattle.jv_data.specs.Value.{Value, array, items_of}
use Rattle.jv_data.specs.View.{view}
use Rattle.jv_value.specs.DeletePaths.{names_itself, without_locations}
use Rattle.jv_value.specs.private.ItemGroups.{groups_in, groups_left}
use Rattle.jv_value.specs.private.Locations.{locations_in}
use Rattle.jv_value.specs.private.Removals.{AllLeave, Leaves, items_with}
use Rattle.jv_value.specs.declared.removing.ItemGroup.{ItemGroup}
use Rattle.jv_value.specs.declared.removing.Open.{Open}
use Rattle.jv_value.proofs.Following.{without_nothing}

pub all_leave_more : (os : List Open) (o : Open) (v u w : Value) → Leaves o v u → AllLeave os u w → AllLeave (os ++ o ∷ []) v w
all_leave_more [] o v u w h all = (v, refl, subst (Leaves o v) all h)
all_leave_more (p ∷ os) o v u w h all = (all.0, all_leave_more os o v u all.0 h all.1, all.2)

pub all_leave_last : (os : List Open) (o : Open) (v w : Value) → AllLeave (os ++ o ∷ []) v w → (u : Value) × Leaves o v u × AllLeave os u w
all_leave_last [] o v w all = (w, subst (λ x. Leaves o x w) (sym all.1) all.2, refl)
all_leave_last (p ∷ os) o v w all = let inner = all_leave_last os o v all.0 all.1 in (inner.0, inner.1, (all.0, inner.2, all.2))

-- what is left of another item
pub item_open : (vs : List Value) (a : ItemGroup) (gs : List ItemGroup) → names_itself (locations_in a.locations.items) ≡ false
    → items_with (vs ++ without_locations (locations_in a.locations.items) (view a.item) ∷ []) gs ≡ items_with vs (a ∷ gs)
item_open vs a gs e =
    let v = without_locations (locations_in a.locations.items) (view a.item) in
    rw e (ap (λ ws. array (items_of ws)) (append_assoc vs (v ∷ []) (groups_left (groups_in gs))))

-- an item that has no locations in it
pub item_kept : (vs : List Value) (a : ItemGroup) (gs : List ItemGroup) → a.locations.items ≡ [] → items_with (vs ++ view a.item ∷ []) gs ≡ items_with vs (a ∷ gs)
item_kept vs a gs e =
    let none : names_itself (locations_in a.locations.items) ≡ false = ap (λ ps. names_itself (locations_in ps)) e in
    let same : without_locations (locations_in a.locations.items) (view a.item) ≡ view a.item = ap (λ ps. without_locations (locations_in ps) (view a.item)) e ∙ without_nothing (view a.item) in
    ap (λ v. items_with (vs ++ v ∷ []) gs) (sym same) ∙ item_open vs a gs none
