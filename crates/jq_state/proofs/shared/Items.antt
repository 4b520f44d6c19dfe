-- Items with a path, and without a path.
use Rattle.std.proofs.Common.{◌≡◌, ℕ, List, [], ◌∷◌, Option, Some, None, true, false, is_some, refl}
use Rattle.jv_data.specs.Value.{Value}
use Rattle.jv_data.specs.View.{view}
use Rattle.jq_meaning.specs.Runs.{plain, value_in}
use Rattle.jq_meaning.specs.machine.Matching.{checked}
use Rattle.jq_meaning.specs.machine.State.{Frame, ForkPoint, fork, check_update}
use Rattle.jq_state.specs.Items.{keys_of, item_at, item_of}
use Rattle.jq_state.specs.declared.items.Item.{Item}

pub value_at : (v : Value) (keys : Option (List Value)) → value_in (item_at v keys) ≡ v
value_at v None = refl
value_at v (Some ks) = refl

pub value_of_item : (x : Item) → value_in (item_of x) ≡ view x.value
value_of_item x = value_at (view x.value) (keys_of x.path)

absent_at : (v : Value) (keys : Option (List Value)) → is_some keys ≡ false → item_at v keys ≡ plain v
absent_at v None e = refl
absent_at v (Some ks) e = absurd (cc)

pub absent : (x : Item) → is_some (keys_of x.path) ≡ false → item_of x ≡ plain (view x.value)
absent x e = absent_at (view x.value) (keys_of x.path) e

-- whether the update of a fold is checked
pub checked_path : (v : Value) (keys : Option (List Value)) (h : ℕ) (k : List Frame) (fs : List ForkPoint) → is_some keys ≡ true → checked (item_at v keys) h k fs ≡ fork (check_update h) [] k ∷ fs
checked_path v (Some ks) h k fs e = refl
checked_path v None h k fs e = absurd (cc)

pub checked_plain : (v : Value) (keys : Option (List Value)) (h : ℕ) (k : List Frame) (fs : List ForkPoint) → is_some keys ≡ false → checked (item_at v keys) h k fs ≡ fs
checked_plain v (Some ks) h k fs e = absurd (cc)
checked_plain v None h k fs e = refl
