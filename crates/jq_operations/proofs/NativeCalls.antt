-- Natives that keep no paths, and `getpath`, which does.
use Rattle.std.proofs.Common.{◌≡◌, ◌≢◌, ◌∙◌, List, [], ◌∷◌, Option, Some, None, Ok, Err, refl, sym, ap}
use Rattle.jv_data.specs.Value.{Value}
use Rattle.jq_meaning.specs.Builtins.{plain_native, path_native, at_path}
use Rattle.jq_meaning.specs.Runs.{Item, value_in, answered, one, fail}
use Rattle.jq_meaning.specs.machine.Operations.{native_of}
use Rattle.jq_natives.specs.Natives.{answer_of_native}
use Rattle.jq_natives.specs.declared.native.Native.{Native}
use Rattle.jq_natives.specs.declared.native.Native.TheVariants.{GetPath}
use Rattle.jq_state.specs.Items.{item_at}
use Rattle.jq_operations.specs.private.Paths.{path_with}
use Rattle.jq_state.proofs.shared.Items.{value_at}

pub native_of-other : (f : Native) (x : Item) (vs : List Value) → f ≢ GetPath → native_of f x vs ≡ plain_native f (value_in x) vs
native_of-other GetPath x vs other = absurd (other refl)
native_of-other f x vs other = refl

path_is : (v : Value) (path : Option (List Value)) (vs : List Value) (w : Value) → item_at w (path_with path vs) ≡ at_path (item_at v path) vs w
path_is v None [] w = refl
path_is v (Some ks) [] w = refl
path_is v None (p ∷ vs) w = refl
path_is v (Some ks) (p ∷ vs) w = refl

native_is : (v : Value) (path : Option (List Value)) (vs : List Value) → answered (at_path (item_at v path) vs) (answer_of_native GetPath v vs) ≡ path_native GetPath (item_at v path) vs
native_is v path vs = ap (λ u. answered (at_path (item_at v path) vs) (answer_of_native GetPath u vs)) (sym (value_at v path))

pub path_found : (v : Value) (path : Option (List Value)) (vs : List Value) (w : Value) → answer_of_native GetPath v vs ≡ Ok w → one (item_at w (path_with path vs)) ≡ path_native GetPath (item_at v path) vs
path_found v path vs w e = ap one (path_is v path vs w) ∙ sym (ap (answered (at_path (item_at v path) vs)) e) ∙ native_is v path vs

pub path_refused : (v : Value) (path : Option (List Value)) (vs : List Value) (w : Value) → answer_of_native GetPath v vs ≡ Err w → fail w ≡ path_native GetPath (item_at v path) vs
path_refused v path vs w e = sym (ap (answered (at_path (item_at v path) vs)) e) ∙ native_is v path vs
