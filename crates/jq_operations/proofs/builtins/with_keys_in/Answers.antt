use Rattle.std.proofs.Common.{◌≡◌, ◌∙◌, ◌++◌, List, ap, sym, subst, map, option_map}
use Rattle.std.specs.Result.{IfOk}
use Rattle.jv_data.specs.Held.{values_in}
use Rattle.jv_data.proofs.shared.Levels.{view-List}
use Rattle.jv_data.specs.Value.{Value}
use Rattle.jv_data.specs.View.{view}
use Rattle.jv_data.proofs.shared.Items.{values_of-items_of}
use Rattle.jq_meaning.specs.Builtins.{values_in_array}
use Rattle.jq_state.specs.Items.{keys_of}
use Rattle.jq_operations.proofs.builtins.with_keys_in.Goals as goal

pub returns-in-List : goal.returns-in-List
returns-in-List c =
    let a = c.in-List.keys in
    let all : values_in_array (view c.args.keys.now) ≡ map view c.as_slice.result.now =
    ap values_in_array (ap view c.in-List.is ∙ view-List a) ∙ values_of-items_of (values_in a) ∙ ap (map view) (sym c.as_slice.ensures) in
    subst (λ (vs : List Value). IfOk c.with_keys.result (λ p. keys_of p ≡ option_map (λ ks. ks ++ vs) (keys_of c.args.path))) (sym all) c.with_keys.ensures
