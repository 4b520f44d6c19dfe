use Rattle.std.proofs.Common.{◌≡◌, ◌∙◌, map, Result, Ok, Err, IfOk, ap, sym, refl}
use Rattle.jv_data.specs.Text.{text_of}
use Rattle.jv_data.specs.Value.{Value}
use Rattle.jv_data.specs.View.{view}
use Rattle.jv_data.specs.declared.values.Val.{Val}
use Rattle.jq_ast.specs.Named.{name_of, named}
use Rattle.jq_tree.specs.Tree.{trees_of}
use Rattle.jq_meaning.specs.Env.{Env, find_value}
use Rattle.jq_meaning.specs.Runs.{Run}
use Rattle.jq_single.specs.private.Scopes.{scope_env}
use Rattle.jq_single.proofs.Calls.{past}
use Rattle.jq_single.proofs.finding.+value_of.Goals as goal

carried : {E : Type 0} (r : Result Val E) (f g : Run Value → Value) → ((inputs : Run Value) → f inputs ≡ g inputs) → IfOk r (λ v. (inputs : Run Value) → view v ≡ f inputs) → IfOk r (λ v. (inputs : Run Value) → view v ≡ g inputs)
carried (Ok v) f g e h = λ inputs. h inputs ∙ e inputs
carried (Err x) f g e h = tt

pub returns-in-Call : goal.returns-in-Call
returns-in-Call t c =
    let finds : Env → Value = find_value (name_of c.args.name.now) in
    carried c.value_of-in-Call.result (λ inputs. finds (scope_env inputs c.in-Call.own.now)) (λ inputs. finds (scope_env inputs c.args.scope.now))
    (λ inputs. sym (ap finds (ap (scope_env inputs) c.in-Call.is)
    ∙ past finds (λ p t caller e. refl) (map text_of c.in-Call.field-1.now) (trees_of (map named c.in-Call.field-2.now)) (scope_env inputs c.in-Call.field-3.now) (scope_env inputs c.in-Call.own.now)))
    c.value_of-in-Call.ensures
