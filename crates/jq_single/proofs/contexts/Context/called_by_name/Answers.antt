use Rattle.std.proofs.Common.{◌≡◌, ◌∙◌, length, map, ap, sym, refl, rules, arith}
use Rattle.std.proofs.lemmas.Bool.Decides.{nat_tests}
use Rattle.jv_data.specs.Text.{text_of}
use Rattle.jq_ast.specs.Named.{name_of, named}
use Rattle.jv_data.specs.Value.{Value}
use Rattle.jq_tree.specs.Tree.{call, trees_of}
use Rattle.jq_meaning.specs.Runs.{Run}
use Rattle.jq_meaning.specs.Env.{find_callee, with_arguments}
use Rattle.jq_operations.specs.Callees.{found}
use Rattle.jq_single.specs.private.Scopes.{scope_env}
use Rattle.jq_single.proofs.Calls.{callee_past, finds}
use Rattle.jq_single.proofs.contexts.Context.called_by_name.Goals as goal
use Rattle.jq_single.proofs.contexts.Context.called_by_name.Goals.{then-is_empty+in_default, else-is_empty}

pub returns-then-is_function : goal.returns-then-is_function
returns-then-is_function c =
    let ts = c.args.arguments.now in
    let here : (inputs : Run Value) → found c.in-Function.function.now (scope_env inputs c.scopes.scope.now) ≡ find_callee (name_of c.args.name.now) (length ts) (scope_env inputs c.scopes.scope.now) = λ inputs. search rules in
    c.body_of.ensures c.args.self.now (call (name_of c.args.name.now) (trees_of (map named ts))) (λ inputs level x. finds c.args.self.now inputs level _ ts _ x (here inputs ∙ c.scopes.invariant inputs))

pub scopes-preserved : goal.scopes-preserved
scopes-preserved c = λ inputs.
    let n = name_of c.args.name.now in
    let k = length c.args.arguments.now in
    let own = scope_env inputs c.in-Call.own.now in
    let caller = scope_env inputs c.in-Call.caller.now in
    let bound = with_arguments (map text_of c.in-Call.parameters.now) (trees_of (map named c.in-Call.bound.now)) caller own in
    let past : find_callee n k own ≡ find_callee n k bound =
    elim c.if-is_empty.branch [
      | then-is_empty+in_default w ↦
          let none : k ≡ 0 = let e = sym c.is_empty.ensures ∙ w.if-is_empty.true in grind (arith, nat_tests) in
          ap (λ j. find_callee n j own) none ∙ sym ((rw w.in_default.is at w.argument_of.ensures) caller own own refl) ∙ ap (λ j. find_callee n j bound) (sym none)
      | else-is_empty w ↦ sym (callee_past n k (map text_of c.in-Call.parameters.now) (trees_of (map named c.in-Call.bound.now)) caller own (let e = sym c.is_empty.ensures ∙ w.if-is_empty.false in grind (arith, nat_tests)))
    ] in
    past ∙ ap (λ s. find_callee n k (scope_env inputs s)) (sym c.in-Call.is) ∙ c.scopes.invariant inputs
