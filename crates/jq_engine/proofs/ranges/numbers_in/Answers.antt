use Rattle.std.proofs.Common.{◌∙◌, ℤ, sym, subst, rules, w64, SFits}
use Rattle.std.proofs.lemmas.Int.{to_z-of_z}
use Rattle.jv_data.specs.Value.{number}
use Rattle.jv_data.specs.View.{view}
use Rattle.jq_ast.specs.Named.{named}
use Rattle.jq_state.proofs.shared.Items.{absent}
use Rattle.jq_engine.specs.private.Simple.{GivesOne}
use Rattle.jq_engine.proofs.ranges.numbers_in.Goals as goal

pub returns-in-Some-3 : goal.returns-in-Some-3
returns-in-Some-3 c =
    let x = c.args.input.now in
    let ns = c.args.nodes.now in
    let start = named c.in-Some.start.now in
    let last = named c.in-Some.end.now in
    let first_fits : SFits w64 c.in-Some-2.first = search rules in
    let last_fits : SFits w64 c.in-Some-3.last = search rules in
    record {
      start = start;
      last = last;
      value = view x.value;
      is_plain = absent x (sym c.is_present.ensures ∙ c.if-is_present.false);
      runs = c.in-Some.ensures;
      from = subst (λ (n : ℤ). GivesOne ns start c.args.scope (view x.value) (number n)) (sym (to_z-of_z w64 c.in-Some-2.first first_fits)) (rw c.in-Some-2.is at c.in_ok-first.ensures);
      to = subst (λ (n : ℤ). GivesOne ns last c.args.scope (view x.value) (number n)) (sym (to_z-of_z w64 c.in-Some-3.last last_fits)) (rw c.in-Some-3.is at c.in_ok-last.ensures);
    }
