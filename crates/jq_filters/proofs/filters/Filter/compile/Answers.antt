use Rattle.std.proofs.Common.{◌∙◌, ap, refl}
use Rattle.std.specs.Str.{chars}
use Rattle.jq_inputs.specs.Plans.{view_of}
use Rattle.jq_meaning.specs.Runs.{plain}
use Rattle.jq_state.specs.Listed.{items_in}
use Rattle.jq_syntax.specs.Chosen.{chosen, variables_of}
use Rattle.jq_filters.specs.Accepted.{mode_in}
use Rattle.jq_filters.specs.Compiled.{IsFilter}
use Rattle.jq_filters.specs.Programs.{bindings_of}
use Rattle.jq_filters.proofs.Accepting.{Fits, Law, filter_of, unhalted}
use Rattle.jq_filters.proofs.filters.Filter.compile.Goals as goal

pub invariant_of-result : goal.invariant_of-result
invariant_of-result c =
    let o = c.args.options in
    let p = c.in_ok-program.program in
    let s = c.settings_of-settings.result in
    let tree = c.into_parts-tree.result.0.value in
    let bs = items_in c.in_ok-bindings.bindings in
    let plan = c.plan-plan.result in
    let halts = c.halts-halts.result in
    let fits : Fits o p s o.depth tree bs = record {
      mode = c.settings_of-settings.ensures.mode ∙ ap (mode_in (chosen o)) c.reads.ensures;
      style = c.settings_of-settings.ensures.style;
      exit = c.settings_of-settings.ensures.exit;
      tree = ap (λ t. t.value) c.into_parts-tree.ensures.tree;
      bindings = c.in_ok-bindings.ensures ∙ ap (λ fs. bindings_of (variables_of o.vars.items) fs.items) c.into_parts-tree.ensures.functions;
      depth = refl;
    } in
    let law : Law o p o.depth tree bs = λ inputs v. c.bindings_stand_for_the_prelude.ensures o.depth (variables_of o.vars.items) p.functions.items tree bs inputs (plain v) fits.bindings in
    let is : IsFilter (chosen o) (chars c.args.text.now) s o.depth tree bs (view_of plan) halts =
    filter_of (chars c.args.text.now) o p s o.depth tree bs plan halts fits law c.in_ok-program.ensures.program c.halts-halts.ensures c.plan-plan.ensures in
    record {
      accepted = ∣ (chosen o, (chars c.args.text.now, is)) ∣₁;
      unhalting = unhalted (chars c.args.text.now) o p s o.depth tree bs halts fits c.filters_without_a_call_of_halt_never_halt.ensures.in_its_bindings c.in_ok-program.ensures.program c.halts-halts.ensures;
    }

pub returns-clause-accepted : goal.returns-clause-accepted
returns-clause-accepted c =
    let o = c.args.options in
    let p = c.in_ok-program.program in
    let s = c.settings_of-settings.result in
    let tree = c.into_parts-tree.result.0.value in
    let bs = items_in c.in_ok-bindings.bindings in
    let plan = c.plan-plan.result in
    let halts = c.halts-halts.result in
    let fits : Fits o p s o.depth tree bs = record {
      mode = c.settings_of-settings.ensures.mode ∙ ap (mode_in (chosen o)) c.reads.ensures;
      style = c.settings_of-settings.ensures.style;
      exit = c.settings_of-settings.ensures.exit;
      tree = ap (λ t. t.value) c.into_parts-tree.ensures.tree;
      bindings = c.in_ok-bindings.ensures ∙ ap (λ fs. bindings_of (variables_of o.vars.items) fs.items) c.into_parts-tree.ensures.functions;
      depth = refl;
    } in
    let law : Law o p o.depth tree bs = λ inputs v. c.bindings_stand_for_the_prelude.ensures o.depth (variables_of o.vars.items) p.functions.items tree bs inputs (plain v) fits.bindings in
    filter_of (chars c.args.text.now) o p s o.depth tree bs plan halts fits law c.in_ok-program.ensures.program c.halts-halts.ensures c.plan-plan.ensures
