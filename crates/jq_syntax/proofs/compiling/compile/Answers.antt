use Rattle.std.proofs.Common.{◌≡◌, ◌∙◌, refl, rules}
use Rattle.std.specs.Str.{chars}
use Rattle.jq_ast.specs.Named.{named}
use Rattle.jq_syntax.specs.Chosen.{setting_of}
use Rattle.jq_syntax.specs.laws.Computed.{prelude}
use Rattle.jq_resolver.specs.Programs.{named_program, variable_names}
use Rattle.jq_tree.specs.Binders.{bound_filter}
use Rattle.jq_tree.specs.Prelude.{followed_by}
use Rattle.jq_syntax.specs.Compiled.{IsRefusal}
use Rattle.jq_syntax.proofs.Compiled.{IsBound, resolved, unreadable, unfit, runs}
use Rattle.jq_syntax.proofs.compiling.compile.Goals as goal

pub returns-in_err-tree-clause-refusal : goal.returns-in_err-tree-clause-refusal
returns-in_err-tree-clause-refusal c =
    let text = chars c.args.text.now in
    let o = c.args.options.now in
    let f = c.in_err-tree.field-0.0 in
    let r : IsRefusal text (setting_of o) f = unreadable (setting_of o) text prelude c.prelude_is_accepted.ensures.accepted f (search rules) in
    search (rules, r)

pub returns-in_err-reads-clause-refusal : goal.returns-in_err-reads-clause-refusal
returns-in_err-reads-clause-refusal c =
    let text = chars c.args.text.now in
    let o = c.args.options.now in
    let t = c.in_ok-tree.tree.value in
    let fs = c.in_ok-functions.functions.items in
    let b = bound_filter (variable_names o.vars.items) (named_program fs t) in
    let f = c.in_err-reads.field-0.0 in
    let h : IsBound text o (named t) b (named_program fs t) = resolved text o fs t t b (search rules) (search rules) refl refl in
    let r : IsRefusal text (setting_of o) f = unfit text o (named t) b h f (search rules) in
    search (rules, r)

pub returns-clause-program : goal.returns-clause-program
returns-clause-program c =
    let text = chars c.args.text.now in
    let o = c.args.options.now in
    let t = c.in_ok-tree.tree.value in
    let fs = c.in_ok-functions.functions.items in
    let p = c.new.result in
    let u = p.tree.value in
    let b = bound_filter (variable_names o.vars.items) (named_program fs t) in
    let h : IsBound text o (named u) b (named_program fs t) = resolved text o fs t u b (search rules) (search rules) (search rules) refl in
    let names : named_program p.functions.items p.tree.value ≡ named_program fs t = search rules in
    let d : named_program p.functions.items p.tree.value ≡ followed_by h.prelude (named u) = names ∙ h.after_prelude in
    record {
      prelude = h.prelude;
      is_prelude = h.is_prelude;
      accepted = runs text o (named u) b h (search rules) (search rules);
      definitions = search (rules, d);
      binders = search (rules, h.binders);
      plan = search rules;
      reads = search rules;
      halts = search rules;
    }
