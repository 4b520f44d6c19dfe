use Rattle.std.proofs.Common.{◌≡◌, ◌∙◌, ap, ap₂, codes, false, true}
use Rattle.std.proofs.lemmas.Result.{IfOk-weaker}
use Rattle.clap.specs.Built.{AddsArg}
use Rattle.clap.specs.Simple.{app_of_fields}
use Rattle.clap.specs.Words.{App, Rule, app_of, new_app, rule_of, with_rule}
use Rattle.clap.specs.declared.builder.Arg.{Arg}
use Rattle.clap.specs.declared.builder.command.Command.{Command}
use Rattle.jq_cli.specs.Command.{app, depth, file, filter, flag, long_flag}
use Rattle.jq_cli.proofs.command.command.Goals as goal

-- one more argument
more : (old new : Command) (a : Arg) (before : App) (r : Rule) → app_of old ≡ before → rule_of a ≡ r → a.global ≡ false → AddsArg old a new → app_of new ≡ with_rule before r
more old new a before r is rule own adds = adds.shape own ∙ ap₂ with_rule is rule

abbrev unnamed : App → App
unnamed a = record a { top = record a.top { no_binary_name = true } }

abbrev versioned : App → App
versioned a = record a { top = record a.top { has_version = true } }

abbrev empty : App
empty = versioned (unnamed (new_app (codes "jql")))

pub returns : goal.returns
unfolding app
returns c =
    let start : app_of c.version.result ≡ empty = ap app_of_fields c.version.ensures ∙ ap versioned (ap app_of_fields c.no_binary_name.ensures ∙ ap unnamed c.new.ensures.app) in
    let at-1 = more _ c.in_ok-arg.field-0 c.flag.result _ (flag 99 (codes "compact-output")) start c.flag.ensures.rule c.flag.ensures.own c.in_ok-arg.ensures in
    let at-2 = more _ c.in_ok-arg-2.field-0 c.flag-2.result _ (flag 114 (codes "raw-output")) at-1 c.flag-2.ensures.rule c.flag-2.ensures.own c.in_ok-arg-2.ensures in
    let at-3 = more _ c.in_ok-arg-3.field-0 c.flag-3.result _ (flag 106 (codes "join-output")) at-2 c.flag-3.ensures.rule c.flag-3.ensures.own c.in_ok-arg-3.ensures in
    let at-4 = more _ c.in_ok-arg-4.field-0 c.flag-4.result _ (flag 110 (codes "null-input")) at-3 c.flag-4.ensures.rule c.flag-4.ensures.own c.in_ok-arg-4.ensures in
    let at-5 = more _ c.in_ok-arg-5.field-0 c.flag-5.result _ (flag 115 (codes "slurp")) at-4 c.flag-5.ensures.rule c.flag-5.ensures.own c.in_ok-arg-5.ensures in
    let at-6 = more _ c.in_ok-arg-6.field-0 c.flag-6.result _ (flag 101 (codes "exit-status")) at-5 c.flag-6.ensures.rule c.flag-6.ensures.own c.in_ok-arg-6.ensures in
    let at-7 = more _ c.in_ok-arg-7.field-0 c.flag-7.result _ (flag 83 (codes "sort-keys")) at-6 c.flag-7.ensures.rule c.flag-7.ensures.own c.in_ok-arg-7.ensures in
    let at-8 = more _ c.in_ok-arg-8.field-0 c.flag-8.result _ (flag 77 (codes "monochrome-output")) at-7 c.flag-8.ensures.rule c.flag-8.ensures.own c.in_ok-arg-8.ensures in
    let at-9 = more _ c.in_ok-arg-9.field-0 c.long_flag.result _ (long_flag (codes "live")) at-8 c.long_flag.ensures.rule c.long_flag.ensures.own c.in_ok-arg-9.ensures in
    let at-10 = more _ c.in_ok-arg-10.field-0 c.long_flag-2.result _ (long_flag (codes "follow")) at-9 c.long_flag-2.ensures.rule c.long_flag-2.ensures.own c.in_ok-arg-10.ensures in
    let at-11 = more _ c.in_ok-arg-11.field-0 c.long_flag-3.result _ (long_flag (codes "explain")) at-10 c.long_flag-3.ensures.rule c.long_flag-3.ensures.own c.in_ok-arg-11.ensures in
    let at-12 = more _ c.in_ok-arg-12.field-0 c.depth.result _ (depth) at-11 c.depth.ensures.rule c.depth.ensures.own c.in_ok-arg-12.ensures in
    let at-13 = more _ c.in_ok-arg-13.field-0 c.filter.result _ (filter) at-12 c.filter.ensures.rule c.filter.ensures.own c.in_ok-arg-13.ensures in
    IfOk-weaker c.arg-14.result _ _ (λ r adds. more _ r c.file.result _ file at-13 c.file.ensures.rule c.file.ensures.own adds) c.arg-14.ensures
