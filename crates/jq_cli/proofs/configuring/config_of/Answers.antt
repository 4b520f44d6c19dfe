use Rattle.std.proofs.Common.{◌∙◌, sym, subst, inr, map, string_bytes}
use Rattle.clap.specs.Words.{app_of}
use Rattle.jq_syntax.specs.Chosen.{variables_of}
use Rattle.jq_cli.specs.Configuration.{shown}
use Rattle.jq_cli.specs.Pieces.{IsTaken}
use Rattle.jq_cli.proofs.Asking.{asks, refuses}
use Rattle.jq_cli.proofs.configuring.config_of.Goals as goal

pub returns-in-Err : goal.returns-in-Err
returns-in-Err c =
    let words = map string_bytes c.args.words.items in
    let vars = variables_of c.in_ok-left.vars.items in
    let taken : IsTaken words (map string_bytes c.as_slice.result.now) vars = subst (λ xs. IsTaken words (map string_bytes xs) vars) (sym c.as_slice.ensures.value) c.in_ok-left.ensures in
    refuses words (map string_bytes c.as_slice.result.now) vars c.in-Err.error c.line_fault.result (app_of c.in_ok-command.field-0) c.in_ok-command.ensures taken c.in-Err.ensures.kinds
    c.line_fault.ensures

pub returns-then-options_clash : goal.returns-then-options_clash
returns-then-options_clash c =
    let words = map string_bytes c.args.words.items in
    let vars = variables_of c.in_ok-left.vars.items in
    let taken : IsTaken words (map string_bytes c.as_slice.result.now) vars = subst (λ xs. IsTaken words (map string_bytes xs) vars) (sym c.as_slice.ensures.value) c.in_ok-left.ensures in
    inr (
      shown c.in_ok-config-in-Ok.config,
      asks words (map string_bytes c.as_slice.result.now) vars c.in-Ok.matches (shown c.in_ok-config-in-Ok.config) (app_of c.in_ok-command.field-0) c.in_ok-command.ensures taken
          c.in-Ok.ensures.matches c.in-Ok.ensures.kinds c.in_ok-config-in-Ok.ensures,
      sym c.options_clash.ensures ∙ c.if-options_clash.true,
    )

pub returns : goal.returns
returns c =
    let words = map string_bytes c.args.words.items in
    let vars = variables_of c.in_ok-left.vars.items in
    let taken : IsTaken words (map string_bytes c.as_slice.result.now) vars = subst (λ xs. IsTaken words (map string_bytes xs) vars) (sym c.as_slice.ensures.value) c.in_ok-left.ensures in (
      asks words (map string_bytes c.as_slice.result.now) vars c.in-Ok.matches (shown c.in_ok-config-in-Ok.config) (app_of c.in_ok-command.field-0) c.in_ok-command.ensures taken
          c.in-Ok.ensures.matches c.in-Ok.ensures.kinds c.in_ok-config-in-Ok.ensures,
      sym c.options_clash.ensures ∙ c.if-options_clash.false,
    )
