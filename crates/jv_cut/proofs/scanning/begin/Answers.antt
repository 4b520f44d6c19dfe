use Rattle.std.proofs.Common.{◌∙◌, ap, subst, sym, get_or}
use Rattle.jv_cut.specs.private.Scan.{Leads}
use Rattle.jv_cut.specs.Text.{is_level, nested}
use Rattle.jv_cut.proofs.Bytes.{nested_first, bare_first, nowhere, entered}
use Rattle.jv_cut.proofs.scanning.begin.Goals as goal

pub nested-requires-clause-leads : goal.nested-requires-clause-leads
nested-requires-clause-leads c =
    let bytes = c.args.bytes.now in
    subst (λ n. Leads bytes 1 (λ later more. nested 1 n more)) (sym c.begun.ensures) (nested_first bytes c.requires (sym c.enters.ensures ∙ c.if-enters.true))

pub bare-requires : goal.bare-requires
bare-requires c = bare_first c.args.bytes.now c.requires (sym c.enters.ensures ∙ c.if-enters.false) (sym c.is_bare.ensures ∙ c.if-is_bare.true)

pub returns-else-is_bare : goal.returns-else-is_bare
returns-else-is_bare c = nowhere c.args.bytes.now c.args.ended c.requires (sym c.enters.ensures ∙ c.if-enters.false) (sym c.is_bare.ensures ∙ c.if-is_bare.false)

pub nested-requires-clause-unclosed : goal.nested-requires-clause-unclosed
nested-requires-clause-unclosed c = ap is_level c.begun.ensures ∙ (entered (get_or c.args.bytes.now 0 0) (sym c.enters.ensures ∙ c.if-enters.true)).0
