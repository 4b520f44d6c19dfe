use Rattle.std.proofs.Common.{◌∙◌, arith, subst, sym, length}
use Rattle.jv_cut.specs.private.Scan.{Finds}
use Rattle.jv_cut.specs.declared.scanning.Scan.TheVariants.{Bare}
use Rattle.jv_cut.specs.declared.scanning.Found.TheVariants.{Text, More}
use Rattle.jv_cut.proofs.Bytes.{bare_more, bare_text, bare_too_long, bare_at_end, bare_open}
use Rattle.jv_cut.proofs.scanning.bare.Goals as goal

pub returns-then-not-is_bare : goal.returns-then-not-is_bare
returns-then-not-is_bare c = bare_text c.args.bytes.now c.loop-i.i c.args.ended c.loop-i.invariant (omega arith) (sym c.is_bare.ensures ∙ c.if-not-is_bare.true)

pub returns-then-i-ge-MAX_TEXT : goal.returns-then-i-ge-MAX_TEXT
returns-then-i-ge-MAX_TEXT c = bare_too_long c.args.bytes.now c.loop-i.i c.args.ended c.loop-i.invariant (omega arith) (omega arith) (sym c.is_bare.ensures ∙ c.if-not-is_bare.false)

pub loop-i-preserved : goal.loop-i-preserved
loop-i-preserved c = bare_more c.args.bytes.now c.loop-i.i c.loop-i.invariant (omega arith) (omega arith) (sym c.is_bare.ensures ∙ c.if-not-is_bare.false)

pub returns-then-ended : goal.returns-then-ended
returns-then-ended c =
    let bytes = c.args.bytes.now in
    subst (λ b. Finds (Text (length bytes)) bytes b) (sym c.if-ended.true) (bare_at_end bytes c.loop-i.i c.loop-i.invariant (omega arith))

pub returns-else-ended : goal.returns-else-ended
returns-else-ended c =
    let bytes = c.args.bytes.now in
    subst (λ b. Finds (More (Bare (length bytes))) bytes b) (sym c.if-ended.false) (bare_open bytes c.loop-i.i c.loop-i.invariant (omega arith))
