use Rattle.std.proofs.Common.{◌≡◌, ◌∙◌, ◌+◌, ◌≤◌, ◌<◌, arith, subst, sym, ap, false}
use Rattle.jv_cut.specs.private.Scan.{Leads}
use Rattle.jv_cut.specs.Text.{max_nesting, is_level, nested}
use Rattle.jv_cut.proofs.Bytes.{nested_more, nested_text, nested_too_deep, nested_too_long, nested_open, nested_same}
use Rattle.jv_cut.proofs.scanning.nested_slowly.Goals as goal

pub returns-then-is_level : goal.returns-then-is_level
returns-then-is_level c =
    let seen = c.after_byte-nest.ensures.value in
    nested_text c.args.bytes.now c.loop-i.i c.loop-i.nest c.args.ended c.loop-i.invariant.2 (omega arith) (omega arith) (sym (ap is_level seen) ∙ sym c.is_level.ensures ∙ c.if-is_level.true)

pub returns-then-nest-gt-MAX_NESTING : goal.returns-then-nest-gt-MAX_NESTING
returns-then-nest-gt-MAX_NESTING c =
    let seen = c.after_byte-nest.ensures.value in
    nested_too_deep c.args.bytes.now c.loop-i.i c.loop-i.nest c.args.ended c.loop-i.invariant.2 (omega arith) (omega arith) (sym (ap is_level seen) ∙ sym c.is_level.ensures ∙ c.if-is_level.false)
    (subst (λ n. max_nesting < n.depth) seen (omega arith))

pub loop-i-preserved-then-keeps : goal.loop-i-preserved-then-keeps
loop-i-preserved-then-keeps c =
    let same = c.if-keeps.ensures c.loop-i.nest.depth in
    (c.loop-i.invariant.0, c.loop-i.invariant.1, nested_same c.args.bytes.now c.loop-i.i c.loop-i.nest c.loop-i.invariant.2 (omega arith) (omega arith) c.loop-i.invariant.0 c.loop-i.invariant.1 same)

pub loop-i-preserved : goal.loop-i-preserved
loop-i-preserved c =
    let bytes = c.args.bytes.now in
    let i = c.loop-i.i in
    let seen = c.after_byte-nest.ensures.value in
    let unclosed = sym (ap is_level seen) ∙ sym c.is_level.ensures ∙ c.if-is_level.false in
    let shallow = subst (λ n. n.depth ≤ max_nesting) seen (omega arith) in
    subst (λ n. (is_level n ≡ false) × (n.depth ≤ max_nesting) × Leads bytes (i + 1) (λ later more. nested (i + 1) n more)) (sym seen)
    (unclosed, shallow, nested_more bytes i c.loop-i.nest c.loop-i.invariant.2 (omega arith) (omega arith) unclosed shallow)

pub returns-then-bytes-gt-MAX_TEXT : goal.returns-then-bytes-gt-MAX_TEXT
returns-then-bytes-gt-MAX_TEXT c =
    let read = c.loop-i.invariant.2 in
    nested_too_long c.args.bytes.now c.loop-i.i c.loop-i.nest c.args.ended read (omega (arith, read.short)) (omega (arith, read.short))

pub returns-else-bytes-gt-MAX_TEXT : goal.returns-else-bytes-gt-MAX_TEXT
returns-else-bytes-gt-MAX_TEXT c =
    let read = c.loop-i.invariant.2 in
    nested_open c.args.bytes.now c.loop-i.i c.loop-i.nest c.args.ended c.loop-i.invariant.0 c.loop-i.invariant.1 read (omega (arith, read.within))
