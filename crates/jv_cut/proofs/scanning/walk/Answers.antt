use Rattle.std.proofs.Common.{◌∙◌, ◌+◌, ◌<◌, arith, subst, sym, ap}
use Rattle.jv_cut.specs.Text.{max_nesting, is_level}
use Rattle.jv_cut.proofs.Bytes.{nested_text, nested_too_deep}
use Rattle.jv_cut.proofs.Walks.{passed_first, passed_more}
use Rattle.jv_cut.proofs.scanning.walk.Goals as goal

pub marks-init : goal.marks-init
marks-init c =
    let given = c.requires in
    let next = c.next_place-place in
    record {
      unclosed = given.unclosed;
      shallow = given.shallow;
      within = next.ensures.within;
      leads = passed_first c.args.bytes.now c.marks-marks.result c.args.at next.result c.args.nest given.room given.short next.ensures.within c.marks-marks.ensures next.ensures.passed given.unclosed given.shallow given.leads;
    }

pub returns-then-is_level : goal.returns-then-is_level
returns-then-is_level c =
    let so_far = c.marks.invariant in
    let seen = c.after_byte-nest.ensures.value in
    λ ended. nested_text c.args.bytes.now (c.args.at + c.marks.place) c.marks.nest ended so_far.leads (omega (arith, c.requires.room)) (omega (arith, c.requires.short)) (sym (ap is_level seen) ∙ sym c.is_level.ensures ∙ c.if-is_level.true)

pub returns-then-nest-gt-MAX_NESTING : goal.returns-then-nest-gt-MAX_NESTING
returns-then-nest-gt-MAX_NESTING c =
    let so_far = c.marks.invariant in
    let seen = c.after_byte-nest.ensures.value in
    λ ended. nested_too_deep c.args.bytes.now (c.args.at + c.marks.place) c.marks.nest ended so_far.leads (omega (arith, c.requires.room)) (omega (arith, c.requires.short)) (sym (ap is_level seen) ∙ sym c.is_level.ensures ∙ c.if-is_level.false)
    (subst (λ n. max_nesting < n.depth) seen (omega arith))

pub marks-preserved : goal.marks-preserved
marks-preserved c =
    let given = c.requires in
    let so_far = c.marks.invariant in
    let nest = c.after_byte-nest.result in
    let next = c.next_place-place-in-marks in
    let unclosed = sym c.is_level.ensures ∙ c.if-is_level.false in
    record {
      unclosed = unclosed;
      shallow = omega arith;
      within = next.ensures.within;
      leads = passed_more c.args.bytes.now c.marks-marks.result c.args.at c.marks.place next.result c.marks.nest nest given.room given.short (omega arith) next.ensures.from next.ensures.within c.marks-marks.ensures
          c.after_byte-nest.ensures.value next.ensures.passed unclosed (omega arith) so_far.leads;
    }
