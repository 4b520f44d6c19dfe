use Rattle.std.proofs.Common.{◌∙◌, arith, sym, ap}
use Rattle.jv_cut.specs.Bytes.{begins_with_mark}
use Rattle.jv_cut.specs.private.Marks.{may_become_mark}
use Rattle.jv_cut.specs.Rest.{without}
use Rattle.jv_cut.proofs.Cuts.{past_place, past_mark, past_unmarked, past_ended, none_of_mark}
use Rattle.jv_cut.proofs.splitting.Splitter.pass_mark.Goals as goal

pub returns-then-place-gt0-clause-after : goal.returns-then-place-gt0-clause-after
returns-then-place-gt0-clause-after c = past_place c.args.self.now (omega arith)

pub returns-then-begins_with_mark-clause-passed : goal.returns-then-begins_with_mark-clause-passed
returns-then-begins_with_mark-clause-passed c =
    rw c.take.ensures (past_mark c.args.self.now (omega arith) (ap begins_with_mark (sym c.unread.ensures) ∙ sym c.begins_with_mark.ensures ∙ c.if-begins_with_mark.true))

pub returns-then-begins_with_mark-clause-after : goal.returns-then-begins_with_mark-clause-after
returns-then-begins_with_mark-clause-after c = rw c.take.ensures (past_place (without c.args.self.now 3) (omega arith))

pub returns-then-is_ended-clause-after : goal.returns-then-is_ended-clause-after
returns-then-is_ended-clause-after c =
    past_ended c.args.self.now (ap begins_with_mark (sym c.unread.ensures) ∙ sym c.begins_with_mark.ensures ∙ c.if-begins_with_mark.false) (sym c.is_ended.ensures ∙ c.if-is_ended.true)

pub returns-then-may_become_mark-clause-none : goal.returns-then-may_become_mark-clause-none
returns-then-may_become_mark-clause-none c =
    none_of_mark c.args.self.now (omega arith) (sym c.is_ended.ensures ∙ c.if-is_ended.false) (ap may_become_mark (sym c.unread-2.ensures) ∙ sym c.may_become_mark.ensures ∙ c.if-may_become_mark.true)

pub returns-clause-after : goal.returns-clause-after
returns-clause-after c =
    past_unmarked c.args.self.now (ap begins_with_mark (sym c.unread.ensures) ∙ sym c.begins_with_mark.ensures ∙ c.if-begins_with_mark.false)
    (ap may_become_mark (sym c.unread-2.ensures) ∙ sym c.may_become_mark.ensures ∙ c.if-may_become_mark.false)
