use Rattle.std.proofs.Common.{◌∙◌, ap, arith}
use Rattle.jv_data.proofs.Depths.{depth_of_all-last, depth_under-last}
use Rattle.jv_data.proofs.shared.Depths.{depth_of_all, depth_under}
use Rattle.jv_data.proofs.+discarding.Goals as goal

pub dropping::discard_members-discard-requires : goal.dropping::discard_members-discard-requires
dropping::discard_members-discard-requires t c =
    let split = ap depth_of_all c.in-Some.ensures.items ∙ depth_of_all-last c.pop.new.self.items c.in-Some.value in
    let within = c.loop-value.invariant in
    let measure = rw (← c.in-Some-Few.ensures, c.in-Some-Few.field-0-is) at c.decreases in
    (omega arith, tt)

pub dropping::discard_members-loop-value-preserved : goal.dropping::discard_members-loop-value-preserved
dropping::discard_members-loop-value-preserved t c =
    let split = ap depth_of_all c.in-Some.ensures.items ∙ depth_of_all-last c.pop.new.self.items c.in-Some.value in
    let within = c.loop-value.invariant in
    omega arith

pub dropping::discard_members-discard-requires-in-Some-pop_last : goal.dropping::discard_members-discard-requires-in-Some-pop_last
dropping::discard_members-discard-requires-in-Some-pop_last t c =
    let split = ap depth_under c.in-Some-pop_last.ensures.removal ∙ depth_under-last c.pop_last.new.self.entries (c.in-Some-pop_last.field-0-0, c.in-Some-pop_last.member) in
    let within = c.loop-member.invariant in
    let measure = rw (← c.in-Some-Many.ensures, c.in-Some-Many.field-0-is) at c.decreases in
    (omega arith, tt)

pub dropping::discard_members-loop-member-preserved : goal.dropping::discard_members-loop-member-preserved
dropping::discard_members-loop-member-preserved t c =
    let split = ap depth_under c.in-Some-pop_last.ensures.removal ∙ depth_under-last c.pop_last.new.self.entries (c.in-Some-pop_last.field-0-0, c.in-Some-pop_last.member) in
    let within = c.loop-member.invariant in
    omega arith
