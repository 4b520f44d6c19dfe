use Rattle.std.proofs.Common.{◌∙◌, ap, sym, subst, rules}
use Rattle.jv_data.specs.Fails.{AnswersAs}
use Rattle.jv_data.specs.View.{view}
use Rattle.jv_value.specs.Results.{and_then}
use Rattle.jv_value.specs.private.Frames.{put_into, put_into_all}
use Rattle.jv_value.proofs.Frames.{put_into_last}
use Rattle.jv_value.proofs.setting.put_all_back.Goals as goal

pub returns-in_err-part : goal.returns-in_err-part
returns-in_err-part c =
    let rest = c.pop.new.self.items in
    let frame = c.in-Some.frame in
    let p = view c.loop-frame.part in
    let same = ap (λ fs. put_into_all fs p) c.in-Some.ensures.items ∙ put_into_last rest frame p in
    let further : AnswersAs c.from_residual.result (and_then (put_into frame p) (put_into_all rest)) = search rules in
    subst (AnswersAs c.from_residual.result) (sym same ∙ c.loop-frame.invariant) further

pub loop-frame-preserved : goal.loop-frame-preserved
loop-frame-preserved c =
    let rest = c.pop.new.self.items in
    let frame = c.in-Some.frame in
    let p = view c.loop-frame.part in
    sym (ap (λ fs. put_into_all fs p) c.in-Some.ensures.items ∙ put_into_last rest frame p ∙ ap (λ r. and_then r (put_into_all rest)) c.in_ok-part.ensures) ∙ c.loop-frame.invariant
