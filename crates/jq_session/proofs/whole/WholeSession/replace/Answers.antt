use Rattle.std.proofs.Common.{[], ◌∷◌, ◌+◌, map, refl, arith}
use Rattle.jv_data.specs.View.{view}
use Rattle.jq_pages.specs.Edits.{replace}
use Rattle.jq_session.specs.Sessions.{whole_state}
use Rattle.jq_session.specs.States.{over}
use Rattle.jq_session.proofs.Lists.{joined_slices}
use Rattle.jq_session.proofs.Edited.{after_replace}
use Rattle.jq_session.proofs.Starting.{whole_started}
use Rattle.jq_session.proofs.whole.WholeSession.replace.Goals as goal

pub returns-clause-edited : goal.returns-clause-edited
returns-clause-edited c =
    let old = c.args.self.now.inputs.items in
    let inputs = map view c.in_ok-inputs.inputs.items in
    let joined = joined_slices c.args.k (c.args.k + 1) old c.deref.result.now c.deref-2.result.now (c.args.value ∷ []) inputs c.in_ok-inputs.ensures c.deref.ensures.value c.deref-2.ensures.value in
    after_replace (whole_state c.args.self.now) (whole_state c.follow.new.self) c.args.k c.args.value old inputs refl (omega arith) joined c.in_ok-follow.ensures.edited

pub returns-in_err-follow-clause-started : goal.returns-in_err-follow-clause-started
returns-in_err-follow-clause-started c =
    let old = c.args.self.now.inputs.items in
    let inputs = map view c.in_ok-inputs.inputs.items in
    let joined = joined_slices c.args.k (c.args.k + 1) old c.deref.result.now c.deref-2.result.now (c.args.value ∷ []) inputs c.in_ok-inputs.ensures c.deref.ensures.value c.deref-2.ensures.value in
    let state = whole_state c.args.self.now in
    let led = after_replace state (over state inputs) c.args.k c.args.value old inputs refl (omega arith) joined refl in
    whole_started (replace c.args.k (view c.args.value)) state (over state inputs) _ _ refl led c.in_err-follow.ensures.rises

pub returns-clause-started : goal.returns-clause-started
returns-clause-started c =
    let old = c.args.self.now.inputs.items in
    let inputs = map view c.in_ok-inputs.inputs.items in
    let joined = joined_slices c.args.k (c.args.k + 1) old c.deref.result.now c.deref-2.result.now (c.args.value ∷ []) inputs c.in_ok-inputs.ensures c.deref.ensures.value c.deref-2.ensures.value in
    let state = whole_state c.args.self.now in
    let led = after_replace state (over state inputs) c.args.k c.args.value old inputs refl (omega arith) joined refl in
    whole_started (replace c.args.k (view c.args.value)) state (over state inputs) _ _ refl led c.in_ok-follow.ensures.rises

pub returns-clause-follow : goal.returns-clause-follow
returns-clause-follow c = c.in_ok-follow.ensures.follow (replace c.args.k (view c.args.value))
