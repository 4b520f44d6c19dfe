use Rattle.std.proofs.Common.{◌≡◌, ◌+◌, List, [], ◌∷◌, map, IsOk, refl, subst, arith, rules}
use Rattle.jv_data.specs.View.{view}
use Rattle.jv_data.specs.declared.values.Val.{Val}
use Rattle.jq_pages.specs.Edits.{Edit}
use Rattle.jq_pages.specs.Folds.{Rises}
use Rattle.jq_starts.specs.Starts.{starts_in}
use Rattle.jq_filters.specs.Present.{run_count}
use Rattle.jq_session.specs.Sessions.{whole_state}
use Rattle.jq_session.specs.Splices.{Follows}
use Rattle.jq_session.specs.States.{after_move, over}
use Rattle.jq_session.proofs.Lists.{joined_slices}
use Rattle.jq_session.proofs.Moving.{IsMoved, accepted, copied_there, follows_whole, moved_whole, started_whole, still_room}
use Rattle.jq_session.proofs.whole.WholeSession.shift.Goals as goal

pub returns-in_err-value-clause-refused : goal.returns-in_err-value-clause-refused
returns-in_err-value-clause-refused c =
    let state = whole_state c.args.self.now in
    let ok : IsOk (after_move c.args.k c.args.l state) = accepted c.args.k c.args.l state c.index.result.now c.args.self.now.inputs.items refl c.index.ensures (omega arith) (omega arith) (omega arith) in
    search rules

pub returns-in_err-others-clause-refused : goal.returns-in_err-others-clause-refused
returns-in_err-others-clause-refused c =
    let state = whole_state c.args.self.now in
    let ok : IsOk (after_move c.args.k c.args.l state) = accepted c.args.k c.args.l state c.index.result.now c.args.self.now.inputs.items refl c.index.ensures (omega arith) (omega arith) (omega arith) in
    search rules

pub returns-in_err-inputs-clause-refused : goal.returns-in_err-inputs-clause-refused
returns-in_err-inputs-clause-refused c =
    let state = whole_state c.args.self.now in
    let ok : IsOk (after_move c.args.k c.args.l state) = accepted c.args.k c.args.l state c.index.result.now c.args.self.now.inputs.items refl c.index.ensures (omega arith) (omega arith) (omega arith) in
    search rules

pub returns-in_err-follow_move-clause-refused : goal.returns-in_err-follow_move-clause-refused
returns-in_err-follow_move-clause-refused c =
    let state = whole_state c.args.self.now in
    let ok : IsOk (after_move c.args.k c.args.l state) = accepted c.args.k c.args.l state c.index.result.now c.args.self.now.inputs.items refl c.index.ensures (omega arith) (omega arith) (omega arith) in
    search rules

pub follow_move-requires : goal.follow_move-requires
follow_move-requires c =
    let v = c.in_ok-value.value in
    let old = c.args.self.now.inputs.items in
    let others = c.in_ok-others.others.items in
    let inputs = c.in_ok-inputs.inputs.items in
    let state = whole_state c.args.self.now in
    let m : IsMoved c.args.k c.args.l state v old others inputs = record {
      same = refl;
      there = copied_there state old c.args.k c.index.result.now v refl c.index.ensures c.in_ok-value.ensures (omega arith);
      below = omega arith;
      placed = omega arith;
      room = omega arith;
      without = joined_slices c.args.k (c.args.k + 1) old c.deref.result.now c.deref-2.result.now [] (map view others) c.in_ok-others.ensures c.deref.ensures.value c.deref-2.ensures.value;
      with_it = joined_slices c.args.l c.args.l others c.deref-3.result.now c.deref-4.result.now (v ∷ []) (map view inputs) c.in_ok-inputs.ensures c.deref-3.ensures.value c.deref-4.ensures.value;
    } in
    still_room c.args.k c.args.l state v old others inputs m

pub returns-in_err-follow_move-clause-started : goal.returns-in_err-follow_move-clause-started
returns-in_err-follow_move-clause-started c =
    let v = c.in_ok-value.value in
    let old = c.args.self.now.inputs.items in
    let others = c.in_ok-others.others.items in
    let inputs = c.in_ok-inputs.inputs.items in
    let state = whole_state c.args.self.now in
    let m : IsMoved c.args.k c.args.l state v old others inputs = record {
      same = refl;
      there = copied_there state old c.args.k c.index.result.now v refl c.index.ensures c.in_ok-value.ensures (omega arith);
      below = omega arith;
      placed = omega arith;
      room = omega arith;
      without = joined_slices c.args.k (c.args.k + 1) old c.deref.result.now c.deref-2.result.now [] (map view others) c.in_ok-others.ensures c.deref.ensures.value c.deref-2.ensures.value;
      with_it = joined_slices c.args.l c.args.l others c.deref-3.result.now c.deref-4.result.now (v ∷ []) (map view inputs) c.in_ok-inputs.ensures c.deref-3.ensures.value c.deref-4.ensures.value;
    } in
    let a = starts_in c.args.self.now.starts in
    let b = starts_in c.follow_move.new.self.starts in
    let rises =
    subst (λ (vs : List Val). Rises a b (run_count state.mode state.job (map view vs) + run_count state.mode state.job (map view inputs))) c.deref-5.ensures.value c.in_err-follow_move.ensures.rises in
    started_whole c.args.k c.args.l state (over state (map view inputs)) v old others inputs a b refl m refl rises

pub returns-clause-moved : goal.returns-clause-moved
returns-clause-moved c =
    let v = c.in_ok-value.value in
    let old = c.args.self.now.inputs.items in
    let others = c.in_ok-others.others.items in
    let inputs = c.in_ok-inputs.inputs.items in
    let state = whole_state c.args.self.now in
    let m : IsMoved c.args.k c.args.l state v old others inputs = record {
      same = refl;
      there = copied_there state old c.args.k c.index.result.now v refl c.index.ensures c.in_ok-value.ensures (omega arith);
      below = omega arith;
      placed = omega arith;
      room = omega arith;
      without = joined_slices c.args.k (c.args.k + 1) old c.deref.result.now c.deref-2.result.now [] (map view others) c.in_ok-others.ensures c.deref.ensures.value c.deref-2.ensures.value;
      with_it = joined_slices c.args.l c.args.l others c.deref-3.result.now c.deref-4.result.now (v ∷ []) (map view inputs) c.in_ok-inputs.ensures c.deref-3.ensures.value c.deref-4.ensures.value;
    } in
    moved_whole c.args.k c.args.l state (whole_state c.follow_move.new.self) v old others inputs m c.in_ok-follow_move.ensures.moved

pub returns-clause-follow : goal.returns-clause-follow
returns-clause-follow c =
    let v = c.in_ok-value.value in
    let old = c.args.self.now.inputs.items in
    let others = c.in_ok-others.others.items in
    let inputs = c.in_ok-inputs.inputs.items in
    let state = whole_state c.args.self.now in
    let m : IsMoved c.args.k c.args.l state v old others inputs = record {
      same = refl;
      there = copied_there state old c.args.k c.index.result.now v refl c.index.ensures c.in_ok-value.ensures (omega arith);
      below = omega arith;
      placed = omega arith;
      room = omega arith;
      without = joined_slices c.args.k (c.args.k + 1) old c.deref.result.now c.deref-2.result.now [] (map view others) c.in_ok-others.ensures c.deref.ensures.value c.deref-2.ensures.value;
      with_it = joined_slices c.args.l c.args.l others c.deref-3.result.now c.deref-4.result.now (v ∷ []) (map view inputs) c.in_ok-inputs.ensures c.deref-3.ensures.value c.deref-4.ensures.value;
    } in
    let next = whole_state c.follow_move.new.self in
    let one = c.in_ok-follow_move.field-0.0 in
    let two = c.in_ok-follow_move.field-0.1 in
    let first = subst (λ (vs : List Val). (edit : Edit) → Follows one edit state (over state (map view vs))) c.deref-5.ensures.value c.in_ok-follow_move.ensures.first in
    let second = subst (λ (vs : List Val). (edit : Edit) → Follows two edit (over state (map view vs)) next) c.deref-5.ensures.value c.in_ok-follow_move.ensures.second in
    follows_whole c.args.k c.args.l state next v old others inputs one two m c.in_ok-follow_move.ensures.moved first second

pub returns-clause-started : goal.returns-clause-started
returns-clause-started c =
    let v = c.in_ok-value.value in
    let old = c.args.self.now.inputs.items in
    let others = c.in_ok-others.others.items in
    let inputs = c.in_ok-inputs.inputs.items in
    let state = whole_state c.args.self.now in
    let m : IsMoved c.args.k c.args.l state v old others inputs = record {
      same = refl;
      there = copied_there state old c.args.k c.index.result.now v refl c.index.ensures c.in_ok-value.ensures (omega arith);
      below = omega arith;
      placed = omega arith;
      room = omega arith;
      without = joined_slices c.args.k (c.args.k + 1) old c.deref.result.now c.deref-2.result.now [] (map view others) c.in_ok-others.ensures c.deref.ensures.value c.deref-2.ensures.value;
      with_it = joined_slices c.args.l c.args.l others c.deref-3.result.now c.deref-4.result.now (v ∷ []) (map view inputs) c.in_ok-inputs.ensures c.deref-3.ensures.value c.deref-4.ensures.value;
    } in
    let a = starts_in c.args.self.now.starts in
    let b = starts_in c.follow_move.new.self.starts in
    let rises =
    subst (λ (vs : List Val). Rises a b (run_count state.mode state.job (map view vs) + run_count state.mode state.job (map view inputs))) c.deref-5.ensures.value c.in_ok-follow_move.ensures.rises in
    started_whole c.args.k c.args.l state (over state (map view inputs)) v old others inputs a b refl m refl rises
