use Rattle.std.proofs.Common.{◌≡◌, ◌∙◌, ◌-◌, ◌<◌, [], IfOk, Ok, rules, suc, add-one, ◌∷◌, ◌++◌, map, refl, sym, ap, subst, arith}
use Rattle.std.proofs.lemmas.List.{drop_all, map-append}
use Rattle.std.proofs.lemmas.Result.{IfOk-weaker}
use Rattle.jv_data.specs.View.{view}
use Rattle.jq_natives.specs.PathNatives.{getpath_native_of}
use Rattle.jq_state.proofs.shared.Items.{absent, value_of_item}
use Rattle.jq_engine.specs.private.Updates.{TurnsTo, env_in, run_in}
use Rattle.jq_engine.proofs.UpdateTurns.{at_once, update_turns}
use Rattle.std.proofs.Math.Logic.{∥∥₁_elim, ∥∥₁_map}
use Rattle.jq_ast.specs.Named.{named}
use Rattle.jq_meaning.specs.Runs.{ended, located, one, plain}
use Rattle.jq_meaning.specs.machine.State.{state}
use Rattle.jq_meaning.proofs.shared.machine.Correct.{left}
use Rattle.jq_meaning.proofs.shared.machine.Kept.{left-falls}
use Rattle.jq_state.specs.Environments.{count_of}
use Rattle.jq_engine.proofs.Paths.{all_found, begins, none_yet, one_more}
use Rattle.jq_state.specs.Inputs.{inputs_of}
use Rattle.jq_state.specs.Items.{item_of}
use Rattle.jq_state.specs.Nexts.{stands}
use Rattle.jq_transitions.specs.Outcomes.{ending_of}
use Rattle.jq_state.specs.declared.next.Next.TheVariants as next
use Rattle.jq_engine.specs.private.Leading.{AtOnce, at_filter, unchanged}
use Rattle.jq_engine.proofs.AtOnce.{stepped}
use Rattle.jq_engine.proofs.Ready.{NextFits-prop}
use Rattle.jq_engine.proofs.+running.Goals as goal

pub running::run-transitions-init : goal.running::run-transitions-init
running::run-transitions-init t c = record {
  fits = ∥∥₁_elim c.requires (NextFits-prop (count_of c.args.state.now.nodes) c.args.next) (λ h. h.0);
  fit = ∥∥₁_map c.requires (λ h. h.1);
  rest = λ rest p. p;
}

pub running::run-transitions-smaller : goal.running::run-transitions-smaller
running::run-transitions-smaller t c =
    let d = stepped c.a_filter_may_run_at_once.ensures c.in_ok-first.ensures.run (rw c.in-Moves.is at c.in_ok-later.ensures) c.transitions.invariant.fit in
    let u = stands (inputs_of c.args.inputs.now) c.step.new.state c.in-Moves.later in
    let falls : left u < left d.from = left-falls d.from u d.fit d.steps.1 in omega (arith, d.less, falls)

pub running::run-transitions-preserved : goal.running::run-transitions-preserved
running::run-transitions-preserved t c =
    let d = stepped c.a_filter_may_run_at_once.ensures c.in_ok-first.ensures.run (rw c.in-Moves.is at c.in_ok-later.ensures) c.transitions.invariant.fit in
    let u = stands (inputs_of c.args.inputs.now) c.step.new.state c.in-Moves.later in
    record {
      fits = d.steps.0;
      fit = ∣ c.heights_stay_in_range.ensures.moves d.from u d.fit d.steps.1 ∣₁;
      rest = λ rest p. c.a_transition_keeps_the_run.ensures.moves d.from u rest (d.run rest (c.transitions.invariant.rest rest p)) d.steps.1;
    }

pub running::run-returns-in-Outputs : goal.running::run-returns-in-Outputs
running::run-returns-in-Outputs t c =
    let d = stepped c.a_filter_may_run_at_once.ensures c.in_ok-first.ensures.run (rw c.in-Outputs.is at c.in_ok-later.ensures) c.transitions.invariant.fit in
    let u = stands (inputs_of c.args.inputs.now) c.step.new.state next.GoBack in
    let x = item_of c.in-Outputs.item in
    record {
      rest = λ rest p. let left = c.a_transition_keeps_the_run.ensures.outputs d.from u x rest (d.run rest (c.transitions.invariant.rest rest p)) d.steps in (left.0, left.2, left.1);
      ready = ∣ (tt, c.heights_stay_in_range.ensures.outputs d.from u x d.fit d.steps) ∣₁;
    }

pub running::run-returns-in-Finishes-clause-rest : goal.running::run-returns-in-Finishes-clause-rest
running::run-returns-in-Finishes-clause-rest t c rest p =
    let d = stepped c.a_filter_may_run_at_once.ensures c.in_ok-first.ensures.run (rw c.in-Finishes.is at c.in_ok-later.ensures) c.transitions.invariant.fit in
    c.a_transition_keeps_the_run.ensures.finishes d.from _ rest (d.run rest (c.transitions.invariant.rest rest p)) d.steps

-- ---- what is done next after an update

pub running::updated-returns-then-not-is_update-clause-run : goal.running::updated-returns-then-not-is_update-clause-run
running::updated-returns-then-not-is_update-clause-run t c = rw c.in-Evaluate.is unchanged

pub running::updated-returns-else-is_present-clause-run : goal.running::updated-returns-else-is_present-clause-run
running::updated-returns-else-is_present-clause-run t c =
    let inputs = inputs_of c.args.inputs.now in
    let s = c.args.state.now in
    let u = named c.in-Evaluate.tree.now in
    let p = c.in-Evaluate.scope in
    let x = c.in-Evaluate.input in
    let bare = absent x (sym c.is_present.ensures ∙ c.if-is_present.false) in
    rw c.in-Evaluate.is (subst (λ y. IfOk c.update.result (λ n. AtOnce (at_filter inputs s u p y) (stands inputs s n))) (sym bare) (IfOk-weaker c.update.result _ _ (at_once inputs s u p (view x.value)) c.update.ensures.run))

pub running::updated-returns-in_default : goal.running::updated-returns-in_default
running::updated-returns-in_default t c = record { fits = c.requires; run = unchanged }

-- ---- runs apart

pub apart::Around::first_output-run-requires : goal.apart::Around::first_output-run-requires
apart::Around::first_output-run-requires t c =
    let start = c.in_ok-apart.ensures (named c.args.tree.now) c.args.scope (item_of c.plain.result) _ c.requires.env refl in
    (omega (arith, c.decreases, c.requires.nesting), ∣ (start.there, start.fit) ∣₁)

pub apart::Around::first_output-returns : goal.apart::Around::first_output-returns
apart::Around::first_output-returns t c =
    let v = view c.args.value in
    let u = named c.args.tree.now in
    let start = c.in_ok-apart.ensures u c.args.scope (item_of c.plain.result) (plain v) c.requires.env c.plain.ensures in
    let r = run_in c.args.self.now u c.args.scope v in
    IfOk-weaker c.run.result _ _ (λ o h. begins (inputs_of c.args.self.now.inputs.now) r c.run.new.state o (h r start.produces)) c.run.ensures.rest

pub apart::Around::paths_apart-paths-init : goal.apart::Around::paths_apart-paths-init
apart::Around::paths_apart-paths-init t c =
    let start = c.in_ok-apart.ensures (named c.args.tree.now) c.args.scope (item_of c.start.result) (located (view c.args.value.now) []) c.requires.env (c.start.ensures ∙ ap (λ v. located v []) c.in_ok-copy.ensures) in
    record { ready = ∣ (start.there, start.fit) ∣₁; left = none_yet start.produces (ap (map view) c.new-paths.ensures.items) }

pub apart::Around::paths_apart-run-requires : goal.apart::Around::paths_apart-run-requires
apart::Around::paths_apart-run-requires t c =
    (omega (arith, c.decreases, c.requires.nesting), c.paths.invariant.ready)

pub apart::Around::paths_apart-paths-preserved : goal.apart::Around::paths_apart-paths-preserved
apart::Around::paths_apart-paths-preserved t c =
    let ps = c.paths.paths.items in
    let p = c.in_ok-into_path-in-Output.field-0 in
    let more = ap (map view) c.in_ok-push-in-Output.ensures.items ∙ map-append view ps (p ∷ []) ∙ ap (λ w. map view ps ++ w ∷ []) c.in_ok-into_path-in-Output.ensures in
    record {
      ready = rw c.in-Output.is at c.in_ok-item.ensures.ready;
      left = one_more c.paths.invariant.left c.run.new.state c.in-Output.item (map view c.push.new.self.items) (rw c.in-Output.is at c.in_ok-item.ensures.rest) more;
    }

pub apart::Around::paths_apart-returns-in-End : goal.apart::Around::paths_apart-returns-in-End
apart::Around::paths_apart-returns-in-End t c = all_found c.paths.invariant.left c.run.new.state c.in-End.ending (rw c.in-End.is at c.in_ok-item.ensures.rest)

-- ---- updates

pub apart::Around::update_in_turns-returns : goal.apart::Around::update_in_turns-returns
apart::Around::update_in_turns-returns t c =
    let a = c.args.self.now in
    let u = named c.args.tree.now in
    let p = c.args.scope in
    let v = view c.args.value in
    let found = c.in-Some-2.found in
    let d = p.depth - 2 in
    let deep : p.depth ≡ suc (suc d) = omega arith in
    let has = rw c.nodes-else-count-gt-MOST.ensures at (c.has_modify.ensures (search rules) (inputs_of a.inputs.now)) in
    let same = update_turns c.an_update_is_its_turns.ensures u (named c.in-Some.paths.now) (named c.in-Some.part.now) (env_in a p) p.depth d p.level v (map view found.paths.items) (ending_of found.ending) has c.in-Some.ensures deep (rw c.in-Some-2.is at c.in_ok-found.ensures) in
    record {
      fits = c.next_after.ensures.fits (count_of a.state.now.nodes);
      run = c.next_after.ensures.run u p v (run_in a u p v) (subst (TurnsTo c.in_ok-ended.ended (one (plain (view c.take_turns.new.value)))) (sym same) c.in_ok-ended.ensures);
    }

pub apart::Around::take_turns-returns : goal.apart::Around::take_turns-returns
apart::Around::take_turns-returns t c =
    let none_left = drop_all c.loop-path.path-index c.as_slice-path-items.result.now c.loop-path-test.false in
    rw (← c.in_ok-listed.ensures, ← c.as_slice-path-items.ensures.value, ← c.loop-path.invariant (ending_of c.args.found.ending), none_left) c.finish.ensures

pub apart::Around::take_turn-returns-in-Output : goal.apart::Around::take_turn-returns-in-Output
apart::Around::take_turn-returns-in-Output t c =
    let v = view c.args.value.now in
    let first = rw (c.in-Output.is, add-one) at c.in_ok-item.ensures in
    let got : getpath_native_of v (view c.args.path.now) ≡ Ok (view c.in-Ok.old) = ap (getpath_native_of v) (sym c.in_ok-copy.ensures) ∙ c.in-Ok.ensures in
    IfOk-weaker c.put.result _ _ (λ o h go. rw (got, first.1, value_of_item c.in-Output.item) (h (λ y. go y (view c.args.listed.now)))) c.put.ensures
