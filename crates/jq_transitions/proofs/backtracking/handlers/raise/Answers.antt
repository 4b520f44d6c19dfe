use Rattle.std.proofs.Common.{◌≡◌, ◌∙◌, ◌∷◌, ◌+◌, ◌≤◌, ◌<◌, ℕ, suc, length, Bool, if◌then◌else◌, refl, sym, ap, subst, arith}
use Rattle.jv_data.specs.Value.{Value}
use Rattle.jv_data.specs.View.{view}
use Rattle.jq_ast.specs.Named.{named}
use Rattle.jq_meaning.specs.Runs.{Run}
use Rattle.jq_meaning.specs.machine.Stack.{cut}
use Rattle.jq_meaning.specs.machine.State.{moves, operation, refuse}
use Rattle.jq_state.specs.Environments.{count_of}
use Rattle.jq_state.specs.Views.{frames_in, forks_in}
use Rattle.jq_state.specs.declared.states.State.{State}
use Rattle.jq_state.proofs.shared.Transitions.{evaluates}
use Rattle.jq_transitions.proofs.Cutting.{cut_above}
use Rattle.jq_transitions.proofs.Transitions.{goes_back}
use Rattle.jq_transitions.proofs.backtracking.handlers.raise.Goals as goal
use Rattle.jq_transitions.proofs.backtracking.handlers.raise.Goals.{then-refuses+in_ok-push-in-Some-Catch, else-refuses, then-height, else-height}

-- a frame that refuses items was pushed, if it is wanted
record Refuses (b : Bool) (s t : State) : Type 0 where
  nodes : t.nodes ≡ s.nodes
  frames : (inputs : Run Value) → frames_in inputs t ≡ (if b then operation refuse ∷ frames_in inputs s else frames_in inputs s)
  forks : (inputs : Run Value) → forks_in inputs t ≡ forks_in inputs s

pub returns-after-refuses : goal.returns-after-refuses
returns-after-refuses c inputs =
    let start = c.args.state.now in
    let h = c.in-Some-Catch.height in
    let b = c.in-Some-Catch.refuses in
    let refused : Refuses b c.cut_forks.new.self c.if-refuses.state = elim c.if-refuses.branch [
      | then-refuses+in_ok-push-in-Some-Catch w ↦
          rw (w.state-is, w.if-refuses.true) (record { nodes = w.push.ensures.envs; frames = w.in_ok-push-in-Some-Catch.ensures.frames; forks = w.in_ok-push-in-Some-Catch.ensures.forks })
      | else-refuses w ↦ rw (w.state-is, w.if-refuses.false) (record { nodes = refl; frames = λ i. refl; forks = λ i. refl })
    ] in
    let nodes = refused.nodes ∙ c.cut_forks.ensures.envs ∙ c.in-Some-Catch.ensures.nodes in
    let fits : c.in-Some-Catch.scope.env < count_of start.nodes = rw c.in-Some-Catch.field-0-is at c.in-Some-Catch.ensures.fits in
    let found = rw c.in-Some-Catch.field-0-is at c.in-Some-Catch.ensures.frames in (
      subst (λ ns. c.in-Some-Catch.scope.env < count_of ns) (sym nodes) fits,
      found inputs (view c.args.error) (forks_in inputs start)
          ∙ ap moves (evaluates start c.if-refuses.state (named c.in-Some-Catch.handler.now) c.in-Some-Catch.scope inputs nodes c.plain.ensures
          (refused.frames inputs ∙ ap (λ k. if b then operation refuse ∷ k else k) (c.cut_forks.ensures.frames inputs))
          (refused.forks inputs ∙ c.cut_forks.ensures.forks inputs ∙ ap (cut h) (c.in-Some-Catch.ensures.forks inputs))),
    )

-- a left side and what stands above it were cut off
record Ends (h : ℕ) (s t : State) : Type 0 where
  frames : (inputs : Run Value) → frames_in inputs t ≡ frames_in inputs s
  forks : (inputs : Run Value) → forks_in inputs t ≡ cut (suc h) (forks_in inputs s)

pub returns-after-height : goal.returns-after-height
returns-after-height c inputs =
    let s = c.find_handler.new.state in
    let h = c.in-Some-EndLeftSide.height in
    let next : h + 1 ≡ suc h = omega arith in
    let ended : Ends h s c.if-height.state = elim c.if-height.branch [
      | then-height w ↦ rw w.state-is (record { frames = w.cut_forks-then-height.ensures.frames; forks = λ i. w.cut_forks-then-height.ensures.forks i ∙ ap (λ n. cut n (forks_in i s)) next })
      | else-height w ↦ rw w.state-is (record {
        frames = λ i. refl;
        forks = λ i.
            let l : length (forks_in i s) ≡ c.height.result = c.height.ensures i in
            let m : length (forks_in i s) ≤ h = omega (arith, l, w.if-height.false) in
            sym (cut_above h (forks_in i s) m);
      })
    ] in
    let found = rw c.in-Some-EndLeftSide.field-0-is at c.in-Some-EndLeftSide.ensures.frames in (
      tt,
      found inputs (view c.args.error) (forks_in inputs c.args.state.now)
          ∙ ap moves (goes_back (ended.frames inputs) (ended.forks inputs ∙ ap (cut (suc h)) (c.in-Some-EndLeftSide.ensures.forks inputs))),
    )

pub returns-in-None : goal.returns-in-None
returns-in-None c inputs = c.in-None.ensures.frames inputs (view c.args.error) (forks_in inputs c.args.state.now)
