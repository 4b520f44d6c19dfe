-- Frames that only pass items on.
use Rattle.std.proofs.Common.{◌≡◌, ◌∙◌, ◌∷◌, ◌<◌, List, length, sym, ap, subst, arith}
use Rattle.jv_data.specs.Value.{Value}
use Rattle.jq_meaning.specs.Runs.{Run, Item}
use Rattle.jq_meaning.specs.machine.Machine.{step, step_of}
use Rattle.jq_meaning.specs.machine.State.{Frame, state, give, moves}
use Rattle.jq_state.specs.Views.{frames_in, forks_in, without_first}
use Rattle.jq_state.specs.declared.states.State.{State}
use Rattle.jq_engine.specs.private.Leading.{Advances, at_item, here, by_transition}
use Rattle.jq_engine.specs.private.Passing.{PassesFirst}

-- the first frame is skipped
pub skips : (inputs : Run Value) (s t : State) (x : Item) → PassesFirst (frames_in inputs s) → frames_in inputs t ≡ without_first (frames_in inputs s) → forks_in inputs t ≡ forks_in inputs s
    → Advances (at_item inputs s x) (at_item inputs t x)
skips inputs s t x p e f =
    let k = without_first (frames_in inputs s) in
    let fs = forks_in inputs s in
    let given : step (at_item inputs s x) ≡ moves (at_item inputs t x) =
    ap (λ l. step_of (give x) l fs) p.first ∙ ap moves (p.passes x k fs) ∙ ap (λ l. moves (state (give x) l fs)) (sym e) ∙ ap (λ gs. moves (state (give x) (frames_in inputs t) gs)) (sym f) in
    by_transition given here

-- fewer frames are left
pub fewer : (k l : List Frame) → PassesFirst k → l ≡ without_first k → length l < length k
fewer k l p e =
    let a : length k ≡ length (p.frame ∷ without_first k) = ap length p.first in
    let b : length l ≡ length (without_first k) = ap length e in omega (arith, a, b)

-- unneeded frames are removed
pub same_item : (inputs : Run Value) (s t u : State) (x : Item) → Advances (at_item inputs s x) (at_item inputs t x) → frames_in inputs u ≡ frames_in inputs t → forks_in inputs u ≡ forks_in inputs t
    → Advances (at_item inputs s x) (at_item inputs u x)
same_item inputs s t u x a e f =
    subst (λ gs. Advances (at_item inputs s x) (state (give x) (frames_in inputs u) gs)) (sym f)
    (subst (λ k. Advances (at_item inputs s x) (state (give x) k (forks_in inputs t))) (sym e) a)
