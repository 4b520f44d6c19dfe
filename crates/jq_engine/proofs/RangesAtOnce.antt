-- A `range` between two numbers gives its first one.
use Rattle.std.proofs.Common.{◌≡◌, ◌∙◌, ◌∷◌, [], ℤ, pos, List, Result, IfOk, refl, sym, ap, subst}
use Rattle.std.proofs.lemmas.Result.{IfOk-weaker}
use Rattle.jv_data.specs.Value.{Value, number}
use Rattle.jq_tree.specs.Tree.{Tree, no_trees, more_trees}
use Rattle.jq_meaning.specs.Builtins.{range, numbers_up_to}
use Rattle.jq_meaning.specs.Runs.{Run, Item, plain}
use Rattle.jq_meaning.specs.machine.Evaluating.{enter, next_argument}
use Rattle.jq_meaning.specs.machine.Machine.{step}
use Rattle.jq_meaning.specs.machine.Operations.{deliver}
use Rattle.jq_meaning.specs.machine.State as machine
use Rattle.jq_meaning.specs.machine.State.{Scope, Frame, ForkPoint, argument, state, evaluate, give, moves}
use Rattle.jq_state.specs.Links.{scope_in}
use Rattle.jq_state.specs.Nexts.{ComesWith}
use Rattle.jq_state.specs.Views.{envs_in, frames_in, forks_in}
use Rattle.jq_state.specs.declared.frames.Scope as code
use Rattle.jq_state.specs.declared.next.Next.{Next}
use Rattle.jq_state.specs.declared.states.State.{State}
use Rattle.jq_engine.specs.private.Leading.{Advances, at_filter, here, by_transition}
use Rattle.jq_engine.specs.private.Ranges.{RangesOver}
use Rattle.jq_engine.specs.private.Tails.{Arrives, ArrivesAt}
use Rattle.jq_engine.proofs.Leading.{and_then}

-- its bounds run at once
bounds_run : (q : Scope) (t a b : Tree) (v : Value) (n m : ℤ) (k : List Frame) (fs : List ForkPoint)
    → enter t q (plain v) k fs ≡ next_argument range (more_trees a (more_trees b no_trees)) [] q (plain v) k fs
    → ((l : List Frame) → Advances (state (evaluate a q (plain v)) l fs) (state (give (plain (number n))) l fs))
    → ((l : List Frame) → Advances (state (evaluate b q (plain v)) l fs) (state (give (plain (number m))) l fs))
    → Arrives (state (evaluate t q (plain v)) k fs) (deliver (numbers_up_to n m (pos 1)) k fs)
bounds_run q t a b v n m k fs e f g = record {
  from = state (give (plain (number m))) (argument range no_trees (number n ∷ []) q (plain v) ∷ k) fs;
  advances =
      by_transition (ap moves e)
      (and_then (f (argument range (more_trees b no_trees) [] q (plain v) ∷ k)) (by_transition refl (g (argument range no_trees (number n ∷ []) q (plain v) ∷ k))));
  steps = refl;
}

pub range_begins : (inputs : Run Value) (s : State) (t : Tree) (p : code.Scope) (x : Item) (n m : ℤ) → RangesOver s.nodes t p x n m
    → Arrives (at_filter inputs s t p x) (deliver (numbers_up_to n m (pos 1)) (frames_in inputs s) (forks_in inputs s))
range_begins inputs s t p x n m r =
    let k = frames_in inputs s in
    let fs = forks_in inputs s in
    subst (λ (y : Item). Arrives (at_filter inputs s t p y) (deliver (numbers_up_to n m (pos 1)) k fs)) (sym r.is_plain)
    (bounds_run (scope_in (envs_in inputs s) p) t r.start r.last r.value n m k fs (r.runs inputs r.value k fs) (λ l. r.from inputs l fs) (λ l. r.to inputs l fs))

-- the first transition of another filter
pub enters_at : {E : Type 0} (inputs : Run Value) (before goal : machine.State) (s : State) (r : Result Next E) → step before ≡ moves goal → IfOk r (ComesWith inputs goal s) → IfOk r (ArrivesAt inputs before s)
enters_at inputs before goal s r e h = IfOk-weaker r _ _ (λ n g. (g.0, record { from = before; advances = here; steps = e ∙ ap moves (sym g.1) })) h
