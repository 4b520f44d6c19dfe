-- Steps of one transition, and of several.
use Rattle.std.proofs.Common.{◌≡◌, ◌∙◌, Result, IfOk, IfSome, List, Option, Some, None, sym, ap, subst}
use Rattle.std.proofs.lemmas.Result.{IfOk-weaker}
use Rattle.jv_data.specs.Value.{Value}
use Rattle.jq_tree.specs.Tree.{Tree}
use Rattle.jq_meaning.specs.Meaning.{meaning}
use Rattle.jq_meaning.specs.Runs.{Run, Item, Ending, ended}
use Rattle.jq_meaning.specs.machine.Machine.{step, step_of}
use Rattle.jq_meaning.specs.machine.Operations.{ending_next}
use Rattle.jq_meaning.specs.machine.State.{Scope, Frame, ForkPoint, state, evaluate, moves}
use Rattle.jq_meaning.specs.machine.State as machine
use Rattle.jq_state.specs.Nexts.{ComesWith}
use Rattle.jq_state.specs.declared.next.Next.{Next}
use Rattle.jq_state.specs.declared.states.State.{State}
use Rattle.jq_transitions.specs.declared.backtracking.outcomes.Progress.{Progress}
use Rattle.jq_transitions.specs.declared.backtracking.outcomes.Progress.TheVariants as progress
use Rattle.jq_engine.specs.private.Leading.{ends, Advances, here, by_transition, by_run, Leads, GoesOn}
use Rattle.jq_transitions.specs.Outcomes.{Steps}

pub if_some : {A : Type 0} {P Q : A → Type 0} (o : Option A) → ((x : A) → P x → Q x) → IfSome o P → IfSome o Q
if_some (Some x) h p = h x p
if_some None h p = tt

-- nothing is run at once
pub leads_on : {E : Type 0} (inputs : Run Value) (before : machine.State) (s : State) (r : Result Progress E) → IfOk r (Steps inputs (step before) s) → IfOk r (Leads inputs before s)
leads_on inputs before s r h = IfOk-weaker r _ _ (λ q g. record { from = before; advances = here; steps = λ f. g }) h

pub leads_all : {E : Type 0} (inputs : Run Value) (before : Run Value → machine.State) (s : State) (r : Result Progress E) → IfOk r (λ q. (i : Run Value) → Steps i (step (before i)) s q) → IfOk r (Leads inputs (before inputs) s)
leads_all inputs before s r h = IfOk-weaker r _ _ (λ q g. record { from = before inputs; advances = here; steps = λ f. g inputs }) h

-- a transition to a state of the machine
pub leads_to : (inputs : Run Value) (before goal : machine.State) (s : State) (n : Next) → step before ≡ moves goal → ComesWith inputs goal s n → Leads inputs before s (progress.Moves n)
leads_to inputs before goal s n e h = record { from = before; advances = here; steps = λ f. (h.0, e ∙ ap moves (sym h.1)) }

-- a filter was run at once and ended
module _ (inputs : Run Value) (t : Tree) (p : Scope) (x : Item) (k : List Frame) (fs : List ForkPoint) (s : State) (r : Progress) where
  pub leads_end : (d : Ending) → meaning p.depth t p.env p.level x ≡ ended d → Steps inputs (step_of (ending_next d) k fs) s r → Leads inputs (state (evaluate t p x) k fs) s r
  leads_end d e h = record { from = state (ending_next d) k fs; advances = by_run (ends d e) here; steps = λ f. h }

-- the same with equal frames and fork points
pub leads_at : (inputs : Run Value) (n : machine.Next) (u : State) (r : Progress) {k l : List Frame} {fs gs : List ForkPoint} → k ≡ l → fs ≡ gs → Leads inputs (state n k fs) u r → Leads inputs (state n l gs) u r
leads_at inputs n u r {k} {l} {fs} {gs} e f h = subst (λ hs. Leads inputs (state n l hs) u r) f (subst (λ m. Leads inputs (state n m fs) u r) e h)

-- ---- several in a row

pub and_then : {s t u : machine.State} → Advances s t → Advances t u → Advances s u
and_then here b = b
and_then (by_transition e a) b = by_transition e (and_then a b)
and_then (by_run o a) b = by_run o (and_then a b)

pub leads_later : {E : Type 0} (inputs : Run Value) (before later : machine.State) (s : State) (r : Result Progress E) → Advances before later → IfOk r (Leads inputs later s) → IfOk r (Leads inputs before s)
leads_later inputs before later s r a h = IfOk-weaker r _ _ (λ q g. record { from = g.from; advances = and_then a g.advances; steps = g.steps }) h

pub later_leads : (inputs : Run Value) (before later : machine.State) (s : State) (r : Progress) → Advances before later → Leads inputs later s r → Leads inputs before s r
later_leads inputs before later s r a l = record { from = l.from; advances = and_then a l.advances; steps = l.steps }

pub later_goes : (inputs : Run Value) (before later : machine.State) (s : State) (o : Option Progress) → Advances before later → GoesOn inputs later s o → GoesOn inputs before s o
later_goes inputs before later s None a l = and_then a l
later_goes inputs before later s (Some r) a l = later_leads inputs before later s r a l

pub goes_later : {E : Type 0} (inputs : Run Value) (before later : machine.State) (s : State) (r : Result (Option Progress) E) → Advances before later → IfOk r (GoesOn inputs later s) → IfOk r (GoesOn inputs before s)
goes_later inputs before later s r a h = IfOk-weaker r _ _ (λ o g. later_goes inputs before later s o a g) h
