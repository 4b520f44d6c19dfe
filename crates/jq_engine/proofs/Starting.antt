-- The start of a run.
use Rattle.std.proofs.Common.{◌≡◌, ◌∙◌, List, [], sym, ap, subst}
use Rattle.jq_tree.specs.Tree.{Tree}
use Rattle.jq_meaning.specs.Env.{Env}
use Rattle.jq_meaning.specs.Meaning.{meaning}
use Rattle.jq_meaning.specs.Runs.{Item}
use Rattle.jq_meaning.specs.machine.Heights.{Fit}
use Rattle.jq_meaning.specs.machine.Machine.{Produces}
use Rattle.jq_meaning.specs.laws.Starts.{start}
use Rattle.jq_meaning.specs.machine.State.{Scope, Frame, ForkPoint, state, evaluate}

-- with no frame and no fork point
pub at_start : (t : Tree) (p : Scope) (x : Item) {k : List Frame} {fs : List ForkPoint} → k ≡ [] → fs ≡ [] → state (evaluate t p x) k fs ≡ start t p x
at_start t p x {k} {fs} e f = ap (λ l. state (evaluate t p x) l fs) e ∙ ap (λ gs. state (evaluate t p x) [] gs) f

pub start_fits : ((t : Tree) (p : Scope) (x : Item) → Fit (start t p x)) → (t : Tree) (p : Scope) (x : Item) {k : List Frame} {fs : List ForkPoint} → k ≡ [] → fs ≡ [] → Fit (state (evaluate t p x) k fs)
start_fits law t p x e f = subst Fit (sym (at_start t p x e f)) (law t p x)

pub start_produces : ((t : Tree) (p : Scope) (x : Item) → Produces (start t p x) (meaning p.depth t p.env p.level x)) → (t : Tree) (p : Scope) (x : Item) {k : List Frame} {fs : List ForkPoint} {e : Env} {y : Item}
    → k ≡ [] → fs ≡ [] → p.env ≡ e → x ≡ y → Produces (state (evaluate t p x) k fs) (meaning p.depth t e p.level y)
start_produces law t p x {k} {fs} {e} {y} f g h i =
    subst (λ s. Produces s (meaning p.depth t e p.level y)) (sym (at_start t p x f g))
    (subst (λ d. Produces (start t p x) (meaning p.depth t d p.level y)) h (subst (λ z. Produces (start t p x) (meaning p.depth t p.env p.level z)) i (law t p x)))
