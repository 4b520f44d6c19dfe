-- The runs with which the pieces of a fold begin.
use Rattle.std.proofs.Common.{◌≡◌, ℕ, [], Option, Some, None, true, refl, sym, ap, ◌∙◌, subst}
use Rattle.jv_data.specs.Value.{Value, null}
use Rattle.jq_ast.specs.Named.{named}
use Rattle.jq_tree.specs.Tree.{Tree}
use Rattle.jq_tree.specs.Inputs.{at_most_one}
use Rattle.jq_meaning.specs.Meaning.{meaning}
use Rattle.jq_meaning.specs.Runs.{Run, Item, plain, none, one}
use Rattle.jq_meaning.specs.machine.Heights.{Fit}
use Rattle.jq_meaning.specs.machine.Machine.{Produces, after_end, after_output}
use Rattle.jq_meaning.specs.machine.State.{Scope, state, evaluate, give}
use Rattle.jq_meaning.specs.laws.Starts.{start}
use Rattle.jq_state.specs.Environments.{count_of}
use Rattle.jq_state.specs.Items.{item_of}
use Rattle.jq_state.specs.Links.{scope_in}
use Rattle.jq_state.specs.Nexts.{stands, next_in, NextFits}
use Rattle.jq_state.specs.Views.{envs_in, frames_in, forks_in}
use Rattle.jq_state.specs.declared.items.Item as code
use Rattle.jq_state.specs.declared.states.State as code_state
use Rattle.jq_state.specs.declared.next.Next as code_next
use Rattle.jq_state.specs.declared.next.Next.TheVariants as next
use Rattle.jq_engine.specs.Engine.{IsRest}
use Rattle.jq_engine.specs.Readiness.{CanGoOn}
use Rattle.jq_engine.specs.declared.engines.Engine.{Engine}
use Rattle.jq_folds.specs.Folding.{Fold, FoldAt, closing_tree, closed_by, steps_of}
use Rattle.jq_folds.specs.Pieces.{begun, with_state}
use Rattle.jq_folds.specs.laws.Machine.{begin_state, step_state}
use Rattle.jq_fold_steps.specs.Folded.{start_of, starts_once, steps_at}
use Rattle.jq_fold_steps.specs.declared.entering.Entered.{Entered}
use Rattle.jq_fold_steps.specs.declared.placing.Extraction.TheVariants as extraction
use Rattle.jq_fold_steps.specs.private.Entered.{entered_in, IsEntered}
use Rattle.jq_fold_steps.specs.private.Parts.{parts_in, closing_of, extract_of}
use Rattle.jq_fold_steps.specs.private.Starting.{IsRunOf, closing_next}

-- ---- the laws of the machine

abbrev pub Begins : Type 0
Begins = (f : Fold) (p : Scope) (v : Value) → at_most_one f.start ≡ true → Produces (begin_state f p (plain v)) (with_state (begun (meaning p.depth f.start p.env p.level (plain v))))

abbrev pub StepsOn : Type 0
StepsOn = (f : Fold) (p : Scope) (s : Item) (v : Value) → Produces (step_state f p s v) (with_state ((steps_of p.depth p.env p.level f).step s v))

abbrev pub StartsRun : Type 0
StartsRun = (t : Tree) (p : Scope) (x : Item) → Produces (start t p x) (meaning p.depth t p.env p.level x)

abbrev pub StartsFit : Type 0
StartsFit = (t : Tree) (p : Scope) (x : Item) → Fit (start t p x)

abbrev pub StepsFit : Type 0
StepsFit = (f : Fold) (p : Scope) (s : Item) (v : Value) → Fit (step_state f p s v)

abbrev pub scope_of : Entered → Scope
scope_of x = scope_in (envs_in none x.state) x.scope

-- ---- the start

start-stands : (x : Entered) (item : code.Item) (most : ℕ) → IsEntered most x → item_of item ≡ plain null
    → stands none x.state (next.Evaluate x.parts.start x.scope item) ≡ begin_state (parts_in x.parts) (scope_of x) (plain null)
start-stands x item most h q = λ i. state (evaluate (named x.parts.start.now) (scope_of x) (q i)) (h.frames none i) (h.forks none i)

pub begin-goes : StartsFit → (x : Entered) (item : code.Item) (most : ℕ) → IsEntered most x → item_of item ≡ plain null → CanGoOn none x.state (next.Evaluate x.parts.start x.scope item)
begin-goes law x item most h q = (h.within, subst Fit (sym (start-stands x item most h q)) (law (named x.parts.start.now) (scope_of x) (plain null)))

pub begin-runs : Begins → (x : Entered) (item : code.Item) (most : ℕ) (found : Option FoldAt) → IsEntered most x → item_of item ≡ plain null → Some (entered_in x) ≡ found → starts_once found ≡ true
    → Produces (stands none x.state (next.Evaluate x.parts.start x.scope item)) (with_state (begun (start_of most (entered_in x))))
begin-runs law x item most found h q e once =
    let single : at_most_one (parts_in x.parts).start ≡ true = ap starts_once e ∙ once in
    let f = parts_in x.parts in
    subst (λ s. Produces s (with_state (begun (start_of most (entered_in x))))) (sym (start-stands x item most h q))
    (subst (λ r. Produces (begin_state f (scope_of x) (plain null)) (with_state (begun r))) (λ i. meaning (h.depth i) f.start (scope_of x).env (h.level i) (plain null))
    (law f (scope_of x) null single))

-- ---- a step

abbrev pub IsTaken : code_state.State → Fold → Scope → Item → Value → Type 0
IsTaken t f p s v = (frames_in none t ≡ (step_state f p s v).frames) × (forks_in none t ≡ (step_state f p s v).forks)

step-stands : (t : code_state.State) (item : code.Item) (f : Fold) (p : Scope) (s : Item) (v : Value) → item_of item ≡ plain v → IsTaken t f p s v
    → stands none t (next.Give item) ≡ step_state f p s v
step-stands t item f p s v q h = λ i. state (give (q i)) (h.0 i) (h.1 i)

pub step-goes : StepsFit → (t : code_state.State) (item : code.Item) (f : Fold) (p : Scope) (s : Item) (v : Value) → item_of item ≡ plain v → IsTaken t f p s v → CanGoOn none t (next.Give item)
step-goes law t item f p s v q h = (tt, subst Fit (sym (step-stands t item f p s v q h)) (law f p s v))

pub step-runs : StepsOn → (x : Entered) (t : code_state.State) (item : code.Item) (most : ℕ) (s : Item) (v : Value) → IsEntered most x → item_of item ≡ plain v → IsTaken t (parts_in x.parts) (scope_of x) s v
    → Produces (stands none t (next.Give item)) (with_state ((steps_at most (Some (entered_in x))).step s v))
step-runs law x t item most s v h q k =
    let f = parts_in x.parts in
    let run = with_state ((steps_at most (Some (entered_in x))).step s v) in
    subst (λ m. Produces m run) (sym (step-stands t item f (scope_of x) s v q k))
    (subst (λ r. Produces (step_state f (scope_of x) s v) r) (λ i. with_state ((steps_of (h.depth i) (scope_of x).env (h.level i) f).step s v)) (law f (scope_of x) s v))

pub engine-of : (e : Engine) (run : FoldAt → Run Item) (x : FoldAt) (found : Option FoldAt) → Some x ≡ found → IsRest e (run x) → IsRunOf (Some e) found run
engine-of e run x found p h = subst (λ o. IsRunOf (Some e) o run) p h

-- ---- the end

-- an item that is given past all frames is the only output
given : (x : Item) → Produces (state (give x) [] []) (one x)
given x = after_output refl (after_end refl)

given-fits : (x : Item) → Fit (state (give x) [] [])
given-fits x = record { frames = tt; forks = tt }

closing-runs : StartsRun → (o : Option Tree) (p : Scope) (s : Item) → Produces (state (closing_next o p s) [] []) (meaning p.depth (closing_tree o) p.env p.level s)
closing-runs law None p s = given s
closing-runs law (Some g) p s = law g p s

closing-fits : StartsFit → (o : Option Tree) (p : Scope) (s : Item) → Fit (state (closing_next o p s) [] [])
closing-fits law None p s = given-fits s
closing-fits law (Some g) p s = law g p s

-- what is done next with the last state
abbrev pub IsAfter : Entered → code_next.Next → Item → Type 0
IsAfter x n s = next_in (envs_in none x.state) n ≡ closing_next (closing_of x.parts.closing) (scope_of x) s

close-stands : (x : Entered) (n : code_next.Next) (s : Item) (most : ℕ) → IsEntered most x → IsAfter x n s
    → stands none x.state n ≡ state (closing_next (closing_of x.parts.closing) (scope_of x) s) [] []
close-stands x n s most h q = λ i. state (q i) (h.frames none i) (h.forks none i)

pub close-goes : StartsFit → (x : Entered) (n : code_next.Next) (s : Item) (most : ℕ) → IsEntered most x → IsAfter x n s → NextFits (count_of x.state.nodes) n → CanGoOn none x.state n
close-goes law x n s most h q w = (w, subst Fit (sym (close-stands x n s most h q)) (closing-fits law (closing_of x.parts.closing) (scope_of x) s))

pub close-runs : StartsRun → (x : Entered) (n : code_next.Next) (s : Item) (most : ℕ) (found : Option FoldAt) → IsEntered most x → IsAfter x n s → x.parts.extraction ≡ extraction.Nothing → Some (entered_in x) ≡ found
    → Produces (stands none x.state n) ((steps_at most found).close s)
close-runs law x n s most found h q is e =
    let o = closing_of x.parts.closing in
    let env = (scope_of x).env in
    let same : meaning (scope_of x).depth (closing_tree o) env (scope_of x).level s ≡ (steps_at most found).close s =
    (λ i. meaning (h.depth i) (closing_tree o) env (h.level i) s)
    ∙ ap (λ y. closed_by most env 0 (parts_in x.parts) (extract_of y) s) (sym is)
    ∙ ap (λ y. (steps_at most y).close s) e in
    subst (λ m. Produces m ((steps_at most found).close s)) (sym (close-stands x n s most h q))
    (subst (λ r. Produces (state (closing_next o (scope_of x) s) [] []) r) same (closing-runs law o (scope_of x) s))
