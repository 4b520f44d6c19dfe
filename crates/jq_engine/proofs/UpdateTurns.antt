-- Updates and their turns.
use Rattle.std.proofs.Common.{◌≡◌, ◌∙◌, ℕ, suc, List, [], Ok, Err, map, refl, ap}
use Rattle.std.proofs.Math.Logic.{∥∥₁_elim}
use Rattle.jv_data.specs.Value.{Value, array, items_of}
use Rattle.jv_data.specs.View.{view}
use Rattle.jq_tree.specs.Tree.{Tree}
use Rattle.jq_tree.specs.WrittenOut.{modify}
use Rattle.jq_natives.specs.Answers.{Answer}
use Rattle.jq_meaning.specs.Env.{Env}
use Rattle.jq_meaning.specs.Meaning.{meaning}
use Rattle.jq_meaning.specs.Runs.{Item, Run, Ending, Done, Raised, Broken, Stopped, answered, one, plain, located, value_in, paths_in}
use Rattle.jq_meaning.specs.laws.Updates.{UpdatesAreTurns}
use Rattle.jq_meaning.specs.laws.Updating.{turns, update_run, with_answer}
use Rattle.jq_meaning.specs.updates.Known.{HasModify}
use Rattle.jq_single.proofs.shared.RunSets.{run_set}
use Rattle.jq_state.specs.Items.{item_of}
use Rattle.jq_state.specs.Nexts.{stands, stop_of}
use Rattle.jq_state.specs.Nodes.{env_at}
use Rattle.jq_state.specs.Views.{envs_in}
use Rattle.jq_state.specs.declared.frames.Scope.{Scope}
use Rattle.jq_state.specs.declared.next.Next.{Next}
use Rattle.jq_state.specs.declared.next.Next.TheVariants as next
use Rattle.jq_state.specs.declared.states.State.{State}
use Rattle.jq_engine.specs.private.Leading.{AtOnce, at_filter, ends, gives, unchanged}
use Rattle.jq_engine.specs.private.Updates.{UpdatesTo}

-- an update is the turns of its paths
pub update_turns : UpdatesAreTurns → (t f g : Tree) (e : Env) (depth d k : ℕ) (v : Value) (ps : List Value) (end : Ending) → ∥ HasModify e ∥₁ → t ≡ modify f g → depth ≡ suc (suc d)
    → (map value_in (paths_in (meaning d f e k (located v []))).items ≡ ps) × ((paths_in (meaning d f e k (located v []))).ending ≡ end)
    → meaning depth t e k (plain v) ≡ turns k (λ w. meaning d g e (suc k) (plain w)) ps end v (array (items_of []))
update_turns law t f g e depth d k v ps end some is deep found =
    let r = paths_in (meaning d f e k (located v [])) in
    let part : Value → Run Item = λ w. meaning d g e (suc k) (plain w) in
    ∥∥₁_elim some (run_set (meaning depth t e k (plain v)) (turns k part ps end v (array (items_of []))))
    (λ has. ap (λ u. meaning depth u e k (plain v)) is ∙ law depth f g e k (plain v) has ∙ ap (λ n. update_run n f g e k (plain v)) deep
    ∙ ap (λ qs. turns k part qs r.ending v (array (items_of []))) found.0 ∙ ap (λ z. turns k part ps z v (array (items_of []))) found.1)

-- an answer that is the output
pub as_output : (a : Answer) → answered plain a ≡ with_answer a (λ w. one (plain w))
as_output (Ok w) = refl
as_output (Err e) = refl

-- what is done next, as after a filter that was run at once
pub at_once : (inputs : Run Value) (s : State) (t : Tree) (p : Scope) (v : Value) (n : Next) → UpdatesTo t p v (meaning p.depth t (env_at (envs_in inputs s) p.env) p.level (plain v)) n → AtOnce (at_filter inputs s t p (plain v)) (stands inputs s n)
at_once inputs s t p v (next.Evaluate u q x) h = rw (h.0, h.1, h.2) unchanged
at_once inputs s t p v (next.Give x) h = gives (item_of x) h
at_once inputs s t p v (next.Matching u w m q) h = absurd h
at_once inputs s t p v (next.Matched m q) h = absurd h
at_once inputs s t p v next.GoBack h = ends Done h
at_once inputs s t p v (next.Raise e) h = ends (Raised (view e)) h
at_once inputs s t p v (next.Leave k) h = ends (Broken k) h
at_once inputs s t p v (next.Quit stop) h = ends (Stopped (stop_of stop)) h
