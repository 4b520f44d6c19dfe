-- What an update comes to, its turns, and the runs apart.
use Rattle.std.specs.Prelude.{◌≡◌, ◌<◌, ℕ, suc, [], ◌∷◌, map, Option, Some, None}
use Rattle.jv_data.specs.Value.{Value, array, items_of}
use Rattle.jv_data.specs.View.{view}
use Rattle.jq_ast.specs.Named.{named}
use Rattle.jq_natives.specs.Answers.{Answer}
use Rattle.jq_tree.specs.Tree.{Tree}
use Rattle.jq_meaning.specs.Env.{Env}
use Rattle.jq_meaning.specs.Meaning.{meaning}
use Rattle.jq_meaning.specs.laws.Updating.{turn_of, turns, with_answer, without_output}
use Rattle.jq_meaning.specs.machine.Heights.{Fit}
use Rattle.jq_meaning.specs.machine.Machine.{Produces}
use Rattle.jq_meaning.specs.Runs as runs
use Rattle.jq_meaning.specs.Runs.{Item, Run, Done, Raised, Broken, Stopped, plain, located, value_in, one, before, ended, paths_in}
use Rattle.jq_state.specs.Environments.{count_of}
use Rattle.jq_state.specs.Inputs.{inputs_of}
use Rattle.jq_state.specs.Items.{item_of}
use Rattle.jq_state.specs.Nexts.{stop_of}
use Rattle.jq_state.specs.Nodes.{env_at}
use Rattle.jq_state.specs.Views.{envs_in}
use Rattle.jq_state.specs.declared.frames.Scope.{Scope}
use Rattle.jq_state.specs.declared.next.Next.{Next}
use Rattle.jq_state.specs.declared.next.Next.TheVariants as next
use Rattle.jq_state.specs.declared.states.State.{State}
use Rattle.jq_transitions.specs.Outcomes.{ending_of}
use Rattle.jq_transitions.specs.declared.backtracking.outcomes.Ending.{Ending}
use Rattle.jq_engine.specs.declared.apart.Around.{Around}
use Rattle.jq_engine.specs.declared.apart.Found.{Found}
use Rattle.jq_engine.specs.declared.running.Reached.{Reached}
use Rattle.jq_engine.specs.declared.running.Reached.TheVariants as reached
use Rattle.jq_engine.specs.private.Leading.{at_filter}

abbrev pub env_in : Around → Scope → Env
env_in a p = env_at (envs_in (inputs_of a.inputs.now) a.state.now) p.env

-- The run of a tree on a value, in a scope.
abbrev pub run_in : Around → Tree → Scope → Value → Run Item
run_in a t p v = meaning p.depth t (env_in a p) p.level (plain v)

-- What is done next where this tree is to be evaluated in a scope on a value, and this is its run: its one output is given, or it has
-- ended, or it is still to be evaluated.
abbrev pub UpdatesTo : Tree → Scope → Value → Run Item → Next → Type 0
UpdatesTo t p v r (next.Evaluate u q x) = (named u.now ≡ t) × (q ≡ p) × (item_of x ≡ plain v)
UpdatesTo t p v r (next.Give x) = r ≡ one (item_of x)
UpdatesTo t p v r (next.Matching u w m q) = ⊥
UpdatesTo t p v r (next.Matched m q) = ⊥
UpdatesTo t p v r next.GoBack = r ≡ ended Done
UpdatesTo t p v r (next.Raise e) = r ≡ ended (Raised (view e))
UpdatesTo t p v r (next.Leave k) = r ≡ ended (Broken k)
UpdatesTo t p v r (next.Quit stop) = r ≡ ended (Stopped (stop_of stop))

-- ---- runs apart

-- This run may start in a state: of a tree in a scope on an item.
pub record Starts (inputs : Run Value) (s : State) (t : Tree) (p : Scope) (x : Item) (r : Run Item) : Type 0 where
  pub there : p.env < count_of s.nodes
  pub fit : Fit (at_filter inputs s t p x)
  pub produces : Produces (at_filter inputs s t p x) r

-- Each run in a scope of another state may start in this one.
abbrev pub StartsRuns : Around → State → Type 0
StartsRuns a s = (t : Tree) (p : Scope) (x y : Item) → p.env < count_of a.state.now.nodes → x ≡ y → Starts (inputs_of a.inputs.now) s t p x (meaning p.depth t (env_in a p) p.level y)

-- This is the first output of the run, or its ending if it has none.
abbrev pub BeginsWith : Run Item → Reached → Type 0
BeginsWith r (reached.Output x) = (q : Run Item) × (r ≡ before (item_of x ∷ []) q)
BeginsWith r (reached.End e) = r ≡ ended (ending_of e)

-- The run of the paths of a tree into a value, in a scope.
abbrev pub path_run : Around → Tree → Scope → Value → Run Item
path_run a t p v = paths_in (meaning p.depth t (env_in a p) p.level (located v []))

-- These are all paths, and the ending.
abbrev pub HasPaths : Run Item → Found → Type 0
HasPaths r found = (map value_in r.items ≡ map view found.paths.items) × (r.ending ≡ ending_of found.ending)

-- ---- turns

-- The run of `g` for a part. The label of its turn is around it.
abbrev pub part_run : Around → Tree → Scope → Value → Run Item
part_run a t p v = meaning p.depth t (env_in a p) (suc p.level) (plain v)

-- The turns of the paths that were found.
abbrev pub turns_in : Around → Tree → Scope → Found → Value → Run Item
turns_in a g p found v = turns p.level (part_run a g p) (map view found.paths.items) (ending_of found.ending) v (array (items_of []))

-- The run goes on as the later one, or ends so.
abbrev pub TurnsTo : Option Ending → (later : Run Item) → Run Item → Type 0
TurnsTo None later r = r ≡ later
TurnsTo (Some e) later r = r ≡ ended (ending_of e)

-- A turn at a path changes the value, and the list of the paths to delete, whatever is done with them.
abbrev pub TakesTurn : Around → Tree → Scope → (path v ds w es : Value) → Option Ending → Type 0
TakesTurn a g p path v ds w es o = (go : Value → Value → Run Item) → TurnsTo o (go w es) (turn_of p.level (part_run a g p) path v ds go)

-- The same of a turn in which the update had no output, but this ending.
abbrev pub EndsTurn : (level : ℕ) → runs.Ending → (path v ds w es : Value) → Option Ending → Type 0
EndsTurn k e path v ds w es o = (go : Value → Value → Run Item) → TurnsTo o (go w es) (without_output k v ds path e go)

-- The same of an answer, which becomes this value.
abbrev pub TakesAnswer : Option Ending → Value → Answer → Type 0
TakesAnswer o w answer = (go : Value → Run Item) → TurnsTo o (go w) (with_answer answer go)

-- What is done next where the turns ended so, or have this output.
abbrev pub FollowsTurns : Option Ending → Value → Next → Type 0
FollowsTurns o w n = (t : Tree) (p : Scope) (v : Value) (r : Run Item) → TurnsTo o (one (plain w)) r → UpdatesTo t p v r n
