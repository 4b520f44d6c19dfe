-- `range` between two numbers.
use Rattle.std.specs.Prelude.{◌≡◌, ℤ, List, []}
use Rattle.jv_data.specs.Value.{Value, number}
use Rattle.jq_tree.specs.Tree.{Tree, no_trees, more_trees}
use Rattle.jq_meaning.specs.Builtins.{range}
use Rattle.jq_meaning.specs.Runs.{Run, Item, plain}
use Rattle.jq_meaning.specs.machine.Evaluating.{enter, next_argument}
use Rattle.jq_meaning.specs.machine.State.{Frame, ForkPoint}
use Rattle.jq_state.specs.Environments.{envs_of}
use Rattle.jq_state.specs.Links.{scope_in}
use Rattle.jq_state.specs.declared.environments.Nodes.{Nodes}
use Rattle.jq_state.specs.declared.frames.Scope.{Scope}
use Rattle.jq_engine.specs.private.Simple.{GivesOne}

-- The first transition of a filter on a value is that of a `range` with these bounds.
abbrev pub RunsRange : Nodes → Tree → Scope → (start last : Tree) → Type 0
RunsRange ns t p start last =
    (inputs : Run Value) (v : Value) (k : List Frame) (fs : List ForkPoint)
    → let q = scope_in (envs_of inputs ns) p in enter t q (plain v) k fs ≡ next_argument range (more_trees start (more_trees last no_trees)) [] q (plain v) k fs

-- A filter on an item is a `range` whose bounds are these numbers.
pub record RangesOver (ns : Nodes) (t : Tree) (p : Scope) (x : Item) (n m : ℤ) : Type 0 where
  pub start : Tree
  pub last : Tree
  pub value : Value
  pub is_plain : x ≡ plain value
  pub runs : RunsRange ns t p start last
  pub from : GivesOne ns start p value (number n)
  pub to : GivesOne ns last p value (number m)
