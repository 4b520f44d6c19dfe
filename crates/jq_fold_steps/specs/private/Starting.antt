-- The run that an engine stands for.
use Rattle.std.specs.Prelude.{◌≡◌, Option, Some, None}
use Rattle.jq_tree.specs.Tree.{Tree}
use Rattle.jq_meaning.specs.Runs.{Run, Item, none}
use Rattle.jq_meaning.specs.machine.State.{Scope, Next, give, evaluate}
use Rattle.jq_engine.specs.Engine.{IsRest}
use Rattle.jq_engine.specs.declared.engines.Engine.{Engine}
use Rattle.jq_folds.specs.Folding.{FoldAt, fold_in}
use Rattle.jq_ast.specs.Named.{named}
use Rattle.jq_filters.specs.declared.runner.Runner.{Runner}
use Rattle.jq_fold_steps.specs.Bindings.{env_of}

-- the fold that a filter is in the bindings of its program, if it is one
abbrev pub fold_of_runner : Runner → Option FoldAt
fold_of_runner runner = fold_in (named runner.tree.now) (env_of runner.bindings.now)

-- The engine stands for this run. Without an engine nothing is run.
abbrev pub IsRun : Option Engine → Run Item → Type 0
IsRun (Some e) r = IsRest e r
IsRun None r = r ≡ none

-- The engine stands for this run of a fold. Without a fold there is no engine.
abbrev pub IsRunOf : Option Engine → Option FoldAt → (FoldAt → Run Item) → Type 0
IsRunOf (Some e) (Some f) run = IsRest e (run f)
IsRunOf (Some e) None run = ⊥
IsRunOf None (Some f) run = ⊥
IsRunOf None None run = Unit {0}

-- what is done next with the last state
abbrev pub closing_next : Option Tree → Scope → Item → Next
closing_next None p s = give s
closing_next (Some g) p s = evaluate g p s
