-- A filter that is accepted, and how it runs (manual of jq 1.7, "Invoking jq").
use Rattle.std.specs.Prelude.{◌≡◌, ◌↔◌, ℕ, List, Bool, false, if◌then◌else◌}
use Rattle.jv_data.specs.Value.{Value}
use Rattle.jq_tree.specs.Tree.{Tree}
use Rattle.jq_tree.specs.Prelude.{IsPrelude, followed_by}
use Rattle.jq_tree.specs.Filter as filter
use Rattle.jq_tree.specs.Filter.{BecomesAfter, HasPlan, Plan, reads}
use Rattle.jq_inputs.specs.Halting.{CallsNoHalt}
use Rattle.jq_meaning.specs.Meaning.{run_of}
use Rattle.jq_meaning.specs.Runs.{Run}
use Rattle.jq_syntax.specs.Chosen.{Chosen, setting}
use Rattle.jq_filters.specs.Outcomes.{Mode, on_each, on_null, on_all, Job}

-- the inputs on which a filter runs, which depend on whether it has `inputs`
abbrev pub mode_in : Chosen → (has_inputs : Bool) → Mode
mode_in o has_inputs = if o.null then on_null has_inputs else (if o.slurp then on_all else on_each)

abbrev pub mode_chosen : Chosen → Tree → Mode
mode_chosen o t = mode_in o (reads t)

-- The text is a filter that is accepted under these options. It runs after the prelude, in this mode,
-- and `job` says what it does with an input.
pub record Accepts (o : Chosen) (text : List ℕ) (mode : Mode) (job : Job) : Type 0 where
  pub prelude : Tree
  pub is_prelude : IsPrelude prelude
  pub tree : Tree
  pub accepted : BecomesAfter prelude (setting o) text (filter.accepted tree)
  pub in_mode : mode ≡ mode_chosen o tree
  pub in_style : job.style ≡ o.style
  pub with_exit : job.exit ≡ o.exit
  pub runs : (inputs : Run Value) (v : Value) → job.run inputs v ≡ run_of o.depth o.variables inputs (followed_by prelude tree) v

-- The same with what is known of the filter's tree: which runs it needs for its inputs, and whether it calls a function that halts.
pub record IsAccepted (o : Chosen) (text : List ℕ) (mode : Mode) (job : Job) (plan : Plan) (halts : Bool) : Type 0 where
  pub accepts : Accepts o text mode job
  pub planned : HasPlan o.null o.slurp accepts.tree plan
  pub halting : (halts ≡ false) ↔ CallsNoHalt accepts.tree
