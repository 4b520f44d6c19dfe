-- The state that a session represents: how its filter runs, how an edit is followed, and the present inputs.
use Rattle.std.specs.Prelude.{◌≡◌, ℕ, Bool, true, false, List, [], Option, Some, Result, Ok, Err, slice_get}
use Rattle.jv_data.specs.Value.{Value}
use Rattle.jq_folds.specs.Pieces.{FoldState}
use Rattle.jq_fold_steps.specs.Filters.{filter_fold, compiled_fold}
use Rattle.jq_inputs.specs.Halting.{CallsNoHalt}
use Rattle.jq_inputs.specs.Plans.{view_of}
use Rattle.jq_pages.specs.Edits.{Edit, Reason, edited, insert, remove}
use Rattle.jq_pages.specs.Folds.{Fold}
use Rattle.jq_pages.specs.Moves.{moved}
use Rattle.jq_filters.specs.Filters.{filter_job, filter_mode}
use Rattle.jq_filters.specs.Outcomes.{Mode, on_each, on_null, on_all, Job, Outcome}
use Rattle.jq_filters.specs.Present.{values_outcome}
use Rattle.jq_filters.specs.declared.filters.Filter.{Filter}
use Rattle.jq_syntax.specs.Chosen.{Chosen}
use Rattle.jq_tree.specs.Filter as filter
use Rattle.jq_tree.specs.Inputs.{FoldShape}
use Rattle.jq_tree.specs.Tree.{Tree}

-- How a session follows an edit.
pub data Plan : Type 0 where
  each : Plan  -- an edit runs the edited input alone
  fold : Fold FoldState → Plan  -- an edit runs this fold from its page on, up to a page after which the state is unchanged
  until_halt : Plan  -- the same for the fold of the runs on each input up to the first that halts
  whole : Plan  -- an edit makes the one run again

-- The runs on each input do not depend on each other if none of them halts. If one may halt, they are made one after the other, each
-- from the state before it, and so are the steps of a filter that folds its inputs in one run on null. Else an edit makes the one run
-- again.
abbrev pub plan_in : Mode → filter.Plan → (halts : Bool) → Fold FoldState → Plan
plan_in on_each p false f = each
plan_in on_each p true f = until_halt
plan_in (on_null true) filter.per_input halts f = whole
plan_in (on_null true) filter.fold halts f = fold f
plan_in (on_null true) filter.once halts f = whole
plan_in (on_null false) p halts f = whole
plan_in on_all p halts f = whole

abbrev pub filter_plan : Filter → Plan
filter_plan f = plan_in (filter_mode f) (view_of f.plan) f.halts (filter_fold f)

-- The same by the options and the filter's tree `t`, which is that of the filter alone, without the prelude. A fold is that of the
-- filter after the prelude.
abbrev pub IsPlanOf : Chosen → Mode → (prelude t : Tree) → Plan → Type 0
IsPlanOf o on_each p t each = CallsNoHalt t
IsPlanOf o on_each p t (fold f) = ⊥
IsPlanOf o on_each p t until_halt = ¬ CallsNoHalt t
IsPlanOf o on_each p t whole = ⊥
IsPlanOf o (on_null reads) p t each = ⊥
IsPlanOf o (on_null reads) p t (fold f) = FoldShape [] t × (f ≡ compiled_fold o p t)
IsPlanOf o (on_null reads) p t until_halt = ⊥
IsPlanOf o (on_null reads) p t whole = ¬ FoldShape [] t
IsPlanOf o on_all p t each = ⊥
IsPlanOf o on_all p t (fold f) = ⊥
IsPlanOf o on_all p t until_halt = ⊥
IsPlanOf o on_all p t whole = Unit {0}

pub record State : Type 0 where
  pub mode : Mode
  pub job : Job
  pub plan : Plan
  pub inputs : List Value

-- the state of a filter over these inputs
abbrev pub state_in : Filter → List Value → State
state_in f vs = record { mode = filter_mode f; job = filter_job f; plan = filter_plan f; inputs = vs }

-- The output, the errors and the status of a session are those of runs from scratch on its present inputs.
abbrev pub outcome : State → Outcome
outcome s = values_outcome s.mode s.job s.inputs

abbrev pub over : State → List Value → State
over s vs = record { mode = s.mode; job = s.job; plan = s.plan; inputs = vs }

abbrev pub with_inputs : State → Result (List Value) Reason → Result State Reason
with_inputs s (Ok vs) = Ok (over s vs)
with_inputs s (Err reason) = Err reason

-- An edit changes only the inputs.
abbrev pub after : Edit → State → Result State Reason
after edit s = with_inputs s (edited edit s.inputs)

-- A move changes only the inputs: input `k` is removed, and inserted at place `l` of the shorter list.
abbrev pub after_move : (k l : ℕ) → State → Result State Reason
after_move k l s = with_inputs s (moved k l s.inputs)

-- A move as two edits: `value` is the input that moves, and `middle` the state between the removal and the insertion.
pub record Halves (k l : ℕ) (old new : State) : Type 0 where
  pub value : Value
  pub middle : State
  pub there : slice_get old.inputs k ≡ Some value
  pub removed : after (remove k) old ≡ Ok middle
  pub inserted : after (insert l value) middle ≡ Ok new

-- Another filter changes all but the inputs.
abbrev pub refiltered : Filter → State → State
refiltered f s = state_in f s.inputs

-- A point of a session: its state, and how often its filters were started up to there.
pub record Point : Type 0 where
  pub state : State
  pub starts : ℕ

abbrev pub point : State → ℕ → Point
point s n = record { state = s; starts = n }
