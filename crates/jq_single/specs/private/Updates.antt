-- The results of the steps of an update.
use Rattle.std.specs.Prelude.{◌≡◌, ℕ, suc, List, [], ◌∷◌, map, Result, Ok}
use Rattle.jv_data.specs.Value.{Value, array, items_of}
use Rattle.jv_data.specs.View.{view}
use Rattle.jv_data.specs.declared.values.Val.{Val}
use Rattle.jq_natives.specs.PathNatives.{getpath_native_of}
use Rattle.jq_tree.specs.Tree.{Tree}
use Rattle.jq_meaning.specs.Runs.{Item, Run, Done, ended, plain, one}
use Rattle.jq_meaning.specs.laws.Updating.{turn_of, turns}
use Rattle.jq_single.specs.Single.{Changed}
use Rattle.jq_single.specs.declared.contexts.Context.{Context}
use Rattle.jq_single.specs.declared.stops.Stop.{Stop}
use Rattle.jq_single.specs.private.Gathering.{GoesOn}
use Rattle.jq_single.specs.private.Parts.{run}

-- The list of the paths to delete.
abbrev pub listed : List Val → Value
listed ps = array (items_of (map view ps))

-- The run of the new part. An update has a label of its own around it.
abbrev pub part_run : Context → Run Value → (level : ℕ) → Tree → Value → Run Item
part_run p inputs level t part = run p inputs (suc level) t (plain part)

-- The first output of a run alone, which is the only one that an update uses. A run without output is its ending.
abbrev pub first_alone : Run Item → Run Item
first_alone r = elim r.items [ [] ↦ ended r.ending | x ∷ xs ↦ one x ]

-- A turn at a path changes the value, and the list of the paths to delete, whatever is done with them.
abbrev pub TakesTurn : {A : Type 0} → Context → (update : Tree) → (path v ds w es : Value) → Result A Stop → Type 0
TakesTurn p u path v ds w es result =
    (inputs : Run Value) (level : ℕ) (go : Value → Value → Run Item) → GoesOn result (go w es) (turn_of level (part_run p inputs level u) path v ds go)

-- The same, of an update whose first output for the part at the path replaced the part.
abbrev pub TakesPart : {A B : Type 0} → Result A Stop → (part path v ds w es : Value) → Result B Stop → Type 0
TakesPart done part path v ds w es result =
    (level : ℕ) (g : Value → Run Item) (before : Value) (go : Value → Value → Run Item) → getpath_native_of v path ≡ Ok before
    → Changed done part (first_alone (g before)) → GoesOn result (go w es) (turn_of level g path v ds go)

-- The turns at all paths, and the deletion.
abbrev pub TakesTurns : {A : Type 0} → Context → (update : Tree) → (paths : List Value) → (before later : Value) → Result A Stop → Type 0
TakesTurns p u paths v w result =
    (inputs : Run Value) (level : ℕ) → Changed result w (turns level (part_run p inputs level u) paths Done v (array (items_of [])))

-- The first output of a tree on a value replaces it.
abbrev pub ChangesToFirst : {A : Type 0} → Context → Tree → (before later : Value) → Result A Stop → Type 0
ChangesToFirst p t v w result = (inputs : Run Value) (level : ℕ) → Changed result w (first_alone (run p inputs level t (plain v)))
