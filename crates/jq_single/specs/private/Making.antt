-- The outputs of the parts of objects and strings.
use Rattle.std.specs.Prelude.{ℕ, List, Result}
use Rattle.jv_data.specs.Held.{members_in}
use Rattle.jv_data.specs.Shared.{text_in}
use Rattle.jv_data.specs.Value.{Value, Members}
use Rattle.jv_data.specs.declared.containers.objects.Object.{Object}
use Rattle.jv_data.specs.declared.containers.texts.SharedText.{SharedText}
use Rattle.jv_data.specs.declared.values.Val.{Val}
use Rattle.jq_tree.specs.Tree.{Name, Tree, Entry, Entries, Pieces, more_entries}
use Rattle.jq_meaning.specs.Continuations.{on_entry}
use Rattle.jq_meaning.specs.Meaning.{below, entries_with, pieces_with}
use Rattle.jq_meaning.specs.Runs.{Item, plain, Run, one, bind}
use Rattle.jq_single.specs.Single.{Comes}
use Rattle.jq_single.specs.private.Parts.{run}
use Rattle.jq_single.specs.private.Scopes.{scope_env}
use Rattle.jq_single.specs.declared.contexts.Context.{Context}
use Rattle.jq_single.specs.declared.stops.Stop.{Stop}

-- ---- objects

-- The run of the remaining entries of an object that is made so far.
abbrev pub entries_in : Context → Run Value → (level : ℕ) → Entries → Value → Members → Run Item
entries_in p inputs level es v made = entries_with (below p.depth) es (scope_env inputs p.scope.now) level v made

-- A member is added, whatever is done with the object, or the run has no output.
abbrev pub Adds : Result (Object Val) Stop → (later : Members → Run Item) → Run Item → Type 0
Adds a later r = Comes (λ o. later (members_in o)) a r

-- An entry adds a member to the object that is made so far, whatever the later entries are.
abbrev pub AddsEntry : Context → Entry → (made : Members) → Value → Result (Object Val) Stop → Type 0
AddsEntry p e made v result =
    (inputs : Run Value) (level : ℕ) (es : Entries) → Adds result (entries_in p inputs level es v) (entries_in p inputs level (more_entries e es) v made)

-- The same where the key is known.
abbrev pub AddsMember : Context → (key : List ℕ) → (filter : Tree) → (made : Members) → Value → Result (Object Val) Stop → Type 0
AddsMember p key t made v result = (inputs : Run Value) (level : ℕ) (later : Members → Run Item) → Adds result later (bind (run p inputs level t (plain v)) (on_entry later made key))

-- ---- strings

-- A text that is the only output of a run, or a run without output.
abbrev pub TextAnswers : Result SharedText Stop → Run (List ℕ) → Type 0
TextAnswers a r = Comes (λ t. one (text_in t)) a r

abbrev pub RunsPieces : Context → (format : Name) → Pieces → Value → Result SharedText Stop → Type 0
RunsPieces p format ps v result =
    (inputs : Run Value) (level : ℕ) → TextAnswers result (pieces_with (below p.depth) ps format (scope_env inputs p.scope.now) level (plain v))
