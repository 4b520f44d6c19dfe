-- The answers to a script's lines.
use Rattle.std.specs.Prelude.{◌≡◌, ◌⊎◌, ℕ, List, [], ◌∷◌, ◌++◌, length, Bool, true, false, Option, Some, None, MatchOption, MatchResult, Result, Ok, Err, IsOk}
use Rattle.std.specs.Str.{IsUtf8, chars}
use Rattle.jv_cut.specs.Cut.{cut_from}
use Rattle.jv_data.specs.Value.{Value, null}
use Rattle.jv_text.specs.Reading.{text_of_cut}
use Rattle.jv_text.specs.declared.faults.Fault.{Fault}
use Rattle.jq_pages.specs.Edits.{Edit, Reason, no_place, full}
use Rattle.jq_pages.specs.Edits as edits
use Rattle.jq_syntax.specs.Chosen.{Chosen, setting}
use Rattle.jq_syntax.specs.Compiled.{IsRefusal}
use Rattle.jq_syntax.specs.declared.faults.CompileFault.{CompileFault}
use Rattle.jq_syntax.specs.declared.faults.CompileFault.TheVariants as fault
use Rattle.jq_filters.specs.Filters.{IsFilterOf}
use Rattle.jq_filters.specs.declared.filters.Filter.{Filter}
use Rattle.jq_session.specs.Splices.{Follows, FollowsFilter, FollowsMove}
use Rattle.jq_session.specs.Starts.{IsFirstRun, IsMoveStarted, IsStarted}
use Rattle.jq_session.specs.States.{State, outcome, after, after_move, refiltered}
use Rattle.jq_session.specs.declared.splices.Follow.{Follow}
use Rattle.jq_script.specs.Answers.{ok_answer, refused_answer, status_answer, out_answer, err_answer, changes}
use Rattle.jq_script.specs.Requests.{Change, insert, replace, append, Request, change, remove, move, show, errors, status, unknown, Instruction, request, filter, instruction_of}

-- What a line made of a session.
pub data Made : Type 0 where
  edited : Edit → Made
  moved : (k l : ℕ) → Made
  another_filter : Made

-- The answer to a line, the session's state after it, and what was made, if anything was.
pub record Turn : Type 0 where
  pub answer : List ℕ
  pub state : State
  pub made : Option Made

-- an answer that changes nothing
abbrev pub told : State → List ℕ → Turn
told s answer = record { answer = answer; state = s; made = None }

-- ---- refusals, which change nothing

abbrev pub refused : State → ℕ → Turn
refused s refusal = told s (refused_answer refusal)

abbrev pub number_of : Reason → ℕ
number_of no_place = 20
number_of full = 22

abbrev pub unknown_line : ℕ
unknown_line = 0

abbrev pub bad_text : ℕ
bad_text = 21

abbrev pub no_memory : ℕ
no_memory = 40

-- ---- edits

-- the change was made, or refused for a reason
abbrev pub made_turn : State → Made → Result State Reason → Turn
made_turn s made (Ok new) = record { answer = ok_answer (outcome new).status; state = new; made = Some made }
made_turn s made (Err reason) = refused s (number_of reason)

abbrev pub edit_turn : State → Edit → Result State Reason → Turn
edit_turn s edit r = made_turn s (edited edit) r

-- An input is appended by an insertion after the last one.
abbrev pub edit_of : Change → State → Value → Edit
edit_of (insert k) s v = edits.insert k v
edit_of (replace k) s v = edits.replace k v
edit_of append s v = edits.insert (length s.inputs) v

abbrev pub value_turn : State → Change → Result Value Fault → Turn
value_turn s c (Ok v) = edit_turn s (edit_of c s v) (after (edit_of c s v) s)
value_turn s c (Err fault) = refused s bad_text

-- the value of exactly one JSON text
abbrev pub text_value : List ℕ → Result Value Fault
text_value text = text_of_cut (length text) (cut_from 0 true 0 text)

-- Whether an input's number and the number of inputs are allowed does not depend on the value, so null is used to find out.
abbrev pub if_null_fits : Change → State → Result State Reason
if_null_fits c s = after (edit_of c s null) s

-- the input's number and the room in the session are checked first, and the text after them
abbrev pub change_turn : State → Change → Result State Reason → (text : List ℕ) → Turn
change_turn s c (Ok fits) text = value_turn s c (text_value text)
change_turn s c (Err reason) text = refused s (number_of reason)

-- ---- requests

abbrev pub turn : Request → State → Turn
turn (change c text) s = change_turn s c (if_null_fits c s) text
turn (remove k) s = edit_turn s (edits.remove k) (after (edits.remove k) s)
turn (move k l) s = made_turn s (moved k l) (after_move k l s)
turn show s = told s (out_answer (outcome s).output)
turn errors s = told s (err_answer (outcome s).errors)
turn status s = told s (status_answer (outcome s).status)
turn unknown s = refused s unknown_line

-- an edit whose number is allowed, in a session that has room for it, and a move between places that are there
abbrev pub MayLackMemory : Request → State → Type 0
MayLackMemory (change c text) s = IsOk (if_null_fits c s)
MayLackMemory (remove k) s = IsOk (after (edits.remove k) s)
MayLackMemory (move k l) s = IsOk (after_move k l s)
MayLackMemory show s = ⊥
MayLackMemory errors s = ⊥
MayLackMemory status s = ⊥
MayLackMemory unknown s = ⊥

-- Such a request may be refused because memory ran out, and then it changes nothing.
abbrev pub IsTurn : Request → State → Turn → Type 0
IsTurn r s t = (t ≡ turn r s) ⊎ (MayLackMemory r s × (t ≡ refused s no_memory))

-- How often a request may start the filter: an edit and a move as often as the session says, and every other request never.
abbrev pub MayStart : Request → State → (old_starts new_starts : ℕ) → Type 0
MayStart (change c text) s a b = MatchResult (text_value text) (λ v. IsStarted (edit_of c s v) s a b) (λ fault. b ≡ a)
MayStart (remove k) s a b = IsStarted (edits.remove k) s a b
MayStart (move k l) s a b = IsMoveStarted k l s a b
MayStart show s a b = b ≡ a
MayStart errors s a b = b ≡ a
MayStart status s a b = b ≡ a
MayStart unknown s a b = b ≡ a

-- ---- another filter

-- the number of the fault for which a filter is refused
abbrev pub fault_number : CompileFault → ℕ
fault_number (fault.Lex at) = 10
fault_number fault.Syntax = 11
fault_number fault.TooManyTokens = 12
fault_number fault.TooNested = 13
fault_number (fault.Undefined name) = 14
fault_number fault.InputsPlace = 15
fault_number fault.InputsNeedNull = 16
fault_number fault.NoMemory = no_memory

-- bytes that are no text are no tokens
abbrev pub bad_token : ℕ
bad_token = 10

-- The bytes are a text that is this filter under the options.
pub record IsFilterText (o : Chosen) (bytes : List ℕ) (f : Filter) : Type 0 where
  pub text : IsUtf8 bytes
  pub compiled : IsFilterOf o (chars bytes) f

-- it runs over the present inputs
abbrev pub filter_turn : State → Filter → Turn
filter_turn s f = made_turn s another_filter (Ok (refiltered f s))

-- The turn of a line with a filter, and how often filters were started before and after it. The filter is started as often as a
-- session that starts with the present inputs starts it, also if memory runs out then. A text that is refused starts nothing.
pub data IsFilterTurn (o : Chosen) (bytes : List ℕ) (s : State) (t : Turn) (old_starts new_starts : ℕ) : Type 0 where
  taken : (f : Filter) → IsFilterText o bytes f → t ≡ filter_turn s f → IsFirstRun (refiltered f s) old_starts new_starts → IsFilterTurn o bytes s t old_starts new_starts
  without_memory : (f : Filter) → IsFilterText o bytes f → t ≡ refused s no_memory → IsFirstRun (refiltered f s) old_starts new_starts → IsFilterTurn o bytes s t old_starts new_starts
  faulty : (fault : CompileFault) → IsUtf8 bytes → IsRefusal (chars bytes) (setting o) fault → t ≡ refused s (fault_number fault) → new_starts ≡ old_starts
      → IsFilterTurn o bytes s t old_starts new_starts
  no_text : ¬ (IsUtf8 bytes) → t ≡ refused s bad_token → new_starts ≡ old_starts → IsFilterTurn o bytes s t old_starts new_starts

-- ---- instructions

-- the turn of an instruction, under the options of the session, and how often filters were started before and after it
abbrev pub IsTurnOf : Chosen → Instruction → State → Turn → (old_starts new_starts : ℕ) → Type 0
IsTurnOf o (request r) s t a b = IsTurn r s t × MayStart r s a b
IsTurnOf o (filter bytes) s t a b = IsFilterTurn o bytes s t a b

-- The bytes that tell what was made, which led from one state to another: any splices that turn the old output and errors into the
-- new ones, and put in no more than the session says. Of a move these are those of its removal and then of its insertion.
abbrev pub Tells : Made → (old new : State) → List ℕ → Type 0
Tells (edited edit) old new bytes = (f : Follow) × Follows f edit old new × (bytes ≡ changes f)
Tells (moved k l) old new bytes = (f : Follow) × (g : Follow) × FollowsMove f g k l old new × (bytes ≡ changes f ++ changes g)
Tells another_filter old new bytes = (f : Follow) × FollowsFilter f old new × (bytes ≡ changes f)

-- The bytes that answer a line. With `--follow` the answer goes on with what was made.
abbrev pub IsAnswer : (follow : Bool) → State → Turn → List ℕ → Type 0
IsAnswer false s t bytes = bytes ≡ t.answer
IsAnswer true s t bytes = MatchOption t.made (bytes ≡ t.answer) (λ made. (more : List ℕ) × Tells made s t.state more × (bytes ≡ t.answer ++ more))

-- ---- a script

-- A point of a script: the options of the session, its state, and how often filters were started up to there.
pub record Point : Type 0 where
  pub options : Chosen
  pub state : State
  pub starts : ℕ

abbrev pub point : Chosen → State → ℕ → Point
point o s n = record { options = o; state = s; starts = n }

-- the answer to an instruction at a point, how often filters were started after it, and the answer's bytes
pub record IsStep (follow : Bool) (i : Instruction) (p : Point) (t : Turn) (n : ℕ) (bytes : List ℕ) : Type 0 where
  pub turns : IsTurnOf p.options i p.state t p.starts n
  pub answers : IsAnswer follow p.state t bytes

-- These are the answers to the lines, one after the other, and the point after them.
abbrev pub AreAnswers : (follow : Bool) → (lines : List (List ℕ)) → Point → (answers : List ℕ) → Point → Type 0
AreAnswers follow [] p answers last = (answers ≡ []) × (last ≡ p)
AreAnswers follow (line ∷ lines) p answers last =
    (t : Turn) × (n : ℕ) × (bytes : List ℕ) × (others : List ℕ) × IsStep follow (instruction_of line) p t n bytes × (answers ≡ bytes ++ others)
    × AreAnswers follow lines (point p.options t.state n) others last
