-- The transitions of an item that is given to a frame.
use Rattle.std.specs.Prelude.{ℕ, List, [], ◌∷◌, ◌++◌, length, Bool, true, false, if◌then◌else◌, Ok, Err}
use Rattle.jv_data.specs.Members.{put}
use Rattle.jv_data.specs.Value.{Value, boolean, string, Members}
use Rattle.jv_text.specs.Formats.{Text}
use Rattle.jv_value.specs.Index.{index_of, slice_key}
use Rattle.jq_natives.specs.Answers.{Answer, is_true}
use Rattle.jq_tree.specs.Tree.{Name, Tree, Entries}
use Rattle.jq_meaning.specs.Runs.{Item, plain, value_in, as_value}
use Rattle.jq_meaning.specs.Continuations.{format_of, key_error}
use Rattle.jq_meaning.specs.machine.State.{Scope, part_at_key, operate, to_truth, Fold, reducing, extracting, fold_step, members_of, Hole, Frame, operation, pipe_into, target_key, slice_start, slice_end, right_operand, conjunct, disjunct, test, entry_value, entry_key, own_entry, hole, argument, source, pattern_key, fold_start, fold_update, collect, left_side, try_body, label_body, evaluate, give, matching, go_back, raise, Choice, last_state, no_more, ForkPoint, fork, State, state}
use Rattle.jq_meaning.specs.machine.Stack.{cell_at, set_cell}
use Rattle.jq_meaning.specs.machine.Operations.{result_of, deliver, collect_value, note_true, replace_state}
use Rattle.jq_meaning.specs.machine.Evaluating.{next_entry, next_hole, next_argument}
use Rattle.jq_meaning.specs.machine.Matching.{match_part}

-- the left operand of `and` and `or` decides, or the right side is evaluated
abbrev pub decide : Bool → Value → Tree → Scope → Item → List Frame → List ForkPoint → State
decide true w right p x k fs = state (give (plain w)) k fs
decide false w right p x k fs = state (evaluate right p x) (operation to_truth ∷ k) fs

-- an object key must be a string
abbrev pub value_of_entry : (key : Value) → Tree → Entries → Members → Scope → Value → List Frame → List ForkPoint → State
value_of_entry (string key) f es made p v k fs = state (evaluate f p (plain v)) (entry_value key es made p v ∷ k) fs
value_of_entry w f es made p v k fs = deliver key_error k fs

-- the value of an entry `{"a"}` is the part of the input at that key
abbrev pub own_part : Answer → (key : List ℕ) → Entries → Members → Scope → Value → List Frame → List ForkPoint → State
own_part (Ok w) key es made p v k fs = next_entry es (put key w made) p v k fs
own_part (Err e) key es made p v k fs = state (raise e) k fs

-- the key of such an entry is known
abbrev pub own_value : (key : Value) → Entries → Members → Scope → Value → List Frame → List ForkPoint → State
own_value (string key) es made p v k fs = own_part (index_of v (string key)) key es made p v k fs
own_value w es made p v k fs = deliver key_error k fs

-- the text of an item between the text in front of it and the text after it
abbrev pub fill_hole : Text → Name → (front back : List ℕ) → List Hole → Scope → Item → List Frame → List ForkPoint → State
fill_hole (Ok s) format front back hs p x k fs = next_hole format (front ++ (s ++ back)) hs p x k fs
fill_hole (Err e) format front back hs p x k fs = state (raise e) k fs

-- what a fold returns at its end
abbrev pub at_end : Fold → Choice
at_end (reducing update) = last_state
at_end (extracting update extract) = no_more

-- an update has given a new state: `foreach` extracts from it
abbrev pub extract_of : Fold → Item → Scope → List Frame → List ForkPoint → State
extract_of (reducing update) y p k fs = state go_back k fs
extract_of (extracting update extract) y p k fs = state (evaluate extract p y) k fs

-- What is done with an item that is given to a frame. The frame is taken off the continuation.
abbrev pub receive : Frame → Item → List Frame → List ForkPoint → State
receive (operation o) y k fs = deliver (result_of o y) k fs
receive (pipe_into g p) y k fs = state (evaluate g p y) k fs
receive (target_key t guarded p x) y k fs = state (evaluate t p x) (operation (part_at_key guarded (value_in y)) ∷ k) fs
receive (slice_start t to guarded p x) y k fs = state (evaluate to p (as_value x)) (slice_end t (value_in y) guarded p x ∷ k) fs
receive (slice_end t start guarded p x) y k fs = state (evaluate t p x) (operation (part_at_key guarded (slice_key start (value_in y))) ∷ k) fs
receive (right_operand op f p x) y k fs = state (evaluate f p x) (operation (operate op (value_in y)) ∷ k) fs
receive (conjunct g p x) y k fs = decide (if is_true (value_in y) then false else true) (boolean false) g p x k fs
receive (disjunct g p x) y k fs = decide (is_true (value_in y)) (boolean true) g p x k fs
receive (test f g p x) y k fs = state (evaluate (if is_true (value_in y) then f else g) p x) k fs
receive (entry_value key es made p v) y k fs = next_entry es (put key (value_in y) made) p v k fs
receive (entry_key f es made p v) y k fs = value_of_entry (value_in y) f es made p v k fs
receive (own_entry es made p v) y k fs = own_value (value_in y) es made p v k fs
receive (hole format front back hs p x) y k fs = fill_hole (format_of format (value_in y)) format front back hs p x k fs
receive (argument b ts vs p x) y k fs = next_argument b ts (vs ++ value_in y ∷ []) p x k fs
receive (source pattern b p) y k fs = state (matching pattern (value_in y) [] b p) k fs
receive (pattern_key pattern ps v ts b p) y k fs = match_part (index_of v (value_in y)) pattern (λ w. p) (members_of ps v ∷ ts) b k fs
receive (fold_start t pattern f p x) y k fs =
    state (evaluate t p (as_value x)) (source pattern (fold_step (length fs) f) p ∷ k) (fork (at_end f) (y ∷ []) k ∷ fs)
receive (fold_update h f p) y k fs = extract_of f y p k (set_cell h (replace_state y (cell_at h fs)) fs)
receive (collect h) y k fs = state go_back k (set_cell h (collect_value y (cell_at h fs)) fs)
receive (left_side h) y k fs = state (if is_true (value_in y) then give y else go_back) k (set_cell h (note_true y (cell_at h fs)) fs)
receive (try_body h g p x) y k fs = state (give y) k fs
receive (label_body h level) y k fs = state (give y) k fs
