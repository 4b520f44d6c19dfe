-- The transitions of patterns, and of what runs in the bindings that they make.
use Rattle.std.specs.Prelude.{ℕ, suc, pos, List, [], ◌∷◌, Ok, Err}
use Rattle.jv_data.specs.Value.{Value, number, string}
use Rattle.jv_value.specs.Index.{index_of}
use Rattle.jq_natives.specs.Answers.{Answer}
use Rattle.jq_tree.specs.Tree.{Pattern, no_patterns, more_patterns, no_parts, more_parts, Tree}
use Rattle.jq_tree.specs.Tree as tree
use Rattle.jq_meaning.specs.Runs.{Item, plain, located}
use Rattle.jq_meaning.specs.Env.{bound, value_of}
use Rattle.jq_meaning.specs.machine.State.{Scope, with_env, Fold, reducing, extracting, Binder, body, fold_step, Task, items_from, members_of, Frame, pattern_key, fold_update, evaluate, raise, matching, matched, check_update, ForkPoint, fork, State, state}
use Rattle.jq_meaning.specs.machine.Stack.{cell_at, set_cell}
use Rattle.jq_meaning.specs.machine.Operations.{state_in}

-- the update of a fold
abbrev pub update_of : Fold → Tree
update_of (reducing update) = update
update_of (extracting update extract) = update

-- inside `path(f)` an update without output is an error, so a fork point below the update checks for that
abbrev pub checked : Item → (height : ℕ) → List Frame → List ForkPoint → List ForkPoint
checked (plain v) h k fs = fs
checked (located v path) h k fs = fork (check_update h) [] k ∷ fs

-- the update runs on the state, and the cell of the state is emptied
abbrev pub enter_update : Item → (height : ℕ) → Fold → Scope → List Frame → List ForkPoint → State
enter_update y h f p k fs = state (evaluate (update_of f) p y) (fold_update h f p ∷ k) (checked y h k (set_cell h [] fs))

-- a body runs, or a step of a fold
abbrev pub run_bound : Binder → Scope → List Frame → List ForkPoint → State
run_bound (body t x) p k fs = state (evaluate t p x) k fs
run_bound (fold_step h f) p k fs = enter_update (state_in (cell_at h fs)) h f p k fs

-- a pattern is matched with the part at a key, if there is such a part
abbrev pub match_part : Answer → Pattern → (Value → Scope) → List Task → Binder → List Frame → List ForkPoint → State
match_part (Ok w) pattern scope ts b k fs = state (matching pattern w ts b (scope w)) k fs
match_part (Err e) pattern scope ts b k fs = state (raise e) k fs

-- What a pattern binds for a value; its parts become tasks.
abbrev pub match_pattern : Pattern → Value → List Task → Binder → Scope → List Frame → List ForkPoint → State
match_pattern (tree.whole n) v ts b p k fs = state (matched ts b (with_env (bound (value_of n v) p.env) p)) k fs
match_pattern (tree.items ps) v ts b p k fs = state (matched (items_from ps 0 v ∷ ts) b p) k fs
match_pattern (tree.members ps) v ts b p k fs = state (matched (members_of ps v ∷ ts) b p) k fs

-- The tasks that remain, the innermost first.
abbrev pub match_later : List Task → Binder → Scope → List Frame → List ForkPoint → State
match_later [] b p k fs = run_bound b p k fs
match_later (items_from no_patterns i v ∷ ts) b p k fs = state (matched ts b p) k fs
match_later (items_from (more_patterns q ps) i v ∷ ts) b p k fs = match_part (index_of v (number (pos i))) q (λ w. p) (items_from ps (suc i) v ∷ ts) b k fs
match_later (members_of no_parts v ∷ ts) b p k fs = state (matched ts b p) k fs
match_later (members_of (more_parts (tree.keyed key q) ps) v ∷ ts) b p k fs = state (evaluate key p (plain v)) (pattern_key q ps v ts b p ∷ k) fs
match_later (members_of (more_parts (tree.keyed_variable n q) ps) v ∷ ts) b p k fs =
    match_part (index_of v (string n)) q (λ w. with_env (bound (value_of n w) p.env) p) (members_of ps v ∷ ts) b k fs
