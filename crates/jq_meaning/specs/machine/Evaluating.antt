-- The transitions that evaluate a filter: what each form does first.
use Rattle.std.specs.Prelude.{ℕ, zero, suc, List, [], ◌∷◌, length, Option, Some, None}
use Rattle.jv_data.specs.Value.{Value, string, object, Members, no_members}
use Rattle.jq_natives.specs.declared.native.Native.{Native}
use Rattle.jq_natives.specs.declared.native.Native.TheVariants.{GetPath}
use Rattle.jq_tree.specs.Tree.{Name, Tree, Trees, no_trees, more_trees, trees_count, Pieces, Entries}
use Rattle.jq_tree.specs.Tree as tree
use Rattle.jq_meaning.specs.Runs.{Item, plain, located, value_in, as_value, deep, bind}
use Rattle.jq_meaning.specs.Env.{Env, bound, function, label_of, Callee, found_function, found_closure, no_callee, find_value, find_level, find_callee, find_in_prelude, find_inputs, with_arguments}
use Rattle.jq_meaning.specs.Continuations.{value_of_literal, text_item, put_between, format_of}
use Rattle.jq_meaning.specs.Builtins.{Builtin, no_outputs, paths, range, all_inputs, halts, native, unknown, builtin_named, plain_items}
use Rattle.jq_meaning.specs.machine.State.{Scope, with_env, part_at_key, every_part, negate, path_value, refuse, reducing, extracting, body, Hole, Frame, operation, pipe_into, target_key, slice_start, right_operand, conjunct, disjunct, test, entry_value, entry_key, own_entry, hole, argument, source, fold_start, collect, left_side, try_body, label_body, evaluate, give, go_back, leave, quit, other, collected, right_side, ForkPoint, fork, State, state}
use Rattle.jq_meaning.specs.machine.Operations.{applied, deliver}

-- ---- forms with a list of parts

-- an object that is made so far, with the entries that remain
abbrev pub next_entry : Entries → Members → Scope → Value → List Frame → List ForkPoint → State
next_entry tree.no_entries made p v k fs = state (give (plain (object made))) k fs
next_entry (tree.more_entries (tree.named key f) es) made p v k fs = state (evaluate f p (plain v)) (entry_value key es made p v ∷ k) fs
next_entry (tree.more_entries (tree.computed key f) es) made p v k fs = state (evaluate key p (plain v)) (entry_key f es made p v ∷ k) fs
next_entry (tree.more_entries (tree.own key) es) made p v k fs = state (evaluate key p (plain v)) (own_entry es made p v ∷ k) fs

-- a string that is built from its end: the text so far, and the filters that remain, the last one first
abbrev pub next_hole : Name → List ℕ → List Hole → Scope → Item → List Frame → List ForkPoint → State
next_hole format back [] p x k fs = state (give (plain (string back))) k fs
next_hole format back (h ∷ hs) p x k fs = state (evaluate h.filter p x) (hole format h.front back hs p x ∷ k) fs

-- searches for the last piece, and keeps each filter on the way
abbrev pub enter_pieces : Name → Pieces → List Hole → Scope → Item → List Frame → List ForkPoint → State
enter_pieces format (tree.last_piece s) hs p x k fs = next_hole format s hs p x k fs
enter_pieces format (tree.more_pieces s f ps) hs p x k fs = enter_pieces format ps (record { front = s; filter = f } ∷ hs) p x k fs

-- the values of the first arguments, and the arguments that remain; when none remains, the call itself
abbrev pub next_argument : Builtin → Trees → List Value → Scope → Item → List Frame → List ForkPoint → State
next_argument b no_trees vs p x k fs = deliver (applied b x vs) k fs
next_argument b (more_trees t ts) vs p x k fs = state (evaluate t p (plain (value_in x))) (argument b ts vs p x ∷ k) fs

-- ---- calls

-- a body runs with a call depth that is smaller by one
abbrev pub enter_body : (depth : ℕ) → Tree → Env → (level : ℕ) → Item → List Frame → List ForkPoint → State
enter_body zero t e level x k fs = state (quit deep) k fs
enter_body (suc depth) t e level x k fs = state (evaluate t (record { env = e; depth = depth; level = level }) x) k fs

-- a form that has no paths: inside `path(f)` it runs on the value alone, and its items are refused
abbrev pub on_value : Item → Tree → Scope → List Frame → List ForkPoint → (Value → State) → State
on_value (plain v) t p k fs go = go v
on_value (located v path) t p k fs go = state (evaluate t p (plain v)) (operation refuse ∷ k) fs

-- `path(f)`: f runs on the value with the empty path; a frame turns each output into its path
abbrev pub enter_paths : Trees → Scope → Value → List Frame → List ForkPoint → State
enter_paths no_trees p v k fs = state go_back k fs
enter_paths (more_trees t ts) p v k fs = state (evaluate t p (located v [])) (operation path_value ∷ k) fs

-- a native: its arguments are evaluated first
abbrev pub enter_native : Native → Name → Trees → Scope → Item → List Frame → List ForkPoint → State
enter_native GetPath n ts p x k fs = next_argument (native GetPath) ts [] p x k fs
enter_native f n ts p x k fs = on_value x (tree.call n ts) p k fs (λ v. next_argument (native f) ts [] p (plain v) k fs)

-- a name of the language that is not defined in the prelude
abbrev pub enter_builtin : Builtin → Name → Trees → Scope → Item → List Frame → List ForkPoint → State
enter_builtin no_outputs n ts p x k fs = state go_back k fs
enter_builtin paths n ts p x k fs = on_value x (tree.call n ts) p k fs (λ v. enter_paths ts p v k fs)
enter_builtin range n ts p x k fs = on_value x (tree.call n ts) p k fs (λ v. next_argument range ts [] p (plain v) k fs)
enter_builtin all_inputs n ts p x k fs = on_value x (tree.call n ts) p k fs (λ v. deliver (plain_items (find_inputs p.env)) k fs)
enter_builtin halts n ts p x k fs = next_argument halts ts [] p x k fs
enter_builtin (native f) n ts p x k fs = enter_native f n ts p x k fs
enter_builtin unknown n ts p x k fs = state go_back k fs

-- a call of the callee, or the other state if there is none
abbrev pub enter_callee : Callee → Trees → Scope → Item → List Frame → List ForkPoint → State → State
enter_callee (found_function parameters t own) ts p x k fs otherwise = enter_body p.depth t (with_arguments parameters ts p.env own) p.level x k fs
enter_callee (found_closure t own) ts p x k fs otherwise = enter_body p.depth t own p.level x k fs
enter_callee no_callee ts p x k fs otherwise = otherwise

-- ---- labels

-- the scope inside a label
abbrev pub enter_label : Name → Scope → Scope
enter_label n p = record { env = bound (label_of n p.level) p.env; depth = p.depth; level = suc p.level }

-- a break leaves its label; without a label there are no outputs
abbrev pub enter_break : Option ℕ → List Frame → List ForkPoint → State
enter_break (Some level) k fs = state (leave level) k fs
enter_break None k fs = state go_back k fs

-- ---- every form

-- The first transition when a tree is evaluated in a scope on an item, with these frames and these fork points.
abbrev pub enter : Tree → Scope → Item → List Frame → List ForkPoint → State
enter tree.identity p x k fs = state (give x) k fs
enter tree.empty p x k fs = state go_back k fs
enter (tree.literal l) p x k fs = on_value x (tree.literal l) p k fs (λ v. state (give (plain (value_of_literal l))) k fs)
enter (tree.text format ps) p x k fs = on_value x (tree.text format ps) p k fs (λ v. enter_pieces format ps [] p (plain v) k fs)
enter (tree.format n) p x k fs = on_value x (tree.format n) p k fs (λ v. deliver (bind (put_between [] [] (format_of n v)) text_item) k fs)
enter (tree.variable n) p x k fs = on_value x (tree.variable n) p k fs (λ v. state (give (plain (find_value n p.env))) k fs)
enter (tree.field t key guarded) p x k fs = state (evaluate t p x) (operation (part_at_key guarded (string key)) ∷ k) fs
enter (tree.index t key guarded) p x k fs = state (evaluate key p (as_value x)) (target_key t guarded p x ∷ k) fs
enter (tree.slice t from to guarded) p x k fs = state (evaluate from p (as_value x)) (slice_start t to guarded p x ∷ k) fs
enter (tree.iterate t guarded) p x k fs = state (evaluate t p x) (operation (every_part guarded) ∷ k) fs
enter (tree.pipe f g) p x k fs = state (evaluate f p x) (pipe_into g p ∷ k) fs
enter (tree.comma f g) p x k fs = state (evaluate f p x) k (fork (other g p x) [] k ∷ fs)
enter (tree.binary op f g) p x k fs = on_value x (tree.binary op f g) p k fs (λ v. state (evaluate g p (plain v)) (right_operand op f p (plain v) ∷ k) fs)
enter (tree.conjunction f g) p x k fs = on_value x (tree.conjunction f g) p k fs (λ v. state (evaluate f p (plain v)) (conjunct g p (plain v) ∷ k) fs)
enter (tree.disjunction f g) p x k fs = on_value x (tree.disjunction f g) p k fs (λ v. state (evaluate f p (plain v)) (disjunct g p (plain v) ∷ k) fs)
enter (tree.alternative f g) p x k fs = state (evaluate f p x) (left_side (length fs) ∷ k) (fork (right_side g p x) [] k ∷ fs)
enter (tree.negation f) p x k fs = on_value x (tree.negation f) p k fs (λ v. state (evaluate f p (plain v)) (operation negate ∷ k) fs)
enter (tree.array f) p x k fs = on_value x (tree.array f) p k fs (λ v. state (evaluate f p (plain v)) (collect (length fs) ∷ k) (fork collected [] k ∷ fs))
enter (tree.object es) p x k fs = on_value x (tree.object es) p k fs (λ v. next_entry es no_members p v k fs)
enter (tree.choice c f g) p x k fs = state (evaluate c p (as_value x)) (test f g p x ∷ k) fs
enter (tree.try_catch f g) p x k fs = state (evaluate f p x) (try_body (length fs) g p x ∷ k) fs
enter (tree.label n f) p x k fs = state (evaluate f (enter_label n p) x) (label_body (length fs) p.level ∷ k) fs
enter (tree.break n) p x k fs = enter_break (find_level n p.env) k fs
enter (tree.bind_as t pattern f) p x k fs = state (evaluate t p (as_value x)) (source pattern (body f x) p ∷ k) fs
enter (tree.reduce t pattern start update) p x k fs = state (evaluate start p x) (fold_start t pattern (reducing update) p x ∷ k) fs
enter (tree.foreach t pattern start update extract) p x k fs = state (evaluate start p x) (fold_start t pattern (extracting update extract) p x ∷ k) fs
enter (tree.define n parameters t rest) p x k fs = state (evaluate rest (with_env (bound (function n parameters t) p.env) p) x) k fs
enter (tree.call n ts) p x k fs = enter_callee (find_callee n (trees_count ts) p.env) ts p x k fs (enter_builtin (builtin_named n (trees_count ts)) n ts p x k fs)
enter (tree.prelude_call n ts) p x k fs = enter_callee (find_in_prelude n (trees_count ts) p.env) ts p x k fs (state go_back k fs)
