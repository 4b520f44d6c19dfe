-- What calls find and run, and what is claimed of natives, of paths and of comparisons of `type`.
use Rattle.std.proofs.Common.{◌≡◌, ◌∙◌, ℕ, List, [], ◌∷◌, map, length, get_or, refl, sym, ap, subst, arith, ◌<◌, Bool, true, false, ◌&&◌, if◌then◌else◌, nat_eq, ◌+◌, add-one, Option, Some, None, IfSome, Ok}
use Rattle.jv_data.specs.Value.{Value, string, boolean}
use Rattle.jq_ast.specs.Named.{named, named_member, named_pattern, named_tree}
use Rattle.jq_natives.specs.declared.native.Native.{Native}
use Rattle.jq_natives.specs.declared.native.Native.TheVariants.{GetPath, TypeName}
use Rattle.jq_operations.specs.Language.{meaning_of}
use Rattle.jq_operations.specs.declared.named_builtins.Builtin.TheVariants as builtin
use Rattle.jq_tree.specs.Tree.{trees_of, Name, Trees, no_trees, more_trees, Tree, trees_count, Operator, binary, call, literal}
use Rattle.jq_meaning.specs.Builtins.{each_choice, native_run, plain_native, Builtin, builtin_named, builtin_run}
use Rattle.jq_meaning.specs.Meaning.{arguments_with, below, called, meaning}
use Rattle.jq_meaning.specs.Runs.{Run, Item, plain, value_in, bind, none, answered, one, paths_in}
use Rattle.jq_single.specs.declared.contexts.Context.{Context}
use Rattle.jq_single.specs.private.Parts.{run, builtin_in, RunsTo}
use Rattle.jq_single.specs.private.Scopes.{outside_in, scope_env}
use Rattle.std.specs.Prelude.{bytes_eq}
use Rattle.std.proofs.lemmas.Bool.Decides.{nat_tests}
use Rattle.jq_meaning.specs.Env.{Env, Callee, bound, closure, find_callee, find_in_prelude, found_closure, with_arguments, found_function, no_callee, callee_or, find_inputs}
use Rattle.std.proofs.lemmas.Bool.{false≢true}
use Rattle.jv_data.specs.Text.{text_of}
use Rattle.jq_ast.proofs.shared.Counts.{count_trees}
use Rattle.jq_ast.proofs.shared.Forms.{named-Call, named-PreludeCall}
use Rattle.jq_ast.specs.Constants.{is_text}
use Rattle.jq_ast.specs.Leaves.{characters, literal_of}
use Rattle.jq_ast.specs.declared.leaves.Literal.{Literal}
use Rattle.jq_ast.specs.declared.tree.Function.{Function}
use Rattle.jq_ast.specs.declared.tree.Member.TheFolds.{fold-roll-Tree}
use Rattle.jq_ast.specs.declared.tree.Member.TheOpen.{Tree-F}
use Rattle.jq_single.specs.declared.scopes.Scope.{Scope}
use Rattle.jv_data.proofs.shared.Levels.{view-Bool}
use Rattle.jv_data.specs.Kind.{kind_name}
use Rattle.jq_natives.specs.Answers.{yes_or_no}
use Rattle.jq_meaning.specs.Continuations.{value_of_literal, on_left, on_right}
use Rattle.jq_meaning.specs.Steps.{operator_of}
use Rattle.jq_meaning.proofs.shared.machine.RunLaws.{bind-one, bind-bind}
use Rattle.jq_single.proofs.Binding.{bind-known}
use Rattle.jq_meaning.specs.machine.Operations.{path_item}
use Rattle.jq_meaning.proofs.shared.machine.ShapeLaws.{paths-bind}
use Rattle.jq_single.specs.declared.scopes.Scope.TheVariants as scope
use Rattle.jq_ast.specs.declared.tree.Tree as ast
use Rattle.jq_ast.specs.declared.tree.Tree.TheVariants as code
use Rattle.jq_tree.specs.Tree as tree
use Rattle.jq_operations.specs.Callees as callees
use Rattle.jv_data.specs.declared.values.Val as val

-- the trees of calls
pub ruleset call_forms = (named-Call, named-PreludeCall)

-- the items of a list of one or two
pub one_value : {A : Type 0} (ts : List A) (a : A) → length ts ≡ 1 → a ≡ get_or ts 0 a → ts ≡ a ∷ []
one_value [] a e h = absurd (omega (arith, e))
one_value (x ∷ []) a e h = ap (λ z. z ∷ []) (sym h)
one_value (x ∷ y ∷ ts) a e h = absurd (omega (arith, e))

pub two_values : {A : Type 0} (ts : List A) (a b : A) → length ts ≡ 2 → a ≡ get_or ts 0 a → b ≡ get_or ts 1 b → ts ≡ a ∷ b ∷ []
two_values [] a b e h k = absurd (omega (arith, e))
two_values (x ∷ []) a b e h k = absurd (omega (arith, e))
two_values (x ∷ y ∷ []) a b e h k = ap (λ z. z ∷ y ∷ []) (sym h) ∙ ap (λ z. a ∷ z ∷ []) (sym k)
two_values (x ∷ y ∷ z ∷ ts) a b e h k = absurd (omega (arith, e))

-- without a path `getpath` is like the others
pub native_plain : (f : Native) (rs : List (Run Item)) (v : Value) → native_run f rs (plain v) ≡ each_choice rs (plain_native f v)
native_plain GetPath rs v = refl
native_plain f rs v = refl

-- with two arguments
pub two_chosen : (p : Context) (inputs : Run Value) (level : ℕ) (g : List Value → Run Item) (ts : List ast.Tree) (t u : ast.Tree) (v : Value) → length ts ≡ 2
    → t ≡ get_or ts 0 t → u ≡ get_or ts 1 u
    → each_choice (arguments_with (below p.depth) (trees_of (map named ts)) (scope_env inputs p.scope.now) level (plain v)) g
    ≡ bind (run p inputs level (named t) (plain v)) (λ x. bind (run p inputs level (named u) (plain v)) (λ y. g (value_in x ∷ value_in y ∷ [])))
two_chosen p inputs level g ts t u v e h k =
    ap (λ us. each_choice (arguments_with (below p.depth) (trees_of (map named us)) (scope_env inputs p.scope.now) level (plain v)) g) (two_values ts t u e h k)

-- what is the same past each argument is the same past all of them
pub past : {A : Type 0} (f : Env → A) → ((p : Name) (t : Tree) (caller e : Env) → f (bound (closure p t caller) e) ≡ f e) → (ps : List Name) (ts : Trees) (caller own : Env) → f (with_arguments ps ts caller own) ≡ f own
past f same [] ts caller own = refl
past f same (p ∷ ps) no_trees caller own = refl
past f same (p ∷ ps) (more_trees t ts) caller own = past f same ps ts caller (bound (closure p t caller) own) ∙ same p t caller own

-- an argument has no arguments itself
unequal : (count : ℕ) → 0 < count → nat_eq count 0 ≡ false
unequal count h = grind (arith, nat_tests)

skipped : (b c : Bool) (x y : Callee) → c ≡ false → (if b && c then x else y) ≡ y
skipped true false x y e = refl
skipped true true x y e = absurd (cc)
skipped false c x y e = refl

pub callee_past : (n : Name) (count : ℕ) (ps : List Name) (ts : Trees) (caller own : Env) → 0 < count → find_callee n count (with_arguments ps ts caller own) ≡ find_callee n count own
callee_past n count ps ts caller own h =
    past (find_callee n count) (λ p t c e. skipped (bytes_eq n p) (nat_eq count 0) (found_closure t c) (find_callee n count e) (unequal count h)) ps ts caller own

-- with the callee that is found
pub finds : (p : Context) (inputs : Run Value) (level : ℕ) (n : Name) (ts : List ast.Tree) (c : Callee) (x : Item)
    → c ≡ find_callee n (length ts) (scope_env inputs p.scope.now)
    → run p inputs level (tree.call n (trees_of (map named ts))) x
    ≡ called (below p.depth) c (trees_of (map named ts)) (scope_env inputs p.scope.now) level x
    (builtin_run (builtin_named n (trees_count (trees_of (map named ts)))) (arguments_with (below p.depth) (trees_of (map named ts)) (scope_env inputs p.scope.now) level) (find_inputs (scope_env inputs p.scope.now)) x)
finds p inputs level n ts c x h =
    let us = trees_of (map named ts) in
    let e = scope_env inputs p.scope.now in
    ap (λ z. called (below p.depth) z us e level x (builtin_run (builtin_named n (trees_count us)) (arguments_with (below p.depth) us e level) (find_inputs e) x))
    (ap (λ k. find_callee n k e) (count_trees ts) ∙ sym h)

pub builtin_runs : (p : Context) (inputs : Run Value) (level : ℕ) (n : Name) (ts : List ast.Tree) (b : Builtin) (x : Item)
    → no_callee ≡ find_callee n (length ts) (scope_env inputs p.scope.now) → b ≡ builtin_named n (length ts)
    → run p inputs level (tree.call n (trees_of (map named ts))) x ≡ builtin_in p inputs level b (trees_of (map named ts)) x
builtin_runs p inputs level n ts b x h k =
    finds p inputs level n ts no_callee x h
    ∙ ap (λ z. builtin_in p inputs level z (trees_of (map named ts)) x) (ap (builtin_named n) (count_trees ts) ∙ sym k)

-- ---- functions of the prelude

or-self : (x : Callee) → callee_or x x ≡ x
or-self (found_function ps t own) = refl
or-self (found_closure t own) = refl
or-self no_callee = refl

or-more : (r x y : Callee) → callee_or r x ≡ x → callee_or r (callee_or x y) ≡ callee_or x y
or-more (found_function ps t own) x y h = ap (λ z. callee_or z y) h
or-more (found_closure t own) x y h = ap (λ z. callee_or z y) h
or-more no_callee x y h = refl

-- what the environment of the run finds, every scope in it finds
pub prelude_outside : (inputs : Run Value) (n : Name) (count : ℕ) (s : Scope)
    → callee_or (find_in_prelude n count (scope_env inputs (scope.Run (outside_in s)))) (find_in_prelude n count (scope_env inputs s)) ≡ find_in_prelude n count (scope_env inputs s)
prelude_outside inputs n count (scope.Run o) = or-self (find_in_prelude n count (scope_env inputs (scope.Run o)))
prelude_outside inputs n count (scope.Value' p outer name v) = prelude_outside inputs n count outer
prelude_outside inputs n count (scope.Function' p outer f) = or-more (find_in_prelude n count (scope_env inputs (scope.Run (outside_in outer)))) (find_in_prelude n count (scope_env inputs outer)) _ (prelude_outside inputs n count outer)
prelude_outside inputs n count (scope.Call' p own ps ts q caller) =
    subst (λ (x : Callee). callee_or (find_in_prelude n count (scope_env inputs (scope.Run (outside_in own)))) x ≡ x)
    (sym (past (find_in_prelude n count) (λ p t c e. refl) (map text_of ps.now) (trees_of (map named ts.now)) (scope_env inputs caller) (scope_env inputs own))) (prelude_outside inputs n count own)

pub prelude_runs : (p : Context) (inputs : Run Value) (level : ℕ) (n : Name) (ts : List ast.Tree) (f : Function ast.Tree) (own : Env) (x : Item)
    → callees.found f own ≡ find_in_prelude n (length ts) (scope_env inputs p.scope.now)
    → run p inputs level (tree.prelude_call n (trees_of (map named ts))) x ≡ below p.depth (named f.body) (with_arguments (map text_of f.parameters.items) (trees_of (map named ts)) (scope_env inputs p.scope.now) own) level x
prelude_runs p inputs level n ts f own x h =
    let us = trees_of (map named ts) in
    let e = scope_env inputs p.scope.now in
    ap (λ z. called (below p.depth) z us e level x none) (ap (λ k. find_in_prelude n k e) (count_trees ts) ∙ sym h)

-- a call depth that is smaller by one
pub body_runs : (e : Env) (depth less level : ℕ) (t : Tree) (x : Item) → depth ≡ less + 1 → meaning less t e level x ≡ below depth t e level x
body_runs e depth less level t x d = ap (λ k. below k t e level x) (sym (add-one less) ∙ sym d)

-- the tree of `.`
pub named-Identity : named code.Identity ≡ tree.identity
named-Identity = ap named (sym code.rolls-Identity) ∙ fold-roll-Tree tree.Part tree.Pattern tree.Tree named_member named_pattern named_tree Tree-F.Identity

-- the tree of a constant
pub named-Literal : (l : Literal) → named (code.Literal l) ≡ tree.literal (literal_of l)
named-Literal l = ap named (sym (code.rolls-Literal l)) ∙ fold-roll-Tree tree.Part tree.Pattern tree.Tree named_member named_pattern named_tree (Tree-F.Literal l)

-- a text is the string of its characters
pub text_is : (v : Value) → is_text v ≡ true → v ≡ string (characters v)
text_is (string s) h = refl
text_is v h = absurd (false≢true h)

-- a comparison of a filter's one output
told : (p : Context) (inputs : Run Value) (level : ℕ) (op : Operator) (t : Tree) (l : tree.Literal) (v w : Value) (b : Bool)
    → run p inputs level t (plain v) ≡ one (plain w) → operator_of op w (value_of_literal l) ≡ yes_or_no b
    → run p inputs level (binary op t (literal l)) (plain v) ≡ one (plain (boolean b))
unfolding on_left on_right
told p inputs level op t l v w b h k =
    bind-one (plain (value_of_literal l)) (on_right op (run p inputs level t (plain v)))
    ∙ bind-known (run p inputs level t (plain v)) (plain w) (on_left op (value_of_literal l)) h
    ∙ ap (answered plain) k

-- the output of `type`
pub type_run : (p : Context) (inputs : Run Value) (level : ℕ) (ts : List ast.Tree) (v : Value) → length ts < 1
    → builtin_in p inputs level (meaning_of (builtin.Native TypeName)) (trees_of (map named ts)) (plain v) ≡ one (plain (string (kind_name v)))
type_run p inputs level [] v h = refl
type_run p inputs level (t ∷ ts) v h = absurd (omega (arith, h))

-- a comparison of it
pub kind_told : (p : Context) (op : Operator) (t u : Tree) (l : tree.Literal) (v : Value) (r : Option Bool) → u ≡ literal l
    → ((inputs : Run Value) (level : ℕ) → run p inputs level t (plain v) ≡ one (plain (string (kind_name v))))
    → IfSome r (λ b. operator_of op (string (kind_name v)) (value_of_literal l) ≡ yes_or_no b) → IfSome r (λ b. RunsTo p (binary op t u) v (Ok (val.Bool b)))
kind_told p op t u l v None d g h = tt
kind_told p op t u l v (Some b) d g h = λ inputs level.
    ap (λ z. run p inputs level (binary op t z) (plain v)) d
    ∙ told p inputs level op t l v (string (kind_name v)) b (g inputs level) h ∙ ap (λ (w : Value). one (plain w)) (sym (view-Bool b))

pub paths-rest : (r : Run Item) (later : Item → Run Item) → bind (paths_in r) later ≡ bind r (λ x. bind (path_item x) later)
paths-rest r later = ap (λ q. bind q later) (paths-bind r) ∙ bind-bind r path_item later
