-- The outputs of the parts of a filter that has at most one output.
use Rattle.std.specs.Prelude.{◌≡◌, ℕ, List, map, Option, Some, None, Result, Ok, Err}
use Rattle.jq_natives.specs.declared.native.Native.{Native}
use Rattle.jv_data.specs.Value.{Value}
use Rattle.jv_data.specs.View.{view}
use Rattle.jv_data.specs.declared.values.Val.{Val}
use Rattle.jq_ast.specs.Named.{named}
use Rattle.jq_ast.specs.declared.tree.Function.{Function}
use Rattle.jq_ast.specs.declared.tree.Tree as ast
use Rattle.jq_tree.specs.Tree.{Name, Tree, Trees, trees_of}
use Rattle.jq_meaning.specs.Builtins.{Builtin, builtin_run, each_choice, plain_native}
use Rattle.jq_meaning.specs.Env.{find_callee, find_inputs}
use Rattle.jq_meaning.specs.Meaning.{arguments_with, below, meaning}
use Rattle.jq_meaning.specs.Runs.{Item, plain, Run, one, bind}
use Rattle.jq_operations.specs.Language.{meaning_of}
use Rattle.jq_single.specs.Single.{Changed, Comes}
use Rattle.jq_single.specs.private.Scopes.{body_env, scope_env}
use Rattle.jq_single.specs.declared.finding.Called.{Called}
use Rattle.jq_single.specs.declared.finding.Called.TheVariants as called
use Rattle.jq_single.specs.declared.contexts.Context.{Context}
use Rattle.jq_state.specs.Environments.{envs_of}
use Rattle.jq_state.specs.Nodes.{env_at}
use Rattle.jq_single.specs.declared.scopes.Outside.{Outside}
use Rattle.jq_single.specs.declared.scopes.Scope.{Scope}
use Rattle.jq_single.specs.declared.stops.Stop.{Stop}

-- A run with one output, or without output.
abbrev pub Answers : Result Val Stop → Run Item → Type 0
Answers a r = Comes (λ v. one (plain (view v))) a r

-- The run of a tree in a context, for a label level.
abbrev pub run : Context → Run Value → (level : ℕ) → Tree → Item → Run Item
run p inputs level t x = meaning p.depth t (scope_env inputs p.scope.now) level x

-- The run of a tree on a value.
abbrev pub RunsTo : Context → Tree → Value → Result Val Stop → Type 0
RunsTo p t v result = (inputs : Run Value) (level : ℕ) → Answers result (run p inputs level t (plain v))

-- The same where the output replaces the value.
abbrev pub ChangesTo : {A : Type 0} → Context → Tree → (before later : Value) → Result A Stop → Type 0
ChangesTo p t v w result = (inputs : Run Value) (level : ℕ) → Changed result w (run p inputs level t (plain v))

-- The run of a tree, followed by another filter.
abbrev pub Follows : Context → Tree → Value → (Item → Run Item) → Result Val Stop → Type 0
Follows p t v next result = (inputs : Run Value) (level : ℕ) → Answers result (bind (run p inputs level t (plain v)) next)

-- A value that counts is the output of an alternative, and without one its right side is run.
abbrev pub found_or : Option Val → Run Item → Run Item
found_or (Some v) q = one (plain (view v))
found_or None q = q

-- The answer of a run whose error is caught, or the error that the handler is run on.
abbrev pub Catches : Result (Result Val Stop) Val → (handler : Value → Run Item) → Run Item → Type 0
Catches (Ok a) handler r = Answers a r
Catches (Err e) handler r = r ≡ handler (view e)

-- ---- names of the language

-- The run of a call, from the runs of its arguments.
abbrev pub builtin_in : Context → Run Value → (level : ℕ) → Builtin → Trees → Item → Run Item
builtin_in p inputs level b ts x =
    let e = scope_env inputs p.scope.now in builtin_run b (arguments_with (below p.depth) ts e level) (find_inputs e) x

abbrev pub native_in : Context → Run Value → (level : ℕ) → Native → Trees → Value → Run Item
native_in p inputs level f ts v = each_choice (arguments_with (below p.depth) ts (scope_env inputs p.scope.now) level (plain v)) (plain_native f v)

-- The answer replaces the value.
abbrev pub ChangesByBuiltin : {A : Type 0} → Context → Builtin → Trees → (before later : Value) → Result A Stop → Type 0
ChangesByBuiltin p b ts v w result = (inputs : Run Value) (level : ℕ) → Changed result w (builtin_in p inputs level b ts (plain v))

abbrev pub ChangesByNative : {A : Type 0} → Context → Native → Trees → (before later : Value) → Result A Stop → Type 0
ChangesByNative p f ts v w result = (inputs : Run Value) (level : ℕ) → Changed result w (native_in p inputs level f ts v)

-- A call finds in an environment of the run what it finds in a context.
abbrev pub FindsAlike : Context → Outside → Name → (count : ℕ) → Type 0
FindsAlike p o n count = (inputs : Run Value) → find_callee n count (env_at (envs_of inputs o.nodes.now) o.env) ≡ find_callee n count (scope_env inputs p.scope.now)

-- A call runs a function's body, whose own environment begins with the function's binding.
abbrev pub RunsBody : Context → Tree → Function ast.Tree → (own : Scope) → List ast.Tree → Type 0
RunsBody p t f own ts =
    (inputs : Run Value) (level : ℕ) (x : Item) → run p inputs level t x ≡ below p.depth (named f.body) (body_env f.parameters.items ts (scope_env inputs p.scope.now) (scope_env inputs own)) level x

-- What a call runs is the run of its tree.
abbrev pub Calls : Context → Tree → Called → Type 0
Calls p t (called.Body body ps own ts) =
    (inputs : Run Value) (level : ℕ) (x : Item) → run p inputs level t x ≡ below p.depth (named body.now) (body_env ps.now ts.now (scope_env inputs p.scope.now) (scope_env inputs own)) level x
Calls p t (called.Builtin b ts) = (inputs : Run Value) (level : ℕ) (x : Item) → run p inputs level t x ≡ builtin_in p inputs level (meaning_of b) (trees_of (map named ts.now)) x
Calls p t called.Unknown = Unit {0}

-- A tree is run as another one, at a depth and in a scope of its own.
abbrev pub IsRunAs : Context → Tree → (depth : ℕ) → (filter : Tree) → (own : Scope) → Type 0
IsRunAs p t depth filter own = (inputs : Run Value) (level : ℕ) (x : Item) → run p inputs level t x ≡ meaning depth filter (scope_env inputs own) level x

-- The body of a function is what each call runs whose run is that of the body.
abbrev pub IsBodyOf : Called → Function ast.Tree → (own : Scope) → List ast.Tree → Type 0
IsBodyOf called f own ts = (p : Context) (t : Tree) → RunsBody p t f own ts → Calls p t called
