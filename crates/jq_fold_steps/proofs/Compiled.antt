-- Compiled filters that are folds.
use Rattle.std.proofs.Common.{◌≡◌, ℕ, Bool, suc, ◌+◌, List, [], ◌∷◌, map, length, true, refl, sym, ap, ap₂, ◌∙◌, subst, arith}
use Rattle.jv_data.specs.Value.{Value}
use Rattle.jq_tree.specs.Tree.{Name}
use Rattle.jq_tree.specs.Tree as tree
use Rattle.jq_tree.specs.Filter as filter
use Rattle.jq_tree.specs.Filter.{HasPlan, plan_per_input, plan_slurp, plan_fold, plan_other_null, BecomesAfter, as_tree}
use Rattle.jq_tree.specs.Inputs.{inputs, FoldShape, InputsInPlace}
use Rattle.jq_tree.specs.Names.{Scope, to_function, is_bound}
use Rattle.jq_tree.specs.Prelude.{followed_by}
use Rattle.jq_ast.specs.Named.{named}
use Rattle.jq_ast.specs.declared.tree.Function.{Function}
use Rattle.jq_ast.specs.declared.tree.Tree.{Tree}
use Rattle.jq_meaning.specs.Programs.{program_env, with_bindings}
use Rattle.jq_meaning.specs.Env as env
use Rattle.jq_meaning.specs.Env.{Env, outermost, bound, with_variables}
use Rattle.jq_meaning.specs.Runs.{Run, none}
use Rattle.jq_resolver.specs.Programs.{named_program}
use Rattle.jq_state.specs.Nodes.{program_binding}
use Rattle.jq_state.specs.declared.environments.ProgramBinding.{ProgramBinding}
use Rattle.jq_folds.specs.laws.Programs.{within, scope_within, HasNoInputs, DefinitionsLeaveInputsAlone}
use Rattle.jq_folds.specs.laws.Reading.{LeavesInputsAlone}
use Rattle.jq_filters.specs.Programs.{bindings_of, function_binding}
use Rattle.jq_syntax.specs.Chosen.{Chosen}
use Rattle.jq_syntax.specs.laws.Computed.{prelude}
use Rattle.jq_syntax.specs.laws.OfThePrelude.{after_definitions, OneTree, CallsNoInputs, DefinesNoInputs}
use Rattle.std.proofs.Math.Logic.{∥∥₁_elim}
use Rattle.std.proofs.Props.{props}
use Rattle.jq_inputs.specs.Plans.{view_of}
use Rattle.jq_state.specs.Listed.{items_in}
use Rattle.jq_folds.specs.Folding.{fold_in}
use Rattle.jq_filters.specs.Filters.{IsFilterOf}
use Rattle.jq_filters.specs.declared.filters.Filter.{Filter}
use Rattle.jq_fold_steps.specs.Bindings.{env_of}
use Rattle.jq_fold_steps.specs.Folded.{fold_of, starts_once}
use Rattle.jq_fold_steps.specs.laws.Compiled.{CompiledFoldsAreFoldable, CompiledFoldsWriteOutcomes, FoldsComeAfterThePrelude}
use Rattle.jq_fold_steps.specs.laws.Outcomes.{FoldsWriteOutcomes}
use Rattle.jq_fold_steps.proofs.Shaped.{starts-once}

-- ---- definitions in front of a tree

-- how many definitions a tree begins with
defined : tree.Tree → ℕ
defined (tree.define n ps f g) = suc (defined g)
defined t = 0

defined-followed : (p t : tree.Tree) → defined (followed_by p t) ≡ defined p + defined t
unfolding defined
defined-followed (tree.define n ps f g) t = let h = defined-followed g t in omega (arith, h)
defined-followed p t = omega arith

defined-program : (fs : List (Function Tree)) (t : Tree) → defined (named_program fs t) ≡ length fs + defined (named t)
unfolding defined
defined-program [] t = omega arith
defined-program (f ∷ fs) t = let h = defined-program fs t in omega (arith, h)

-- the first definition, and what comes after it
rest_of : tree.Tree → tree.Tree
rest_of (tree.define n ps f g) = g
rest_of t = t

first_of : tree.Tree → env.Binding
first_of (tree.define n ps f g) = env.function n ps f
first_of t = env.label_of [] 0

-- The bindings after a tree's definitions are those of the functions, if the definitions are.
within-program : (p : tree.Tree) (fs : List (Function Tree)) (t : Tree) (e : Env) → followed_by p (named t) ≡ named_program fs t → within p e ≡ with_bindings (map function_binding fs) e
unfolding rest_of first_of defined
within-program (tree.define n ps f g) [] t e q =
    let h = defined-followed g (named t) in
    let d : suc (defined (followed_by g (named t))) ≡ defined (named t) = ap defined q in
    absurd (omega (arith, h, d))
within-program (tree.define n ps f g) (h ∷ fs) t e q =
    within-program g fs t (bound (env.function n ps f) e) (ap rest_of q) ∙ ap (λ b. with_bindings (map function_binding fs) (bound b e)) (ap first_of q)
within-program p [] t e q = refl
within-program p (h ∷ fs) t e q =
    let d : defined (named t) ≡ suc (defined (named_program fs t)) = ap defined q in
    let c = defined-program fs t in
    absurd (omega (arith, d, c))

-- ---- the prelude

same-scope : (p : tree.Tree) (s : Scope) → scope_within p s ≡ after_definitions s p
same-scope (tree.define n ps f g) s = same-scope g (to_function n (length ps) ∷ s)
same-scope p s = refl

no_inputs : CallsNoInputs → DefinesNoInputs → HasNoInputs prelude
no_inputs calls names = record { calls = calls; names = ap (is_bound (to_function inputs 0)) (same-scope prelude []) ∙ names }

-- ---- a compiled filter

shape-of : {null slurp : Bool} {t : tree.Tree} {p : filter.Plan} → HasPlan null slurp t p → p ≡ filter.fold → FoldShape [] t
shape-of plan_per_input e = absurd (cc)
shape-of plan_slurp e = absurd (cc)
shape-of (plan_fold s) e = s
shape-of (plan_other_null n) e = absurd (cc)

-- what the outcome of an accepted tree says of `inputs`
abbrev Place : filter.Outcome → Type 0
Place (filter.accepted t) = InputsInPlace t
Place (filter.bad_token at) = Unit {0}
Place filter.too_many_tokens = Unit {0}
Place filter.too_nested = Unit {0}
Place filter.syntax_error = Unit {0}
Place (filter.undefined r) = Unit {0}
Place filter.inputs_misplaced = Unit {0}
Place filter.inputs_without_null = Unit {0}

accepted-place : {p : tree.Tree} {s : filter.Setting} {text : List ℕ} {o : filter.Outcome} → BecomesAfter p s text o → Place o
accepted-place (filter.by_token bad) = tt
accepted-place (filter.by_count ts l m) = tt
accepted-place (filter.by_nesting ts l m n) = tt
accepted-place (filter.by_grammar ts w m) = tt
accepted-place (filter.by_name t s f) = tt
accepted-place (filter.by_place t s c n) = tt
accepted-place (filter.by_option t s c i r n) = tt
accepted-place (as_tree s c i r) = i

-- the functions of a program come after its variables
abbrev Order : Type 0
Order = (vs : List (Name × Value)) (fs : List (Function Tree)) (bs : List ProgramBinding) (i : Run Value) → map program_binding bs ≡ bindings_of vs fs
    → program_env (map program_binding bs) (length bs) i ≡ with_bindings (map function_binding fs) (with_variables vs (outermost i))

-- The bindings of a compiled filter are those after the definitions of the prelude.
around : Order → (o : Chosen) (text : List ℕ) (f : Filter) (h : IsFilterOf o text f) → within h.accepted.accepts.prelude (with_variables o.variables (outermost none)) ≡ env_of f.bindings
around order o text f h =
    let fs = h.compiled.functions in
    within-program h.accepted.accepts.prelude fs f.tree.value (with_variables o.variables (outermost none))
    (ap (followed_by h.accepted.accepts.prelude) h.compiled.is_tree ∙ sym h.compiled.definitions)
    ∙ sym (order o.variables fs (items_in f.bindings) none h.compiled.bound)

shaped : (o : Chosen) (text : List ℕ) (f : Filter) → IsFilterOf o text f → view_of f.plan ≡ filter.fold → FoldShape [] (named f.tree.value)
shaped o text f h plan = subst (FoldShape []) (sym h.compiled.is_tree) (shape-of h.accepted.planned plan)

-- The start of a compiled fold has at most one output.
pub once-started : (f : Filter) → view_of f.plan ≡ filter.fold → starts_once (fold_in (named f.tree.value) (env_of f.bindings)) ≡ true
once-started f plan = ∥∥₁_elim f.accepted (hlevel props) (λ a. starts-once (shaped a.0 a.1.0 f a.1.1 plan) (env_of f.bindings))

pub foldable : OneTree → CallsNoInputs → DefinesNoInputs → DefinitionsLeaveInputsAlone → Order → CompiledFoldsAreFoldable
foldable one calls names alone order o text f h plan =
    let base = with_variables o.variables (outermost none) in
    let left = alone prelude o.variables none (no_inputs calls names) in
    record {
      shape = shaped o text f h plan;
      in_place = subst InputsInPlace (sym h.compiled.is_tree) (accepted-place h.accepted.accepts.accepted);
      alone =
          subst (λ (e : Env). LeavesInputsAlone e) (around order o text f h)
          (subst (λ (p : tree.Tree). LeavesInputsAlone (within p base)) (sym (one h.accepted.accepts.prelude h.accepted.accepts.is_prelude)) left);
    }

-- ---- what it writes

pub writes : FoldsWriteOutcomes → CompiledFoldsAreFoldable → CompiledFoldsWriteOutcomes
writes law are f vs plan =
    let s = f.settings in
    let bs = items_in f.bindings in
    record {
      output = ∥∥₁_elim f.accepted (hlevel props) (λ a. (law s f.depth f.tree.value bs vs (are a.0 a.1.0 f a.1.1 plan)).output);
      errors = ∥∥₁_elim f.accepted (hlevel props) (λ a. (law s f.depth f.tree.value bs vs (are a.0 a.1.0 f a.1.1 plan)).errors);
      status = ∥∥₁_elim f.accepted (hlevel props) (λ a. (law s f.depth f.tree.value bs vs (are a.0 a.1.0 f a.1.1 plan)).status);
    }

-- ---- its fold

-- The fold of a tree after definitions is that of the tree in the bindings after them.
fold-followed : (p t : tree.Tree) (e : Env) → fold_in (followed_by p t) e ≡ fold_in t (within p e)
fold-followed (tree.define n ps f g) t e = fold-followed g t (bound (env.function n ps f) e)
fold-followed p t e = refl

pub after-prelude : Order → FoldsComeAfterThePrelude
after-prelude order o text f h =
    let pre = h.accepted.accepts.prelude in
    let base = with_variables o.variables (outermost none) in
    let parts : fold_in (named f.tree.value) (env_of f.bindings) ≡ fold_in (followed_by pre h.accepted.accepts.tree) base =
    ap₂ (λ (t : tree.Tree) (e : Env). fold_in t e) h.compiled.is_tree (sym (around order o text f h)) ∙ sym (fold-followed pre h.accepted.accepts.tree base) in
    let style = h.accepted.accepts.in_style in
    let depth = h.compiled.in_depth in
    λ i. fold_of (style i) (depth i) (parts i)
