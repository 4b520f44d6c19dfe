-- The program's own environments.
use Rattle.std.proofs.Common.{◌≡◌, ◌∙◌, ℕ, zero, suc, ◌+◌, ◌-◌, ◌<◌, ◌≤◌, List, [], ◌∷◌, Bool, false, Some, String, length, map, take, get_or, if◌then◌else◌, ap, sym, subst, refl, add-one, arith, inl, inr}
use Rattle.std.specs.Prelude.{slice_get}
use Rattle.std.specs.declared.alloc.Global.{Global}
use Rattle.std.proofs.lemmas.Bool.{cases_order}
use Rattle.jv_data.specs.Value.{Value}
use Rattle.jq_tree.specs.Tree.{Name, Tree}
use Rattle.jv_data.specs.Value.{null}
use Rattle.jv_data.specs.Text.{text_of}
use Rattle.jv_data.specs.View.{view}
use Rattle.jq_ast.specs.Named.{named}
use Rattle.jv_data.specs.declared.values.Val.{Val}
use Rattle.jq_ast.specs.declared.tree.Function.{Function}
use Rattle.jq_ast.specs.declared.tree.Tree as ast
use Rattle.jq_meaning.specs.Env.{Env, outermost, bound, find_callee, find_level, find_value, find_in_prelude, found_function, found_closure, no_callee, callee_or, is_named}
use Rattle.jq_meaning.specs.Env as env
use Rattle.jq_meaning.specs.Runs.{Run}
use Rattle.jq_meaning.specs.Programs.{program_env, with_bindings}
use Rattle.jq_meaning.specs.laws.Programs.{ProgramsGrow}
use Rattle.jq_state.specs.Environments.{envs_of, program_of}
use Rattle.jq_state.specs.Listed.{is_called, is_variable, NoneFrom, IsFirstOf, IsLastOf}
use Rattle.jq_state.specs.Nodes.{env_at, program_binding}
use Rattle.jq_state.specs.declared.environments.Nodes.{Nodes}
use Rattle.jq_state.specs.declared.environments.ProgramBinding.{ProgramBinding}
use Rattle.jq_state.specs.declared.environments.ProgramBinding.TheVariants as program
use Rattle.jq_operations.specs.Callees.{found}
use Rattle.jq_operations.specs.private.Program.{ProgramIsAList, ProgramHasNoLabels}

-- an element that exists
got : {A : Type 0} (xs : List A) (i : ℕ) (x : A) → slice_get xs i ≡ Some x → (i < length xs) × (get_or xs i x ≡ x)
got [] i x e = absurd (cc)
got (y ∷ ys) zero x e = let p : y ≡ x = cc in (omega arith, p)
got (y ∷ ys) (suc i) x e = let h = got ys i x e in let l : i < length ys = h.0 in (omega (arith, l), h.1)

abbrev pub Comes : Nodes → Type 0
Comes ns = (inputs : Run Value) (j : ℕ) → j ≤ length (program_of ns) → env_at (envs_of inputs ns) j ≡ program_env (program_of ns) j inputs

pub is_a_list : ProgramsGrow → (ns : Nodes) → Comes ns → ProgramIsAList ns
is_a_list grow ns comes = record {
  begin = λ inputs. comes inputs 0 (omega arith);
  grow = λ inputs j b e.
      let h = got (program_of ns) j b e in
      let l : j < length (program_of ns) = h.0 in
      let le : j ≤ length (program_of ns) = omega (arith, l) in
      let more : suc j ≤ length (program_of ns) = omega (arith, l) in
      comes inputs (suc j) more ∙ ap (λ k. program_env (program_of ns) k inputs) (sym (add-one j)) ∙ grow (program_of ns) j inputs b l
      ∙ ap (λ x. bound x (program_env (program_of ns) j inputs)) h.1 ∙ ap (bound b) (sym (comes inputs j le));
}

no_level_in : (n : Name) (b : ProgramBinding) (e : Env) → find_level n (bound (program_binding b) e) ≡ find_level n e
no_level_in n (program.Value name value) e = refl
no_level_in n (program.Function f) e = refl

no_level : (n : Name) (bs : List ProgramBinding) (j : ℕ) (e : Env) → find_level n (with_bindings (take j (map program_binding bs)) e) ≡ find_level n e
no_level n bs zero e = refl
no_level n [] (suc j) e = refl
no_level n (b ∷ bs) (suc j) e = no_level n bs j (bound (program_binding b) e) ∙ no_level_in n b e

pub has_no_labels : (ns : Nodes) → Comes ns → ProgramHasNoLabels ns
has_no_labels ns comes inputs n j h = ap (find_level n) (comes inputs j h) ∙ no_level n ns.program.now.items.items j (outermost inputs)

-- ---- the prelude's functions

pub there : {A : Type 0} (xs : List A) (i : ℕ) → i < length xs → (x : A) × (slice_get xs i ≡ Some x)
there [] i h = absurd (omega (arith, h))
there (x ∷ xs) zero h = (x, refl)
there (x ∷ xs) (suc i) h = let l : i < length xs = omega (arith, h) in there xs i l

still_found : (n : Name) (count : ℕ) (b : env.Binding) (e : Env) (ps : List Name) (t : Tree) (own : Env) → find_in_prelude n count e ≡ found_function ps t own
    → find_in_prelude n count (bound b e) ≡ found_function ps t own
still_found n count (env.value_of m v) e ps t own h = h
still_found n count (env.function m qs u) e ps t own h = ap (λ c. callee_or c (if is_named n count m (length qs) then found_function qs u (bound (env.function m qs u) e) else no_callee)) h
still_found n count (env.closure m u o) e ps t own h = h
still_found n count (env.label_of m k) e ps t own h = h

-- what is found in an outer environment is found in the inner ones
pub found_inside : (ns : Nodes) (inputs : Run Value) (n : Name) (count : ℕ) (ps : List Name) (t : Tree) (own : Env) (j k : ℕ) → ProgramIsAList ns → j + k ≤ length (program_of ns)
    → find_in_prelude n count (env_at (envs_of inputs ns) j) ≡ found_function ps t own → find_in_prelude n count (env_at (envs_of inputs ns) (j + k)) ≡ found_function ps t own
found_inside ns inputs n count ps t own j zero list h e =
    let p : j + 0 ≡ j = omega arith in ap (λ i. find_in_prelude n count (env_at (envs_of inputs ns) i)) p ∙ e
found_inside ns inputs n count ps t own j (suc k) list h e =
    let p : j + suc k ≡ suc (j + k) = omega arith in
    let l : j + k < length (program_of ns) = omega (arith, h) in
    let le : j + k ≤ length (program_of ns) = omega (arith, h) in
    let b = there (program_of ns) (j + k) l in
    ap (λ i. find_in_prelude n count (env_at (envs_of inputs ns) i)) p ∙ ap (find_in_prelude n count) (list.grow inputs (j + k) b.0 b.1)
    ∙ still_found n count b.0 (env_at (envs_of inputs ns) (j + k)) ps t own (found_inside ns inputs n count ps t own j k list le e)

-- ---- what a name finds is in the program's list

-- A function of environments that does not depend on a binding for which `holds` is false.
abbrev Skips : {A : Type 0} → (holds : env.Binding → Bool) → (f : Env → A) → Type 0
Skips holds f = (b : env.Binding) (e : Env) → holds b ≡ false → f (bound b e) ≡ f e

skipped : {A : Type 0} (holds : env.Binding → Bool) (f : Env → A) (ns : Nodes) (inputs : Run Value) (start end : ℕ) → Skips holds f → ProgramIsAList ns → start ≤ end → end ≤ length (program_of ns)
    → NoneFrom holds (program_of ns) start end → f (env_at (envs_of inputs ns) end) ≡ f (env_at (envs_of inputs ns) start)
skipped holds f ns inputs start zero law list h l none = let p : 0 ≡ start = omega (arith, h) in ap (λ i. f (env_at (envs_of inputs ns) i)) p
skipped holds f ns inputs start (suc k) law list h l none =
    elim (cases_order start (suc k)) [
      | inl same ↦ ap (λ i. f (env_at (envs_of inputs ns) i)) (sym same)
      | inr (inl lt) ↦
          let le : start ≤ k = omega (arith, lt) in
          let m : k < length (program_of ns) = omega (arith, l) in
          let o : k ≤ length (program_of ns) = omega (arith, l) in
          let n : k < suc k = omega arith in
          let b = there (program_of ns) k m in
          ap f (list.grow inputs k b.0 b.1) ∙ law b.0 (env_at (envs_of inputs ns) k) (none k b.0 le n b.1)
          ∙ skipped holds f ns inputs start k law list le o (λ j c p q e. none j c p (omega (arith, q)) e)
      | inr (inr gt) ↦ absurd (omega (arith, gt, h))
    ]

skips_called : (n : Name) (count : ℕ) (b : env.Binding) (e : Env) → is_called n count b ≡ false → find_callee n count (bound b e) ≡ find_callee n count e
skips_called n count (env.value_of m v) e h = refl
skips_called n count (env.function m ps t) e h = ap (λ c. if c then found_function ps t (bound (env.function m ps t) e) else find_callee n count e) h
skips_called n count (env.closure m t own) e h = ap (λ c. if c then found_closure t own else find_callee n count e) h
skips_called n count (env.label_of m k) e h = refl

or_none : (c : env.Callee) → callee_or c no_callee ≡ c
or_none (found_function ps t own) = refl
or_none (found_closure t own) = refl
or_none no_callee = refl

skips_in_prelude : (n : Name) (count : ℕ) (b : env.Binding) (e : Env) → is_called n count b ≡ false → find_in_prelude n count (bound b e) ≡ find_in_prelude n count e
skips_in_prelude n count (env.value_of m v) e h = refl
skips_in_prelude n count (env.function m ps t) e h =
    ap (λ c. callee_or (find_in_prelude n count e) (if c then found_function ps t (bound (env.function m ps t) e) else no_callee)) h ∙ or_none (find_in_prelude n count e)
skips_in_prelude n count (env.closure m t own) e h = refl
skips_in_prelude n count (env.label_of m k) e h = refl

skips_variable : (n : Name) (b : env.Binding) (e : Env) → is_variable n b ≡ false → find_value n (bound b e) ≡ find_value n e
skips_variable n (env.value_of m v) e h = ap (λ c. if c then v else find_value n e) h
skips_variable n (env.function m ps t) e h = refl
skips_variable n (env.closure m t own) e h = refl
skips_variable n (env.label_of m k) e h = refl

none_found : {A : Type 0} (holds : env.Binding → Bool) (f : Env → A) (ns : Nodes) (inputs : Run Value) (end : ℕ) (bs : List env.Binding) → Skips holds f → ProgramIsAList ns → bs ≡ program_of ns
    → end ≤ length (program_of ns) → NoneFrom holds bs 0 end → f (env_at (envs_of inputs ns) end) ≡ f (outermost inputs)
none_found holds f ns inputs end bs law list e l none =
    skipped holds f ns inputs 0 end law list (omega arith) l (subst (λ z. NoneFrom holds z 0 end) e none) ∙ ap f (list.begin inputs)

-- the last one
last_found : {A : Type 0} (holds : env.Binding → Bool) (f : Env → A) (ns : Nodes) (inputs : Run Value) (end place : ℕ) (b : env.Binding) (bs : List env.Binding) → Skips holds f → ProgramIsAList ns
    → bs ≡ program_of ns → end ≤ length (program_of ns) → IsLastOf holds bs end place b
    → (f (env_at (envs_of inputs ns) end) ≡ f (env_at (envs_of inputs ns) (suc place))) × (env_at (envs_of inputs ns) (suc place) ≡ bound b (env_at (envs_of inputs ns) place))
last_found holds f ns inputs end place b bs law list e l h =
    let w = h.within in
    let m : suc place ≤ end = omega (arith, w) in
    let o : slice_get (program_of ns) place ≡ Some b = ap (λ z. slice_get z place) (sym e) ∙ h.is in (
      skipped holds f ns inputs (suc place) end law list m l (subst (λ z. NoneFrom holds z (suc place) end) e h.others),
      list.grow inputs place b o,
    )

pub none_called : (ns : Nodes) (inputs : Run Value) (n : Name) (count end : ℕ) (bs : List env.Binding) → ProgramIsAList ns → bs ≡ program_of ns → end ≤ length (program_of ns)
    → NoneFrom (is_called n count) bs 0 end → find_callee n count (env_at (envs_of inputs ns) end) ≡ no_callee
none_called ns inputs n count end bs list e l none = none_found (is_called n count) (find_callee n count) ns inputs end bs (skips_called n count) list e l none

pub none_called_in_prelude : (ns : Nodes) (inputs : Run Value) (n : Name) (count end : ℕ) (bs : List env.Binding) → ProgramIsAList ns → bs ≡ program_of ns → end ≤ length (program_of ns)
    → NoneFrom (is_called n count) bs 0 end → find_in_prelude n count (env_at (envs_of inputs ns) end) ≡ no_callee
none_called_in_prelude ns inputs n count end bs list e l none = none_found (is_called n count) (find_in_prelude n count) ns inputs end bs (skips_in_prelude n count) list e l none

pub no_variable : (ns : Nodes) (inputs : Run Value) (n : Name) (end : ℕ) (bs : List env.Binding) → ProgramIsAList ns → bs ≡ program_of ns → end ≤ length (program_of ns)
    → NoneFrom (is_variable n) bs 0 end → find_value n (env_at (envs_of inputs ns) end) ≡ null
no_variable ns inputs n end bs list e l none = none_found (is_variable n) (find_value n) ns inputs end bs (skips_variable n) list e l none

pub last_called : (ns : Nodes) (inputs : Run Value) (n : Name) (count end place : ℕ) (f : Function ast.Tree) (bs : List env.Binding) → ProgramIsAList ns → bs ≡ program_of ns → end ≤ length (program_of ns)
    → IsLastOf (is_called n count) bs end place (program_binding (program.Function f)) → find_callee n count (env_at (envs_of inputs ns) end) ≡ found f (env_at (envs_of inputs ns) (suc place))
last_called ns inputs n count end place f bs list e l h =
    let b = program_binding (program.Function f) in
    let p = last_found (is_called n count) (find_callee n count) ns inputs end place b bs (skips_called n count) list e l h in
    let o = env_at (envs_of inputs ns) place in
    p.0 ∙ ap (find_callee n count) p.1 ∙ ap (λ c. if c then found f (bound b o) else find_callee n count o) h.held ∙ ap (found f) (sym p.1)

pub last_variable : (ns : Nodes) (inputs : Run Value) (n : Name) (end place : ℕ) (m : String Global) (v : Val) (bs : List env.Binding) → ProgramIsAList ns → bs ≡ program_of ns → end ≤ length (program_of ns)
    → IsLastOf (is_variable n) bs end place (program_binding (program.Value m v)) → find_value n (env_at (envs_of inputs ns) end) ≡ view v
last_variable ns inputs n end place m v bs list e l h =
    let b = program_binding (program.Value m v) in
    let p = last_found (is_variable n) (find_value n) ns inputs end place b bs (skips_variable n) list e l h in
    let o = env_at (envs_of inputs ns) place in
    p.0 ∙ ap (find_value n) p.1 ∙ ap (λ c. if c then view v else find_value n o) h.held

-- the first one
pub first_called : (ns : Nodes) (inputs : Run Value) (n : Name) (count end place : ℕ) (f : Function ast.Tree) (bs : List env.Binding) → ProgramIsAList ns → bs ≡ program_of ns → end ≤ length (program_of ns)
    → IsFirstOf (is_called n count) bs end place (program_binding (program.Function f)) → find_in_prelude n count (env_at (envs_of inputs ns) end) ≡ found f (env_at (envs_of inputs ns) (suc place))
first_called ns inputs n count end place f bs list e l h =
    let b = program_binding (program.Function f) in
    let w = h.within in
    let q : place ≤ length (program_of ns) = omega (arith, w, l) in
    let o = env_at (envs_of inputs ns) place in
    let r : slice_get (program_of ns) place ≡ Some b = ap (λ z. slice_get z place) (sym e) ∙ h.is in
    let before : find_in_prelude n count o ≡ no_callee = none_called_in_prelude ns inputs n count place bs list e q h.others in
    let grown : env_at (envs_of inputs ns) (suc place) ≡ bound b o = list.grow inputs place b r in
    let here : find_in_prelude n count (env_at (envs_of inputs ns) (suc place)) ≡ found f (env_at (envs_of inputs ns) (suc place)) =
    ap (find_in_prelude n count) grown ∙ ap (λ c. callee_or c (if is_called n count b then found f (bound b o) else no_callee)) before
    ∙ ap (λ c. if c then found f (bound b o) else no_callee) h.held ∙ ap (found f) (sym grown) in
    let k = end - suc place in
    let s : suc place + k ≡ end = omega (arith, w) in
    let t : suc place + k ≤ length (program_of ns) = omega (arith, s, l) in
    ap (λ i. find_in_prelude n count (env_at (envs_of inputs ns) i)) (sym s)
    ∙ found_inside ns inputs n count (map text_of f.parameters.items) (named f.body) (env_at (envs_of inputs ns) (suc place)) (suc place) k list t here
