-- The prelude's `_modify` in the bindings of a program.
use Rattle.std.proofs.Common.{◌≡◌, ◌∙◌, ℕ, suc, ◌+◌, List, [], ◌∷◌, ◌++◌, Option, Some, None, IfSome, length, map, reverse, take, codes, refl, sym, ap, subst, arith}
use Rattle.std.specs.Prelude.{if◌then◌else◌}
use Rattle.std.proofs.lemmas.List.{length-map, length-reverse}
use Rattle.jv_data.specs.Value.{Value}
use Rattle.jq_ast.specs.Named.{named}
use Rattle.jq_ast.specs.declared.tree.Function.{Function}
use Rattle.jq_ast.specs.declared.tree.Tree as ast
use Rattle.jq_meaning.specs.Programs.{program_env, with_bindings}
use Rattle.jq_meaning.specs.laws.Added.{functions_before}
use Rattle.jq_meaning.specs.Env.{Env, Binding, Callee, outermost, bound, function, found_function, no_callee, callee_or, find_callee, find_in_prelude, is_named, with_variables}
use Rattle.jq_meaning.specs.Runs.{Run}
use Rattle.jq_resolver.specs.Programs.{named_program}
use Rattle.jq_state.specs.Modify.{KnowsModify}
use Rattle.jq_syntax.proofs.shared.Computing.{computing_prelude}
use Rattle.jq_syntax.specs.laws.Computed.{prelude}
use Rattle.jq_tree.specs.Prelude.{followed_by}
use Rattle.jq_tree.specs.Tree.{Name, Tree}
use Rattle.jq_tree.specs.Tree as tree
use Rattle.jq_tree.specs.ModifyBody.{modify_body, modify_parameters}
use Rattle.jq_meaning.specs.updates.Known.{HasModifyOf}
use Rattle.jq_filters.proofs.Around.{added, variables_around}
use Rattle.jq_filters.specs.Programs.{bindings_of, function_binding, value_binding}
use Rattle.jq_filters.specs.laws.Updates.{ModifyIsKnown, up_to_modify}

-- ---- the functions of a program

-- how many definitions a tree begins with
abbrev leading : Tree → ℕ
leading (tree.define n ps f g) = suc (leading g)
leading t = 0

leading-program : (fs : List (Function ast.Tree)) (t : ast.Tree) → leading (named_program fs t) ≡ length fs + leading (named t)
leading-program [] t = omega arith
leading-program (f ∷ fs) t = let h = leading-program fs t in omega (arith, h)

leading-followed : (p t : Tree) → leading (followed_by p t) ≡ leading p + leading t
leading-followed (tree.define n ps f g) t = let h = leading-followed g t in omega (arith, h)
leading-followed p t = omega arith

pub same_functions : (fs : List (Function ast.Tree)) (t : ast.Tree) (p : Tree) → named_program fs t ≡ followed_by p (named t) → map function_binding fs ≡ functions_before p
same_functions [] t (tree.define n ps f g) e =
    let c : leading (named t) ≡ suc (leading (followed_by g (named t))) = ap leading e in
    let d = leading-followed g (named t) in
    absurd (omega (arith, c, d))
same_functions (h ∷ hs) t (tree.define n ps f g) e =
    let rest : named_program hs t ≡ followed_by g (named t) = cc e in
    let here : function_binding h ≡ function n ps f = cc e in
    ap (λ b. b ∷ map function_binding hs) here ∙ ap (λ bs. function n ps f ∷ bs) (same_functions hs t g rest)
same_functions [] t p e = refl
same_functions (h ∷ hs) t p e =
    let c : suc (leading (named_program hs t)) ≡ leading (named t) = ap leading e in
    let d = leading-program hs t in
    absurd (omega (arith, c, d))

-- ---- what is found after some functions

-- the outermost function after some bindings, from that before them
abbrev after : Name → ℕ → Callee → List Binding → Env → Callee
after n count c [] e = c
after n count c (function m ps t ∷ bs) e = after n count (callee_or c (if is_named n count m (length ps) then found_function ps t (bound (function m ps t) e) else no_callee)) bs (bound (function m ps t) e)
after n count c (b ∷ bs) e = after n count c bs (bound b e)

found-after : (n : Name) (count : ℕ) (bs : List Binding) (e : Env) → find_in_prelude n count (with_bindings bs e) ≡ after n count (find_in_prelude n count e) bs e
found-after n count [] e = refl
found-after n count (function m ps t ∷ bs) e = found-after n count bs (bound (function m ps t) e)
found-after n count (b ∷ bs) e = found-after n count bs (bound b e)

no-function : (n : Name) (count : ℕ) (vs : List (Name × Value)) (inputs : Run Value) → find_in_prelude n count (with_variables vs (outermost inputs)) ≡ no_callee
no-function n count [] inputs = refl
no-function n count (v ∷ vs) inputs = no-function n count vs inputs

no-native : (n : Name) (count : ℕ) (vs : List (Name × Value)) (inputs : Run Value) → find_callee n count (with_variables vs (outermost inputs)) ≡ no_callee
no-native n count [] inputs = refl
no-native n count (v ∷ vs) inputs = no-native n count vs inputs

-- ---- the prelude up to `_modify`

abbrev own : Env → Env
own e = with_bindings (take up_to_modify (functions_before prelude)) e

modify-found : (e : Env) → after (codes "_modify") 2 no_callee (take up_to_modify (functions_before prelude)) e ≡ found_function modify_parameters modify_body (own e)
unfolding computing_prelude
modify-found e = refl

paths : (e : Env) → find_callee (codes "path") 1 (own e) ≡ find_callee (codes "path") 1 e
unfolding computing_prelude
paths e = refl

gets : (e : Env) → find_callee (codes "getpath") 1 (own e) ≡ find_callee (codes "getpath") 1 e
unfolding computing_prelude
gets e = refl

sets : (e : Env) → find_callee (codes "setpath") 2 (own e) ≡ find_callee (codes "setpath") 2 e
unfolding computing_prelude
sets e = refl

removes : (e : Env) → find_callee (codes "delpaths") 1 (own e) ≡ find_callee (codes "delpaths") 1 e
unfolding computing_prelude
removes e = refl

has-modify : (vs : List (Name × Value)) (inputs : Run Value) → HasModifyOf (own (with_variables vs (outermost inputs))) (own (with_variables vs (outermost inputs)))
has-modify vs inputs =
    let e = with_variables vs (outermost inputs) in
    record {
      found = found-after (codes "_modify") 2 (take up_to_modify (functions_before prelude)) e
          ∙ ap (λ c. after (codes "_modify") 2 c (take up_to_modify (functions_before prelude)) e) (no-function (codes "_modify") 2 vs inputs)
          ∙ modify-found e;
      paths = paths e ∙ no-native (codes "path") 1 vs inputs;
      gets = gets e ∙ no-native (codes "getpath") 1 vs inputs;
      sets = sets e ∙ no-native (codes "setpath") 2 vs inputs;
      removes = removes e ∙ no-native (codes "delpaths") 1 vs inputs;
    }

-- ---- in the bindings of a program

take-after : {A : Type 0} (xs ys : List A) (k : ℕ) → take (length xs + k) (xs ++ ys) ≡ xs ++ take k ys
take-after [] ys k = let z : 0 + k ≡ k = omega arith in ap (λ n. take n ys) z
take-after (x ∷ xs) ys k =
    let s : suc (length xs) + k ≡ suc (length xs + k) = omega arith in ap (λ n. take n (x ∷ xs ++ ys)) s ∙ ap (λ zs. x ∷ zs) (take-after xs ys k)

around-functions : (vs : List (Name × Value)) (fs : List (Function ast.Tree)) (inputs : Run Value) → map function_binding fs ≡ functions_before prelude
    → program_env (bindings_of vs fs) (length vs + up_to_modify) inputs ≡ own (with_variables vs (outermost inputs))
around-functions vs fs inputs h =
    let variables = reverse (map value_binding vs) in
    let count : length variables ≡ length vs = length-reverse (map value_binding vs) ∙ length-map vs value_binding in
    let bs : take (length vs + up_to_modify) (variables ++ map function_binding fs) ≡ variables ++ take up_to_modify (functions_before prelude) =
    ap (λ n. take (n + up_to_modify) (variables ++ map function_binding fs)) (sym count) ∙ take-after variables (map function_binding fs) up_to_modify ∙ ap (λ gs. variables ++ take up_to_modify gs) h in
    ap (λ l. with_bindings l (outermost inputs)) bs ∙ added variables (take up_to_modify (functions_before prelude)) (outermost inputs)
    ∙ ap (with_bindings (take up_to_modify (functions_before prelude))) (variables_around vs (outermost inputs))

pub modify_is_known : ModifyIsKnown
modify_is_known vs fs h = λ inputs. subst (λ e. HasModifyOf e e) (sym (around-functions vs fs inputs h)) (has-modify vs inputs)

pub known_if_found : (vs : List (Name × Value)) (fs : List (Function ast.Tree)) (n : ℕ) (r : Option ℕ) → map function_binding fs ≡ functions_before prelude → n ≡ length vs → IfSome r (λ count. count ≡ n + up_to_modify)
    → KnowsModify (bindings_of vs fs) r
known_if_found vs fs n None h e i = tt
known_if_found vs fs n (Some count) h e i = subst (λ k. KnowsModify (bindings_of vs fs) (Some k)) (sym (i ∙ ap (λ k. k + up_to_modify) e)) (modify_is_known vs fs h)
