-- A filter in the bindings of its program has the same meaning as after the prelude.
use Rattle.std.proofs.Common.{◌≡◌, ℕ, List, [], ◌∷◌, ◌++◌, map, reverse, length, take, refl, sym, ap, ◌∙◌}
use Rattle.std.proofs.lemmas.List.{reverse-append, length-map}
use Rattle.std.proofs.Math.Seq.{take-length}
use Rattle.jv_data.specs.Value.{Value}
use Rattle.jq_tree.specs.Tree.{Name}
use Rattle.jq_ast.specs.Named.{named}
use Rattle.jq_ast.specs.declared.tree.Function.{Function}
use Rattle.jq_ast.specs.declared.tree.Tree.{Tree}
use Rattle.jq_meaning.specs.Programs.{program_env, with_bindings}
use Rattle.jq_meaning.specs.Env as env
use Rattle.jq_meaning.specs.Env.{Env, outermost, bound, with_variables}
use Rattle.jq_meaning.specs.Meaning.{meaning}
use Rattle.jq_meaning.specs.Runs.{Run, Item}
use Rattle.jq_resolver.specs.Programs.{named_program}
use Rattle.jq_state.specs.Nodes.{program_binding}
use Rattle.jq_state.specs.declared.environments.ProgramBinding.{ProgramBinding}
use Rattle.jq_filters.specs.Programs.{bindings_of, function_binding, value_binding}

pub added : (xs ys : List env.Binding) (e : Env) → with_bindings (xs ++ ys) e ≡ with_bindings ys (with_bindings xs e)
added [] ys e = refl
added (x ∷ xs) ys e = added xs ys (bound x e)

-- the first variable is the innermost
pub variables_around : (vs : List (Name × Value)) (e : Env) → with_bindings (reverse (map value_binding vs)) e ≡ with_variables vs e
variables_around [] e = refl
variables_around (v ∷ vs) e =
    ap (λ bs. with_bindings bs e) (reverse-append (value_binding v ∷ []) (map value_binding vs)) ∙ added (reverse (map value_binding vs)) (value_binding v ∷ []) e
    ∙ ap (bound (value_binding v)) (variables_around vs e)

functions_around : (d : ℕ) (fs : List (Function Tree)) (t : Tree) (e : Env) (k : ℕ) (x : Item)
    → meaning d (named_program fs t) e k x ≡ meaning d (named t) (with_bindings (map function_binding fs) e) k x
functions_around d [] t e k x = refl
functions_around d (f ∷ fs) t e k x = functions_around d fs t (bound (function_binding f) e) k x

-- all bindings of a program
whole : (bs : List ProgramBinding) (inputs : Run Value) → program_env (map program_binding bs) (length bs) inputs ≡ with_bindings (map program_binding bs) (outermost inputs)
whole bs inputs = ap (λ l. with_bindings l (outermost inputs)) (ap (λ n. take n (map program_binding bs)) (sym (length-map bs program_binding)) ∙ take-length (map program_binding bs))

pub around : (vs : List (Name × Value)) (fs : List (Function Tree)) (bs : List ProgramBinding) (inputs : Run Value) → map program_binding bs ≡ bindings_of vs fs
    → program_env (map program_binding bs) (length bs) inputs ≡ with_bindings (map function_binding fs) (with_variables vs (outermost inputs))
around vs fs bs inputs e =
    whole bs inputs ∙ ap (λ l. with_bindings l (outermost inputs)) e ∙ added (reverse (map value_binding vs)) (map function_binding fs) (outermost inputs)
    ∙ ap (with_bindings (map function_binding fs)) (variables_around vs (outermost inputs))

-- the filter in the bindings is the whole program in the variables
pub runs_as_whole : (d : ℕ) (vs : List (Name × Value)) (fs : List (Function Tree)) (t : Tree) (bs : List ProgramBinding) (inputs : Run Value) (x : Item) → map program_binding bs ≡ bindings_of vs fs
    → meaning d (named t) (program_env (map program_binding bs) (length bs) inputs) 0 x ≡ meaning d (named_program fs t) (with_variables vs (outermost inputs)) 0 x
runs_as_whole d vs fs t bs inputs x e =
    ap (λ r. meaning d (named t) r 0 x) (around vs fs bs inputs e) ∙ sym (functions_around d fs t (with_variables vs (outermost inputs)) 0 x)
