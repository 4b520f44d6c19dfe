-- A copy of environments, binding by binding.
use Rattle.std.proofs.Common.{◌≡◌, ℕ, ◌+◌, ◌<◌, List, [], ◌∷◌, ◌++◌, length, nat_lt, Bool, true, false, sym, ap, ◌∙◌, refl, arith}
use Rattle.std.proofs.lemmas.Bool.Decides.{nat_tests}
use Rattle.jv_data.specs.Text.{text_of}
use Rattle.jq_ast.specs.Named.{named}
use Rattle.jq_meaning.specs.Env.{Env, bound, outermost}
use Rattle.jq_meaning.specs.Env as env
use Rattle.jq_meaning.specs.Runs.{none}
use Rattle.jq_state.specs.Nodes.{BindingFits, binding_in, env_at, node_in}
use Rattle.jq_state.specs.declared.environments.Binding.{Binding}
use Rattle.jq_state.specs.declared.environments.Binding.TheVariants as binding
use Rattle.jq_state.proofs.Extending.{SameBelow, same_after, last_added}

binding_same : (xs ys : List Env) (count : ℕ) (b : Binding) → SameBelow (outermost none) count xs ys → BindingFits count b → binding_in ys b ≡ binding_in xs b
binding_same xs ys count (binding.Value name value) same h = refl
binding_same xs ys count (binding.Function f) same h = refl
binding_same xs ys count (binding.Closure name tree own) same h = ap (env.closure (text_of name.now) (named tree.now)) (same own h)
binding_same xs ys count (binding.Label name level) same h = refl

-- an equal binding in environments that are the same so far
pub node_same : (xs ys : List Env) (count outer : ℕ) (a b : Binding) → SameBelow (outermost none) count xs ys → outer < count → BindingFits count a → ((envs : List Env) → binding_in envs b ≡ binding_in envs a)
    → node_in ys (record { binding = b; outer = outer }) ≡ node_in xs (record { binding = a; outer = outer })
node_same xs ys count outer a b same l fits h =
    ap (λ c. bound c (env_at ys outer)) (h ys ∙ binding_same xs ys count a same fits) ∙ ap (bound (binding_in xs a)) (same outer l)

added_same-at : (t : Bool) (count i : ℕ) (xs ys zs : List Env) (y : Env) → nat_lt i count ≡ t → count ≡ length ys → zs ≡ ys ++ y ∷ [] → SameBelow (outermost none) count xs ys → y ≡ env_at xs count → i < count + 1
    → env_at zs i ≡ env_at xs i
added_same-at true count i xs ys zs y e n z same h l =
    let low : i < count = grind (arith, nat_tests) in same_after (outermost none) count ys zs y n z i low ∙ same i low
added_same-at false count i xs ys zs y e n z same h l =
    let last : i ≡ count = grind (arith, nat_tests) in last_added ys zs y (outermost none) i (last ∙ n) z ∙ h ∙ ap (env_at xs) (sym last)

-- one more environment is the same
pub added_same : (count i : ℕ) (xs ys zs : List Env) (y : Env) → count ≡ length ys → zs ≡ ys ++ y ∷ [] → SameBelow (outermost none) count xs ys → y ≡ env_at xs count → i < count + 1 → env_at zs i ≡ env_at xs i
added_same count i xs ys zs y = added_same-at (nat_lt i count) count i xs ys zs y refl
