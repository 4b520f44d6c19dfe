-- Walks outwards over an environment's bindings.
use Rattle.std.proofs.Common.{◌≡◌, ℕ, zero, suc, ◌+◌, List, [], ◌∷◌, ◌++◌, refl, sym, ap, ◌∙◌, add-one, arith}
use Rattle.jv_data.specs.Value.{Value}
use Rattle.jq_meaning.specs.Env.{Env, outermost, bound, Binding}
use Rattle.jq_meaning.specs.Runs.{Run}
use Rattle.jq_meaning.specs.Programs.{with_bindings}
use Rattle.jq_meaning.specs.laws.Outwards.{from_place}
use Rattle.jq_meaning.specs.laws.Places.{StepsLeadOutwards, WalksAdd, CountsAdd, InputsStayOutwards, InputsStay}

step_out : (i : ℕ) (e : Env) (b : Binding) (outer : Env) → from_place i e ≡ bound b outer → from_place (suc i) e ≡ outer
step_out zero (outermost inputs) b outer p = absurd (cc p)
step_out zero (bound c e) b outer p = let q : e ≡ outer = cc p in q
step_out (suc i) (outermost inputs) b outer p = absurd (cc p)
step_out (suc i) (bound c e) b outer p = step_out i e b outer p

pub steps_lead_outwards : StepsLeadOutwards
steps_lead_outwards i e b outer p = ap (λ (k : ℕ). from_place k e) (add-one i) ∙ step_out i e b outer p

no_further : (i : ℕ) (inputs : Run Value) → from_place i (outermost inputs) ≡ outermost inputs
no_further zero inputs = refl
no_further (suc i) inputs = refl

pub walks_add : WalksAdd
walks_add zero j e = let h : j ≡ 0 + j = omega arith in ap (λ (k : ℕ). from_place k e) h
walks_add (suc i) j (outermost inputs) = no_further j inputs ∙ sym (no_further (suc i + j) inputs)
walks_add (suc i) j (bound b e) = let h : suc (i + j) ≡ suc i + j = omega arith in walks_add i j e ∙ ap (λ (k : ℕ). from_place k (bound b e)) h

pub inputs_outwards : InputsStayOutwards
inputs_outwards zero e = refl
inputs_outwards (suc i) (outermost inputs) = refl
inputs_outwards (suc i) (bound b e) = inputs_outwards i e

-- ---- bindings added

pub inputs_inwards : InputsStay
inputs_inwards [] e = refl
inputs_inwards (b ∷ bs) e = inputs_inwards bs (bound b e)

pub with_append : (xs ys : List Binding) (e : Env) → with_bindings (xs ++ ys) e ≡ with_bindings ys (with_bindings xs e)
with_append [] ys e = refl
with_append (x ∷ xs) ys e = with_append xs ys (bound x e)

pub counts_add : CountsAdd
counts_add [] e = omega arith
counts_add (b ∷ bs) e = let h = counts_add bs (bound b e) in omega (arith, h)
