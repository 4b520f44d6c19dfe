-- Arrays that are flattened, the innermost one first.
use Rattle.std.proofs.Common.{◌≡◌, ◌∙◌, ℕ, zero, suc, ◌+◌, ◌-◌, ◌<◌, List, [], ◌∷◌, ◌++◌, Ok, map, refl, sym, ap, arith, append_assoc}
use Rattle.std.proofs.lemmas.List.{append-nil}
use Rattle.jv_data.specs.Value.{Value, null, boolean, number, string, array, object, Items, no_items, item, items_of, values_of, Members, no_members, member, entries_of}
use Rattle.jv_data.specs.View.{items_view}
use Rattle.jv_value.specs.Parts.{parts_of}
use Rattle.jv_value.specs.Results.{map_ok}
use Rattle.jq_natives.specs.Arrays.{opened, flattened, member_values}
use Rattle.jq_natives.specs.declared.flattening.Level.{Level}

pub opened_array : (levels : ℕ) (vs rest : Items) → 0 < levels → opened levels (item (array vs) rest) ≡ opened (levels - 1) vs ++ opened levels rest
opened_array zero vs rest h = absurd (omega arith)
opened_array (suc k) vs rest h = let e : k ≡ suc k - 1 = omega arith in ap (λ n. opened n vs ++ opened (suc k) rest) e

-- ---- the levels that are being read, the innermost last

-- the items that they still add
abbrev pub left_in : List Level → List Value
left_in [] = []
left_in (e ∷ es) = left_in es ++ opened e.levels (items_view e.items.now)

pub left_push : (es : List Level) (e : Level) → left_in (es ++ e ∷ []) ≡ opened e.levels (items_view e.items.now) ++ left_in es
left_push [] e = sym (append-nil (opened e.levels (items_view e.items.now)))
left_push (d ∷ es) e =
    let below = opened d.levels (items_view d.items.now) in
    ap (λ vs. vs ++ below) (left_push es e) ∙ append_assoc (opened e.levels (items_view e.items.now)) (left_in es) below

abbrev mutual
  pub weight : Value → ℕ
  weight (array vs) = suc (suc (weights vs))
  weight v = 2

  pub weights : Items → ℕ
  weights no_items = 0
  weights (item v vs) = weight v + weights vs

-- an upper bound of their steps
abbrev pub steps_in : List Level → ℕ
steps_in [] = 0
steps_in (e ∷ es) = suc (weights (items_view e.items.now)) + steps_in es

pub steps_push : (es : List Level) (e : Level) → steps_in (es ++ e ∷ []) ≡ suc (weights (items_view e.items.now)) + steps_in es
steps_push [] e = refl
steps_push (d ∷ es) e = let later : steps_in (es ++ e ∷ []) ≡ suc (weights (items_view e.items.now)) + steps_in es = steps_push es e in omega arith

pub some_weight : (v : Value) → 0 < weight v
some_weight null = omega arith
some_weight (boolean b) = omega arith
some_weight (number n) = omega arith
some_weight (string s) = omega arith
some_weight (array vs) = omega arith
some_weight (object ms) = omega arith

-- ---- the arrays that are flattened

items_of-values_of : (vs : Items) → items_of (values_of vs) ≡ vs
items_of-values_of no_items = refl
items_of-values_of (item v vs) = ap (item v) (items_of-values_of vs)

items_of-entries : (ms : Members) → items_of (map (λ e. e.1) (entries_of ms)) ≡ member_values ms
items_of-entries no_members = refl
items_of-entries (member k v ms) = ap (item v) (items_of-entries ms)

pub flattened_parts : (levels : ℕ) (v : Value) → flattened levels v ≡ map_ok (λ vs. array (items_of (opened levels (items_of vs)))) (parts_of v)
flattened_parts levels (array vs) = ap (λ ws. Ok (array (items_of (opened levels ws)))) (sym (items_of-values_of vs))
flattened_parts levels (object ms) = ap (λ ws. Ok (array (items_of (opened levels ws)))) (sym (items_of-entries ms))
flattened_parts levels v = refl
