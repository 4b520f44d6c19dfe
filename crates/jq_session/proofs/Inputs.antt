-- The input that an edit puts in.
use Rattle.std.proofs.Common.{◌≡◌, ℕ, zero, suc, ◌<◌, ◌≤◌, nat_lt, Bool, true, false, if◌then◌else◌, List, [], ◌∷◌, ◌++◌, length, take, drop, set, Result, Ok, Err, refl, sym, ap, ◌∙◌, arith}
use Rattle.std.proofs.lemmas.Bool.{ltb-true, ltb-false}
use Rattle.std.proofs.lemmas.List.{set_split}
use Rattle.std.specs.List as list
use Rattle.jv_data.specs.Value.{Value}
use Rattle.jq_pages.specs.Edits.{Edit, insert, replace, remove, added, place, edited, at_place, most_inputs, no_place, full}

abbrev pub put_in : Edit → List Value
put_in (insert k v) = v ∷ []
put_in (replace k v) = v ∷ []
put_in (remove k) = []

take_none : {A : Type 0} (l : List A) → take 0 l ≡ []
take_none [] = refl
take_none (x ∷ xs) = refl

drop_none : {A : Type 0} (l : List A) → drop 0 l ≡ l
drop_none [] = refl
drop_none (x ∷ xs) = refl

drop_front : {A : Type 0} (k : ℕ) (l r : List A) → k ≤ length l → drop k (take k l ++ r) ≡ r
drop_front zero l r h = ap (λ t. drop zero (t ++ r)) (take_none l) ∙ drop_none r
drop_front (suc k) [] r h = absurd (omega arith)
drop_front (suc k) (x ∷ xs) r h = drop_front k xs r (omega arith)

-- the item at the place where it was put
one_there : {A : Type 0} (k : ℕ) (l r : List A) (x : A) → k ≤ length l → take 1 (drop k (take k l ++ x ∷ r)) ≡ x ∷ []
one_there k l r x h = ap (take 1) (drop_front k l (x ∷ r) h) ∙ ap (λ t. x ∷ t) (take_none r)

abbrev pub ok_in : {A E : Type 0} → A → Result A E → A
ok_in a (Ok b) = b
ok_in a (Err e) = a

-- the inputs of an accepted edit
inserted_there : (k : ℕ) (v : Value) (vs ys : List Value) (beyond room : Bool) → nat_lt (length vs) k ≡ beyond → nat_lt (length vs) most_inputs ≡ room
    → (if beyond then Err no_place else (if room then Ok (list.insert vs k v) else Err full)) ≡ Ok ys → (ys ≡ list.insert vs k v) × (nat_lt (length vs) k ≡ false)
inserted_there k v vs ys true room b r e = cc
inserted_there k v vs ys false true b r e = (sym (ap (ok_in ys) e), b)
inserted_there k v vs ys false false b r e = cc

replaced_there : (k : ℕ) (v : Value) (vs ys : List Value) (there : Bool) → nat_lt k (length vs) ≡ there → at_place there (set vs k v) ≡ Ok ys → (ys ≡ set vs k v) × (nat_lt k (length vs) ≡ true)
replaced_there k v vs ys true b e = (sym (ap (ok_in ys) e), b)
replaced_there k v vs ys false b e = cc

pub put_there : (edit : Edit) (vs ys : List Value) → edited edit vs ≡ Ok ys → take (added edit) (drop (place edit) ys) ≡ put_in edit
put_there (insert k v) vs ys e =
    let h = inserted_there k v vs ys (nat_lt (length vs) k) (nat_lt (length vs) most_inputs) refl refl e in
    ap (λ l. take 1 (drop k l)) h.0 ∙ one_there k vs (drop k vs) v (ltb-false (length vs) k h.1)
put_there (replace k v) vs ys e =
    let h = replaced_there k v vs ys (nat_lt k (length vs)) refl e in
    let low : k < length vs = ltb-true k (length vs) h.1 in
    ap (λ l. take 1 (drop k l)) (h.0 ∙ set_split vs k v low) ∙ one_there k vs (drop (suc k) vs) v (omega (arith, low))
put_there (remove k) vs ys e = take_none (drop k ys)
