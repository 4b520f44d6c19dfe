-- The parts of a value with their keys.
use Rattle.std.proofs.Common.{◌≡◌, ◌∙◌, suc, List, [], ◌∷◌, ◌++◌, length, map, reverse, refl, sym, ap, append_assoc, Ok, pos, arith}
use Rattle.std.specs.Prelude.{zip}
use Rattle.std.proofs.lemmas.List.{length-map, map-append, reverse-append}
use Rattle.std.proofs.lemmas.List.FromFn.{length-map-range_with_len}
use Rattle.jv_data.specs.Value.{Value, null, boolean, number, string, array, object, Members, no_members, member, keys, entries_of, values_of}
use Rattle.jv_data.specs.View.{view}
use Rattle.jv_data.specs.declared.values.Val.{Val}
use Rattle.jv_value.specs.Parts.{parts_of}
use Rattle.jq_natives.specs.Answers.{part_keys}

keys_count : (ms : Members) → length (map string (keys ms)) ≡ length (map (λ e. e.1) (entries_of ms))
keys_count no_members = refl
keys_count (member k v ms) = ap suc (keys_count ms)

-- each part has a key
pub length-part_keys : (v : Value) (parts : List Value) → parts_of v ≡ Ok parts → length (part_keys v) ≡ length parts
length-part_keys null parts e = cc
length-part_keys (boolean b) parts e = cc
length-part_keys (number n) parts e = cc
length-part_keys (string s) parts e = cc
length-part_keys (array vs) parts e =
    let same : values_of vs ≡ parts = cc in
    length-map-range_with_len (λ i. number (pos i)) 0 (length (values_of vs)) ∙ ap length same
length-part_keys (object ms) parts e =
    let same : map (λ e. e.1) (entries_of ms) ≡ parts = cc in
    keys_count ms ∙ ap length same

pub zip-push : {K X : Type 0} (ks : List K) (xs : List X) (k : K) (x : X) → length ks ≡ length xs → zip (ks ++ k ∷ []) (xs ++ x ∷ []) ≡ zip ks xs ++ (k, x) ∷ []
zip-push [] [] k x e = refl
zip-push [] (y ∷ ys) k x e = absurd (omega arith)
zip-push (j ∷ ks) [] k x e = absurd (omega arith)
zip-push (j ∷ ks) (y ∷ ys) k x e = ap (λ ps. (j, y) ∷ ps) (zip-push ks ys k x (omega arith))

-- a function of the parts alone
pub map-zip : {K X B : Type 0} (f : X → B) (ks : List K) (xs : List X) → length ks ≡ length xs → map (λ p. f p.1) (zip ks xs) ≡ map f xs
map-zip f [] [] e = refl
map-zip f [] (y ∷ ys) e = absurd (omega arith)
map-zip f (k ∷ ks) [] e = absurd (omega arith)
map-zip f (k ∷ ks) (y ∷ ys) e = ap (λ ps. f y ∷ ps) (map-zip f ks ys (omega arith))

-- the last part is made, with the last key
pub last_made : {K X B : Type 0} (f : (K × X) → B) (all : List B) (ks ks' : List K) (xs xs' : List X) (k : K) (x : X) (bs bs' : List B) (b : B)
    → ks ≡ ks' ++ k ∷ [] → xs ≡ xs' ++ x ∷ [] → length ks' ≡ length xs' → b ≡ f (k, x) → bs' ≡ bs ++ b ∷ []
    → all ≡ map f (zip ks xs) ++ reverse bs → all ≡ map f (zip ks' xs') ++ reverse bs'
last_made f all ks ks' xs xs' k x bs bs' b ek ex l eb es e =
    let pairs : zip ks xs ≡ zip ks' xs' ++ (k, x) ∷ [] = ap (λ js. zip js xs) ek ∙ ap (zip (ks' ++ k ∷ [])) ex ∙ zip-push ks' xs' k x l in
    let made : map f (zip ks xs) ≡ map f (zip ks' xs') ++ b ∷ [] = ap (map f) pairs ∙ map-append f (zip ks' xs') ((k, x) ∷ []) ∙ ap (λ c. map f (zip ks' xs') ++ c ∷ []) (sym eb) in
    let turned : reverse bs' ≡ b ∷ reverse bs = ap reverse es ∙ reverse-append bs (b ∷ []) in
    e ∙ ap (λ cs. cs ++ reverse bs) made ∙ append_assoc (map f (zip ks' xs')) (b ∷ []) (reverse bs) ∙ ap (λ cs. map f (zip ks' xs') ++ cs) (sym turned)

pub same_count : (ks xs : List Val) (v : Value) → map view ks ≡ part_keys v → parts_of v ≡ Ok (map view xs) → length ks ≡ length xs
same_count ks xs v ek ex = sym (length-map ks view) ∙ ap length ek ∙ length-part_keys v (map view xs) ex ∙ length-map xs view
