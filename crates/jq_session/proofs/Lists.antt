-- Lists of inputs that are joined from parts of another list, and the inputs of pages.
use Rattle.std.proofs.Common.{◌≡◌, ℕ, ◌+◌, ◌-◌, ◌<◌, List, [], ◌∷◌, ◌++◌, length, take, drop, set, map, slice_get, Some, sym, ap, ◌∙◌, append_assoc, append-nil, add-one, arith}
use Rattle.std.proofs.lemmas.List.{take-map, drop-map, set_split, length-map, take_rest}
use Rattle.std.specs.List as list
use Rattle.std.specs.List.{flat_map}
use Rattle.jv_data.specs.Value.{Value}
use Rattle.jv_data.specs.View.{view}
use Rattle.jv_data.specs.declared.values.Val.{Val}
use Rattle.jq_session.proofs.Passing.{page_taken, part_more}

-- the first inputs, the inputs after them, and the last inputs
abbrev pub joined : List Val → List Val → List Val → List Value
joined first put last = (map view first ++ map view put) ++ map view last

-- from two slices of the old inputs
pub joined_slices : (k m : ℕ) (old first last put : List Val) (inputs : List Value) → inputs ≡ joined (take k first) put (take (length last - m) (drop m last)) → first ≡ old → last ≡ old
    → inputs ≡ joined (take k old) put (drop m old)
joined_slices k m old first last put inputs e f g =
    e
    ∙ ap (λ l. joined (take k first) put l) (take_rest last m)
    ∙ ap (λ l. joined (take k l) put (drop m last)) f
    ∙ ap (λ l. joined (take k old) put (drop m l)) g

pub joined_inserted : (k : ℕ) (v : Val) (old : List Val) → joined (take k old) (v ∷ []) (drop k old) ≡ list.insert (map view old) k (view v)
joined_inserted k v old =
    append_assoc (map view (take k old)) (view v ∷ []) (map view (drop k old))
    ∙ ap (λ l. l ++ view v ∷ map view (drop k old)) (sym (take-map view k old))
    ∙ ap (λ l. take k (map view old) ++ view v ∷ l) (sym (drop-map view k old))

pub joined_replaced : (k : ℕ) (v : Val) (old : List Val) → k < length old → joined (take k old) (v ∷ []) (drop (k + 1) old) ≡ set (map view old) k (view v)
joined_replaced k v old below =
    append_assoc (map view (take k old)) (view v ∷ []) (map view (drop (k + 1) old))
    ∙ ap (λ l. l ++ view v ∷ map view (drop (k + 1) old)) (sym (take-map view k old))
    ∙ ap (λ l. take k (map view old) ++ view v ∷ l) (sym (drop-map view (k + 1) old))
    ∙ ap (λ n. take k (map view old) ++ view v ∷ drop n (map view old)) (add-one k)
    ∙ sym (set_split (map view old) k (view v) (omega (arith, length-map old view)))

pub joined_removed : (k : ℕ) (old : List Val) → joined (take k old) [] (drop (k + 1) old) ≡ list.remove (map view old) k
joined_removed k old =
    ap (λ l. l ++ map view (drop (k + 1) old)) (append-nil (map view (take k old)))
    ∙ ap (λ l. l ++ map view (drop (k + 1) old)) (sym (take-map view k old))
    ∙ ap (λ l. take k (map view old) ++ l) (sym (drop-map view (k + 1) old))
    ∙ ap (λ n. take k (map view old) ++ drop n (map view old)) (add-one k)

-- the inputs of one page more
pub page_added : (vss : List (List Value)) (j : ℕ) (vs : List Value) → slice_get vss j ≡ Some vs → flat_map (λ l. l) (take j vss) ++ vs ≡ flat_map (λ l. l) (take (j + 1) vss)
page_added vss j vs e = sym (ap (λ n. flat_map (λ l. l) (take n vss)) (add-one j) ∙ ap (flat_map (λ l. l)) (page_taken vss j vs e) ∙ part_more (λ l. l) (take j vss) vs)
