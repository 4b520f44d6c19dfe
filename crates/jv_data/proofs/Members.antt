-- The members of an object that are held in lists of names and of values.
use Rattle.std.proofs.Common.{◌≡◌, ◌∙◌, ℕ, zero, suc, ◌+◌, ◌<◌, List, [], ◌∷◌, length, map, drop, get_or, zip, String, Global, string_bytes, refl, sym, ap, subst, arith}
use Rattle.std.proofs.lemmas.List.{drop_more}
use Rattle.std.proofs.lemmas.Slice.Zip.{length-zip, get_or-zip}
use Rattle.jv_data.proofs.Names.{AreRising, Texts, keys_rise}
use Rattle.jv_data.proofs.Views.{Entry, in_order}
use Rattle.jv_data.specs.Members.{IsBefore, IsInOrder, put}
use Rattle.jv_data.specs.Text.{text_of}
use Rattle.jv_data.specs.Value.{Value, Members, no_members, member}
use Rattle.jv_data.specs.View.{view, members_view}
use Rattle.jv_data.specs.declared.values.Val.{Val}

-- copies of the names and of the values
pub same_parts : (ms ns : Texts) (ws vs : List Val) → map string_bytes ms ≡ map string_bytes ns → map view ws ≡ map view vs → members_view (zip ms ws) ≡ members_view (zip ns vs)
same_parts [] [] ws vs e f = refl
same_parts [] (n ∷ ns) ws vs e f = absurd (omega (arith, ap length e))
same_parts (m ∷ ms) [] ws vs e f = absurd (omega (arith, ap length e))
same_parts (m ∷ ms) (n ∷ ns) [] [] e f = refl
same_parts (m ∷ ms) (n ∷ ns) [] (v ∷ vs) e f = absurd (omega (arith, ap length f))
same_parts (m ∷ ms) (n ∷ ns) (w ∷ ws) [] e f = absurd (omega (arith, ap length f))
same_parts (m ∷ ms) (n ∷ ns) (w ∷ ws) (v ∷ vs) e f =
    let name = ap (λ xs. get_or xs 0 (string_bytes n)) e in
    let value = ap (λ xs. get_or xs 0 (view v)) f in
    let rest = same_parts ms ns ws vs (ap (drop 1) e) (ap (drop 1) f) in
    rw (name, value, rest) refl

-- copies of the names alone
pub same_names : (ms ns : Texts) (vs : List Val) → map string_bytes ms ≡ map string_bytes ns → members_view (zip ms vs) ≡ members_view (zip ns vs)
same_names ms ns vs e = same_parts ms ns vs vs e refl

-- a key that comes before all others
pub put_front : (k : List ℕ) (v : Value) (ms : Members) → IsBefore k ms → put k v ms ≡ member k v ms
put_front k v no_members h = refl
put_front k v (member l w ms) h = rw h.0 refl

order_left : (es : List Entry) (i : ℕ) → IsInOrder (members_view es) → IsInOrder (members_view (drop i es))
order_left es zero h = h
order_left [] (suc i) h = tt
order_left (e ∷ es) (suc i) h = order_left es i h.1

-- the members from this index on, by those from the next one on
pub one_more : (ns : Texts) (vs : List Val) (i : ℕ) (n m : String Global) (v w : Val) (es : List Entry)
    → AreRising (map string_bytes ns) → i < length ns → i < length vs → n ≡ get_or ns i n → v ≡ get_or vs i v → string_bytes m ≡ string_bytes n → view w ≡ view v
    → members_view es ≡ members_view (drop (i + 1) (zip ns vs)) → put (text_of m) (view w) (members_view es) ≡ members_view (drop i (zip ns vs))
one_more ns vs i n m v w es rising a b is_n is_v same_m same_w known =
    let rest = drop (i + 1) (zip ns vs) in
    let within : i < length (zip ns vs) = omega (arith, length-zip ns vs) in
    let here : get_or (zip ns vs) i (n, v) ≡ (n, v) = get_or-zip ns vs i (n, v) a b ∙ sym (ap (λ x. (x, get_or vs i v)) is_n) ∙ ap (λ y. (n, y)) (sym is_v) in
    let split : drop i (zip ns vs) ≡ (n, v) ∷ rest = drop_more (zip ns vs) i (n, v) within ∙ ap (λ e. e ∷ rest) here in
    let ordered : IsInOrder (members_view ((n, v) ∷ rest)) = subst (λ es. IsInOrder (members_view es)) split (order_left (zip ns vs) i (in_order (zip ns vs) (keys_rise ns vs rising))) in
    rw (split, known, same_m, same_w) (put_front (text_of n) (view v) (members_view rest) ordered.0)
