-- The place of a name among names in order, and the members at the names' indices.
use Rattle.std.proofs.Common.{◌≡◌, ◌∙◌, ◌⊎◌, inl, inr, Bool, true, false, if◌then◌else◌, ℕ, zero, suc, ◌<◌, ◌≤◌, List, [], ◌∷◌, length, map, get_or, set, zip, insert, remove, Option, Some, None, MatchOption, IfSome, HoldsAt, Bor, option_copied, slice_get, Less, Equal, Greater, String, Global, string_bytes, string_cmp, nat_cmp, is_eq, refl, sym, ap, subst, arith}
use Rattle.std.proofs.lemmas.Cmp.{nat_list_cmp_total}
use Rattle.std.specs.BTreeMap.{insert_entry}
use Rattle.std.specs.Cmp.Lexicographic.{slice_cmp}
use Rattle.std.specs.List.{AllByRecursion, AllZip}
use Rattle.std.specs.List.Sorted.{IsStrictlySortedBy}
use Rattle.std.specs.Map.{keys_of, lookup, remove_entry}
use Rattle.std.specs.Ordering.{ordering_reverse}
use Rattle.jv_data.specs.Names.{IsAt}
use Rattle.jv_data.specs.private.Names.{GoesTo}
use Rattle.jv_data.specs.declared.containers.names.Names.{Names}

-- names in order, by their bytes
abbrev pub AreRising : List (List ℕ) → Type 0
AreRising = IsStrictlySortedBy (slice_cmp nat_cmp)

abbrev pub Texts : Type 0
Texts = List (String Global)

-- ---- the search

-- the name comes after each of those before this index
abbrev pub IsPast : List ℕ → List (List ℕ) → ℕ → Type 0
IsPast k ls zero = Unit {0}
IsPast k [] (suc i) = ⊥
IsPast k (l ∷ ls) (suc i) = (slice_cmp nat_cmp k l ≡ Greater) × IsPast k ls i

-- the name comes before the one at this index, if there is one
abbrev pub IsAhead : List ℕ → List (List ℕ) → ℕ → Type 0
IsAhead k [] i = Unit {0}
IsAhead k (l ∷ ls) zero = slice_cmp nat_cmp k l ≡ Less
IsAhead k (l ∷ ls) (suc i) = IsAhead k ls i

turned : (k l : List ℕ) → slice_cmp nat_cmp k l ≡ Greater → slice_cmp nat_cmp l k ≡ Less
turned k l o = nat_list_cmp_total.antisymm l k ∙ ap ordering_reverse o

flipped : (k l : List ℕ) → slice_cmp nat_cmp k l ≡ Less → slice_cmp nat_cmp l k ≡ Greater
flipped k l o = nat_list_cmp_total.antisymm l k ∙ ap ordering_reverse o

less_at : (l : List ℕ) (ns : Texts) (i : ℕ) (n : String Global) → AllByRecursion (λ m. slice_cmp nat_cmp l m ≡ Less) (map string_bytes ns) → i < length ns → n ≡ get_or ns i n → slice_cmp nat_cmp l (string_bytes n) ≡ Less
less_at l [] i n h b e = absurd (omega arith)
less_at l (m ∷ ns) zero n h b e = ap (λ x. slice_cmp nat_cmp l (string_bytes x)) e ∙ h.0
less_at l (m ∷ ns) (suc i) n h b e = less_at l ns i n h.1 (omega arith) e

pub past_more : (k : List ℕ) (ns : Texts) (i : ℕ) (n : String Global) → AreRising (map string_bytes ns) → i < length ns → n ≡ get_or ns i n → slice_cmp nat_cmp k (string_bytes n) ≡ Greater → IsPast k (map string_bytes ns) (suc i)
unfolding IsStrictlySortedBy
past_more k [] i n h b e o = absurd (omega arith)
past_more k (m ∷ ns) zero n h b e o = (ap (λ x. slice_cmp nat_cmp k (string_bytes x)) (sym e) ∙ o, tt)
past_more k (m ∷ ns) (suc i) n h b e o =
    let below = less_at (string_bytes m) ns i n h.0 (omega arith) e in
    let less = nat_list_cmp_total.trans (string_bytes m) (string_bytes n) k below (turned k (string_bytes n) o) in
    (flipped (string_bytes m) k less, past_more k ns i n h.1 (omega arith) e o)

pub past_here : (k : List ℕ) (ns : Texts) (i : ℕ) (n : String Global) → AreRising (map string_bytes ns) → i < length ns → n ≡ get_or ns i n → slice_cmp nat_cmp k (string_bytes n) ≡ Equal → IsAt k (map string_bytes ns) i
unfolding IsStrictlySortedBy
past_here k [] i n h b e o = absurd (omega arith)
past_here k (m ∷ ns) zero n h b e o = ap (λ x. slice_cmp nat_cmp k (string_bytes x)) (sym e) ∙ o
past_here k (m ∷ ns) (suc i) n h b e o =
    let below = less_at (string_bytes m) ns i n h.0 (omega arith) e in
    (nat_list_cmp_total.congr k (string_bytes n) (string_bytes m) o ∙ flipped (string_bytes m) (string_bytes n) below, past_here k ns i n h.1 (omega arith) e o)

pub ahead_at : (k : List ℕ) (ns : Texts) (i : ℕ) (n : String Global) → i < length ns → n ≡ get_or ns i n → slice_cmp nat_cmp k (string_bytes n) ≡ Less → IsAhead k (map string_bytes ns) i
ahead_at k [] i n b e o = tt
ahead_at k (m ∷ ns) zero n b e o = ap (λ x. slice_cmp nat_cmp k (string_bytes x)) (sym e) ∙ o
ahead_at k (m ∷ ns) (suc i) n b e o = ahead_at k ns i n (omega arith) e o

pub ahead_of_none : (k : List ℕ) (ns : Texts) → IsAhead k (map string_bytes ns) (length ns)
ahead_of_none k [] = tt
ahead_of_none k (m ∷ ns) = ahead_of_none k ns

pub between : (k : List ℕ) (ls : List (List ℕ)) (i : ℕ) → IsPast k ls i → IsAhead k ls i → GoesTo k ls i
between k [] zero p a = tt
between k [] (suc i) p a = absurd p
between k (l ∷ ls) zero p a = a
between k (l ∷ ls) (suc i) p a = (p.0, between k ls i p.1 a)

-- ---- an insertion keeps the order

after_all : (k l : List ℕ) (ls : List (List ℕ)) → slice_cmp nat_cmp k l ≡ Less → AllByRecursion (λ m. slice_cmp nat_cmp l m ≡ Less) ls → AllByRecursion (λ m. slice_cmp nat_cmp k m ≡ Less) ls
after_all k l [] o h = tt
after_all k l (m ∷ ms) o h = (nat_list_cmp_total.trans k l m o h.0, after_all k l ms o h.1)

all_with : (l k : List ℕ) (ls : List (List ℕ)) (i : ℕ) → GoesTo k ls i → slice_cmp nat_cmp l k ≡ Less → AllByRecursion (λ m. slice_cmp nat_cmp l m ≡ Less) ls → AllByRecursion (λ m. slice_cmp nat_cmp l m ≡ Less) (insert ls i k)
all_with l k [] zero g o h = (o, tt)
all_with l k [] (suc i) g o h = absurd g
all_with l k (m ∷ ms) zero g o h = (o, h)
all_with l k (m ∷ ms) (suc i) g o h = (h.0, all_with l k ms i g.1 o h.1)

pub rising_with : (k : List ℕ) (ls : List (List ℕ)) (i : ℕ) → GoesTo k ls i → AreRising ls → AreRising (insert ls i k)
unfolding IsStrictlySortedBy
rising_with k [] zero g h = (tt, tt)
rising_with k [] (suc i) g h = absurd g
rising_with k (l ∷ ls) zero g h = ((g, after_all k l ls g h.0), h)
rising_with k (l ∷ ls) (suc i) g h = (all_with l k ls i g.1 (turned k l g.0) h.0, rising_with k ls i g.1 h.1)

all_without : (l : List ℕ) (ls : List (List ℕ)) (i : ℕ) → AllByRecursion (λ m. slice_cmp nat_cmp l m ≡ Less) ls → AllByRecursion (λ m. slice_cmp nat_cmp l m ≡ Less) (remove ls i)
all_without l [] zero h = tt
all_without l [] (suc i) h = tt
all_without l (m ∷ ms) zero h = h.1
all_without l (m ∷ ms) (suc i) h = (h.0, all_without l ms i h.1)

pub rising_without : (ls : List (List ℕ)) (i : ℕ) → AreRising ls → AreRising (remove ls i)
unfolding IsStrictlySortedBy
rising_without [] zero h = tt
rising_without [] (suc i) h = tt
rising_without (l ∷ ls) zero h = h.1
rising_without (l ∷ ls) (suc i) h = (all_without l ls i h.0, rising_without ls i h.1)

map-insert : (ns : Texts) (i : ℕ) (n : String Global) → map string_bytes (insert ns i n) ≡ insert (map string_bytes ns) i (string_bytes n)
map-insert [] zero n = refl
map-insert [] (suc i) n = refl
map-insert (m ∷ ns) zero n = refl
map-insert (m ∷ ns) (suc i) n = ap (λ ls. string_bytes m ∷ ls) (map-insert ns i n)

map-remove : (ns : Texts) (i : ℕ) → map string_bytes (remove ns i) ≡ remove (map string_bytes ns) i
map-remove [] zero = refl
map-remove [] (suc i) = refl
map-remove (m ∷ ns) zero = refl
map-remove (m ∷ ns) (suc i) = ap (λ ls. string_bytes m ∷ ls) (map-remove ns i)

pub rising_none : AreRising []
unfolding IsStrictlySortedBy
rising_none = tt

pub rising_inserted : (ns : Texts) (i : ℕ) (n : String Global) → GoesTo (string_bytes n) (map string_bytes ns) i → AreRising (map string_bytes ns) → AreRising (map string_bytes (insert ns i n))
rising_inserted ns i n g h = subst AreRising (sym (map-insert ns i n)) (rising_with (string_bytes n) (map string_bytes ns) i g h)

pub rising_removed : (ns : Texts) (i : ℕ) → AreRising (map string_bytes ns) → AreRising (map string_bytes (remove ns i))
rising_removed ns i h = subst AreRising (sym (map-remove ns i)) (rising_without (map string_bytes ns) i h)

pub rising_either : (b : Bool) (ns ms : Texts) → AreRising (map string_bytes ns) → AreRising (map string_bytes ms) → AreRising (map string_bytes (if b then ns else ms))
rising_either true ns ms h k = h
rising_either false ns ms h k = k

-- ---- copies

pub cloned_names : (ns ms : Texts) → AllZip (λ a b. string_bytes b ≡ string_bytes a) ns ms → map string_bytes ms ≡ map string_bytes ns
cloned_names [] [] z = refl
cloned_names [] (m ∷ ms) z = absurd z
cloned_names (n ∷ ns) [] z = absurd z
cloned_names (n ∷ ns) (m ∷ ms) z = rw (z.0, cloned_names ns ms z.1) refl

-- the names themselves, or a clone of them
pub same_texts : (m n : Names) → (n ≡ m) ⊎ (map string_bytes n.texts.items ≡ map string_bytes m.texts.items) → map string_bytes n.texts.items ≡ map string_bytes m.texts.items
same_texts m n h = elim h [ inl e ↦ ap (λ o. map string_bytes o.texts.items) e | inr z ↦ z ]

-- ---- the bounds of a place

pub within_place : (k : List ℕ) (ns : Texts) (i : ℕ) → GoesTo k (map string_bytes ns) i → i ≤ length ns
within_place k [] zero g = omega arith
within_place k [] (suc i) g = absurd g
within_place k (n ∷ ns) zero g = omega arith
within_place k (n ∷ ns) (suc i) g = let h = within_place k ns i g.1 in omega arith

pub below_length : (k : List ℕ) (ns : Texts) (i : ℕ) → IsAt k (map string_bytes ns) i → i < length ns
below_length k [] i g = absurd g
below_length k (n ∷ ns) zero g = omega arith
below_length k (n ∷ ns) (suc i) g = let h = below_length k ns i g.1 in omega arith

-- ---- the entries at the names' indices

module _ {X : Type 0} where
  pub zip_none : {K : Type 0} (ks : List K) → zip {K = K} {X = X} ks [] ≡ []
  zip_none [] = refl
  zip_none (k ∷ ks) = refl

  keys_rise_after : (k : String Global) (ns : Texts) (vs : List X) → AllByRecursion (λ m. slice_cmp nat_cmp (string_bytes k) m ≡ Less) (map string_bytes ns) → AllByRecursion (λ l. string_cmp k l ≡ Less) (keys_of (zip ns vs))
  keys_rise_after k [] vs h = tt
  keys_rise_after k (n ∷ ns) [] h = tt
  keys_rise_after k (n ∷ ns) (v ∷ vs) h = (h.0, keys_rise_after k ns vs h.1)

  pub keys_rise : (ns : Texts) (vs : List X) → AreRising (map string_bytes ns) → IsStrictlySortedBy string_cmp (keys_of (zip ns vs))
  unfolding IsStrictlySortedBy
  keys_rise [] vs h = tt
  keys_rise (n ∷ ns) [] h = tt
  keys_rise (n ∷ ns) (v ∷ vs) h = (keys_rise_after n ns vs h.0, keys_rise ns vs h.1)

  -- a search that found the name
  pub lookup_at : (k : List ℕ) (ns : Texts) (vs : List X) (i : ℕ) → IsAt k (map string_bytes ns) i → lookup (λ l. is_eq (slice_cmp nat_cmp k (string_bytes l))) (zip ns vs) ≡ slice_get vs i
  lookup_at k [] vs i g = absurd g
  lookup_at k (n ∷ ns) [] i g = refl
  lookup_at k (n ∷ ns) (v ∷ vs) zero g = rw g refl
  lookup_at k (n ∷ ns) (v ∷ vs) (suc i) g = rw g.0 (lookup_at k ns vs i g.1)

  none_after : (k : List ℕ) (ns : Texts) (vs : List X) → AllByRecursion (λ m. slice_cmp nat_cmp k m ≡ Less) (map string_bytes ns) → lookup (λ l. is_eq (slice_cmp nat_cmp k (string_bytes l))) (zip ns vs) ≡ None
  none_after k [] vs h = refl
  none_after k (n ∷ ns) [] h = refl
  none_after k (n ∷ ns) (v ∷ vs) h = rw h.0 (none_after k ns vs h.1)

  -- a search that found no name
  pub lookup_none : (k : List ℕ) (ns : Texts) (vs : List X) (i : ℕ) → GoesTo k (map string_bytes ns) i → AreRising (map string_bytes ns) → lookup (λ l. is_eq (slice_cmp nat_cmp k (string_bytes l))) (zip ns vs) ≡ None
  unfolding IsStrictlySortedBy
  lookup_none k [] vs i g h = refl
  lookup_none k (n ∷ ns) [] i g h = refl
  lookup_none k (n ∷ ns) (v ∷ vs) zero g h = rw g (none_after k ns vs (after_all k (string_bytes n) (map string_bytes ns) g h.0))
  lookup_none k (n ∷ ns) (v ∷ vs) (suc i) g h = rw g.0 (lookup_none k ns vs i g.1 h.1)

  -- the value of a name that is there is replaced
  pub insert_entry-at : (k : String Global) (ns : Texts) (vs : List X) (i : ℕ) (v : X) → IsAt (string_bytes k) (map string_bytes ns) i → i < length vs → insert_entry string_cmp (zip ns vs) k v ≡ zip ns (set vs i v)
  insert_entry-at k [] vs i v g b = absurd g
  insert_entry-at k (n ∷ ns) [] i v g b = absurd (omega arith)
  insert_entry-at k (n ∷ ns) (w ∷ vs) zero v g b = rw g refl
  insert_entry-at k (n ∷ ns) (w ∷ vs) (suc i) v g b = rw g.0 (ap (λ es. (n, w) ∷ es) (insert_entry-at k ns vs i v g.1 (omega arith)))

  -- a name that is not there goes to its place
  pub insert_entry-new : (k : String Global) (ns : Texts) (vs : List X) (i : ℕ) (v : X) → GoesTo (string_bytes k) (map string_bytes ns) i → i ≤ length vs → insert_entry string_cmp (zip ns vs) k v ≡ zip (insert ns i k) (insert vs i v)
  insert_entry-new k [] vs zero v g b = refl
  insert_entry-new k [] vs (suc i) v g b = absurd g
  insert_entry-new k (n ∷ ns) [] zero v g b = ap (λ es. (k, v) ∷ es) (sym (zip_none (n ∷ ns)))
  insert_entry-new k (n ∷ ns) (w ∷ vs) zero v g b = rw g refl
  insert_entry-new k (n ∷ ns) [] (suc i) v g b = absurd (omega arith)
  insert_entry-new k (n ∷ ns) (w ∷ vs) (suc i) v g b = rw g.0 (ap (λ es. (n, w) ∷ es) (insert_entry-new k ns vs i v g.1 (omega arith)))

  -- a name that is there is removed with its value
  pub remove_entry-at : (k : List ℕ) (ns : Texts) (vs : List X) (i : ℕ) → IsAt k (map string_bytes ns) i → i < length vs → remove_entry (λ l. is_eq (slice_cmp nat_cmp k (string_bytes l))) (zip ns vs) ≡ zip (remove ns i) (remove vs i)
  remove_entry-at k [] vs i g b = absurd g
  remove_entry-at k (n ∷ ns) [] i g b = absurd (omega arith)
  remove_entry-at k (n ∷ ns) (w ∷ vs) zero g b = rw g refl
  remove_entry-at k (n ∷ ns) (w ∷ vs) (suc i) g b = rw g.0 (ap (λ es. (n, w) ∷ es) (remove_entry-at k ns vs i g.1 (omega arith)))

  pub slice_get_is : (vs : List X) (i : ℕ) (x : X) → i < length vs → x ≡ get_or vs i x → slice_get vs i ≡ Some x
  slice_get_is [] i x b e = absurd (omega arith)
  slice_get_is (v ∷ vs) zero x b e = ap Some (sym e)
  slice_get_is (v ∷ vs) (suc i) x b e = slice_get_is vs i x (omega arith) e

  slice_get_past : (vs : List X) (i : ℕ) → length vs ≤ i → slice_get vs i ≡ None
  slice_get_past [] i b = refl
  slice_get_past (v ∷ vs) zero b = absurd (omega arith)
  slice_get_past (v ∷ vs) (suc i) b = slice_get_past vs i (omega arith)

  -- what `get` of a list returns
  pub got_is : (r : Option (Bor X)) (vs : List X) (i : ℕ) → MatchOption r (length vs ≤ i) (λ x. (i < length vs) × HoldsAt (λ y. x.now ≡ y) vs i) → IfSome r (λ x. x.now ≡ get_or vs i x.now) → option_copied r ≡ slice_get vs i
  got_is None vs i m e = sym (slice_get_past vs i m)
  got_is (Some x) vs i m e = sym (slice_get_is vs i x.now m.0 e)

  -- a name without a value
  pub lookup_past : (k : List ℕ) (ns : Texts) (vs : List X) (i : ℕ) → IsAt k (map string_bytes ns) i → length vs ≤ i → lookup (λ l. is_eq (slice_cmp nat_cmp k (string_bytes l))) (zip ns vs) ≡ None
  lookup_past k ns vs i g b = lookup_at k ns vs i g ∙ slice_get_past vs i b

  pub remove_entry-past : (k : List ℕ) (ns : Texts) (vs : List X) (i : ℕ) → IsAt k (map string_bytes ns) i → length vs ≤ i → remove_entry (λ l. is_eq (slice_cmp nat_cmp k (string_bytes l))) (zip ns vs) ≡ zip ns vs
  remove_entry-past k [] vs i g b = refl
  remove_entry-past k (n ∷ ns) [] i g b = refl
  remove_entry-past k (n ∷ ns) (w ∷ vs) zero g b = absurd (omega arith)
  remove_entry-past k (n ∷ ns) (w ∷ vs) (suc i) g b = rw g.0 (ap (λ es. (n, w) ∷ es) (remove_entry-past k ns vs i g.1 (omega arith)))

  kept_after : (k : List ℕ) (ns : Texts) (vs : List X) → AllByRecursion (λ m. slice_cmp nat_cmp k m ≡ Less) (map string_bytes ns) → remove_entry (λ l. is_eq (slice_cmp nat_cmp k (string_bytes l))) (zip ns vs) ≡ zip ns vs
  kept_after k [] vs h = refl
  kept_after k (n ∷ ns) [] h = refl
  kept_after k (n ∷ ns) (w ∷ vs) h = rw h.0 (ap (λ es. (n, w) ∷ es) (kept_after k ns vs h.1))

  pub remove_entry-none : (k : List ℕ) (ns : Texts) (vs : List X) (i : ℕ) → GoesTo k (map string_bytes ns) i → AreRising (map string_bytes ns) → remove_entry (λ l. is_eq (slice_cmp nat_cmp k (string_bytes l))) (zip ns vs) ≡ zip ns vs
  unfolding IsStrictlySortedBy
  remove_entry-none k [] vs i g h = refl
  remove_entry-none k (n ∷ ns) [] i g h = refl
  remove_entry-none k (n ∷ ns) (w ∷ vs) zero g h = rw g (ap (λ es. (n, w) ∷ es) (kept_after k ns vs (after_all k (string_bytes n) (map string_bytes ns) g h.0)))
  remove_entry-none k (n ∷ ns) (w ∷ vs) (suc i) g h = rw g.0 (ap (λ es. (n, w) ∷ es) (remove_entry-none k ns vs i g.1 h.1))

  pub insert-undone : (vs : List X) (i : ℕ) (v : X) → i ≤ length vs → remove (insert vs i v) i ≡ vs
  insert-undone vs zero v b = refl
  insert-undone [] (suc i) v b = absurd (omega arith)
  insert-undone (w ∷ vs) (suc i) v b = ap (λ ws. w ∷ ws) (insert-undone vs i v (omega arith))
