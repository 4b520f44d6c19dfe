-- How the buckets change with the binders, and that the binders of other buckets have other names.
use Rattle.std.proofs.Common.{◌≡◌, ◌≢◌, ◌∙◌, ◌+◌, ◌*◌, ◌%◌, ◌<◌, ◌≤◌, ℕ, zero, suc, List, [], ◌∷◌, ◌++◌, false, length, map, reverse, drop, get_or, set, replicate, string_bytes, inl, inr, ◌⊎◌, ap, sym, refl, subst, arith}
use Rattle.std.proofs.lemmas.List.{map-append, length-map, length-append, length-set, get_or_append_left, get_or-set_same, get_or-set_other, get_or-replicate}
use Rattle.std.proofs.Math.Seq.{get_or-append_seam}
use Rattle.std.proofs.Math.Nat.{eq-or-lt_of_le}
use Rattle.std.proofs.lemmas.Bool.{cases_order, false_from_ne_true}
use Rattle.std.specs.Str.{IsUtf8, chars}
use Rattle.std.proofs.lemmas.Str.{IsUtf8-string_bytes, encodes-chars}
use lib.Utf8.{encodes}
use Rattle.jq_tree.specs.Names.{same_reference, is_bound}
use Rattle.jq_tree.proofs.shared.References.{same_is}
use Rattle.jq_resolver.specs.private.Bindings.{reference_in, referred}
use Rattle.jq_resolver.specs.private.Buckets.{hashed, bucket_of, bucket_in, IsLatest, AreLinked}
use Rattle.jq_resolver.specs.declared.bindings.Kind.{Kind}
use Rattle.jq_resolver.specs.declared.bindings.Kind.TheVariants.{Function, Variable, Label}
use Rattle.jq_resolver.specs.declared.bindings.Bound.{Bound}
use Rattle.jq_resolver.proofs.Finding.{passed_last}

-- ---- the hash

pub hashed_more : (bs cs : List ℕ) (h : ℕ) → hashed h (bs ++ cs) ≡ hashed (hashed h bs) cs
hashed_more [] cs h = refl
hashed_more (b ∷ bs) cs h = hashed_more bs cs ((h * 37 + b) % 1024)

-- ---- the latest of a bucket

same_or_less : (i n : ℕ) → i < suc n → (i ≡ n) ⊎ (i < n)
same_or_less i n h = eq-or-lt_of_le (omega arith)

differs : (a b c : ℕ) → a ≡ b → b ≢ c → a ≢ c
differs a b c e f g = f (sym e ∙ g)

grown : (b : ℕ) (xs ys : List ℕ) (n k : ℕ) → n ≤ length xs → IsLatest b xs n k → IsLatest b (xs ++ ys) n k
grown b xs ys n k h g = record {
  within = g.within;
  belongs = λ i e. let inside : i < length xs = omega (arith, g.within) in get_or_append_left xs ys 0 i inside ∙ g.belongs i e;
  none_later = λ i f l. let inside : i < length xs = omega arith in differs _ _ b (get_or_append_left xs ys 0 i inside) (g.none_later i f l);
}

shrunk : (b : ℕ) (xs ys : List ℕ) (n k : ℕ) → n ≤ length xs → IsLatest b (xs ++ ys) n k → IsLatest b xs n k
shrunk b xs ys n k h g = record {
  within = g.within;
  belongs = λ i e. let inside : i < length xs = omega (arith, g.within) in sym (get_or_append_left xs ys 0 i inside) ∙ g.belongs i e;
  none_later = λ i f l. let inside : i < length xs = omega arith in differs _ _ b (sym (get_or_append_left xs ys 0 i inside)) (g.none_later i f l);
}

-- one more element, of another bucket
passed : (b : ℕ) (xs : List ℕ) (n k : ℕ) → get_or xs n 0 ≢ b → IsLatest b xs n k → IsLatest b xs (suc n) k
passed b xs n k d g = record {
  within = omega (arith, g.within);
  belongs = g.belongs;
  none_later = λ i f l. elim (same_or_less i n l) as (λ _. get_or xs i 0 ≢ b) [
    | inl e ↦ differs _ _ b (ap (λ j. get_or xs j 0) e) d
    | inr h ↦ g.none_later i f h
  ];
}

-- one element fewer, of another bucket
unpassed : (b : ℕ) (xs : List ℕ) (n k : ℕ) → get_or xs n 0 ≢ b → IsLatest b xs (suc n) k → IsLatest b xs n k
unpassed b xs n k d g = record {
  within = elim (same_or_less k (suc n) (omega (arith, g.within))) as (λ _. k ≤ n) [
    | inl e ↦ absurd (d (g.belongs n (sym e)))
    | inr h ↦ omega arith
  ];
  belongs = g.belongs;
  none_later = λ i f l. g.none_later i f (omega arith);
}

-- the last element
reached : (b : ℕ) (xs : List ℕ) (n : ℕ) → get_or xs n 0 ≡ b → IsLatest b xs (suc n) (suc n)
reached b xs n e = record {
  within = omega arith;
  belongs = λ i f. let same : i ≡ n = omega arith in ap (λ j. get_or xs j 0) same ∙ e;
  none_later = λ i f l. absurd (omega arith);
}

none_yet : (b : ℕ) (xs : List ℕ) → IsLatest b xs 0 0
none_yet b xs = record {
  within = omega arith;
  belongs = λ i e. absurd (omega arith);
  none_later = λ i f l. absurd (omega arith);
}

-- ---- the links

pub linked_none : (table : List ℕ) → table ≡ replicate 1024 0 → length table ≡ 1024 → AreLinked [] table
linked_none table e h = record {
  size = h;
  innermost = λ b l. subst (IsLatest b [] 0) (sym (ap (λ t. get_or t b 0) e ∙ get_or-replicate 1024 b 0 0 l)) (none_yet b []);
  outward = λ i x l f. absurd (omega arith);
}

in_order : (xs : List Bound) (x : Bound) → map bucket_in (xs ++ x ∷ []) ≡ map bucket_in xs ++ bucket_in x ∷ []
in_order xs x = map-append bucket_in xs (x ∷ [])

one_more : (xs : List Bound) (x : Bound) → length (xs ++ x ∷ []) ≡ suc (length xs)
one_more xs x = omega (arith, length-append xs (x ∷ []))

bucket_last : (xs : List Bound) (x : Bound) → get_or (map bucket_in xs ++ bucket_in x ∷ []) (length xs) 0 ≡ bucket_in x
bucket_last xs x = ap (λ n. get_or (map bucket_in xs ++ bucket_in x ∷ []) n 0) (sym (length-map xs bucket_in)) ∙ get_or-append_seam (map bucket_in xs) (bucket_in x) [] 0

-- the innermost binder is one of the others or the last
latest_entered : (xs : List Bound) (table : List ℕ) (x : Bound) (b : ℕ) → AreLinked xs table → bucket_in x < 1024 → b < 1024
    → IsLatest b (map bucket_in xs ++ bucket_in x ∷ []) (suc (length xs)) (get_or (set table (bucket_in x) (suc (length xs))) b 0)
latest_entered xs table x b l h k =
    let c = bucket_in x in
    let n = length xs in
    let all = map bucket_in xs ++ c ∷ [] in
    let inside : c < length table = omega (arith, l.size) in
    elim (cases_order b c) as (λ _. IsLatest b all (suc n) (get_or (set table c (suc n)) b 0)) [
      | inl e ↦ subst (IsLatest b all (suc n)) (sym (ap (λ d. get_or (set table c (suc n)) d 0) e ∙ get_or-set_same table c (suc n) 0 inside)) (reached b all n (bucket_last xs x ∙ sym e))
      | inr o ↦
          let other : b ≢ c = elim o as (λ _. b ≢ c) [ inl f ↦ (λ e. omega arith) | inr f ↦ (λ e. omega arith) ] in
          let last : get_or all n 0 ≢ b = differs _ _ b (bucket_last xs x) (λ e. other (sym e)) in
          let count : n ≤ length (map bucket_in xs) = omega (arith, length-map xs bucket_in) in
          subst (IsLatest b all (suc n)) (sym (get_or-set_other table c b (suc n) 0 other)) (passed b all n _ last (grown b (map bucket_in xs) (c ∷ []) n _ count (l.innermost b k)))
    ]

outward_entered : (xs : List Bound) (table : List ℕ) (x : Bound) (i : ℕ) (y : Bound) → AreLinked xs table → bucket_in x < 1024 → x.before ≡ get_or table (bucket_in x) 0
    → i < suc (length xs) → y ≡ get_or (xs ++ x ∷ []) i y → IsLatest (bucket_in y) (map bucket_in xs ++ bucket_in x ∷ []) i y.before
outward_entered xs table x i y l h e j f =
    let n = length xs in
    let all = map bucket_in xs ++ bucket_in x ∷ [] in
    elim (same_or_less i n j) as (λ _. IsLatest (bucket_in y) all i y.before) [
      | inl s ↦
          let count : n ≤ length (map bucket_in xs) = omega (arith, length-map xs bucket_in) in
          let same : y ≡ x = f ∙ ap (λ k. get_or (xs ++ x ∷ []) k y) s ∙ get_or-append_seam xs x [] y in
          let last : IsLatest (bucket_in x) all n (get_or table (bucket_in x) 0) = grown _ _ _ n _ count (l.innermost (bucket_in x) h) in
          let before : IsLatest (bucket_in x) all n x.before = subst (IsLatest (bucket_in x) all n) (sym e) last in
          let there : IsLatest (bucket_in x) all i x.before = subst (λ k. IsLatest (bucket_in x) all k x.before) (sym s) before in
          subst (λ z. IsLatest (bucket_in z) all i z.before) (sym same) there
      | inr s ↦
          let count : i ≤ length (map bucket_in xs) = omega (arith, length-map xs bucket_in) in
          grown _ _ _ i _ count (l.outward i y s (f ∙ get_or_append_left xs (x ∷ []) y i s))
    ]

pub linked_more : (xs : List Bound) (table : List ℕ) (x : Bound) → AreLinked xs table → bucket_in x < 1024 → x.before ≡ get_or table (bucket_in x) 0
    → AreLinked (xs ++ x ∷ []) (set table (bucket_in x) (suc (length xs)))
linked_more xs table x l h e =
    let now = set table (bucket_in x) (suc (length xs)) in
    record {
      size = length-set table (bucket_in x) (suc (length xs)) ∙ l.size;
      innermost = λ b k. subst (λ all. IsLatest b all (length (xs ++ x ∷ [])) (get_or now b 0)) (sym (in_order xs x))
          (subst (λ n. IsLatest b (map bucket_in xs ++ bucket_in x ∷ []) n (get_or now b 0)) (sym (one_more xs x)) (latest_entered xs table x b l h k));
      outward = λ i y j f. subst (λ all. IsLatest (bucket_in y) all i y.before) (sym (in_order xs x)) (outward_entered xs table x i y l h e (omega (arith, one_more xs x)) f);
    }

latest_left : (xs : List Bound) (table : List ℕ) (x : Bound) (b : ℕ) → AreLinked (xs ++ x ∷ []) table → bucket_in x < 1024 → b < 1024
    → IsLatest b (map bucket_in xs) (length xs) (get_or (set table (bucket_in x) x.before) b 0)
latest_left xs table x b l h k =
    let c = bucket_in x in
    let n = length xs in
    let all = map bucket_in xs ++ c ∷ [] in
    let inside : c < length table = omega (arith, l.size) in
    let count : n ≤ length (map bucket_in xs) = omega (arith, length-map xs bucket_in) in
    elim (cases_order b c) as (λ _. IsLatest b (map bucket_in xs) n (get_or (set table c x.before) b 0)) [
      | inl e ↦
          let place : n < length (xs ++ x ∷ []) = omega (arith, one_more xs x) in
          let before : IsLatest c (map bucket_in (xs ++ x ∷ [])) n x.before = l.outward n x place (sym (get_or-append_seam xs x [] x)) in
          let short : IsLatest c (map bucket_in xs) n x.before = shrunk c _ (c ∷ []) n _ count (subst (λ zs. IsLatest c zs n x.before) (in_order xs x) before) in
          let there : IsLatest b (map bucket_in xs) n x.before = subst (λ d. IsLatest d (map bucket_in xs) n x.before) (sym e) short in
          subst (IsLatest b (map bucket_in xs) n) (sym (ap (λ d. get_or (set table c x.before) d 0) e ∙ get_or-set_same table c x.before 0 inside)) there
      | inr o ↦
          let other : b ≢ c = elim o as (λ _. b ≢ c) [ inl f ↦ (λ e. omega arith) | inr f ↦ (λ e. omega arith) ] in
          let last : get_or all n 0 ≢ b = differs _ _ b (bucket_last xs x) (λ e. other (sym e)) in
          let whole : IsLatest b all (suc n) (get_or table b 0) =
          subst (λ zs. IsLatest b zs (suc n) (get_or table b 0)) (in_order xs x) (subst (λ m. IsLatest b (map bucket_in (xs ++ x ∷ [])) m (get_or table b 0)) (one_more xs x) (l.innermost b k)) in
          subst (IsLatest b (map bucket_in xs) n) (sym (get_or-set_other table c b x.before 0 other)) (shrunk b _ (c ∷ []) n _ count (unpassed b all n _ last whole))
    ]

pub linked_less : (xs : List Bound) (table : List ℕ) (x : Bound) → AreLinked (xs ++ x ∷ []) table → bucket_in x < 1024 → AreLinked xs (set table (bucket_in x) x.before)
linked_less xs table x l h = record {
  size = length-set table (bucket_in x) x.before ∙ l.size;
  innermost = λ b k. latest_left xs table x b l h k;
  outward = λ i y j f.
      let count : i ≤ length (map bucket_in xs) = omega (arith, length-map xs bucket_in) in
      let place : i < length (xs ++ x ∷ []) = omega (arith, one_more xs x) in
      let at : y ≡ get_or (xs ++ x ∷ []) i y = f ∙ sym (get_or_append_left xs (x ∷ []) y i j) in
      shrunk _ _ (bucket_in x ∷ []) i _ count (subst (λ zs. IsLatest (bucket_in y) zs i y.before) (in_order xs x) (l.outward i y place at));
}

-- ---- another bucket is another name

same_bytes : (ns ms : List ℕ) → IsUtf8 ns → IsUtf8 ms → chars ns ≡ chars ms → ns ≡ ms
same_bytes ns ms u v e = sym (encodes-chars ns u) ∙ ap encodes e ∙ encodes-chars ms v

same_bucket : (k j : Kind) (ns ms : List ℕ) → IsUtf8 ns → IsUtf8 ms → referred k ns ≡ referred j ms → bucket_of k ns ≡ bucket_of j ms
same_bucket (Function a) (Function b) ns ms u v e =
    let arity : a ≡ b = cc in
    let spelling : chars ns ≡ chars ms = cc in
    ap (λ c. bucket_of (Function c) ns) arity ∙ ap (bucket_of (Function b)) (same_bytes ns ms u v spelling)
same_bucket Variable Variable ns ms u v e = let spelling : chars ns ≡ chars ms = cc in ap (bucket_of Variable) (same_bytes ns ms u v spelling)
same_bucket Label Label ns ms u v e = let spelling : chars ns ≡ chars ms = cc in ap (bucket_of Label) (same_bytes ns ms u v spelling)
same_bucket k j ns ms u v e = absurd (cc)

pub other_name : (k : Kind) (name : List ℕ) (x : Bound) → IsUtf8 name → bucket_in x ≢ bucket_of k name → same_reference (referred k name) (reference_in x) ≡ false
other_name k name x u d = false_from_ne_true _ (λ e. d (sym (same_bucket k x.kind name (string_bytes x.name) u (IsUtf8-string_bytes x.name) (same_is _ _ e))))

-- ---- the binders that a bucket skips

abbrev IsUnbound : Kind → (name : List ℕ) → List Bound → ℕ → Type 0
IsUnbound k name xs n = is_bound (referred k name) (reverse (map reference_in (drop n xs))) ≡ false

element : (xs : List Bound) (i : ℕ) → i < length xs → (x : Bound) × (x ≡ get_or xs i x)
element [] i h = absurd (omega arith)
element (x ∷ xs) zero h = (x, refl)
element (x ∷ xs) (suc i) h = element xs i (omega arith)

pub bucket_at : (xs : List Bound) (i : ℕ) (x : Bound) → i < length xs → x ≡ get_or xs i x → get_or (map bucket_in xs) i 0 ≡ bucket_in x
bucket_at [] i x h e = absurd (omega arith)
bucket_at (y ∷ xs) zero x h e = ap bucket_in (sym e)
bucket_at (y ∷ xs) (suc i) x h e = bucket_at xs i x (omega arith) e

pub skipped : (k : Kind) (name : List ℕ) (xs : List Bound) → IsUtf8 name → (n m : ℕ) → n ≤ length xs → IsLatest (bucket_of k name) (map bucket_in xs) n m
    → IsUnbound k name xs n → IsUnbound k name xs m
skipped k name xs u zero m h g e = let none : zero ≡ m = omega (arith, g.within) in subst (IsUnbound k name xs) none e
skipped k name xs u (suc n) m h g e = elim (same_or_less m (suc n) (omega (arith, g.within))) as (λ _. IsUnbound k name xs m) [
  | inl s ↦ subst (IsUnbound k name xs) (sym s) e
  | inr l ↦
      let place : n < length xs = omega arith in
      let x = element xs n place in
      let other : bucket_in x.0 ≢ bucket_of k name = differs _ _ _ (sym (bucket_at xs n x.0 place x.1)) (g.none_later n (omega arith) (omega arith)) in
      let within : m ≤ n = omega arith in
      let rest : IsLatest (bucket_of k name) (map bucket_in xs) n m = record { within = within; belongs = g.belongs; none_later = λ i f j. g.none_later i f (omega arith) } in
      skipped k name xs u n m (omega arith) rest (passed_last xs n x.0 (referred k name) place x.1 (other_name k name x.0 u other) e)
]
