-- The chains through the bindings of each bucket: how they are made, and the search on them.
use Rattle.std.proofs.Common.{◌≡◌, ◌≢◌, ◌∙◌, ℕ, zero, suc, ◌+◌, ◌-◌, ◌<◌, ◌≤◌, List, [], ◌∷◌, ◌++◌, Bool, true, Option, Some, None, MatchOption, length, map, get_or, set, ap, sym, subst, refl, arith, inl, inr}
use Rattle.std.specs.Prelude.{slice_get}
use Rattle.std.proofs.Common.{length-append}
use Rattle.std.proofs.lemmas.Bool.{cases_order, false_from_ne_true}
use Rattle.std.proofs.lemmas.List.{get_or-set_same, get_or-set_other, get_or_append_left, get_or-append-add, length-map}
use Rattle.jq_meaning.specs.Env.{Binding}
use Rattle.jq_state.specs.Listed.{NoneFrom}
use Rattle.jq_state.specs.Nodes.{program_binding}
use Rattle.jq_state.specs.declared.environments.ProgramBinding.{ProgramBinding}
use Rattle.jq_state.specs.Buckets.{bucket_of}
use Rattle.jq_state.specs.Chained.{IsLast, Latest, Earlier}
use Rattle.jq_state.specs.private.Placed.{IsAt, IsNotAt}

-- ---- the chains are made

here : (bs : List ℕ) (k b : ℕ) → get_or bs k 0 ≡ b → IsLast b bs (k + 1) (k + 1)
here bs k b e =
    let p : k + 1 - 1 ≡ k = omega arith in
    (omega arith, λ l. ap (λ i. get_or bs i 0) p ∙ e, λ j l m. absurd (omega (arith, l, m)))

still : (bs : List ℕ) (k b at : ℕ) → get_or bs k 0 ≢ b → IsLast b bs k at → IsLast b bs (k + 1) at
still bs k b at n h =
    let l : at ≤ k = h.0 in (
      omega (arith, l),
      h.1,
      λ j m o.
          elim (cases_order j k) [
            | inl e ↦ λ f. n (ap (λ i. get_or bs i 0) (sym e) ∙ f)
            | inr (inl lt) ↦ h.2 j m lt
            | inr (inr gt) ↦ absurd (omega (arith, gt, o))
          ],
    )

-- the next index, which is in this bucket
pub more_chains : (bs : List ℕ) (k c : ℕ) (latest : List ℕ) → c < length latest → get_or bs k 0 ≡ c → Latest bs k latest → Latest bs (k + 1) (set latest c (k + 1))
more_chains bs k c latest l e h b m =
    elim (cases_order b c) [
      | inl same ↦
          let p : get_or (set latest c (k + 1)) b 0 ≡ k + 1 = ap (λ i. get_or (set latest c (k + 1)) i 0) same ∙ get_or-set_same latest c (k + 1) 0 l in
          subst (IsLast b bs (k + 1)) (sym p) (here bs k b (e ∙ sym same))
      | inr (inl lt) ↦
          let n : b ≢ c = λ f. absurd (omega (arith, f, lt)) in
          subst (IsLast b bs (k + 1)) (sym (get_or-set_other latest c b (k + 1) 0 n)) (still bs k b (get_or latest b 0) (λ f. n (sym f ∙ e)) (h b m))
      | inr (inr gt) ↦
          let n : b ≢ c = λ f. absurd (omega (arith, f, gt)) in
          subst (IsLast b bs (k + 1)) (sym (get_or-set_other latest c b (k + 1) 0 n)) (still bs k b (get_or latest b 0) (λ f. n (sym f ∙ e)) (h b m))
    ]

pub more_links : (bs : List ℕ) (k c : ℕ) (latest earlier : List ℕ) → c < 128 → length earlier ≡ k → get_or bs k 0 ≡ c → Latest bs k latest → Earlier bs earlier
    → Earlier bs (earlier ++ get_or latest c 0 ∷ [])
more_links bs k c latest earlier l n e h old i m =
    let x = get_or latest c 0 in
    let s : length (earlier ++ x ∷ []) ≡ length earlier + 1 = length-append earlier (x ∷ []) in
    elim (cases_order i k) [
      | inl same ↦
          let p : i ≡ length earlier + 0 = omega (arith, same, n) in
          let q : get_or (earlier ++ x ∷ []) i 0 ≡ x = ap (λ z. get_or (earlier ++ x ∷ []) z 0) p ∙ get_or-append-add earlier (x ∷ []) 0 0 in
          subst (IsLast (get_or bs i 0) bs i) (sym q)
          (subst (λ z. IsLast (get_or bs z 0) bs z x) (sym same) (subst (λ z. IsLast z bs k x) (sym e) (h c l)))
      | inr (inl lt) ↦
          let o : i < length earlier = omega (arith, lt, n) in
          subst (IsLast (get_or bs i 0) bs i) (sym (get_or_append_left earlier (x ∷ []) 0 i o)) (old i o)
      | inr (inr gt) ↦ absurd (omega (arith, gt, m, s, n))
    ]

-- ---- the search on them

-- A bucket has each binding for which a test holds.
abbrev pub InBucket : (holds : Binding → Bool) → ℕ → Type 0
InBucket holds b = (p : ProgramBinding) → holds (program_binding p) ≡ true → bucket_of p ≡ b

-- a link of a bucket's chain
abbrev pub InChain : (bucket : ℕ) → List ProgramBinding → (at : ℕ) → Type 0
InChain b ps at = (at ≤ length ps) × (0 < at → get_or (map bucket_of ps) (at - 1) 0 ≡ b)

at_place : (ps : List ProgramBinding) (j : ℕ) (b : Binding) → slice_get (map program_binding ps) j ≡ Some b
    → (p : ProgramBinding) × (program_binding p ≡ b) × (get_or (map bucket_of ps) j 0 ≡ bucket_of p)
at_place [] j b e = absurd (cc)
at_place (p ∷ ps) zero b e = let q : program_binding p ≡ b = cc in (p, q, refl)
at_place (p ∷ ps) (suc j) b e = at_place ps j b e

got_within : (bs : List Binding) (j : ℕ) (b : Binding) → slice_get bs j ≡ Some b → j < length bs
got_within [] j b e = absurd (cc)
got_within (c ∷ bs) zero b e = omega arith
got_within (c ∷ bs) (suc j) b e = let l = got_within bs j b e in omega (arith, l)

-- The search finds nothing between two links of a bucket's chain.
none_between : (holds : Binding → Bool) (ps : List ProgramBinding) (bucket start end : ℕ) → InBucket holds bucket
    → ((j : ℕ) → start ≤ j → j < end → get_or (map bucket_of ps) j 0 ≢ bucket) → NoneFrom holds (map program_binding ps) start end
none_between holds ps bucket start end law h j b l m e =
    let p = at_place ps j b e in
    false_from_ne_true (holds b) (λ f. h j l m (p.2 ∙ law p.0 (ap holds p.1 ∙ f)))

joined : (holds : Binding → Bool) (bs : List Binding) (start k at end : ℕ) → at ≡ k + 1 → NoneFrom holds bs start k → IsNotAt holds bs end k → NoneFrom holds bs at end
    → NoneFrom holds bs start end
joined holds bs start k at end e before not after j b l m f =
    elim (cases_order j k) [
      | inl same ↦
          let o : k < end = omega (arith, same, m) in
          not b o (ap (slice_get bs) (sym same) ∙ f)
      | inr (inl lt) ↦ before j b l lt f
      | inr (inr gt) ↦ let o : at ≤ j = omega (arith, gt, e) in after j b o m f
    ]

-- the first link
pub first_link : (ps : List ProgramBinding) (bucket : ℕ) (latest : List ℕ) → bucket < 128 → Latest (map bucket_of ps) (length ps) latest → InChain bucket ps (get_or latest bucket 0)
first_link ps bucket latest l h = let s = h bucket l in (s.0, s.1)

pub none_after_chain : (holds : Binding → Bool) (ps : List ProgramBinding) (bucket : ℕ) (latest : List ℕ) (end : ℕ) → bucket < 128 → InBucket holds bucket
    → Latest (map bucket_of ps) (length ps) latest → NoneFrom holds (map program_binding ps) (get_or latest bucket 0) end
none_after_chain holds ps bucket latest end l law h j b m n e =
    let i = got_within (map program_binding ps) j b e in
    let k : j < length ps = subst (λ z. j < z) (length-map ps program_binding) i in
    none_between holds ps bucket (get_or latest bucket 0) (length ps) law (h bucket l).2 j b m k e

-- the next link
pub next_link : (ps : List ProgramBinding) (bucket at : ℕ) (earlier : List ℕ) → length earlier ≡ length ps → Earlier (map bucket_of ps) earlier → 0 < at → InChain bucket ps at
    → InChain bucket ps (get_or earlier (at - 1) 0)
next_link ps bucket at earlier n h some c =
    let o = c.0 in
    let l : at - 1 < length earlier = omega (arith, some, o, n) in
    let s = h (at - 1) l in
    let within = s.0 in
    (omega (arith, within, o), λ m. s.1 m ∙ c.1 some)

pub none_before_link : (holds : Binding → Bool) (ps : List ProgramBinding) (bucket at : ℕ) (earlier : List ℕ) → length earlier ≡ length ps → InBucket holds bucket
    → Earlier (map bucket_of ps) earlier → 0 < at → InChain bucket ps at → NoneFrom holds (map program_binding ps) (get_or earlier (at - 1) 0) (at - 1)
none_before_link holds ps bucket at earlier n law h some c =
    let o = c.0 in
    let l : at - 1 < length earlier = omega (arith, some, o, n) in
    none_between holds ps bucket (get_or earlier (at - 1) 0) (at - 1) law (λ j m k f. (h (at - 1) l).2 j m k (f ∙ sym (c.1 some)))

pub none_from_link : (holds : Binding → Bool) (ps : List ProgramBinding) (bucket at end : ℕ) (earlier : List ℕ) → length earlier ≡ length ps → InBucket holds bucket
    → Earlier (map bucket_of ps) earlier → 0 < at → InChain bucket ps at → IsNotAt holds (map program_binding ps) end (at - 1) → NoneFrom holds (map program_binding ps) at end
    → NoneFrom holds (map program_binding ps) (get_or earlier (at - 1) 0) end
none_from_link holds ps bucket at end earlier n law h some c not after =
    let e : at ≡ at - 1 + 1 = omega (arith, some) in
    joined holds (map program_binding ps) (get_or earlier (at - 1) 0) (at - 1) at end e (none_before_link holds ps bucket at earlier n law h some c) not after

-- ---- the first one from a link on

pub record IsFirstFrom (holds : Binding → Bool) (bs : List Binding) (start end place : ℕ) (b : Binding) : Type 0 where
  pub within : place < end
  pub is : slice_get bs place ≡ Some b
  pub held : holds b ≡ true
  pub others : NoneFrom holds bs start place

pub here_first : (holds : Binding → Bool) (ps : List ProgramBinding) (bucket at end : ℕ) (earlier : List ℕ) (b : Binding) → length earlier ≡ length ps → InBucket holds bucket
    → Earlier (map bucket_of ps) earlier → 0 < at → InChain bucket ps at → IsAt holds (map program_binding ps) end (at - 1) b
    → IsFirstFrom holds (map program_binding ps) (get_or earlier (at - 1) 0) end (at - 1) b
here_first holds ps bucket at end earlier b n law h some c found = record {
  within = found.within;
  is = found.is;
  held = found.held;
  others = none_before_link holds ps bucket at earlier n law h some c;
}

pub still_first : (holds : Binding → Bool) (ps : List ProgramBinding) (bucket at end place : ℕ) (earlier : List ℕ) (b : Binding) → length earlier ≡ length ps → InBucket holds bucket
    → Earlier (map bucket_of ps) earlier → 0 < at → InChain bucket ps at → IsNotAt holds (map program_binding ps) end (at - 1) → IsFirstFrom holds (map program_binding ps) at end place b
    → IsFirstFrom holds (map program_binding ps) (get_or earlier (at - 1) 0) end place b
still_first holds ps bucket at end place earlier b n law h some c not f =
    let w = f.within in
    record {
      within = w;
      is = f.is;
      held = f.held;
      others = none_from_link holds ps bucket at place earlier n law h some c (λ x l e. not x (omega (arith, l, w)) e) f.others;
    }

pub still_found : {A : Type 0} (place : A → ℕ) (binding : A → Binding) (holds : Binding → Bool) (ps : List ProgramBinding) (bucket at end : ℕ) (earlier : List ℕ) (found : Option A)
    → length earlier ≡ length ps → InBucket holds bucket → Earlier (map bucket_of ps) earlier → 0 < at → InChain bucket ps at → IsNotAt holds (map program_binding ps) end (at - 1)
    → MatchOption found (NoneFrom holds (map program_binding ps) at end) (λ r. IsFirstFrom holds (map program_binding ps) at end (place r) (binding r))
    → MatchOption found (NoneFrom holds (map program_binding ps) (get_or earlier (at - 1) 0) end) (λ r. IsFirstFrom holds (map program_binding ps) (get_or earlier (at - 1) 0) end (place r) (binding r))
still_found place binding holds ps bucket at end earlier None n law h some c not before = none_from_link holds ps bucket at end earlier n law h some c not before
still_found place binding holds ps bucket at end earlier (Some r) n law h some c not before = still_first holds ps bucket at end (place r) earlier (binding r) n law h some c not before
