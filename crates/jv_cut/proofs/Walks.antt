-- Passing over the bytes of a block that leave the nesting state unchanged.
use Rattle.std.proofs.Common.{◌≡◌, ◌∙◌, ℕ, zero, suc, ◌+◌, ◌-◌, ◌/◌, ◌%◌, ◌^◌, ◌<◌, ◌≤◌, List, length, get_or, Bool, true, false, ◌==◌, cond, sym, ap, refl, subst, arith, w64, div-le_self, bit_or}
use Rattle.std.proofs.lemmas.Nat.Bits.{bit_at_or, bit_at-zero, bit_at-trailing_zeros}
use Rattle.std.specs.Int.{bit_at, trailing_zeros}
use Rattle.std.proofs.lemmas.Nat.{shr-shr}
use Rattle.jv_cut.specs.Text.{max_text, max_nesting, is_level, after_byte, nested}
use Rattle.jv_cut.specs.private.Scan.{Leads}
use Rattle.jv_cut.specs.private.Walk.{IsUnmarked, AreMarked, IsUnescaped, ArePassed}
use Rattle.jv_cut.specs.declared.nesting.Nest.{Nest}
use Rattle.jv_cut.specs.declared.nesting.Quote.{Quote}
use Rattle.jv_cut.specs.declared.nesting.Quote.TheVariants.{Outside, Inside, Escaped}
use Rattle.jv_cut.proofs.Bytes.{nested_same, nested_more}

stays : (depth : ℕ) (q : Quote) (x : ℕ) → IsUnmarked x → IsUnescaped q → after_byte (record { depth = depth; quote = q }) x ≡ record { depth = depth; quote = q }
stays depth Outside x u h = rw (u.opening, u.closing, u.quote) refl
stays depth Inside x u h = rw (u.quote, u.backslash) refl
stays depth Escaped x u h = absurd h

-- the text leads as far as n bytes further
kept : (bytes : List ℕ) (nest : Nest) (n i : ℕ) → i + n ≤ length bytes → i + n ≤ max_text → is_level nest ≡ false → nest.depth ≤ max_nesting → ((k : ℕ) → i ≤ k → k < i + n → after_byte nest (get_or bytes k 0) ≡ nest)
    → Leads bytes i (λ later more. nested i nest more) → Leads bytes (i + n) (λ later more. nested (i + n) nest more)
kept bytes nest zero i within short v d same l = let e : i ≡ i + 0 = omega arith in subst (λ m. Leads bytes m (λ later more. nested m nest more)) e l
kept bytes nest (suc n) i within short v d same l =
    let e : i + 1 + n ≡ i + suc n = omega arith in
    let next = nested_same bytes i nest l (omega arith) (omega arith) v d (same i (omega arith) (omega arith)) in
    subst (λ m. Leads bytes m (λ later more. nested m nest more)) e (kept bytes nest n (i + 1) (omega arith) (omega arith) v d (λ k low high. same k (omega arith) (omega arith)) next)

pub passed_on : (bytes : List ℕ) (bits at from to : ℕ) (nest : Nest) → at + 64 ≤ length bytes → at + 64 ≤ max_text → from ≤ to → to ≤ 64 → AreMarked bits bytes at → ArePassed bits nest.quote from to → is_level nest ≡ false → nest.depth ≤ max_nesting
    → Leads bytes (at + from) (λ later more. nested (at + from) nest more) → Leads bytes (at + to) (λ later more. nested (at + to) nest more)
passed_on bytes bits at from to nest room short low high marked passed v d l =
    let e : at + from + (to - from) ≡ at + to = omega arith in
    let same : (k : ℕ) → at + from ≤ k → k < at + from + (to - from) → after_byte nest (get_or bytes k 0) ≡ nest = λ k a b.
    let place : at + (k - at) ≡ k = omega arith in
    let p = passed.passed (k - at) (omega arith) (omega arith) in
    let u = marked.unmarked (k - at) (omega arith) p.0 in
    stays nest.depth nest.quote (get_or bytes k 0) (subst (λ m. IsUnmarked (get_or bytes m 0)) place u) p.1 in
    subst (λ m. Leads bytes m (λ later more. nested m nest more)) e (kept bytes nest (to - from) (at + from) (omega arith) (omega arith) v d same l)

-- ---- the marks of a block

unset : (b : Bool) (n : ℕ) → n ≡ cond b 1 0 → n ≡ 0 → b ≡ false
unset true n f e = let never : ⊥ = omega (arith, e, f) in absurd never
unset false n f e = refl

abbrev pub Tells : ℕ → ℕ → List ℕ → Type 0
Tells bits y v = (k : ℕ) → k < 64 → bit_at bits k ≡ cond (get_or v k 0 == y) 1 0

no_bit : (bits y : ℕ) (v : List ℕ) (k : ℕ) → Tells bits y v → k < 64 → bit_at bits k ≡ 0 → (get_or v k 0 == y) ≡ false
no_bit bits y v k tells h e = unset (get_or v k 0 == y) (bit_at bits k) (tells k h) e

either_zero : (a b i : ℕ) → bit_at (bit_or a b) i ≡ 0 → (bit_at a i ≡ 0) × (bit_at b i ≡ 0)
either_zero a b i e = let m = bit_at_or a b i in (omega (arith, m, e), omega (arith, m, e))

pub marked_by : (v bytes : List ℕ) (at : ℕ) → ((k : ℕ) → k < 64 → get_or v k 0 ≡ get_or bytes (at + k) 0) → (a b c d e f : ℕ) → Tells a 34 v → Tells b 92 v → Tells c 91 v → Tells d 93 v → Tells e 123 v → Tells f 125 v
    → AreMarked (bit_or (bit_or (bit_or a b) (bit_or c d)) (bit_or e f)) bytes at
marked_by v bytes at same a b c d e f ta tb tc td te tf =
    record {
      unmarked = λ k h z.
          let x = get_or bytes (at + k) 0 in
          let all = either_zero (bit_or (bit_or a b) (bit_or c d)) (bit_or e f) k z in
          let front = either_zero (bit_or a b) (bit_or c d) k all.0 in
          let strings = either_zero a b k front.0 in
          let arrays = either_zero c d k front.1 in
          let objects = either_zero e f k all.1 in
          let absent : (bits y : ℕ) → Tells bits y v → bit_at bits k ≡ 0 → (x == y) ≡ false = λ bits y t n. subst (λ w. (w == y) ≡ false) (same k h) (no_bit bits y v k t h n) in
          record {
            quote = absent a 34 ta strings.0;
            backslash = absent b 92 tb strings.1;
            opening = rw (absent e 123 te objects.0, absent c 91 tc arrays.0) refl;
            closing = rw (absent f 125 tf objects.1, absent d 93 td arrays.1) refl;
          };
    }

low_bits : (n j : ℕ) → n < 2 ^ 64 → j < trailing_zeros w64 n → bit_at n j ≡ 0
low_bits zero j h low = bit_at-zero j
low_bits (suc n) j h low = (bit_at-trailing_zeros w64 (suc n) (omega arith) h).2 j low

pub none_before : (m from : ℕ) → m < 2 ^ 64 → (k : ℕ) → from ≤ k → k < from + trailing_zeros w64 (m / 2 ^ from) → bit_at m k ≡ 0
none_before m from fits k low high =
    let n = m / 2 ^ from in
    let j = k - from in
    let e : from + j ≡ k = omega arith in
    let moved : bit_at n j ≡ bit_at m k = ap (λ x. x % 2) (shr-shr m from j ∙ ap (λ i. m / 2 ^ i) e) in
    sym moved ∙ low_bits n j (omega (arith, div-le_self m (2 ^ from))) (omega arith)

-- ---- the bytes before the first place

pub passed_first : (bytes : List ℕ) (bits at to : ℕ) (nest : Nest) → at + 64 ≤ length bytes → at + 64 ≤ max_text → to ≤ 64 → AreMarked bits bytes at → ArePassed bits nest.quote 0 to → is_level nest ≡ false → nest.depth ≤ max_nesting
    → Leads bytes at (λ later more. nested at nest more) → Leads bytes (at + to) (λ later more. nested (at + to) nest more)
passed_first bytes bits at to nest room short high marked passed v d l =
    let e : at ≡ at + 0 = omega arith in
    passed_on bytes bits at 0 to nest room short (omega arith) high marked passed v d (subst (λ m. Leads bytes m (λ later more. nested m nest more)) e l)

-- a place that changes the nesting state, and the bytes before the next
pub passed_more : (bytes : List ℕ) (bits at place to : ℕ) (old nest : Nest) → at + 64 ≤ length bytes → at + 64 ≤ max_text → place < 64 → place + 1 ≤ to → to ≤ 64 → AreMarked bits bytes at → nest ≡ after_byte old (get_or bytes (at + place) 0)
    → ArePassed bits nest.quote (place + 1) to → is_level nest ≡ false → nest.depth ≤ max_nesting → Leads bytes (at + place) (λ later more. nested (at + place) old more) → Leads bytes (at + to) (λ later more. nested (at + to) nest more)
passed_more bytes bits at place to old nest room short within low high marked seen passed v d l =
    let e : at + place + 1 ≡ at + (place + 1) = omega arith in
    let unclosed = subst (λ n. is_level n ≡ false) seen v in
    let shallow = subst (λ n. n.depth ≤ max_nesting) seen d in
    let next = nested_more bytes (at + place) old l (omega arith) (omega arith) unclosed shallow in
    let here = subst (λ n. Leads bytes (at + place + 1) (λ later more. nested (at + place + 1) n more)) (sym seen) next in
    passed_on bytes bits at (place + 1) to nest room short low high marked passed v d (subst (λ m. Leads bytes m (λ later more. nested m nest more)) e here)
