-- Texts compare by their bytes as by their code points.
use Rattle.std.proofs.Common.{◌≡◌, ℕ, ◌<◌, ◌≤◌, ◌+◌, ◌/◌, inl, inr, List, [], ◌∷◌, ◌++◌, false, String, Global, string_bytes, Less, Equal, Greater, nat_cmp, refl, sym, ap, ◌∙◌, arith}
use Rattle.std.proofs.lemmas.Bool.{cases_lt, cases_order, lt-ltb}
use Rattle.std.proofs.lemmas.Bool.Decides.{nat_tests}
use Rattle.std.proofs.lemmas.Cmp.{nat_list_cmp_total}
use Rattle.std.proofs.lemmas.Str.{IsUtf8-string_bytes, chars-encodes}
use Rattle.std.specs.Cmp.Lexicographic.{slice_cmp}
use Rattle.std.specs.Ordering.{ordering_then, ordering_reverse}
use Rattle.std.specs.Str.{chars, IsUtf8}
use lib.Dec.{ltb}
use lib.Utf8.{encode, encodes, next}

-- whatever follows, xs comes before ys
pub record Before (xs ys : List ℕ) : Type 0 where
  pub less : (r t : List ℕ) → slice_cmp nat_cmp (xs ++ r) (ys ++ t) ≡ Less

pub nat_cmp-less : (a b : ℕ) → a < b → nat_cmp a b ≡ Less
nat_cmp-less a b h = grind (arith, nat_tests)

pub nat_cmp-more : (a b : ℕ) → b < a → nat_cmp a b ≡ Greater
nat_cmp-more a b h = grind (arith, nat_tests)

pub nat_cmp-same : (a : ℕ) → nat_cmp a a ≡ Equal
nat_cmp-same a = grind (arith, nat_tests)

lead_less : (a b : ℕ) (xs ys : List ℕ) → a < b → Before (a ∷ xs) (b ∷ ys)
lead_less a b xs ys h = record { less = λ r t. rw (nat_cmp-less a b h) }

lead_same : (a b : ℕ) (xs ys : List ℕ) → a ≡ b → Before xs ys → Before (a ∷ xs) (b ∷ ys)
lead_same a b xs ys e h = record { less = λ r t. rw (e, nat_cmp-same b) (h.less r t) }

same_front : (p r t : List ℕ) → slice_cmp nat_cmp (p ++ r) (p ++ t) ≡ slice_cmp nat_cmp r t
same_front [] r t = refl
same_front (a ∷ p) r t = rw (nat_cmp-same a) (same_front p r t)

-- the first byte is less, or it is the same and the other bytes come before
lead : (a b : ℕ) (xs ys : List ℕ) → a ≤ b → (a ≡ b → Before xs ys) → Before (a ∷ xs) (b ∷ ys)
lead a b xs ys h more = elim (cases_lt a b) [ inl lt ↦ lead_less a b xs ys lt | inr ge ↦ let e : a ≡ b = omega arith in lead_same a b xs ys e (more e) ]

last : (c d : ℕ) → c < d → c / 64 ≡ d / 64 → Before (next c ∷ []) (next d ∷ [])
last c d h e = lead_less (next c) (next d) [] [] (omega arith)

two : (c d : ℕ) → c < d → c / 4096 ≡ d / 4096 → Before (next (c / 64) ∷ next c ∷ []) (next (d / 64) ∷ next d ∷ [])
two c d h e = lead (next (c / 64)) (next (d / 64)) _ _ (omega arith) (λ s. last c d h (omega arith))

three : (c d : ℕ) → c < d → c / 262144 ≡ d / 262144 → Before (next (c / 4096) ∷ next (c / 64) ∷ next c ∷ []) (next (d / 4096) ∷ next (d / 64) ∷ next d ∷ [])
three c d h e = lead (next (c / 4096)) (next (d / 4096)) _ _ (omega arith) (λ s. two c d h (omega arith))

abbrev e1 : ℕ → List ℕ
e1 c = c ∷ []

abbrev e2 : ℕ → List ℕ
e2 c = (192 + c / 64) ∷ next c ∷ []

abbrev e3 : ℕ → List ℕ
e3 c = (224 + c / 4096) ∷ next (c / 64) ∷ next c ∷ []

abbrev e4 : ℕ → List ℕ
e4 c = (240 + c / 262144) ∷ next (c / 4096) ∷ next (c / 64) ∷ next c ∷ []

-- the four forms
data Form (c : ℕ) : Type 0 where
  one : c < 128 → encode c ≡ e1 c → Form c
  pair : 128 ≤ c → c < 2048 → encode c ≡ e2 c → Form c
  triple : 2048 ≤ c → c < 65536 → encode c ≡ e3 c → Form c
  quad : 65536 ≤ c → encode c ≡ e4 c → Form c

above : (a b : ℕ) → b ≤ a → ltb a b ≡ false
above a b h = grind (arith, nat_tests)

form_of : (c : ℕ) → Form c
unfolding encode
form_of c = elim (cases_lt c 128) [
  | inl a ↦ one a (rw (lt-ltb c 128 a))
  | inr b ↦ elim (cases_lt c 2048) [
    | inl p ↦ pair b p (rw (above c 128 b, lt-ltb c 2048 p))
    | inr q ↦ elim (cases_lt c 65536) [
      | inl m ↦ triple q m (rw (above c 128 b, above c 2048 q, lt-ltb c 65536 m))
      | inr n ↦ quad n (rw (above c 128 b, above c 2048 q, above c 65536 n))
    ]
  ]
]

along : (xs ys zs ws : List ℕ) → xs ≡ zs → ys ≡ ws → Before zs ws → Before xs ys
along xs ys zs ws e f h = rw (e, f) h

by_form : (c d : ℕ) → c < d → Form c → Form d → Before (encode c) (encode d)
by_form c d h (one a e) (one b f) = along _ _ _ _ e f (lead_less c d [] [] h)
by_form c d h (one a e) (pair b1 b2 f) = along _ _ _ _ e f (lead_less _ _ _ _ (omega arith))
by_form c d h (one a e) (triple b1 b2 f) = along _ _ _ _ e f (lead_less _ _ _ _ (omega arith))
by_form c d h (one a e) (quad b f) = along _ _ _ _ e f (lead_less _ _ _ _ (omega arith))
by_form c d h (pair a1 a2 e) (one b f) = absurd (omega arith)
by_form c d h (pair a1 a2 e) (pair b1 b2 f) = along _ _ _ _ e f (lead (192 + c / 64) (192 + d / 64) _ _ (omega arith) (λ s. last c d h (omega arith)))
by_form c d h (pair a1 a2 e) (triple b1 b2 f) = along _ _ _ _ e f (lead_less _ _ _ _ (omega arith))
by_form c d h (pair a1 a2 e) (quad b f) = along _ _ _ _ e f (lead_less _ _ _ _ (omega arith))
by_form c d h (triple a1 a2 e) (one b f) = absurd (omega arith)
by_form c d h (triple a1 a2 e) (pair b1 b2 f) = absurd (omega arith)
by_form c d h (triple a1 a2 e) (triple b1 b2 f) = along _ _ _ _ e f (lead (224 + c / 4096) (224 + d / 4096) _ _ (omega arith) (λ s. two c d h (omega arith)))
by_form c d h (triple a1 a2 e) (quad b f) = along _ _ _ _ e f (lead_less _ _ _ _ (omega arith))
by_form c d h (quad a e) (one b f) = absurd (omega arith)
by_form c d h (quad a e) (pair b1 b2 f) = absurd (omega arith)
by_form c d h (quad a e) (triple b1 b2 f) = absurd (omega arith)
by_form c d h (quad a e) (quad b f) = along _ _ _ _ e f (lead (240 + c / 262144) (240 + d / 262144) _ _ (omega arith) (λ s. three c d h (omega arith)))

pub encode-Before : (c d : ℕ) → c < d → Before (encode c) (encode d)
encode-Before c d h = by_form c d h (form_of c) (form_of d)

flipped : (xs ys : List ℕ) → slice_cmp nat_cmp xs ys ≡ Less → slice_cmp nat_cmp ys xs ≡ Greater
flipped xs ys e = nat_list_cmp_total.antisymm ys xs ∙ ap ordering_reverse e

-- one character
pub encode-cmp : (c d : ℕ) (r t : List ℕ) → slice_cmp nat_cmp (encode c ++ r) (encode d ++ t) ≡ ordering_then (nat_cmp c d) (slice_cmp nat_cmp r t)
encode-cmp c d r t = elim (cases_order c d) [
  | inl e ↦ rw (e, nat_cmp-same d) (same_front (encode d) r t)
  | inr (inl lt) ↦ rw (nat_cmp-less c d lt) ((encode-Before c d lt).less r t)
  | inr (inr gt) ↦ rw (nat_cmp-more c d gt) (flipped (encode d ++ t) (encode c ++ r) ((encode-Before d c gt).less t r))
]

some_byte : (c : ℕ) → Form c → (t : List ℕ) → (slice_cmp nat_cmp [] (encode c ++ t) ≡ Less) × (slice_cmp nat_cmp (encode c ++ t) [] ≡ Greater)
some_byte c (one a e) t = rw e (refl, refl)
some_byte c (pair a b e) t = rw e (refl, refl)
some_byte c (triple a b e) t = rw e (refl, refl)
some_byte c (quad a e) t = rw e (refl, refl)

pub encodes-cmp : (cs ds : List ℕ) → slice_cmp nat_cmp (encodes cs) (encodes ds) ≡ slice_cmp nat_cmp cs ds
encodes-cmp [] [] = refl
encodes-cmp [] (d ∷ ds) = (some_byte d (form_of d) (encodes ds)).0
encodes-cmp (c ∷ cs) [] = (some_byte c (form_of c) (encodes cs)).1
encodes-cmp (c ∷ cs) (d ∷ ds) = encode-cmp c d (encodes cs) (encodes ds) ∙ ap (ordering_then (nat_cmp c d)) (encodes-cmp cs ds)

-- two texts in UTF-8
pub utf8-cmp : (xs ys : List ℕ) → IsUtf8 xs → IsUtf8 ys → slice_cmp nat_cmp xs ys ≡ slice_cmp nat_cmp (chars xs) (chars ys)
utf8-cmp xs ys (cs, (p, e)) (ds, (q, f)) = rw (sym e, sym f, chars-encodes cs p, chars-encodes ds q) (encodes-cmp cs ds)

-- two strings
pub chars-cmp : (s t : String Global) → slice_cmp nat_cmp (string_bytes s) (string_bytes t) ≡ slice_cmp nat_cmp (chars (string_bytes s)) (chars (string_bytes t))
chars-cmp s t = utf8-cmp (string_bytes s) (string_bytes t) (IsUtf8-string_bytes s) (IsUtf8-string_bytes t)
