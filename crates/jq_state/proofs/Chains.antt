-- Vectors whose elements name earlier ones by index: pushing, cutting and reading.
use Rattle.std.proofs.Common.{◌≡◌, ℕ, suc, ◌+◌, ◌<◌, ◌≤◌, List, [], ◌∷◌, ◌++◌, length, get_or, take, drop, refl, sym, ap, ◌∙◌, arith, append_assoc, length-append, drop-cons, rules, Bool, true, false, if◌then◌else◌}
use Rattle.std.proofs.lemmas.List.{take-append-drop, length-take-le}
use Rattle.std.proofs.Math.Seq.{take-append_seam, get_or-append_seam}
use Rattle.jq_state.specs.Builds.{builds}

pub builds-append : {N A : Type 0} (f : List A → N → A) (known : List A) (ns ms : List N) → builds f known (ns ++ ms) ≡ builds f (builds f known ns) ms
builds-append f known [] ms = refl
builds-append f known (n ∷ ns) ms = builds-append f (known ++ f known n ∷ []) ns ms

pub builds-length : {N A : Type 0} (f : List A → N → A) (known : List A) (ns : List N) → length (builds f known ns) ≡ length known + length ns
builds-length f known [] = omega arith
builds-length f known (n ∷ ns) = builds-length f (known ++ f known n ∷ []) ns ∙ omega (arith, length-append known (f known n ∷ []))

-- what is known stays at the beginning
record Longer {A : Type 0} (xs ys : List A) : Type 0 where
  rest : List A
  is : ys ≡ xs ++ rest

builds-longer : {N A : Type 0} (read : List A → N → A) (known : List A) (ns : List N) → Longer known (builds read known ns)
builds-longer read known [] = record { rest = []; is = search rules }
builds-longer read known (n ∷ ns) =
    let h = builds-longer read (known ++ read known n ∷ []) ns in
    record { rest = read known n ∷ h.rest; is = h.is ∙ append_assoc known (read known n ∷ []) h.rest }

builds-front : {N A : Type 0} (read : List A → N → A) (known : List A) (ns : List N) → take (length known) (builds read known ns) ≡ known
builds-front read known ns = let h = builds-longer read known ns in ap (take (length known)) h.is ∙ take-append_seam known h.rest

-- cutting elements off does not change the others
pub builds-take : {N A : Type 0} (read : List A → N → A) (known : List A) (ns : List N) (k m : ℕ) → k ≤ length ns → m ≡ length known + k
    → builds read known (take k ns) ≡ take m (builds read known ns)
builds-take read known ns k m h e =
    let front = builds read known (take k ns) in
    let whole : builds read known ns ≡ builds read front (drop k ns) =
    ap (builds read known) (sym (take-append-drop k ns)) ∙ builds-append read known (take k ns) (drop k ns) in
    let n : m ≡ length front = let p = builds-length read known (take k ns) in let q = length-take-le k ns h in omega (arith, p, q, e) in
    sym (ap (λ j. take j (builds read known ns)) n ∙ ap (take (length front)) whole ∙ builds-front read front (drop k ns))

-- an element is computed from the elements before it
pub builds-read : {N A : Type 0} (read : List A → N → A) (known : List A) (ns : List N) (k i : ℕ) (d : A) (e : N) → k < length ns → i ≡ length known + k
    → get_or (builds read known ns) i d ≡ read (take i (builds read known ns)) (get_or ns k e)
builds-read read known ns k i d e h p =
    let front = builds read known (take k ns) in
    let x = get_or ns k e in
    let later = drop (suc k) ns in
    let le : k ≤ length ns = omega (arith, h) in
    let n : i ≡ length front = let a = builds-length read known (take k ns) in let b = length-take-le k ns le in omega (arith, a, b, p) in
    let parts : ns ≡ take k ns ++ x ∷ later = sym (take-append-drop k ns) ∙ ap (λ l. take k ns ++ l) (drop-cons ns k e h) in
    let whole : builds read known ns ≡ builds read (front ++ read front x ∷ []) later = ap (builds read known) parts ∙ builds-append read known (take k ns) (x ∷ later) in
    let l = builds-longer read (front ++ read front x ∷ []) later in
    let split : builds read known ns ≡ front ++ read front x ∷ l.rest = whole ∙ l.is ∙ append_assoc front (read front x ∷ []) l.rest in
    ap (λ j. get_or (builds read known ns) j d) n ∙ ap (λ xs. get_or xs (length front) d) split ∙ get_or-append_seam front (read front x) l.rest d
    ∙ ap (λ xs. read xs x) (builds-take read known ns k i le p)

-- a push that may fail
pub length_after : {N : Type 0} (b : Bool) (ns ms : List N) (n : N) → ms ≡ (if b then ns ++ n ∷ [] else ns) → length ms ≤ length ns + 1
length_after true ns ms n e = let p : length ms ≡ length (ns ++ n ∷ []) = ap length e in omega (arith, p, length-append ns (n ∷ []))
length_after false ns ms n e = let p : length ms ≡ length ns = ap length e in omega (arith, p)

pub length_before : {N : Type 0} (b : Bool) (ns ms : List N) (n : N) → ms ≡ (if b then ns ++ n ∷ [] else ns) → length ns ≤ length ms
length_before true ns ms n e = let p : length ms ≡ length (ns ++ n ∷ []) = ap length e in omega (arith, p, length-append ns (n ∷ []))
length_before false ns ms n e = let p : length ms ≡ length ns = ap length e in omega (arith, p)
