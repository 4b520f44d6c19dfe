-- The members of a draft that has known names.
use Rattle.std.proofs.Common.{◌≡◌, ◌∙◌, inl, inr, ℕ, zero, suc, ◌+◌, ◌<◌, ◌≤◌, List, [], ◌∷◌, ◌++◌, length, map, drop, get_or, set, zip, Option, Some, None, String, Global, string_bytes, Less, nat_cmp, refl, sym, ap, subst, arith}
use Rattle.std.proofs.lemmas.Bool.{cases_lt}
use Rattle.std.proofs.lemmas.List.{drop_more}
use Rattle.std.proofs.lemmas.Map.Lookups.{exact_bytes}
use Rattle.std.proofs.lemmas.Str.{IsUtf8-string_bytes}
use Rattle.std.specs.Cmp.Lexicographic.{slice_cmp}
use Rattle.std.specs.List.{AllByRecursion}
use Rattle.std.specs.List.Sorted.{IsStrictlySortedBy}
use Rattle.std.specs.Str.{chars, IsUtf8}
use Rattle.jv_data.proofs.Members.{put_front}
use Rattle.jv_data.proofs.Names.{AreRising, Texts}
use Rattle.jv_data.proofs.Utf8.{chars-cmp, utf8-cmp}
use Rattle.jv_data.specs.Drafts.{present}
use Rattle.jv_data.specs.private.Slots.{values_there, AreNone, AreSome}
use Rattle.jv_data.specs.View.{view, members_view}
use Rattle.jv_data.specs.declared.values.Val.{Val}
use Rattle.jv_data.specs.Names.{IsAt}
use Rattle.jv_data.specs.Members.{IsBefore, put}
use Rattle.jv_data.specs.Text.{text_of}
use Rattle.jv_data.specs.Value.{member, text_cmp}

abbrev pub Slots : Type 0
Slots = List (Option Val)

-- ---- no values

pub none_more : (slots : Slots) → AreNone slots → AreNone (slots ++ None ∷ [])
none_more [] h = tt
none_more (None ∷ slots) h = none_more slots h
none_more (Some v ∷ slots) h = absurd h

pub none_present : (ns : Texts) (slots : Slots) → AreNone slots → present ns slots ≡ []
none_present [] slots h = refl
none_present (n ∷ ns) [] h = refl
none_present (n ∷ ns) (None ∷ slots) h = none_present ns slots h
none_present (n ∷ ns) (Some v ∷ slots) h = absurd h

-- ---- a value at a name's index

before_present : (n : String Global) (ns : Texts) (slots : Slots) → AllByRecursion (λ m. slice_cmp nat_cmp (string_bytes n) m ≡ Less) (map string_bytes ns) → IsBefore (text_of n) (members_view (present ns slots))
before_present n [] slots h = tt
before_present n (m ∷ ns) [] h = tt
before_present n (m ∷ ns) (None ∷ slots) h = before_present n ns slots h.1
before_present n (m ∷ ns) (Some v ∷ slots) h = (sym (chars-cmp n m) ∙ h.0, before_present n ns slots h.1)

cmp_text : (k : List ℕ) (u : IsUtf8 k) (n : String Global) → text_cmp (chars k) (text_of n) ≡ slice_cmp nat_cmp k (string_bytes n)
cmp_text k u n = sym (utf8-cmp k (string_bytes n) u (IsUtf8-string_bytes n))

pub present_put : (k : List ℕ) (u : IsUtf8 k) (ns : Texts) (slots : Slots) (i : ℕ) (v : Val) → AreRising (map string_bytes ns) → IsAt k (map string_bytes ns) i → i < length slots
    → members_view (present ns (set slots i (Some v))) ≡ put (chars k) (view v) (members_view (present ns slots))
unfolding IsStrictlySortedBy
present_put k u [] slots i v h g b = absurd g
present_put k u (n ∷ ns) [] i v h g b = absurd (omega arith)
present_put k u (n ∷ ns) (None ∷ slots) zero v h g b =
    let same : chars k ≡ text_of n = ap chars (exact_bytes k (string_bytes n) g) in
    rw same (sym (put_front (text_of n) (view v) (members_view (present ns slots)) (before_present n ns slots h.0)))
present_put k u (n ∷ ns) (Some w ∷ slots) zero v h g b = rw (cmp_text k u n, g) refl
present_put k u (n ∷ ns) (None ∷ slots) (suc i) v h g b = present_put k u ns slots i v h.1 g.1 (omega arith)
present_put k u (n ∷ ns) (Some w ∷ slots) (suc i) v h g b = rw (cmp_text k u n, g.0) (ap (member (text_of n) (view w)) (present_put k u ns slots i v h.1 g.1 (omega arith)))

-- ---- from the last name to the first

rising_left : (ns : Texts) (i : ℕ) → AreRising (map string_bytes ns) → AreRising (map string_bytes (drop i ns))
unfolding IsStrictlySortedBy
rising_left ns zero h = h
rising_left [] (suc i) h = h
rising_left (n ∷ ns) (suc i) h = rising_left ns i h.1

first_before : (n : String Global) (ns : Texts) (slots : Slots) → AreRising (map string_bytes (n ∷ ns)) → IsBefore (text_of n) (members_view (present ns slots))
unfolding IsStrictlySortedBy
first_before n ns slots h = before_present n ns slots h.0

-- the members from an index on, by those from the next one on
pub present_before : (ns : Texts) (i : ℕ) (n m : String Global) (v : Val) (slots : Slots) → AreRising (map string_bytes ns) → i < length ns → n ≡ get_or ns i n → string_bytes m ≡ string_bytes n
    → put (text_of m) (view v) (members_view (present (drop (i + 1) ns) slots)) ≡ members_view (present (drop i ns) (Some v ∷ slots))
present_before ns i n m v slots h b is same =
    let rest = drop (i + 1) ns in
    let split : drop i ns ≡ n ∷ rest = drop_more ns i n b ∙ ap (λ x. x ∷ rest) (sym is) in
    let rising : AreRising (map string_bytes (n ∷ rest)) = subst (λ ms. AreRising (map string_bytes ms)) split (rising_left ns i h) in
    rw (split, same) (put_front (text_of n) (view v) (members_view (present rest slots)) (first_before n rest slots rising))

pub present_none_before : (ns : Texts) (i : ℕ) (slots : Slots) → i < length ns → present (drop (i + 1) ns) slots ≡ present (drop i ns) (None ∷ slots)
present_none_before [] i slots b = absurd (omega arith)
present_none_before (n ∷ ns) i slots b = sym (ap (λ ms. present ms (None ∷ slots)) (drop_more (n ∷ ns) i n b))

drop_past : (ns : Texts) (i : ℕ) → length ns ≤ i → drop i ns ≡ []
drop_past [] zero b = refl
drop_past [] (suc i) b = refl
drop_past (n ∷ ns) zero b = absurd (omega arith)
drop_past (n ∷ ns) (suc i) b = drop_past ns i (omega arith)

pub present_past : (ns : Texts) (i : ℕ) (slots more : Slots) → length ns ≤ i → present (drop (i + 1) ns) slots ≡ present (drop i ns) more
present_past ns i slots more b = rw (drop_past ns i b, drop_past ns (i + 1) (omega arith)) refl

-- a name without a value
pub present_none : (ns : Texts) (i : ℕ) (slots : Slots) → present (drop (i + 1) ns) slots ≡ present (drop i ns) (None ∷ slots)
present_none ns i slots = elim (cases_lt i (length ns)) [ inl b ↦ present_none_before ns i slots b | inr b ↦ present_past ns i slots (None ∷ slots) b ]

pub present_nil : (ns : Texts) → present {X = Val} ns [] ≡ []
present_nil [] = refl
present_nil (n ∷ ns) = refl

-- ---- a value for each name

pub present_full : (ns : Texts) (slots : Slots) → AreSome slots → present ns slots ≡ zip ns (values_there slots)
present_full [] slots h = refl
present_full (n ∷ ns) [] h = refl
present_full (n ∷ ns) (None ∷ slots) h = absurd h
present_full (n ∷ ns) (Some v ∷ slots) h = ap (λ es. (n, v) ∷ es) (present_full ns slots h)
