-- The parts of a string, joined again; and that no part contains the separator.
use Rattle.std.proofs.Common.{◌≡◌, ◌≢◌, ◌∙◌, ℕ, zero, suc, ◌-◌, List, [], ◌∷◌, ◌++◌, length, drop, map, true, false, refl, sym, ap, subst, arith, append_assoc}
use Rattle.std.proofs.lemmas.List.{append-nil}
use Rattle.std.specs.Bool.{nat_eq}
use Rattle.std.specs.List.{AllByRecursion, starts_with}
use Rattle.std.specs.Str.Iter.{HasSubslice}
use Rattle.jv_arith.proofs.Parts.{yes, no, either, starts_yes, starts_rest, split_step, split_none}
use Rattle.jv_arith.specs.Strings.{parts_after, with_first, single, split_of}
use Rattle.jv_arith.specs.laws.Splits.{join, StandsFirst}

-- a list with a first element
data HasFirst (ps : List (List ℕ)) : Type 0 where
  first : (q : List ℕ) (qs : List (List ℕ)) → ps ≡ q ∷ qs → HasFirst ps

first_with : (c : ℕ) (ps : List (List ℕ)) → HasFirst ps → HasFirst (with_first c ps)
first_with c ps (first q qs e) = first (c ∷ q) qs (ap (with_first c) e)

some_parts : (sep : List ℕ) (k : ℕ) (s : List ℕ) → HasFirst (parts_after sep k s)
some_parts sep k [] = first [] [] refl
some_parts sep (suc k) (c ∷ cs) = some_parts sep k cs
some_parts sep zero (c ∷ cs) = elim (either (starts_with nat_eq (c ∷ cs) sep)) [
  | yes e ↦ rw e (first [] (parts_after sep (length sep - 1) cs) refl)
  | no e ↦ rw e (first_with c (parts_after sep zero cs) (some_parts sep zero cs))
]

join_more : (sep p : List ℕ) (ps : List (List ℕ)) → HasFirst ps → join sep (p ∷ ps) ≡ p ++ (sep ++ join sep ps)
join_more sep p ps (first q qs e) = rw e refl

join_with_cons : (sep : List ℕ) (c : ℕ) (p : List ℕ) (ps : List (List ℕ)) → join sep ((c ∷ p) ∷ ps) ≡ c ∷ join sep (p ∷ ps)
join_with_cons sep c p [] = refl
join_with_cons sep c p (q ∷ qs) = refl

join_with_first : (sep : List ℕ) (c : ℕ) (ps : List (List ℕ)) → HasFirst ps → join sep (with_first c ps) ≡ c ∷ join sep ps
join_with_first sep c ps (first q qs e) = rw e (join_with_cons sep c q qs)

join_parts : (d : ℕ) (ds : List ℕ) (k : ℕ) (s : List ℕ) → join (d ∷ ds) (parts_after (d ∷ ds) k s) ≡ drop k s
join_parts d ds zero [] = refl
join_parts d ds (suc k) [] = refl
join_parts d ds (suc k) (c ∷ cs) = join_parts d ds k cs
join_parts d ds zero (c ∷ cs) = elim (either (starts_with nat_eq (c ∷ cs) (d ∷ ds))) [
  | yes e ↦
      let n = length (d ∷ ds) - 1 in
      let same : n ≡ length ds = omega arith in
      let whole : c ∷ cs ≡ (d ∷ ds) ++ drop (length ds) cs = starts_rest (c ∷ cs) (d ∷ ds) e in
      rw e (join_more (d ∷ ds) [] (parts_after (d ∷ ds) n cs) (some_parts (d ∷ ds) n cs) ∙ ap (λ t. (d ∷ ds) ++ t) (join_parts d ds n cs ∙ ap (λ m. drop m cs) same) ∙ sym whole)
  | no e ↦ rw e (join_with_first (d ∷ ds) c (parts_after (d ∷ ds) zero cs) (some_parts (d ∷ ds) zero cs) ∙ ap (λ t. c ∷ t) (join_parts d ds zero cs))
]

join_singles : (s : List ℕ) → join [] (map single s) ≡ s
join_singles [] = refl
join_singles (c ∷ []) = refl
join_singles (c ∷ d ∷ cs) = ap (λ t. c ∷ t) (join_singles (d ∷ cs))

pub join-split_of : (s sep : List ℕ) → join sep (split_of s sep) ≡ s
join-split_of [] sep = refl
join-split_of (c ∷ cs) [] = join_singles (c ∷ cs)
join-split_of (c ∷ cs) (d ∷ ds) = join_parts d ds zero (c ∷ cs)

abbrev Lacks : List ℕ → List ℕ → Type 0
Lacks sep p = HasSubslice p sep → ⊥

nil_lacks : (d : ℕ) (ds a b : List ℕ) → [] ≢ a ++ ((d ∷ ds) ++ b)
nil_lacks d ds [] b e = cc
nil_lacks d ds (x ∷ a) b e = cc

join_front : (sep q : List ℕ) (qs : List (List ℕ)) → (t : List ℕ) × (join sep (q ∷ qs) ≡ q ++ t)
join_front sep q [] = ([], sym (append-nil q))
join_front sep q (r ∷ rs) = (sep ++ join sep (r ∷ rs), refl)

cons_lacks : (d : ℕ) (ds : List ℕ) (c : ℕ) (p t a b : List ℕ) → starts_with nat_eq (c ∷ (p ++ t)) (d ∷ ds) ≡ false → ((x y : List ℕ) → p ≢ x ++ ((d ∷ ds) ++ y)) → c ∷ p ≢ a ++ ((d ∷ ds) ++ b)
cons_lacks d ds c p t [] b e rest f =
    let whole : c ∷ (p ++ t) ≡ (d ∷ ds) ++ (b ++ t) = ap (λ xs. xs ++ t) f ∙ append_assoc (d ∷ ds) b t in
    let yes : starts_with nat_eq (c ∷ (p ++ t)) (d ∷ ds) ≡ true = ap (λ xs. starts_with nat_eq xs (d ∷ ds)) whole ∙ starts_yes (d ∷ ds) (b ++ t) in
    let wrong : true ≡ false = sym yes ∙ e in
    cc
cons_lacks d ds c p t (x ∷ a) b e rest f =
    let tail : p ≡ a ++ ((d ∷ ds) ++ b) = cc in
    rest a b tail

with_first_lacks : (d : ℕ) (ds : List ℕ) (c : ℕ) (cs : List ℕ) (ps : List (List ℕ)) → HasFirst ps → join (d ∷ ds) ps ≡ cs → starts_with nat_eq (c ∷ cs) (d ∷ ds) ≡ false → AllByRecursion (Lacks (d ∷ ds)) ps → AllByRecursion (Lacks (d ∷ ds)) (with_first c ps)
with_first_lacks d ds c cs ps (first q qs f) j e h =
    let front = join_front (d ∷ ds) q qs in
    let all : cs ≡ q ++ front.0 = sym j ∙ ap (join (d ∷ ds)) f ∙ front.1 in
    let old : AllByRecursion (Lacks (d ∷ ds)) (q ∷ qs) = subst (AllByRecursion (Lacks (d ∷ ds))) f h in
    let none : starts_with nat_eq (c ∷ (q ++ front.0)) (d ∷ ds) ≡ false = ap (λ xs. starts_with nat_eq (c ∷ xs) (d ∷ ds)) (sym all) ∙ e in
    rw f (λ s. cons_lacks d ds c q front.0 s.0 s.1 none (λ x y g. old.0 (x, y, g)) s.2, old.1)

parts_lack : (d : ℕ) (ds : List ℕ) (k : ℕ) (s : List ℕ) → AllByRecursion (Lacks (d ∷ ds)) (parts_after (d ∷ ds) k s)
parts_lack d ds k [] = (λ s. nil_lacks d ds s.0 s.1 s.2, tt)
parts_lack d ds (suc k) (c ∷ cs) = parts_lack d ds k cs
parts_lack d ds zero (c ∷ cs) = elim (either (starts_with nat_eq (c ∷ cs) (d ∷ ds))) [
  | yes e ↦ rw e (λ s. nil_lacks d ds s.0 s.1 s.2, parts_lack d ds (length (d ∷ ds) - 1) cs)
  | no e ↦ rw e (with_first_lacks d ds c cs (parts_after (d ∷ ds) zero cs) (some_parts (d ∷ ds) zero cs) (join_parts d ds zero cs) e (parts_lack d ds zero cs))
]

pub split_of-lacks : (s sep : List ℕ) → sep ≢ [] → AllByRecursion (λ p. HasSubslice p sep → ⊥) (split_of s sep)
split_of-lacks s [] some = absurd (some refl)
split_of-lacks [] (d ∷ ds) some = tt
split_of-lacks (c ∷ cs) (d ∷ ds) some = parts_lack d ds zero (c ∷ cs)

pub split_of-first : (sep p r : List ℕ) → sep ≢ [] → r ≢ [] → StandsFirst sep p r → split_of (p ++ (sep ++ r)) sep ≡ p ∷ split_of r sep
split_of-first [] p r some more h = absurd (some refl)
split_of-first (d ∷ ds) p [] some more h = absurd (more refl)
split_of-first (d ∷ ds) [] (x ∷ r) some more h = split_step d ds [] (x ∷ r) h
split_of-first (d ∷ ds) (c ∷ p) (x ∷ r) some more h = split_step d ds (c ∷ p) (x ∷ r) h

pub split_of-last : (sep p : List ℕ) → sep ≢ [] → StandsFirst sep p [] → split_of (p ++ (sep ++ [])) sep ≡ p ∷ [] ∷ []
split_of-last [] p some h = absurd (some refl)
split_of-last (d ∷ ds) [] some h = split_step d ds [] [] h
split_of-last (d ∷ ds) (c ∷ p) some h = split_step d ds (c ∷ p) [] h

pub split_of-whole : (s sep : List ℕ) → s ≢ [] → sep ≢ [] → (HasSubslice s sep → ⊥) → split_of s sep ≡ s ∷ []
split_of-whole [] sep full some h = absurd (full refl)
split_of-whole (c ∷ cs) [] full some h = absurd (some refl)
split_of-whole (c ∷ cs) (d ∷ ds) full some h = split_none d ds (c ∷ cs) (λ q t e. h (q, t, e))
