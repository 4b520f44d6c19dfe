-- Sums over groups of pages, and how they stay right.
use Rattle.std.proofs.Common.{◌≡◌, ℕ, suc, ◌+◌, ◌-◌, ◌*◌, ◌/◌, ◌<◌, ◌≤◌, inl, inr, min, List, [], ◌∷◌, ◌++◌, length, take, drop, get_or, set, sym, ◌∙◌, ap, subst, arith, length-append, length-drop, length-take, length-take-le, take-append-drop}
use Rattle.std.proofs.lemmas.Bool.{cases_eq}
use Rattle.std.proofs.lemmas.Grind.{flat_map-append}
use Rattle.std.proofs.lemmas.List.{drop-drop, drop-take, get_or-set_same, get_or-set_other, get_or-take, length-set, take-take}
use Rattle.std.proofs.Math.Seq.{take-add}
use Rattle.jq_pages.specs.Folds.{Fold}
use Rattle.jq_pages.specs.Totals.{joined, totals}
use Rattle.jq_pages.specs.private.Bounds.{IsBounded}
use Rattle.jq_pages.specs.private.Groups.{IsFew, IsGroup, IsIndex, IsIndexBut, group_pages}
use Rattle.jq_pages.specs.private.Pages.{all_pieces, IsSized}
use Rattle.jq_pages.specs.private.Placed.{Installed, Replaced}
use Rattle.jq_pages.specs.private.Reruns.{Holds, count_in, kept_of, pieces_in, renewed}
use Rattle.jq_pages.specs.declared.grouping.Group.{Group}
use Rattle.jq_pages.specs.declared.page.Page.{Page}
use Rattle.jq_pages.specs.declared.page.Rerun.{Rerun}
use Rattle.jq_pages.specs.declared.pieces.Piece.{Piece}
use Rattle.jq_pages.specs.declared.totals.Totals.{Totals}
use Rattle.jv_data.specs.declared.values.Val.{Val}
use Rattle.jq_pages.proofs.Edits.{holds_left, holds_right, pieces_length, renewed_rest, sized_left, sized_right, take_front, drop_front}
use Rattle.jq_pages.proofs.Plain.{as_installed}
use Rattle.jq_pages.proofs.Reruns.{count_append, renewed_length}
use Rattle.jq_pages.proofs.Sums.{bounded_joined, pieces_part, totals_join}

-- ---- the sums of the first groups

next_group : {T : Type 0} (g : ℕ) (ps : List (Page T)) → take (128 * (g + 1)) ps ≡ take (128 * g) ps ++ group_pages g ps
next_group g ps = let e : 128 * (g + 1) ≡ 128 * g + 128 = omega arith in ap (λ n. take n ps) e ∙ take-add (128 * g) 128 ps

pub count_group : {T : Type 0} (x : Group) (g : ℕ) (ps : List (Page T)) → IsGroup x (group_pages g ps) → count_in (take (128 * (g + 1)) ps) ≡ count_in (take (128 * g) ps) + x.count
count_group x g ps h = ap count_in (next_group g ps) ∙ count_append (take (128 * g) ps) (group_pages g ps) ∙ ap (λ n. count_in (take (128 * g) ps) + n) (sym h.count)

pub pieces_group : {T : Type 0} (g : ℕ) (ps : List (Page T)) → all_pieces (take (128 * (g + 1)) ps) ≡ all_pieces (take (128 * g) ps) ++ all_pieces (group_pages g ps)
pieces_group g ps = ap all_pieces (next_group g ps) ∙ flat_map-append pieces_in (take (128 * g) ps) (group_pages g ps)

pub totals_group : {T : Type 0} (a c : Totals) (x : Group) (g : ℕ) (ps : List (Page T)) → IsGroup x (group_pages g ps) → a ≡ totals (all_pieces (take (128 * g) ps)) → c ≡ joined a x.sum → c ≡ totals (all_pieces (take (128 * (g + 1)) ps))
totals_group a c x g ps h e f = totals_join a x.sum c _ _ _ e h.sum f (pieces_group g ps)

pub pieces_with : {T : Type 0} (g : ℕ) (ps : List (Page T)) → length (all_pieces (take (128 * (g + 1)) ps)) ≡ length (all_pieces (take (128 * g) ps)) + length (all_pieces (group_pages g ps))
pieces_with g ps = ap length (pieces_group g ps) ∙ length-append (all_pieces (take (128 * g) ps)) (all_pieces (group_pages g ps))

pub bounded_group : {T : Type 0} (a c : Totals) (x : Group) (g : ℕ) (ps : List (Page T)) → IsGroup x (group_pages g ps) → IsBounded a (length (all_pieces (take (128 * g) ps))) → c ≡ joined a x.sum → IsBounded c (length (all_pieces (take (128 * (g + 1)) ps)))
bounded_group a c x g ps h b f = subst (λ n. IsBounded c n) (sym (pieces_with g ps)) (bounded_joined a x.sum c _ _ b h.bounded f)

-- ---- groups that are summed again, added and dropped

pub index_set : {T : Type 0} (gs : List Group) (ps : List (Page T)) (a b : ℕ) (x : Group) → IsIndexBut gs ps a b → a < length gs → IsGroup x (group_pages a ps) → IsIndexBut (set gs a x) ps (a + 1) b
index_set gs ps a b x h l new =
    let n : length (set gs a x) ≡ length gs = length-set gs a x in
    record {
      within = let w : 128 * length gs ≤ length ps = h.within in omega arith;
      groups = λ g m c d. let m' : g < length gs = omega arith in elim (cases_eq g a) [
        | inl e ↦ subst (λ k. IsGroup (get_or (set gs a x) k d) (group_pages k ps)) (sym e) (subst (λ z. IsGroup z (group_pages a ps)) (sym (get_or-set_same gs a x d l)) new)
        | inr e ↦ subst (λ z. IsGroup z (group_pages g ps)) (sym (get_or-set_other gs a g x d e)) (h.groups g m' (elim c [ inl y ↦ inl (omega arith) | inr y ↦ inr y ]) d)
      ];
    }

-- the pages of a group that is before a changed page
group_before : {T : Type 0} (g j : ℕ) (ps qs : List (Page T)) → 128 * (g + 1) ≤ j → take j ps ≡ take j qs → group_pages g ps ≡ group_pages g qs
group_before g j ps qs l e =
    let m : 128 * g + 128 ≤ j = omega arith in
    sym (drop-take (128 * g) 128 ps)
    ∙ ap (drop (128 * g)) (sym (take-take (128 * g + 128) j ps m) ∙ ap (take (128 * g + 128)) e ∙ take-take (128 * g + 128) j qs m)
    ∙ drop-take (128 * g) 128 qs

-- the pages of a group that is after a changed page
group_after : {T : Type 0} (g k : ℕ) (ps qs : List (Page T)) → k ≤ 128 * g → drop k ps ≡ drop k qs → group_pages g ps ≡ group_pages g qs
group_after g k ps qs l e =
    let n : k + (128 * g - k) ≡ 128 * g = omega arith in
    ap (λ m. take 128 (drop m ps)) (sym n) ∙ ap (take 128) (sym (drop-drop (128 * g - k) k ps) ∙ ap (drop (128 * g - k)) e ∙ drop-drop (128 * g - k) k qs) ∙ ap (λ m. take 128 (drop m qs)) n

whole_before : (g j : ℕ) → g < j / 128 → 128 * (g + 1) ≤ j
whole_before g j l = omega arith

whole_after : (g k : ℕ) → k / 128 + 1 ≤ g → k + 1 ≤ 128 * g
whole_after g k l = omega arith

-- the groups before a changed page
pub index_cut : {T : Type 0} (gs : List Group) (old new : List (Page T)) (j : ℕ) → IsIndex gs old → take j new ≡ take j old → j ≤ length new → IsIndex (take (j / 128) gs) new
index_cut gs old new j h e l =
    let n : length (take (j / 128) gs) ≡ min (j / 128) (length gs) = length-take (j / 128) gs in
    record {
      within = omega arith;
      groups = λ g m d.
          let a : g < j / 128 = omega arith in
          let b : g < length gs = omega arith in
          subst (λ z. IsGroup z (group_pages g new)) (sym (get_or-take (j / 128) gs g d a)) (subst (λ z. IsGroup (get_or gs g d) z) (group_before g j old new (whole_before g j a) (sym e)) (h.groups g b d));
    }

-- the same, by the pages that a list goes on with from there
pub index_put : {T : Type 0} (gs : List Group) (old new bs : List (Page T)) (j : ℕ) → IsIndex gs old → new ≡ take j old ++ bs → j ≤ length old → IsIndex (take (j / 128) gs) new
index_put gs old new bs j h e l =
    let tn : length (take j old) ≡ j = length-take-le j old l in
    let n : length new ≡ length (take j old) + length bs = ap length e ∙ length-append (take j old) bs in
    index_cut gs old new j h (ap (take j) e ∙ take_front (take j old) bs j (sym tn)) (omega arith)

-- all groups but those of the changed pages
pub index_but : {T : Type 0} (gs : List Group) (old new : List (Page T)) (j k : ℕ) → IsIndex gs old → length new ≡ length old → take j new ≡ take j old → drop (k + 1) new ≡ drop (k + 1) old → IsIndexBut gs new (j / 128) (k / 128 + 1)
index_but gs old new j k h n e f = record {
  within = let w : 128 * length gs ≤ length old = h.within in omega arith;
  groups = λ g l c d. subst (λ z. IsGroup (get_or gs g d) z) (elim c [
    | inl a ↦ group_before g j old new (whole_before g j a) (sym e)
    | inr b ↦ group_after g (k + 1) old new (whole_after g k b) (sym f)
  ]) (h.groups g l d);
}

-- ---- edits

pub index_installed : {T : Type 0} (gs : List Group) (old new : List (Page T)) (j i : ℕ) (put : List Val) (cut : ℕ) (a : Rerun T) (rs : List (Rerun T)) → Installed old new j i put cut a rs → j < length old → IsIndex gs old → IsIndexBut gs new (j / 128) ((j + length rs) / 128 + 1)
index_installed gs old new j i put cut a rs x l h =
    let bs = drop (j + 1) old in
    let lj : j ≤ length old = omega arith in
    let tn : length (take j old) ≡ j = length-take-le j old lj in
    let n1 : length new ≡ length (take j old) + length (x.page ∷ renewed bs rs) = ap length x.list ∙ length-append (take j old) (x.page ∷ renewed bs rs) in
    let n2 : length (renewed bs rs) ≡ length bs = renewed_length bs rs in
    let n3 : length bs ≡ length old - (j + 1) = length-drop (j + 1) old in
    let first : take j new ≡ take j old = ap (take j) x.list ∙ take_front (take j old) (x.page ∷ renewed bs rs) j (sym tn) in
    let later : drop j new ≡ x.page ∷ renewed bs rs = ap (drop j) x.list ∙ drop_front (take j old) (x.page ∷ renewed bs rs) j (sym tn) in
    let e1 : (j + length rs) + 1 ≡ j + suc (length rs) = omega arith in
    let e2 : (j + length rs) + 1 ≡ (j + 1) + length rs = omega arith in
    let last : drop ((j + length rs) + 1) new ≡ drop ((j + length rs) + 1) old =
    ap (λ n. drop n new) e1 ∙ sym (drop-drop (suc (length rs)) j new) ∙ ap (drop (suc (length rs))) later ∙ renewed_rest bs rs ∙ drop-drop (length rs) (j + 1) old ∙ ap (λ n. drop n old) (sym e2) in
    index_but gs old new j (j + length rs) h (omega arith) first last

pub index_replaced : {T : Type 0} (gs : List Group) (old new : List (Page T)) (j i cut : ℕ) (put : List Val) (qs : List Piece) → Replaced old new j i put qs cut → j < length old → IsIndex gs old → IsIndexBut gs new (j / 128) (j / 128 + 1)
index_replaced gs old new j i cut put qs x l h =
    let e : j + 0 ≡ j = omega arith in
    subst (λ k. IsIndexBut gs new (j / 128) (k / 128 + 1)) e (index_installed gs old new j i put cut _ [] (as_installed old new j i cut put qs x) l h)

-- ---- how many inputs and pieces a group has

sized_count : {T : Type 0} (ps : List (Page T)) → IsSized ps → count_in ps ≤ 64 * length ps
sized_count [] h = omega arith
sized_count (p ∷ ps) h = let a : length p.inputs.items ≤ 64 = h.0 in let b : count_in ps ≤ 64 * length ps = sized_count ps h.1 in omega arith

pub few_group : {T S : Type 0} (seen : T → S) (r : Fold S) (s : S) (ps : List (Page T)) → Holds seen r s ps → IsSized ps → (g : ℕ) → IsFew (group_pages g ps)
few_group seen r s ps h z g =
    let qs = drop (128 * g) ps in
    let hq = holds_right seen r s (take (128 * g) ps) qs (subst (λ w. Holds seen r s w) (sym (take-append-drop (128 * g) ps)) h) in
    let zq = sized_right (take (128 * g) ps) qs (subst (λ w. IsSized w) (sym (take-append-drop (128 * g) ps)) z) in
    let at = kept_of seen s (take (128 * g) ps) in
    let hg : Holds seen r at (take 128 qs) = holds_left seen r at (take 128 qs) (drop 128 qs) (subst (λ w. Holds seen r at w) (sym (take-append-drop 128 qs)) hq) in
    let zg : IsSized (take 128 qs) = sized_left (take 128 qs) (drop 128 qs) (subst (λ w. IsSized w) (sym (take-append-drop 128 qs)) zq) in
    let n : count_in (take 128 qs) ≤ 64 * length (take 128 qs) = sized_count (take 128 qs) zg in
    let m : length (take 128 qs) ≡ min 128 (length qs) = length-take 128 qs in
    let k : length (all_pieces (take 128 qs)) ≡ count_in (take 128 qs) = pieces_length seen r at (take 128 qs) hg in
    record { inputs = omega arith; pieces = omega arith }

-- ---- the totals before a page

pub group_first : {T : Type 0} (gs : List Group) (ps : List (Page T)) (n i : ℕ) (d : Group) → IsIndex gs ps → n ≤ length gs → i < length (take n gs) → IsGroup (get_or (take n gs) i d) (group_pages i ps)
group_first gs ps n i d h l m =
    let e : length (take n gs) ≡ n = length-take-le n gs l in
    let m' : i < length gs = omega arith in
    let m'' : i < n = omega arith in
    subst (λ z. IsGroup z (group_pages i ps)) (sym (get_or-take n gs i d m'')) (h.groups i m' d)

pub few_with : {T : Type 0} (ps : List (Page T)) (i : ℕ) → length (all_pieces ps) < 4294967296 → length (all_pieces (take (128 * i) ps)) + length (all_pieces (group_pages i ps)) < 18446744073709551616
few_with ps i few =
    let e : length (all_pieces (take (128 * (i + 1)) ps)) ≡ length (all_pieces (take (128 * i) ps)) + length (all_pieces (group_pages i ps)) = pieces_with i ps in
    let m : length (all_pieces (take (128 * (i + 1)) ps)) ≤ length (all_pieces ps) = (pieces_part ps (128 * (i + 1))).0 in
    omega arith

pub all_groups : (gs : List Group) (n j i : ℕ) → n ≡ min (j / 128) (length gs) → length (take n gs) ≤ i → i ≤ length (take n gs) → (i ≡ n) × (n * 128 ≤ j)
all_groups gs n j i e l m =
    let k : length (take n gs) ≡ min n (length gs) = length-take n gs in
    (omega arith, omega arith)

-- the pages before page `j`: those of whole groups, and the rest
first_pages : {T : Type 0} (ps : List (Page T)) (n j i : ℕ) → i ≡ n → n * 128 ≤ j → take j ps ≡ take (128 * i) ps ++ take (j - n * 128) (drop (n * 128) ps)
first_pages ps n j i e l =
    let m : j ≡ n * 128 + (j - n * 128) = omega arith in
    let k : n * 128 ≡ 128 * i = omega arith in
    ap (λ z. take z ps) m ∙ take-add (n * 128) (j - n * 128) ps ∙ ap (λ z. take z ps ++ take (j - n * 128) (drop (n * 128) ps)) k

pub pieces_first : {T : Type 0} (ps : List (Page T)) (n j i : ℕ) → i ≡ n → n * 128 ≤ j → all_pieces (take j ps) ≡ all_pieces (take (128 * i) ps) ++ all_pieces (take (j - n * 128) (drop (n * 128) ps))
pieces_first ps n j i e l = ap all_pieces (first_pages ps n j i e l) ∙ flat_map-append pieces_in (take (128 * i) ps) (take (j - n * 128) (drop (n * 128) ps))

pub few_first : {T : Type 0} (ps : List (Page T)) (n j i : ℕ) → i ≡ n → n * 128 ≤ j → length (all_pieces ps) < 4294967296 → length (all_pieces (take (128 * i) ps)) + length (all_pieces (take (j - n * 128) (drop (n * 128) ps))) < 4294967296
few_first ps n j i e l few =
    let k : length (all_pieces (take j ps)) ≡ length (all_pieces (take (128 * i) ps)) + length (all_pieces (take (j - n * 128) (drop (n * 128) ps))) = ap length (pieces_first ps n j i e l) ∙ length-append (all_pieces (take (128 * i) ps)) (all_pieces (take (j - n * 128) (drop (n * 128) ps))) in
    let m : length (all_pieces (take j ps)) ≤ length (all_pieces ps) = (pieces_part ps j).0 in
    omega arith

pub bounded_first : {T : Type 0} (a b c : Totals) (ps : List (Page T)) (n j i : ℕ) → i ≡ n → n * 128 ≤ j → IsBounded a (length (all_pieces (take (128 * i) ps))) → IsBounded b (length (all_pieces (take (j - n * 128) (drop (n * 128) ps)))) → c ≡ joined a b → IsBounded c (length (all_pieces (take j ps)))
bounded_first a b c ps n j i e l x y f =
    let xs = all_pieces (take (128 * i) ps) in
    let ys = all_pieces (take (j - n * 128) (drop (n * 128) ps)) in
    subst (λ k. IsBounded c k) (sym (ap length (pieces_first ps n j i e l) ∙ length-append xs ys)) (bounded_joined a b c (length xs) (length ys) x y f)
