-- Pages that have the same inputs, pieces and states, while the capacity of their vectors may differ.
use Rattle.std.proofs.Common.{◌≡◌, ℕ, zero, suc, ◌+◌, ◌*◌, ◌<◌, ◌≤◌, List, [], ◌∷◌, ◌++◌, length, take, drop, get_or, set, vec_capacity, refl, sym, ◌∙◌, ap, ap₂, subst, map, arith}
use Rattle.std.proofs.lemmas.List.{take-map, drop-map}
use Rattle.std.specs.List.{flat_map}
use Rattle.jv_data.specs.View.{view}
use Rattle.jv_data.specs.declared.values.Val.{Val}
use Rattle.jq_pages.specs.Pieces.{piece_view}
use Rattle.jq_pages.specs.Folds.{Fold}
use Rattle.jq_pages.specs.Totals.{totals}
use Rattle.jq_pages.specs.private.Bounds.{IsBounded}
use Rattle.jq_pages.specs.private.Groups.{IsIndex, group_pages}
use Rattle.jq_pages.specs.declared.grouping.Group.{Group}
use Rattle.jq_pages.specs.private.Pages.{all_inputs, all_pieces, parts, HasInputRoom, HasRoom, IsFilled, IsFilledBut, IsSized}
use Rattle.jq_pages.specs.private.Moves.{HasPlace}
use Rattle.jq_pages.specs.private.Placed.{Resized}
use Rattle.jq_pages.specs.declared.applying.Taken.{Taken}
use Rattle.jq_pages.specs.declared.applying.Taken.TheVariants as taken
use Rattle.jq_pages.specs.private.Reruns.{IsRun, Holds, count_in, inputs_in, pieces_in}
use Rattle.jq_pages.specs.declared.page.Page.{Page}
use Rattle.jq_pages.specs.declared.pieces.Piece.{Piece}
use Rattle.jq_pages.proofs.Edits.{map_length, same_default}
use Rattle.jq_pages.proofs.Filled.{same_count}

abbrev Parts : Type 0 → Type 0
Parts T = List Val × List Piece × T

-- the same change at a page
pub set_parts : {T : Type 0} (ps : List (Page T)) (j : ℕ) (p : Page T) → j < length ps → parts p ≡ parts (get_or ps j p) → map parts (set ps j p) ≡ map parts ps
set_parts [] j p l e = absurd (omega arith)
set_parts (q ∷ ps) zero p l e = ap (λ z. z ∷ map parts ps) e
set_parts (q ∷ ps) (suc j) p l e = let l' : j < length ps = omega arith in ap (λ z. parts q ∷ z) (set_parts ps j p l' e)

-- a page whose vectors alone have more room
pub room_only : {T : Type 0} (ps : List (Page T)) (j : ℕ) (p q : Page T) → j < length ps → p ≡ get_or ps j p → q.inputs.items ≡ p.inputs.items → q.pieces.items.items ≡ p.pieces.items.items → q.exit ≡ p.exit → map parts (set ps j q) ≡ map parts ps
room_only ps j p q l e a b c =
    set_parts ps j q l
    (ap₂ (λ x y. (x, y, q.exit)) a b ∙ ap (λ z. (p.inputs.items, p.pieces.items.items, z)) c ∙ ap parts (e ∙ same_default ps j p q l))

inputs_of : {T : Type 0} (ps : List (Page T)) → all_inputs ps ≡ flat_map (λ (b : Parts T). map view b.0) (map parts ps)
inputs_of [] = refl
inputs_of (p ∷ ps) = ap (λ z. inputs_in p ++ z) (inputs_of ps)

pieces_of : {T : Type 0} (ps : List (Page T)) → all_pieces ps ≡ flat_map (λ (b : Parts T). map piece_view b.1) (map parts ps)
pieces_of [] = refl
pieces_of (p ∷ ps) = ap (λ z. pieces_in p ++ z) (pieces_of ps)

pub parts_inputs : {T : Type 0} (old new : List (Page T)) → map parts new ≡ map parts old → all_inputs new ≡ all_inputs old
parts_inputs {T} old new e = inputs_of new ∙ ap (flat_map (λ (b : Parts T). map view b.0)) e ∙ sym (inputs_of old)

pub parts_pieces : {T : Type 0} (old new : List (Page T)) → map parts new ≡ map parts old → all_pieces new ≡ all_pieces old
parts_pieces {T} old new e = pieces_of new ∙ ap (flat_map (λ (b : Parts T). map piece_view b.1)) e ∙ sym (pieces_of old)

abbrev HoldsIn : {T S : Type 0} → (T → S) → Fold S → S → List (Parts T) → Type 0
HoldsIn seen r s [] = Unit {0}
HoldsIn seen r s (b ∷ bs) = IsRun r s (map view b.0) (map piece_view b.1) (seen b.2) × HoldsIn seen r (seen b.2) bs

to_holds : {T S : Type 0} (seen : T → S) (r : Fold S) (s : S) (ps : List (Page T)) → HoldsIn seen r s (map parts ps) → Holds seen r s ps
to_holds seen r s [] h = tt
to_holds seen r s (p ∷ ps) h = (h.0, to_holds seen r (seen p.exit) ps h.1)

from_holds : {T S : Type 0} (seen : T → S) (r : Fold S) (s : S) (ps : List (Page T)) → Holds seen r s ps → HoldsIn seen r s (map parts ps)
from_holds seen r s [] h = tt
from_holds seen r s (p ∷ ps) h = (h.0, from_holds seen r (seen p.exit) ps h.1)

pub parts_holds : {T S : Type 0} (seen : T → S) (r : Fold S) (s : S) (old new : List (Page T)) → map parts new ≡ map parts old → Holds seen r s old → Holds seen r s new
parts_holds seen r s old new e h = to_holds seen r s new (subst (λ z. HoldsIn seen r s z) (sym e) (from_holds seen r s old h))

-- This holds of the number of inputs of each page.
abbrev Counts : {T : Type 0} → (ℕ → Type 0) → List (Parts T) → Type 0
Counts P [] = Unit {0}
Counts P (b ∷ bs) = P (length b.0) × Counts P bs

to_sized : {T : Type 0} (ps : List (Page T)) → Counts (λ n. n ≤ 64) (map parts ps) → IsSized ps
to_sized [] h = tt
to_sized (p ∷ ps) h = (h.0, to_sized ps h.1)

from_sized : {T : Type 0} (ps : List (Page T)) → IsSized ps → Counts (λ n. n ≤ 64) (map parts ps)
from_sized [] h = tt
from_sized (p ∷ ps) h = (h.0, from_sized ps h.1)

pub parts_sized : {T : Type 0} (old new : List (Page T)) → map parts new ≡ map parts old → IsSized old → IsSized new
parts_sized old new e h = to_sized new (subst (λ z. Counts (λ n. n ≤ 64) z) (sym e) (from_sized old h))

to_filled : {T : Type 0} (ps : List (Page T)) → Counts (λ n. 0 < n) (map parts ps) → IsFilled ps
to_filled [] h = tt
to_filled (p ∷ ps) h = (h.0, to_filled ps h.1)

from_filled : {T : Type 0} (ps : List (Page T)) → IsFilled ps → Counts (λ n. 0 < n) (map parts ps)
from_filled [] h = tt
from_filled (p ∷ ps) h = (h.0, from_filled ps h.1)

pub parts_filled : {T : Type 0} (old new : List (Page T)) → map parts new ≡ map parts old → IsFilled old → IsFilled new
parts_filled old new e h = to_filled new (subst (λ z. Counts (λ n. 0 < n) z) (sym e) (from_filled old h))

pub parts_take : {T : Type 0} (old new : List (Page T)) (n : ℕ) → map parts new ≡ map parts old → map parts (take n new) ≡ map parts (take n old)
parts_take old new n e = sym (take-map parts n new) ∙ ap (take n) e ∙ take-map parts n old

pub parts_drop : {T : Type 0} (old new : List (Page T)) (n : ℕ) → map parts new ≡ map parts old → map parts (drop n new) ≡ map parts (drop n old)
parts_drop old new n e = sym (drop-map parts n new) ∙ ap (drop n) e ∙ drop-map parts n old

pub parts_but : {T : Type 0} (old new : List (Page T)) (j : ℕ) → map parts new ≡ map parts old → IsFilledBut j old → IsFilledBut j new
parts_but old new j e h = (parts_filled (take j old) (take j new) (parts_take old new j e) h.0, parts_filled (drop (j + 1) old) (drop (j + 1) new) (parts_drop old new (j + 1) e) h.1)

pub parts_length : {T : Type 0} (old new : List (Page T)) → map parts new ≡ map parts old → length new ≡ length old
parts_length {T} old new e = sym (map_length parts new) ∙ ap (λ (z : List (Parts T)). length z) e ∙ map_length parts old

pub parts_count : {T : Type 0} (old new : List (Page T)) → map parts new ≡ map parts old → count_in new ≡ count_in old
parts_count old new e = same_count old new (parts_inputs old new e)

at_of : {T : Type 0} (ps : List (Page T)) (j : ℕ) (d : Page T) → parts (get_or ps j d) ≡ get_or (map parts ps) j (parts d)
at_of [] j d = refl
at_of (p ∷ ps) zero d = refl
at_of (p ∷ ps) (suc j) d = at_of ps j d

pub parts_at : {T : Type 0} (old new : List (Page T)) (j : ℕ) (d : Page T) → map parts new ≡ map parts old → length (get_or new j d).inputs.items ≡ length (get_or old j d).inputs.items
parts_at {T} old new j d e = ap (λ (b : Parts T). length b.0) (at_of new j d ∙ ap (λ (z : List (Parts T)). get_or z j (parts d)) e ∙ sym (at_of old j d))

pub parts_index : {T : Type 0} (gs : List Group) (old new : List (Page T)) → map parts new ≡ map parts old → IsIndex gs old → IsIndex gs new
parts_index gs old new e h = record {
  within = subst (λ n. 128 * length gs ≤ n) (sym (parts_length old new e)) h.within;
  groups = λ g l d.
      let x = h.groups g l d in
      let same : map parts (group_pages g new) ≡ map parts (group_pages g old) = parts_take (drop (128 * g) old) (drop (128 * g) new) 128 (parts_drop old new (128 * g) e) in
      let ps : all_pieces (group_pages g new) ≡ all_pieces (group_pages g old) = parts_pieces (group_pages g old) (group_pages g new) same in
      record {
        count = x.count ∙ sym (parts_count (group_pages g old) (group_pages g new) same);
        sum = x.sum ∙ ap totals (sym ps);
        bounded = subst (λ z. IsBounded (get_or gs g d).sum (length z)) (sym ps) x.bounded;
      };
}

-- a property of each page that a changed one keeps
pub set_keeps : {T : Type 0} (P : Page T → Type 0) (ps : List (Page T)) (j n : ℕ) (p q : Page T) → p ≡ get_or ps j p → (P p → P q) → ((e : Page T) → P (get_or ps n e)) → (d : Page T) → P (get_or (set ps j q) n d)
set_keeps P [] j n p q e k h d = h d
set_keeps P (o ∷ os) zero zero p q e k h d = k (subst P (sym e) (h p))
set_keeps P (o ∷ os) zero (suc n) p q e k h d = h d
set_keeps P (o ∷ os) (suc j) zero p q e k h d = h d
set_keeps P (o ∷ os) (suc j) (suc n) p q e k h d = set_keeps P os j n p q e k h d

more_room : (n m a b : ℕ) → n ≡ m → a ≤ b → m + 1 ≤ a → n + 1 ≤ b
more_room n m a b e l h = omega arith

pub keeps_input_room : {T : Type 0} (ps : List (Page T)) (j : ℕ) (p q : Page T) → p ≡ get_or ps j p → q.inputs.items ≡ p.inputs.items → vec_capacity p.inputs ≤ vec_capacity q.inputs → (n : ℕ) → HasInputRoom ps n → HasInputRoom (set ps j q) n
keeps_input_room ps j p q e a b n h = set_keeps (λ z. length z.inputs.items + 1 ≤ vec_capacity z.inputs) ps j n p q e (λ k. more_room _ _ _ _ (ap (λ (z : List Val). length z) a) b k) h

pub keeps_room : {T : Type 0} (ps : List (Page T)) (j : ℕ) (p q : Page T) → p ≡ get_or ps j p → q.inputs.items ≡ p.inputs.items → vec_capacity p.inputs ≤ vec_capacity q.inputs → q.pieces.items.items ≡ p.pieces.items.items → vec_capacity p.pieces.items ≤ vec_capacity q.pieces.items → (n : ℕ) → HasRoom ps n → HasRoom (set ps j q) n
keeps_room ps j p q e a b c d n h = record {
  inputs = keeps_input_room ps j p q e a b n h.inputs;
  pieces = set_keeps (λ z. length z.pieces.items.items + 1 ≤ vec_capacity z.pieces.items) ps j n p q e (λ k. more_room _ _ _ _ (ap (λ (z : List Piece). length z) c) d k) h.pieces;
}

pub parts_resized : {T : Type 0} (old mid new : List (Page T)) (j more cut : ℕ) → map parts mid ≡ map parts old → Resized mid new j more cut → Resized old new j more cut
parts_resized old mid new j more cut e x = record {
  same = x.same ∙ parts_length old mid e;
  others = λ n d ne. x.others n d ne ∙ parts_at old mid n d e;
  here = λ d. x.here d ∙ ap (λ n. n + more) (parts_at old mid j d e);
}

pub parts_place : {T : Type 0} (old new : List (Page T)) → map parts new ≡ map parts old → ((n : ℕ) → HasInputRoom old n → HasInputRoom new n) → ((n : ℕ) → HasRoom old n → HasRoom new n) → (j : ℕ) (t : Taken T) → HasPlace old j t → HasPlace new j t
parts_place old new e a b j (taken.Runs value made) h = (subst (λ n. j + 1 + length made.runs.items ≤ n) (sym (parts_length old new e)) h.0, a j h.1)
parts_place old new e a b j (taken.One value piece) h = (subst (λ n. j < n) (sym (parts_length old new e)) h.0, b j h.1)
