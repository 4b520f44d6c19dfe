-- Locations that begin with a selector, and the others.
use Rattle.std.proofs.Common.{◌≡◌, ◌∙◌, ◌+◌, ℕ, List, [], ◌∷◌, ◌++◌, Bool, true, false, if◌then◌else◌, ap, sym, refl}
use Rattle.std.proofs.lemmas.Cmp.{nat_list_cmp_total, tied_itself}
use Rattle.std.specs.Ordering.{is_eq}
use Rattle.jv_data.proofs.shared.Order.{equal_from, tied_text}
use Rattle.jv_data.specs.Value.{Value, null, boolean, number, string, array, object, items_of, Items, no_items, item, Members, no_members, member, text_cmp}
use Rattle.jv_value.specs.private.ItemGroups.{grouped_from, groups_left, apart, begins_with}
use Rattle.jv_value.specs.DeletePaths.{same_selector, following, names_itself, without_locations, items_left, members_left}
use Rattle.jv_value.specs.Locations.{Selector, at, key, Location}

pub text_itself : (s : List ℕ) → is_eq (text_cmp s s) ≡ true
text_itself s = ap is_eq (tied_itself nat_list_cmp_total s)

after_cond : (t : Selector) (b : Bool) (p : Location) (qs rs : List Location) → (if b then p ∷ (qs ++ rs) else qs ++ rs) ≡ (if b then p ∷ qs else qs) ++ rs
after_cond t true p qs rs = refl
after_cond t false p qs rs = refl

pub following-append : (t : Selector) (qs rs : List Location) → following t (qs ++ rs) ≡ following t qs ++ following t rs
following-append t [] rs = refl
following-append t ([] ∷ qs) rs = following-append t qs rs
following-append t ((u ∷ q) ∷ qs) rs = ap (λ ps. if same_selector t u then q ∷ ps else ps) (following-append t qs rs) ∙ after_cond t (same_selector t u) q (following t qs) (following t rs)

-- nothing else begins with the selector
after_kept : (t : Selector) (q : Location) (b : Bool) (qs : List Location) → begins_with t q ≡ b → following t (if b then qs else q ∷ qs) ≡ following t qs
after_kept t q true qs e = refl
after_kept t [] false qs e = refl
after_kept t (u ∷ q) false qs e = rw e

pub following-apart : (t : Selector) (qs : List Location) → following t (apart t qs) ≡ []
following-apart t [] = refl
following-apart t (q ∷ qs) = after_kept t q (begins_with t q) (apart t qs) refl ∙ following-apart t qs

-- a selector other than s, at a location that begins with s
other_step : (k s : List ℕ) (u : Selector) → is_eq (text_cmp k s) ≡ false → same_selector (key s) u ≡ true → same_selector (key k) u ≡ false
other_step k s (at i) e f = absurd (cc)
other_step k s (key w) e f = let same : s ≡ w = tied_text s w (equal_from (text_cmp s w) f) in ap (λ x. is_eq (text_cmp k x)) (sym same) ∙ e

after_others : (k s : List ℕ) (q : Location) (b : Bool) (qs rs : List Location) → is_eq (text_cmp k s) ≡ false → begins_with (key s) q ≡ b → following (key k) qs ≡ following (key k) rs → following (key k) (if b then qs else q ∷ qs) ≡ following (key k) (q ∷ rs)
after_others k s [] true qs rs e f h = h
after_others k s (u ∷ q) true qs rs e f h = rw (other_step k s u e f) h
after_others k s [] false qs rs e f h = h
after_others k s (u ∷ q) false qs rs e f h = ap (λ ps. if same_selector (key k) u then q ∷ ps else ps) h

-- the locations in another member stay
pub following-apart_other : (k s : List ℕ) (qs : List Location) → is_eq (text_cmp k s) ≡ false → following (key k) (apart (key s) qs) ≡ following (key k) qs
following-apart_other k s [] e = refl
following-apart_other k s (q ∷ qs) e = after_others k s q (begins_with (key s) q) (apart (key s) qs) qs e refl (following-apart_other k s qs e)

mutual
  -- without locations nothing changes
  pub without_nothing : (v : Value) → without_locations [] v ≡ v
  without_nothing null = refl
  without_nothing (boolean b) = refl
  without_nothing (number n) = refl
  without_nothing (string s) = refl
  without_nothing (array vs) = ap array (items_all_left 0 vs)
  without_nothing (object ms) = ap object (members_all_left ms)

  pub items_all_left : (i : ℕ) (vs : Items) → items_left [] i vs ≡ vs
  items_all_left i no_items = refl
  items_all_left i (item v vs) = rw (without_nothing v, items_all_left (i + 1) vs)

  pub members_all_left : (ms : Members) → members_left [] ms ≡ ms
  members_all_left no_members = refl
  members_all_left (member k v ms) = rw (without_nothing v, members_all_left ms)

items_cond : (b : Bool) (v : Value) (vs : List Value) → items_of (if b then vs else v ∷ vs) ≡ (if b then items_of vs else item v (items_of vs))
items_cond true v vs = refl
items_cond false v vs = refl

-- the remaining items, each by the locations in it
pub groups_left-grouped_from : (qs : List Location) (i : ℕ) (vs : List Value) → items_of (groups_left (grouped_from qs i vs)) ≡ items_left qs i (items_of vs)
groups_left-grouped_from qs i [] = refl
groups_left-grouped_from qs i (v ∷ vs) =
    items_cond (names_itself (following (at i) qs)) (without_locations (following (at i) qs) v) (groups_left (grouped_from qs (i + 1) vs))
    ∙ ap (λ ws. if names_itself (following (at i) qs) then ws else item (without_locations (following (at i) qs) v) ws) (groups_left-grouped_from qs (i + 1) vs)
