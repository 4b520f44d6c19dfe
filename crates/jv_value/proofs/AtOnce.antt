-- What remains of an array or an object after deleting indexes or keys at once.
use Rattle.std.proofs.Common.{◌≡◌, ◌∙◌, ◌+◌, ◌==◌, ◌||◌, ℕ, ℤ, Bool, true, false, if◌then◌else◌, List, [], ◌∷◌, ◌++◌, cond, length, map, Option, Some, None, Ok, refl, sym, ap}
use Rattle.std.specs.Cmp.Lexicographic.{slice_cmp}
use Rattle.std.specs.List.{list_any}
use Rattle.std.specs.Option.{option_map_or}
use Rattle.std.specs.Ordering.{is_eq, is_gt}
use Rattle.jv_data.proofs.shared.Order.{equal_from, tied_text}
use Rattle.jv_data.specs.Members.{member_at}
use Rattle.jv_data.specs.Value.{Value, null, number, string, array, object, Items, no_items, item, Members, no_members, member, values_of, compare, text_cmp}
use Rattle.jv_value.specs.DeletePaths.{all_locations, following, in_order, items_left, members_left, names_itself, put_in_order, removed, without_locations}
use Rattle.jv_value.specs.Locations.{Location, at, key, locations_of}
use Rattle.jv_value.specs.Index.{place_of}
use Rattle.jv_value.specs.laws.AtOnce.{IndexesGoAtOnce, KeysGoAtOnce, names_item, unnamed_items, unnamed_members}
use Rattle.jv_value.specs.Results.{and_then, map_ok}
use Rattle.jv_value.proofs.Following.{text_itself, without_nothing}

module _ {X : Type 0} (f : X → List Value) where
  -- what represents paths, in the order of the paths
  abbrev put_one : X → List X → List X
  put_one x [] = x ∷ []
  put_one x (y ∷ ys) = if is_gt (slice_cmp compare (f x) (f y)) then y ∷ put_one x ys else (x ∷ y ∷ ys)

  abbrev sorted : List X → List X
  sorted [] = []
  sorted (x ∷ xs) = put_one x (sorted xs)

  map_cond : (b : Bool) (xs ys : List X) → map f (if b then xs else ys) ≡ (if b then map f xs else map f ys)
  map_cond true xs ys = refl
  map_cond false xs ys = refl

  put_in_order-map : (x : X) (ys : List X) → put_in_order (f x) (map f ys) ≡ map f (put_one x ys)
  put_in_order-map x [] = refl
  put_in_order-map x (y ∷ ys) =
      let b = is_gt (slice_cmp compare (f x) (f y)) in
      ap (λ ps. if b then f y ∷ ps else (f x ∷ f y ∷ map f ys)) (put_in_order-map x ys) ∙ sym (map_cond b (y ∷ put_one x ys) (x ∷ y ∷ ys))

  in_order-map : (xs : List X) → in_order (map f xs) ≡ map f (sorted xs)
  in_order-map [] = refl
  in_order-map (x ∷ xs) = ap (put_in_order (f x)) (in_order-map xs) ∙ put_in_order-map x (sorted xs)

  or_swap : (a b c : Bool) → (a || (b || c)) ≡ (b || (a || c))
  or_swap true true c = refl
  or_swap true false c = refl
  or_swap false true c = refl
  or_swap false false c = refl

  any_cond : (p : X → Bool) (b : Bool) (xs ys : List X) → list_any p (if b then xs else ys) ≡ (if b then list_any p xs else list_any p ys)
  any_cond p true xs ys = refl
  any_cond p false xs ys = refl

  both : (b c : Bool) → (if b then c else c) ≡ c
  both true c = refl
  both false c = refl

  any_put : (p : X → Bool) (x : X) (ys : List X) → list_any p (put_one x ys) ≡ (p x || list_any p ys)
  any_put p x [] = refl
  any_put p x (y ∷ ys) =
      let b = is_gt (slice_cmp compare (f x) (f y)) in
      any_cond p b (y ∷ put_one x ys) (x ∷ y ∷ ys)
      ∙ ap (λ c. if b then (p y || c) else (p x || (p y || list_any p ys))) (any_put p x ys)
      ∙ ap (λ c. if b then c else (p x || (p y || list_any p ys))) (or_swap (p y) (p x) (list_any p ys))
      ∙ both b (p x || (p y || list_any p ys))

  -- whether one of them passes does not depend on the order
  any_sorted : (p : X → Bool) (xs : List X) → list_any p (sorted xs) ≡ list_any p xs
  any_sorted p [] = refl
  any_sorted p (x ∷ xs) = any_put p x (sorted xs) ∙ ap (λ c. p x || c) (any_sorted p xs)

-- indexes
abbrev index_path : ℤ → List Value
index_path i = number i ∷ []

abbrev one_location : Option ℕ → List Location
one_location o = option_map_or (λ j. (at j ∷ []) ∷ []) o []

abbrev index_locations : ℕ → List ℤ → List Location
index_locations n [] = []
index_locations n (i ∷ is) = one_location (place_of n i) ++ index_locations n is

locations_with : (vs : Items) (i : ℤ) (o : Option ℕ) → place_of (length (values_of vs)) i ≡ o → locations_of (array vs) (index_path i) ≡ Ok (one_location o)
locations_with vs i None e = rw e refl
locations_with vs i (Some j) e = rw e refl

all_index_locations : (vs : Items) (is : List ℤ) → all_locations (array vs) (map index_path is) ≡ Ok (index_locations (length (values_of vs)) is)
all_index_locations vs [] = refl
all_index_locations vs (i ∷ is) =
    ap (λ r. and_then r (λ qs. map_ok (λ rs. qs ++ rs) (all_locations (array vs) (map index_path is)))) (locations_with vs i (place_of (length (values_of vs)) i) refl)
    ∙ ap (map_ok (λ rs. one_location (place_of (length (values_of vs)) i) ++ rs)) (all_index_locations vs is)

-- no index is the array itself
whole_by : (o : Option ℕ) (qs : List Location) → names_itself qs ≡ false → names_itself (one_location o ++ qs) ≡ false
whole_by None qs h = h
whole_by (Some j) qs h = h

index_not_whole : (n : ℕ) (is : List ℤ) → names_itself (index_locations n is) ≡ false
index_not_whole n [] = refl
index_not_whole n (i ∷ is) = whole_by (place_of n i) (index_locations n is) (index_not_whole n is)

-- an item's locations: the item itself, if an index names it
named_cond : (b : Bool) (qs : List Location) (c : Bool) → names_itself qs ≡ c → names_itself (if b then [] ∷ qs else qs) ≡ (b || c)
named_cond true qs c h = refl
named_cond false qs c h = h

named_by : (k : ℕ) (o : Option ℕ) (qs : List Location) (c : Bool) → names_itself (following (at k) qs) ≡ c → names_itself (following (at k) (one_location o ++ qs)) ≡ (option_map_or (λ j. k == j) o false || c)
named_by k None qs c h = h
named_by k (Some j) qs c h = named_cond (k == j) (following (at k) qs) c h

index_named : (n k : ℕ) (is : List ℤ) → names_itself (following (at k) (index_locations n is)) ≡ list_any (names_item n k) is
index_named n k [] = refl
index_named n k (i ∷ is) = named_by k (place_of n i) (index_locations n is) (list_any (names_item n k) is) (index_named n k is)

nothing_cond : (b : Bool) (qs : List Location) (c : Bool) → (b || c) ≡ false → (c ≡ false → qs ≡ []) → (if b then [] ∷ qs else qs) ≡ []
nothing_cond true qs c e h = absurd (let bad : true ≡ false = e in cc)
nothing_cond false qs c e h = h e

nothing_by : (k : ℕ) (o : Option ℕ) (qs : List Location) (c : Bool) → (option_map_or (λ j. k == j) o false || c) ≡ false → (c ≡ false → following (at k) qs ≡ []) → following (at k) (one_location o ++ qs) ≡ []
nothing_by k None qs c e h = h e
nothing_by k (Some j) qs c e h = nothing_cond (k == j) (following (at k) qs) c e h

index_unnamed : (n k : ℕ) (is : List ℤ) → list_any (names_item n k) is ≡ false → following (at k) (index_locations n is) ≡ []
index_unnamed n k [] e = refl
index_unnamed n k (i ∷ is) e = nothing_by k (place_of n i) (index_locations n is) (list_any (names_item n k) is) e (index_unnamed n k is)

item_cond : (b : Bool) (qs : List Location) (v : Value) (vs : Items) → (b ≡ false → qs ≡ []) → (if b then vs else item (without_locations qs v) vs) ≡ (if b then vs else item v vs)
item_cond true qs v vs h = refl
item_cond false qs v vs h = ap (λ ps. item (without_locations ps v) vs) (h refl) ∙ ap (λ w. item w vs) (without_nothing v)

index_left : (n : ℕ) (is : List ℤ) (k : ℕ) (vs : Items) → items_left (index_locations n is) k vs ≡ unnamed_items n is k vs
index_left n is k no_items = refl
index_left n is k (item v vs) =
    let qs = following (at k) (index_locations n is) in
    let more = items_left (index_locations n is) (k + 1) vs in
    ap (λ b. if b then more else item (without_locations qs v) more) (index_named n k is)
    ∙ item_cond (list_any (names_item n k) is) qs v more (index_unnamed n k is)
    ∙ ap (λ ws. if list_any (names_item n k) is then ws else item v ws) (index_left n is (k + 1) vs)

same_unnamed : (n : ℕ) (is js : List ℤ) → ((k : ℕ) → list_any (names_item n k) is ≡ list_any (names_item n k) js) → (k : ℕ) (vs : Items) → unnamed_items n is k vs ≡ unnamed_items n js k vs
same_unnamed n is js h k no_items = refl
same_unnamed n is js h k (item v vs) = rw (h k, same_unnamed n is js h (k + 1) vs) refl

pub indexes_go_at_once : IndexesGoAtOnce
indexes_go_at_once vs is =
    let n = length (values_of vs) in
    let js = sorted index_path is in
    let qs = index_locations n js in
    ap (λ ps. map_ok (λ rs. removed rs (array vs)) (all_locations (array vs) ps)) (in_order-map index_path is)
    ∙ ap (map_ok (λ rs. removed rs (array vs))) (all_index_locations vs js)
    ∙ ap (λ b. Ok (if b then null else array (items_left qs 0 vs))) (index_not_whole n js)
    ∙ ap (λ ws. Ok (array ws)) (index_left n js 0 vs ∙ same_unnamed n js is (λ k. any_sorted index_path (names_item n k) is) 0 vs)

-- keys
abbrev key_path : List ℕ → List Value
key_path s = string s ∷ []

abbrev one_key : List ℕ → Option Value → List Location
one_key s o = option_map_or (λ v. (key s ∷ []) ∷ []) o []

abbrev key_locations : Members → List (List ℕ) → List Location
key_locations ms [] = []
key_locations ms (s ∷ ks) = one_key s (member_at s ms) ++ key_locations ms ks

locations_keyed : (ms : Members) (s : List ℕ) (o : Option Value) → member_at s ms ≡ o → locations_of (object ms) (key_path s) ≡ Ok (one_key s o)
locations_keyed ms s None e = rw e refl
locations_keyed ms s (Some v) e = rw e refl

all_key_locations : (ms : Members) (ks : List (List ℕ)) → all_locations (object ms) (map key_path ks) ≡ Ok (key_locations ms ks)
all_key_locations ms [] = refl
all_key_locations ms (s ∷ ks) =
    ap (λ r. and_then r (λ qs. map_ok (λ rs. qs ++ rs) (all_locations (object ms) (map key_path ks)))) (locations_keyed ms s (member_at s ms) refl)
    ∙ ap (map_ok (λ rs. one_key s (member_at s ms) ++ rs)) (all_key_locations ms ks)

key_whole_by : (s : List ℕ) (o : Option Value) (qs : List Location) → names_itself qs ≡ false → names_itself (one_key s o ++ qs) ≡ false
key_whole_by s None qs h = h
key_whole_by s (Some v) qs h = h

key_not_whole : (ms : Members) (ks : List (List ℕ)) → names_itself (key_locations ms ks) ≡ false
key_not_whole ms [] = refl
key_not_whole ms (s ∷ ks) = key_whole_by s (member_at s ms) (key_locations ms ks) (key_not_whole ms ks)

-- a member's locations: the member itself, if its key is named
key_named_by : (s k : List ℕ) (b : Bool) (o : Option Value) (w : Value) (qs : List Location) (c : Bool) → is_eq (text_cmp s k) ≡ b → (b ≡ true → o ≡ Some w) → names_itself (following (key s) qs) ≡ c
    → names_itself (following (key s) (one_key k o ++ qs)) ≡ (b || c)
key_named_by s k true None w qs c e f h = absurd (let bad : None ≡ Some w = f refl in cc)
key_named_by s k false None w qs c e f h = h
key_named_by s k b (Some v) w qs c e f h = ap (λ d. names_itself (if d then [] ∷ following (key s) qs else following (key s) qs)) e ∙ named_cond b (following (key s) qs) c h

key_named : (ms : Members) (s : List ℕ) (w : Value) (ks : List (List ℕ)) → member_at s ms ≡ Some w → names_itself (following (key s) (key_locations ms ks)) ≡ list_any (λ k. is_eq (text_cmp s k)) ks
key_named ms s w [] f = refl
key_named ms s w (k ∷ ks) f =
    let here : is_eq (text_cmp s k) ≡ true → member_at k ms ≡ Some w = λ e. ap (λ t. member_at t ms) (sym (tied_text s k (equal_from (text_cmp s k) e))) ∙ f in
    key_named_by s k (is_eq (text_cmp s k)) (member_at k ms) w (key_locations ms ks) (list_any (λ l. is_eq (text_cmp s l)) ks) refl here (key_named ms s w ks f)

key_nothing_by : (s k : List ℕ) (b : Bool) (o : Option Value) (qs : List Location) (c : Bool) → is_eq (text_cmp s k) ≡ b → (b || c) ≡ false → (c ≡ false → following (key s) qs ≡ [])
    → following (key s) (one_key k o ++ qs) ≡ []
key_nothing_by s k true None qs c f e h = absurd (let bad : true ≡ false = e in cc)
key_nothing_by s k false None qs c f e h = h e
key_nothing_by s k b (Some v) qs c f e h = ap (λ d. if d then [] ∷ following (key s) qs else following (key s) qs) f ∙ nothing_cond b (following (key s) qs) c e h

key_unnamed : (ms : Members) (s : List ℕ) (ks : List (List ℕ)) → list_any (λ k. is_eq (text_cmp s k)) ks ≡ false → following (key s) (key_locations ms ks) ≡ []
key_unnamed ms s [] e = refl
key_unnamed ms s (k ∷ ks) e = key_nothing_by s k (is_eq (text_cmp s k)) (member_at k ms) (key_locations ms ks) (list_any (λ l. is_eq (text_cmp s l)) ks) refl e (key_unnamed ms s ks)

-- each key of an object is found in it
abbrev IsFound : List ℕ → Members → Type 0
IsFound s ms = (w : Value) × (member_at s ms ≡ Some w)

abbrev AllFound : Members → Members → Type 0
AllFound ms no_members = Unit {0}
AllFound ms (member s v ns) = IsFound s ms × AllFound ms ns

found_by : (b : Bool) (v : Value) (o : Option Value) → (w : Value) × (o ≡ Some w) → (w : Value) × (cond b (Some v) o ≡ Some w)
found_by true v o h = (v, refl)
found_by false v o h = h

all_found_more : (k : List ℕ) (v : Value) (ms ns : Members) → AllFound ms ns → AllFound (member k v ms) ns
all_found_more k v ms no_members h = tt
all_found_more k v ms (member s w ns) h = (found_by (is_eq (text_cmp s k)) v (member_at s ms) h.0, all_found_more k v ms ns h.1)

all_found : (ms : Members) → AllFound ms ms
all_found no_members = tt
all_found (member k v ms) = ((v, ap (λ b. cond b (Some v) (member_at k ms)) (text_itself k)), all_found_more k v ms ms (all_found ms))

member_cond : (b : Bool) (s : List ℕ) (qs : List Location) (v : Value) (ms : Members) → (b ≡ false → qs ≡ []) → (if b then ms else member s (without_locations qs v) ms) ≡ (if b then ms else member s v ms)
member_cond true s qs v ms h = refl
member_cond false s qs v ms h = ap (λ ps. member s (without_locations ps v) ms) (h refl) ∙ ap (λ w. member s w ms) (without_nothing v)

key_left : (ms : Members) (ks : List (List ℕ)) (ns : Members) → AllFound ms ns → members_left (key_locations ms ks) ns ≡ unnamed_members ks ns
key_left ms ks no_members h = refl
key_left ms ks (member s v ns) h =
    let qs = following (key s) (key_locations ms ks) in
    let more = members_left (key_locations ms ks) ns in
    let named = list_any (λ k. is_eq (text_cmp s k)) ks in
    ap (λ b. if b then more else member s (without_locations qs v) more) (key_named ms s h.0.0 ks h.0.1)
    ∙ member_cond named s qs v more (key_unnamed ms s ks)
    ∙ ap (λ os. if named then os else member s v os) (key_left ms ks ns h.1)

same_unnamed_members : (js ks : List (List ℕ)) → ((s : List ℕ) → list_any (λ k. is_eq (text_cmp s k)) js ≡ list_any (λ k. is_eq (text_cmp s k)) ks) → (ms : Members) → unnamed_members js ms ≡ unnamed_members ks ms
same_unnamed_members js ks h no_members = refl
same_unnamed_members js ks h (member s v ms) = rw (h s, same_unnamed_members js ks h ms) refl

pub keys_go_at_once : KeysGoAtOnce
keys_go_at_once ms ks =
    let js = sorted key_path ks in
    let qs = key_locations ms js in
    ap (λ ps. map_ok (λ rs. removed rs (object ms)) (all_locations (object ms) ps)) (in_order-map key_path ks)
    ∙ ap (map_ok (λ rs. removed rs (object ms))) (all_key_locations ms js)
    ∙ ap (λ b. Ok (if b then null else object (members_left qs ms))) (key_not_whole ms js)
    ∙ ap (λ ns. Ok (object ns)) (key_left ms js ms (all_found ms) ∙ same_unnamed_members js ks (λ s. any_sorted key_path (λ k. is_eq (text_cmp s k)) ks) ms)
