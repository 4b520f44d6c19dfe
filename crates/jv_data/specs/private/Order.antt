-- The order of values is total, and `Equal` means equality. It stands here since an `impl` cites of its own crate only what stands in `specs`;
-- other crates cite it by `proofs/shared/Order.antt`.
use Rattle.std.proofs.Common.{◌≡◌, inl, inr, ◌<◌, ◌≤◌, arith, ℕ, List, [], ◌∷◌, Bool, true, false, Ordering, Less, Equal, Greater, refl, sym, ap, ◌∙◌}
use Rattle.std.proofs.lemmas.Bool.{cases_lt}
use Rattle.std.proofs.lemmas.Cmp.{nat_list_cmp_total, int_cmp_total, lists_total, tied_itself, alike_right, by_ranked, int_ranked}
use Rattle.std.proofs.lemmas.Map.Text.{is_eq-slice_cmp}
use Rattle.std.proofs.lemmas.Slice.Eq.{bytes_eq-Decides}
use Rattle.std.specs.Prelude.{◌<ℤ◌}
use Rattle.std.specs.Bool.{Decides}
use Rattle.std.specs.Cmp.{IsTotalOrder}
use Rattle.std.specs.Cmp.Lexicographic.{slice_cmp}
use Rattle.std.specs.Ordering.{ordering_then, ordering_reverse, int_cmp, bool_cmp, is_eq}
use Rattle.jv_data.specs.Value.{Value, null, boolean, number, string, array, object, rank, Items, no_items, item, Members, no_members, member, keys, text_cmp, compare, compare_items, compare_members}

keys_total : IsTotalOrder (slice_cmp text_cmp)
keys_total = lists_total nat_list_cmp_total

mutual
  pub compare_itself : (v : Value) → compare v v ≡ Equal
  compare_itself null = refl
  compare_itself (boolean true) = refl
  compare_itself (boolean false) = refl
  compare_itself (number n) = tied_itself int_cmp_total n
  compare_itself (string s) = tied_itself nat_list_cmp_total s
  compare_itself (array vs) = items_itself vs
  compare_itself (object ms) = rw (tied_itself keys_total (keys ms)) (members_itself ms)

  items_itself : (vs : Items) → compare_items vs vs ≡ Equal
  items_itself no_items = refl
  items_itself (item v vs) = rw (compare_itself v) (items_itself vs)

  members_itself : (ms : Members) → compare_members ms ms ≡ Equal
  members_itself no_members = refl
  members_itself (member k v ms) = rw (compare_itself v) (members_itself ms)

reverse_then : (o p a b : Ordering) → o ≡ ordering_reverse a → p ≡ ordering_reverse b → ordering_then o p ≡ ordering_reverse (ordering_then a b)
reverse_then o p Less b e f = rw e
reverse_then o p Equal b e f = rw e f
reverse_then o p Greater b e f = rw e

bool_back : (b c : Bool) → bool_cmp b c ≡ ordering_reverse (bool_cmp c b)
bool_back true true = refl
bool_back true false = refl
bool_back false true = refl
bool_back false false = refl

mutual
  pub compare_back : (v w : Value) → compare v w ≡ ordering_reverse (compare w v)
  compare_back null null = refl
  compare_back (boolean b) (boolean c) = bool_back b c
  compare_back (number m) (number n) = int_cmp_total.antisymm m n
  compare_back (string s) (string t) = nat_list_cmp_total.antisymm s t
  compare_back (array vs) (array ws) = items_back vs ws
  compare_back (object ms) (object ns) = reverse_then _ _ _ _ (keys_total.antisymm (keys ms) (keys ns)) (members_back ms ns)
  compare_back v w = refl

  items_back : (vs ws : Items) → compare_items vs ws ≡ ordering_reverse (compare_items ws vs)
  items_back no_items no_items = refl
  items_back no_items (item w ws) = refl
  items_back (item v vs) no_items = refl
  items_back (item v vs) (item w ws) = reverse_then _ _ _ _ (compare_back v w) (items_back vs ws)

  members_back : (ms ns : Members) → compare_members ms ns ≡ ordering_reverse (compare_members ns ms)
  members_back (member k v ms) (member l w ns) = reverse_then _ _ _ _ (compare_back v w) (members_back ms ns)
  members_back (member k v ms) no_members = refl
  members_back no_members (member l w ns) = refl
  members_back no_members no_members = refl

-- an ordering is one of three
pub data IsOneOf (o : Ordering) : Type 0 where
  is_less : o ≡ Less → IsOneOf o
  is_equal : o ≡ Equal → IsOneOf o
  is_greater : o ≡ Greater → IsOneOf o

pub compared : (o : Ordering) → IsOneOf o
compared Less = is_less refl
compared Equal = is_equal refl
compared Greater = is_greater refl

-- both comparisons are ties
pub ties : (o p : Ordering) → ordering_then o p ≡ Equal → (o ≡ Equal) × (p ≡ Equal)
ties Less p e = cc
ties Equal p e = (refl, e)
ties Greater p e = cc

tied_bool : (b c : Bool) → bool_cmp b c ≡ Equal → b ≡ c
tied_bool true true e = refl
tied_bool true false e = cc
tied_bool false true e = cc
tied_bool false false e = refl

pub tied_text : (s t : List ℕ) → text_cmp s t ≡ Equal → s ≡ t
tied_text s t e = (bytes_eq-Decides s t).0 (sym (is_eq-slice_cmp s t) ∙ ap is_eq e)

tied_keys : (ks ls : List (List ℕ)) → slice_cmp text_cmp ks ls ≡ Equal → ks ≡ ls
tied_keys [] [] e = refl
tied_keys [] (l ∷ ls) e = cc
tied_keys (k ∷ ks) [] e = cc
tied_keys (k ∷ ks) (l ∷ ls) e =
    let both = ties (text_cmp k l) (slice_cmp text_cmp ks ls) e in
    let a : k ≡ l = tied_text k l both.0 in
    let b : ks ≡ ls = tied_keys ks ls both.1 in
    cc

mutual
  -- values that compare as equal are equal
  pub tied : (v w : Value) → compare v w ≡ Equal → v ≡ w
  tied null null e = refl
  tied (boolean b) (boolean c) e = ap boolean (tied_bool b c e)
  tied (number m) (number n) e = ap number (by_ranked (m <ℤ n) (m ≡ n) (n <ℤ m) (int_cmp m n) (int_ranked m n _ refl) (λ f h. let no : Less ≡ Equal = sym f ∙ e in cc) (λ f h. h) (λ f h. let no : Greater ≡ Equal = sym f ∙ e in cc))
  tied (string s) (string t) e = ap string (tied_text s t e)
  tied (array vs) (array ws) e = ap array (tied_items vs ws e)
  tied (object ms) (object ns) e =
      let both = ties (slice_cmp text_cmp (keys ms) (keys ns)) (compare_members ms ns) e in
      ap object (tied_members ms ns (tied_keys (keys ms) (keys ns) both.0) both.1)
  tied v w e = cc

  tied_items : (vs ws : Items) → compare_items vs ws ≡ Equal → vs ≡ ws
  tied_items no_items no_items e = refl
  tied_items no_items (item w ws) e = cc
  tied_items (item v vs) no_items e = cc
  tied_items (item v vs) (item w ws) e =
      let both = ties (compare v w) (compare_items vs ws) e in
      let a : v ≡ w = tied v w both.0 in
      let b : vs ≡ ws = tied_items vs ws both.1 in
      cc

  tied_members : (ms ns : Members) → keys ms ≡ keys ns → compare_members ms ns ≡ Equal → ms ≡ ns
  tied_members no_members no_members k e = refl
  tied_members no_members (member l w ns) k e = cc
  tied_members (member j v ms) no_members k e = cc
  tied_members (member j v ms) (member l w ns) k e =
      let both = ties (compare v w) (compare_members ms ns) e in
      let a : v ≡ w = tied v w both.0 in
      let names : (j ∷ keys ms) ≡ (l ∷ keys ns) = k in
      let c : j ≡ l = cc in
      let d : keys ms ≡ keys ns = cc in
      let b : ms ≡ ns = tied_members ms ns d both.1 in
      cc

then_less_after : (p q r s u : Ordering) → q ≡ p → (r ≡ Less → s ≡ Less → u ≡ Less) → r ≡ Less → ordering_then p s ≡ Less → ordering_then q u ≡ Less
then_less_after Less q r s u same rest e f = rw same
then_less_after Equal q r s u same rest e f = rw same (rest e f)
then_less_after Greater q r s u same rest e f = cc

-- o compares the first and the second, p the second and the third, q the first and the third; r, s, u the same for the rests
then_less : (o p q r s u : Ordering) → (o ≡ Less → p ≡ Less → q ≡ Less) → (o ≡ Equal → q ≡ p) → (p ≡ Equal → q ≡ o) → (r ≡ Less → s ≡ Less → u ≡ Less)
    → ordering_then o r ≡ Less → ordering_then p s ≡ Less → ordering_then q u ≡ Less
then_less Less Less q r s u both left right rest e f = rw (both refl refl)
then_less Less Equal q r s u both left right rest e f = rw (right refl)
then_less Less Greater q r s u both left right rest e f = cc
then_less Equal p q r s u both left right rest e f = then_less_after p q r s u (left refl) rest e f
then_less Greater p q r s u both left right rest e f = cc

bool_chain : (a b c : Bool) → bool_cmp a b ≡ Less → bool_cmp b c ≡ Less → bool_cmp a c ≡ Less
bool_chain false false c e f = cc
bool_chain false true false e f = cc
bool_chain false true true e f = cc
bool_chain true false c e f = cc
bool_chain true true c e f = cc

rank_le : (v w : Value) → compare v w ≡ Less → rank v ≤ rank w
rank_le null null e = cc
rank_le (boolean b) (boolean c) e = omega arith
rank_le (number m) (number n) e = omega arith
rank_le (string s) (string t) e = omega arith
rank_le (array vs) (array ws) e = omega arith
rank_le (object ms) (object ns) e = omega arith
rank_le v w e = first_of (omega arith, cc)

below : (v w : Value) → rank v < rank w → compare v w ≡ Less
below null null h = absurd (omega arith)
below (boolean b) (boolean c) h = absurd (omega arith)
below (number m) (number n) h = absurd (omega arith)
below (string s) (string t) h = absurd (omega arith)
below (array vs) (array ws) h = absurd (omega arith)
below (object ms) (object ns) h = absurd (omega arith)
below v w h = grind arith

by_rank : (v w x : Value) → (rank v ≡ rank w → rank w ≡ rank x → ⊥) → compare v w ≡ Less → compare w x ≡ Less → compare v x ≡ Less
by_rank v w x apart e f =
    let a : rank v ≤ rank w = rank_le v w e in
    let b : rank w ≤ rank x = rank_le w x f in
    elim (cases_lt (rank v) (rank x)) [ inl h ↦ below v x h | inr h ↦ absurd (apart (omega arith) (omega arith)) ]

mutual
  pub chain : (v w x : Value) → compare v w ≡ Less → compare w x ≡ Less → compare v x ≡ Less
  chain null null null e f = cc
  chain (boolean a) (boolean b) (boolean c) e f = bool_chain a b c e f
  chain (number l) (number m) (number n) e f = int_cmp_total.trans l m n e f
  chain (string r) (string s) (string t) e f = nat_list_cmp_total.trans r s t e f
  chain (array us) (array vs) (array ws) e f = chain_items us vs ws e f
  chain (object ls) (object ms) (object ns) e f =
      then_less _ _ _ _ _ _ (keys_total.trans (keys ls) (keys ms) (keys ns)) (keys_total.congr (keys ls) (keys ms) (keys ns)) (λ h. sym (alike_right keys_total (keys ms) (keys ns) (keys ls) h)) (chain_members ls ms ns) e f
  chain v w x e f = by_rank v w x (omega arith) e f

  chain_items : (us vs ws : Items) → compare_items us vs ≡ Less → compare_items vs ws ≡ Less → compare_items us ws ≡ Less
  chain_items (item u us) (item v vs) (item w ws) e f =
      then_less _ _ _ _ _ _ (chain u v w) (λ h. ap (λ y. compare y w) (tied u v h)) (λ h. sym (ap (λ y. compare u y) (tied v w h))) (chain_items us vs ws) e f
  chain_items no_items (item v vs) (item w ws) e f = refl
  chain_items us vs ws e f = cc

  chain_members : (ls ms ns : Members) → compare_members ls ms ≡ Less → compare_members ms ns ≡ Less → compare_members ls ns ≡ Less
  chain_members (member j u ls) (member k v ms) (member l w ns) e f =
      then_less _ _ _ _ _ _ (chain u v w) (λ h. ap (λ y. compare y w) (tied u v h)) (λ h. sym (ap (λ y. compare u y) (tied v w h))) (chain_members ls ms ns) e f
  chain_members ls ms ns e f = cc

pub compare_total : IsTotalOrder compare
compare_total = record { antisymm = compare_back; trans = chain; congr = λ v w x e. ap (λ y. compare y x) (tied v w e) }

-- an ordering that counts as equal
pub equal_from : (o : Ordering) → is_eq o ≡ true → o ≡ Equal
equal_from Less e = cc
equal_from Equal e = refl
equal_from Greater e = cc

-- `compare` decides equality
pub same_Decides : (v w : Value) → Decides (is_eq (compare v w)) (v ≡ w)
same_Decides v w = (λ e. tied v w (equal_from (compare v w) e), λ e. rw e (ap is_eq (compare_itself w)))
