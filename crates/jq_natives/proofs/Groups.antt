-- Groups, one item after the other.
use Rattle.std.proofs.Common.{◌≡◌, ◌≢◌, ◌∙◌, List, [], ◌∷◌, ◌++◌, Bool, true, false, length, refl, sym, ap}
use Rattle.std.proofs.lemmas.List.{append-nil}
use Rattle.std.specs.Prelude.{⊤, if◌then◌else◌}
use Rattle.jv_data.proofs.shared.Order.{same_Decides}
use Rattle.jv_data.specs.Value.{Value}
use Rattle.jq_natives.specs.Answers.{is_same}
use Rattle.jq_natives.specs.private.SortedItems.{goes_with}
use Rattle.jq_natives.specs.Sorting.{Keyed, key, join_group, groups}
use Rattle.jq_natives.specs.laws.Sorting.{HaveKey}
use Rattle.jq_natives.proofs.GroupLaws.{key_moved}

-- the items, if there are any, have one key
abbrev pub HaveOneKey : List Keyed → Type 0
HaveOneKey [] = ⊤
HaveOneKey (p ∷ ps) = HaveKey (key p) ps

have_key_more : (k : Value) (g : List Keyed) (p : Keyed) → HaveKey k g → key p ≡ k → HaveKey k (g ++ p ∷ [])
have_key_more k [] p h e = (e, tt)
have_key_more k (q ∷ qs) p h e = (h.0, have_key_more k qs p h.1 e)

pub one_key_more : (g : List Keyed) (p : Keyed) → HaveOneKey g → goes_with g p ≡ true → HaveOneKey (g ++ p ∷ [])
one_key_more [] p h e = tt
one_key_more (q ∷ qs) p h e = have_key_more (key q) qs p h (sym ((same_Decides (key q) (key p)).0 e))

-- the first group begins with the first item
first_group : (p : Keyed) (ps : List Keyed) → (r : List Keyed) × (gs : List (List Keyed)) × (groups (p ∷ ps) ≡ (p ∷ r) ∷ gs)
first_group p ps = go (groups ps)
  where
    go : (gs : List (List Keyed)) → (r : List Keyed) × (hs : List (List Keyed)) × (join_group p gs ≡ (p ∷ r) ∷ hs)
    go [] = ([], [], refl)
    go ([] ∷ gs) = ([], gs, refl)
    go ((q ∷ qs) ∷ gs) = pick (is_same (key p) (key q))
      where
        pick : (b : Bool) → (r : List Keyed) × (hs : List (List Keyed)) × ((if b then (p ∷ q ∷ qs) ∷ gs else (p ∷ []) ∷ (q ∷ qs) ∷ gs) ≡ (p ∷ r) ∷ hs)
        pick true = (q ∷ qs, gs, refl)
        pick false = ([], (q ∷ qs) ∷ gs, refl)

join_same : (p q : Keyed) (qs : List Keyed) (gs : List (List Keyed)) → is_same (key p) (key q) ≡ true → join_group p ((q ∷ qs) ∷ gs) ≡ (p ∷ q ∷ qs) ∷ gs
join_same p q qs gs e = rw e refl

join_other : (p q : Keyed) (qs : List Keyed) (gs : List (List Keyed)) → is_same (key p) (key q) ≡ false → join_group p ((q ∷ qs) ∷ gs) ≡ (p ∷ []) ∷ (q ∷ qs) ∷ gs
join_other p q qs gs e = rw e refl

-- a group is complete if the next item has another key
pub closed : (g : List Keyed) (p : Keyed) (rest : List Keyed) → HaveOneKey g → goes_with g p ≡ false → groups (g ++ p ∷ rest) ≡ g ∷ groups (p ∷ rest)
closed [] p rest h e = cc
closed (q ∷ []) p rest h e =
    let first = first_group p rest in
    ap (join_group q) first.2 ∙ join_other q p first.0 first.1 e ∙ ap (λ gs. (q ∷ []) ∷ gs) (sym first.2)
closed (q ∷ r ∷ qs) p rest h e =
    let later : is_same (key r) (key p) ≡ false = ap (λ k. is_same k (key p)) h.0 ∙ e in
    let inner : groups ((r ∷ qs) ++ p ∷ rest) ≡ (r ∷ qs) ∷ groups (p ∷ rest) = closed (r ∷ qs) p rest (key_moved (key q) (key r) qs (sym h.0) h.1) later in
    ap (join_group q) inner ∙ join_same q r qs (groups (p ∷ rest)) ((same_Decides (key q) (key r)).1 (sym h.0))

-- items of one key are one group
pub last_group : (p : Keyed) (ps : List Keyed) → HaveKey (key p) ps → groups (p ∷ ps) ≡ (p ∷ ps) ∷ []
last_group p [] h = refl
last_group p (q ∷ qs) h =
    let inner : groups (q ∷ qs) ≡ (q ∷ qs) ∷ [] = last_group q qs (key_moved (key p) (key q) qs (sym h.0) h.1) in
    ap (join_group p) inner ∙ join_same p q qs [] ((same_Decides (key p) (key q)).1 (sym h.0))

pub all_closed : (g : List Keyed) → HaveOneKey g → (length g ≢ 0) → groups (g ++ []) ≡ g ∷ []
all_closed [] h some = absurd (some refl)
all_closed (p ∷ ps) h some = ap groups (append-nil (p ∷ ps)) ∙ last_group p ps h
