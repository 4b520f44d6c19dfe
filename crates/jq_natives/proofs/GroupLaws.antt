-- The groups of a list: one after the other they are the list, and neighbours have different keys.
use Rattle.std.proofs.Common.{◌≡◌, List, [], ◌∷◌, ◌++◌, Bool, true, false, refl, ap, sym, ◌∙◌}
use Rattle.std.specs.Prelude.{flat_map, if◌then◌else◌}
use Rattle.jv_data.proofs.shared.Order.{same_Decides}
use Rattle.jv_data.specs.Value.{Value}
use Rattle.jq_natives.specs.Answers.{is_same}
use Rattle.jq_natives.specs.Sorting.{Keyed, key, join_group, groups}
use Rattle.jq_natives.specs.laws.Sorting.{HaveKey, IsApart, AreGroups}
use Rattle.jq_natives.proofs.Arranged.{true_or_false}

join_group-joined : (p : Keyed) (gs : List (List Keyed)) → flat_map (λ g. g) (join_group p gs) ≡ p ∷ flat_map (λ g. g) gs
join_group-joined p [] = refl
join_group-joined p ([] ∷ gs) = refl
join_group-joined p ((q ∷ qs) ∷ gs) = go (is_same (key p) (key q))
  where
    go : (b : Bool) → flat_map (λ (g : List Keyed). g) (if b then (p ∷ q ∷ qs) ∷ gs else (p ∷ []) ∷ (q ∷ qs) ∷ gs) ≡ p ∷ ((q ∷ qs) ++ flat_map (λ (g : List Keyed). g) gs)
    go true = refl
    go false = refl

pub groups-joined : (ps : List Keyed) → flat_map (λ g. g) (groups ps) ≡ ps
groups-joined [] = refl
groups-joined (p ∷ ps) = join_group-joined p (groups ps) ∙ ap (λ qs. p ∷ qs) (groups-joined ps)

-- ---- the groups are apart

pub key_moved : (k l : Value) (ps : List Keyed) → k ≡ l → HaveKey k ps → HaveKey l ps
key_moved k l [] e h = tt
key_moved k l (p ∷ ps) e h = (h.0 ∙ e, key_moved k l ps e h.1)

apart_moved : (p q : Keyed) (ps qs : List Keyed) (gs : List (List Keyed)) → key p ≡ key q → IsApart (q ∷ qs) gs → IsApart (p ∷ ps) gs
apart_moved p q ps qs [] e h = tt
apart_moved p q ps qs ([] ∷ gs) e h = tt
apart_moved p q ps qs ((r ∷ rs) ∷ gs) e h = λ d. h (sym e ∙ d)

join_group-groups : (p : Keyed) (gs : List (List Keyed)) → AreGroups gs → AreGroups (join_group p gs)
join_group-groups p [] h = (tt, tt, tt)
join_group-groups p ([] ∷ gs) h = absurd h.0
join_group-groups p ((q ∷ qs) ∷ gs) h = go (is_same (key p) (key q)) refl
  where
    go : (b : Bool) → is_same (key p) (key q) ≡ b → AreGroups (if b then (p ∷ q ∷ qs) ∷ gs else (p ∷ []) ∷ (q ∷ qs) ∷ gs)
    go true e =
        let same : key p ≡ key q = (same_Decides (key p) (key q)).0 e in
        ((sym same, key_moved (key q) (key p) qs (sym same) h.0), apart_moved p q (q ∷ qs) qs gs same h.1, h.2)
    go false e =
        (tt, (λ same. let d : is_same (key p) (key q) ≡ true = (same_Decides (key p) (key q)).1 same in true_or_false (is_same (key p) (key q)) d e), h)

pub groups-are : (ps : List Keyed) → AreGroups (groups ps)
groups-are [] = tt
groups-are (p ∷ ps) = join_group-groups p (groups ps) (groups-are ps)
