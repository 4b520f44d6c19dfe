-- The groups with one more location, and with one group less.
use Rattle.std.proofs.Common.{◌≡◌, ◌∙◌, List, [], ◌∷◌, ◌++◌, Bool, true, false, cond, if◌then◌else◌, Option, Some, None, String, Global, string_bytes, string_cmp, nat_cmp, ap, sym, subst, refl, ℕ, unwrap_or}
use Rattle.std.proofs.lemmas.List.{append-nil}
use Rattle.std.proofs.lemmas.Map.Text.{is_eq-slice_cmp}
use Rattle.std.proofs.lemmas.Slice.Eq.{bytes_eq-Decides}
use Rattle.std.specs.BTreeMap.{get, Updates, UpdatesBy}
use Rattle.std.specs.Cmp.Lexicographic.{slice_cmp}
use Rattle.std.specs.Map.{lookup}
use Rattle.std.specs.Ordering.{is_eq}
use Rattle.jv_data.proofs.shared.Order.{compared, equal_from, is_equal, is_greater, is_less, tied_text}
use Rattle.jv_data.specs.Members.{put}
use Rattle.jv_data.specs.Value.{Value, object, Members, text_cmp}
use Rattle.jv_data.specs.Text.{text_of}
use Rattle.jv_data.proofs.shared.Levels.{members_held}
use Rattle.jv_data.specs.Held.{members_in}
use Rattle.jv_data.specs.Shared.{entries_in}
use Rattle.jv_data.specs.View.{members_view}
use Rattle.jv_data.specs.declared.containers.objects.Object.{Object}
use Rattle.jv_data.specs.declared.values.Val.{Val}
use Rattle.jv_value.specs.private.ItemGroups.{apart}
use Rattle.jv_value.specs.DeletePaths.{following, members_left}
use Rattle.jv_value.specs.private.Groups.{Group, Groups, held_in, AreGrouped}
use Rattle.jv_value.specs.private.Removals.{GroupsLeave}
use Rattle.jv_value.specs.Locations.{Location, after, key}
use Rattle.jv_value.specs.private.Locations.{locations_in}
use Rattle.jv_value.proofs.Following.{following-append, following-apart, following-apart_other}
use Rattle.jv_value.proofs.Texts.{same_texts}

-- names are the same by their bytes as by their code points
same_names : (k s : String Global) → is_eq (text_cmp (text_of s) (text_of k)) ≡ is_eq (string_cmp k s)
same_names k s = sym (is_eq-slice_cmp (string_bytes k) (string_bytes s) ∙ same_texts s k)

names_tied : (k s : String Global) → is_eq (string_cmp k s) ≡ true → string_bytes k ≡ string_bytes s
names_tied k s e = (bytes_eq-Decides (string_bytes k) (string_bytes s)).0 (sym (is_eq-slice_cmp (string_bytes k) (string_bytes s)) ∙ e)

found_same : (groups : Groups) (k s : String Global) → string_bytes k ≡ string_bytes s → get string_cmp groups s ≡ get string_cmp groups k
found_same groups k s e = ap (λ bs. lookup (λ l. is_eq (slice_cmp nat_cmp bs (string_bytes l))) groups.entries) (sym e)

-- one more location in the member t, and the locations in the member u
after_more : (t u : List ℕ) (b : Bool) (rest : Location) (qs : List Location) → is_eq (text_cmp u t) ≡ b → following (key u) (qs ++ (key t ∷ rest) ∷ []) ≡ following (key u) qs ++ (if b then rest ∷ [] else [])
after_more t u b rest qs e = following-append (key u) qs ((key t ∷ rest) ∷ []) ∙ ap (λ c. following (key u) qs ++ (if c then rest ∷ [] else [])) e

same_more : (b : Bool) (t u : List ℕ) (g : Group) (o n : Option Group) (rest : Location) (qs : List Location) → is_eq (text_cmp u t) ≡ b → n ≡ cond b (Some g) (cond b None o)
    → locations_in g.items ≡ following (key t) qs ++ rest ∷ [] → held_in o ≡ following (key u) qs → held_in n ≡ following (key u) (qs ++ (key t ∷ rest) ∷ [])
same_more true t u g o n rest qs e f h i =
    let same : u ≡ t = tied_text u t (equal_from (text_cmp u t) e) in
    ap held_in f ∙ h ∙ ap (λ s. following (key s) qs ++ rest ∷ []) (sym same) ∙ sym (after_more t u true rest qs e)
same_more false t u g o n rest qs e f h i =
    ap held_in f ∙ i ∙ sym (after_more t u false rest qs e ∙ append-nil (following (key u) qs))

pub grouped_more : (old mid new : Groups) (k : String Global) (g : Group) (rest : Location) (qs : List Location) → locations_in g.items ≡ held_in (get string_cmp old k) ++ rest ∷ []
    → UpdatesBy string_cmp (string_cmp k) old mid None → Updates string_cmp mid new k (Some g) → AreGrouped old qs → AreGrouped new (qs ++ (key (text_of k) ∷ rest) ∷ [])
grouped_more old mid new k g rest qs e u v a =
    let t = text_of k in
    let at_name : (s : String Global) → get string_cmp new s ≡ cond (is_eq (string_cmp k s)) (Some g) (cond (is_eq (string_cmp k s)) None (get string_cmp old s)) =
    λ s. v.0 s ∙ ap (cond (is_eq (string_cmp k s)) (Some g)) (u.0 s) in
    let group : locations_in g.items ≡ following (key t) qs ++ rest ∷ [] = e ∙ ap (λ ps. ps ++ rest ∷ []) (a.same k) in
    record {
      same = λ s. same_more (is_eq (string_cmp k s)) t (text_of s) g (get string_cmp old s) (get string_cmp new s) rest qs (same_names k s) (at_name s) group (a.same s);
    }

-- the group that is there, or a new one
pub held_or_none : (o : Option Group) (d : Group) → d.items ≡ [] → locations_in (unwrap_or o d).items ≡ held_in o
held_or_none None d e = ap locations_in e
held_or_none (Some g) d e = refl

-- a location in no member
pub grouped_elsewhere : (groups : Groups) (qs : List Location) (q : Location) → ((t : List ℕ) → following (key t) (q ∷ []) ≡ []) → AreGrouped groups qs → AreGrouped groups (qs ++ q ∷ [])
grouped_elsewhere groups qs q h a =
    record {
      same = λ s. a.same s ∙ sym (following-append (key (text_of s)) qs (q ∷ []) ∙ ap (λ ps. following (key (text_of s)) qs ++ ps) (h (text_of s)) ∙ append-nil (following (key (text_of s)) qs));
    }

-- what remains of members depends on the locations in each
members_same : (es : List (String Global × Val)) (ps qs : List Location) → ((s : String Global) → following (key (text_of s)) ps ≡ following (key (text_of s)) qs) → members_left ps (members_view es) ≡ members_left qs (members_view es)
members_same [] ps qs h = refl
members_same (e ∷ es) ps qs h = rw (h e.0, members_same es ps qs h) refl

members_same_put : (es : List (String Global × Val)) (k : String Global) (v : Value) (ps qs : List Location) → ((s : String Global) → following (key (text_of s)) ps ≡ following (key (text_of s)) qs) → members_left ps (put (text_of k) v (members_view es)) ≡ members_left qs (put (text_of k) v (members_view es))
members_same_put [] k v ps qs h = rw (h k) refl
members_same_put (e ∷ es) k v ps qs h =
    elim (compared (text_cmp (text_of k) (text_of e.0))) [
      | is_less l ↦ rw (l, h k, h e.0, members_same es ps qs h) refl
      | is_equal l ↦ rw (l, h e.0, members_same es ps qs h) refl
      | is_greater l ↦ rw (l, h e.0, members_same_put es k v ps qs h) refl
    ]

-- the same of an object
pub members_same_in : (o : Object Val) (ps qs : List Location) → ((s : String Global) → following (key (text_of s)) ps ≡ following (key (text_of s)) qs) → members_left ps (members_in o) ≡ members_left qs (members_in o)
members_same_in o ps qs h = subst (λ ms. members_left ps ms ≡ members_left qs ms) (sym (members_held o)) (members_same (entries_in o) ps qs h)

members_same_put_in : (o : Object Val) (k : String Global) (v : Value) (ps qs : List Location) → ((s : String Global) → following (key (text_of s)) ps ≡ following (key (text_of s)) qs)
    → members_left ps (put (text_of k) v (members_in o)) ≡ members_left qs (put (text_of k) v (members_in o))
members_same_put_in o k v ps qs h = subst (λ ms. members_left ps (put (text_of k) v ms) ≡ members_left qs (put (text_of k) v ms)) (sym (members_held o)) (members_same_put (entries_in o) k v ps qs h)

following_after : (t u : List ℕ) (b : Bool) → is_eq (text_cmp u t) ≡ b → (ps : List Location) → following (key u) (after (key t) ps) ≡ (if b then ps else [])
following_after t u true e [] = refl
following_after t u false e [] = refl
following_after t u true e (p ∷ ps) = ap (λ c. if c then p ∷ following (key u) (after (key t) ps) else following (key u) (after (key t) ps)) e ∙ ap (λ rs. p ∷ rs) (following_after t u true e ps)
following_after t u false e (p ∷ ps) = ap (λ c. if c then p ∷ following (key u) (after (key t) ps) else following (key u) (after (key t) ps)) e ∙ following_after t u false e ps

-- the locations in one group, and those in the others
whole_at : (b : Bool) (t u : List ℕ) (g : Group) (o n : Option Group) (qs : List Location) → is_eq (text_cmp u t) ≡ b → n ≡ cond b None o → (b ≡ true → o ≡ Some g) → following (key u) qs ≡ held_in n
    → following (key u) (after (key t) (locations_in g.items) ++ qs) ≡ held_in o
whole_at true t u g o n qs e f h i =
    following-append (key u) (after (key t) (locations_in g.items)) qs ∙ ap (λ ps. ps ++ following (key u) qs) (following_after t u true e (locations_in g.items))
    ∙ ap (λ ps. locations_in g.items ++ ps) (i ∙ ap held_in f) ∙ append-nil (locations_in g.items) ∙ sym (ap held_in (h refl))
whole_at false t u g o n qs e f h i =
    following-append (key u) (after (key t) (locations_in g.items)) qs ∙ ap (λ ps. ps ++ following (key u) qs) (following_after t u false e (locations_in g.items)) ∙ i ∙ ap held_in f

others_at : (b : Bool) (t u : List ℕ) (o n : Option Group) (all qs : List Location) → is_eq (text_cmp u t) ≡ b → n ≡ cond b None o → following (key u) all ≡ held_in o → following (key u) qs ≡ held_in n
    → following (key u) qs ≡ following (key u) (apart (key t) all)
others_at true t u o n all qs e f h i =
    let same : u ≡ t = tied_text u t (equal_from (text_cmp u t) e) in
    i ∙ ap held_in f ∙ sym (ap (λ s. following (key s) (apart (key t) all)) same ∙ following-apart (key t) all)
others_at false t u o n all qs e f h i = i ∙ ap held_in f ∙ sym h ∙ sym (following-apart_other u t all e)

-- one group less, where the members depend on the locations in each alone
group_taken_from : (old new : Groups) (k : String Global) (g : Group) (ms ns : Members) (w : Value) → get string_cmp old k ≡ Some g → Updates string_cmp old new k None → GroupsLeave old ms w
    → ((ps qs : List Location) → ((s : String Global) → following (key (text_of s)) ps ≡ following (key (text_of s)) qs) → members_left ps ns ≡ members_left qs ns)
    → ((qs : List Location) → following (key (text_of k)) qs ≡ locations_in g.items → members_left (apart (key (text_of k)) qs) ns ≡ members_left qs ms) → GroupsLeave new ns w
group_taken_from old new k g ms ns w found u leave same law = λ qs h.
    let t = text_of k in
    let all = after (key t) (locations_in g.items) ++ qs in
    let whole : (s : String Global) → following (key (text_of s)) all ≡ held_in (get string_cmp old s) =
    λ s. whole_at (is_eq (string_cmp k s)) t (text_of s) g (get string_cmp old s) (get string_cmp new s) qs (same_names k s) (u.0 s) (λ e. found_same old k s (names_tied k s e) ∙ found) (h s) in
    let others : (s : String Global) → following (key (text_of s)) qs ≡ following (key (text_of s)) (apart (key t) all) =
    λ s. others_at (is_eq (string_cmp k s)) t (text_of s) (get string_cmp old s) (get string_cmp new s) all qs (same_names k s) (u.0 s) (whole s) (h s) in
    ap object (same qs (apart (key t) all) others ∙ law all (whole k ∙ ap held_in found)) ∙ leave all whole

pub group_taken : (old new : Groups) (k : String Global) (g : Group) (ms : Members) (w : Value) (o : Object Val) → get string_cmp old k ≡ Some g → Updates string_cmp old new k None → GroupsLeave old ms w
    → ((qs : List Location) → following (key (text_of k)) qs ≡ locations_in g.items → members_left (apart (key (text_of k)) qs) (members_in o) ≡ members_left qs ms) → GroupsLeave new (members_in o) w
group_taken old new k g ms w o found u leave law = group_taken_from old new k g ms (members_in o) w found u leave (members_same_in o) law

-- the same, where what is left of the member is put back
pub group_put : (old new : Groups) (k : String Global) (g : Group) (ms : Members) (w v : Value) (o : Object Val) → get string_cmp old k ≡ Some g → Updates string_cmp old new k None → GroupsLeave old ms w
    → ((qs : List Location) → following (key (text_of k)) qs ≡ locations_in g.items → members_left (apart (key (text_of k)) qs) (put (text_of k) v (members_in o)) ≡ members_left qs ms) → GroupsLeave new (put (text_of k) v (members_in o)) w
group_put old new k g ms w v o found u leave law = group_taken_from old new k g ms (put (text_of k) v (members_in o)) w found u leave (members_same_put_in o k v) law
