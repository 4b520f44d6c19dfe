-- Members whose keys ascend, and the member of one key among them.
use Rattle.std.proofs.Common.{◌≡◌, ◌∙◌, List, ℕ, Bool, true, false, if◌then◌else◌, ap, sym, refl, Less, Equal, Greater, Option, Some, None}
use Rattle.std.proofs.lemmas.Cmp.{nat_list_cmp_total}
use Rattle.std.specs.Option.{option_map_or}
use Rattle.std.specs.Ordering.{is_eq, ordering_reverse}
use Rattle.jv_data.proofs.shared.Keyed.{before_through, absent}
use Rattle.jv_data.proofs.shared.Order.{is_less, is_equal, is_greater, compared, tied_text}
use Rattle.jv_data.specs.Members.{IsBefore, IsInOrder, member_at, put, without}
use Rattle.jv_data.specs.Value.{Value, Members, no_members, member, text_cmp}
use Rattle.jv_value.specs.private.ItemGroups.{apart}
use Rattle.jv_value.specs.DeletePaths.{following, names_itself, without_locations, members_left}
use Rattle.jv_value.specs.Locations.{key, Location}
use Rattle.jv_value.proofs.Following.{following-apart, following-apart_other, without_nothing}

-- the members without the locations in one of them
abbrev pub member_left : List ℕ → List Location → Members → Members
member_left s qs ms = option_map_or (λ v. if names_itself qs then without s ms else put s (without_locations qs v) (without s ms)) (member_at s ms) (without s ms)

later : (s k : List ℕ) → text_cmp s k ≡ Less → is_eq (text_cmp k s) ≡ false
later s k e = ap is_eq (nat_list_cmp_total.antisymm k s ∙ ap ordering_reverse e)

earlier : (s k : List ℕ) → text_cmp s k ≡ Greater → is_eq (text_cmp k s) ≡ false
earlier s k e = ap is_eq (nat_list_cmp_total.antisymm k s ∙ ap ordering_reverse e)

-- no key is s: the locations in s make no difference
absent_left : (s : List ℕ) (qs : List Location) (ms : Members) → IsBefore s ms → members_left (apart (key s) qs) ms ≡ members_left qs ms
absent_left s qs no_members h = refl
absent_left s qs (member k v ms) h = rw (following-apart_other k s qs (later s k h.0), absent_left s qs ms h.1)

absent_without : (s : List ℕ) (ms : Members) → IsBefore s ms → without s ms ≡ ms
absent_without s no_members h = refl
absent_without s (member k v ms) h = rw h.0 (ap (member k v) (absent_without s ms h.1))

put_first : (s : List ℕ) (x : Value) (ms : Members) → IsBefore s ms → put s x ms ≡ member s x ms
put_first s x no_members h = refl
put_first s x (member k v ms) h = rw h.0 refl

found_or : (s k : List ℕ) (g : List Location) (v : Value) (ms : Members) (o : Option Value) (b : Bool) → text_cmp s k ≡ Greater
    → option_map_or (λ w. if b then member k v (without s ms) else put s (without_locations g w) (member k v (without s ms))) o (member k v (without s ms))
    ≡ member k v (option_map_or (λ w. if b then without s ms else put s (without_locations g w) (without s ms)) o (without s ms))
found_or s k g v ms None b e = refl
found_or s k g v ms (Some w) true e = refl
found_or s k g v ms (Some w) false e = rw e refl

-- a key below s stays first
member_left_later : (s k : List ℕ) (g : List Location) (v : Value) (ms : Members) → text_cmp s k ≡ Greater → member_left s g (member k v ms) ≡ member k v (member_left s g ms)
member_left_later s k g v ms e = rw e (found_or s k g v ms (member_at s ms) (names_itself g) e)

member_left_absent : (s : List ℕ) (g : List Location) (ms : Members) → IsBefore s ms → member_left s g ms ≡ ms
member_left_absent s g ms h = rw (absent s ms h, absent_without s ms h) refl

left_first : (s : List ℕ) (qs g : List Location) (v : Value) (ms : Members) (b : Bool) → names_itself g ≡ b → following (key s) qs ≡ g → IsBefore s ms
    → members_left (apart (key s) qs) (if b then ms else put s (without_locations g v) ms) ≡ (if b then members_left qs ms else member s (without_locations g v) (members_left qs ms))
left_first s qs g v ms true e f h = absent_left s qs ms h
left_first s qs g v ms false e f h =
    ap (members_left (apart (key s) qs)) (put_first s (without_locations g v) ms h)
    ∙ rw (following-apart (key s) qs, without_nothing (without_locations g v), absent_left s qs ms h) refl

present : (s k : List ℕ) (qs g : List Location) (v : Value) (ms : Members) → text_cmp s k ≡ Equal → following (key s) qs ≡ g → IsBefore k ms → members_left (apart (key s) qs) (member_left s g (member k v ms)) ≡ members_left qs (member k v ms)
present s k qs g v ms e f h =
    let same : s ≡ k = tied_text s k e in
    let first : member_left s g (member k v ms) ≡ (if names_itself g then ms else put s (without_locations g v) ms) = rw e refl in
    let above : IsBefore s ms = rw same h in
    ap (members_left (apart (key s) qs)) first ∙ left_first s qs g v ms (names_itself g) refl f above
    ∙ ap (λ p. if names_itself p then members_left qs ms else member s (without_locations p v) (members_left qs ms)) (sym f)
    ∙ ap (λ t. if names_itself (following (key t) qs) then members_left qs ms else member t (without_locations (following (key t) qs) v) (members_left qs ms)) same

-- the locations in the member s, and then those in the others
pub member_then_others : (s : List ℕ) (qs g : List Location) (ms : Members) → IsInOrder ms → following (key s) qs ≡ g → members_left (apart (key s) qs) (member_left s g ms) ≡ members_left qs ms
member_then_others s qs g no_members h f = refl
member_then_others s qs g (member k v ms) h f =
    elim (compared (text_cmp s k)) [
      | is_less e ↦ ap (members_left (apart (key s) qs)) (member_left_absent s g (member k v ms) (e, before_through s k ms e h.0)) ∙ absent_left s qs (member k v ms) (e, before_through s k ms e h.0)
      | is_equal e ↦ present s k qs g v ms e f h.0
      | is_greater e ↦ ap (members_left (apart (key s) qs)) (member_left_later s k g v ms e)
          ∙ ap (λ p. if names_itself p then members_left (apart (key s) qs) (member_left s g ms) else member k (without_locations p v) (members_left (apart (key s) qs) (member_left s g ms))) (following-apart_other k s qs (earlier s k e))
          ∙ ap (λ ns. if names_itself (following (key k) qs) then ns else member k (without_locations (following (key k) qs) v) ns) (member_then_others s qs g ms h.1 f)
    ]

left_by : (s : List ℕ) (qs g : List Location) (ms ns : Members) → IsInOrder ms → following (key s) qs ≡ g → ns ≡ member_left s g ms → members_left (apart (key s) qs) ns ≡ members_left qs ms
left_by s qs g ms ns h f e = ap (members_left (apart (key s) qs)) e ∙ member_then_others s qs g ms h f

-- there is no member of that name
pub left_absent : (s : List ℕ) (qs g : List Location) (ms ns : Members) → IsInOrder ms → following (key s) qs ≡ g → member_at s ms ≡ None → ns ≡ without s ms → members_left (apart (key s) qs) ns ≡ members_left qs ms
left_absent s qs g ms ns h f e n = left_by s qs g ms ns h f (n ∙ sym (ap (λ o. option_map_or (λ v. if names_itself g then without s ms else put s (without_locations g v) (without s ms)) o (without s ms)) e))

-- the member was taken out, and what remains of it was put back
pub left_present : (s : List ℕ) (qs g : List Location) (ms ns rest : Members) (v : Value) → IsInOrder ms → following (key s) qs ≡ g → member_at s ms ≡ Some v → rest ≡ without s ms → ns ≡ (if names_itself g then rest else put s (without_locations g v) rest) → members_left (apart (key s) qs) ns ≡ members_left qs ms
left_present s qs g ms ns rest v h f e r n =
    left_by s qs g ms ns h f (n ∙ ap (λ os. if names_itself g then os else put s (without_locations g v) os) r ∙ sym (ap (λ o. option_map_or (λ w. if names_itself g then without s ms else put s (without_locations g w) (without s ms)) o (without s ms)) e))
