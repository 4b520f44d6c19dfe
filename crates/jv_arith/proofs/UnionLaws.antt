-- The value at a key of a union, and the order of its keys.
use Rattle.std.proofs.Common.{◌≡◌, ◌≢◌, ◌∙◌, ℕ, List, Ordering, Less, Equal, Greater, cond, Option, Some, option_map, refl, sym, ap}
use Rattle.std.proofs.lemmas.Cmp.{nat_list_cmp_total, tied_itself}
use Rattle.std.specs.Ordering.{is_eq}
use Rattle.jv_data.proofs.shared.Keyed.{found_put, others_put, put_ordered}
use Rattle.jv_data.proofs.shared.Order.{tied_text}
use Rattle.jv_data.specs.Members.{IsInOrder, member_at, member_or_null, put}
use Rattle.jv_data.specs.Value.{Value, Members, no_members, member, text_cmp}
use Rattle.jv_arith.specs.Objects.{union, deep_union, united}
use Rattle.jv_arith.specs.laws.Unions.{right_or_left}

-- the value at l, if x is at k and m gives the value elsewhere
abbrev with_at : Ordering → Value → Option Value → Option Value
with_at o x m = cond (is_eq o) (Some x) m

apart : (l k : List ℕ) (o : Ordering) → text_cmp l k ≡ o → o ≢ Equal → l ≢ k
apart l k o e other same = other (sym e ∙ ap (λ t. text_cmp t k) same ∙ tied_itself nat_list_cmp_total k)

put_by : (l k : List ℕ) (x : Value) (ms : Members) (o : Ordering) → text_cmp l k ≡ o → member_at l (put k x ms) ≡ with_at o x (member_at l ms)
put_by l k x ms Less e = others_put l k x ms (apart l k Less e (λ f. cc))
put_by l k x ms Equal e = ap (λ t. member_at t (put k x ms)) (tied_text l k e) ∙ found_put k x ms
put_by l k x ms Greater e = others_put l k x ms (apart l k Greater e (λ f. cc))

member_at-put : (l k : List ℕ) (x : Value) (ms : Members) → member_at l (put k x ms) ≡ with_at (text_cmp l k) x (member_at l ms)
member_at-put l k x ms = put_by l k x ms (text_cmp l k) refl

then_right : (o : Ordering) (v : Value) (r l : Option Value) → with_at o v (right_or_left r l) ≡ right_or_left (with_at o v r) l
then_right Less v r l = refl
then_right Equal v r l = refl
then_right Greater v r l = refl

pub member_at-union : (k : List ℕ) (ms ns : Members) → member_at k (union ms ns) ≡ right_or_left (member_at k ns) (member_at k ms)
member_at-union k ms no_members = refl
member_at-union k ms (member l v ns) =
    member_at-put k l v (union ms ns) ∙ ap (with_at (text_cmp k l) v) (member_at-union k ms ns) ∙ then_right (text_cmp k l) v (member_at k ns) (member_at k ms)

pub union_ordered : (ms ns : Members) → IsInOrder ms → IsInOrder (union ms ns)
union_ordered ms no_members h = h
union_ordered ms (member k v ns) h = put_ordered k v (union ms ns) (union_ordered ms ns h)

-- the value at l, united with the value at k if the two keys are the same
then_united : (k l : List ℕ) (ms : Members) (v : Value) (o : Ordering) (r : Option Value) → text_cmp k l ≡ o
    → with_at o (united (member_or_null l ms) v) (option_map (united (member_or_null k ms)) r) ≡ option_map (united (member_or_null k ms)) (with_at o v r)
then_united k l ms v Less r e = refl
then_united k l ms v Equal r e = rw (tied_text k l e) refl
then_united k l ms v Greater r e = refl

pub member_at-deep_union : (k : List ℕ) (ms ns : Members) → member_at k (deep_union ms ns) ≡ right_or_left (option_map (united (member_or_null k ms)) (member_at k ns)) (member_at k ms)
member_at-deep_union k ms no_members = refl
member_at-deep_union k ms (member l v ns) =
    let here = united (member_or_null l ms) v in
    let there = option_map (united (member_or_null k ms)) (member_at k ns) in
    member_at-put k l here (deep_union ms ns) ∙ ap (with_at (text_cmp k l) here) (member_at-deep_union k ms ns) ∙ then_right (text_cmp k l) here there (member_at k ms)
    ∙ ap (λ o. right_or_left o (member_at k ms)) (then_united k l ms v (text_cmp k l) (member_at k ns) refl)

pub deep_union_ordered : (ms ns : Members) → IsInOrder ms → IsInOrder (deep_union ms ns)
deep_union_ordered ms no_members h = h
deep_union_ordered ms (member k v ns) h = put_ordered k (united (member_or_null k ms) v) (deep_union ms ns) (deep_union_ordered ms ns h)
