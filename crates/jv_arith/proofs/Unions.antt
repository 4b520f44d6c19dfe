-- Unions, member by member.
use Rattle.std.proofs.Common.{◌≡◌, ◌∙◌, ◌≢◌, ℕ, List, Less, Equal, Greater, unwrap_or, refl, sym, ap}
use Rattle.std.proofs.lemmas.Cmp.{nat_list_cmp_total, tied_itself}
use Rattle.std.specs.Ordering.{ordering_reverse}
use Rattle.jv_data.proofs.shared.Keyed.{others_put}
use Rattle.jv_data.specs.Members.{member_at, member_or_null, put, IsBefore, IsInOrder}
use Rattle.jv_data.specs.Value.{Value, null, Members, no_members, member, text_cmp}
use Rattle.jv_arith.proofs.Puts.{put_swap}
use Rattle.jv_arith.specs.Objects.{union, deep_union, united}
use Rattle.jv_arith.specs.private.Uniting.{unite_all}

-- ns put into ms from the first on
abbrev pub put_all : Members → Members → Members
put_all ms no_members = ms
put_all ms (member k v ns) = put_all (put k v ms) ns

apart : (j k : List ℕ) → text_cmp k j ≡ Less → text_cmp j k ≢ Equal
apart j k e f = let no : Greater ≡ Equal = sym (nat_list_cmp_total.antisymm j k ∙ ap ordering_reverse e) ∙ f in cc

put_all-put : (k : List ℕ) (v : Value) (ms ns : Members) → IsBefore k ns → put_all (put k v ms) ns ≡ put k v (put_all ms ns)
put_all-put k v ms no_members h = refl
put_all-put k v ms (member l w ns) h = ap (λ m. put_all m ns) (put_swap l k w v ms (apart l k h.0)) ∙ put_all-put k v (put l w ms) ns h.1

pub put_all-union : (ms ns : Members) → IsInOrder ns → put_all ms ns ≡ union ms ns
put_all-union ms no_members h = refl
put_all-union ms (member k v ns) h = put_all-put k v ms ns h.0 ∙ ap (put k v) (put_all-union ms ns h.1)

-- the members of ns, each united with the value of ms at its key
abbrev united_with : Members → Members → Members
united_with ms no_members = no_members
united_with ms (member k v ns) = member k (united (member_or_null k ms) v) (united_with ms ns)

-- at the keys of ns the two have the same
abbrev Agree : Members → Members → Members → Type 0
Agree ms ls no_members = Unit {0}
Agree ms ls (member k v ns) = (member_at k ls ≡ member_at k ms) × Agree ms ls ns

agree_itself : (ms ns : Members) → Agree ms ms ns
agree_itself ms no_members = tt
agree_itself ms (member k v ns) = (refl, agree_itself ms ns)

different : (l k : List ℕ) → text_cmp k l ≡ Less → l ≢ k
different l k e same = apart l k e (ap (λ t. text_cmp t k) same ∙ tied_itself nat_list_cmp_total k)

agree_put : (k : List ℕ) (x : Value) (ms ls ns : Members) → IsBefore k ns → Agree ms ls ns → Agree ms (put k x ls) ns
agree_put k x ms ls no_members h a = tt
agree_put k x ms ls (member l w ns) h a = (others_put l k x ls (different l k h.0) ∙ a.0, agree_put k x ms ls ns h.1 a.1)

unite_all-put_all : (ms ls ns : Members) → IsInOrder ns → Agree ms ls ns → unite_all ls ns ≡ put_all ls (united_with ms ns)
unite_all-put_all ms ls no_members h a = refl
unite_all-put_all ms ls (member k v ns) h a =
    ap (λ o. unite_all (put k (united (unwrap_or o null) v) ls) ns) a.0
    ∙ unite_all-put_all ms (put k (united (member_or_null k ms) v) ls) ns h.1 (agree_put k (united (member_or_null k ms) v) ms ls ns h.0 a.1)

before_united : (k : List ℕ) (ms ns : Members) → IsBefore k ns → IsBefore k (united_with ms ns)
before_united k ms no_members h = tt
before_united k ms (member l w ns) h = (h.0, before_united k ms ns h.1)

united_in_order : (ms ns : Members) → IsInOrder ns → IsInOrder (united_with ms ns)
united_in_order ms no_members h = tt
united_in_order ms (member k v ns) h = (before_united k ms ns h.0, united_in_order ms ns h.1)

deep_union-union : (ms ns : Members) → deep_union ms ns ≡ union ms (united_with ms ns)
deep_union-union ms no_members = refl
deep_union-union ms (member k v ns) = ap (put k (united (member_or_null k ms) v)) (deep_union-union ms ns)

pub unite_all-deep_union : (ms ns : Members) → IsInOrder ns → unite_all ms ns ≡ deep_union ms ns
unite_all-deep_union ms ns h =
    unite_all-put_all ms ms ns h (agree_itself ms ns) ∙ put_all-union ms (united_with ms ns) (united_in_order ms ns h) ∙ sym (deep_union-union ms ns)
