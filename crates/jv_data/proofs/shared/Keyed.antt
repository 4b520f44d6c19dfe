-- A member that is put among others or removed: the value at each key, and the order of the keys.
use Rattle.std.proofs.Common.{◌≡◌, ◌≢◌, ◌∙◌, ℕ, List, Ordering, Less, Equal, Greater, false, cond, Some, None, refl, sym, ap}
use Rattle.std.proofs.lemmas.Cmp.{nat_list_cmp_total, tied_itself}
use Rattle.std.specs.Ordering.{ordering_reverse, is_eq}
use Rattle.jv_data.proofs.shared.Order.{tied_text}
use Rattle.jv_data.specs.Members.{member_at, put, without, IsBefore, IsInOrder}
use Rattle.jv_data.specs.Value.{Value, Members, no_members, member, text_cmp}

apart_by : (j k : List ℕ) (o : Ordering) → text_cmp j k ≡ o → j ≢ k → is_eq (text_cmp j k) ≡ false
apart_by j k Less e h = rw e
apart_by j k Equal e h = absurd (h (tied_text j k e))
apart_by j k Greater e h = rw e

apart : (j k : List ℕ) → j ≢ k → is_eq (text_cmp j k) ≡ false
apart j k h = apart_by j k (text_cmp j k) refl h

apart_through : (j k l : List ℕ) → j ≢ k → text_cmp k l ≡ Equal → is_eq (text_cmp j l) ≡ false
apart_through j k l h e = apart j l (λ f. h (f ∙ sym (tied_text k l e)))

-- `put`, for each order of k and the first key
found_by : (k l : List ℕ) (v w : Value) (ms : Members) (o : Ordering) → text_cmp k l ≡ o → member_at k (put k v ms) ≡ Some v → member_at k (put k v (member l w ms)) ≡ Some v
found_by k l v w ms Less e rest = rw e (rw (tied_itself nat_list_cmp_total k) refl)
found_by k l v w ms Equal e rest = rw e (rw e refl)
found_by k l v w ms Greater e rest = rw e (rw e rest)

pub found_put : (k : List ℕ) (v : Value) (ms : Members) → member_at k (put k v ms) ≡ Some v
found_put k v no_members = rw (tied_itself nat_list_cmp_total k)
found_put k v (member l w ms) = found_by k l v w ms (text_cmp k l) refl (found_put k v ms)

kept_by : (j k l : List ℕ) (v w : Value) (ms : Members) (o : Ordering) → text_cmp k l ≡ o → j ≢ k → member_at j (put k v ms) ≡ member_at j ms
    → member_at j (put k v (member l w ms)) ≡ member_at j (member l w ms)
kept_by j k l v w ms Less e h rest = rw e (rw (apart j k h) refl)
kept_by j k l v w ms Equal e h rest = rw e (rw (apart_through j k l h e) refl)
kept_by j k l v w ms Greater e h rest = rw e (ap (cond (is_eq (text_cmp j l)) (Some w)) rest)

pub others_put : (j k : List ℕ) (v : Value) (ms : Members) → j ≢ k → member_at j (put k v ms) ≡ member_at j ms
others_put j k v no_members h = rw (apart j k h)
others_put j k v (member l w ms) h = kept_by j k l v w ms (text_cmp k l) refl h (others_put j k v ms h)

-- if k comes before l, and l before each key of ms, then k comes before each key of ms
pub before_through : (k l : List ℕ) (ms : Members) → text_cmp k l ≡ Less → IsBefore l ms → IsBefore k ms
before_through k l no_members e h = tt
before_through k l (member m w ms) e h = (nat_list_cmp_total.trans k l m e h.0, before_through k l ms e h.1)

back : (k l : List ℕ) → text_cmp k l ≡ Greater → text_cmp l k ≡ Less
back k l e = nat_list_cmp_total.antisymm l k ∙ ap ordering_reverse e

before_put_by : (j k l : List ℕ) (v w : Value) (ms : Members) (o : Ordering) → text_cmp k l ≡ o → text_cmp j k ≡ Less → IsBefore j (member l w ms) → IsBefore j (put k v ms) → IsBefore j (put k v (member l w ms))
before_put_by j k l v w ms Less e f h rest = rw e (f, h)
before_put_by j k l v w ms Equal e f h rest = rw e h
before_put_by j k l v w ms Greater e f h rest = rw e (h.0, rest)

before_put : (j k : List ℕ) (v : Value) (ms : Members) → text_cmp j k ≡ Less → IsBefore j ms → IsBefore j (put k v ms)
before_put j k v no_members f h = (f, tt)
before_put j k v (member l w ms) f h = before_put_by j k l v w ms (text_cmp k l) refl f h (before_put j k v ms f h.1)

put_ordered_by : (k l : List ℕ) (v w : Value) (ms : Members) (o : Ordering) → text_cmp k l ≡ o → IsInOrder (member l w ms) → IsInOrder (put k v ms) → IsInOrder (put k v (member l w ms))
put_ordered_by k l v w ms Less e h rest = rw e ((e, before_through k l ms e h.0), h)
put_ordered_by k l v w ms Equal e h rest = rw e h
put_ordered_by k l v w ms Greater e h rest = rw e (before_put l k v ms (back k l e) h.0, rest)

pub put_ordered : (k : List ℕ) (v : Value) (ms : Members) → IsInOrder ms → IsInOrder (put k v ms)
put_ordered k v no_members h = (tt, tt)
put_ordered k v (member l w ms) h = put_ordered_by k l v w ms (text_cmp k l) refl h (put_ordered k v ms h.1)

-- a key that comes before each key of ms has no value there
pub absent : (k : List ℕ) (ms : Members) → IsBefore k ms → member_at k ms ≡ None
absent k no_members h = refl
absent k (member l w ms) h = rw h.0 (absent k ms h.1)

-- `without`
absent_after : (k l : List ℕ) (ms : Members) → text_cmp k l ≡ Equal → IsBefore l ms → member_at k ms ≡ None
absent_after k l ms e h = rw (tied_text k l e) (absent l ms h)

gone_by : (k l : List ℕ) (w : Value) (ms : Members) (o : Ordering) → text_cmp k l ≡ o → IsBefore l ms → member_at k (without k ms) ≡ None → member_at k (without k (member l w ms)) ≡ None
gone_by k l w ms Less e h rest = rw e (rw e rest)
gone_by k l w ms Equal e h rest = rw e (absent_after k l ms e h)
gone_by k l w ms Greater e h rest = rw e (rw e rest)

pub gone_without : (k : List ℕ) (ms : Members) → IsInOrder ms → member_at k (without k ms) ≡ None
gone_without k no_members h = refl
gone_without k (member l w ms) h = gone_by k l w ms (text_cmp k l) refl h.0 (gone_without k ms h.1)

left_by : (j k l : List ℕ) (w : Value) (ms : Members) (o : Ordering) → text_cmp k l ≡ o → j ≢ k → member_at j (without k ms) ≡ member_at j ms
    → member_at j (without k (member l w ms)) ≡ member_at j (member l w ms)
left_by j k l w ms Less e h rest = rw e (ap (cond (is_eq (text_cmp j l)) (Some w)) rest)
left_by j k l w ms Equal e h rest = rw e (rw (apart_through j k l h e) refl)
left_by j k l w ms Greater e h rest = rw e (ap (cond (is_eq (text_cmp j l)) (Some w)) rest)

pub others_without : (j k : List ℕ) (ms : Members) → j ≢ k → member_at j (without k ms) ≡ member_at j ms
others_without j k no_members h = refl
others_without j k (member l w ms) h = left_by j k l w ms (text_cmp k l) refl h (others_without j k ms h)

before_without_by : (j k l : List ℕ) (w : Value) (ms : Members) (o : Ordering) → text_cmp k l ≡ o → IsBefore j (member l w ms) → IsBefore j (without k ms) → IsBefore j (without k (member l w ms))
before_without_by j k l w ms Less e h rest = rw e (h.0, rest)
before_without_by j k l w ms Equal e h rest = rw e h.1
before_without_by j k l w ms Greater e h rest = rw e (h.0, rest)

before_without : (j k : List ℕ) (ms : Members) → IsBefore j ms → IsBefore j (without k ms)
before_without j k no_members h = tt
before_without j k (member l w ms) h = before_without_by j k l w ms (text_cmp k l) refl h (before_without j k ms h.1)

without_ordered_by : (k l : List ℕ) (w : Value) (ms : Members) (o : Ordering) → text_cmp k l ≡ o → IsInOrder (member l w ms) → IsInOrder (without k ms) → IsInOrder (without k (member l w ms))
without_ordered_by k l w ms Less e h rest = rw e (before_without l k ms h.0, rest)
without_ordered_by k l w ms Equal e h rest = rw e h.1
without_ordered_by k l w ms Greater e h rest = rw e (before_without l k ms h.0, rest)

pub without_ordered : (k : List ℕ) (ms : Members) → IsInOrder ms → IsInOrder (without k ms)
without_ordered k no_members h = tt
without_ordered k (member l w ms) h = without_ordered_by k l w ms (text_cmp k l) refl h (without_ordered k ms h.1)
