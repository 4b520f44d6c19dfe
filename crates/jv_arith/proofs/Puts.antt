-- A member that is put among others.
use Rattle.std.proofs.Common.{◌≡◌, ◌∙◌, ◌≢◌, ℕ, List, Ordering, Less, Equal, Greater, refl, sym, ap}
use Rattle.std.proofs.lemmas.Cmp.{nat_list_cmp_total, alike_right}
use Rattle.std.specs.Ordering.{ordering_reverse}
use Rattle.jv_data.specs.Members.{put}
use Rattle.jv_data.specs.Value.{Value, Members, no_members, member, text_cmp}

-- the reverse order
back : (j k : List ℕ) (o : Ordering) → text_cmp j k ≡ o → text_cmp k j ≡ ordering_reverse o
back j k o e = nat_list_cmp_total.antisymm k j ∙ ap ordering_reverse e

at_less : (k l : List ℕ) (v w : Value) (ms : Members) → text_cmp k l ≡ Less → put k v (member l w ms) ≡ member k v (member l w ms)
at_less k l v w ms e = rw e refl

at_equal : (k l : List ℕ) (v w : Value) (ms : Members) → text_cmp k l ≡ Equal → put k v (member l w ms) ≡ member l v ms
at_equal k l v w ms e = rw e refl

at_greater : (k l : List ℕ) (v w : Value) (ms : Members) → text_cmp k l ≡ Greater → put k v (member l w ms) ≡ member l w (put k v ms)
at_greater k l v w ms e = rw e refl

-- two puts at different keys commute
abbrev Swaps : List ℕ → List ℕ → Value → Value → Members → Type 0
Swaps j k v w ms = put j v (put k w ms) ≡ put k w (put j v ms)

both_less : (o : Ordering) (j k l : List ℕ) (v w x : Value) (ms : Members) → text_cmp j k ≡ o → o ≢ Equal → text_cmp j l ≡ Less → text_cmp k l ≡ Less → Swaps j k v w (member l x ms)
both_less Less j k l v w x ms e d f g =
    ap (put j v) (at_less k l w x ms g) ∙ at_less j k v w (member l x ms) e
    ∙ sym (ap (put k w) (at_less j l v x ms f) ∙ at_greater k j w v (member l x ms) (back j k Less e) ∙ ap (member j v) (at_less k l w x ms g))
both_less Equal j k l v w x ms e d f g = absurd (d refl)
both_less Greater j k l v w x ms e d f g =
    ap (put j v) (at_less k l w x ms g) ∙ at_greater j k v w (member l x ms) e ∙ ap (member k w) (at_less j l v x ms f)
    ∙ sym (ap (put k w) (at_less j l v x ms f) ∙ at_less k j w v (member l x ms) (back j k Greater e))

less_equal : (j k l : List ℕ) (v w x : Value) (ms : Members) → text_cmp j l ≡ Less → text_cmp k l ≡ Equal → Swaps j k v w (member l x ms)
less_equal j k l v w x ms f g =
    let after : text_cmp k j ≡ Greater = nat_list_cmp_total.congr k l j g ∙ back j l Less f in
    ap (put j v) (at_equal k l w x ms g) ∙ at_less j l v w ms f
    ∙ sym (ap (put k w) (at_less j l v x ms f) ∙ at_greater k j w v (member l x ms) after ∙ ap (member j v) (at_equal k l w x ms g))

less_greater : (j k l : List ℕ) (v w x : Value) (ms : Members) → text_cmp j l ≡ Less → text_cmp k l ≡ Greater → Swaps j k v w (member l x ms)
less_greater j k l v w x ms f g =
    let after : text_cmp k j ≡ Greater = back j k Less (nat_list_cmp_total.trans j l k f (back k l Greater g)) in
    ap (put j v) (at_greater k l w x ms g) ∙ at_less j l v x (put k w ms) f
    ∙ sym (ap (put k w) (at_less j l v x ms f) ∙ at_greater k j w v (member l x ms) after ∙ ap (member j v) (at_greater k l w x ms g))

equal_greater : (j k l : List ℕ) (v w x : Value) (ms : Members) → text_cmp j l ≡ Equal → text_cmp k l ≡ Greater → Swaps j k v w (member l x ms)
equal_greater j k l v w x ms f g =
    ap (put j v) (at_greater k l w x ms g) ∙ at_equal j l v x (put k w ms) f
    ∙ sym (ap (put k w) (at_equal j l v x ms f) ∙ at_greater k l w v ms g)

both_greater : (j k l : List ℕ) (v w x : Value) (ms : Members) → text_cmp j l ≡ Greater → text_cmp k l ≡ Greater → Swaps j k v w ms → Swaps j k v w (member l x ms)
both_greater j k l v w x ms f g rest =
    ap (put j v) (at_greater k l w x ms g) ∙ at_greater j l v x (put k w ms) f ∙ ap (member l x) rest
    ∙ sym (ap (put k w) (at_greater j l v x ms f) ∙ at_greater k l w x (put j v ms) g)

swap_at : (o p : Ordering) (j k l : List ℕ) (v w x : Value) (ms : Members) → text_cmp j k ≢ Equal → text_cmp j l ≡ o → text_cmp k l ≡ p → Swaps j k v w ms → Swaps j k v w (member l x ms)
swap_at Less Less j k l v w x ms d f g rest = both_less (text_cmp j k) j k l v w x ms refl d f g
swap_at Less Equal j k l v w x ms d f g rest = less_equal j k l v w x ms f g
swap_at Less Greater j k l v w x ms d f g rest = less_greater j k l v w x ms f g
swap_at Equal Less j k l v w x ms d f g rest = sym (less_equal k j l w v x ms g f)
swap_at Equal Equal j k l v w x ms d f g rest = absurd (d (alike_right nat_list_cmp_total k l j g ∙ f))
swap_at Equal Greater j k l v w x ms d f g rest = equal_greater j k l v w x ms f g
swap_at Greater Less j k l v w x ms d f g rest = sym (less_greater k j l w v x ms g f)
swap_at Greater Equal j k l v w x ms d f g rest = sym (equal_greater k j l w v x ms g f)
swap_at Greater Greater j k l v w x ms d f g rest = both_greater j k l v w x ms f g rest

both_single : (o : Ordering) (j k : List ℕ) (v w : Value) → text_cmp j k ≡ o → o ≢ Equal → Swaps j k v w no_members
both_single Less j k v w e d = at_less j k v w no_members e ∙ sym (at_greater k j w v no_members (back j k Less e))
both_single Equal j k v w e d = absurd (d refl)
both_single Greater j k v w e d = at_greater j k v w no_members e ∙ sym (at_less k j w v no_members (back j k Greater e))

pub put_swap : (j k : List ℕ) (v w : Value) (ms : Members) → text_cmp j k ≢ Equal → put j v (put k w ms) ≡ put k w (put j v ms)
put_swap j k v w no_members d = both_single (text_cmp j k) j k v w refl d
put_swap j k v w (member l x ms) d = swap_at (text_cmp j l) (text_cmp k l) j k l v w x ms d refl refl (put_swap j k v w ms d)
