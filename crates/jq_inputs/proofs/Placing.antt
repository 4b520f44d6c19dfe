-- The walk agrees with the definition on where `inputs` is evaluated at most once.
use Rattle.std.proofs.Common.{◌≡◌, ℕ, List, ◌∷◌, Bool, true, false, ◌&&◌, ◌||◌, not, bytes_eq, codes, length, sym, subst, refl, Decides, ◌⊎◌, inl, inr}
use Rattle.std.proofs.lemmas.Bool.Decides.{Decides-like, Decides-and, Decides-or}
use Rattle.std.proofs.lemmas.Slice.Eq.{bytes_eq-Decides}
use Rattle.jq_tree.specs.Tree.{Name, Operator, Tree, Trees, no_trees, more_trees, Entry, Entries, no_entries, more_entries, Pattern}
use Rattle.jq_tree.specs.Tree as tree
use Rattle.jq_tree.specs.Names.{Scope, to_function, is_bound}
use Rattle.jq_tree.specs.Inputs.{at_most_one, at_most_one_of, at_most_one_each, inputs, IsOuter, Single, SingleEntry, SingleEntries, Once, OnceEntries, itself, in_array, in_label, after_definition, tried, piped, preferred, bound, tested, iterated, in_field, in_part, comma_left, comma_right, operand_right, operand_left, in_object, reduced, folded, in_first, in_last, in_isempty, in_any, in_all, in_limit, in_this, in_another}
use Rattle.jq_inputs.specs.declared.hidden.Hidden.{Hidden}
use Rattle.jq_inputs.specs.private.Counts.{is_zero}
use Rattle.jq_inputs.specs.private.Hidden.{hiding, is_inputs, is_first, is_any, is_limit}
use Rattle.jq_inputs.specs.private.Walk.{count_in, single_in, single_entry, single_entries, once_in, once_call, once_entries}
use Rattle.jq_inputs.proofs.Capping.{caps-Decides}
use Rattle.jq_inputs.proofs.Counting.{counted, counted_entry, counted_entries}
use Rattle.jq_inputs.proofs.Tracking.{Tracks, hiding-Tracks}

itself-Decides : (b : Bool) → Decides b (b ≡ true)
itself-Decides b = (λ e. e, λ e. e)

pub never : {P : Type 0} → (P → ⊥) → Decides false P
never n = (λ e. absurd (cc), λ p. absurd (n p))

not-Decides : (b c : Bool) → b ≡ c → Decides (not b) (c ≡ false)
not-Decides true c e = (λ i. absurd (cc), λ i. absurd (cc))
not-Decides false c e = (λ i. sym e, λ i. refl)

pub known-Decides : (w n : Name) (k : ℕ) (own : Scope) (b : Bool) → b ≡ is_bound (to_function w k) own → Decides (bytes_eq w n && not b) ((n ≡ w) × IsOuter own w k)
known-Decides w n k own b e = Decides-and (bytes_eq w n) (not b) (Decides-like (bytes_eq w n) (λ i. sym i) (λ i. sym i) (bytes_eq-Decides w n)) (not-Decides b (is_bound (to_function w k) own) e)

pub single-Decides : {own : Scope} {h : Hidden} (t : Tree) → Tracks own h → Decides (single_in h t) (Single own t)
single-Decides {own} {h} t k = Decides-and (at_most_one t) (is_zero (count_in h t)) (itself-Decides (at_most_one t)) (caps-Decides (counted t k))

single_entry-Decides : {own : Scope} {h : Hidden} (e : Entry) → Tracks own h → Decides (single_entry h e) (SingleEntry own e)
single_entry-Decides {own} {h} e k = Decides-and (at_most_one_of e) _ (itself-Decides (at_most_one_of e)) (caps-Decides (counted_entry e k))

single_entries-Decides : {own : Scope} {h : Hidden} (es : Entries) → Tracks own h → Decides (single_entries h es) (SingleEntries own es)
single_entries-Decides {own} {h} es k = Decides-and (at_most_one_each es) _ (itself-Decides (at_most_one_each es)) (caps-Decides (counted_entries es k))

-- ---- what follows for a tree whose `inputs` is evaluated at most once

of_array : {own : Scope} {f : Tree} → Once own (tree.array f) → Once own f
of_array (in_array o) = o

of_label : {own : Scope} {n : Name} {f : Tree} → Once own (tree.label n f) → Once own f
of_label (in_label o) = o

of_definition : {own : Scope} {n : Name} {ps : List Name} {f g : Tree} → Once own (tree.define n ps f g) → Once (to_function n (length ps) ∷ own) g
of_definition (after_definition o) = o

of_try : {own : Scope} {f g : Tree} → Once own (tree.try_catch f g) → Once own f
of_try (tried o) = o

of_pipe : {own : Scope} {f g : Tree} → Once own (tree.pipe f g) → Once own f
of_pipe (piped o) = o

of_alternative : {own : Scope} {f g : Tree} → Once own (tree.alternative f g) → Once own f
of_alternative (preferred o) = o

of_binding : {own : Scope} {p : Pattern} {f g : Tree} → Once own (tree.bind_as f p g) → Once own f
of_binding (bound o) = o

of_choice : {own : Scope} {f g i : Tree} → Once own (tree.choice f g i) → Once own f
of_choice (tested o) = o

of_iteration : {own : Scope} {f : Tree} {mark : Bool} → Once own (tree.iterate f mark) → Once own f
of_iteration (iterated o) = o

of_field : {own : Scope} {n : Name} {f : Tree} {mark : Bool} → Once own (tree.field f n mark) → Once own f
of_field (in_field o) = o

of_part : {own : Scope} {f g : Tree} {mark : Bool} → Once own (tree.index f g mark) → Once own f × Single own g
of_part (in_part o s) = (o, s)

of_comma : {own : Scope} {f g : Tree} → Once own (tree.comma f g) → Once own f ⊎ Once own g
of_comma (comma_left o) = inl o
of_comma (comma_right o) = inr o

of_binary : {own : Scope} {op : Operator} {f g : Tree} → Once own (tree.binary op f g) → Once own g ⊎ (Once own f × Single own g)
of_binary (operand_right o) = inl o
of_binary (operand_left o s) = inr (o, s)

of_object : {own : Scope} {es : Entries} → Once own (tree.object es) → OnceEntries own es
of_object (in_object o) = o

of_reduce : {own : Scope} {p : Pattern} {f g i : Tree} → Once own (tree.reduce f p g i) → Once own f × Single own g
of_reduce (reduced o s) = (o, s)

of_foreach : {own : Scope} {p : Pattern} {f g i j : Tree} → Once own (tree.foreach f p g i j) → Once own f × Single own g
of_foreach (folded o s) = (o, s)

of_call : {own : Scope} {n : Name} → Once own (tree.call n no_trees) → (n ≡ inputs) × IsOuter own inputs 0
of_call (itself o) = (refl, o)

abbrev IsFirst : Scope → Name → Type 0
IsFirst own n = ((n ≡ codes "first") × IsOuter own (codes "first") 1) ⊎ (((n ≡ codes "last") × IsOuter own (codes "last") 1) ⊎ ((n ≡ codes "isempty") × IsOuter own (codes "isempty") 1))

of_first : {own : Scope} {n : Name} {f : Tree} → Once own (tree.call n (more_trees f no_trees)) → IsFirst own n × Once own f
of_first (in_first i o) = (inl (refl, i), o)
of_first (in_last i o) = (inr (inl (refl, i)), o)
of_first (in_isempty i o) = (inr (inr (refl, i)), o)

abbrev IsAny : Scope → Name → Type 0
IsAny own n = ((n ≡ codes "any") × IsOuter own (codes "any") 2) ⊎ ((n ≡ codes "all") × IsOuter own (codes "all") 2)

of_two : {own : Scope} {n : Name} {f g : Tree} → Once own (tree.call n (more_trees f (more_trees g no_trees)))
    → (IsAny own n × Once own f) ⊎ (((n ≡ codes "limit") × IsOuter own (codes "limit") 2) × (Single own f × Once own g))
of_two (in_any i o) = inl (inl (refl, i), o)
of_two (in_all i o) = inl (inr (refl, i), o)
of_two (in_limit i s o) = inr ((refl, i), (s, o))

of_plain : {own : Scope} {key : List ℕ} {f : Tree} {es : Entries} → OnceEntries own (more_entries (tree.named key f) es)
    → (Once own f × SingleEntries own es) ⊎ (SingleEntry own (tree.named key f) × OnceEntries own es)
of_plain (in_this o s) = inl (o, s)
of_plain (in_another s o) = inr (s, o)

of_computed : {own : Scope} {f g : Tree} {es : Entries} → OnceEntries own (more_entries (tree.computed f g) es) → SingleEntry own (tree.computed f g) × OnceEntries own es
of_computed (in_another s o) = (s, o)

of_own : {own : Scope} {f : Tree} {es : Entries} → OnceEntries own (more_entries (tree.own f) es) → SingleEntry own (tree.own f) × OnceEntries own es
of_own (in_another s o) = (s, o)

abbrev IsShort : Trees → Type 0
IsShort (more_trees f (more_trees g (more_trees i ts))) = ⊥
IsShort ts = Unit {0}

short : {own : Scope} {n : Name} {ts : Trees} → Once own (tree.call n ts) → IsShort ts
short (itself o) = tt
short (in_first i o) = tt
short (in_last i o) = tt
short (in_isempty i o) = tt
short (in_any i o) = tt
short (in_all i o) = tt
short (in_limit i s o) = tt

-- ---- when a tree is such a tree

this_or_other : {own : Scope} {key : List ℕ} {f : Tree} {es : Entries} → (Once own f × SingleEntries own es) ⊎ (SingleEntry own (tree.named key f) × OnceEntries own es)
    → OnceEntries own (more_entries (tree.named key f) es)
this_or_other (inl (o, s)) = in_this o s
this_or_other (inr (s, o)) = in_another s o

named_first : {own : Scope} {n : Name} {f : Tree} → IsFirst own n × Once own f → Once own (tree.call n (more_trees f no_trees))
named_first {own} {n} {f} (inl (e, i), o) = subst (λ m. Once own (tree.call m (more_trees f no_trees))) (sym e) (in_first i o)
named_first {own} {n} {f} (inr (inl (e, i)), o) = subst (λ m. Once own (tree.call m (more_trees f no_trees))) (sym e) (in_last i o)
named_first {own} {n} {f} (inr (inr (e, i)), o) = subst (λ m. Once own (tree.call m (more_trees f no_trees))) (sym e) (in_isempty i o)

named_two : {own : Scope} {n : Name} {f g : Tree} → (IsAny own n × Once own f) ⊎ (((n ≡ codes "limit") × IsOuter own (codes "limit") 2) × (Single own f × Once own g))
    → Once own (tree.call n (more_trees f (more_trees g no_trees)))
named_two {own} {n} {f} {g} (inl (inl (e, i), o)) = subst (λ m. Once own (tree.call m (more_trees f (more_trees g no_trees)))) (sym e) (in_any i o)
named_two {own} {n} {f} {g} (inl (inr (e, i), o)) = subst (λ m. Once own (tree.call m (more_trees f (more_trees g no_trees)))) (sym e) (in_all i o)
named_two {own} {n} {f} {g} (inr ((e, i), (s, o))) = subst (λ m. Once own (tree.call m (more_trees f (more_trees g no_trees)))) (sym e) (in_limit i s o)

named_itself : {own : Scope} {n : Name} → (n ≡ inputs) × IsOuter own inputs 0 → Once own (tree.call n no_trees)
named_itself {own} {n} (e, i) = subst (λ m. Once own (tree.call m no_trees)) (sym e) (itself i)

first-Decides : {own : Scope} {h : Hidden} (n : Name) → Tracks own h → Decides (is_first h n) (IsFirst own n)
first-Decides {own} {h} n k = Decides-or _ _ (known-Decides (codes "first") n 1 own h.first k.first)
    (Decides-or _ _ (known-Decides (codes "last") n 1 own h.last k.last) (known-Decides (codes "isempty") n 1 own h.isempty k.isempty))

any-Decides : {own : Scope} {h : Hidden} (n : Name) → Tracks own h → Decides (is_any h n) (IsAny own n)
any-Decides {own} {h} n k = Decides-or _ _ (known-Decides (codes "any") n 2 own h.any k.any) (known-Decides (codes "all") n 2 own h.all k.all)

-- ---- the tests decide

mutual
  pub placed : (t : Tree) {own : Scope} {h : Hidden} → Tracks own h → Decides (once_in h t) (Once own t)
  placed (tree.field f n mark) {own} {h} k = Decides-like (once_in h f) in_field of_field (placed f k)
  placed (tree.index f g mark) {own} {h} k = Decides-like (once_in h f && single_in h g) (λ p. in_part p.0 p.1) of_part (Decides-and _ _ (placed f k) (single-Decides g k))
  placed (tree.iterate f mark) {own} {h} k = Decides-like (once_in h f) iterated of_iteration (placed f k)
  placed (tree.pipe f g) {own} {h} k = Decides-like (once_in h f) piped of_pipe (placed f k)
  placed (tree.comma f g) {own} {h} k = Decides-like (once_in h f || once_in h g) (λ p. elim p [ inl o ↦ comma_left o | inr o ↦ comma_right o ]) of_comma (Decides-or _ _ (placed f k) (placed g k))
  placed (tree.binary op f g) {own} {h} k = Decides-like (once_in h g || (once_in h f && single_in h g)) (λ p. elim p [ inl o ↦ operand_right o | inr q ↦ operand_left q.0 q.1 ]) of_binary
      (Decides-or _ _ (placed g k) (Decides-and _ _ (placed f k) (single-Decides g k)))
  placed (tree.alternative f g) {own} {h} k = Decides-like (once_in h f) preferred of_alternative (placed f k)
  placed (tree.array f) {own} {h} k = Decides-like (once_in h f) in_array of_array (placed f k)
  placed (tree.object es) {own} {h} k = Decides-like (once_entries h es) in_object of_object (placed_entries es k)
  placed (tree.choice f g i) {own} {h} k = Decides-like (once_in h f) tested of_choice (placed f k)
  placed (tree.try_catch f g) {own} {h} k = Decides-like (once_in h f) tried of_try (placed f k)
  placed (tree.label n f) {own} {h} k = Decides-like (once_in h f) in_label of_label (placed f k)
  placed (tree.bind_as f p g) {own} {h} k = Decides-like (once_in h f) bound of_binding (placed f k)
  placed (tree.reduce f p g i) {own} {h} k = Decides-like (once_in h f && single_in h g) (λ p. reduced p.0 p.1) of_reduce (Decides-and _ _ (placed f k) (single-Decides g k))
  placed (tree.foreach f p g i j) {own} {h} k = Decides-like (once_in h f && single_in h g) (λ p. folded p.0 p.1) of_foreach (Decides-and _ _ (placed f k) (single-Decides g k))
  placed (tree.define n ps f g) {own} {h} k = Decides-like (once_in (hiding (to_function n (length ps)) h) g) after_definition of_definition (placed g (hiding-Tracks (to_function n (length ps)) k))
  placed (tree.call n ts) {own} {h} k = placed_call n ts k
  placed tree.identity {own} {h} k = never (λ o. elim o [ ])
  placed tree.empty {own} {h} k = never (λ o. elim o [ ])
  placed (tree.literal v) {own} {h} k = never (λ o. elim o [ ])
  placed (tree.text f ps) {own} {h} k = never (λ o. elim o [ ])
  placed (tree.format f) {own} {h} k = never (λ o. elim o [ ])
  placed (tree.variable n) {own} {h} k = never (λ o. elim o [ ])
  placed (tree.slice f g i mark) {own} {h} k = never (λ o. elim o [ ])
  placed (tree.conjunction f g) {own} {h} k = never (λ o. elim o [ ])
  placed (tree.disjunction f g) {own} {h} k = never (λ o. elim o [ ])
  placed (tree.negation f) {own} {h} k = never (λ o. elim o [ ])
  placed (tree.break n) {own} {h} k = never (λ o. elim o [ ])
  placed (tree.prelude_call n ts) {own} {h} k = never (λ o. elim o [ ])

  placed_call : (n : Name) (ts : Trees) {own : Scope} {h : Hidden} → Tracks own h → Decides (once_call h n ts) (Once own (tree.call n ts))
  placed_call n no_trees {own} {h} k = Decides-like (is_inputs h n) named_itself of_call (known-Decides (codes "inputs") n 0 own h.inputs k.inputs)
  placed_call n (more_trees f no_trees) {own} {h} k = Decides-like (is_first h n && once_in h f) named_first of_first (Decides-and _ _ (first-Decides n k) (placed f k))
  placed_call n (more_trees f (more_trees g no_trees)) {own} {h} k =
      Decides-like ((is_any h n && once_in h f) || (is_limit h n && (single_in h f && once_in h g))) named_two of_two
      (Decides-or _ _ (Decides-and _ _ (any-Decides n k) (placed f k))
      (Decides-and _ _ (known-Decides (codes "limit") n 2 own h.limit k.limit) (Decides-and _ _ (single-Decides f k) (placed g k))))
  placed_call n (more_trees f (more_trees g (more_trees i ts))) {own} {h} k = never (λ o. short o)

  placed_entries : (es : Entries) {own : Scope} {h : Hidden} → Tracks own h → Decides (once_entries h es) (OnceEntries own es)
  placed_entries no_entries {own} {h} k = never (λ o. elim o [ ])
  placed_entries (more_entries (tree.named key f) es) {own} {h} k =
      Decides-like ((once_in h f && single_entries h es) || (single_entry h (tree.named key f) && once_entries h es)) this_or_other of_plain
      (Decides-or _ _ (Decides-and _ _ (placed f k) (single_entries-Decides es k)) (Decides-and _ _ (single_entry-Decides (tree.named key f) k) (placed_entries es k)))
  placed_entries (more_entries (tree.computed f g) es) {own} {h} k =
      Decides-like (single_entry h (tree.computed f g) && once_entries h es) (λ p. in_another p.0 p.1) of_computed
      (Decides-and _ _ (single_entry-Decides (tree.computed f g) k) (placed_entries es k))
  placed_entries (more_entries (tree.own f) es) {own} {h} k =
      Decides-like (single_entry h (tree.own f) && once_entries h es) (λ p. in_another p.0 p.1) of_own
      (Decides-and _ _ (single_entry-Decides (tree.own f) k) (placed_entries es k))
