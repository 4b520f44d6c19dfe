-- The walk finds a call of a function that halts exactly if the definition says that there is one.
use Rattle.std.proofs.Common.{◌≡◌, ◌∙◌, ◌↔◌, List, [], ◌∷◌, ◌++◌, Bool, true, false, ◌&&◌, ◌||◌, not, length, codes, refl, sym, ap, subst, inl, inr, Decides}
use Rattle.std.proofs.lemmas.Bool.{cases_Bool, or_parts, or_cases}
use Rattle.std.proofs.lemmas.Bool.Decides.{same_from_decides}
use Rattle.jq_tree.specs.Tree.{Name, Tree, Trees, no_trees, more_trees, trees_count, Pieces, last_piece, more_pieces, Entry, Entries, no_entries, more_entries, Pattern, whole, Patterns, no_patterns, more_patterns, Part, Parts, no_parts, more_parts}
use Rattle.jq_tree.specs.Tree as tree
use Rattle.jq_tree.specs.Names.{Reference, to_function, to_variable, to_label, to_format, same_reference, Scope, is_bound, with_parameters, with_pattern, with_part}
use Rattle.jq_tree.specs.BoundTree.{Binder}
use Rattle.jq_tree.specs.BoundTree as bound
use Rattle.jq_tree.specs.Binders.{binder, prelude_binder, bound_in, trees_in, pieces_in, entry_in, entries_in, pattern_in, patterns_in, part_in, parts_in}
use Rattle.jq_tree.proofs.shared.References.{same_is, same_self}
use Rattle.jq_inputs.specs.declared.hidden.Hidden.{Hidden}
use Rattle.jq_inputs.specs.Halting.{halting, CallsNoHalt}
use Rattle.jq_inputs.specs.private.Hidden.{nothing_hidden, hiding, hiding_parameters, is_halt}
use Rattle.jq_inputs.specs.private.Halts.{halts_in, halts_in_trees, halts_in_pieces, halts_in_entry, halts_in_entries, halts_in_pattern, halts_in_patterns, halts_in_part, halts_in_parts}
use Rattle.jq_inputs.proofs.shared.Outside.{Tells, parameters_inside, pattern_inside, part_inside, pattern_binds, part_binds, other_binder, binder_told, prelude_binder_told}
use Rattle.jq_inputs.proofs.shared.Injective as part

-- ---- tests of parts

same_told : {A : Type 0} (x : A) → Tells false x x
same_told x = (λ e. refl, λ e p. cc e)

one_told : {A B : Type 0} (F : A → B) {a : Bool} {x y : A} → (F x ≡ F y → x ≡ y) → Tells a x y → Tells a (F x) (F y)
one_told F i s = (λ e. ap F (s.0 e), λ e p. s.1 e (i p))

two_told : {A B C : Type 0} (F : A → B → C) {a b : Bool} {x y : A} {u v : B} → (F x u ≡ F y v → (x ≡ y) × (u ≡ v)) → Tells a x y → Tells b u v → Tells (a || b) (F x u) (F y v)
two_told F {a} {b} i s t = (
  λ e. let h = or_parts a b e in let p = s.0 h.0 in let q = t.0 h.1 in cc (p, q),
  λ e p. elim (or_cases a b e) [ inl d ↦ s.1 d (i p).0 | inr d ↦ t.1 d (i p).1 ],
)

three_told : {A B C D : Type 0} (F : A → B → C → D) {a b c : Bool} {x y : A} {u v : B} {w z : C} → (F x u w ≡ F y v z → (x ≡ y) × (u ≡ v) × (w ≡ z))
    → Tells a x y → Tells b u v → Tells c w z → Tells ((a || b) || c) (F x u w) (F y v z)
three_told F {a} {b} {c} i s t r = (
  λ e. let h = or_parts (a || b) c e in let g = or_parts a b h.0 in let p = s.0 g.0 in let q = t.0 g.1 in let o = r.0 h.1 in cc (p, q, o),
  λ e p. elim (or_cases (a || b) c e) [
    | inl d ↦ elim (or_cases a b d) [ inl f ↦ s.1 f (i p).0 | inr f ↦ t.1 f (i p).1 ]
    | inr d ↦ r.1 d (i p).2
  ],
)

four_told : {A B C D E : Type 0} (F : A → B → C → D → E) {a b c d : Bool} {x y : A} {u v : B} {w z : C} {m n : D}
    → (F x u w m ≡ F y v z n → (x ≡ y) × (u ≡ v) × (w ≡ z) × (m ≡ n))
    → Tells a x y → Tells b u v → Tells c w z → Tells d m n → Tells (((a || b) || c) || d) (F x u w m) (F y v z n)
four_told F {a} {b} {c} {d} i s t r k = (
  λ e. let h = or_parts ((a || b) || c) d e in let g = or_parts (a || b) c h.0 in let f = or_parts a b g.0 in
      let p = s.0 f.0 in let q = t.0 f.1 in let o = r.0 g.1 in let l = k.0 h.1 in cc (p, q, o, l),
  λ e p. elim (or_cases ((a || b) || c) d e) [
    | inl f ↦ elim (or_cases (a || b) c f) [
      | inl g ↦ elim (or_cases a b g) [ inl h ↦ s.1 h (i p).0 | inr h ↦ t.1 h (i p).1 ]
      | inr g ↦ r.1 g (i p).2
    ]
    | inr f ↦ k.1 f (i p).3
  ],
)

five_told : {A B C D E H : Type 0} (F : A → B → C → D → E → H) {a b c d f : Bool} {x y : A} {u v : B} {w z : C} {m n : D} {j l : E}
    → (F x u w m j ≡ F y v z n l → (x ≡ y) × (u ≡ v) × (w ≡ z) × (m ≡ n) × (j ≡ l))
    → Tells a x y → Tells b u v → Tells c w z → Tells d m n → Tells f j l → Tells ((((a || b) || c) || d) || f) (F x u w m j) (F y v z n l)
five_told F {a} {b} {c} {d} {f} i s t r k o = (
  λ e. let h = or_parts (((a || b) || c) || d) f e in let h1 = or_parts ((a || b) || c) d h.0 in let h2 = or_parts (a || b) c h1.0 in let h3 = or_parts a b h2.0 in
      let p0 = s.0 h3.0 in let p1 = t.0 h3.1 in let p2 = r.0 h2.1 in let p3 = k.0 h1.1 in let p4 = o.0 h.1 in cc (p0, p1, p2, p3, p4),
  λ e p. elim (or_cases (((a || b) || c) || d) f e) [
    | inl g ↦ elim (or_cases ((a || b) || c) d g) [
      | inl g1 ↦ elim (or_cases (a || b) c g1) [
        | inl g2 ↦ elim (or_cases a b g2) [ inl h ↦ s.1 h (i p).0 | inr h ↦ t.1 h (i p).1 ]
        | inr g2 ↦ r.1 g2 (i p).2
      ]
      | inr g1 ↦ k.1 g1 (i p).3
    ]
    | inr g ↦ o.1 g (i p).4
  ],
)

-- ---- the names that the filter binds itself

pub record Follows (s : Scope) (h : Hidden) : Type 0 where
  pub halt : h.halt ≡ is_bound (to_function (codes "halt") 0) s
  pub halt_error : h.halt_error ≡ is_bound (to_function (codes "halt_error") 0) s
  pub halt_error_with : h.halt_error_with ≡ is_bound (to_function (codes "halt_error") 1) s

pub nothing_follows : Follows [] nothing_hidden
nothing_follows = record { halt = refl; halt_error = refl; halt_error_with = refl }

one_more : (known r : Reference) {a b : Bool} → a ≡ b → (same_reference known r || a) ≡ (same_reference known r || b)
one_more known r e = ap (λ (c : Bool). same_reference known r || c) e

pub hiding_follows : {s : Scope} {h : Hidden} (r : Reference) → Follows s h → Follows (r ∷ s) (hiding r h)
hiding_follows r k = record {
  halt = one_more (to_function (codes "halt") 0) r k.halt;
  halt_error = one_more (to_function (codes "halt_error") 0) r k.halt_error;
  halt_error_with = one_more (to_function (codes "halt_error") 1) r k.halt_error_with;
}

pub parameters_follow : (ps : List Name) {s : Scope} {h : Hidden} → Follows s h → Follows (with_parameters ps s) (hiding_parameters ps h)
parameters_follow [] k = k
parameters_follow (p ∷ ps) k = parameters_follow ps (hiding_follows (to_function p 0) k)

label_follows : (n : Name) {s : Scope} {h : Hidden} → Follows s h → Follows (to_label n ∷ s) h
label_follows n k = record { halt = k.halt; halt_error = k.halt_error; halt_error_with = k.halt_error_with }

variable_follows : (n : Name) {s : Scope} {h : Hidden} → Follows s h → Follows (to_variable n ∷ s) h
variable_follows n k = record { halt = k.halt; halt_error = k.halt_error; halt_error_with = k.halt_error_with }

pattern_follows : (p : Pattern) {s : Scope} {h : Hidden} → Follows s h → Follows (with_pattern p s) h
pattern_follows p {s} k = record {
  halt = k.halt ∙ sym (pattern_binds (codes "halt") 0 p s);
  halt_error = k.halt_error ∙ sym (pattern_binds (codes "halt_error") 0 p s);
  halt_error_with = k.halt_error_with ∙ sym (pattern_binds (codes "halt_error") 1 p s);
}

part_follows : (p : Part) {s : Scope} {h : Hidden} → Follows s h → Follows (with_part p s) h
part_follows p {s} k = record {
  halt = k.halt ∙ sym (part_binds (codes "halt") 0 p s);
  halt_error = k.halt_error ∙ sym (part_binds (codes "halt_error") 0 p s);
  halt_error_with = k.halt_error_with ∙ sym (part_binds (codes "halt_error") 1 p s);
}

-- ---- calls

same_Decides : (r b : Reference) → Decides (same_reference r b) (r ≡ b)
same_Decides r b = (λ e. same_is r b e, λ e. subst (λ (x : Reference). same_reference r x ≡ true) e (same_self r))

turned_Decides : (r b : Reference) → Decides (same_reference b r) (r ≡ b)
turned_Decides r b = (λ e. sym (same_is b r e), λ e. subst (λ (x : Reference). same_reference x r ≡ true) e (same_self r))

same_turned : (r b : Reference) → same_reference r b ≡ same_reference b r
same_turned r b = same_from_decides _ _ (same_Decides r b) (turned_Decides r b)

known_at : (known r : Reference) (s : Scope) (t b : Bool) → same_reference known r ≡ t → b ≡ is_bound known s → (t && not b) ≡ (t && not (is_bound r s))
known_at known r s true b e k = let same : known ≡ r = same_is known r e in ap not (k ∙ ap (λ (x : Reference). is_bound x s) same)
known_at known r s false b e k = refl

known_bound : (known r : Reference) (s : Scope) (b : Bool) → b ≡ is_bound known s → (same_reference known r && not b) ≡ (same_reference r known && not (is_bound r s))
known_bound known r s b k =
    known_at known r s (same_reference known r) b refl k ∙ ap (λ (t : Bool). t && not (is_bound r s)) (same_turned known r)

spread : (x y z c : Bool) → ((x && c) || ((y && c) || (z && c))) ≡ ((x || (y || (z || false))) && c)
spread true true true true = refl
spread true true false true = refl
spread true false true true = refl
spread true false false true = refl
spread false true true true = refl
spread false true false true = refl
spread false false true true = refl
spread false false false true = refl
spread true true true false = refl
spread true true false false = refl
spread true false true false = refl
spread true false false false = refl
spread false true true false = refl
spread false true false false = refl
spread false false true false = refl
spread false false false false = refl

halt_is : (r : Reference) {s : Scope} {h : Hidden} → Follows s h → is_halt h r ≡ (is_bound r halting && not (is_bound r s))
halt_is r {s} {h} k =
    let a : (same_reference (to_function (codes "halt") 0) r && not h.halt) ≡ (same_reference r (to_function (codes "halt") 0) && not (is_bound r s)) =
    known_bound (to_function (codes "halt") 0) r s h.halt k.halt in
    let b : (same_reference (to_function (codes "halt_error") 0) r && not h.halt_error) ≡ (same_reference r (to_function (codes "halt_error") 0) && not (is_bound r s)) =
    known_bound (to_function (codes "halt_error") 0) r s h.halt_error k.halt_error in
    let c : (same_reference (to_function (codes "halt_error") 1) r && not h.halt_error_with) ≡ (same_reference r (to_function (codes "halt_error") 1) && not (is_bound r s)) =
    known_bound (to_function (codes "halt_error") 1) r s h.halt_error_with k.halt_error_with in
    cc (a, b, c) ∙ spread (same_reference r (to_function (codes "halt") 0)) (same_reference r (to_function (codes "halt_error") 0)) (same_reference r (to_function (codes "halt_error") 1)) (not (is_bound r s))

and_yes : (b : Bool) → (b && true) ≡ b
and_yes true = refl
and_yes false = refl

call_told : (r : Reference) {s : Scope} {h : Hidden} → Follows s h → Tells (is_halt h r) (binder (s ++ halting) r) (binder s r)
call_told r {s} k = subst (λ (b : Bool). Tells b (binder (s ++ halting) r) (binder s r)) (sym (halt_is r k)) (binder_told r s halting)

prelude_call_told : (r : Reference) (s : Scope) → Tells (is_halt nothing_hidden r) (prelude_binder (s ++ halting) r) (prelude_binder s r)
prelude_call_told r s =
    subst (λ (b : Bool). Tells b (prelude_binder (s ++ halting) r) (prelude_binder s r)) (sym (halt_is r nothing_follows ∙ and_yes (is_bound r halting)))
    (prelude_binder_told r s halting)

-- a name of another kind
named_told : {A : Type 0} (F : Binder → A) (r : Reference) (s : Scope) → is_bound r halting ≡ false → Tells false (F (binder (s ++ halting) r)) (F (binder s r))
named_told F r s e = (λ i. ap F (other_binder r s halting e), λ i p. cc i)

-- ---- trees

-- a tree that sees the variables of a pattern
inside_told : (p : Pattern) (t : Tree) (s : Scope) (b : Bool) → Tells b (bound_in (with_pattern p s ++ halting) t) (bound_in (with_pattern p s) t)
    → Tells b (bound_in (with_pattern p (s ++ halting)) t) (bound_in (with_pattern p s) t)
inside_told p t s b h = subst (λ (o : Scope). Tells b (bound_in o t) (bound_in (with_pattern p s) t)) (sym (pattern_inside p s halting)) h

mutual
  pub told : (t : Tree) {s : Scope} {h : Hidden} → Follows s h → Tells (halts_in h t) (bound_in (s ++ halting) t) (bound_in s t)
  told tree.identity k = same_told _
  told tree.empty k = same_told _
  told (tree.literal v) k = same_told _
  told (tree.text f ps) {s} {h} k =
      subst (λ b. Tells (halts_in_pieces h ps) (bound.text f b (pieces_in (s ++ halting) ps)) (bound.text f (binder s (to_format f)) (pieces_in s ps))) (sym (other_binder (to_format f) s halting refl))
      (one_told (bound.text f (binder s (to_format f))) part.in_text (told_pieces ps k))
  told (tree.format f) {s} k = named_told (bound.format f) (to_format f) s refl
  told (tree.variable n) {s} k = named_told (bound.variable n) (to_variable n) s refl
  told (tree.break n) {s} k = named_told (bound.break n) (to_label n) s refl
  told (tree.field f n mark) k = one_told (λ x. bound.field x n mark) part.in_field (told f k)
  told (tree.index f g mark) k = two_told (λ x y. bound.index x y mark) part.in_index (told f k) (told g k)
  told (tree.slice f g i mark) k = three_told (λ x y z. bound.slice x y z mark) part.in_slice (told f k) (told g k) (told i k)
  told (tree.iterate f mark) k = one_told (λ x. bound.iterate x mark) part.in_iterate (told f k)
  told (tree.pipe f g) k = two_told bound.pipe part.in_pipe (told f k) (told g k)
  told (tree.comma f g) k = two_told bound.comma part.in_comma (told f k) (told g k)
  told (tree.binary op f g) k = two_told (bound.binary op) part.in_binary (told f k) (told g k)
  told (tree.conjunction f g) k = two_told bound.conjunction part.in_conjunction (told f k) (told g k)
  told (tree.disjunction f g) k = two_told bound.disjunction part.in_disjunction (told f k) (told g k)
  told (tree.alternative f g) k = two_told bound.alternative part.in_alternative (told f k) (told g k)
  told (tree.negation f) k = one_told bound.negation part.in_negation (told f k)
  told (tree.array f) k = one_told bound.array part.in_array (told f k)
  told (tree.object es) k = one_told bound.object part.in_object (told_entries es k)
  told (tree.choice f g i) k = three_told bound.choice part.in_choice (told f k) (told g k) (told i k)
  told (tree.try_catch f g) k = two_told bound.try_catch part.in_try (told f k) (told g k)
  told (tree.label n f) k = one_told (bound.label n) part.in_label (told f (label_follows n k))
  told (tree.bind_as f p g) {s} {h} k =
      three_told bound.bind_as part.in_bind_as (told f k) (told_pattern p k) (inside_told p g _ _ (told g (pattern_follows p k)))
  told (tree.reduce f p g i) k =
      four_told bound.reduce part.in_reduce (told f k) (told_pattern p k) (told g k) (inside_told p i _ _ (told i (pattern_follows p k)))
  told (tree.foreach f p g i j) k =
      five_told bound.foreach part.in_foreach (told f k) (told_pattern p k) (told g k) (inside_told p i _ _ (told i (pattern_follows p k))) (inside_told p j _ _ (told j (pattern_follows p k)))
  told (tree.define n ps f g) {s} {h} k =
      let r : Reference = to_function n (length ps) in
      let body : Tells (halts_in (hiding_parameters ps (hiding r h)) f) (bound_in (with_parameters ps (r ∷ (s ++ halting))) f) (bound_in (with_parameters ps (r ∷ s)) f) =
      subst (λ (o : Scope). Tells (halts_in (hiding_parameters ps (hiding r h)) f) (bound_in o f) (bound_in (with_parameters ps (r ∷ s)) f)) (sym (parameters_inside ps (r ∷ s) halting))
      (told f (parameters_follow ps (hiding_follows r k))) in
      two_told (bound.define n ps) part.in_define body (told g (hiding_follows r k))
  told (tree.call n ts) k = two_told (bound.call n) part.in_call (call_told (to_function n (trees_count ts)) k) (told_trees ts k)
  told (tree.prelude_call n ts) {s} k = two_told (bound.prelude_call n) part.in_prelude_call (prelude_call_told (to_function n (trees_count ts)) s) (told_trees ts k)

  told_trees : (ts : Trees) {s : Scope} {h : Hidden} → Follows s h → Tells (halts_in_trees h ts) (trees_in (s ++ halting) ts) (trees_in s ts)
  told_trees no_trees k = same_told _
  told_trees (more_trees t ts) k = two_told bound.more_trees part.in_trees (told t k) (told_trees ts k)

  told_pieces : (ps : Pieces) {s : Scope} {h : Hidden} → Follows s h → Tells (halts_in_pieces h ps) (pieces_in (s ++ halting) ps) (pieces_in s ps)
  told_pieces (last_piece cs) k = same_told _
  told_pieces (more_pieces cs t ps) k = two_told (bound.more_pieces cs) part.in_pieces (told t k) (told_pieces ps k)

  told_entry : (e : Entry) {s : Scope} {h : Hidden} → Follows s h → Tells (halts_in_entry h e) (entry_in (s ++ halting) e) (entry_in s e)
  told_entry (tree.named key value) k = one_told (bound.named key) part.in_named (told value k)
  told_entry (tree.computed key value) k = two_told bound.computed part.in_computed (told key k) (told value k)
  told_entry (tree.own key) k = one_told bound.own part.in_own (told key k)

  told_entries : (es : Entries) {s : Scope} {h : Hidden} → Follows s h → Tells (halts_in_entries h es) (entries_in (s ++ halting) es) (entries_in s es)
  told_entries no_entries k = same_told _
  told_entries (more_entries e es) k = two_told bound.more_entries part.in_entries (told_entry e k) (told_entries es k)

  told_pattern : (p : Pattern) {s : Scope} {h : Hidden} → Follows s h → Tells (halts_in_pattern h p) (pattern_in (s ++ halting) p) (pattern_in s p)
  told_pattern (whole n) k = same_told _
  told_pattern (tree.items ps) k = one_told bound.items part.in_items (told_patterns ps k)
  told_pattern (tree.members ps) k = one_told bound.members part.in_members (told_parts ps k)

  told_patterns : (ps : Patterns) {s : Scope} {h : Hidden} → Follows s h → Tells (halts_in_patterns h ps) (patterns_in (s ++ halting) ps) (patterns_in s ps)
  told_patterns no_patterns k = same_told _
  told_patterns (more_patterns p ps) {s} {h} k =
      let rest : Tells (halts_in_patterns h ps) (patterns_in (with_pattern p (s ++ halting)) ps) (patterns_in (with_pattern p s) ps) =
      subst (λ (o : Scope). Tells (halts_in_patterns h ps) (patterns_in o ps) (patterns_in (with_pattern p s) ps)) (sym (pattern_inside p s halting)) (told_patterns ps (pattern_follows p k)) in
      two_told bound.more_patterns part.in_patterns (told_pattern p k) rest

  told_part : (p : Part) {s : Scope} {h : Hidden} → Follows s h → Tells (halts_in_part h p) (part_in (s ++ halting) p) (part_in s p)
  told_part (tree.keyed key p) k = two_told bound.keyed part.in_keyed (told key k) (told_pattern p k)
  told_part (tree.keyed_variable n p) k = one_told (bound.keyed_variable n) part.in_keyed_variable (told_pattern p (variable_follows n k))

  told_parts : (ps : Parts) {s : Scope} {h : Hidden} → Follows s h → Tells (halts_in_parts h ps) (parts_in (s ++ halting) ps) (parts_in s ps)
  told_parts no_parts k = same_told _
  told_parts (more_parts p ps) {s} {h} k =
      let rest : Tells (halts_in_parts h ps) (parts_in (with_part p (s ++ halting)) ps) (parts_in (with_part p s) ps) =
      subst (λ (o : Scope). Tells (halts_in_parts h ps) (parts_in o ps) (parts_in (with_part p s) ps)) (sym (part_inside p s halting)) (told_parts ps (part_follows p k)) in
      two_told bound.more_parts part.in_parts (told_part p k) rest

-- ---- a whole filter

pub found_exactly : (t : Tree) → (halts_in nothing_hidden t ≡ false) ↔ CallsNoHalt t
found_exactly t =
    let h : Tells (halts_in nothing_hidden t) (bound_in halting t) (bound_in [] t) = told t nothing_follows in
    (λ e. h.0 e, λ p. elim (cases_Bool (halts_in nothing_hidden t)) [ inl e ↦ absurd (h.1 e p) | inr e ↦ e ])
