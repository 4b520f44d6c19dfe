-- The count of `inputs` is the number of times it is among the names of a tree, bound by the language.
use Rattle.std.proofs.Common.{◌≡◌, ℕ, suc, ◌+◌, List, [], ◌∷◌, ◌++◌, Bool, true, false, ◌&&◌, ◌||◌, not, nat_eq, length, cond, if◌then◌else◌, refl, sym, ap, ◌∙◌, arith}
use Rattle.std.specs.Prelude.{bytes_eq, count_by}
use Rattle.std.proofs.lemmas.Bool.{and_right}
use Rattle.std.proofs.lemmas.Bool.Decides.{Decides-eqb}
use Rattle.std.proofs.lemmas.Slice.Eq.{bytes_eq-Decides}
use Rattle.std.proofs.lemmas.List.Sums.{sum_by-cons, sum_by-append}
use Rattle.jq_tree.specs.Tree.{Name, Tree, Trees, no_trees, more_trees, trees_count, Pieces, last_piece, more_pieces, Entry, Entries, no_entries, more_entries, Pattern, whole, Patterns, no_patterns, more_patterns, Part, Parts, no_parts, more_parts}
use Rattle.jq_tree.specs.Tree as tree
use Rattle.jq_tree.specs.Names.{Reference, to_function, to_variable, to_label, to_format, same_reference, Scope, is_bound, with_parameters, with_pattern, with_patterns, with_part, with_parts}
use Rattle.jq_tree.specs.BoundTree.{Binder, bound_at, in_language, nowhere, BoundPattern, bound_count}
use Rattle.jq_tree.specs.BoundTree as bound
use Rattle.jq_tree.specs.Binders.{Use, binder, from_inside, prelude_binder, bound_in, trees_in, pieces_in, entry_in, entries_in, pattern_in, patterns_in, part_in, parts_in, in_text_order, uses, uses_trees, uses_pieces, uses_entry, uses_entries, uses_pattern, uses_patterns, uses_part, uses_parts}
use Rattle.jq_tree.specs.Inputs.{inputs, is_inputs, count, count_trees, count_pieces, count_entry, count_entries, count_pattern, count_patterns, count_part, count_parts}
use Rattle.jq_tree.specs.laws.Names.{is_languages, reads_inputs, InputsAreCounted}

-- ---- how often it is in a list

many : List Use → ℕ
many us = count_by reads_inputs us

many_nil : many [] ≡ 0
unfolding many
many_nil = refl

many_append : (xs ys : List Use) → many (xs ++ ys) ≡ many xs + many ys
unfolding many
many_append xs ys = sum_by-append (λ (u : Use). cond (reads_inputs u) 1 0) xs ys

one_more : (b : Bool) (u : Use) (us : List Use) → reads_inputs u ≡ b → many (u ∷ us) ≡ (if b then 1 else 0) + many us
unfolding many
one_more true u us e = sum_by-cons (λ (x : Use). cond (reads_inputs x) 1 0) u us ∙ ap (λ (b : Bool). cond b 1 0 + many us) e
one_more false u us e = sum_by-cons (λ (x : Use). cond (reads_inputs x) 1 0) u us ∙ ap (λ (b : Bool). cond b 1 0 + many us) e

many_alone : (u : Use) → reads_inputs u ≡ false → 0 ≡ many (u ∷ [])
many_alone u e = let h = one_more false u [] e in let k = many_nil in omega arith

many_in_order : (p : BoundPattern) (source body : List Use) → many (in_text_order p source body) ≡ many source + many body
many_in_order (bound.whole []) source body = let h = many_append body source in omega arith
many_in_order (bound.whole (c ∷ cs)) source body = many_append source body
many_in_order (bound.items ps) source body = many_append source body
many_in_order (bound.members ps) source body = many_append source body

-- ---- where it is bound

abbrev outer_inputs : Reference
outer_inputs = to_function inputs 0

abbrev Alike : Scope → Scope → Type 0
Alike own s = is_bound outer_inputs own ≡ is_bound outer_inputs s

mutual
  pattern_alike : (p : Pattern) (s : Scope) → Alike (with_pattern p s) s
  pattern_alike (whole n) s = refl
  pattern_alike (tree.items ps) s = patterns_alike ps s
  pattern_alike (tree.members ps) s = parts_alike ps s

  patterns_alike : (ps : Patterns) (s : Scope) → Alike (with_patterns ps s) s
  patterns_alike no_patterns s = refl
  patterns_alike (more_patterns p ps) s = patterns_alike ps (with_pattern p s) ∙ pattern_alike p s

  part_alike : (p : Part) (s : Scope) → Alike (with_part p s) s
  part_alike (tree.keyed key p) s = pattern_alike p s
  part_alike (tree.keyed_variable n p) s = pattern_alike p (to_variable n ∷ s)

  parts_alike : (ps : Parts) (s : Scope) → Alike (with_parts ps s) s
  parts_alike no_parts s = refl
  parts_alike (more_parts p ps) s = parts_alike ps (with_part p s) ∙ part_alike p s

one_alike : (n : Name) (arity : ℕ) (own s : Scope) → Alike own s → Alike (to_function n arity ∷ own) (to_function n arity ∷ s)
one_alike n arity own s e = ap (λ (b : Bool). same_reference outer_inputs (to_function n arity) || b) e

parameters_alike : (ps : List Name) (own s : Scope) → Alike own s → Alike (with_parameters ps own) (with_parameters ps s)
parameters_alike [] own s e = e
parameters_alike (p ∷ ps) own s e = parameters_alike ps (to_function p 0 ∷ own) (to_function p 0 ∷ s) (one_alike p 0 own s e)

inside_same : (b : Binder) → is_languages (from_inside b) ≡ is_languages b
inside_same (bound_at n) = refl
inside_same in_language = refl
inside_same nowhere = refl

language_step : (c y : Bool) (b : Binder) → is_languages b ≡ not y → is_languages (if c then bound_at 0 else from_inside b) ≡ not (c || y)
language_step true y b e = refl
language_step false y b e = inside_same b ∙ e

language_unless_bound : (s : Scope) → is_languages (binder s outer_inputs) ≡ not (is_bound outer_inputs s)
language_unless_bound [] = refl
language_unless_bound (b ∷ bs) = language_step (same_reference outer_inputs b) (is_bound outer_inputs bs) (binder bs outer_inputs) (language_unless_bound bs)

prelude_step : (c d : Bool) (b : Binder) → is_languages b ≡ false → is_languages (if c then from_inside b else if d then bound_at 0 else nowhere) ≡ false
prelude_step true d b e = inside_same b ∙ e
prelude_step false true b e = refl
prelude_step false false b e = refl

prelude_not_language : (s : Scope) (r : Reference) → is_languages (prelude_binder s r) ≡ false
prelude_not_language [] r = refl
prelude_not_language (b ∷ bs) r = prelude_step (is_bound r bs) (same_reference r b) (prelude_binder bs r) (prelude_not_language bs r)

-- ---- calls

count_kept : (s : Scope) (ts : Trees) → bound_count (trees_in s ts) ≡ trees_count ts
count_kept s no_trees = refl
count_kept s (more_trees t ts) = ap suc (count_kept s ts)

reads_at : (x y : Bool) (own s : Scope) (n : Name) (k : ℕ) → bytes_eq n inputs ≡ x → nat_eq k 0 ≡ y → Alike own s
    → ((x && y) && is_languages (binder s (to_function n k))) ≡ (x && y && not (is_bound outer_inputs own))
reads_at true true own s n k f g e = let p : n ≡ inputs = (bytes_eq-Decides n inputs).0 f in let q : k ≡ 0 = (Decides-eqb k 0).0 g in
    let r : to_function n k ≡ outer_inputs = cc (p, q) in
    ap (λ (x : Reference). is_languages (binder s x)) r ∙ language_unless_bound s ∙ ap not (sym e)
reads_at true false own s n k f g e = refl
reads_at false y own s n k f g e = refl

reads_call : (own s : Scope) (n : Name) (k j : ℕ) → j ≡ k → Alike own s → reads_inputs (to_function n j, binder s (to_function n k)) ≡ is_inputs own n k
reads_call own s n k j c e = ap (λ (x : ℕ). (bytes_eq n inputs && nat_eq x 0) && is_languages (binder s (to_function n k))) c
    ∙ reads_at (bytes_eq n inputs) (nat_eq k 0) own s n k refl refl e

-- ---- trees

mutual
  counted : (own s : Scope) (t : Tree) → Alike own s → count own t ≡ many (uses (bound_in s t))
  counted own s tree.identity e = sym many_nil
  counted own s tree.empty e = sym many_nil
  counted own s (tree.literal v) e = sym many_nil
  counted own s (tree.text f ps) e = let h = counted_pieces own s ps e in
      let k = one_more false ((to_format f, binder s (to_format f))) (uses_pieces (pieces_in s ps)) refl in omega arith
  counted own s (tree.format f) e = many_alone (to_format f, binder s (to_format f)) refl
  counted own s (tree.variable n) e = many_alone (to_variable n, binder s (to_variable n)) refl
  counted own s (tree.break n) e = many_alone (to_label n, binder s (to_label n)) refl
  counted own s (tree.field t n mark) e = counted own s t e
  counted own s (tree.index t key mark) e = let h0 = counted own s t e in let h1 = counted own s key e in let a1 = many_append (uses (bound_in s t)) (uses (bound_in s key)) in omega arith
  counted own s (tree.slice t from to mark) e = let h0 = counted own s t e in let h1 = counted own s from e in let h2 = counted own s to e in let a1 = many_append (uses (bound_in s t)) (uses (bound_in s from)) in let a2 = many_append (uses (bound_in s t) ++ uses (bound_in s from)) (uses (bound_in s to)) in omega arith
  counted own s (tree.iterate t mark) e = counted own s t e
  counted own s (tree.pipe f g) e = let h0 = counted own s f e in let h1 = counted own s g e in let a1 = many_append (uses (bound_in s f)) (uses (bound_in s g)) in omega arith
  counted own s (tree.comma f g) e = let h0 = counted own s f e in let h1 = counted own s g e in let a1 = many_append (uses (bound_in s f)) (uses (bound_in s g)) in omega arith
  counted own s (tree.binary op f g) e = let h0 = counted own s f e in let h1 = counted own s g e in let a1 = many_append (uses (bound_in s f)) (uses (bound_in s g)) in omega arith
  counted own s (tree.conjunction f g) e = let h0 = counted own s f e in let h1 = counted own s g e in let a1 = many_append (uses (bound_in s f)) (uses (bound_in s g)) in omega arith
  counted own s (tree.disjunction f g) e = let h0 = counted own s f e in let h1 = counted own s g e in let a1 = many_append (uses (bound_in s f)) (uses (bound_in s g)) in omega arith
  counted own s (tree.alternative f g) e = let h0 = counted own s f e in let h1 = counted own s g e in let a1 = many_append (uses (bound_in s f)) (uses (bound_in s g)) in omega arith
  counted own s (tree.negation f) e = counted own s f e
  counted own s (tree.array f) e = counted own s f e
  counted own s (tree.object es) e = counted_entries own s es e
  counted own s (tree.choice f g h) e = let h0 = counted own s f e in let h1 = counted own s g e in let h2 = counted own s h e in let a1 = many_append (uses (bound_in s f)) (uses (bound_in s g)) in let a2 = many_append (uses (bound_in s f) ++ uses (bound_in s g)) (uses (bound_in s h)) in omega arith
  counted own s (tree.try_catch f g) e = let h0 = counted own s f e in let h1 = counted own s g e in let a1 = many_append (uses (bound_in s f)) (uses (bound_in s g)) in omega arith
  counted own s (tree.label n f) e = counted own (to_label n ∷ s) f e
  counted own s (tree.bind_as f p g) e = let h0 = counted own s f e in let h1 = counted_pattern own s p e in
      let h2 = counted own (with_pattern p s) g (e ∙ sym (pattern_alike p s)) in
      let a = many_in_order (pattern_in s p) (uses (bound_in s f)) (uses_pattern (pattern_in s p) ++ uses (bound_in (with_pattern p s) g)) in
      let b = many_append (uses_pattern (pattern_in s p)) (uses (bound_in (with_pattern p s) g)) in omega arith
  counted own s (tree.reduce f p g h) e = let h0 = counted own s f e in let h1 = counted_pattern own s p e in let h2 = counted own s g e in let h3 = counted own (with_pattern p s) h (e ∙ sym (pattern_alike p s)) in let a1 = many_append (uses (bound_in s f)) (uses_pattern (pattern_in s p)) in let a2 = many_append (uses (bound_in s f) ++ uses_pattern (pattern_in s p)) (uses (bound_in s g)) in let a3 = many_append (uses (bound_in s f) ++ uses_pattern (pattern_in s p) ++ uses (bound_in s g)) (uses (bound_in (with_pattern p s) h)) in omega arith
  counted own s (tree.foreach f p g h i) e = let h0 = counted own s f e in let h1 = counted_pattern own s p e in let h2 = counted own s g e in let h3 = counted own (with_pattern p s) h (e ∙ sym (pattern_alike p s)) in let h4 = counted own (with_pattern p s) i (e ∙ sym (pattern_alike p s)) in let a1 = many_append (uses (bound_in s f)) (uses_pattern (pattern_in s p)) in let a2 = many_append (uses (bound_in s f) ++ uses_pattern (pattern_in s p)) (uses (bound_in s g)) in let a3 = many_append (uses (bound_in s f) ++ uses_pattern (pattern_in s p) ++ uses (bound_in s g)) (uses (bound_in (with_pattern p s) h)) in let a4 = many_append (uses (bound_in s f) ++ uses_pattern (pattern_in s p) ++ uses (bound_in s g) ++ uses (bound_in (with_pattern p s) h)) (uses (bound_in (with_pattern p s) i)) in omega arith
  counted own s (tree.define n ps f g) e = let k = one_alike n (length ps) own s e in
      let h0 = counted (with_parameters ps (to_function n (length ps) ∷ own)) (with_parameters ps (to_function n (length ps) ∷ s)) f
      (parameters_alike ps (to_function n (length ps) ∷ own) (to_function n (length ps) ∷ s) k) in
      let h1 = counted (to_function n (length ps) ∷ own) (to_function n (length ps) ∷ s) g k in
      let a = many_append (uses (bound_in (with_parameters ps (to_function n (length ps) ∷ s)) f)) (uses (bound_in (to_function n (length ps) ∷ s) g)) in omega arith
  counted own s (tree.call n ts) e = let h = counted_trees own s ts e in
      let k = one_more (is_inputs own n (trees_count ts)) (to_function n (bound_count (trees_in s ts)), binder s (to_function n (trees_count ts))) (uses_trees (trees_in s ts))
      (reads_call own s n (trees_count ts) (bound_count (trees_in s ts)) (count_kept s ts) e) in omega arith
  counted own s (tree.prelude_call n ts) e = let h = counted_trees own s ts e in
      let k = one_more false (to_function n (bound_count (trees_in s ts)), prelude_binder s (to_function n (trees_count ts))) (uses_trees (trees_in s ts))
      (and_right (same_reference (to_function n (bound_count (trees_in s ts))) outer_inputs) (is_languages (prelude_binder s (to_function n (trees_count ts)))) (prelude_not_language s (to_function n (trees_count ts)))) in omega arith

  counted_trees : (own s : Scope) (x : Trees) → Alike own s → count_trees own x ≡ many (uses_trees (trees_in s x))
  counted_trees own s no_trees e = sym many_nil
  counted_trees own s (more_trees t ts) e = let h0 = counted own s t e in let h1 = counted_trees own s ts e in let a1 = many_append (uses (bound_in s t)) (uses_trees (trees_in s ts)) in omega arith

  counted_pieces : (own s : Scope) (x : Pieces) → Alike own s → count_pieces own x ≡ many (uses_pieces (pieces_in s x))
  counted_pieces own s (last_piece cs) e = sym many_nil
  counted_pieces own s (more_pieces cs t ps) e = let h0 = counted own s t e in let h1 = counted_pieces own s ps e in let a1 = many_append (uses (bound_in s t)) (uses_pieces (pieces_in s ps)) in omega arith

  counted_entry : (own s : Scope) (x : Entry) → Alike own s → count_entry own x ≡ many (uses_entry (entry_in s x))
  counted_entry own s (tree.named key value) e = counted own s value e
  counted_entry own s (tree.computed key value) e = let h0 = counted own s key e in let h1 = counted own s value e in let a1 = many_append (uses (bound_in s key)) (uses (bound_in s value)) in omega arith
  counted_entry own s (tree.own key) e = counted own s key e

  counted_entries : (own s : Scope) (x : Entries) → Alike own s → count_entries own x ≡ many (uses_entries (entries_in s x))
  counted_entries own s no_entries e = sym many_nil
  counted_entries own s (more_entries x xs) e = let h0 = counted_entry own s x e in let h1 = counted_entries own s xs e in let a1 = many_append (uses_entry (entry_in s x)) (uses_entries (entries_in s xs)) in omega arith

  counted_pattern : (own s : Scope) (x : Pattern) → Alike own s → count_pattern own x ≡ many (uses_pattern (pattern_in s x))
  counted_pattern own s (whole n) e = sym many_nil
  counted_pattern own s (tree.items ps) e = counted_patterns own s ps e
  counted_pattern own s (tree.members ps) e = counted_parts own s ps e

  counted_patterns : (own s : Scope) (x : Patterns) → Alike own s → count_patterns own x ≡ many (uses_patterns (patterns_in s x))
  counted_patterns own s no_patterns e = sym many_nil
  counted_patterns own s (more_patterns p ps) e = let h0 = counted_pattern own s p e in let h1 = counted_patterns own (with_pattern p s) ps (e ∙ sym (pattern_alike p s)) in let a1 = many_append (uses_pattern (pattern_in s p)) (uses_patterns (patterns_in (with_pattern p s) ps)) in omega arith

  counted_part : (own s : Scope) (x : Part) → Alike own s → count_part own x ≡ many (uses_part (part_in s x))
  counted_part own s (tree.keyed key p) e = let h0 = counted own s key e in let h1 = counted_pattern own s p e in let a1 = many_append (uses (bound_in s key)) (uses_pattern (pattern_in s p)) in omega arith
  counted_part own s (tree.keyed_variable n p) e = counted_pattern own (to_variable n ∷ s) p e

  counted_parts : (own s : Scope) (x : Parts) → Alike own s → count_parts own x ≡ many (uses_parts (parts_in s x))
  counted_parts own s no_parts e = sym many_nil
  counted_parts own s (more_parts p ps) e = let h0 = counted_part own s p e in let h1 = counted_parts own (with_part p s) ps (e ∙ sym (part_alike p s)) in let a1 = many_append (uses_part (part_in s p)) (uses_parts (parts_in (with_part p s) ps)) in omega arith

pub inputs_counted : InputsAreCounted
unfolding many
inputs_counted s t = counted s s t refl
