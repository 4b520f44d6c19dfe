-- The walk counts `inputs` as the definition does.
use Rattle.std.proofs.Common.{◌≡◌, ◌∙◌, ℕ, suc, ◌+◌, ◌∷◌, Bool, true, false, ◌&&◌, not, nat_eq, bytes_eq, codes, if◌then◌else◌, length, ap, refl, arith}
use Rattle.std.proofs.lemmas.Bool.{and_left, and_right, ne_eqb}
use Rattle.jv_data.proofs.shared.Texts.{bytes_eq-sym}
use Rattle.jq_tree.specs.Tree.{Name, Tree, Trees, no_trees, more_trees, trees_count, Pieces, last_piece, more_pieces, Entry, Entries, no_entries, more_entries, Pattern, whole, Patterns, no_patterns, more_patterns, Part, Parts, no_parts, more_parts}
use Rattle.jq_tree.specs.Tree as tree
use Rattle.jq_tree.specs.Names.{Scope, to_function, is_bound, with_parameters}
use Rattle.jq_tree.specs.Inputs as d
use Rattle.jq_inputs.specs.declared.hidden.Hidden.{Hidden}
use Rattle.jq_inputs.specs.declared.surveys.Count.TheVariants.{Zero, One}
use Rattle.jq_inputs.specs.private.Hidden.{hiding, is_inputs}
use Rattle.jq_inputs.specs.private.Walk.{count_in, count_call, count_trees, count_pieces, count_entry, count_entries, count_pattern, count_patterns, count_part, count_parts}
use Rattle.jq_inputs.proofs.Capping.{Caps, caps-zero, caps-plus, caps-at}
use Rattle.jq_inputs.proofs.Tracking.{Tracks, hiding-Tracks, parameters-Tracks}

call_test : (a x y : Bool) → x ≡ y → (a && not x) ≡ (a && true && not y)
call_test true x y e = ap (λ b. not b) e
call_test false x y e = refl

same_call : {own : Scope} {h : Hidden} (n : Name) → Tracks own h → is_inputs h n ≡ d.is_inputs own n 0
same_call {own} {h} n k = ap (λ b. b && not h.inputs) (bytes_eq-sym (codes "inputs") n) ∙ call_test (bytes_eq n (codes "inputs")) h.inputs (is_bound (to_function (codes "inputs") 0) own) k.inputs

none_before : (b : Bool) → Caps ((if b then 1 else 0) + 0) (if b then One else Zero)
none_before true = record { same = refl }
none_before false = record { same = refl }

some_arguments : (k : ℕ) → nat_eq (suc k) 0 ≡ false
some_arguments k = ne_eqb (suc k) 0 (λ e. absurd (omega (arith, e)))

no_inputs : (own : Scope) (n : Name) (k : ℕ) → d.is_inputs own n (suc k) ≡ false
no_inputs own n k =
    and_left (bytes_eq n (codes "inputs") && nat_eq (suc k) 0) (not (is_bound (to_function (codes "inputs") 0) own))
    (and_right (bytes_eq n (codes "inputs")) (nat_eq (suc k) 0) (some_arguments k))

mutual
  pub counted : (t : Tree) {own : Scope} {h : Hidden} → Tracks own h → Caps (d.count own t) (count_in h t)
  counted tree.identity k = caps-zero
  counted tree.empty k = caps-zero
  counted (tree.literal v) k = caps-zero
  counted (tree.text f ps) k = counted_pieces ps k
  counted (tree.format f) k = caps-zero
  counted (tree.variable n) k = caps-zero
  counted (tree.field f n mark) k = counted f k
  counted (tree.index f g mark) k = caps-plus (counted f k) (counted g k)
  counted (tree.slice f g i mark) k = caps-plus (caps-plus (counted f k) (counted g k)) (counted i k)
  counted (tree.iterate f mark) k = counted f k
  counted (tree.pipe f g) k = caps-plus (counted f k) (counted g k)
  counted (tree.comma f g) k = caps-plus (counted f k) (counted g k)
  counted (tree.binary op f g) k = caps-plus (counted f k) (counted g k)
  counted (tree.conjunction f g) k = caps-plus (counted f k) (counted g k)
  counted (tree.disjunction f g) k = caps-plus (counted f k) (counted g k)
  counted (tree.alternative f g) k = caps-plus (counted f k) (counted g k)
  counted (tree.negation f) k = counted f k
  counted (tree.array f) k = counted f k
  counted (tree.object es) k = counted_entries es k
  counted (tree.choice f g i) k = caps-plus (caps-plus (counted f k) (counted g k)) (counted i k)
  counted (tree.try_catch f g) k = caps-plus (counted f k) (counted g k)
  counted (tree.label n f) k = counted f k
  counted (tree.break n) k = caps-zero
  counted (tree.bind_as f p g) {own} {h} k = caps-at (d.count own f + d.count_pattern own p + d.count own g) (omega arith)
      (caps-plus (caps-plus (counted f k) (counted g k)) (counted_pattern p k))
  counted (tree.reduce f p g i) {own} {h} k = caps-at (d.count own f + d.count_pattern own p + d.count own g + d.count own i) (omega arith)
      (caps-plus (caps-plus (caps-plus (counted f k) (counted g k)) (counted_pattern p k)) (counted i k))
  counted (tree.foreach f p g i j) {own} {h} k = caps-at (d.count own f + d.count_pattern own p + d.count own g + d.count own i + d.count own j) (omega arith)
      (caps-plus (caps-plus (caps-plus (caps-plus (counted f k) (counted g k)) (counted_pattern p k)) (counted i k)) (counted j k))
  counted (tree.define n ps f g) {own} {h} k =
      let inside : Tracks (to_function n (length ps) ∷ own) (hiding (to_function n (length ps)) h) = hiding-Tracks (to_function n (length ps)) k in
      caps-at (d.count (with_parameters ps (to_function n (length ps) ∷ own)) f + d.count (to_function n (length ps) ∷ own) g) (omega arith)
      (caps-plus (counted g inside) (counted f (parameters-Tracks ps inside)))
  counted (tree.call n ts) k = counted_call n ts k
  counted (tree.prelude_call n ts) k = counted_trees ts k

  counted_call : (n : Name) (ts : Trees) {own : Scope} {h : Hidden} → Tracks own h → Caps ((if d.is_inputs own n (trees_count ts) then 1 else 0) + d.count_trees own ts) (count_call h n ts)
  counted_call n no_trees {own} {h} k = rw (same_call n k) (none_before (d.is_inputs own n 0))
  counted_call n (more_trees t ts) {own} {h} k = rw (no_inputs own n (trees_count ts)) (caps-at (0 + (d.count own t + d.count_trees own ts)) (omega arith) (caps-plus (counted t k) (counted_trees ts k)))

  counted_trees : (ts : Trees) {own : Scope} {h : Hidden} → Tracks own h → Caps (d.count_trees own ts) (count_trees h ts)
  counted_trees no_trees k = caps-zero
  counted_trees (more_trees t ts) k = caps-plus (counted t k) (counted_trees ts k)

  counted_pieces : (ps : Pieces) {own : Scope} {h : Hidden} → Tracks own h → Caps (d.count_pieces own ps) (count_pieces h ps)
  counted_pieces (last_piece cs) k = caps-zero
  counted_pieces (more_pieces cs t ps) k = caps-plus (counted t k) (counted_pieces ps k)

  pub counted_entry : (e : Entry) {own : Scope} {h : Hidden} → Tracks own h → Caps (d.count_entry own e) (count_entry h e)
  counted_entry (tree.named key value) k = counted value k
  counted_entry (tree.computed key value) k = caps-plus (counted key k) (counted value k)
  counted_entry (tree.own key) k = counted key k

  pub counted_entries : (es : Entries) {own : Scope} {h : Hidden} → Tracks own h → Caps (d.count_entries own es) (count_entries h es)
  counted_entries no_entries k = caps-zero
  counted_entries (more_entries e es) k = caps-plus (counted_entry e k) (counted_entries es k)

  counted_pattern : (p : Pattern) {own : Scope} {h : Hidden} → Tracks own h → Caps (d.count_pattern own p) (count_pattern h p)
  counted_pattern (whole n) k = caps-zero
  counted_pattern (tree.items ps) k = counted_patterns ps k
  counted_pattern (tree.members ps) k = counted_parts ps k

  counted_patterns : (ps : Patterns) {own : Scope} {h : Hidden} → Tracks own h → Caps (d.count_patterns own ps) (count_patterns h ps)
  counted_patterns no_patterns k = caps-zero
  counted_patterns (more_patterns p ps) k = caps-plus (counted_pattern p k) (counted_patterns ps k)

  counted_part : (p : Part) {own : Scope} {h : Hidden} → Tracks own h → Caps (d.count_part own p) (count_part h p)
  counted_part (tree.keyed key p) k = caps-plus (counted key k) (counted_pattern p k)
  counted_part (tree.keyed_variable n p) k = counted_pattern p k

  counted_parts : (ps : Parts) {own : Scope} {h : Hidden} → Tracks own h → Caps (d.count_parts own ps) (count_parts h ps)
  counted_parts no_parts k = caps-zero
  counted_parts (more_parts p ps) k = caps-plus (counted_part p k) (counted_parts ps k)
