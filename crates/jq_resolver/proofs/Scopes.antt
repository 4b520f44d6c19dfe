-- How scopes grow and are left.
use Rattle.std.proofs.Common.{◌≡◌, ◌∙◌, ◌+◌, ◌-◌, ℕ, suc, List, [], ◌∷◌, ◌++◌, length, drop, ap, sym, refl, arith}
use Rattle.std.proofs.lemmas.List.{length-append, append_assoc}
use Rattle.jq_tree.specs.Tree as tree
use Rattle.jq_tree.specs.Tree.{Name, Pattern, Patterns, Part, Parts}
use Rattle.jq_tree.specs.Names.{Scope, to_variable, to_function, with_parameters, with_pattern, with_patterns, with_part, with_parts}
use Rattle.jq_tree.specs.Binders.{pattern_in, patterns_in, part_in, parts_in}
use Rattle.jq_ast.specs.Bound.{variables_in, variables_in_items, variables_in_part, variables_in_parts}

-- t is s with k more binders inside
pub record Grows (s t : Scope) (k : ℕ) : Type 0 where
  pub more : Scope
  pub whole : t ≡ more ++ s
  pub count : length more ≡ k

grows_none : (s : Scope) → Grows s s 0
grows_none s = record { more = []; whole = refl; count = refl }

grows_one : (s t : Scope) (r : _) (k : ℕ) → Grows (r ∷ s) t k → Grows s t (suc k)
grows_one s t r k g = record {
  more = g.more ++ r ∷ [];
  whole = g.whole ∙ sym (append_assoc g.more (r ∷ []) s);
  count = omega (arith, length-append g.more (r ∷ []), g.count);
}

grows_on : (s t u : Scope) (j k : ℕ) → Grows s t j → Grows t u k → Grows s u (j + k)
grows_on s t u j k g h = record {
  more = h.more ++ g.more;
  whole = h.whole ∙ ap (λ x. h.more ++ x) g.whole ∙ sym (append_assoc h.more g.more s);
  count = omega (arith, length-append h.more g.more, g.count, h.count);
}

mutual
  pub pattern_grows : (p : Pattern) (s : Scope) → Grows s (with_pattern p s) (variables_in (pattern_in s p))
  pattern_grows (tree.whole n) s = record { more = to_variable n ∷ []; whole = refl; count = refl }
  pattern_grows (tree.items ps) s = patterns_grow ps s
  pattern_grows (tree.members ps) s = parts_grow ps s

  pub patterns_grow : (ps : Patterns) (s : Scope) → Grows s (with_patterns ps s) (variables_in_items (patterns_in s ps))
  patterns_grow tree.no_patterns s = grows_none s
  patterns_grow (tree.more_patterns p ps) s = grows_on s (with_pattern p s) (with_patterns ps (with_pattern p s)) _ _ (pattern_grows p s) (patterns_grow ps (with_pattern p s))

  pub part_grows : (p : Part) (s : Scope) → Grows s (with_part p s) (variables_in_part (part_in s p))
  part_grows (tree.keyed key p) s = pattern_grows p s
  part_grows (tree.keyed_variable n p) s = grows_one s (with_pattern p (to_variable n ∷ s)) (to_variable n) _ (pattern_grows p (to_variable n ∷ s))

  pub parts_grow : (ps : Parts) (s : Scope) → Grows s (with_parts ps s) (variables_in_parts (parts_in s ps))
  parts_grow tree.no_parts s = grows_none s
  parts_grow (tree.more_parts p ps) s = grows_on s (with_part p s) (with_parts ps (with_part p s)) _ _ (part_grows p s) (parts_grow ps (with_part p s))

pub parameters_grow : (ps : List Name) (s : Scope) → Grows s (with_parameters ps s) (length ps)
parameters_grow [] s = grows_none s
parameters_grow (p ∷ ps) s = grows_one s (with_parameters ps (to_function p 0 ∷ s)) (to_function p 0) (length ps) (parameters_grow ps (to_function p 0 ∷ s))

pub grown_length : (s t : Scope) (k : ℕ) → Grows s t k → length t ≡ length s + k
grown_length s t k g = ap length g.whole ∙ omega (arith, length-append g.more s, g.count)

drop_prefix : {A : Type 0} (xs ys : List A) → drop (length xs) (xs ++ ys) ≡ ys
drop_prefix [] ys = refl
drop_prefix (x ∷ xs) ys = drop_prefix xs ys

drop_appended : (xs s : Scope) (n : ℕ) → length (xs ++ s) - n ≡ length xs → drop (length (xs ++ s) - n) (xs ++ s) ≡ s
drop_appended xs s n e = ap (λ k. drop k (xs ++ s)) e ∙ drop_prefix xs s

pub left : (s t : Scope) (k : ℕ) → Grows s t k → drop (length t - length s) t ≡ s
left s t k g =
    let n : length (g.more ++ s) - length s ≡ length g.more = omega (arith, length-append g.more s) in
    ap (λ x. drop (length x - length s) x) g.whole ∙ drop_appended g.more s (length s) n

pub left_one : (s : Scope) (r : _) → drop (length (r ∷ s) - length s) (r ∷ s) ≡ s
left_one s r = left s (r ∷ s) 1 (record { more = r ∷ []; whole = refl; count = refl })

pub parameters_more : (ps : List Name) (p : Name) (s : Scope) → with_parameters (ps ++ p ∷ []) s ≡ to_function p 0 ∷ with_parameters ps s
parameters_more [] p s = refl
parameters_more (q ∷ ps) p s = parameters_more ps p (to_function q 0 ∷ s)
