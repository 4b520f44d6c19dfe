-- From the items of a list to the whole list.
use Rattle.std.proofs.Common.{◌≡◌, ◌∙◌, ◌+◌, ◌<◌, ◌≤◌, ℕ, List, [], ◌∷◌, ◌++◌, length, map, get_or, set, take, String, Global, ap, sym, refl, subst, arith}
use Rattle.std.proofs.lemmas.List.{take_more, take_more_set, get_or-set_other}
use Rattle.std.proofs.Math.ListN.{length-set}
use Rattle.jv_data.specs.Text.{text_of}
use Rattle.jq_tree.specs.Tree as tree
use Rattle.jq_tree.specs.BoundTree as form
use Rattle.jq_tree.specs.Binders.{bound_in, trees_in, pieces_in, entry_in, entries_in, pattern_in, patterns_in, part_in, parts_in}
use Rattle.jq_tree.specs.Names.{Scope, with_pattern, with_patterns, with_part, with_parts}
use Rattle.jq_ast.specs.Named.{named, named_as_part, named_as_pattern, pieces_of, named_piece, named_entry}
use Rattle.jq_ast.specs.Bound.{bound, bound_pieces, bound_trees, bound_patterns, bound_parts, variables_in, variables_in_part}
use Rattle.jq_resolver.specs.private.BoundParts.{bound_as_part, bound_as_pattern}
use Rattle.jq_ast.specs.declared.tree.Entry.{Entry}
use Rattle.jq_ast.specs.declared.tree.Piece.{Piece}
use Rattle.jq_ast.specs.declared.tree.Member.{Member}
use Rattle.jq_ast.specs.declared.tree.Pattern.{Pattern}
use Rattle.jq_ast.specs.declared.tree.Tree.{Tree}
use Rattle.jq_resolver.proofs.Levels.{bound_piece}
use Rattle.jq_resolver.proofs.Scopes.{pattern_grows, part_grows, grown_length}
use Rattle.jq_resolver.specs.private.Resolved.{Chain, IsResolved, IsPieceResolved, IsEntryResolved, IsPatternResolved, IsPartResolved, entries_at}

pub chain_more : {A : Type 0} (Does : Scope → Scope → A → A → Type 0) (s t u : Scope) (xs ys : List A) (x y : A) → Chain Does s t xs ys → Does t u x y → Chain Does s u (xs ++ x ∷ []) (ys ++ y ∷ [])
chain_more Does s t u [] [] x y c d = (u, subst (λ v. Does v u x y) c d, refl)
chain_more Does s t u (x' ∷ xs) (y' ∷ ys) x y c d = (c.0, c.1, chain_more Does c.0 t u xs ys x y c.2 d)
chain_more Does s t u [] (y' ∷ ys) x y c d = absurd c
chain_more Does s t u (x' ∷ xs) [] x y c d = absurd c

-- a list of two
pub chain_two : (s t u : Scope) (ts : List Tree) (d e x y : Tree) → length ts ≡ 2 → IsResolved s t (get_or ts 0 d) x → IsResolved t u (get_or (set ts 0 x) 1 e) y
    → Chain IsResolved s u ts (set (set ts 0 x) 1 y)
chain_two s t u [] d e x y n r q = absurd (omega (arith, n))
chain_two s t u (a ∷ []) d e x y n r q = absurd (omega (arith, n))
chain_two s t u (a ∷ b ∷ []) d e x y n r q = (t, r, (u, q, refl))
chain_two s t u (a ∷ b ∷ c ∷ ts) d e x y n r q = absurd (omega (arith, n))

-- the same in one scope
pub record AreResolved (s t : Scope) (old new : List Tree) : Type 0 where
  pub same : t ≡ s
  pub names : map named new ≡ map named old
  pub binders : bound_trees (map bound new) (length s) ≡ trees_in s (tree.trees_of (map named old))

pub trees_resolved : (s t : Scope) (old new : List Tree) → Chain IsResolved s t old new → AreResolved s t old new
trees_resolved s t [] [] c = record { same = c; names = refl; binders = refl }
trees_resolved s t (x ∷ xs) (y ∷ ys) c =
    let rest : AreResolved s t xs ys = trees_resolved s t xs ys (subst (λ u. Chain IsResolved u t xs ys) c.1.same c.2) in
    record {
      same = rest.same;
      names = ap (λ z. z ∷ map named ys) c.1.names ∙ ap (λ zs. named x ∷ zs) rest.names;
      binders = ap (λ z. form.more_trees z (bound_trees (map bound ys) (length s))) c.1.binders ∙ ap (λ zs. form.more_trees (bound_in s (named x)) zs) rest.binders;
    }
trees_resolved s t [] (y ∷ ys) c = absurd c
trees_resolved s t (x ∷ xs) [] c = absurd c

pub record ArePiecesResolved (s t : Scope) (old new : List (Piece Tree)) (last : String Global) : Type 0 where
  pub same : t ≡ s
  pub names : pieces_of (map named_piece new) last ≡ pieces_of (map named_piece old) last
  pub binders : bound_pieces (map bound_piece new) last (length s) ≡ pieces_in s (pieces_of (map named_piece old) last)

pub pieces_resolved : (s t : Scope) (old new : List (Piece Tree)) (last : String Global) → Chain IsPieceResolved s t old new → ArePiecesResolved s t old new last
pieces_resolved s t [] [] last c = record { same = c; names = refl; binders = refl }
pieces_resolved s t (x ∷ xs) (y ∷ ys) last c =
    let rest : ArePiecesResolved s t xs ys last = pieces_resolved s t xs ys last (subst (λ u. Chain IsPieceResolved u t xs ys) c.1.tree.same c.2) in
    record {
      same = rest.same;
      names = ap (λ z. tree.more_pieces z (named y.tree) (pieces_of (map named_piece ys) last)) c.1.before ∙ ap (λ z. tree.more_pieces (text_of x.before) z (pieces_of (map named_piece ys) last)) c.1.tree.names
          ∙ ap (λ zs. tree.more_pieces (text_of x.before) (named x.tree) zs) rest.names;
      binders = ap (λ z. form.more_pieces z (bound y.tree (length s)) (bound_pieces (map bound_piece ys) last (length s))) c.1.before
          ∙ ap (λ z. form.more_pieces (text_of x.before) z (bound_pieces (map bound_piece ys) last (length s))) c.1.tree.binders
          ∙ ap (λ zs. form.more_pieces (text_of x.before) (bound_in s (named x.tree)) zs) rest.binders;
    }
pieces_resolved s t [] (y ∷ ys) last c = absurd c
pieces_resolved s t (x ∷ xs) [] last c = absurd c

pub record AreEntriesResolved (s t : Scope) (old new : List (Entry Tree)) : Type 0 where
  pub same : t ≡ s
  pub names : map named_entry new ≡ map named_entry old
  pub binders : entries_at new (length s) ≡ entries_in s (tree.entries_of (map named_entry old))

pub entries_resolved : (s t : Scope) (old new : List (Entry Tree)) → Chain IsEntryResolved s t old new → AreEntriesResolved s t old new
entries_resolved s t [] [] c = record { same = c; names = refl; binders = refl }
entries_resolved s t (x ∷ xs) (y ∷ ys) c =
    let rest : AreEntriesResolved s t xs ys = entries_resolved s t xs ys (subst (λ u. Chain IsEntryResolved u t xs ys) c.1.same c.2) in
    record {
      same = rest.same;
      names = ap (λ z. z ∷ map named_entry ys) c.1.names ∙ ap (λ zs. named_entry x ∷ zs) rest.names;
      binders = ap (λ z. form.more_entries z (entries_at ys (length s))) c.1.binders ∙ ap (λ zs. form.more_entries (entry_in s (named_entry x)) zs) rest.binders;
    }
entries_resolved s t [] (y ∷ ys) c = absurd c
entries_resolved s t (x ∷ xs) [] c = absurd c

pub record ArePatternsResolved (s t : Scope) (old new : List Pattern) : Type 0 where
  pub same : t ≡ with_patterns (tree.patterns_of (map named_as_pattern old)) s
  pub names : map named_as_pattern new ≡ map named_as_pattern old
  pub binders : bound_patterns (map bound_as_pattern new) (length s) ≡ patterns_in s (tree.patterns_of (map named_as_pattern old))

pub patterns_resolved : (s t : Scope) (old new : List Pattern) → Chain IsPatternResolved s t old new → ArePatternsResolved s t old new
patterns_resolved s t [] [] c = record { same = c; names = refl; binders = refl }
patterns_resolved s t (x ∷ xs) (y ∷ ys) c =
    let p = named_as_pattern x in
    let s' = with_pattern p s in
    let rest : ArePatternsResolved s' t xs ys = patterns_resolved s' t xs ys (subst (λ u. Chain IsPatternResolved u t xs ys) c.1.same c.2) in
    let grown : length s' ≡ length s + variables_in (pattern_in s p) = grown_length s s' _ (pattern_grows p s) in
    record {
      same = rest.same;
      names = ap (λ z. z ∷ map named_as_pattern ys) c.1.names ∙ ap (λ zs. named_as_pattern x ∷ zs) rest.names;
      binders = ap (λ z. form.more_patterns z (bound_patterns (map bound_as_pattern ys) (length s + variables_in z))) c.1.binders
          ∙ ap (λ n. form.more_patterns (pattern_in s p) (bound_patterns (map bound_as_pattern ys) n)) (sym grown)
          ∙ ap (λ zs. form.more_patterns (pattern_in s p) zs) rest.binders;
    }
patterns_resolved s t [] (y ∷ ys) c = absurd c
patterns_resolved s t (x ∷ xs) [] c = absurd c

pub record ArePartsResolved (s t : Scope) (old new : List Member) : Type 0 where
  pub same : t ≡ with_parts (tree.parts_of (map named_as_part old)) s
  pub names : map named_as_part new ≡ map named_as_part old
  pub binders : bound_parts (map bound_as_part new) (length s) ≡ parts_in s (tree.parts_of (map named_as_part old))

pub parts_resolved : (s t : Scope) (old new : List Member) → Chain IsPartResolved s t old new → ArePartsResolved s t old new
parts_resolved s t [] [] c = record { same = c; names = refl; binders = refl }
parts_resolved s t (x ∷ xs) (y ∷ ys) c =
    let p = named_as_part x in
    let s' = with_part p s in
    let rest : ArePartsResolved s' t xs ys = parts_resolved s' t xs ys (subst (λ u. Chain IsPartResolved u t xs ys) c.1.same c.2) in
    let grown : length s' ≡ length s + variables_in_part (part_in s p) = grown_length s s' _ (part_grows p s) in
    record {
      same = rest.same;
      names = ap (λ z. z ∷ map named_as_part ys) c.1.names ∙ ap (λ zs. named_as_part x ∷ zs) rest.names;
      binders = ap (λ z. form.more_parts z (bound_parts (map bound_as_part ys) (length s + variables_in_part z))) c.1.binders
          ∙ ap (λ n. form.more_parts (part_in s p) (bound_parts (map bound_as_part ys) n)) (sym grown)
          ∙ ap (λ zs. form.more_parts (part_in s p) zs) rest.binders;
    }
parts_resolved s t [] (y ∷ ys) c = absurd c
parts_resolved s t (x ∷ xs) [] c = absurd c

-- one more turn of a loop that changes a list in place
pub chain_step : {A : Type 0} (Does : Scope → Scope → A → A → Type 0) (s t u : Scope) (old cur : List A) (i : ℕ) (x y : A) → i < length cur → length cur ≡ length old → x ≡ get_or old i x
    → Chain Does s t (take i old) (take i cur) → Does t u x y → Chain Does s u (take (i + 1) old) (take (i + 1) (set cur i y))
chain_step Does s t u old cur i x y h e f c d =
    let inside : i < length old = omega arith in
    let a : take (i + 1) old ≡ take i old ++ x ∷ [] = take_more old i x inside ∙ ap (λ z. take i old ++ z ∷ []) (sym f) in
    let b : take (i + 1) (set cur i y) ≡ take i cur ++ y ∷ [] = take_more_set cur i y h in
    subst (λ z. Chain Does s u z (take (i + 1) (set cur i y))) (sym a) (subst (λ z. Chain Does s u (take i old ++ x ∷ []) z) (sym b) (chain_more Does s t u (take i old) (take i cur) x y c d))

-- the items that the loop has not reached are unchanged
pub unvisited_step : {A : Type 0} (old cur : List A) (i : ℕ) (y : A) → (length cur ≡ length old) × ((k : ℕ) (d : A) → i ≤ k → get_or cur k d ≡ get_or old k d)
    → (length (set cur i y) ≡ length old) × ((k : ℕ) (d : A) → i + 1 ≤ k → get_or (set cur i y) k d ≡ get_or old k d)
unvisited_step old cur i y h = (length-set cur i y ∙ h.0, λ k d b. get_or-set_other cur i k y d (λ e. absurd (omega arith)) ∙ h.1 k d (omega arith))
