-- The turns end with the tree of the grammar: each production.
use Rattle.std.proofs.Common.{◌≡◌, ℕ, zero, suc, ◌+◌, ◌≤◌, List, [], ◌∷◌, ◌++◌, Bool, true, false, Option, Some, None, refl, ap, append_assoc, arith, inl, inr}
use Rattle.jq_tree.specs.Tree.{Name, Tree, Trees, more_trees, Pieces, last_piece, more_pieces, Entry, Entries, more_entries, Pattern, Patterns, no_patterns, more_patterns, Part, Parts, no_parts, more_parts}
use Rattle.jq_tree.specs.Tree as tree
use Rattle.jq_tree.specs.Token.{Token, keyword, name, variable, piece, interpolation, symbol}
use Rattle.jq_tree.specs.Token as token
use Rattle.jq_tree.specs.WrittenOut.{attempt, Parameter, definition}
use Rattle.jq_tree.specs.Grammar.{Key, key_name, key_word, level_of, Side, Left, Right, Neither, side_of, joined, name_of, text_of, Suffix, with_suffix}
use Rattle.jq_tree.specs.Grammar as g
use Rattle.jq_builders.specs.Trees as built
use Rattle.jq_builders.specs.Trees.{with_comma, onto, piece_before, branch_before, by_tree, by_variable}
use Rattle.jq_parser.specs.laws.Machine as m
use Rattle.jq_parser.specs.laws.Combinators.{and_then, first, tail, expect, any_name, any_name_on}
use Rattle.jq_parser.specs.laws.Forms.{begins_post, is_as, parameters, parameters_on}
use Rattle.jq_parser.proofs.Follow.{follow, kind, colon_next, level_follow, post_begins, no_as}
use Rattle.jq_parser.proofs.Readings.{May, function_of, parameters_read, may_3, may_tighter}
use Rattle.jq_parser.specs.laws.Machine.{TextUse, DefinitionUse, in_pipe, Frame, operated, ends_operand, Mode, go, next_from, part_key_turn, function_head, turns}
use Rattle.jq_parser.proofs.Ends.{Ends, by_turn}
use Rattle.jq_parser.proofs.AtTokens.{opened, suffix_stops, tried_stops, listed_stops, piece_stops, variable_stops, operators_stop, operators_go, operand_ends, operand_binds, pipe_begins, una_begins, body_begins, definition_begins, head_read, text_part_begins}

-- ---- the statements

abbrev pub Turns : ℕ → (List Frame → Mode) → (List Frame → Mode) → List Token → Type 0
Turns holds from to ts = (fs : List Frame) (rest : List Token) (r : Tree) → holds ≤ follow rest → Ends (go (to fs) fs rest) r → Ends (go (from fs) fs (ts ++ rest)) r

abbrev pub PipeTurns : List Token → Tree → Type 0
PipeTurns ts t = Turns 12 (λ fs. m.want_pipe None) (λ fs. m.have t) ts

abbrev pub UnaTurns : List Token → Tree → Type 0
UnaTurns ts t = Turns 3 (λ fs. m.want_una) (λ fs. m.have t) ts

abbrev pub BodyTurns : List Token → Tree → Type 0
BodyTurns ts t = Turns 2 (λ fs. m.want_body) (λ fs. m.have t) ts

-- a postfix form that ends with a step, or with something else
abbrev pub EndsTurns : Bool → List Token → Tree → Type 0
EndsTurns last ts t = Turns 1 (λ fs. m.want_post) (λ fs. m.suffix last t) ts

abbrev pub PostTurns : List Token → Tree → Type 0
PostTurns ts t = (fs : List Frame) (rest : List Token) (r : Tree) → 1 ≤ follow rest → ((last : Bool) → Ends (go (m.suffix last t) fs rest) r) → Ends (go m.want_post fs (ts ++ rest)) r

-- after its first token, which is `[`
abbrev pub BrTurns : List Token → Suffix → Type 0
BrTurns ts s = (a : Tree) (fs : List Frame) (rest : List Token) (r : Tree) → Ends (go (m.suffix true (with_suffix a s)) fs rest) r → Ends (go (m.bracket a) fs (tail (ts ++ rest))) r

abbrev pub SufTurns : List Token → Suffix → Type 0
SufTurns ts s = (last : Bool) (a : Tree) (fs : List Frame) (rest : List Token) (r : Tree) → 1 ≤ follow rest → Ends (go (m.suffix true (with_suffix a s)) fs rest) r → Ends (go (m.suffix last a) fs (ts ++ rest)) r

abbrev pub StrTurns : List Token → Pieces → Type 0
StrTurns ts ps = (u : TextUse) (before : List (List ℕ × Tree)) (fs : List Frame) (rest : List Token) (r : Tree) → 1 ≤ follow rest → Ends (go (m.text_done u (onto piece_before before ps)) fs rest) r
    → Ends (go (m.text u before) fs (ts ++ rest)) r

abbrev pub BranchesTurns : List Token → Tree → Type 0
BranchesTurns ts t = (cs : List (Tree × Tree)) (fs : List Frame) (rest : List Token) (r : Tree) → Ends (go (m.suffix false (onto branch_before cs t)) fs rest) r → Ends (go (m.want_pipe None) (m.branch_test cs ∷ fs) (ts ++ rest)) r

abbrev pub ArgsTurns : List Token → Trees → Type 0
ArgsTurns ts us = (v : Name) (ss : List Tree) (fs : List Frame) (rest : List Token) (r : Tree) → Ends (go (m.suffix false (tree.call v (onto more_trees ss us))) fs rest) r
    → Ends (go (m.want_pipe None) (m.argument v ss ∷ fs) (ts ++ symbol token.right_parenthesis ∷ rest)) r

abbrev pub ValTurns : List Token → Tree → Type 0
ValTurns ts t = Turns 11 (λ fs. m.want_value) (λ fs. m.have t) ts

abbrev pub EntTurns : List Token → Entry → Type 0
EntTurns ts e = (es : List Entry) (fs : List Frame) (rest : List Token) (r : Tree) → 11 ≤ follow rest → colon_next rest ≡ false → Ends (go (m.after_entry (es ++ e ∷ [])) fs rest) r → Ends (go (m.entry es) fs (ts ++ rest)) r

abbrev pub EntsTurns : List Token → Entries → Type 0
EntsTurns ts xs = (es : List Entry) (fs : List Frame) (rest : List Token) (r : Tree) → Ends (go (m.suffix false (tree.object (onto more_entries es xs))) fs rest) r → Ends (go (m.entry es) fs (ts ++ symbol token.right_brace ∷ rest)) r

abbrev pub PatTurns : List Token → Pattern → Type 0
PatTurns ts x = (fs : List Frame) (rest : List Token) (r : Tree) → Ends (go (m.have_pattern x) fs rest) r → Ends (go m.pattern_next fs (ts ++ rest)) r

abbrev pub PatsTurns : List Token → Patterns → Type 0
PatsTurns ts ps = (xs : List Pattern) (fs : List Frame) (rest : List Token) (r : Tree) → Ends (go (m.have_pattern (tree.items (onto more_patterns xs ps))) fs rest) r
    → Ends (go m.pattern_next (m.pattern_item xs ∷ fs) (ts ++ symbol token.right_bracket ∷ rest)) r

abbrev pub PEntTurns : List Token → Part → Type 0
PEntTurns ts q = (qs : List Part) (fs : List Frame) (rest : List Token) (r : Tree) → colon_next rest ≡ false → Ends (go (m.after_member (qs ++ q ∷ [])) fs rest) r → Ends (go (m.member qs) fs (ts ++ rest)) r

abbrev pub PEntsTurns : List Token → Parts → Type 0
PEntsTurns ts ps = (qs : List Part) (fs : List Frame) (rest : List Token) (r : Tree) → Ends (go (m.have_pattern (tree.members (onto more_parts qs ps))) fs rest) r → Ends (go (m.member qs) fs (ts ++ symbol token.right_brace ∷ rest)) r

abbrev pub CommasTurns : List Token → Tree → Type 0
CommasTurns ts t = Turns 10 (λ fs. m.want_pipe None) (λ fs. m.listed t) ts

abbrev pub OpenedTurns : List Token → Tree → Type 0
OpenedTurns ts t = (before : Option Tree) → Turns 12 (λ fs. m.want_pipe before) (λ fs. m.have (with_comma before t)) ts

-- after its first token, which is `def`
abbrev pub DefTurns : List Token → Name → List Parameter → Tree → Type 0
DefTurns ts v ps a = (d : DefinitionUse) (fs : List Frame) (rest : List Token) (r : Tree) → Ends (go (m.after_definition d (function_of v ps a)) fs rest) r → Ends (go (m.definition_next d) fs (tail (ts ++ rest))) r

-- all the tokens
abbrev pub MainTurns : List Token → Tree → Type 0
MainTurns ts t = (fs : List Frame) (r : Tree) → Ends (go (m.have t) fs []) r → Ends (go m.want_main fs ts) r

-- From which level on operators may follow an operand of level l.
abbrev pub top : ℕ → ℕ
top zero = 1
top (suc l) = next_from (side_of (suc l)) l

-- The first operand, and then the operators.
pub record Front (l : ℕ) (ts : List Token) (t : Tree) (rest : List Token) : Type 0 where
  pub operand : Tree
  pub after : List Token
  pub not_as : is_as (first after) ≡ false
  pub reads : (fs : List Frame) (r : Tree) → Ends (go (m.have operand) fs after) r → Ends (go m.want_una fs (ts ++ rest)) r
  pub climbs : (upto : ℕ) (fs : List Frame) (r : Tree) → l ≤ upto → ((from : ℕ) → from ≤ top l → Ends (go (m.operators t from upto) fs rest) r) → Ends (go (m.operators operand 1 upto) fs after) r

abbrev pub LevelTurns : ℕ → List Token → Tree → Type 0
LevelTurns l ts t = (rest : List Token) → May l rest → Front l ts t rest

pub onto-snoc : {A B : Type 0} (more : A → B → B) (xs : List A) (a : A) (b : B) → onto more (xs ++ a ∷ []) b ≡ onto more xs (more a b)
onto-snoc more [] a b = refl
onto-snoc more (x ∷ xs) a b = ap (more x) (onto-snoc more xs a b)

-- ---- unary operators

pub is_minus : (xs : List Token) (a : Tree) → UnaTurns xs a → UnaTurns (symbol token.minus ∷ xs) (tree.negation a)
unfolding turns
is_minus xs a i fs rest r h k = by_turn (i (m.negated ∷ fs) rest r h (by_turn k))

pub is_body_minus : (xs : List Token) (a : Tree) → BodyTurns xs a → BodyTurns (symbol token.minus ∷ xs) (tree.negation a)
unfolding turns
is_body_minus xs a i fs rest r h k = by_turn (i (m.negated ∷ fs) rest r h (by_turn k))

pub is_try_only : (xs : List Token) (a : Tree) → BodyTurns xs a → UnaTurns (keyword token.Try ∷ xs) (attempt a)
unfolding turns
is_try_only xs a i fs rest r h k = by_turn (i (m.tried ∷ fs) rest r (omega arith) (tried_stops a fs rest r h k))

pub is_try_catch : (xs ys : List Token) (a b : Tree) → BodyTurns xs a → BodyTurns ys b → UnaTurns (keyword token.Try ∷ (xs ++ keyword token.Catch ∷ ys)) (tree.try_catch a b)
unfolding opened
is_try_catch xs ys a b i j fs rest r h k = rw append_assoc (by_turn (i (m.tried ∷ fs) (keyword token.Catch ∷ (ys ++ rest)) r (omega arith) (by_turn (j (m.caught a ∷ fs) rest r (omega arith) (by_turn k)))))

pub post_end : (xs : List Token) (a : Tree) → PostTurns xs a → (fs : List Frame) (rest : List Token) (r : Tree) → 2 ≤ follow rest → Ends (go (m.have a) fs rest) r → Ends (go m.want_post fs (xs ++ rest)) r
post_end xs a i fs rest r h k = i fs rest r (omega arith) (λ last. suffix_stops last a fs rest r h k)

pub is_post : (xs : List Token) (a : Tree) → ((rest : List Token) → 3 ≤ kind (xs ++ rest)) → PostTurns xs a → UnaTurns xs a
is_post xs a b i fs rest r h k = una_begins fs (xs ++ rest) r (b rest) (post_end xs a i fs rest r (omega arith) k)

pub is_body_post : (xs : List Token) (a : Tree) → ((rest : List Token) → 3 ≤ kind (xs ++ rest)) → PostTurns xs a → BodyTurns xs a
is_body_post xs a b i fs rest r h k = body_begins fs (xs ++ rest) r (b rest) (post_end xs a i fs rest r h k)

-- ---- levels

next_from_le : (s : Side) (l : ℕ) → next_from s l ≤ suc (suc l)
next_from_le Left l = omega arith
next_from_le Right l = omega arith
next_from_le Neither l = omega arith

next_from_ge : (s : Side) (l : ℕ) → suc l ≤ next_from s l
next_from_ge Left l = omega arith
next_from_ge Right l = omega arith
next_from_ge Neither l = omega arith

top_le : (l : ℕ) → top l ≤ suc l
top_le zero = omega arith
top_le (suc l) = next_from_le (side_of (suc l)) l

pub is_operand : (xs : List Token) (a : Tree) → UnaTurns xs a → LevelTurns 0 xs a
is_operand xs a i rest may = record {
  operand = a;
  after = rest;
  not_as = no_as rest (may_3 0 rest may);
  reads = λ fs r k. i fs rest r (may_3 0 rest may) k;
  climbs = λ upto fs r h k. k 1 (omega arith);
}

pub is_tighter : (l : ℕ) (xs : List Token) (a : Tree) → LevelTurns l xs a → LevelTurns (suc l) xs a
is_tighter l xs a i rest may =
    let F = i rest (inl (may_tighter l rest may)) in record {
      operand = F.operand;
      after = F.after;
      not_as = F.not_as;
      reads = F.reads;
      climbs = λ upto fs r h k. F.climbs upto fs r (omega arith) (λ from f. k from (omega (arith, top_le l, next_from_ge (side_of (suc l)) l)));
    }

pub level_in : (l : ℕ) (ys : List Token) (b : Tree) → LevelTurns l ys b → (rest : List Token) → l + 3 ≤ follow rest → (fs : List Frame) (r : Tree) → Ends (go (m.have b) fs rest) r → Ends (go (m.want_level l) fs (ys ++ rest)) r
unfolding turns
level_in l ys b j rest h fs r k =
    let F = j rest (inl h) in by_turn (F.reads (m.climbing l ∷ fs) r (by_turn (F.climbs l fs r (omega arith) (λ from f. operators_stop b from l fs rest r h k))))

left_from : (l from : ℕ) → side_of (suc l) ≡ Left → from ≤ top (suc l) → from ≤ suc l
left_from l from s h = let e = ap (λ (w : Side). next_from w l) s in omega (arith, e)

joins : (l upto : ℕ) (o : Token) (a b : Tree) (rest : List Token) (fs : List Frame) (r : Tree) → ((from : ℕ) → from ≤ top (suc l) → Ends (go (m.operators (joined o a b) from upto) fs rest) r)
    → Ends (go (m.have b) (operated a o l upto ∷ fs) rest) r
unfolding turns
joins l upto o a b rest fs r k = by_turn (k (next_from (side_of (suc l)) l) (omega arith))

pub is_left : (l : ℕ) (o : Token) (xs ys : List Token) (a b : Tree) → level_of o ≡ suc l → side_of (suc l) ≡ Left → LevelTurns (suc l) xs a → LevelTurns l ys b → LevelTurns (suc l) (xs ++ o ∷ ys) (joined o a b)
is_left l o xs ys a b e s i j rest may =
    let F = i (o ∷ (ys ++ rest)) (inr (omega (arith, level_follow o (ys ++ rest) l e), s)) in record {
      operand = F.operand;
      after = F.after;
      not_as = F.not_as;
      reads = λ fs r k. rw append_assoc (F.reads fs r k);
      climbs = λ upto fs r h k. F.climbs upto fs r h (λ from f. operators_go a from upto o l fs (ys ++ rest) r e (left_from l from s f) h
          (rw s (level_in l ys b j rest (may_tighter l rest may) (operated a o l upto ∷ fs) r (joins l upto o a b rest fs r k))));
    }

pub is_right : (l : ℕ) (o : Token) (xs ys : List Token) (a b : Tree) → level_of o ≡ suc l → side_of (suc l) ≡ Right → LevelTurns l xs a → LevelTurns (suc l) ys b → LevelTurns (suc l) (xs ++ o ∷ ys) (joined o a b)
is_right l o xs ys a b e s i j rest (inr may) = absurd (cc (s, may.1))
is_right l o xs ys a b e s i j rest (inl may) =
    let F = i (o ∷ (ys ++ rest)) (inl (omega (arith, level_follow o (ys ++ rest) l e))) in record {
      operand = F.operand;
      after = F.after;
      not_as = F.not_as;
      reads = λ fs r k. rw append_assoc (F.reads fs r k);
      climbs = λ upto fs r h k. F.climbs upto fs r (omega arith) (λ from f. operators_go a from upto o l fs (ys ++ rest) r e (omega (arith, top_le l)) h
          (rw s (level_in (suc l) ys b j rest may (operated a o l upto ∷ fs) r (joins l upto o a b rest fs r k))));
    }

pub is_alone : (l : ℕ) (o : Token) (xs ys : List Token) (a b : Tree) → level_of o ≡ suc l → side_of (suc l) ≡ Neither → LevelTurns l xs a → LevelTurns l ys b → LevelTurns (suc l) (xs ++ o ∷ ys) (joined o a b)
is_alone l o xs ys a b e s i j rest (inr may) = absurd (cc (s, may.1))
is_alone l o xs ys a b e s i j rest (inl may) =
    let F = i (o ∷ (ys ++ rest)) (inl (omega (arith, level_follow o (ys ++ rest) l e))) in record {
      operand = F.operand;
      after = F.after;
      not_as = F.not_as;
      reads = λ fs r k. rw append_assoc (F.reads fs r k);
      climbs = λ upto fs r h k. F.climbs upto fs r (omega arith) (λ from f. operators_go a from upto o l fs (ys ++ rest) r e (omega (arith, top_le l)) h
          (rw s (level_in l ys b j rest (omega arith) (operated a o l upto ∷ fs) r (joins l upto o a b rest fs r k))));
    }

-- ---- pipes

operand_in : (before : Option Tree) (xs : List Token) (a : Tree) → ((rest : List Token) → 2 ≤ kind (xs ++ rest)) → LevelTurns 7 xs a → (fs : List Frame) (rest : List Token) (r : Tree) → 10 ≤ follow rest
    → Ends (go (m.listed (with_comma before a)) fs rest) r → Ends (go (m.want_pipe before) fs (xs ++ rest)) r
unfolding turns
operand_in before xs a b i fs rest r h k =
    let F = i rest (inl h) in
    pipe_begins before fs (xs ++ rest) r (b rest) (F.reads (m.operand before (begins_post (first (xs ++ rest))) ∷ fs) r
    (operand_ends before F.operand (begins_post (first (xs ++ rest))) fs F.after r F.not_as
    (F.climbs 7 (ends_operand before ∷ fs) r (omega arith) (λ from f. operators_stop a from 7 (ends_operand before ∷ fs) rest r h (by_turn k)))))

pub is_one : (xs : List Token) (a : Tree) → ((rest : List Token) → 2 ≤ kind (xs ++ rest)) → LevelTurns 7 xs a → CommasTurns xs a
is_one xs a b i fs rest r h k = operand_in None xs a b i fs rest r h k

pub is_more : (xs ys : List Token) (a b : Tree) → ((rest : List Token) → 2 ≤ kind (ys ++ rest)) → CommasTurns xs a → LevelTurns 7 ys b → CommasTurns (xs ++ symbol token.comma ∷ ys) (tree.comma a b)
unfolding opened
is_more xs ys a b w i j fs rest r h k = rw append_assoc (i fs (symbol token.comma ∷ (ys ++ rest)) r (omega arith) (by_turn (operand_in (Some a) ys b w j fs rest r h k)))

pub is_listed : (xs : List Token) (a : Tree) → CommasTurns xs a → PipeTurns xs a
is_listed xs a i fs rest r h k = i fs rest r (omega arith) (listed_stops a fs rest r h k)

pub is_piped : (xs ys : List Token) (a b : Tree) → CommasTurns xs a → PipeTurns ys b → PipeTurns (xs ++ symbol token.bar ∷ ys) (tree.pipe a b)
unfolding opened
is_piped xs ys a b i j fs rest r h k = rw append_assoc (i fs (symbol token.bar ∷ (ys ++ rest)) r (omega arith) (by_turn (j (m.piped a ∷ fs) rest r h (by_turn k))))

pub is_last_open : (xs ys : List Token) (a b : Tree) → CommasTurns xs a → OpenedTurns ys b → PipeTurns (xs ++ symbol token.comma ∷ ys) (tree.comma a b)
unfolding opened
is_last_open xs ys a b i j fs rest r h k = rw append_assoc (i fs (symbol token.comma ∷ (ys ++ rest)) r (omega arith) (by_turn (j (Some a) fs rest r h k)))

pub is_opened : (xs : List Token) (a : Tree) → OpenedTurns xs a → PipeTurns xs a
is_opened xs a i fs rest r h k = i None fs rest r h k

-- ---- definitions, labels and bindings

plain_head : (v : Name) (us : List Token) → function_head (name v ∷ symbol token.colon ∷ us) ≡ Some ((v, []), us)
unfolding function_head any_name any_name_on parameters parameters_on expect and_then
plain_head v us = refl

head_with : {ts : List Token} {ps : List Parameter} (v : Name) (us : List Token) → g.Parameters ts ps → function_head (name v ∷ symbol token.left_parenthesis ∷ (ts ++ symbol token.right_parenthesis ∷ symbol token.colon ∷ us)) ≡ Some ((v, ps), us)
unfolding follow function_head any_name any_name_on parameters parameters_on expect and_then
head_with v us d = rw (parameters_read d (symbol token.right_parenthesis ∷ symbol token.colon ∷ us) (omega arith))

pub is_plain_def : (v : Name) (xs : List Token) (a : Tree) → PipeTurns xs a → DefTurns (keyword token.Def ∷ name v ∷ symbol token.colon ∷ (xs ++ symbol token.semicolon ∷ [])) v [] a
unfolding opened
is_plain_def v xs a i d fs rest r k =
    rw append_assoc (head_read d fs (name v ∷ symbol token.colon ∷ (xs ++ symbol token.semicolon ∷ rest)) (xs ++ symbol token.semicolon ∷ rest) v [] r (plain_head v (xs ++ symbol token.semicolon ∷ rest))
    (i (m.definition_body d v [] ∷ fs) (symbol token.semicolon ∷ rest) r (omega arith) (by_turn k)))

pub is_def_with : (v : Name) (xs ys : List Token) (ps : List Parameter) (a : Tree) → g.Parameters xs ps → PipeTurns ys a
    → DefTurns (keyword token.Def ∷ name v ∷ symbol token.left_parenthesis ∷ (xs ++ symbol token.right_parenthesis ∷ symbol token.colon ∷ (ys ++ symbol token.semicolon ∷ []))) v ps a
unfolding opened
is_def_with v xs ys ps a w i d fs rest r k =
    simp append_assoc (head_read d fs (name v ∷ symbol token.left_parenthesis ∷ (xs ++ symbol token.right_parenthesis ∷ symbol token.colon ∷ (ys ++ symbol token.semicolon ∷ rest))) (ys ++ symbol token.semicolon ∷ rest) v ps r (head_with v (ys ++ symbol token.semicolon ∷ rest) w)
    (i (m.definition_body d v ps ∷ fs) (symbol token.semicolon ∷ rest) r (omega arith) (by_turn k)))

pub is_defined : (v : Name) (ps : List Parameter) (xs ys : List Token) (a b : Tree) → ((rest : List Token) → first (xs ++ rest) ≡ Some (keyword token.Def)) → DefTurns xs v ps a → PipeTurns ys b → OpenedTurns (xs ++ ys) (definition v ps a b)
unfolding turns
is_defined v ps xs ys a b w i j before fs rest r h k =
    rw append_assoc (definition_begins before fs (xs ++ (ys ++ rest)) r (w (ys ++ rest)) (i (in_pipe before) fs (ys ++ rest) r
    (by_turn (j (m.definition_rest before (function_of v ps a) ∷ fs) rest r h (by_turn k)))))

pub is_labelled : (v : Name) (xs : List Token) (a : Tree) → PipeTurns xs a → OpenedTurns (keyword token.Label ∷ variable v ∷ symbol token.bar ∷ xs) (tree.label v a)
unfolding turns
is_labelled v xs a i before fs rest r h k = by_turn (i (m.label_rest before v ∷ fs) rest r h (by_turn k))

pub is_bound : (xs ps ys : List Token) (a b : Tree) (x : Pattern) → ((rest : List Token) → 3 ≤ kind (xs ++ rest)) → PostTurns xs a → PatTurns ps x → PipeTurns ys b
    → OpenedTurns (xs ++ keyword token.As ∷ (ps ++ symbol token.bar ∷ ys)) (tree.bind_as a x b)
unfolding opened
is_bound xs ps ys a b x w i q j before fs rest r h k =
    simp append_assoc (
    let us = xs ++ keyword token.As ∷ (ps ++ symbol token.bar ∷ (ys ++ rest)) in
    let after = ps ++ symbol token.bar ∷ (ys ++ rest) in
    pipe_begins before fs us r (omega (arith, w (keyword token.As ∷ after)))
    (una_begins (m.operand before (begins_post (first us)) ∷ fs) us r (w (keyword token.As ∷ after))
    (post_end xs a i (m.operand before (begins_post (first us)) ∷ fs) (keyword token.As ∷ after) r (omega arith)
    (operand_binds before a (begins_post (first us)) fs after r (post_begins us (w (keyword token.As ∷ after)))
    (q (m.binding_pattern before a ∷ fs) (symbol token.bar ∷ (ys ++ rest)) r (by_turn (j (m.binding_rest before a x ∷ fs) rest r h (by_turn k))))))))

-- ---- strings

pub is_one_piece : (s : List ℕ) → StrTurns (piece s ∷ []) (last_piece s)
is_one_piece s u before fs rest r h k = piece_stops u before s fs rest r h k

pub is_interpolated : (s : List ℕ) (xs ys : List Token) (t : Tree) (ps : Pieces) → PipeTurns xs t → StrTurns ys ps → StrTurns (piece s ∷ interpolation ∷ (xs ++ symbol token.right_parenthesis ∷ ys)) (more_pieces s t ps)
unfolding opened
is_interpolated s xs ys t ps i j u before fs rest r h k =
    rw append_assoc (by_turn (i (m.text_part u before s ∷ fs) (symbol token.right_parenthesis ∷ (ys ++ rest)) r (omega arith)
    (by_turn (j u (before ++ (s, t) ∷ []) fs rest r h (rw (onto-snoc piece_before before (s, t) ps) k)))))

-- ---- patterns

pub is_pat_variable : (v : Name) → PatTurns (variable v ∷ []) (tree.whole v)
unfolding turns
is_pat_variable v fs rest r k = by_turn k

pub is_pat_items : (xs : List Token) (ps : Patterns) → PatsTurns xs ps → PatTurns (symbol token.left_bracket ∷ (xs ++ symbol token.right_bracket ∷ [])) (tree.items ps)
unfolding turns
is_pat_items xs ps i fs rest r k = rw append_assoc (by_turn (i [] fs rest r k))

pub is_pat_members : (xs : List Token) (ps : Parts) → PEntsTurns xs ps → PatTurns (symbol token.left_brace ∷ (xs ++ symbol token.right_brace ∷ [])) (tree.members ps)
unfolding turns
is_pat_members xs ps i fs rest r k = rw append_assoc (by_turn (i [] fs rest r k))

pub is_one_pat : (xs : List Token) (x : Pattern) → PatTurns xs x → PatsTurns xs (more_patterns x no_patterns)
unfolding turns
is_one_pat xs x i ws fs rest r k = i (m.pattern_item ws ∷ fs) (symbol token.right_bracket ∷ rest) r (by_turn (rw (onto-snoc more_patterns ws x no_patterns) k))

pub is_more_pats : (xs ys : List Token) (x : Pattern) (ps : Patterns) → PatTurns xs x → PatsTurns ys ps → PatsTurns (xs ++ symbol token.comma ∷ ys) (more_patterns x ps)
unfolding turns
is_more_pats xs ys x ps i j ws fs rest r k =
    rw append_assoc (i (m.pattern_item ws ∷ fs) (symbol token.comma ∷ (ys ++ symbol token.right_bracket ∷ rest)) r (by_turn (j (ws ++ x ∷ []) fs rest r (rw (onto-snoc more_patterns ws x ps) k))))

-- the pattern after a key
part_value : (qs : List Part) (key : built.PartKey) (xs : List Token) (x : Pattern) → PatTurns xs x → (fs : List Frame) (rest : List Token) (r : Tree) → Ends (go (m.after_member (qs ++ built.part_with key x ∷ [])) fs rest) r
    → Ends (go m.pattern_next (m.pattern_member qs key ∷ fs) (xs ++ rest)) r
unfolding turns
part_value qs key xs x i fs rest r k = i (m.pattern_member qs key ∷ fs) rest r (by_turn k)

pub is_pent_variable : (v : Name) → PEntTurns (variable v ∷ []) (tree.keyed (name_of v) (tree.whole v))
is_pent_variable v qs fs rest r c k = variable_stops qs v fs rest r c k

pub is_pent_variable_with : (v : Name) (xs : List Token) (x : Pattern) → PatTurns xs x → PEntTurns (variable v ∷ symbol token.colon ∷ xs) (tree.keyed_variable v x)
unfolding turns
is_pent_variable_with v xs x i qs fs rest r c k = by_turn (part_value qs (by_variable v) xs x i fs rest r k)

key_of_part : (qs : List Part) (key : Token) (s : List ℕ) (fs : List Frame) (us : List Token) (r : Tree) → Key key s → Ends (part_key_turn qs (by_tree (name_of s)) fs us) r → Ends (go (m.member qs) fs (key ∷ us)) r
unfolding turns
key_of_part qs key s fs us r key_name k = by_turn k
key_of_part qs key s fs us r (key_word w) k = by_turn k

pub is_pent_key : (key : Token) (s : List ℕ) (xs : List Token) (x : Pattern) → Key key s → PatTurns xs x → PEntTurns (key ∷ symbol token.colon ∷ xs) (tree.keyed (name_of s) x)
unfolding part_key_turn
is_pent_key key s xs x w i qs fs rest r c k = key_of_part qs key s fs (symbol token.colon ∷ (xs ++ rest)) r w (part_value qs (by_tree (name_of s)) xs x i fs rest r k)

pub is_pent_text : (xs ys : List Token) (ps : Pieces) (x : Pattern) → ((rest : List Token) → (s : List ℕ) × (first (xs ++ rest) ≡ Some (piece s))) → StrTurns xs ps → PatTurns ys x → PEntTurns (xs ++ symbol token.colon ∷ ys) (tree.keyed (text_of ps) x)
unfolding opened
is_pent_text xs ys ps x b i j qs fs rest r c k =
    rw append_assoc (text_part_begins qs (b (symbol token.colon ∷ (ys ++ rest))).0 fs (xs ++ symbol token.colon ∷ (ys ++ rest)) r (b (symbol token.colon ∷ (ys ++ rest))).1
    (i (m.as_part_key qs) [] fs (symbol token.colon ∷ (ys ++ rest)) r (omega arith) (by_turn (part_value qs (by_tree (text_of ps)) ys x j fs rest r k))))

pub is_pent_computed : (xs ys : List Token) (a : Tree) (x : Pattern) → PipeTurns xs a → PatTurns ys x → PEntTurns (symbol token.left_parenthesis ∷ (xs ++ symbol token.right_parenthesis ∷ symbol token.colon ∷ ys)) (tree.keyed a x)
unfolding opened
is_pent_computed xs ys a x i j qs fs rest r c k =
    rw append_assoc (by_turn (i (m.member_key qs ∷ fs) (symbol token.right_parenthesis ∷ symbol token.colon ∷ (ys ++ rest)) r (omega arith) (by_turn (part_value qs (by_tree a) ys x j fs rest r k))))

pub is_one_pent : (xs : List Token) (x : Part) → PEntTurns xs x → PEntsTurns xs (more_parts x no_parts)
unfolding turns
is_one_pent xs x i qs fs rest r k = i qs fs (symbol token.right_brace ∷ rest) r refl (by_turn (rw (onto-snoc more_parts qs x no_parts) k))

pub is_more_pents : (xs ys : List Token) (x : Part) (ps : Parts) → PEntTurns xs x → PEntsTurns ys ps → PEntsTurns (xs ++ symbol token.comma ∷ ys) (more_parts x ps)
unfolding turns
is_more_pents xs ys x ps i j qs fs rest r k =
    rw append_assoc (i qs fs (symbol token.comma ∷ (ys ++ symbol token.right_brace ∷ rest)) r refl (by_turn (j (qs ++ x ∷ []) fs rest r (rw (onto-snoc more_parts qs x ps) k))))
