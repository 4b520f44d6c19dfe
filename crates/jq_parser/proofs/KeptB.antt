-- The turns of operators, strings, entries and patterns keep the invariant of the frames.
use Rattle.std.proofs.Common.{◌≡◌, ℕ, zero, suc, ◌≤◌, ◌<◌, List, [], ◌∷◌, ◌++◌, Bool, true, false, None, refl, sym, ap, subst, ◌∙◌, append_assoc, arith, ◌⊎◌, inl, inr}
use Rattle.std.proofs.Math.Nat.{eq-or-lt_of_le}
use Rattle.std.specs.Prelude.{◌==◌, ◌&&◌, nat_le, if◌then◌else◌}
use Rattle.std.proofs.lemmas.Bool.{leb-true, eqb-true}
use Rattle.jq_tree.specs.Tree.{Name, Tree, Pieces, last_piece, Entry, no_entries, more_entries, Pattern, no_patterns, more_patterns, Part, no_parts, more_parts}
use Rattle.jq_tree.specs.Tree as tree
use Rattle.jq_tree.specs.Token.{keyword_text, Symbol, Token, keyword, name, variable, format, piece, interpolation, symbol}
use Rattle.jq_tree.specs.Token as token
use Rattle.jq_tree.specs.Grammar.{level_of, Side, Left, Right, Neither, side_of, joined, name_of, text_of, key_name, key_word}
use Rattle.jq_tree.specs.Grammar as g
use Rattle.jq_builders.specs.Trees as built
use Rattle.jq_builders.specs.Trees.{EntryKey, by_word, by_text, by_format, entry_of, onto, piece_before}
use Rattle.jq_parser.specs.laws.Machine as m
use Rattle.jq_parser.proofs.Stack as k
use Rattle.jq_parser.specs.laws.Combinators.{symbol_number}
use Rattle.jq_parser.proofs.Follow.{same_symbol}
use Rattle.jq_parser.proofs.Standing.{StartOn, starts_on}
use Rattle.jq_parser.proofs.Turned.{onto-snoc}
use Rattle.jq_parser.specs.laws.Machine.{TextUse, Frame, Next, go, stop, turns, expecting, right_level, next_from}
use Rattle.jq_parser.proofs.Stack.{Kind, a_pipe, a_level, a_pattern, OfPost, pipe_of_pipe, pipe_phrase, PatternsSoFar, ValueAfter, PatternAfter, fold_word, Stack, TextFor}
use Rattle.jq_parser.proofs.KeptA.{At, Had, Suffixed, Climbed, Commaed, Texting, Texted, AtEntry, AfterEntry, AtMember, AfterMember, Good}

-- ---- operators

le_or : (a b : ℕ) → a ≤ suc b → (a ≤ b) ⊎ (a ≡ suc b)
le_or a b h = split (eq-or-lt_of_le h)
  where
    split : (a ≡ suc b) ⊎ (a < suc b) → (a ≤ b) ⊎ (a ≡ suc b)
    split (inl e) = inr e
    split (inr w) = inl (omega arith)

pub up : (l m' : ℕ) (us : List Token) (t : Tree) → l ≤ m' → g.Level l us t → g.Level m' us t
up l zero us t h d = let e : l ≡ zero = omega arith in subst (λ (n : ℕ). g.Level n us t) e d
up l (suc m') us t h d = upper (le_or l m' h) (λ w. up l m' us t w d)
  where
    upper : (l ≤ m') ⊎ (l ≡ suc m') → (l ≤ m' → g.Level m' us t) → g.Level (suc m') us t
    upper (inl w) f = g.tighter (f w)
    upper (inr w) f = subst (λ (n : ℕ). g.Level n us t) w d

-- what may come before an operator of level l + 1
pub may_start : (from l j : ℕ) (us : List Token) (t : Tree) → from ≤ suc l → g.Level j us t → (j < from) ⊎ ((j ≡ from) × (side_of from ≡ Left)) → StartOn (side_of (suc l)) l us t
may_start from l j us t h d (inl w) = starts_on (side_of (suc l)) l us t (up j l us t (omega arith) d)
may_start from l j us t h d (inr w) = by_cases (le_or from l h)
  where
    by_cases : (from ≤ l) ⊎ (from ≡ suc l) → StartOn (side_of (suc l)) l us t
    by_cases (inl v) = starts_on (side_of (suc l)) l us t (up j l us t (omega (arith, w.0)) d)
    by_cases (inr v) = rw (sym (ap side_of v) ∙ w.1) (subst (λ (n : ℕ). g.Level n us t) (w.0 ∙ v) d)

pub operators_end : (all : List Token) (a : Tree) (from upto : ℕ) (fs : List Frame) (i : List Token) → Climbed all a from upto fs i → Had all a fs i
operators_end all a from upto fs i h = (a_level upto, h.0, h.1, h.3, up h.2 upto h.1 a h.5 h.4, h.7)

pub operator_test : (all : List Token) (a : Tree) (from upto : ℕ) (o : Token) (l : ℕ) (fs : List Frame) (i : List Token) (b c : Bool) → level_of o ≡ suc l → (b ≡ true → suc l ≤ upto) → (c ≡ true → from ≤ suc l)
    → Climbed all a from upto fs (o ∷ i) → Good all (if b && c then go (m.want_level (right_level (side_of (suc l)) l)) (m.operated a o l upto ∷ fs) i else go (m.have a) fs (o ∷ i))
operator_test all a from upto o l fs i true true e u f h =
    (h.0 ++ (h.1 ++ o ∷ []), k.operated h.1 h.3 e (u refl) (may_start from l h.2 h.1 a (f refl) h.4 h.6), simp append_assoc h.7)
operator_test all a from upto o l fs i true false e u f h = operators_end all a from upto fs (o ∷ i) h
operator_test all a from upto o l fs i false c e u f h = operators_end all a from upto fs (o ∷ i) h

pub operator_kept : (all : List Token) (a : Tree) (from upto : ℕ) (o : Token) (n : ℕ) (fs : List Frame) (i : List Token) → level_of o ≡ n → Climbed all a from upto fs (o ∷ i) → Good all (m.operator_turn a from upto o n fs i)
unfolding m.operator_turn
operator_kept all a from upto o zero fs i e h = operators_end all a from upto fs (o ∷ i) h
operator_kept all a from upto o (suc l) fs i e h =
    operator_test all a from upto o l fs i (nat_le (suc l) upto) (nat_le from (suc l)) e (λ w. leb-true (suc l) upto w) (λ w. leb-true from (suc l) w) h

pub operators_kept : (all : List Token) (a : Tree) (from upto : ℕ) (fs : List Frame) (i : List Token) → Climbed all a from upto fs i → Good all (m.operators_turn a from upto fs i)
unfolding m.operators_turn
operators_kept all a from upto fs [] h = operators_end all a from upto fs [] h
operators_kept all a from upto fs (o ∷ i) h = operator_kept all a from upto o (level_of o) fs i refl h

pub after_operator : (s : Side) (l : ℕ) → side_of (suc l) ≡ s → (suc l < next_from s l) ⊎ ((suc l ≡ next_from s l) × (side_of (next_from s l) ≡ Left))
after_operator Left l e = inr (refl, e)
after_operator Right l e = inl (omega arith)
after_operator Neither l e = inl (omega arith)

pub joined_level : (s : Side) (l : ℕ) (o : Token) (us vs : List Token) (a b : Tree) → side_of (suc l) ≡ s → level_of o ≡ suc l → StartOn s l us a → g.Level (right_level s l) vs b → g.Level (suc l) (us ++ o ∷ vs) (joined o a b)
joined_level Left l o us vs a b s e d f = g.to_left o e s d f
joined_level Right l o us vs a b s e d f = g.to_right o e s d f
joined_level Neither l o us vs a b s e d f = g.alone o e s d f

pub listed_kept : (all : List Token) (t : Tree) (fs : List Frame) (i : List Token) → Commaed all t fs i → Good all (m.listed_turn t fs i)
unfolding turns
listed_kept all t fs [] h = (h.0, h.1, h.2, h.4, pipe_phrase h.3 (g.listed h.5), h.6)
listed_kept all t fs (symbol token.comma ∷ i) h = (h.0, h.1, h.2 ++ symbol token.comma ∷ [], h.3, h.4, (h.2, h.5, refl), rw append_assoc h.6)
listed_kept all t fs (symbol token.bar ∷ i) h = (a_pipe, h.1 ++ (h.2 ++ symbol token.bar ∷ []), [], pipe_of_pipe, k.piped h.3 h.4 h.5, refl, simp append_assoc h.6)
listed_kept all t fs (c ∷ i) h = (h.0, h.1, h.2, h.4, pipe_phrase h.3 (g.listed h.5), h.6)

-- ---- strings

pub piece_ends : (all : List Token) (u : TextUse) (before : List (List ℕ × Tree)) (s : List ℕ) (fs : List Frame) (i : List Token) → Texting all u before fs (piece s ∷ i) → Texted all u (onto piece_before before (last_piece s)) fs i
piece_ends all u before s fs i h = (h.0, h.1 ++ piece s ∷ [], h.2, h.3 (piece s ∷ []) (last_piece s) g.one_piece, rw append_assoc h.4)

pub piece_kept : (all : List Token) (u : TextUse) (before : List (List ℕ × Tree)) (s : List ℕ) (fs : List Frame) (i : List Token) → Texting all u before fs (piece s ∷ i) → Good all (m.piece_turn u before s fs i)
unfolding turns
piece_kept all u before s fs [] h = piece_ends all u before s fs [] h
piece_kept all u before s fs (interpolation ∷ i) h = (a_pipe, h.0 ++ (h.1 ++ piece s ∷ interpolation ∷ []), [], pipe_of_pipe, k.text_part h.1 h.2 h.3, refl, simp append_assoc h.4)
piece_kept all u before s fs (t ∷ i) h = piece_ends all u before s fs (t ∷ i) h

pub text_kept : (all : List Token) (u : TextUse) (before : List (List ℕ × Tree)) (fs : List Frame) (i : List Token) → Texting all u before fs i → Good all (m.text_turn u before fs i)
unfolding turns
text_kept all u before fs (piece s ∷ i) h = piece_kept all u before s fs i h
text_kept all u before fs i h = tt

-- an entry that ends at i
pub entered : (all : List Token) (es : List Entry) (e : Entry) (fs : List Frame) (us i : List Token) → AtEntry all es fs (us ++ i) → g.Ent us e → AfterEntry all (es ++ e ∷ []) fs i
entered all es e fs us i h d = (
  h.0,
  h.1,
  h.2 ++ us,
  h.3,
  h.4,
  rw (onto-snoc more_entries es e no_entries) (h.5 us (more_entries e no_entries) (g.one_ent d)),
  (λ ys xs f. rw (onto-snoc more_entries es e xs) (simp append_assoc (h.5 (us ++ symbol token.comma ∷ ys) (more_entries e xs) (g.more_ents d f)))),
  rw append_assoc h.6,
)

pub key_kept : (all : List Token) (es : List Entry) (key : EntryKey) (ks : List Token) (fs : List Frame) (i : List Token) → AtEntry all es fs (ks ++ i) → g.Ent ks (entry_of key None) → ValueAfter (ks ++ symbol token.colon ∷ []) (built.keyed_by key)
    → Good all (m.key_turn es key fs i)
unfolding turns
key_kept all es key ks fs [] h d f = entered all es (entry_of key None) fs ks [] h d
key_kept all es key ks fs (symbol token.colon ∷ i) h d f = (h.1 ++ symbol token.left_brace ∷ (h.2 ++ (ks ++ symbol token.colon ∷ [])), k.entry_value h.2 (ks ++ symbol token.colon ∷ []) h.3 h.4 h.5 f, simp append_assoc h.6)
key_kept all es key ks fs (t ∷ i) h d f = entered all es (entry_of key None) fs ks (t ∷ i) h d

pub expecting_kept : (all : List Token) (s : Symbol) (next : List Token → Next) (i : List Token) → ((j : List Token) → i ≡ symbol s ∷ j → Good all (next j)) → Good all (expecting s next i)
expecting_kept all s next [] h = tt
expecting_kept all s next (symbol t ∷ i) h = tested (symbol_number t == symbol_number s) (λ e. same_symbol t s (eqb-true (symbol_number t) (symbol_number s) e))
  where
    tested : (b : Bool) → (b ≡ true → t ≡ s) → Good all (if b then next i else stop)
    tested true e = h i (ap (λ (w : Symbol). symbol w ∷ i) (e refl))
    tested false e = tt
expecting_kept all s next (t ∷ i) h = tt

pub part_key_kept : (all : List Token) (qs : List Part) (key : built.PartKey) (ks : List Token) (fs : List Frame) (i : List Token) → AtMember all qs fs (ks ++ i) → PatternAfter (ks ++ symbol token.colon ∷ []) key → Good all (m.part_key_turn qs key fs i)
unfolding m.part_key_turn
part_key_kept all qs key ks fs i h f =
    expecting_kept all token.colon (λ j. go m.pattern_next (m.pattern_member qs key ∷ fs) j) i
    (λ j e. (h.0 ++ symbol token.left_brace ∷ (h.1 ++ (ks ++ symbol token.colon ∷ [])), k.pattern_member h.1 (ks ++ symbol token.colon ∷ []) h.2 h.3 f, simp append_assoc (rw e at h.4)))

pub post_text : (all : List Token) (t : Tree) (fs : List Frame) (kind : Kind) (ws us i : List Token) → OfPost kind → Stack all fs kind ws → g.Term us t → all ≡ ws ++ (us ++ i) → Suffixed all false t fs i
post_text all t fs kind ws us i o s d e = (kind, ws, us, o, s, g.term d, e)

pub text_done_kept : (all : List Token) (u : TextUse) (ps : Pieces) (fs : List Frame) (ws us i : List Token) → TextFor all u fs ws → g.Str us ps → all ≡ ws ++ (us ++ i) → Good all (m.text_done_turn u ps fs i)
unfolding m.text_done_turn
text_done_kept all m.as_term ps fs ws us i (k.as_term {ws = xs} {k = kind} o s) d e = post_text all (text_of ps) fs kind xs us i o s (g.a_text d) e
text_done_kept all (m.as_formatted f) ps fs ws us i (k.as_formatted {ws = xs} {k = kind} o s) d e = post_text all (tree.text f ps) fs kind xs (format f ∷ us) i o s (g.a_formatted d) (rw append_assoc at e)
text_done_kept all m.as_part_of_input ps fs ws us i (k.as_part_of_input {ws = xs} {k = kind} o s) d e = (kind, xs, symbol token.dot ∷ us, o, s, g.text_of_input d, rw append_assoc at e)
text_done_kept all (m.as_part_of a) ps fs ws us i (k.as_part_of {ws = xs} {us = vs} {k = kind} o s f) d e = (kind, xs, vs ++ symbol token.dot ∷ us, o, s, g.step_of f (g.suf_text d), simp append_assoc (simp append_assoc at e))
text_done_kept all (m.as_key es) ps fs ws us i (k.as_key {ws = xs} vs {k = kind} o s f) d e =
    key_kept all es (by_text ps) us fs i (kind, xs, vs, o, s, f, rw append_assoc at e) (g.ent_text d) (λ ys v w. rw append_assoc (g.ent_text_value d w))
text_done_kept all (m.as_formatted_key es f) ps fs ws us i (k.as_formatted_key {ws = xs} vs {k = kind} o s w) d e =
    key_kept all es (by_format f ps) (format f ∷ us) fs i (kind, xs, vs, o, s, w, simp append_assoc at e) (g.ent_formatted d) (λ ys v w'. rw append_assoc (g.ent_formatted_value d w'))
text_done_kept all (m.as_part_key qs) ps fs ws us i (k.as_part_key {ws = xs} vs s f) d e =
    part_key_kept all qs (built.by_tree (text_of ps)) us fs i (xs, vs, s, f, rw append_assoc at e) (λ ys x w. rw append_assoc (g.pent_text d w))

-- ---- entries

pub entry_kept : (all : List Token) (es : List Entry) (fs : List Frame) (i : List Token) → AtEntry all es fs i → Good all (m.entry_turn es fs i)
unfolding turns
entry_kept all es fs [] h = tt
entry_kept all es fs (variable v ∷ i) h = entered all es (tree.named v (tree.variable v)) fs (variable v ∷ []) i h g.ent_variable
entry_kept all es fs (name v ∷ i) h = key_kept all es (by_word v) (name v ∷ []) fs i h (g.ent_key key_name) (λ ys w d. g.ent_key_value key_name d)
entry_kept all es fs (keyword w ∷ i) h = key_kept all es (by_word (keyword_text w)) (keyword w ∷ []) fs i h (g.ent_key (key_word w)) (λ ys v d. g.ent_key_value (key_word w) d)
entry_kept all es fs (piece s ∷ i) h = (h.1 ++ symbol token.left_brace ∷ h.2, [], k.as_key h.2 h.3 h.4 h.5, (λ ys ps d. d), rw append_assoc h.6)
entry_kept all es fs (format f ∷ i) h = (h.1 ++ symbol token.left_brace ∷ (h.2 ++ format f ∷ []), [], k.as_formatted_key h.2 h.3 h.4 h.5, (λ ys ps d. d), simp append_assoc h.6)
entry_kept all es fs (symbol token.left_parenthesis ∷ i) h = (a_pipe, h.1 ++ symbol token.left_brace ∷ (h.2 ++ symbol token.left_parenthesis ∷ []), [], pipe_of_pipe, k.entry_key h.2 h.3 h.4 h.5, refl, simp append_assoc h.6)
entry_kept all es fs (t ∷ i) h = tt

pub after_entry_kept : (all : List Token) (es : List Entry) (fs : List Frame) (i : List Token) → AfterEntry all es fs i → Good all (m.after_entry_turn es fs i)
unfolding turns
after_entry_kept all es fs [] h = tt
after_entry_kept all es fs (symbol token.comma ∷ i) h = (h.0, h.1, h.2 ++ symbol token.comma ∷ [], h.3, h.4, h.6, rw append_assoc h.7)
after_entry_kept all es fs (symbol token.right_brace ∷ i) h = (h.0, h.1, symbol token.left_brace ∷ (h.2 ++ symbol token.right_brace ∷ []), h.3, h.4, g.term (g.members h.5), rw append_assoc h.7)
after_entry_kept all es fs (t ∷ i) h = tt

-- ---- patterns

pub pattern_kept : (all : List Token) (fs : List Frame) (i : List Token) → At all a_pattern fs i → Good all (m.pattern_turn fs i)
unfolding turns
pattern_kept all fs [] h = tt
pattern_kept all fs (variable v ∷ i) h = (h.0, variable v ∷ [], h.1, g.pat_variable, h.2)
pattern_kept all fs (symbol token.left_bracket ∷ i) h = (h.0 ++ symbol token.left_bracket ∷ [], k.pattern_item [] h.1 (λ ys ps d. d), rw append_assoc h.2)
pattern_kept all fs (symbol token.left_brace ∷ i) h = (h.0, [], h.1, (λ ys ps d. d), h.2)
pattern_kept all fs (t ∷ i) h = tt

-- a part that ends at i
pub membered : (all : List Token) (qs : List Part) (q : Part) (fs : List Frame) (us i : List Token) → AtMember all qs fs (us ++ i) → g.PEnt us q → AfterMember all (qs ++ q ∷ []) fs i
membered all qs q fs us i h d = (
  h.0,
  h.1 ++ us,
  h.2,
  rw (onto-snoc more_parts qs q no_parts) (h.3 us (more_parts q no_parts) (g.one_pent d)),
  (λ ys xs f. rw (onto-snoc more_parts qs q xs) (simp append_assoc (h.3 (us ++ symbol token.comma ∷ ys) (more_parts q xs) (g.more_pents d f)))),
  rw append_assoc h.4,
)

pub variable_member_kept : (all : List Token) (qs : List Part) (v : Name) (fs : List Frame) (i : List Token) → AtMember all qs fs (variable v ∷ i) → Good all (m.variable_member_turn qs v fs i)
unfolding turns
variable_member_kept all qs v fs [] h = membered all qs (tree.keyed (name_of v) (tree.whole v)) fs (variable v ∷ []) [] h g.pent_variable
variable_member_kept all qs v fs (symbol token.colon ∷ i) h = (h.0 ++ symbol token.left_brace ∷ (h.1 ++ variable v ∷ symbol token.colon ∷ []), k.pattern_member h.1 (variable v ∷ symbol token.colon ∷ []) h.2 h.3 (λ ys x d. g.pent_variable_with d), simp append_assoc h.4)
variable_member_kept all qs v fs (t ∷ i) h = membered all qs (tree.keyed (name_of v) (tree.whole v)) fs (variable v ∷ []) (t ∷ i) h g.pent_variable

pub member_kept : (all : List Token) (qs : List Part) (fs : List Frame) (i : List Token) → AtMember all qs fs i → Good all (m.member_turn qs fs i)
unfolding turns
member_kept all qs fs [] h = tt
member_kept all qs fs (variable v ∷ i) h = variable_member_kept all qs v fs i h
member_kept all qs fs (name v ∷ i) h = part_key_kept all qs (built.by_tree (name_of v)) (name v ∷ []) fs i h (λ ys x d. g.pent_key key_name d)
member_kept all qs fs (keyword w ∷ i) h = part_key_kept all qs (built.by_tree (name_of (keyword_text w))) (keyword w ∷ []) fs i h (λ ys x d. g.pent_key (key_word w) d)
member_kept all qs fs (piece s ∷ i) h = (h.0 ++ symbol token.left_brace ∷ h.1, [], k.as_part_key h.1 h.2 h.3, (λ ys ps d. d), rw append_assoc h.4)
member_kept all qs fs (symbol token.left_parenthesis ∷ i) h = (a_pipe, h.0 ++ symbol token.left_brace ∷ (h.1 ++ symbol token.left_parenthesis ∷ []), [], pipe_of_pipe, k.member_key h.1 h.2 h.3, refl, simp append_assoc h.4)
member_kept all qs fs (t ∷ i) h = tt

pub after_member_kept : (all : List Token) (qs : List Part) (fs : List Frame) (i : List Token) → AfterMember all qs fs i → Good all (m.after_member_turn qs fs i)
unfolding turns
after_member_kept all qs fs [] h = tt
after_member_kept all qs fs (symbol token.comma ∷ i) h = (h.0, h.1 ++ symbol token.comma ∷ [], h.2, h.4, rw append_assoc h.5)
after_member_kept all qs fs (symbol token.right_brace ∷ i) h = (h.0, symbol token.left_brace ∷ (h.1 ++ symbol token.right_brace ∷ []), h.2, g.pat_members h.3, rw append_assoc h.5)
after_member_kept all qs fs (t ∷ i) h = tt

pub item_kept : (all : List Token) (xs : List Pattern) (x : Pattern) (fs : List Frame) (ws vs us i : List Token) → Stack all fs a_pattern ws → PatternsSoFar vs xs → g.Pat us x → all ≡ ws ++ symbol token.left_bracket ∷ (vs ++ (us ++ i))
    → Good all (m.pattern_item_turn (xs ++ x ∷ []) fs i)
unfolding turns
item_kept all xs x fs ws vs us [] s f d e = tt
item_kept all xs x fs ws vs us (symbol token.comma ∷ i) s f d e =
    (ws ++ symbol token.left_bracket ∷ (vs ++ (us ++ symbol token.comma ∷ [])), k.pattern_item (vs ++ (us ++ symbol token.comma ∷ [])) s (λ ys ps w. rw (onto-snoc more_patterns xs x ps) (simp append_assoc (f (us ++ symbol token.comma ∷ ys) (more_patterns x ps) (g.more_pats d w)))), simp append_assoc e)
item_kept all xs x fs ws vs us (symbol token.right_bracket ∷ i) s f d e =
    (ws, symbol token.left_bracket ∷ (vs ++ (us ++ symbol token.right_bracket ∷ [])), s, rw (onto-snoc more_patterns xs x no_patterns) (rw append_assoc at (g.pat_items (f us (more_patterns x no_patterns) (g.one_pat d)))), simp append_assoc e)
item_kept all xs x fs ws vs us (t ∷ i) s f d e = tt

pub have_pattern_kept : (all : List Token) (x : Pattern) (fs : List Frame) (ws us i : List Token) → Stack all fs a_pattern ws → g.Pat us x → all ≡ ws ++ (us ++ i) → Good all (m.have_pattern_turn x fs i)
unfolding m.have_pattern_turn
have_pattern_kept all x fs ws us i (k.pattern_item {ws = vws} vs {fs = gs} {xs = xs} s f) d e = item_kept all xs x gs vws vs us i s f d (simp append_assoc at e)
have_pattern_kept all x fs ws us i (k.pattern_member {ws = vws} vs ks {fs = gs} {qs = qs} {key = key} s f b) d e =
    membered all qs (built.part_with key x) gs (ks ++ us) i (vws, vs, s, f, simp append_assoc (simp append_assoc at e)) (b us x d)
have_pattern_kept all x fs ws us i (k.binding_pattern {ws = vws} vs {us = xs} {fs = gs} {k = kind} {before = before} {a = a} o s b f) d e =
    expecting_kept all token.bar (λ j. go (m.want_pipe None) (m.binding_rest before a x ∷ gs) j) i
    (λ j w. (a_pipe, (vws ++ vs) ++ (xs ++ keyword token.As ∷ (us ++ symbol token.bar ∷ [])), [], pipe_of_pipe, k.binding_rest vs o s b f d, refl, simp append_assoc (simp (append_assoc, w) at e)))
have_pattern_kept all x fs ws us i (k.fold_pattern {ws = vws} {us = xs} {fs = gs} {k = kind} {f = q} {a = a} o s f) d e =
    expecting_kept all token.left_parenthesis (λ j. go (m.want_pipe None) (m.fold_start q a x ∷ gs) j) i
    (λ j w. (a_pipe, vws ++ fold_word q ∷ (xs ++ keyword token.As ∷ (us ++ symbol token.left_parenthesis ∷ [])), [], pipe_of_pipe, k.fold_start o s f d, refl, simp append_assoc (simp (append_assoc, w) at e)))
