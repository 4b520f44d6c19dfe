-- Each turn keeps the invariant of the frames, so the tree that the turns end with is that of the tokens.
use Rattle.std.proofs.Common.{◌≡◌, suc, List, [], ◌∷◌, ◌++◌, Bool, true, false, Option, Some, None, refl, sym, ap, subst, ◌∙◌, append_assoc, arith, inl}
use Rattle.std.proofs.lemmas.List.{append-nil, append_cancel_left}
use Rattle.std.proofs.lemmas.Option.{same_Some}
use Rattle.jq_tree.specs.Tree.{Name, Tree, no_trees, more_trees, more_pieces, Pattern}
use Rattle.jq_tree.specs.Tree as tree
use Rattle.jq_tree.specs.Token.{Token, keyword, name, variable, piece, interpolation, symbol}
use Rattle.jq_tree.specs.Token as token
use Rattle.jq_tree.specs.WrittenOut.{Parameter}
use Rattle.jq_tree.specs.Grammar.{side_of, to_part, to_slice, with_suffix, no_bound}
use Rattle.jq_tree.specs.Grammar as g
use Rattle.jq_builders.specs.Trees as built
use Rattle.jq_builders.specs.Trees.{Function, defining, onto, piece_before, branch_before}
use Rattle.jq_parser.specs.laws.Machine as m
use Rattle.jq_parser.proofs.Stack as k
use Rattle.jq_parser.specs.laws.Combinators.{Outcome, first, tail}
use Rattle.jq_parser.proofs.Takes.{bind_some, on, after_front, any_name_is, expect_is}
use Rattle.jq_parser.specs.laws.Forms.{begins_post, is_as, both_of}
use Rattle.jq_parser.proofs.Standing.{Before, opened_in, commas_in, Listed, def_in, una_is_post, both_is, sound_parameters}
use Rattle.jq_parser.proofs.Turned.{onto-snoc}
use Rattle.jq_parser.proofs.Ends.{Ends, at_end, by_turn}
use Rattle.jq_parser.specs.laws.Machine.{DefinitionUse, Frame, Mode, Next, go, turns, expecting, turn}
use Rattle.jq_parser.proofs.Stack.{Kind, a_main, a_pipe, a_una, a_body, a_value, Phrase, OfPost, OfPipe, pipe_of_pipe, pipe_phrase, ArgsSoFar, BranchesSoFar, ElseSoFar, SuffixAfter, fold_word, Stack}
use Rattle.jq_parser.proofs.KeptA.{AtPipe, Defining, Defined, Kept, Good, main_kept, pipe_kept, una_kept, body_kept, post_kept, suffix_kept, bracket_kept}
use Rattle.jq_parser.proofs.KeptB.{operators_kept, after_operator, joined_level, listed_kept, text_kept, entered, expecting_kept, text_done_kept, entry_kept, after_entry_kept, pattern_kept, member_kept, after_member_kept, have_pattern_kept}

-- ---- definitions

pub head_sound : (i : List Token) (y : (Name × List Parameter) × List Token) → m.function_head i ≡ Some y → (hs : List Token) × Listed hs y.0.1 × (i ≡ name y.0.0 ∷ (hs ++ symbol token.colon ∷ y.1))
unfolding m.function_head
head_sound i y e =
    let b = bind_some _ _ _ e in
    let c = bind_some _ _ _ b.2 in
    let d = bind_some _ _ _ c.2 in
    let r = sound_parameters _ _ c.1 in
    let w : ((b.0.0, c.0.0), d.0.1) ≡ y = same_Some _ _ d.2 in
    subst (λ (z : (Name × List Parameter) × List Token). (hs : List Token) × Listed hs z.0.1 × (i ≡ name z.0.0 ∷ (hs ++ symbol token.colon ∷ z.1))) w
    (r.us, r.means, any_name_is _ _ b.1 ∙ on (name b.0.0) _ _ (r.parts ∙ after_front r.us _ _ (expect_is _ _ _ d.1)))

definition_kept : (all : List Token) (d : DefinitionUse) (fs : List Frame) (i : List Token) (o : Outcome (Name × List Parameter)) → m.function_head i ≡ o → Defining all d fs i → Good all (m.on_definition d fs o)
unfolding m.on_definition
definition_kept all (m.in_pipe before) fs i (Some y) e h =
    let r = head_sound i y e in
    (a_pipe, (h.1 ++ h.2) ++ keyword token.Def ∷ name y.0.0 ∷ (r.0 ++ symbol token.colon ∷ []), [], pipe_of_pipe, k.body_in_pipe h.2 r.0 h.3 h.4 h.5 r.1, refl, simp append_assoc (h.6 ∙ ap (λ (us : List Token). h.1 ++ (h.2 ++ keyword token.Def ∷ us)) r.2))
definition_kept all m.in_main fs i (Some y) e h =
    let r = head_sound i y e in
    (a_pipe, h.0 ++ keyword token.Def ∷ name y.0.0 ∷ (r.0 ++ symbol token.colon ∷ []), [], pipe_of_pipe, k.body_in_main r.0 h.1 r.1, refl, simp append_assoc (h.2 ∙ ap (λ (us : List Token). h.0 ++ keyword token.Def ∷ us) r.2))
definition_kept all d fs i None e h = tt

after_definition_kept : (all : List Token) (d : DefinitionUse) (f : Function) (fs : List Frame) (i : List Token) → Defined all d f fs i → Good all (m.after_definition_turn d f fs i)
unfolding m.after_definition_turn
after_definition_kept all (m.in_pipe before) f fs i h = (a_pipe, (h.1 ++ h.2) ++ h.3, [], pipe_of_pipe, k.definition_rest h.2 h.4 h.5 h.6 h.7, refl, simp append_assoc h.8)
after_definition_kept all m.in_main f fs i h = (h.0 ++ h.1, k.main_rest h.2 h.3, rw append_assoc h.4)

-- ---- a phrase for which a frame waits

end_kept : (all : List Token) (t : Tree) (us i : List Token) → g.Main us t → all ≡ us ++ i → Good all (m.end_turn t i)
unfolding turns
end_kept all t us [] d e = subst (λ (ws : List Token). g.Main ws t) (sym (e ∙ append-nil us)) d
end_kept all t us (c ∷ i) d e = tt

tried_kept : (all : List Token) (t : Tree) (fs : List Frame) (ws us i : List Token) → Stack all fs a_una ws → g.Body us t → all ≡ ws ++ keyword token.Try ∷ (us ++ i) → Good all (m.tried_turn t fs i)
unfolding turns
tried_kept all t fs ws us [] s d e = (a_una, ws, keyword token.Try ∷ us, s, g.try_only d, e)
tried_kept all t fs ws us (keyword token.Catch ∷ i) s d e = (ws ++ keyword token.Try ∷ (us ++ keyword token.Catch ∷ []), k.caught s d, simp append_assoc e)
tried_kept all t fs ws us (c ∷ i) s d e = (a_una, ws, keyword token.Try ∷ us, s, g.try_only d, e)

as_next : (i : List Token) → is_as (first i) ≡ true → i ≡ keyword token.As ∷ tail i
as_next [] e = absurd (cc e)
as_next (keyword token.As ∷ i) e = refl
as_next (t ∷ i) e = absurd (cc e)

both_right : (b c : Bool) → both_of b c ≡ true → c ≡ true
both_right true c e = e
both_right false c e = absurd (cc e)

operand_kept : (all : List Token) (before : Option Tree) (t : Tree) (test : Bool) (fs : List Frame) (kind : Kind) (ws vs us i : List Token) → OfPipe kind → Stack all fs kind ws → Before before vs → g.Una us t
    → (test ≡ true → g.Post us t) → (test ≡ true → i ≡ keyword token.As ∷ tail i) → all ≡ (ws ++ vs) ++ (us ++ i) → Good all (m.operand_turn before t test fs i)
unfolding m.operand_turn
operand_kept all before t true fs kind ws vs us i o s b d f n e =
    ((ws ++ vs) ++ (us ++ keyword token.As ∷ []), k.binding_pattern vs o s b (f refl), simp append_assoc (simp append_assoc at (e ∙ ap (λ (j : List Token). (ws ++ vs) ++ (us ++ j)) (n refl))))
operand_kept all before t false fs kind ws vs us i o s b d f n e = (ws ++ vs, us, 0, k.ends_operand vs o s b, g.operand d, omega arith, inl (omega arith), e)

argument_kept : (all : List Token) (n : Name) (ss : List Tree) (t : Tree) (fs : List Frame) (kind : Kind) (ws vs us i : List Token) → OfPost kind → Stack all fs kind ws → ArgsSoFar vs ss → g.Pipe us t
    → all ≡ ws ++ name n ∷ symbol token.left_parenthesis ∷ (vs ++ (us ++ i)) → Good all (m.argument_turn n (ss ++ t ∷ []) fs i)
unfolding turns
argument_kept all n ss t fs kind ws vs us [] o s f d e = tt
argument_kept all n ss t fs kind ws vs us (symbol token.semicolon ∷ i) o s f d e = (
  a_pipe,
  ws ++ name n ∷ symbol token.left_parenthesis ∷ (vs ++ (us ++ symbol token.semicolon ∷ [])),
  [],
  pipe_of_pipe,
  k.argument (vs ++ (us ++ symbol token.semicolon ∷ [])) o s (λ ys xs w. rw (onto-snoc more_trees ss t xs) (simp append_assoc (f (us ++ symbol token.semicolon ∷ ys) (more_trees t xs) (g.more_args d w)))),
  refl,
  simp append_assoc e,
)
argument_kept all n ss t fs kind ws vs us (symbol token.right_parenthesis ∷ i) o s f d e =
    (kind, ws, name n ∷ symbol token.left_parenthesis ∷ ((vs ++ us) ++ symbol token.right_parenthesis ∷ []), o, s, g.term (g.call_with (rw (onto-snoc more_trees ss t no_trees) (f us (more_trees t no_trees) (g.one_arg d)))), simp append_assoc e)
argument_kept all n ss t fs kind ws vs us (c ∷ i) o s f d e = tt

test_kept : (all : List Token) (cs : List (Tree × Tree)) (t : Tree) (fs : List Frame) (kind : Kind) (ws vs us i : List Token) → OfPost kind → Stack all fs kind ws → BranchesSoFar vs cs → g.Pipe us t
    → all ≡ ws ++ keyword token.If ∷ (vs ++ (us ++ i)) → Good all (m.test_turn cs t fs i)
unfolding turns
test_kept all cs t fs kind ws vs us [] o s f d e = tt
test_kept all cs t fs kind ws vs us (keyword token.Then ∷ i) o s f d e = (a_pipe, ws ++ keyword token.If ∷ (vs ++ (us ++ keyword token.Then ∷ [])), [], pipe_of_pipe, k.branch_holds vs o s f d, refl, simp append_assoc e)
test_kept all cs t fs kind ws vs us (c ∷ i) o s f d e = tt

branch_kept : (all : List Token) (cs : List (Tree × Tree)) (a t : Tree) (fs : List Frame) (kind : Kind) (ws vs xs us i : List Token) → OfPost kind → Stack all fs kind ws → BranchesSoFar vs cs → g.Pipe xs a → g.Pipe us t
    → all ≡ ws ++ keyword token.If ∷ (vs ++ (xs ++ keyword token.Then ∷ (us ++ i))) → Good all (m.branch_turn (cs ++ (a, t) ∷ []) fs i)
unfolding turns
branch_kept all cs a t fs kind ws vs xs us [] o s f p d e = tt
branch_kept all cs a t fs kind ws vs xs us (keyword token.Elif ∷ i) o s f p d e = (
  a_pipe,
  ws ++ keyword token.If ∷ (vs ++ (xs ++ keyword token.Then ∷ (us ++ keyword token.Elif ∷ []))),
  [],
  pipe_of_pipe,
  k.branch_test (vs ++ (xs ++ keyword token.Then ∷ (us ++ keyword token.Elif ∷ []))) o s (λ ys c w. rw (onto-snoc branch_before cs (a, t) c) (simp append_assoc (f (xs ++ keyword token.Then ∷ (us ++ keyword token.Elif ∷ ys)) (tree.choice a t c) (g.with_elif p d w)))),
  refl,
  simp append_assoc e,
)
branch_kept all cs a t fs kind ws vs xs us (keyword token.Else ∷ i) o s f p d e = (
  a_pipe,
  ws ++ keyword token.If ∷ (vs ++ (xs ++ keyword token.Then ∷ (us ++ keyword token.Else ∷ []))),
  [],
  pipe_of_pipe,
  k.branch_fails (vs ++ (xs ++ keyword token.Then ∷ (us ++ keyword token.Else ∷ []))) o s (λ zs c w. rw (onto-snoc branch_before cs (a, t) c) (simp append_assoc (f (xs ++ keyword token.Then ∷ (us ++ keyword token.Else ∷ (zs ++ keyword token.End ∷ []))) (tree.choice a t c) (g.with_else p d w)))),
  refl,
  simp append_assoc e,
)
branch_kept all cs a t fs kind ws vs xs us (keyword token.End ∷ i) o s f p d e = (
  kind,
  ws,
  keyword token.If ∷ (vs ++ (xs ++ keyword token.Then ∷ (us ++ keyword token.End ∷ []))),
  o,
  s,
  g.term (g.a_choice (rw (onto-snoc branch_before cs (a, t) tree.identity) (f (xs ++ keyword token.Then ∷ (us ++ keyword token.End ∷ [])) (tree.choice a t tree.identity) (g.no_else p d)))),
  simp append_assoc e,
)
branch_kept all cs a t fs kind ws vs xs us (c ∷ i) o s f p d e = tt

fails_kept : (all : List Token) (cs : List (Tree × Tree)) (t : Tree) (fs : List Frame) (kind : Kind) (ws vs us i : List Token) → OfPost kind → Stack all fs kind ws → ElseSoFar vs cs → g.Pipe us t
    → all ≡ ws ++ keyword token.If ∷ (vs ++ (us ++ i)) → Good all (m.fails_turn (onto branch_before cs t) fs i)
unfolding turns
fails_kept all cs t fs kind ws vs us [] o s f d e = tt
fails_kept all cs t fs kind ws vs us (keyword token.End ∷ i) o s f d e = (kind, ws, keyword token.If ∷ (vs ++ (us ++ keyword token.End ∷ [])), o, s, g.term (g.a_choice (f us t d)), simp append_assoc e)
fails_kept all cs t fs kind ws vs us (c ∷ i) o s f d e = tt

source_kept : (all : List Token) (q : m.Fold) (t : Tree) (fs : List Frame) (kind : Kind) (ws us i : List Token) → OfPost kind → Stack all fs kind ws → g.Post us t → all ≡ ws ++ fold_word q ∷ (us ++ i) → Good all (m.source_turn q t fs i)
unfolding turns
source_kept all q t fs kind ws us [] o s d e = tt
source_kept all q t fs kind ws us (keyword token.As ∷ i) o s d e = (ws ++ fold_word q ∷ (us ++ keyword token.As ∷ []), k.fold_pattern o s d, simp append_assoc e)
source_kept all q t fs kind ws us (c ∷ i) o s d e = tt

reduce_kept : (all : List Token) (a b c : Tree) (x : Pattern) (fs : List Frame) (kind : Kind) (ws us ps ys zs i : List Token) → OfPost kind → Stack all fs kind ws → g.Post us a → g.Pat ps x → g.Pipe ys b → g.Pipe zs c
    → all ≡ ws ++ keyword token.Reduce ∷ (us ++ keyword token.As ∷ (ps ++ symbol token.left_parenthesis ∷ (ys ++ symbol token.semicolon ∷ (zs ++ i)))) → Good all (m.update_turn m.reducing a x b c fs i)
unfolding m.update_turn
reduce_kept all a b c x fs kind ws us ps ys zs i o s d p y z e =
    expecting_kept all token.right_parenthesis (λ j. go (m.suffix false (tree.reduce a x b c)) fs j) i
    (λ j w. (kind, ws, keyword token.Reduce ∷ (us ++ keyword token.As ∷ (ps ++ symbol token.left_parenthesis ∷ (ys ++ symbol token.semicolon ∷ (zs ++ symbol token.right_parenthesis ∷ [])))), o, s, g.term (g.a_reduce d p y z), simp append_assoc (rw w at e)))

foreach_kept : (all : List Token) (a b c : Tree) (x : Pattern) (fs : List Frame) (kind : Kind) (ws us ps ys zs i : List Token) → OfPost kind → Stack all fs kind ws → g.Post us a → g.Pat ps x → g.Pipe ys b → g.Pipe zs c
    → all ≡ ws ++ keyword token.Foreach ∷ (us ++ keyword token.As ∷ (ps ++ symbol token.left_parenthesis ∷ (ys ++ symbol token.semicolon ∷ (zs ++ i)))) → Good all (m.update_turn m.iterating a x b c fs i)
unfolding m.update_turn
foreach_kept all a b c x fs kind ws us ps ys zs [] o s d p y z e = tt
foreach_kept all a b c x fs kind ws us ps ys zs (symbol token.right_parenthesis ∷ i) o s d p y z e =
    (kind, ws, keyword token.Foreach ∷ (us ++ keyword token.As ∷ (ps ++ symbol token.left_parenthesis ∷ (ys ++ symbol token.semicolon ∷ (zs ++ symbol token.right_parenthesis ∷ [])))), o, s, g.term (g.a_foreach d p y z), simp append_assoc e)
foreach_kept all a b c x fs kind ws us ps ys zs (symbol token.semicolon ∷ i) o s d p y z e =
    (a_pipe, ws ++ keyword token.Foreach ∷ (us ++ keyword token.As ∷ (ps ++ symbol token.left_parenthesis ∷ (ys ++ symbol token.semicolon ∷ (zs ++ symbol token.semicolon ∷ [])))), [], pipe_of_pipe, k.fold_extract o s d p y z, refl, simp append_assoc e)
foreach_kept all a b c x fs kind ws us ps ys zs (t ∷ i) o s d p y z e = tt

update_kept : (all : List Token) (q : m.Fold) (a b c : Tree) (x : Pattern) (fs : List Frame) (kind : Kind) (ws us ps ys zs i : List Token) → OfPost kind → Stack all fs kind ws → g.Post us a → g.Pat ps x → g.Pipe ys b → g.Pipe zs c
    → all ≡ ws ++ fold_word q ∷ (us ++ keyword token.As ∷ (ps ++ symbol token.left_parenthesis ∷ (ys ++ symbol token.semicolon ∷ (zs ++ i)))) → Good all (m.update_turn q a x b c fs i)
update_kept all m.reducing a b c x fs kind ws us ps ys zs i o s d p y z e = reduce_kept all a b c x fs kind ws us ps ys zs i o s d p y z e
update_kept all m.iterating a b c x fs kind ws us ps ys zs i o s d p y z e = foreach_kept all a b c x fs kind ws us ps ys zs i o s d p y z e

slice_rest : (all : List Token) (a t : Tree) (fs : List Frame) (kind : Kind) (ws vs op us i : List Token) → OfPost kind → Stack all fs kind ws → g.Post vs a → SuffixAfter op → g.Pipe us t
    → all ≡ ws ++ (vs ++ (op ++ (us ++ symbol token.colon ∷ i))) → AtPipe all None (m.slice_end a t ∷ fs) i
slice_rest all a t fs kind ws vs op us i o s f b d e = (a_pipe, ws ++ (vs ++ (op ++ (us ++ symbol token.colon ∷ []))), [], pipe_of_pipe, k.slice_end op o s f b d, refl, simp append_assoc e)

slice_kept : (all : List Token) (a t : Tree) (fs : List Frame) (kind : Kind) (ws vs op us i : List Token) → OfPost kind → Stack all fs kind ws → g.Post vs a → SuffixAfter op → g.Pipe us t
    → all ≡ ws ++ (vs ++ (op ++ (us ++ symbol token.colon ∷ i))) → Good all (m.slice_turn a t fs i)
unfolding turns
slice_kept all a t fs kind ws vs op us [] o s f b d e = slice_rest all a t fs kind ws vs op us [] o s f b d e
slice_kept all a t fs kind ws vs op us (symbol token.right_bracket ∷ i) o s f b d e =
    (kind, ws, vs ++ (op ++ (us ++ symbol token.colon ∷ symbol token.right_bracket ∷ [])), o, s, g.step_of f (b (us ++ symbol token.colon ∷ symbol token.right_bracket ∷ []) (to_slice t no_bound) (g.br_from d)), simp append_assoc e)
slice_kept all a t fs kind ws vs op us (c ∷ i) o s f b d e = slice_rest all a t fs kind ws vs op us (c ∷ i) o s f b d e

part_kept : (all : List Token) (a t : Tree) (fs : List Frame) (kind : Kind) (ws vs op us i : List Token) → OfPost kind → Stack all fs kind ws → g.Post vs a → SuffixAfter op → g.Pipe us t
    → all ≡ ws ++ (vs ++ (op ++ (us ++ i))) → Good all (m.part_turn a t fs i)
unfolding turns
part_kept all a t fs kind ws vs op us [] o s f b d e = tt
part_kept all a t fs kind ws vs op us (symbol token.right_bracket ∷ i) o s f b d e = (kind, ws, vs ++ (op ++ (us ++ symbol token.right_bracket ∷ [])), o, s, g.step_of f (b (us ++ symbol token.right_bracket ∷ []) (to_part t) (g.br_part d)), simp append_assoc e)
part_kept all a t fs kind ws vs op us (symbol token.colon ∷ i) o s f b d e = slice_kept all a t fs kind ws vs op us i o s f b d e
part_kept all a t fs kind ws vs op us (c ∷ i) o s f b d e = tt

value_kept : (all : List Token) (t : Tree) (fs : List Frame) (ws us i : List Token) → Stack all fs a_value ws → g.Level 7 us t → all ≡ ws ++ (us ++ i) → Good all (m.value_turn t fs i)
unfolding turns
value_kept all t fs ws us [] s d e = (a_value, ws, us, s, g.one_val d, e)
value_kept all t fs ws us (symbol token.bar ∷ i) s d e = (ws ++ (us ++ symbol token.bar ∷ []), k.value_piped s d, simp append_assoc e)
value_kept all t fs ws us (c ∷ i) s d e = (a_value, ws, us, s, g.one_val d, e)

have_kept : (all : List Token) (t : Tree) (fs : List Frame) (kind : Kind) (ws us i : List Token) → Stack all fs kind ws → Phrase kind us t → all ≡ ws ++ (us ++ i) → Good all (m.have_turn t fs i)
unfolding m.have_turn
have_kept all t fs kind ws us i k.bottom d e = end_kept all t us i d e
have_kept all t fs kind ws us i (k.una_negated {ws = xs} s) d e = (a_una, xs, symbol token.minus ∷ us, s, g.minus d, rw append_assoc at e)
have_kept all t fs kind ws us i (k.body_negated {ws = xs} s) d e = (a_body, xs, symbol token.minus ∷ us, s, g.body_minus d, rw append_assoc at e)
have_kept all t fs kind ws us i (k.tried {ws = xs} {fs = gs} s) d e = tried_kept all t gs xs us i s d (rw append_assoc at e)
have_kept all t fs kind ws us i (k.caught {ws = xs} {us = vs} s f) d e = (a_una, xs, keyword token.Try ∷ (vs ++ keyword token.Catch ∷ us), s, g.try_catch f d, simp append_assoc (simp append_assoc at e))
have_kept all t fs kind ws us i (k.climbing {ws = xs} s) d e = (xs, us, 0, s, g.operand d, omega arith, inl (omega arith), e)
have_kept all t fs kind ws us i (k.operated {ws = xs} vs {a = a} {o = o} {l = l} s f u b) d e =
    (xs, vs ++ o ∷ us, suc l, s, joined_level (side_of (suc l)) l o vs us a t refl f b d, u, after_operator (side_of (suc l)) l refl, simp append_assoc (simp append_assoc at e))
have_kept all t fs kind ws us i (k.operand {ws = xs} vs {fs = gs} {k = kd} {before = before} j o s b f) d e =
    let same = append_cancel_left (xs ++ vs) j (us ++ i) (sym f ∙ e) in
    operand_kept all before t (both_of (begins_post (first j)) (is_as (first i))) gs kd xs vs us i o s b d
    (λ w. una_is_post us i t d (ap (λ (ts : List Token). begins_post (first ts)) (sym same) ∙ both_is _ _ w)) (λ w. as_next i (both_right _ _ w)) e
have_kept all t fs kind ws us i (k.ends_operand {ws = xs} vs {k = kd} {before = before} o s b) d e = (kd, xs, vs ++ us, o, s, commas_in before vs us t b d, simp append_assoc (simp append_assoc at e))
have_kept all t fs kind ws us i (k.piped {ws = xs} {us = vs} {k = kd} o s f) d e = (kd, xs, vs ++ symbol token.bar ∷ us, s, pipe_phrase o (g.piped f d), simp append_assoc (simp append_assoc at e))
have_kept all t fs kind ws us i (k.body_in_pipe {ws = xs} vs hs {fs = gs} {k = kd} {before = before} {n = n} {ps = ps} o s b f) d e =
    expecting_kept all token.semicolon (λ j. go (m.after_definition (m.in_pipe before) (record { named = n; parameters = ps; body = t })) gs j) i
    (λ j w. (kd, xs, vs, keyword token.Def ∷ name n ∷ (hs ++ symbol token.colon ∷ (us ++ symbol token.semicolon ∷ [])), o, s, b, def_in n hs us ps t f d, simp append_assoc (simp (append_assoc, w) at e)))
have_kept all t fs kind ws us i (k.body_in_main {ws = xs} hs {fs = gs} {n = n} {ps = ps} s f) d e =
    expecting_kept all token.semicolon (λ j. go (m.after_definition m.in_main (record { named = n; parameters = ps; body = t })) gs j) i
    (λ j w. (xs, keyword token.Def ∷ name n ∷ (hs ++ symbol token.colon ∷ (us ++ symbol token.semicolon ∷ [])), s, def_in n hs us ps t f d, simp append_assoc (simp (append_assoc, w) at e)))
have_kept all t fs kind ws us i (k.definition_rest {ws = xs} vs {us = hs} {k = kd} {before = before} {f = f} o s b h) d e =
    (kd, xs, vs ++ (hs ++ us), s, pipe_phrase o (opened_in before vs (hs ++ us) (defining f t) b (g.defined h d)), simp append_assoc (simp append_assoc at e))
have_kept all t fs kind ws us i (k.main_rest {ws = xs} {us = hs} s h) d e = (a_main, xs, hs ++ us, s, g.main_defined h d, simp append_assoc (simp append_assoc at e))
have_kept all t fs kind ws us i (k.label_rest {ws = xs} vs {k = kd} {before = before} {n = n} o s b) d e =
    (kd, xs, vs ++ keyword token.Label ∷ variable n ∷ symbol token.bar ∷ us, s, pipe_phrase o (opened_in before vs (keyword token.Label ∷ variable n ∷ symbol token.bar ∷ us) (tree.label n t) b (g.labelled d)), simp append_assoc (simp append_assoc at e))
have_kept all t fs kind ws us i (k.binding_pattern vs o s b f) d e = tt
have_kept all t fs kind ws us i (k.binding_rest {ws = xs} vs {us = as_tokens} {ps = ps} {k = kd} {before = before} {a = a} {x = x} o s b f q) d e =
    (kd, xs, vs ++ (as_tokens ++ keyword token.As ∷ (ps ++ symbol token.bar ∷ us)), s, pipe_phrase o (opened_in before vs (as_tokens ++ keyword token.As ∷ (ps ++ symbol token.bar ∷ us)) (tree.bind_as a x t) b (g.bound f q d)), simp append_assoc (simp append_assoc at e))
have_kept all t fs kind ws us i (k.in_parentheses {ws = xs} {fs = gs} {k = kd} o s) d e =
    expecting_kept all token.right_parenthesis (λ j. go (m.suffix false t) gs j) i (λ j w. (kd, xs, symbol token.left_parenthesis ∷ (us ++ symbol token.right_parenthesis ∷ []), o, s, g.term (g.brackets d), simp append_assoc (simp (append_assoc, w) at e)))
have_kept all t fs kind ws us i (k.in_array {ws = xs} {fs = gs} {k = kd} o s) d e =
    expecting_kept all token.right_bracket (λ j. go (m.suffix false (tree.array t)) gs j) i (λ j w. (kd, xs, symbol token.left_bracket ∷ (us ++ symbol token.right_bracket ∷ []), o, s, g.term (g.items d), simp append_assoc (simp (append_assoc, w) at e)))
have_kept all t fs kind ws us i (k.argument {ws = xs} vs {fs = gs} {k = kd} {n = n} {ss = ss} o s f) d e = argument_kept all n ss t gs kd xs vs us i o s f d (simp append_assoc at e)
have_kept all t fs kind ws us i (k.branch_test {ws = xs} vs {fs = gs} {k = kd} {cs = cs} o s f) d e = test_kept all cs t gs kd xs vs us i o s f d (simp append_assoc at e)
have_kept all t fs kind ws us i (k.branch_holds {ws = xs} vs {xs = ys} {fs = gs} {k = kd} {cs = cs} {a = a} o s f q) d e = branch_kept all cs a t gs kd xs vs ys us i o s f q d (simp append_assoc at e)
have_kept all t fs kind ws us i (k.branch_fails {ws = xs} vs {fs = gs} {k = kd} {cs = cs} o s f) d e = fails_kept all cs t gs kd xs vs us i o s f d (simp append_assoc at e)
have_kept all t fs kind ws us i (k.fold_source {ws = xs} {fs = gs} {k = kd} {f = q} o s) d e = source_kept all q t gs kd xs us i o s d (rw append_assoc at e)
have_kept all t fs kind ws us i (k.fold_pattern o s f) d e = tt
have_kept all t fs kind ws us i (k.fold_start {ws = xs} {us = vs} {ps = ps} {fs = gs} {k = kd} {f = q} {a = a} {x = x} o s f y) d e =
    expecting_kept all token.semicolon (λ j. go (m.want_pipe None) (m.fold_update q a x t ∷ gs) j) i
    (λ j w. (a_pipe, xs ++ fold_word q ∷ (vs ++ keyword token.As ∷ (ps ++ symbol token.left_parenthesis ∷ (us ++ symbol token.semicolon ∷ []))), [], pipe_of_pipe, k.fold_update o s f y d, refl, simp append_assoc (simp (append_assoc, w) at e)))
have_kept all t fs kind ws us i (k.fold_update {ws = xs} {us = vs} {ps = ps} {ys = ys} {fs = gs} {k = kd} {f = q} {a = a} {b = b} {x = x} o s f y z) d e =
    update_kept all q a b t x gs kd xs vs ps ys us i o s f y z d (simp append_assoc at e)
have_kept all t fs kind ws us i (k.fold_extract {ws = xs} {us = vs} {ps = ps} {ys = ys} {zs = zs} {fs = gs} {k = kd} {a = a} {b = b} {c = c} {x = x} o s f y z v) d e =
    expecting_kept all token.right_parenthesis (λ j. go (m.suffix false (tree.foreach a x b c t)) gs j) i
    (λ j w. (kd, xs, keyword token.Foreach ∷ (vs ++ keyword token.As ∷ (ps ++ symbol token.left_parenthesis ∷ (ys ++ symbol token.semicolon ∷ (zs ++ symbol token.semicolon ∷ (us ++ symbol token.right_parenthesis ∷ []))))), o, s, g.term (g.foreach_with f y z v d), simp append_assoc (simp (append_assoc, w) at e)))
have_kept all t fs kind ws us i (k.part_of {ws = xs} {us = vs} op {fs = gs} {k = kd} {a = a} o s f b) d e = part_kept all a t gs kd xs vs op us i o s f b d (simp append_assoc at e)
have_kept all t fs kind ws us i (k.slice_end {ws = xs} {us = vs} op {xs = ys} {fs = gs} {k = kd} {a = a} {b = key} o s f b q) d e =
    expecting_kept all token.right_bracket (λ j. go (m.suffix true (with_suffix a (to_slice key t))) gs j) i
    (λ j w. (kd, xs, vs ++ (op ++ (ys ++ symbol token.colon ∷ (us ++ symbol token.right_bracket ∷ []))), o, s, g.step_of f (b (ys ++ symbol token.colon ∷ (us ++ symbol token.right_bracket ∷ [])) (to_slice key t) (g.br_slice q d)), simp append_assoc (simp (append_assoc, w) at e)))
have_kept all t fs kind ws us i (k.slice_to {ws = xs} {us = vs} op {fs = gs} {k = kd} {a = a} o s f b) d e =
    expecting_kept all token.right_bracket (λ j. go (m.suffix true (with_suffix a (to_slice no_bound t))) gs j) i
    (λ j w. (kd, xs, vs ++ (op ++ symbol token.colon ∷ (us ++ symbol token.right_bracket ∷ [])), o, s, g.step_of f (b (symbol token.colon ∷ (us ++ symbol token.right_bracket ∷ [])) (to_slice no_bound t) (g.br_to d)), simp append_assoc (simp (append_assoc, w) at e)))
have_kept all t fs kind ws us i (k.text_part {ws = xs} vs {fs = gs} {u = u} {before = before} {s = c} s f) d e =
    expecting_kept all token.right_parenthesis (λ j. go (m.text u (before ++ (c, t) ∷ [])) gs j) i
    (λ j w. (
      xs,
      vs ++ piece c ∷ interpolation ∷ (us ++ symbol token.right_parenthesis ∷ []),
      s,
      (λ ys ps v. rw (onto-snoc piece_before before (c, t) ps) (simp append_assoc (f (piece c ∷ interpolation ∷ (us ++ symbol token.right_parenthesis ∷ ys)) (more_pieces c t ps) (g.interpolated d v)))),
      simp append_assoc (simp (append_assoc, w) at e),
    ))
have_kept all t fs kind ws us i (k.entry_key {ws = xs} vs {fs = gs} {k = kd} {es = es} o s f) d e =
    expecting_kept all token.right_parenthesis (expecting token.colon (λ j. go m.want_value (m.entry_value es (built.computed_by t) ∷ gs) j)) i
    (λ j w. expecting_kept all token.colon (λ l. go m.want_value (m.entry_value es (built.computed_by t) ∷ gs) l) j
    (λ l v. (xs ++ symbol token.left_brace ∷ (vs ++ symbol token.left_parenthesis ∷ (us ++ symbol token.right_parenthesis ∷ symbol token.colon ∷ [])), k.entry_value vs (symbol token.left_parenthesis ∷ (us ++ symbol token.right_parenthesis ∷ symbol token.colon ∷ [])) o s f (λ ys z b. rw append_assoc (g.ent_computed d b)), simp append_assoc (simp (append_assoc, w, v) at e))))
have_kept all t fs kind ws us i (k.entry_value {ws = xs} vs ks {fs = gs} {k = kd} {es = es} {key = key} o s f b) d e =
    entered all es (built.entry_with key t) gs (ks ++ us) i (kd, xs, vs, o, s, f, simp append_assoc (simp append_assoc at e)) (b us t d)
have_kept all t fs kind ws us i (k.ends_value {ws = xs} {fs = gs} s) d e = value_kept all t gs xs us i s d e
have_kept all t fs kind ws us i (k.value_piped {ws = xs} {us = vs} s f) d e = (a_value, xs, vs ++ symbol token.bar ∷ us, s, g.more_val f d, simp append_assoc (simp append_assoc at e))
have_kept all t fs kind ws us i (k.pattern_item vs s f) d e = tt
have_kept all t fs kind ws us i (k.pattern_member vs ks s f b) d e = tt
have_kept all t fs kind ws us i (k.member_key {ws = xs} vs {fs = gs} {qs = qs} s f) d e =
    expecting_kept all token.right_parenthesis (expecting token.colon (λ j. go m.pattern_next (m.pattern_member qs (built.by_tree t) ∷ gs) j)) i
    (λ j w. expecting_kept all token.colon (λ l. go m.pattern_next (m.pattern_member qs (built.by_tree t) ∷ gs) l) j
    (λ l v. (xs ++ symbol token.left_brace ∷ (vs ++ symbol token.left_parenthesis ∷ (us ++ symbol token.right_parenthesis ∷ symbol token.colon ∷ [])), k.pattern_member vs (symbol token.left_parenthesis ∷ (us ++ symbol token.right_parenthesis ∷ symbol token.colon ∷ [])) s f (λ ys x b. rw append_assoc (g.pent_computed d b)), simp append_assoc (simp (append_assoc, w, v) at e))))

-- ---- each turn

turn_kept : (all : List Token) (mode : Mode) (fs : List Frame) (i : List Token) → Kept all mode fs i → Good all (turn mode fs i)
unfolding turn
turn_kept all m.want_main fs i h = main_kept all fs i h
turn_kept all (m.want_pipe before) fs i h = pipe_kept all before fs i h
turn_kept all (m.want_level l) fs i h = (h.0, k.climbing h.1, h.2)
turn_kept all m.want_una fs i h = una_kept all fs i h
turn_kept all m.want_body fs i h = body_kept all fs i h
turn_kept all m.want_post fs i h = post_kept all fs i h
turn_kept all m.want_value fs i h = (h.0, k.ends_value h.1, h.2)
turn_kept all (m.have t) fs i h = have_kept all t fs h.0 h.1 h.2 i h.3 h.4 h.5
turn_kept all (m.suffix last a) fs i h = suffix_kept all last a fs i h
turn_kept all (m.bracket a) fs i h = bracket_kept all a fs i h
turn_kept all (m.operators a from upto) fs i h = operators_kept all a from upto fs i h
turn_kept all (m.listed t) fs i h = listed_kept all t fs i h
turn_kept all (m.text u before) fs i h = text_kept all u before fs i h
turn_kept all (m.text_done u ps) fs i h = text_done_kept all u ps fs h.0 h.1 i h.2 h.3 h.4
turn_kept all (m.entry es) fs i h = entry_kept all es fs i h
turn_kept all (m.after_entry es) fs i h = after_entry_kept all es fs i h
turn_kept all m.pattern_next fs i h = pattern_kept all fs i h
turn_kept all (m.have_pattern x) fs i h = have_pattern_kept all x fs h.0 h.1 i h.2 h.3 h.4
turn_kept all (m.member qs) fs i h = member_kept all qs fs i h
turn_kept all (m.after_member qs) fs i h = after_member_kept all qs fs i h
turn_kept all (m.definition_next d) fs i h = definition_kept all d fs i (m.function_head i) refl h
turn_kept all (m.after_definition d f) fs i h = after_definition_kept all d f fs i h

ends_kept : (all : List Token) {x : Next} {t : Tree} → Ends x t → Good all x → g.Main all t
ends_kept all at_end h = h
ends_kept all (by_turn {m = mode} {fs = fs} {i = i} e) h = ends_kept all e (turn_kept all mode fs i h)

-- The tree with which the turns end is the filter's.
pub turns_sound : (ts : List Token) (t : Tree) → Ends (go m.want_main [] ts) t → g.Main ts t
turns_sound ts t e = ends_kept ts e ([], k.bottom, refl)
