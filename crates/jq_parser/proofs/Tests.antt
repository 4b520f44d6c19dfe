-- Each turn by tests of the next token, as the code makes them.
use Rattle.std.proofs.Common.{◌≡◌, ℕ, zero, suc, ◌-◌, ◌<◌, ◌≤◌, List, [], ◌∷◌, ◌++◌, Bool, true, false, Option, Some, None, refl, arith}
use Rattle.std.specs.Prelude.{◌&&◌, nat_le, if◌then◌else◌}
use Rattle.jq_tree.specs.Tree.{Tree}
use Rattle.jq_tree.specs.Tree as tree
use Rattle.jq_tree.specs.Token.{Token, keyword, field, variable, format, piece, interpolation, symbol}
use Rattle.jq_tree.specs.Token as token
use Rattle.jq_tree.specs.WrittenOut.{attempt}
use Rattle.jq_tree.specs.Grammar.{level_of, side_of, literal_named, name_of, to_part, to_slice, to_all, with_suffix, no_bound}
use Rattle.jq_builders.specs.Trees as built
use Rattle.jq_builders.specs.Trees.{EntryKey, entry_of, bare_name, with_question}
use Rattle.jq_parser.specs.laws.Machine as m
use Rattle.jq_parser.specs.laws.Combinators.{first, tail, is_symbol}
use Rattle.jq_parser.specs.laws.Forms.{begins_post}
use Rattle.jq_parser.specs.private.Parsing.{is_keyword, is_piece, is_variable, is_field, is_interpolation, ended, level_first, field_step, operator_frame_of, scope_frame_of, term_frame_of, block_frame_of, object_frame_of, pattern_frame_of}
use Rattle.jq_parser.specs.declared.forms.OperatorFrame.{OperatorFrame}
use Rattle.jq_parser.specs.declared.forms.OperatorFrame.TheVariants as operator_frame
use Rattle.jq_parser.specs.declared.forms.ScopeFrame.{ScopeFrame}
use Rattle.jq_parser.specs.declared.forms.ScopeFrame.TheVariants as scope_frame
use Rattle.jq_parser.specs.declared.forms.TermFrame.{TermFrame}
use Rattle.jq_parser.specs.declared.forms.TermFrame.TheVariants as term_frame
use Rattle.jq_parser.specs.declared.forms.BlockFrame.{BlockFrame}
use Rattle.jq_parser.specs.declared.forms.BlockFrame.TheVariants as block_frame
use Rattle.jq_parser.specs.declared.forms.ObjectFrame.{ObjectFrame}
use Rattle.jq_parser.specs.declared.forms.ObjectFrame.TheVariants as object_frame
use Rattle.jq_parser.specs.declared.forms.PatternFrame.{PatternFrame}
use Rattle.jq_parser.specs.declared.forms.PatternFrame.TheVariants as pattern_frame

loose : (l upto from : ℕ) → upto < l → (nat_le l upto && nat_le from l) ≡ false
loose l upto from h = grind arith

tight : (l upto from : ℕ) → l < from → (nat_le l upto && nat_le from l) ≡ false
tight l upto from h = grind arith

both : (l upto from : ℕ) → l ≤ upto → from ≤ l → (nat_le l upto && nat_le from l) ≡ true
both l upto from h k = grind arith

pub main_tests : (fs : List m.Frame) (i : List Token) → m.main_turn fs i ≡ (if ended i then m.go (m.have tree.identity) fs i else if is_keyword token.Def (first i) then m.go (m.definition_next m.in_main) fs (tail i) else m.go (m.want_pipe None) fs i)
unfolding m.main_turn
main_tests fs [] = refl
main_tests fs (keyword token.Def ∷ i) = refl
main_tests fs (t ∷ i) = refl

pub pipe_tests : (before : Option Tree) (fs : List m.Frame) (i : List Token) → m.pipe_turn before fs i ≡ (if is_keyword token.Def (first i) then m.go (m.definition_next (m.in_pipe before)) fs (tail i) else if is_keyword token.Label (first i) then m.label_turn before fs (tail i) else m.go m.want_una (m.operand before (begins_post (first i)) ∷ fs) i)
unfolding m.pipe_turn
pipe_tests before fs [] = refl
pipe_tests before fs (keyword token.Def ∷ i) = refl
pipe_tests before fs (keyword token.Label ∷ i) = refl
pipe_tests before fs (t ∷ i) = refl

pub label_tests : (before : Option Tree) (fs : List m.Frame) (n : List ℕ) (i : List Token) → m.label_turn before fs (variable n ∷ i) ≡ (if is_symbol token.bar (first i) then m.go (m.want_pipe None) (m.label_rest before n ∷ fs) (tail i) else m.stop)
unfolding m.label_turn
label_tests before fs n [] = refl
label_tests before fs n (symbol token.bar ∷ i) = refl
label_tests before fs n (t ∷ i) = refl

pub label_stops : (before : Option Tree) (fs : List m.Frame) (i : List Token) → is_variable (first i) ≡ false → m.label_turn before fs i ≡ m.stop
unfolding m.label_turn
label_stops before fs [] h = refl
label_stops before fs (variable n ∷ i) h = absurd (cc h)
label_stops before fs (t ∷ i) h = refl

pub una_tests : (fs : List m.Frame) (i : List Token) → m.una_turn fs i ≡ (if is_symbol token.minus (first i) then m.go m.want_una (m.negated ∷ fs) (tail i) else if is_keyword token.Try (first i) then m.go m.want_body (m.tried ∷ fs) (tail i) else m.go m.want_post fs i)
unfolding m.una_turn
una_tests fs [] = refl
una_tests fs (symbol token.minus ∷ i) = refl
una_tests fs (keyword token.Try ∷ i) = refl
una_tests fs (t ∷ i) = refl

pub body_tests : (fs : List m.Frame) (i : List Token) → m.body_turn fs i ≡ (if is_symbol token.minus (first i) then m.go m.want_body (m.negated ∷ fs) (tail i) else m.go m.want_post fs i)
unfolding m.body_turn
body_tests fs [] = refl
body_tests fs (symbol token.minus ∷ i) = refl
body_tests fs (t ∷ i) = refl

pub listed_tests : (a : Tree) (fs : List m.Frame) (i : List Token) → m.listed_turn a fs i ≡ (if is_symbol token.comma (first i) then m.go (m.want_pipe (Some a)) fs (tail i) else if is_symbol token.bar (first i) then m.go (m.want_pipe None) (m.piped a ∷ fs) (tail i) else m.go (m.have a) fs i)
unfolding m.listed_turn
listed_tests a fs [] = refl
listed_tests a fs (symbol token.comma ∷ i) = refl
listed_tests a fs (symbol token.bar ∷ i) = refl
listed_tests a fs (t ∷ i) = refl

pub call_tests : (v : List ℕ) (fs : List m.Frame) (i : List Token) → m.call_turn v fs i ≡ (if is_symbol token.left_parenthesis (first i) then m.go (m.want_pipe None) (m.argument v [] ∷ fs) (tail i) else m.go (m.suffix false (bare_name (literal_named v) v)) fs i)
unfolding m.call_turn
call_tests v fs [] = refl
call_tests v fs (symbol token.left_parenthesis ∷ i) = refl
call_tests v fs (t ∷ i) = refl

pub format_tests : (v : List ℕ) (fs : List m.Frame) (i : List Token) → m.format_turn v fs i ≡ (if is_piece (first i) then m.go (m.text (m.as_formatted v) []) fs i else m.go (m.suffix false (tree.format v)) fs i)
unfolding m.format_turn
format_tests v fs [] = refl
format_tests v fs (piece s ∷ i) = refl
format_tests v fs (t ∷ i) = refl

pub dot_tests : (fs : List m.Frame) (i : List Token) → m.dot_turn fs i ≡ (if is_piece (first i) then m.go (m.text m.as_part_of_input []) fs i else m.go (m.suffix false tree.identity) fs i)
unfolding m.dot_turn
dot_tests fs [] = refl
dot_tests fs (piece s ∷ i) = refl
dot_tests fs (t ∷ i) = refl

pub array_tests : (fs : List m.Frame) (i : List Token) → m.array_turn fs i ≡ (if is_symbol token.right_bracket (first i) then m.go (m.suffix false (tree.array tree.empty)) fs (tail i) else m.go (m.want_pipe None) (m.in_array ∷ fs) i)
unfolding m.array_turn
array_tests fs [] = refl
array_tests fs (symbol token.right_bracket ∷ i) = refl
array_tests fs (t ∷ i) = refl

pub object_tests : (fs : List m.Frame) (i : List Token) → m.object_turn fs i ≡ (if is_symbol token.right_brace (first i) then m.go (m.suffix false (tree.object tree.no_entries)) fs (tail i) else m.go (m.entry []) fs i)
unfolding m.object_turn
object_tests fs [] = refl
object_tests fs (symbol token.right_brace ∷ i) = refl
object_tests fs (t ∷ i) = refl

pub break_stops : (fs : List m.Frame) (i : List Token) → is_variable (first i) ≡ false → m.break_turn fs i ≡ m.stop
unfolding m.break_turn
break_stops fs [] h = refl
break_stops fs (variable n ∷ i) h = absurd (cc h)
break_stops fs (t ∷ i) h = refl

pub field_stops : (a : Tree) (fs : List m.Frame) (i : List Token) → is_field (first i) ≡ false → field_step a fs i ≡ m.stop
unfolding field_step
field_stops a fs [] h = refl
field_stops a fs (field n ∷ i) h = absurd (cc h)
field_stops a fs (t ∷ i) h = refl

pub text_stops : (u : m.TextUse) (ps : List (List ℕ × Tree)) (fs : List m.Frame) (i : List Token) → is_piece (first i) ≡ false → m.text_turn u ps fs i ≡ m.stop
unfolding m.text_turn
text_stops u ps fs [] h = refl
text_stops u ps fs (piece s ∷ i) h = absurd (cc h)
text_stops u ps fs (t ∷ i) h = refl

pub suffix_tests : (last : Bool) (a : Tree) (fs : List m.Frame) (i : List Token) → m.suffix_turn last a fs i ≡ (if is_symbol token.question (first i) then m.go (m.suffix false (with_question last a)) fs (tail i) else if is_symbol token.left_bracket (first i) then m.go (m.bracket a) fs (tail i) else if is_symbol token.dot (first i) then m.dotted_turn a fs (tail i) else if is_field (first i) then field_step a fs i else m.go (m.have a) fs i)
unfolding m.suffix_turn field_step
suffix_tests last a fs [] = refl
suffix_tests last a fs (symbol token.question ∷ i) = refl
suffix_tests last a fs (symbol token.left_bracket ∷ i) = refl
suffix_tests last a fs (symbol token.dot ∷ i) = refl
suffix_tests last a fs (field n ∷ i) = refl
suffix_tests last a fs (t ∷ i) = refl

pub dotted_tests : (a : Tree) (fs : List m.Frame) (i : List Token) → m.dotted_turn a fs i ≡ (if is_symbol token.left_bracket (first i) then m.go (m.bracket a) fs (tail i) else m.go (m.text (m.as_part_of a) []) fs i)
unfolding m.dotted_turn
dotted_tests a fs [] = refl
dotted_tests a fs (symbol token.left_bracket ∷ i) = refl
dotted_tests a fs (t ∷ i) = refl

pub bracket_tests : (a : Tree) (fs : List m.Frame) (i : List Token) → m.bracket_turn a fs i ≡ (if is_symbol token.right_bracket (first i) then m.go (m.suffix true (with_suffix a to_all)) fs (tail i) else if is_symbol token.colon (first i) then m.go (m.want_pipe None) (m.slice_to a ∷ fs) (tail i) else m.go (m.want_pipe None) (m.part_of a ∷ fs) i)
unfolding m.bracket_turn
bracket_tests a fs [] = refl
bracket_tests a fs (symbol token.right_bracket ∷ i) = refl
bracket_tests a fs (symbol token.colon ∷ i) = refl
bracket_tests a fs (t ∷ i) = refl

pub piece_tests : (u : m.TextUse) (ps : List (List ℕ × Tree)) (w : List ℕ) (fs : List m.Frame) (i : List Token) → m.piece_turn u ps w fs i ≡ (if is_interpolation (first i) then m.go (m.want_pipe None) (m.text_part u ps w ∷ fs) (tail i) else m.go (m.text_done u (built.onto built.piece_before ps (tree.last_piece w))) fs i)
unfolding m.piece_turn
piece_tests u ps w fs [] = refl
piece_tests u ps w fs (interpolation ∷ i) = refl
piece_tests u ps w fs (t ∷ i) = refl

pub key_tests : (es : List tree.Entry) (k : EntryKey) (fs : List m.Frame) (i : List Token) → m.key_turn es k fs i ≡ (if is_symbol token.colon (first i) then m.go m.want_value (m.entry_value es (built.keyed_by k) ∷ fs) (tail i) else m.go (m.after_entry (es ++ entry_of k None ∷ [])) fs i)
unfolding m.key_turn
key_tests es k fs [] = refl
key_tests es k fs (symbol token.colon ∷ i) = refl
key_tests es k fs (t ∷ i) = refl

pub after_entry_tests : (es : List tree.Entry) (fs : List m.Frame) (i : List Token) → m.after_entry_turn es fs i ≡ (if is_symbol token.comma (first i) then m.go (m.entry es) fs (tail i) else if is_symbol token.right_brace (first i) then m.go (m.suffix false (tree.object (built.onto tree.more_entries es tree.no_entries))) fs (tail i) else m.stop)
unfolding m.after_entry_turn
after_entry_tests es fs [] = refl
after_entry_tests es fs (symbol token.comma ∷ i) = refl
after_entry_tests es fs (symbol token.right_brace ∷ i) = refl
after_entry_tests es fs (t ∷ i) = refl

pub pattern_tests : (fs : List m.Frame) (i : List Token) → is_variable (first i) ≡ false → m.pattern_turn fs i ≡ (if is_symbol token.left_bracket (first i) then m.go m.pattern_next (m.pattern_item [] ∷ fs) (tail i) else if is_symbol token.left_brace (first i) then m.go (m.member []) fs (tail i) else m.stop)
unfolding m.pattern_turn
pattern_tests fs [] h = refl
pattern_tests fs (variable n ∷ i) h = absurd (cc h)
pattern_tests fs (symbol token.left_bracket ∷ i) h = refl
pattern_tests fs (symbol token.left_brace ∷ i) h = refl
pattern_tests fs (t ∷ i) h = refl

pub pattern_bracket : (fs : List m.Frame) (i : List Token) → is_symbol token.left_bracket (first i) ≡ true → m.pattern_turn fs i ≡ m.go m.pattern_next (m.pattern_item [] ∷ fs) (tail i)
unfolding m.pattern_turn
pattern_bracket fs [] h = absurd (cc h)
pattern_bracket fs (symbol token.left_bracket ∷ i) h = refl
pattern_bracket fs (t ∷ i) h = absurd (cc h)

pub pattern_brace : (fs : List m.Frame) (i : List Token) → is_symbol token.left_brace (first i) ≡ true → m.pattern_turn fs i ≡ m.go (m.member []) fs (tail i)
unfolding m.pattern_turn
pattern_brace fs [] h = absurd (cc h)
pattern_brace fs (symbol token.left_brace ∷ i) h = refl
pattern_brace fs (t ∷ i) h = absurd (cc h)

pub variable_member_tests : (qs : List tree.Part) (v : List ℕ) (fs : List m.Frame) (i : List Token) → m.variable_member_turn qs v fs i ≡ (if is_symbol token.colon (first i) then m.go m.pattern_next (m.pattern_member qs (built.by_variable v) ∷ fs) (tail i) else m.go (m.after_member (qs ++ tree.keyed (name_of v) (tree.whole v) ∷ [])) fs i)
unfolding m.variable_member_turn
variable_member_tests qs v fs [] = refl
variable_member_tests qs v fs (symbol token.colon ∷ i) = refl
variable_member_tests qs v fs (t ∷ i) = refl

pub after_member_tests : (qs : List tree.Part) (fs : List m.Frame) (i : List Token) → m.after_member_turn qs fs i ≡ (if is_symbol token.comma (first i) then m.go (m.member qs) fs (tail i) else if is_symbol token.right_brace (first i) then m.go (m.have_pattern (tree.members (built.onto tree.more_parts qs tree.no_parts))) fs (tail i) else m.stop)
unfolding m.after_member_turn
after_member_tests qs fs [] = refl
after_member_tests qs fs (symbol token.comma ∷ i) = refl
after_member_tests qs fs (symbol token.right_brace ∷ i) = refl
after_member_tests qs fs (t ∷ i) = refl

pub pattern_item_tests : (xs : List tree.Pattern) (fs : List m.Frame) (i : List Token) → m.pattern_item_turn xs fs i ≡ (if is_symbol token.comma (first i) then m.go m.pattern_next (m.pattern_item xs ∷ fs) (tail i) else if is_symbol token.right_bracket (first i) then m.go (m.have_pattern (tree.items (built.onto tree.more_patterns xs tree.no_patterns))) fs (tail i) else m.stop)
unfolding m.pattern_item_turn
pattern_item_tests xs fs [] = refl
pattern_item_tests xs fs (symbol token.comma ∷ i) = refl
pattern_item_tests xs fs (symbol token.right_bracket ∷ i) = refl
pattern_item_tests xs fs (t ∷ i) = refl

pub tried_tests : (a : Tree) (fs : List m.Frame) (i : List Token) → m.tried_turn a fs i ≡ (if is_keyword token.Catch (first i) then m.go m.want_body (m.caught a ∷ fs) (tail i) else m.go (m.have (attempt a)) fs i)
unfolding m.tried_turn
tried_tests a fs [] = refl
tried_tests a fs (keyword token.Catch ∷ i) = refl
tried_tests a fs (t ∷ i) = refl

pub argument_tests : (v : List ℕ) (ss : List Tree) (fs : List m.Frame) (i : List Token) → m.argument_turn v ss fs i ≡ (if is_symbol token.semicolon (first i) then m.go (m.want_pipe None) (m.argument v ss ∷ fs) (tail i) else if is_symbol token.right_parenthesis (first i) then m.go (m.suffix false (tree.call v (built.onto tree.more_trees ss tree.no_trees))) fs (tail i) else m.stop)
unfolding m.argument_turn
argument_tests v ss fs [] = refl
argument_tests v ss fs (symbol token.semicolon ∷ i) = refl
argument_tests v ss fs (symbol token.right_parenthesis ∷ i) = refl
argument_tests v ss fs (t ∷ i) = refl

pub test_tests : (cs : List (Tree × Tree)) (a : Tree) (fs : List m.Frame) (i : List Token) → m.test_turn cs a fs i ≡ (if is_keyword token.Then (first i) then m.go (m.want_pipe None) (m.branch_holds cs a ∷ fs) (tail i) else m.stop)
unfolding m.test_turn
test_tests cs a fs [] = refl
test_tests cs a fs (keyword token.Then ∷ i) = refl
test_tests cs a fs (t ∷ i) = refl

pub branch_tests : (cs : List (Tree × Tree)) (fs : List m.Frame) (i : List Token) → m.branch_turn cs fs i ≡ (if is_keyword token.Elif (first i) then m.go (m.want_pipe None) (m.branch_test cs ∷ fs) (tail i) else if is_keyword token.Else (first i) then m.go (m.want_pipe None) (m.branch_fails cs ∷ fs) (tail i) else if is_keyword token.End (first i) then m.go (m.suffix false (built.onto built.branch_before cs tree.identity)) fs (tail i) else m.stop)
unfolding m.branch_turn
branch_tests cs fs [] = refl
branch_tests cs fs (keyword token.Elif ∷ i) = refl
branch_tests cs fs (keyword token.Else ∷ i) = refl
branch_tests cs fs (keyword token.End ∷ i) = refl
branch_tests cs fs (t ∷ i) = refl

pub fails_tests : (a : Tree) (fs : List m.Frame) (i : List Token) → m.fails_turn a fs i ≡ (if is_keyword token.End (first i) then m.go (m.suffix false a) fs (tail i) else m.stop)
unfolding m.fails_turn
fails_tests a fs [] = refl
fails_tests a fs (keyword token.End ∷ i) = refl
fails_tests a fs (t ∷ i) = refl

pub source_tests : (k : m.Fold) (a : Tree) (fs : List m.Frame) (i : List Token) → m.source_turn k a fs i ≡ (if is_keyword token.As (first i) then m.go m.pattern_next (m.fold_pattern k a ∷ fs) (tail i) else m.stop)
unfolding m.source_turn
source_tests k a fs [] = refl
source_tests k a fs (keyword token.As ∷ i) = refl
source_tests k a fs (t ∷ i) = refl

pub iterating_tests : (a : Tree) (x : tree.Pattern) (b : Tree) (c : Tree) (fs : List m.Frame) (i : List Token) → m.update_turn m.iterating a x b c fs i ≡ (if is_symbol token.right_parenthesis (first i) then m.go (m.suffix false (tree.foreach a x b c tree.identity)) fs (tail i) else if is_symbol token.semicolon (first i) then m.go (m.want_pipe None) (m.fold_extract a x b c ∷ fs) (tail i) else m.stop)
unfolding m.update_turn
iterating_tests a x b c fs [] = refl
iterating_tests a x b c fs (symbol token.right_parenthesis ∷ i) = refl
iterating_tests a x b c fs (symbol token.semicolon ∷ i) = refl
iterating_tests a x b c fs (t ∷ i) = refl

pub part_tests : (a : Tree) (k : Tree) (fs : List m.Frame) (i : List Token) → m.part_turn a k fs i ≡ (if is_symbol token.right_bracket (first i) then m.go (m.suffix true (with_suffix a (to_part k))) fs (tail i) else if is_symbol token.colon (first i) then m.slice_turn a k fs (tail i) else m.stop)
unfolding m.part_turn
part_tests a k fs [] = refl
part_tests a k fs (symbol token.right_bracket ∷ i) = refl
part_tests a k fs (symbol token.colon ∷ i) = refl
part_tests a k fs (t ∷ i) = refl

pub slice_tests : (a : Tree) (k : Tree) (fs : List m.Frame) (i : List Token) → m.slice_turn a k fs i ≡ (if is_symbol token.right_bracket (first i) then m.go (m.suffix true (with_suffix a (to_slice k no_bound))) fs (tail i) else m.go (m.want_pipe None) (m.slice_end a k ∷ fs) i)
unfolding m.slice_turn
slice_tests a k fs [] = refl
slice_tests a k fs (symbol token.right_bracket ∷ i) = refl
slice_tests a k fs (t ∷ i) = refl

pub value_tests : (a : Tree) (fs : List m.Frame) (i : List Token) → m.value_turn a fs i ≡ (if is_symbol token.bar (first i) then m.go m.want_value (m.value_piped a ∷ fs) (tail i) else m.go (m.have a) fs i)
unfolding m.value_turn
value_tests a fs [] = refl
value_tests a fs (symbol token.bar ∷ i) = refl
value_tests a fs (t ∷ i) = refl

pub end_tests : (t : Tree) (i : List Token) → m.end_turn t i ≡ (if ended i then m.done t else m.stop)
unfolding m.end_turn
end_tests t [] = refl
end_tests t (c ∷ i) = refl

-- ---- operators

operator_none : (a : Tree) (from upto : ℕ) (o : Token) (l : ℕ) (fs : List m.Frame) (i : List Token) → l ≡ 0 → m.operator_turn a from upto o l fs i ≡ m.go (m.have a) fs (o ∷ i)
unfolding m.operator_turn
operator_none a from upto o zero fs i h = refl
operator_none a from upto o (suc l) fs i h = absurd (omega arith)

pub operators_none : (a : Tree) (from upto : ℕ) (fs : List m.Frame) (i : List Token) → level_first (first i) ≡ 0 → m.operators_turn a from upto fs i ≡ m.go (m.have a) fs i
unfolding m.operators_turn
operators_none a from upto fs [] h = refl
operators_none a from upto fs (o ∷ i) h = operator_none a from upto o (level_of o) fs i h

operator_out : (a : Tree) (from upto : ℕ) (o : Token) (l : ℕ) (fs : List m.Frame) (i : List Token) → (nat_le l upto && nat_le from l) ≡ false → m.operator_turn a from upto o l fs i ≡ m.go (m.have a) fs (o ∷ i)
unfolding m.operator_turn
operator_out a from upto o zero fs i h = refl
operator_out a from upto o (suc l) fs i h = rw h

pub operators_loose : (a : Tree) (from upto : ℕ) (fs : List m.Frame) (i : List Token) → upto < level_first (first i) → m.operators_turn a from upto fs i ≡ m.go (m.have a) fs i
unfolding m.operators_turn
operators_loose a from upto fs [] h = refl
operators_loose a from upto fs (o ∷ i) h = operator_out a from upto o (level_of o) fs i (loose (level_of o) upto from h)

pub operators_tight : (a : Tree) (from upto : ℕ) (fs : List m.Frame) (i : List Token) → level_first (first i) < from → m.operators_turn a from upto fs i ≡ m.go (m.have a) fs i
unfolding m.operators_turn
operators_tight a from upto fs [] h = refl
operators_tight a from upto fs (o ∷ i) h = operator_out a from upto o (level_of o) fs i (tight (level_of o) upto from h)

operator_take : (a : Tree) (from upto : ℕ) (o : Token) (l : ℕ) (fs : List m.Frame) (i : List Token) → 0 < l → l ≤ upto → from ≤ l
    → m.operator_turn a from upto o l fs i ≡ m.go (m.want_level (m.right_level (side_of l) (l - 1))) (m.operated a o (l - 1) upto ∷ fs) i
unfolding m.operator_turn
operator_take a from upto o zero fs i h k j = absurd (omega arith)
operator_take a from upto o (suc l) fs i h k j = let e : suc l - 1 ≡ l = omega arith in rw (both (suc l) upto from k j, e)

pub operators_take : (a : Tree) (from upto : ℕ) (o : Token) (fs : List m.Frame) (i : List Token) → 0 < level_of o → level_of o ≤ upto → from ≤ level_of o
    → m.operators_turn a from upto fs (o ∷ i) ≡ m.go (m.want_level (m.right_level (side_of (level_of o)) (level_of o - 1))) (m.operated a o (level_of o - 1) upto ∷ fs) i
unfolding m.operators_turn
operators_take a from upto o fs i h k j = operator_take a from upto o (level_of o) fs i h k j

-- ---- a frame that waits for the other kind of part

pub operator_waits : (x : tree.Pattern) (f : OperatorFrame) (fs : List m.Frame) (i : List Token) → m.have_pattern_turn x (operator_frame_of f ∷ fs) i ≡ m.stop
unfolding m.have_pattern_turn
operator_waits x operator_frame.Negated fs i = refl
operator_waits x f fs i = refl

pub scope_waits : (x : tree.Pattern) (f : ScopeFrame) (fs : List m.Frame) (i : List Token) → m.have_pattern_turn x (scope_frame_of f ∷ fs) i ≡ m.stop
unfolding m.have_pattern_turn
scope_waits x (scope_frame.DefinitionBody a b) fs i = refl
scope_waits x f fs i = refl

pub term_waits : (x : tree.Pattern) (f : TermFrame) (fs : List m.Frame) (i : List Token) → m.have_pattern_turn x (term_frame_of f ∷ fs) i ≡ m.stop
unfolding m.have_pattern_turn
term_waits x term_frame.InParentheses fs i = refl
term_waits x f fs i = refl

pub block_waits : (x : tree.Pattern) (f : BlockFrame) (fs : List m.Frame) (i : List Token) → m.have_pattern_turn x (block_frame_of f ∷ fs) i ≡ m.stop
unfolding m.have_pattern_turn
block_waits x (block_frame.BranchTest a) fs i = refl
block_waits x f fs i = refl

pub object_waits : (x : tree.Pattern) (f : ObjectFrame) (fs : List m.Frame) (i : List Token) → m.have_pattern_turn x (object_frame_of f ∷ fs) i ≡ m.stop
unfolding m.have_pattern_turn
object_waits x (object_frame.EntryKey a) fs i = refl
object_waits x f fs i = refl

pub pattern_waits : (t : Tree) (f : PatternFrame) (fs : List m.Frame) (i : List Token) → m.have_turn t (pattern_frame_of f ∷ fs) i ≡ m.stop
unfolding m.have_turn
pattern_waits t (pattern_frame.PatternItem a) fs i = refl
pattern_waits t f fs i = refl
