-- Parsing without recursion: a list of frames keeps the forms that wait for a part, and each turn looks at the next token.
--
-- Keywords nest too, as in `if if ..`, up to thousands of levels, so the parser's code keeps the waiting forms in a list of
-- its own.
use Rattle.std.specs.Prelude.{ℕ, zero, suc, pos, List, [], ◌∷◌, ◌++◌, Option, Some, None, Bool, true, false, ◌&&◌, nat_le, if◌then◌else◌}
use Rattle.jq_tree.specs.Tree.{Name, Tree, no_trees, more_trees, Pieces, last_piece, Entry, no_entries, more_entries, Pattern, more_patterns, no_patterns, Part, more_parts, no_parts}
use Rattle.jq_tree.specs.Tree as tree
use Rattle.jq_tree.specs.Token.{Keyword, keyword_text, Symbol, Token, keyword, name, field, variable, format, number, piece, interpolation, symbol}
use Rattle.jq_tree.specs.Token as token
use Rattle.jq_tree.specs.WrittenOut.{attempt, recurse_all, Parameter}
use Rattle.jq_tree.specs.Grammar.{level_of, Side, Left, Right, Neither, side_of, joined, literal_named, name_of, text_of, to_field, to_part, to_slice, to_all, with_suffix, no_bound}
use Rattle.jq_builders.specs.Trees.{EntryKey, by_word, by_text, by_format, entry_of, bare_name, with_question, Function, defining, with_comma, onto, piece_before, branch_before, PartKey, by_tree, by_variable, part_with, ValueKey, keyed_by, computed_by, entry_with}
use Rattle.jq_parser.specs.laws.Combinators.{Outcome, Parser, pure, first, tail, is_symbol, expect, any_name, ◌>>=◌, ◌>>◌}
use Rattle.jq_parser.specs.laws.Forms.{begins_post, is_as, both_of, parameters}

-- ---- collected items

pub data Fold : Type 0 where
  reducing : Fold
  iterating : Fold

-- The form that a string is a part of.
pub data TextUse : Type 0 where
  as_term : TextUse
  as_formatted : Name → TextUse
  as_part_of_input : TextUse
  as_part_of : Tree → TextUse
  as_key : List Entry → TextUse
  as_formatted_key : List Entry → Name → TextUse
  as_part_key : List Part → TextUse

-- Where a definition is: in a pipe, with the operand before the last comma, or before the filter.
pub data DefinitionUse : Type 0 where
  in_pipe : Option Tree → DefinitionUse
  in_main : DefinitionUse

-- ---- the forms that wait for a part

pub data Frame : Type 0 where
  negated : Frame
  tried : Frame
  caught : Tree → Frame
  climbing : (upto : ℕ) → Frame
  operated : (left : Tree) → Token → (l upto : ℕ) → Frame  -- an operator of level l + 1
  operand : (before : Option Tree) → (is_post : Bool) → Frame
  ends_operand : (before : Option Tree) → Frame
  piped : Tree → Frame
  definition_body : DefinitionUse → Name → List Parameter → Frame
  definition_rest : (before : Option Tree) → Function → Frame
  main_rest : Function → Frame
  label_rest : (before : Option Tree) → Name → Frame
  binding_pattern : (before : Option Tree) → Tree → Frame
  binding_rest : (before : Option Tree) → Tree → Pattern → Frame
  in_parentheses : Frame
  in_array : Frame
  argument : Name → List Tree → Frame
  branch_test : List (Tree × Tree) → Frame
  branch_holds : List (Tree × Tree) → Tree → Frame
  branch_fails : List (Tree × Tree) → Frame
  fold_source : Fold → Frame
  fold_pattern : Fold → Tree → Frame
  fold_start : Fold → Tree → Pattern → Frame
  fold_update : Fold → Tree → Pattern → Tree → Frame
  fold_extract : Tree → Pattern → Tree → Tree → Frame
  part_of : Tree → Frame
  slice_end : Tree → Tree → Frame
  slice_to : Tree → Frame
  text_part : TextUse → List (List ℕ × Tree) → List ℕ → Frame
  entry_key : List Entry → Frame
  entry_value : List Entry → ValueKey → Frame
  ends_value : Frame
  value_piped : Tree → Frame
  pattern_item : List Pattern → Frame
  pattern_member : List Part → PartKey → Frame
  member_key : List Part → Frame

-- What the next turn does.
pub data Mode : Type 0 where
  want_main : Mode
  want_pipe : (before : Option Tree) → Mode
  want_level : ℕ → Mode
  want_una : Mode
  want_body : Mode
  want_post : Mode
  want_value : Mode
  have : Tree → Mode  -- the part that the last frame waits for
  suffix : (last : Bool) → Tree → Mode  -- a postfix form so far, and whether it ends with a step
  bracket : Tree → Mode  -- after the `[` of a step
  operators : Tree → (from upto : ℕ) → Mode
  listed : Tree → Mode  -- the operands of the commas so far
  text : TextUse → List (List ℕ × Tree) → Mode
  text_done : TextUse → Pieces → Mode
  entry : List Entry → Mode
  after_entry : List Entry → Mode
  pattern_next : Mode
  have_pattern : Pattern → Mode
  member : List Part → Mode
  after_member : List Part → Mode
  definition_next : DefinitionUse → Mode  -- after `def`
  after_definition : DefinitionUse → Function → Mode

pub data Next : Type 0 where
  go : Mode → List Frame → List Token → Next
  done : Tree → Next
  stop : Next

-- ---- the turns

-- after `def`, up to the colon
unfoldable pub function_head : Parser (Name × List Parameter)
function_head = do
  n ← any_name
  ps ← parameters
  expect token.colon
  pure (n, ps)

unfoldable pub on_definition : DefinitionUse → List Frame → Outcome (Name × List Parameter) → Next
on_definition d fs (Some h) = go (want_pipe None) (definition_body d h.0.0 h.0.1 ∷ fs) h.1
on_definition d fs None = stop

unfoldable pub after_definition_turn : DefinitionUse → Function → List Frame → List Token → Next
after_definition_turn (in_pipe before) f fs i = go (want_pipe None) (definition_rest before f ∷ fs) i
after_definition_turn in_main f fs i = go want_main (main_rest f ∷ fs) i

unfoldable pub main_turn : List Frame → List Token → Next
main_turn fs [] = go (have tree.identity) fs []
main_turn fs (keyword token.Def ∷ i) = go (definition_next in_main) fs i
main_turn fs i = go (want_pipe None) fs i

unfoldable pub label_turn : Option Tree → List Frame → List Token → Next
label_turn before fs (variable n ∷ symbol token.bar ∷ i) = go (want_pipe None) (label_rest before n ∷ fs) i
label_turn before fs i = stop

unfoldable pub pipe_turn : Option Tree → List Frame → List Token → Next
pipe_turn before fs (keyword token.Def ∷ i) = go (definition_next (in_pipe before)) fs i
pipe_turn before fs (keyword token.Label ∷ i) = label_turn before fs i
pipe_turn before fs i = go want_una (operand before (begins_post (first i)) ∷ fs) i

unfoldable pub una_turn : List Frame → List Token → Next
una_turn fs (symbol token.minus ∷ i) = go want_una (negated ∷ fs) i
una_turn fs (keyword token.Try ∷ i) = go want_body (tried ∷ fs) i
una_turn fs i = go want_post fs i

unfoldable pub body_turn : List Frame → List Token → Next
body_turn fs (symbol token.minus ∷ i) = go want_body (negated ∷ fs) i
body_turn fs i = go want_post fs i

unfoldable pub call_turn : Name → List Frame → List Token → Next
call_turn n fs (symbol token.left_parenthesis ∷ i) = go (want_pipe None) (argument n [] ∷ fs) i
call_turn n fs i = go (suffix false (bare_name (literal_named n) n)) fs i

unfoldable pub format_turn : Name → List Frame → List Token → Next
format_turn f fs (piece s ∷ i) = go (text (as_formatted f) []) fs (piece s ∷ i)
format_turn f fs i = go (suffix false (tree.format f)) fs i

unfoldable pub dot_turn : List Frame → List Token → Next
dot_turn fs (piece s ∷ i) = go (text as_part_of_input []) fs (piece s ∷ i)
dot_turn fs i = go (suffix false tree.identity) fs i

unfoldable pub array_turn : List Frame → List Token → Next
array_turn fs (symbol token.right_bracket ∷ i) = go (suffix false (tree.array tree.empty)) fs i
array_turn fs i = go (want_pipe None) (in_array ∷ fs) i

unfoldable pub object_turn : List Frame → List Token → Next
object_turn fs (symbol token.right_brace ∷ i) = go (suffix false (tree.object no_entries)) fs i
object_turn fs i = go (entry []) fs i

unfoldable pub break_turn : List Frame → List Token → Next
break_turn fs (variable n ∷ i) = go (suffix false (tree.break n)) fs i
break_turn fs i = stop

unfoldable pub symbol_turn : Symbol → List Frame → List Token → Next
symbol_turn token.two_dots fs i = go (suffix false recurse_all) fs i
symbol_turn token.dot fs i = dot_turn fs i
symbol_turn token.left_parenthesis fs i = go (want_pipe None) (in_parentheses ∷ fs) i
symbol_turn token.left_bracket fs i = array_turn fs i
symbol_turn token.left_brace fs i = object_turn fs i
symbol_turn s fs i = stop

unfoldable pub keyword_turn : Keyword → List Frame → List Token → Next
keyword_turn token.Break fs i = break_turn fs i
keyword_turn token.Reduce fs i = go want_post (fold_source reducing ∷ fs) i
keyword_turn token.Foreach fs i = go want_post (fold_source iterating ∷ fs) i
keyword_turn token.If fs i = go (want_pipe None) (branch_test [] ∷ fs) i
keyword_turn k fs i = stop

unfoldable pub post_turn : List Frame → List Token → Next
post_turn fs (field n ∷ i) = go (suffix true (tree.field tree.identity n false)) fs i
post_turn fs (symbol s ∷ i) = symbol_turn s fs i
post_turn fs (keyword k ∷ i) = keyword_turn k fs i
post_turn fs (number n ∷ i) = go (suffix false (tree.literal (tree.number (pos n)))) fs i
post_turn fs (piece s ∷ i) = go (text as_term []) fs (piece s ∷ i)
post_turn fs (format f ∷ i) = format_turn f fs i
post_turn fs (variable n ∷ i) = go (suffix false (tree.variable n)) fs i
post_turn fs (name n ∷ i) = call_turn n fs i
post_turn fs i = stop

unfoldable pub dotted_turn : Tree → List Frame → List Token → Next
dotted_turn a fs (symbol token.left_bracket ∷ i) = go (bracket a) fs i
dotted_turn a fs i = go (text (as_part_of a) []) fs i

unfoldable pub suffix_turn : Bool → Tree → List Frame → List Token → Next
suffix_turn last a fs (symbol token.question ∷ i) = go (suffix false (with_question last a)) fs i
suffix_turn last a fs (field n ∷ i) = go (suffix true (with_suffix a (to_field n))) fs i
suffix_turn last a fs (symbol token.left_bracket ∷ i) = go (bracket a) fs i
suffix_turn last a fs (symbol token.dot ∷ i) = dotted_turn a fs i
suffix_turn last a fs i = go (have a) fs i

unfoldable pub bracket_turn : Tree → List Frame → List Token → Next
bracket_turn a fs (symbol token.right_bracket ∷ i) = go (suffix true (with_suffix a to_all)) fs i
bracket_turn a fs (symbol token.colon ∷ i) = go (want_pipe None) (slice_to a ∷ fs) i
bracket_turn a fs i = go (want_pipe None) (part_of a ∷ fs) i

abbrev pub right_level : Side → ℕ → ℕ
right_level Left l = l
right_level Right l = suc l
right_level Neither l = l

-- The first level whose operators may follow.
abbrev pub next_from : Side → ℕ → ℕ
next_from Left l = suc l
next_from Right l = suc (suc l)
next_from Neither l = suc (suc l)

unfoldable pub operator_turn : Tree → ℕ → ℕ → Token → ℕ → List Frame → List Token → Next
operator_turn a from upto o zero fs i = go (have a) fs (o ∷ i)
operator_turn a from upto o (suc l) fs i =
    if nat_le (suc l) upto && nat_le from (suc l) then go (want_level (right_level (side_of (suc l)) l)) (operated a o l upto ∷ fs) i else go (have a) fs (o ∷ i)

unfoldable pub operators_turn : Tree → ℕ → ℕ → List Frame → List Token → Next
operators_turn a from upto fs [] = go (have a) fs []
operators_turn a from upto fs (o ∷ i) = operator_turn a from upto o (level_of o) fs i

unfoldable pub listed_turn : Tree → List Frame → List Token → Next
listed_turn t fs (symbol token.comma ∷ i) = go (want_pipe (Some t)) fs i
listed_turn t fs (symbol token.bar ∷ i) = go (want_pipe None) (piped t ∷ fs) i
listed_turn t fs i = go (have t) fs i

unfoldable pub piece_turn : TextUse → List (List ℕ × Tree) → List ℕ → List Frame → List Token → Next
piece_turn u before s fs (interpolation ∷ i) = go (want_pipe None) (text_part u before s ∷ fs) i
piece_turn u before s fs i = go (text_done u (onto piece_before before (last_piece s))) fs i

unfoldable pub text_turn : TextUse → List (List ℕ × Tree) → List Frame → List Token → Next
text_turn u before fs (piece s ∷ i) = piece_turn u before s fs i
text_turn u before fs i = stop

abbrev pub expecting : Symbol → (List Token → Next) → List Token → Next
expecting s k i = if is_symbol s (first i) then k (tail i) else stop

unfoldable pub key_turn : List Entry → EntryKey → List Frame → List Token → Next
key_turn es k fs (symbol token.colon ∷ i) = go want_value (entry_value es (keyed_by k) ∷ fs) i
key_turn es k fs i = go (after_entry (es ++ entry_of k None ∷ [])) fs i

unfoldable pub part_key_turn : List Part → PartKey → List Frame → List Token → Next
part_key_turn qs k fs i = expecting token.colon (λ j. go pattern_next (pattern_member qs k ∷ fs) j) i

unfoldable pub text_done_turn : TextUse → Pieces → List Frame → List Token → Next
text_done_turn as_term ps fs i = go (suffix false (text_of ps)) fs i
text_done_turn (as_formatted f) ps fs i = go (suffix false (tree.text f ps)) fs i
text_done_turn as_part_of_input ps fs i = go (suffix true (tree.index tree.identity (text_of ps) false)) fs i
text_done_turn (as_part_of a) ps fs i = go (suffix true (with_suffix a (to_part (text_of ps)))) fs i
text_done_turn (as_key es) ps fs i = key_turn es (by_text ps) fs i
text_done_turn (as_formatted_key es f) ps fs i = key_turn es (by_format f ps) fs i
text_done_turn (as_part_key qs) ps fs i = part_key_turn qs (by_tree (text_of ps)) fs i

unfoldable pub entry_turn : List Entry → List Frame → List Token → Next
entry_turn es fs (variable n ∷ i) = go (after_entry (es ++ tree.named n (tree.variable n) ∷ [])) fs i
entry_turn es fs (name n ∷ i) = key_turn es (by_word n) fs i
entry_turn es fs (keyword k ∷ i) = key_turn es (by_word (keyword_text k)) fs i
entry_turn es fs (piece s ∷ i) = go (text (as_key es) []) fs (piece s ∷ i)
entry_turn es fs (format f ∷ i) = go (text (as_formatted_key es f) []) fs i
entry_turn es fs (symbol token.left_parenthesis ∷ i) = go (want_pipe None) (entry_key es ∷ fs) i
entry_turn es fs i = stop

unfoldable pub after_entry_turn : List Entry → List Frame → List Token → Next
after_entry_turn es fs (symbol token.comma ∷ i) = go (entry es) fs i
after_entry_turn es fs (symbol token.right_brace ∷ i) = go (suffix false (tree.object (onto more_entries es no_entries))) fs i
after_entry_turn es fs i = stop

unfoldable pub pattern_turn : List Frame → List Token → Next
pattern_turn fs (variable n ∷ i) = go (have_pattern (tree.whole n)) fs i
pattern_turn fs (symbol token.left_bracket ∷ i) = go pattern_next (pattern_item [] ∷ fs) i
pattern_turn fs (symbol token.left_brace ∷ i) = go (member []) fs i
pattern_turn fs i = stop

unfoldable pub variable_member_turn : List Part → Name → List Frame → List Token → Next
variable_member_turn qs n fs (symbol token.colon ∷ i) = go pattern_next (pattern_member qs (by_variable n) ∷ fs) i
variable_member_turn qs n fs i = go (after_member (qs ++ tree.keyed (name_of n) (tree.whole n) ∷ [])) fs i

unfoldable pub member_turn : List Part → List Frame → List Token → Next
member_turn qs fs (variable n ∷ i) = variable_member_turn qs n fs i
member_turn qs fs (name n ∷ i) = part_key_turn qs (by_tree (name_of n)) fs i
member_turn qs fs (keyword k ∷ i) = part_key_turn qs (by_tree (name_of (keyword_text k))) fs i
member_turn qs fs (piece s ∷ i) = go (text (as_part_key qs) []) fs (piece s ∷ i)
member_turn qs fs (symbol token.left_parenthesis ∷ i) = go (want_pipe None) (member_key qs ∷ fs) i
member_turn qs fs i = stop

unfoldable pub after_member_turn : List Part → List Frame → List Token → Next
after_member_turn qs fs (symbol token.comma ∷ i) = go (member qs) fs i
after_member_turn qs fs (symbol token.right_brace ∷ i) = go (have_pattern (tree.members (onto more_parts qs no_parts))) fs i
after_member_turn qs fs i = stop

unfoldable pub pattern_item_turn : List Pattern → List Frame → List Token → Next
pattern_item_turn xs fs (symbol token.comma ∷ i) = go pattern_next (pattern_item xs ∷ fs) i
pattern_item_turn xs fs (symbol token.right_bracket ∷ i) = go (have_pattern (tree.items (onto more_patterns xs no_patterns))) fs i
pattern_item_turn xs fs i = stop

unfoldable pub have_pattern_turn : Pattern → List Frame → List Token → Next
have_pattern_turn x (pattern_item xs ∷ fs) i = pattern_item_turn (xs ++ x ∷ []) fs i
have_pattern_turn x (pattern_member qs k ∷ fs) i = go (after_member (qs ++ part_with k x ∷ [])) fs i
have_pattern_turn x (binding_pattern before a ∷ fs) i = expecting token.bar (λ j. go (want_pipe None) (binding_rest before a x ∷ fs) j) i
have_pattern_turn x (fold_pattern k a ∷ fs) i = expecting token.left_parenthesis (λ j. go (want_pipe None) (fold_start k a x ∷ fs) j) i
have_pattern_turn x fs i = stop

-- ---- a part that a frame waits for

unfoldable pub tried_turn : Tree → List Frame → List Token → Next
tried_turn t fs (keyword token.Catch ∷ i) = go want_body (caught t ∷ fs) i
tried_turn t fs i = go (have (attempt t)) fs i

unfoldable pub operand_turn : Option Tree → Tree → Bool → List Frame → List Token → Next
operand_turn before t binds fs i = if binds then go pattern_next (binding_pattern before t ∷ fs) (tail i) else go (operators t 1 7) (ends_operand before ∷ fs) i

unfoldable pub argument_turn : Name → List Tree → List Frame → List Token → Next
argument_turn n ss fs (symbol token.semicolon ∷ i) = go (want_pipe None) (argument n ss ∷ fs) i
argument_turn n ss fs (symbol token.right_parenthesis ∷ i) = go (suffix false (tree.call n (onto more_trees ss no_trees))) fs i
argument_turn n ss fs i = stop

unfoldable pub test_turn : List (Tree × Tree) → Tree → List Frame → List Token → Next
test_turn cs a fs (keyword token.Then ∷ i) = go (want_pipe None) (branch_holds cs a ∷ fs) i
test_turn cs a fs i = stop

unfoldable pub branch_turn : List (Tree × Tree) → List Frame → List Token → Next
branch_turn cs fs (keyword token.Elif ∷ i) = go (want_pipe None) (branch_test cs ∷ fs) i
branch_turn cs fs (keyword token.Else ∷ i) = go (want_pipe None) (branch_fails cs ∷ fs) i
branch_turn cs fs (keyword token.End ∷ i) = go (suffix false (onto branch_before cs tree.identity)) fs i
branch_turn cs fs i = stop

unfoldable pub fails_turn : Tree → List Frame → List Token → Next
fails_turn t fs (keyword token.End ∷ i) = go (suffix false t) fs i
fails_turn t fs i = stop

unfoldable pub source_turn : Fold → Tree → List Frame → List Token → Next
source_turn k a fs (keyword token.As ∷ i) = go pattern_next (fold_pattern k a ∷ fs) i
source_turn k a fs i = stop

unfoldable pub update_turn : Fold → Tree → Pattern → Tree → Tree → List Frame → List Token → Next
update_turn reducing a x b c fs i = expecting token.right_parenthesis (λ j. go (suffix false (tree.reduce a x b c)) fs j) i
update_turn iterating a x b c fs (symbol token.right_parenthesis ∷ i) = go (suffix false (tree.foreach a x b c tree.identity)) fs i
update_turn iterating a x b c fs (symbol token.semicolon ∷ i) = go (want_pipe None) (fold_extract a x b c ∷ fs) i
update_turn iterating a x b c fs i = stop

unfoldable pub slice_turn : Tree → Tree → List Frame → List Token → Next
slice_turn a k fs (symbol token.right_bracket ∷ i) = go (suffix true (with_suffix a (to_slice k no_bound))) fs i
slice_turn a k fs i = go (want_pipe None) (slice_end a k ∷ fs) i

unfoldable pub part_turn : Tree → Tree → List Frame → List Token → Next
part_turn a k fs (symbol token.right_bracket ∷ i) = go (suffix true (with_suffix a (to_part k))) fs i
part_turn a k fs (symbol token.colon ∷ i) = slice_turn a k fs i
part_turn a k fs i = stop

unfoldable pub value_turn : Tree → List Frame → List Token → Next
value_turn t fs (symbol token.bar ∷ i) = go want_value (value_piped t ∷ fs) i
value_turn t fs i = go (have t) fs i

unfoldable pub end_turn : Tree → List Token → Next
end_turn t [] = done t
end_turn t (c ∷ i) = stop

unfoldable pub have_turn : Tree → List Frame → List Token → Next
have_turn t [] i = end_turn t i
have_turn t (negated ∷ fs) i = go (have (tree.negation t)) fs i
have_turn t (tried ∷ fs) i = tried_turn t fs i
have_turn t (caught a ∷ fs) i = go (have (tree.try_catch a t)) fs i
have_turn t (climbing upto ∷ fs) i = go (operators t 1 upto) fs i
have_turn t (operated a o l upto ∷ fs) i = go (operators (joined o a t) (next_from (side_of (suc l)) l) upto) fs i
have_turn t (operand before is_post ∷ fs) i = operand_turn before t (both_of is_post (is_as (first i))) fs i
have_turn t (ends_operand before ∷ fs) i = go (listed (with_comma before t)) fs i
have_turn t (piped a ∷ fs) i = go (have (tree.pipe a t)) fs i
have_turn t (definition_body d n ps ∷ fs) i = expecting token.semicolon (λ j. go (after_definition d (record { named = n; parameters = ps; body = t })) fs j) i
have_turn t (definition_rest before f ∷ fs) i = go (have (with_comma before (defining f t))) fs i
have_turn t (main_rest f ∷ fs) i = go (have (defining f t)) fs i
have_turn t (label_rest before n ∷ fs) i = go (have (with_comma before (tree.label n t))) fs i
have_turn t (binding_rest before a x ∷ fs) i = go (have (with_comma before (tree.bind_as a x t))) fs i
have_turn t (in_parentheses ∷ fs) i = expecting token.right_parenthesis (λ j. go (suffix false t) fs j) i
have_turn t (in_array ∷ fs) i = expecting token.right_bracket (λ j. go (suffix false (tree.array t)) fs j) i
have_turn t (argument n ss ∷ fs) i = argument_turn n (ss ++ t ∷ []) fs i
have_turn t (branch_test cs ∷ fs) i = test_turn cs t fs i
have_turn t (branch_holds cs a ∷ fs) i = branch_turn (cs ++ (a, t) ∷ []) fs i
have_turn t (branch_fails cs ∷ fs) i = fails_turn (onto branch_before cs t) fs i
have_turn t (fold_source k ∷ fs) i = source_turn k t fs i
have_turn t (fold_start k a x ∷ fs) i = expecting token.semicolon (λ j. go (want_pipe None) (fold_update k a x t ∷ fs) j) i
have_turn t (fold_update k a x b ∷ fs) i = update_turn k a x b t fs i
have_turn t (fold_extract a x b c ∷ fs) i = expecting token.right_parenthesis (λ j. go (suffix false (tree.foreach a x b c t)) fs j) i
have_turn t (part_of a ∷ fs) i = part_turn a t fs i
have_turn t (slice_end a k ∷ fs) i = expecting token.right_bracket (λ j. go (suffix true (with_suffix a (to_slice k t))) fs j) i
have_turn t (slice_to a ∷ fs) i = expecting token.right_bracket (λ j. go (suffix true (with_suffix a (to_slice no_bound t))) fs j) i
have_turn t (text_part u before s ∷ fs) i = expecting token.right_parenthesis (λ j. go (text u (before ++ (s, t) ∷ [])) fs j) i
have_turn t (entry_key es ∷ fs) i = expecting token.right_parenthesis (expecting token.colon (λ j. go want_value (entry_value es (computed_by t) ∷ fs) j)) i
have_turn t (entry_value es k ∷ fs) i = go (after_entry (es ++ entry_with k t ∷ [])) fs i
have_turn t (ends_value ∷ fs) i = value_turn t fs i
have_turn t (value_piped a ∷ fs) i = go (have (tree.pipe a t)) fs i
have_turn t (member_key qs ∷ fs) i = expecting token.right_parenthesis (expecting token.colon (λ j. go pattern_next (pattern_member qs (by_tree t) ∷ fs) j)) i
have_turn t (f ∷ fs) i = stop

unfoldable pub turn : Mode → List Frame → List Token → Next
turn want_main fs i = main_turn fs i
turn (want_pipe before) fs i = pipe_turn before fs i
turn (want_level l) fs i = go want_una (climbing l ∷ fs) i
turn want_una fs i = una_turn fs i
turn want_body fs i = body_turn fs i
turn want_post fs i = post_turn fs i
turn want_value fs i = go (want_level 7) (ends_value ∷ fs) i
turn (have t) fs i = have_turn t fs i
turn (suffix last a) fs i = suffix_turn last a fs i
turn (bracket a) fs i = bracket_turn a fs i
turn (operators a from upto) fs i = operators_turn a from upto fs i
turn (listed t) fs i = listed_turn t fs i
turn (text u before) fs i = text_turn u before fs i
turn (text_done u ps) fs i = text_done_turn u ps fs i
turn (entry es) fs i = entry_turn es fs i
turn (after_entry es) fs i = after_entry_turn es fs i
turn pattern_next fs i = pattern_turn fs i
turn (have_pattern x) fs i = have_pattern_turn x fs i
turn (member qs) fs i = member_turn qs fs i
turn (after_member qs) fs i = after_member_turn qs fs i
turn (definition_next d) fs i = on_definition d fs (function_head i)
turn (after_definition d f) fs i = after_definition_turn d f fs i

-- The tree that the turns end with, where they are at most k.
unfoldable pub run : ℕ → Next → Option Tree
run k (done t) = Some t
run k stop = None
run zero (go m fs i) = None
run (suc k) (go m fs i) = run k (turn m fs i)

-- unfolds all of the turns
unfoldable pub turns : Unit {0}
unfolding on_definition after_definition_turn main_turn label_turn pipe_turn una_turn body_turn call_turn format_turn dot_turn array_turn object_turn break_turn symbol_turn keyword_turn post_turn dotted_turn suffix_turn bracket_turn operator_turn operators_turn listed_turn piece_turn text_turn key_turn part_key_turn text_done_turn entry_turn after_entry_turn pattern_turn variable_member_turn member_turn after_member_turn pattern_item_turn have_pattern_turn tried_turn operand_turn argument_turn test_turn branch_turn fails_turn source_turn update_turn slice_turn part_turn value_turn end_turn have_turn turn
turns = tt
