-- The data of the parser's code as data of the definitions (see `Machine`).
use Rattle.std.specs.Prelude.{◌≡◌, ℕ, List, [], ◌∷◌, map, Option, Some, None, Bool, true, false, Result, MatchResult, ◌==◌}
use Rattle.jv_data.specs.Text.{text_of}
use Rattle.jq_tree.specs.Tree as tree
use Rattle.jq_tree.specs.Tree.{Name}
use Rattle.jq_tree.specs.Token.{Keyword, Token, keyword, name, field, variable, piece, interpolation}
use Rattle.jq_tree.specs.Token as token
use Rattle.jq_tree.specs.Grammar.{level_of, to_field, with_suffix}
use Rattle.jq_tree.specs.WrittenOut.{Parameter}
use Rattle.jq_lexer.specs.Views.{token_of}
use Rattle.jq_ast.specs.Named.{named, named_as_pattern, named_as_part, named_entry}
use Rattle.jq_builders.specs.Views.{tree_in, pattern_in, maybe, branch_of, piece_of, pieces_of, value_key_of, part_key_of, parameter_of, definition_of}
use Rattle.jq_builders.specs.declared.parts.Head.{Head}
use Rattle.jq_parser.specs.laws.Machine as m
use Rattle.jq_parser.specs.declared.faults.ParseFault.{ParseFault}
use Rattle.jq_parser.specs.declared.faults.ParseFault.TheVariants.{Syntax}
use Rattle.jq_parser.specs.declared.forms.TextUse.{TextUse}
use Rattle.jq_parser.specs.declared.forms.TextUse.TheVariants as text_use
use Rattle.jq_parser.specs.declared.forms.DefinitionUse.{DefinitionUse}
use Rattle.jq_parser.specs.declared.forms.DefinitionUse.TheVariants as definition_use
use Rattle.jq_parser.specs.declared.forms.Fold.{Fold}
use Rattle.jq_parser.specs.declared.forms.Fold.TheVariants as fold
use Rattle.jq_parser.specs.declared.forms.Frame.{Frame}
use Rattle.jq_parser.specs.declared.forms.Frame.TheVariants as frame
use Rattle.jq_parser.specs.declared.forms.OperatorFrame.{OperatorFrame}
use Rattle.jq_parser.specs.declared.forms.OperatorFrame.TheVariants as operator_frame
use Rattle.jq_parser.specs.declared.forms.ScopeFrame.{ScopeFrame}
use Rattle.jq_parser.specs.declared.forms.ScopeFrame.TheVariants as scope_frame
use Rattle.jq_parser.specs.declared.forms.TermFrame.{TermFrame}
use Rattle.jq_parser.specs.declared.forms.TermFrame.TheVariants as term_frame
use Rattle.jq_parser.specs.declared.forms.BlockFrame.{BlockFrame}
use Rattle.jq_parser.specs.declared.forms.BlockFrame.TheVariants as block_frame
use Rattle.jq_parser.specs.declared.forms.ObjectFrame.{ObjectFrame}
use Rattle.jq_parser.specs.declared.forms.ObjectFrame.TheVariants as object_frame
use Rattle.jq_parser.specs.declared.forms.PatternFrame.{PatternFrame}
use Rattle.jq_parser.specs.declared.forms.PatternFrame.TheVariants as pattern_frame
use Rattle.jq_parser.specs.declared.forms.Mode.{Mode}
use Rattle.jq_parser.specs.declared.forms.Mode.TheVariants as mode
use Rattle.jq_parser.specs.declared.parser.Parser.{Parser}

abbrev pub text_use_of : TextUse → m.TextUse
text_use_of text_use.Term = m.as_term
text_use_of (text_use.Formatted n) = m.as_formatted (text_of n)
text_use_of text_use.PartOfInput = m.as_part_of_input
text_use_of (text_use.PartOf t) = m.as_part_of (tree_in t)
text_use_of (text_use.Key es) = m.as_key (map named_entry es.items)
text_use_of (text_use.FormattedKey es n) = m.as_formatted_key (map named_entry es.items) (text_of n)
text_use_of (text_use.PartKey ps) = m.as_part_key (map named_as_part ps.items)

abbrev pub definition_use_of : DefinitionUse → m.DefinitionUse
definition_use_of (definition_use.InPipe before) = m.in_pipe (maybe before)
definition_use_of definition_use.InMain = m.in_main

-- the name and the parameters of a definition
abbrev pub head_of : Head → Name × List Parameter
head_of h = (text_of h.name, map parameter_of h.parameters.items)

-- the frame of a definition that waits for its body
abbrev pub definition_frame_of : DefinitionUse → Head → m.Frame
definition_frame_of d h = m.definition_body (definition_use_of d) (text_of h.name) (map parameter_of h.parameters.items)

abbrev pub fold_of : Fold → m.Fold
fold_of fold.Reducing = m.reducing
fold_of fold.Iterating = m.iterating

abbrev pub operator_frame_of : OperatorFrame → m.Frame
operator_frame_of operator_frame.Negated = m.negated
operator_frame_of operator_frame.Tried = m.tried
operator_frame_of (operator_frame.Caught a) = m.caught (tree_in a)
operator_frame_of (operator_frame.Climbing upto) = m.climbing upto
operator_frame_of (operator_frame.Operated a o l upto) = m.operated (tree_in a) (token_of o) l upto
operator_frame_of (operator_frame.Operand before is_post) = m.operand (maybe before) is_post
operator_frame_of (operator_frame.EndsOperand before) = m.ends_operand (maybe before)
operator_frame_of (operator_frame.Piped a) = m.piped (tree_in a)

abbrev pub scope_frame_of : ScopeFrame → m.Frame
scope_frame_of (scope_frame.DefinitionBody d h) = definition_frame_of d h
scope_frame_of (scope_frame.DefinitionRest before d) = m.definition_rest (maybe before) (definition_of d)
scope_frame_of (scope_frame.MainRest d) = m.main_rest (definition_of d)
scope_frame_of (scope_frame.LabelRest before n) = m.label_rest (maybe before) (text_of n)
scope_frame_of (scope_frame.BindingRest before a x) = m.binding_rest (maybe before) (tree_in a) (pattern_in x)

abbrev pub term_frame_of : TermFrame → m.Frame
term_frame_of term_frame.InParentheses = m.in_parentheses
term_frame_of term_frame.InArray = m.in_array
term_frame_of (term_frame.Argument n ts) = m.argument (text_of n) (map named ts.items)
term_frame_of (term_frame.PartOf a) = m.part_of (tree_in a)
term_frame_of (term_frame.SliceEnd a k) = m.slice_end (tree_in a) (tree_in k)
term_frame_of (term_frame.SliceTo a) = m.slice_to (tree_in a)
term_frame_of (term_frame.TextPart u ps s) = m.text_part (text_use_of u) (map piece_of ps.items) (text_of s)

abbrev pub block_frame_of : BlockFrame → m.Frame
block_frame_of (block_frame.BranchTest cs) = m.branch_test (map branch_of cs.items)
block_frame_of (block_frame.BranchHolds cs a) = m.branch_holds (map branch_of cs.items) (tree_in a)
block_frame_of (block_frame.BranchFails cs) = m.branch_fails (map branch_of cs.items)
block_frame_of (block_frame.FoldSource k) = m.fold_source (fold_of k)
block_frame_of (block_frame.FoldStart k a x) = m.fold_start (fold_of k) (tree_in a) (pattern_in x)
block_frame_of (block_frame.FoldUpdate k a x b) = m.fold_update (fold_of k) (tree_in a) (pattern_in x) (tree_in b)
block_frame_of (block_frame.FoldExtract a x b c) = m.fold_extract (tree_in a) (pattern_in x) (tree_in b) (tree_in c)

abbrev pub object_frame_of : ObjectFrame → m.Frame
object_frame_of (object_frame.EntryKey es) = m.entry_key (map named_entry es.items)
object_frame_of (object_frame.EntryValue es k) = m.entry_value (map named_entry es.items) (value_key_of k)
object_frame_of object_frame.EndsValue = m.ends_value
object_frame_of (object_frame.ValuePiped a) = m.value_piped (tree_in a)
object_frame_of (object_frame.MemberKey ps) = m.member_key (map named_as_part ps.items)

abbrev pub pattern_frame_of : PatternFrame → m.Frame
pattern_frame_of (pattern_frame.PatternItem ps) = m.pattern_item (map named_as_pattern ps.items)
pattern_frame_of (pattern_frame.PatternMember ps k) = m.pattern_member (map named_as_part ps.items) (part_key_of k)
pattern_frame_of (pattern_frame.BindingPattern before a) = m.binding_pattern (maybe before) (tree_in a)
pattern_frame_of (pattern_frame.FoldPattern k a) = m.fold_pattern (fold_of k) (tree_in a)

abbrev pub frame_of : Frame → m.Frame
frame_of (frame.Operator f) = operator_frame_of f
frame_of (frame.Scope f) = scope_frame_of f
frame_of (frame.Term f) = term_frame_of f
frame_of (frame.Block f) = block_frame_of f
frame_of (frame.Object f) = object_frame_of f
frame_of (frame.Pattern f) = pattern_frame_of f

-- the remaining tokens, and the waiting frames
abbrev pub ahead : Parser → List Token
ahead p = map token_of p.tokens.items

abbrev pub waiting : Parser → List m.Frame
waiting p = map frame_of p.frames.items

unfoldable pub next_of : Mode → List m.Frame → List Token → m.Next
next_of mode.WantMain fs i = m.go m.want_main fs i
next_of (mode.WantPipe before) fs i = m.go (m.want_pipe (maybe before)) fs i
next_of (mode.WantLevel l) fs i = m.go (m.want_level l) fs i
next_of mode.WantUnary fs i = m.go m.want_una fs i
next_of mode.WantBody fs i = m.go m.want_body fs i
next_of mode.WantPostfix fs i = m.go m.want_post fs i
next_of mode.WantValue fs i = m.go m.want_value fs i
next_of (mode.Have t) fs i = m.go (m.have (tree_in t)) fs i
next_of (mode.Suffix last a) fs i = m.go (m.suffix last (tree_in a)) fs i
next_of (mode.Bracket a) fs i = m.go (m.bracket (tree_in a)) fs i
next_of (mode.Operators a from upto) fs i = m.go (m.operators (tree_in a) from upto) fs i
next_of (mode.Listed t) fs i = m.go (m.listed (tree_in t)) fs i
next_of (mode.Text u ps) fs i = m.go (m.text (text_use_of u) (map piece_of ps.items)) fs i
next_of (mode.TextDone u t) fs i = m.go (m.text_done (text_use_of u) (pieces_of t)) fs i
next_of (mode.Entry es) fs i = m.go (m.entry (map named_entry es.items)) fs i
next_of (mode.AfterEntry es) fs i = m.go (m.after_entry (map named_entry es.items)) fs i
next_of mode.WantPattern fs i = m.go m.pattern_next fs i
next_of (mode.HavePattern x) fs i = m.go (m.have_pattern (pattern_in x)) fs i
next_of (mode.Member ps) fs i = m.go (m.member (map named_as_part ps.items)) fs i
next_of (mode.AfterMember ps) fs i = m.go (m.after_member (map named_as_part ps.items)) fs i
next_of (mode.WantDefinition d) fs i = m.go (m.definition_next (definition_use_of d)) fs i
next_of (mode.AfterDefinition d x) fs i = m.go (m.after_definition (definition_use_of d) (definition_of x)) fs i
next_of (mode.Done t) fs i = m.done (tree_in t)

-- The result of a turn is the definition's next mode, frames and tokens. A syntax error is returned only if the definition
-- stops.
abbrev pub Turns : Result Mode ParseFault → Parser → m.Next → Type 0
Turns result p next = MatchResult result (λ mode. next_of mode (waiting p) (ahead p) ≡ next) (λ e. e ≡ Syntax → next ≡ m.stop)

-- ---- tests of the next token

-- Different keywords have different numbers.
abbrev pub keyword_number : Keyword → ℕ
keyword_number token.Def = 0
keyword_number token.If = 1
keyword_number token.Then = 2
keyword_number token.Elif = 3
keyword_number token.Else = 4
keyword_number token.End = 5
keyword_number token.As = 6
keyword_number token.Reduce = 7
keyword_number token.Foreach = 8
keyword_number token.Try = 9
keyword_number token.Catch = 10
keyword_number token.Label = 11
keyword_number token.Break = 12
keyword_number token.Import = 13
keyword_number token.Include = 14
keyword_number token.Module = 15
keyword_number token.And = 16
keyword_number token.Or = 17
keyword_number token.Location = 18

abbrev pub is_keyword : Keyword → Option Token → Bool
is_keyword k (Some (keyword j)) = keyword_number j == keyword_number k
is_keyword k _ = false

abbrev pub is_piece : Option Token → Bool
is_piece (Some (piece s)) = true
is_piece _ = false

abbrev pub is_variable : Option Token → Bool
is_variable (Some (variable n)) = true
is_variable _ = false

abbrev pub is_name : Option Token → Bool
is_name (Some (name n)) = true
is_name _ = false

abbrev pub is_field : Option Token → Bool
is_field (Some (field n)) = true
is_field _ = false

abbrev pub is_interpolation : Option Token → Bool
is_interpolation (Some interpolation) = true
is_interpolation _ = false

abbrev pub ended : List Token → Bool
ended [] = true
ended (t ∷ i) = false

abbrev pub level_first : Option Token → ℕ
level_first None = 0
level_first (Some t) = level_of t

-- ---- parts of turns

-- A field after a postfix form.
unfoldable pub field_step : tree.Tree → List m.Frame → List Token → m.Next
field_step a fs (field n ∷ i) = m.go (m.suffix true (with_suffix a (to_field n))) fs i
field_step a fs i = m.stop

-- One more turn, unless the parse is done or has stopped.
unfoldable pub turned : m.Next → m.Next
turned (m.go mode fs i) = m.turn mode fs i
turned x = x
