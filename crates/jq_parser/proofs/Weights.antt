-- Each turn makes the remaining work less, so the turns end.
use Rattle.std.proofs.Common.{◌≡◌, ℕ, zero, suc, ◌+◌, ◌*◌, ◌<◌, ◌≤◌, List, [], ◌∷◌, ◌++◌, length, Bool, true, false, Option, Some, None, refl, ap, ◌∙◌, arith, ◌⊎◌, inl, inr}
use Rattle.std.proofs.lemmas.List.{length-append}
use Rattle.std.specs.Prelude.{◌==◌, ◌&&◌, nat_le, if◌then◌else◌}
use Rattle.jq_tree.specs.Tree.{Name, Tree, Pieces, Entry, Pattern, Part}
use Rattle.jq_tree.specs.Tree as tree
use Rattle.jq_tree.specs.Token.{Keyword, keyword_text, Symbol, Token, keyword, name, field, variable, format, number, piece, interpolation, symbol}
use Rattle.jq_tree.specs.Token as token
use Rattle.jq_tree.specs.WrittenOut.{Parameter}
use Rattle.jq_tree.specs.Grammar.{level_of, side_of, name_of, text_of, with_suffix, to_slice, no_bound}
use Rattle.jq_builders.specs.Trees as built
use Rattle.jq_builders.specs.Trees.{EntryKey, by_word, by_text, by_format, Function}
use Rattle.jq_parser.specs.laws.Machine as m
use Rattle.jq_parser.specs.laws.Combinators.{Outcome, first, tail, symbol_number}
use Rattle.jq_parser.specs.laws.Forms.{is_as, both_of}
use Rattle.jq_parser.specs.laws.Machine.{TextUse, DefinitionUse, Frame, Mode, Next, go, done, stop, turns, turn, expecting, right_level}
use Rattle.jq_parser.proofs.Ends.{Ends, at_end, by_turn}
use Rattle.jq_parser.proofs.KeptC.{head_sound}

-- ---- the remaining work

abbrev pub mode_weight : Mode → ℕ
mode_weight m.want_main = 8
mode_weight (m.want_pipe before) = 7
mode_weight (m.want_level l) = 5
mode_weight m.want_una = 2
mode_weight m.want_body = 2
mode_weight m.want_value = 7
mode_weight (m.suffix last t) = 2
mode_weight (m.bracket t) = 9
mode_weight (m.operators t from upto) = 2
mode_weight (m.listed t) = 2
mode_weight (m.text u before) = 0
mode_weight (m.text_done u ps) = 3
mode_weight (m.after_definition d f) = 10
mode_weight mode = 1

abbrev pub frame_weight : Frame → ℕ
frame_weight (m.climbing upto) = 2
frame_weight (m.operated a o l upto) = 2
frame_weight (m.operand before is_post) = 4
frame_weight (m.ends_operand before) = 2
frame_weight f = 1

unfoldable pub frames_weight : List Frame → ℕ
frames_weight [] = 0
frames_weight (f ∷ fs) = frame_weight f + frames_weight fs

abbrev pub weight : Mode → List Frame → List Token → ℕ
weight mode fs i = 16 * length i + mode_weight mode + frames_weight fs

abbrev pub Less : ℕ → Next → Type 0
Less w (go mode fs i) = weight mode fs i < w
Less w (done t) = Unit {0}
Less w stop = Unit {0}

-- A token was taken.
abbrev Room : ℕ → List Frame → List Token → Type 0
Room c fs i = 16 * length i + 16 + frames_weight fs ≤ c

unfoldable pub weighed : Unit {0}
unfolding turns frames_weight
weighed = tt

-- ---- after a token

label_less : (c : ℕ) (before : Option Tree) (fs : List Frame) (i : List Token) → Room c fs i → Less c (m.label_turn before fs i)
unfolding weighed
label_less c before fs (variable n ∷ symbol token.bar ∷ i) h = omega arith
label_less c before fs i h = tt

call_less : (c : ℕ) (v : Name) (fs : List Frame) (i : List Token) → Room c fs i → Less c (m.call_turn v fs i)
unfolding weighed
call_less c v fs [] h = omega arith
call_less c v fs (symbol token.left_parenthesis ∷ i) h = omega arith
call_less c v fs (t ∷ i) h = omega arith

format_less : (c : ℕ) (f : Name) (fs : List Frame) (i : List Token) → Room c fs i → Less c (m.format_turn f fs i)
unfolding weighed
format_less c f fs [] h = omega arith
format_less c f fs (piece s ∷ i) h = omega arith
format_less c f fs (t ∷ i) h = omega arith

dot_less : (c : ℕ) (fs : List Frame) (i : List Token) → Room c fs i → Less c (m.dot_turn fs i)
unfolding weighed
dot_less c fs [] h = omega arith
dot_less c fs (piece s ∷ i) h = omega arith
dot_less c fs (t ∷ i) h = omega arith

array_less : (c : ℕ) (fs : List Frame) (i : List Token) → Room c fs i → Less c (m.array_turn fs i)
unfolding weighed
array_less c fs [] h = omega arith
array_less c fs (symbol token.right_bracket ∷ i) h = omega arith
array_less c fs (t ∷ i) h = omega arith

object_less : (c : ℕ) (fs : List Frame) (i : List Token) → Room c fs i → Less c (m.object_turn fs i)
unfolding weighed
object_less c fs [] h = omega arith
object_less c fs (symbol token.right_brace ∷ i) h = omega arith
object_less c fs (t ∷ i) h = omega arith

break_less : (c : ℕ) (fs : List Frame) (i : List Token) → Room c fs i → Less c (m.break_turn fs i)
unfolding weighed
break_less c fs (variable n ∷ i) h = omega arith
break_less c fs i h = tt

symbol_less : (c : ℕ) (s : Symbol) (fs : List Frame) (i : List Token) → Room c fs i → Less c (m.symbol_turn s fs i)
unfolding weighed
symbol_less c token.two_dots fs i h = omega arith
symbol_less c token.dot fs i h = dot_less c fs i h
symbol_less c token.left_parenthesis fs i h = omega arith
symbol_less c token.left_bracket fs i h = array_less c fs i h
symbol_less c token.left_brace fs i h = object_less c fs i h
symbol_less c s fs i h = tt

keyword_less : (c : ℕ) (w : Keyword) (fs : List Frame) (i : List Token) → Room c fs i → Less c (m.keyword_turn w fs i)
unfolding weighed
keyword_less c token.Break fs i h = break_less c fs i h
keyword_less c token.Reduce fs i h = omega arith
keyword_less c token.Foreach fs i h = omega arith
keyword_less c token.If fs i h = omega arith
keyword_less c w fs i h = tt

dotted_less : (c : ℕ) (a : Tree) (fs : List Frame) (i : List Token) → Room c fs i → Less c (m.dotted_turn a fs i)
unfolding weighed
dotted_less c a fs [] h = omega arith
dotted_less c a fs (symbol token.left_bracket ∷ i) h = omega arith
dotted_less c a fs (t ∷ i) h = omega arith

piece_less : (c : ℕ) (u : TextUse) (before : List (List ℕ × Tree)) (s : List ℕ) (fs : List Frame) (i : List Token) → Room c fs i → Less c (m.piece_turn u before s fs i)
unfolding weighed
piece_less c u before s fs [] h = omega arith
piece_less c u before s fs (interpolation ∷ i) h = omega arith
piece_less c u before s fs (t ∷ i) h = omega arith

-- an entry goes on, or ends
key_less : (c : ℕ) (es : List Entry) (key : EntryKey) (fs : List Frame) (i : List Token) → 16 * length i + 2 + frames_weight fs ≤ c → Less c (m.key_turn es key fs i)
unfolding weighed
key_less c es key fs [] h = omega arith
key_less c es key fs (symbol token.colon ∷ i) h = omega arith
key_less c es key fs (t ∷ i) h = omega arith

expecting_less : (c : ℕ) (s : Symbol) (next : List Token → Next) (i : List Token) → ((t : Token) (j : List Token) → i ≡ t ∷ j → Less c (next j)) → Less c (expecting s next i)
expecting_less c s next [] h = tt
expecting_less c s next (symbol t ∷ i) h = tested (symbol_number t == symbol_number s)
  where
    tested : (b : Bool) → Less c (if b then next i else stop)
    tested true = h (symbol t) i refl
    tested false = tt
expecting_less c s next (t ∷ i) h = tt

-- one token more
longer : (t : Token) (i j : List Token) → i ≡ t ∷ j → length i ≡ 1 + length j
longer t i j e = ap length e ∙ omega arith

part_key_less : (c : ℕ) (qs : List Part) (key : built.PartKey) (fs : List Frame) (i : List Token) → 16 * length i + 1 + frames_weight fs ≤ c → Less c (m.part_key_turn qs key fs i)
unfolding weighed
part_key_less c qs key fs i h = expecting_less c token.colon (λ j. go m.pattern_next (m.pattern_member qs key ∷ fs) j) i (λ t j e. omega (arith, longer t i j e))

variable_less : (c : ℕ) (qs : List Part) (v : Name) (fs : List Frame) (i : List Token) → Room c fs i → Less c (m.variable_member_turn qs v fs i)
unfolding weighed
variable_less c qs v fs [] h = omega arith
variable_less c qs v fs (symbol token.colon ∷ i) h = omega arith
variable_less c qs v fs (t ∷ i) h = omega arith

-- ---- the modes

main_less : (fs : List Frame) (i : List Token) → Less (weight m.want_main fs i) (m.main_turn fs i)
unfolding weighed
main_less fs [] = omega arith
main_less fs (keyword token.Def ∷ i) = omega arith
main_less fs (t ∷ i) = omega arith

pipe_less : (before : Option Tree) (fs : List Frame) (i : List Token) → Less (weight (m.want_pipe before) fs i) (m.pipe_turn before fs i)
unfolding weighed
pipe_less before fs [] = omega arith
pipe_less before fs (keyword token.Def ∷ i) = omega arith
pipe_less before fs (keyword token.Label ∷ i) = label_less (weight (m.want_pipe before) fs (keyword token.Label ∷ i)) before fs i (omega arith)
pipe_less before fs (t ∷ i) = omega arith

una_less : (fs : List Frame) (i : List Token) → Less (weight m.want_una fs i) (m.una_turn fs i)
unfolding weighed
una_less fs [] = omega arith
una_less fs (symbol token.minus ∷ i) = omega arith
una_less fs (keyword token.Try ∷ i) = omega arith
una_less fs (t ∷ i) = omega arith

body_less : (fs : List Frame) (i : List Token) → Less (weight m.want_body fs i) (m.body_turn fs i)
unfolding weighed
body_less fs [] = omega arith
body_less fs (symbol token.minus ∷ i) = omega arith
body_less fs (t ∷ i) = omega arith

post_less : (fs : List Frame) (i : List Token) → Less (weight m.want_post fs i) (m.post_turn fs i)
unfolding weighed
post_less fs [] = tt
post_less fs (field n ∷ i) = omega arith
post_less fs (symbol s ∷ i) = symbol_less (weight m.want_post fs (symbol s ∷ i)) s fs i (omega arith)
post_less fs (keyword w ∷ i) = keyword_less (weight m.want_post fs (keyword w ∷ i)) w fs i (omega arith)
post_less fs (number n ∷ i) = omega arith
post_less fs (piece s ∷ i) = omega arith
post_less fs (format f ∷ i) = format_less (weight m.want_post fs (format f ∷ i)) f fs i (omega arith)
post_less fs (variable n ∷ i) = omega arith
post_less fs (name v ∷ i) = call_less (weight m.want_post fs (name v ∷ i)) v fs i (omega arith)
post_less fs (t ∷ i) = tt

suffix_less : (last : Bool) (a : Tree) (fs : List Frame) (i : List Token) → Less (weight (m.suffix last a) fs i) (m.suffix_turn last a fs i)
unfolding weighed
suffix_less last a fs [] = omega arith
suffix_less last a fs (symbol token.question ∷ i) = omega arith
suffix_less last a fs (field n ∷ i) = omega arith
suffix_less last a fs (symbol token.left_bracket ∷ i) = omega arith
suffix_less last a fs (symbol token.dot ∷ i) = dotted_less (weight (m.suffix last a) fs (symbol token.dot ∷ i)) a fs i (omega arith)
suffix_less last a fs (t ∷ i) = omega arith

bracket_less : (a : Tree) (fs : List Frame) (i : List Token) → Less (weight (m.bracket a) fs i) (m.bracket_turn a fs i)
unfolding weighed
bracket_less a fs [] = omega arith
bracket_less a fs (symbol token.right_bracket ∷ i) = omega arith
bracket_less a fs (symbol token.colon ∷ i) = omega arith
bracket_less a fs (t ∷ i) = omega arith

operator_less : (c : ℕ) (a : Tree) (from upto : ℕ) (o : Token) (l : ℕ) (fs : List Frame) (i : List Token) (b d : Bool) → 16 * length (o ∷ i) + 2 + frames_weight fs ≤ c
    → Less c (if b && d then go (m.want_level (right_level (side_of (suc l)) l)) (m.operated a o l upto ∷ fs) i else go (m.have a) fs (o ∷ i))
unfolding weighed
operator_less c a from upto o l fs i true true h = omega arith
operator_less c a from upto o l fs i true false h = omega arith
operator_less c a from upto o l fs i false d h = omega arith

level_less : (c : ℕ) (a : Tree) (from upto : ℕ) (o : Token) (n : ℕ) (fs : List Frame) (i : List Token) → 16 * length (o ∷ i) + 2 + frames_weight fs ≤ c → Less c (m.operator_turn a from upto o n fs i)
unfolding weighed
level_less c a from upto o zero fs i h = omega arith
level_less c a from upto o (suc l) fs i h = operator_less c a from upto o l fs i (nat_le (suc l) upto) (nat_le from (suc l)) h

operators_less : (a : Tree) (from upto : ℕ) (fs : List Frame) (i : List Token) → Less (weight (m.operators a from upto) fs i) (m.operators_turn a from upto fs i)
unfolding weighed
operators_less a from upto fs [] = omega arith
operators_less a from upto fs (o ∷ i) = level_less (weight (m.operators a from upto) fs (o ∷ i)) a from upto o (level_of o) fs i (omega arith)

listed_less : (t : Tree) (fs : List Frame) (i : List Token) → Less (weight (m.listed t) fs i) (m.listed_turn t fs i)
unfolding weighed
listed_less t fs [] = omega arith
listed_less t fs (symbol token.comma ∷ i) = omega arith
listed_less t fs (symbol token.bar ∷ i) = omega arith
listed_less t fs (c ∷ i) = omega arith

text_less : (u : TextUse) (before : List (List ℕ × Tree)) (fs : List Frame) (i : List Token) → Less (weight (m.text u before) fs i) (m.text_turn u before fs i)
unfolding weighed
text_less u before fs (piece s ∷ i) = piece_less (weight (m.text u before) fs (piece s ∷ i)) u before s fs i (omega arith)
text_less u before fs i = tt

text_done_less : (u : TextUse) (ps : Pieces) (fs : List Frame) (i : List Token) → Less (weight (m.text_done u ps) fs i) (m.text_done_turn u ps fs i)
unfolding m.text_done_turn
text_done_less m.as_term ps fs i = omega arith
text_done_less (m.as_formatted f) ps fs i = omega arith
text_done_less m.as_part_of_input ps fs i = omega arith
text_done_less (m.as_part_of a) ps fs i = omega arith
text_done_less (m.as_key es) ps fs i = key_less (weight (m.text_done (m.as_key es) ps) fs i) es (by_text ps) fs i (omega arith)
text_done_less (m.as_formatted_key es f) ps fs i = key_less (weight (m.text_done (m.as_formatted_key es f) ps) fs i) es (by_format f ps) fs i (omega arith)
text_done_less (m.as_part_key qs) ps fs i = part_key_less (weight (m.text_done (m.as_part_key qs) ps) fs i) qs (built.by_tree (text_of ps)) fs i (omega arith)

entry_less : (es : List Entry) (fs : List Frame) (i : List Token) → Less (weight (m.entry es) fs i) (m.entry_turn es fs i)
unfolding weighed
entry_less es fs [] = tt
entry_less es fs (variable v ∷ i) = omega arith
entry_less es fs (name v ∷ i) = key_less (weight (m.entry es) fs (name v ∷ i)) es (by_word v) fs i (omega arith)
entry_less es fs (keyword w ∷ i) = key_less (weight (m.entry es) fs (keyword w ∷ i)) es (by_word (keyword_text w)) fs i (omega arith)
entry_less es fs (piece s ∷ i) = omega arith
entry_less es fs (format f ∷ i) = omega arith
entry_less es fs (symbol token.left_parenthesis ∷ i) = omega arith
entry_less es fs (t ∷ i) = tt

after_entry_less : (es : List Entry) (fs : List Frame) (i : List Token) → Less (weight (m.after_entry es) fs i) (m.after_entry_turn es fs i)
unfolding weighed
after_entry_less es fs [] = tt
after_entry_less es fs (symbol token.comma ∷ i) = omega arith
after_entry_less es fs (symbol token.right_brace ∷ i) = omega arith
after_entry_less es fs (t ∷ i) = tt

pattern_less : (fs : List Frame) (i : List Token) → Less (weight m.pattern_next fs i) (m.pattern_turn fs i)
unfolding weighed
pattern_less fs [] = tt
pattern_less fs (variable v ∷ i) = omega arith
pattern_less fs (symbol token.left_bracket ∷ i) = omega arith
pattern_less fs (symbol token.left_brace ∷ i) = omega arith
pattern_less fs (t ∷ i) = tt

member_less : (qs : List Part) (fs : List Frame) (i : List Token) → Less (weight (m.member qs) fs i) (m.member_turn qs fs i)
unfolding weighed
member_less qs fs [] = tt
member_less qs fs (variable v ∷ i) = variable_less (weight (m.member qs) fs (variable v ∷ i)) qs v fs i (omega arith)
member_less qs fs (name v ∷ i) = part_key_less (weight (m.member qs) fs (name v ∷ i)) qs (built.by_tree (name_of v)) fs i (omega arith)
member_less qs fs (keyword w ∷ i) = part_key_less (weight (m.member qs) fs (keyword w ∷ i)) qs (built.by_tree (name_of (keyword_text w))) fs i (omega arith)
member_less qs fs (piece s ∷ i) = omega arith
member_less qs fs (symbol token.left_parenthesis ∷ i) = omega arith
member_less qs fs (t ∷ i) = tt

after_member_less : (qs : List Part) (fs : List Frame) (i : List Token) → Less (weight (m.after_member qs) fs i) (m.after_member_turn qs fs i)
unfolding weighed
after_member_less qs fs [] = tt
after_member_less qs fs (symbol token.comma ∷ i) = omega arith
after_member_less qs fs (symbol token.right_brace ∷ i) = omega arith
after_member_less qs fs (t ∷ i) = tt

item_less : (c : ℕ) (xs : List Pattern) (fs : List Frame) (i : List Token) → 16 * length i + 1 + frames_weight fs ≤ c → Less c (m.pattern_item_turn xs fs i)
unfolding weighed
item_less c xs fs [] h = tt
item_less c xs fs (symbol token.comma ∷ i) h = omega arith
item_less c xs fs (symbol token.right_bracket ∷ i) h = omega arith
item_less c xs fs (t ∷ i) h = tt

have_pattern_less : (x : Pattern) (fs : List Frame) (i : List Token) → Less (weight (m.have_pattern x) fs i) (m.have_pattern_turn x fs i)
unfolding m.have_pattern_turn frames_weight
have_pattern_less x (m.pattern_item xs ∷ fs) i = item_less (weight (m.have_pattern x) (m.pattern_item xs ∷ fs) i) (xs ++ x ∷ []) fs i (omega arith)
have_pattern_less x (m.pattern_member qs key ∷ fs) i = omega arith
have_pattern_less x (m.binding_pattern before a ∷ fs) i =
    expecting_less (weight (m.have_pattern x) (m.binding_pattern before a ∷ fs) i) token.bar (λ j. go (m.want_pipe None) (m.binding_rest before a x ∷ fs) j) i (λ t j e. omega (arith, longer t i j e))
have_pattern_less x (m.fold_pattern q a ∷ fs) i =
    expecting_less (weight (m.have_pattern x) (m.fold_pattern q a ∷ fs) i) token.left_parenthesis (λ j. go (m.want_pipe None) (m.fold_start q a x ∷ fs) j) i (λ t j e. omega (arith, longer t i j e))
have_pattern_less x fs i = tt

head_less : (c : ℕ) (d : DefinitionUse) (fs : List Frame) (i : List Token) (o : Outcome (Name × List Parameter)) → m.function_head i ≡ o → 16 * length i + 1 + frames_weight fs ≤ c → Less c (m.on_definition d fs o)
unfolding m.on_definition frames_weight
head_less c d fs i (Some y) e h = let r = head_sound i y e in omega (arith, simp length-append at (ap length r.2))
head_less c d fs i None e h = tt

after_definition_less : (d : DefinitionUse) (f : Function) (fs : List Frame) (i : List Token) → Less (weight (m.after_definition d f) fs i) (m.after_definition_turn d f fs i)
unfolding weighed
after_definition_less (m.in_pipe before) f fs i = omega arith
after_definition_less m.in_main f fs i = omega arith

-- ---- a phrase for which a frame waits

tried_less : (c : ℕ) (t : Tree) (fs : List Frame) (i : List Token) → 16 * length i + 2 + frames_weight fs ≤ c → Less c (m.tried_turn t fs i)
unfolding weighed
tried_less c t fs [] h = omega arith
tried_less c t fs (keyword token.Catch ∷ i) h = omega arith
tried_less c t fs (x ∷ i) h = omega arith

tail_le : (i : List Token) → length (tail i) ≤ length i
tail_le [] = omega arith
tail_le (t ∷ i) = omega arith

operand_less : (c : ℕ) (before : Option Tree) (t : Tree) (test : Bool) (fs : List Frame) (i : List Token) → 16 * length i + 5 + frames_weight fs ≤ c → Less c (m.operand_turn before t test fs i)
unfolding m.operand_turn frames_weight
operand_less c before t true fs i h = omega (arith, tail_le i)
operand_less c before t false fs i h = omega arith

argument_less : (c : ℕ) (v : Name) (ss : List Tree) (fs : List Frame) (i : List Token) → 16 * length i + 2 + frames_weight fs ≤ c → Less c (m.argument_turn v ss fs i)
unfolding weighed
argument_less c v ss fs [] h = tt
argument_less c v ss fs (symbol token.semicolon ∷ i) h = omega arith
argument_less c v ss fs (symbol token.right_parenthesis ∷ i) h = omega arith
argument_less c v ss fs (t ∷ i) h = tt

test_less : (c : ℕ) (cs : List (Tree × Tree)) (t : Tree) (fs : List Frame) (i : List Token) → 16 * length i + 2 + frames_weight fs ≤ c → Less c (m.test_turn cs t fs i)
unfolding weighed
test_less c cs t fs [] h = tt
test_less c cs t fs (keyword token.Then ∷ i) h = omega arith
test_less c cs t fs (x ∷ i) h = tt

branch_less : (c : ℕ) (cs : List (Tree × Tree)) (fs : List Frame) (i : List Token) → 16 * length i + 2 + frames_weight fs ≤ c → Less c (m.branch_turn cs fs i)
unfolding weighed
branch_less c cs fs [] h = tt
branch_less c cs fs (keyword token.Elif ∷ i) h = omega arith
branch_less c cs fs (keyword token.Else ∷ i) h = omega arith
branch_less c cs fs (keyword token.End ∷ i) h = omega arith
branch_less c cs fs (x ∷ i) h = tt

fails_less : (c : ℕ) (t : Tree) (fs : List Frame) (i : List Token) → 16 * length i + 2 + frames_weight fs ≤ c → Less c (m.fails_turn t fs i)
unfolding weighed
fails_less c t fs [] h = tt
fails_less c t fs (keyword token.End ∷ i) h = omega arith
fails_less c t fs (x ∷ i) h = tt

source_less : (c : ℕ) (q : m.Fold) (t : Tree) (fs : List Frame) (i : List Token) → 16 * length i + 2 + frames_weight fs ≤ c → Less c (m.source_turn q t fs i)
unfolding weighed
source_less c q t fs [] h = tt
source_less c q t fs (keyword token.As ∷ i) h = omega arith
source_less c q t fs (x ∷ i) h = tt

iterating_less : (c : ℕ) (a b t : Tree) (x : Pattern) (fs : List Frame) (i : List Token) → 16 * length i + 2 + frames_weight fs ≤ c → Less c (m.update_turn m.iterating a x b t fs i)
unfolding weighed
iterating_less c a b t x fs [] h = tt
iterating_less c a b t x fs (symbol token.right_parenthesis ∷ i) h = omega arith
iterating_less c a b t x fs (symbol token.semicolon ∷ i) h = omega arith
iterating_less c a b t x fs (u ∷ i) h = tt

update_less : (c : ℕ) (q : m.Fold) (a b t : Tree) (x : Pattern) (fs : List Frame) (i : List Token) → 16 * length i + 2 + frames_weight fs ≤ c → Less c (m.update_turn q a x b t fs i)
unfolding m.update_turn
update_less c m.reducing a b t x fs i h = expecting_less c token.right_parenthesis (λ j. go (m.suffix false (tree.reduce a x b t)) fs j) i (λ u j e. omega (arith, longer u i j e))
update_less c m.iterating a b t x fs i h = iterating_less c a b t x fs i h

slice_less : (c : ℕ) (a t : Tree) (fs : List Frame) (i : List Token) → 16 * length i + 16 + frames_weight fs ≤ c → Less c (m.slice_turn a t fs i)
unfolding weighed
slice_less c a t fs [] h = omega arith
slice_less c a t fs (symbol token.right_bracket ∷ i) h = omega arith
slice_less c a t fs (x ∷ i) h = omega arith

part_less : (c : ℕ) (a t : Tree) (fs : List Frame) (i : List Token) → 16 * length i + 2 + frames_weight fs ≤ c → Less c (m.part_turn a t fs i)
unfolding weighed
part_less c a t fs [] h = tt
part_less c a t fs (symbol token.right_bracket ∷ i) h = omega arith
part_less c a t fs (symbol token.colon ∷ i) h = slice_less c a t fs i (omega arith)
part_less c a t fs (x ∷ i) h = tt

value_less : (c : ℕ) (t : Tree) (fs : List Frame) (i : List Token) → 16 * length i + 2 + frames_weight fs ≤ c → Less c (m.value_turn t fs i)
unfolding weighed
value_less c t fs [] h = omega arith
value_less c t fs (symbol token.bar ∷ i) h = omega arith
value_less c t fs (x ∷ i) h = omega arith

end_less : (c : ℕ) (t : Tree) (i : List Token) → Less c (m.end_turn t i)
unfolding turns
end_less c t [] = tt
end_less c t (x ∷ i) = tt

have_less : (c : ℕ) (t : Tree) (fs : List Frame) (i : List Token) → 16 * length i + 1 + frames_weight fs ≤ c → Less c (m.have_turn t fs i)
unfolding m.have_turn frames_weight
have_less c t [] i h = end_less c t i
have_less c t (m.negated ∷ fs) i h = omega arith
have_less c t (m.tried ∷ fs) i h = tried_less c t fs i (omega arith)
have_less c t (m.caught a ∷ fs) i h = omega arith
have_less c t (m.climbing upto ∷ fs) i h = omega arith
have_less c t (m.operated a o l upto ∷ fs) i h = omega arith
have_less c t (m.operand before is_post ∷ fs) i h = operand_less c before t (both_of is_post (is_as (first i))) fs i (omega arith)
have_less c t (m.ends_operand before ∷ fs) i h = omega arith
have_less c t (m.piped a ∷ fs) i h = omega arith
have_less c t (m.definition_body d n ps ∷ fs) i h =
    expecting_less c token.semicolon (λ j. go (m.after_definition d (record { named = n; parameters = ps; body = t })) fs j) i (λ u j e. omega (arith, longer u i j e))
have_less c t (m.definition_rest before f ∷ fs) i h = omega arith
have_less c t (m.main_rest f ∷ fs) i h = omega arith
have_less c t (m.label_rest before n ∷ fs) i h = omega arith
have_less c t (m.binding_rest before a x ∷ fs) i h = omega arith
have_less c t (m.in_parentheses ∷ fs) i h = expecting_less c token.right_parenthesis (λ j. go (m.suffix false t) fs j) i (λ u j e. omega (arith, longer u i j e))
have_less c t (m.in_array ∷ fs) i h = expecting_less c token.right_bracket (λ j. go (m.suffix false (tree.array t)) fs j) i (λ u j e. omega (arith, longer u i j e))
have_less c t (m.argument n ss ∷ fs) i h = argument_less c n (ss ++ t ∷ []) fs i (omega arith)
have_less c t (m.branch_test cs ∷ fs) i h = test_less c cs t fs i (omega arith)
have_less c t (m.branch_holds cs a ∷ fs) i h = branch_less c (cs ++ (a, t) ∷ []) fs i (omega arith)
have_less c t (m.branch_fails cs ∷ fs) i h = fails_less c (built.onto built.branch_before cs t) fs i (omega arith)
have_less c t (m.fold_source q ∷ fs) i h = source_less c q t fs i (omega arith)
have_less c t (m.fold_start q a x ∷ fs) i h = expecting_less c token.semicolon (λ j. go (m.want_pipe None) (m.fold_update q a x t ∷ fs) j) i (λ u j e. omega (arith, longer u i j e))
have_less c t (m.fold_update q a x b ∷ fs) i h = update_less c q a b t x fs i (omega arith)
have_less c t (m.fold_extract a x b d ∷ fs) i h = expecting_less c token.right_parenthesis (λ j. go (m.suffix false (tree.foreach a x b d t)) fs j) i (λ u j e. omega (arith, longer u i j e))
have_less c t (m.part_of a ∷ fs) i h = part_less c a t fs i (omega arith)
have_less c t (m.slice_end a key ∷ fs) i h = expecting_less c token.right_bracket (λ j. go (m.suffix true (with_suffix a (to_slice key t))) fs j) i (λ u j e. omega (arith, longer u i j e))
have_less c t (m.slice_to a ∷ fs) i h = expecting_less c token.right_bracket (λ j. go (m.suffix true (with_suffix a (to_slice no_bound t))) fs j) i (λ u j e. omega (arith, longer u i j e))
have_less c t (m.text_part v before s ∷ fs) i h = expecting_less c token.right_parenthesis (λ j. go (m.text v (before ++ (s, t) ∷ [])) fs j) i (λ u j e. omega (arith, longer u i j e))
have_less c t (m.entry_key es ∷ fs) i h =
    expecting_less c token.right_parenthesis (expecting token.colon (λ j. go m.want_value (m.entry_value es (built.computed_by t) ∷ fs) j)) i
    (λ u j e. expecting_less c token.colon (λ l. go m.want_value (m.entry_value es (built.computed_by t) ∷ fs) l) j (λ v l w. omega (arith, longer u i j e, longer v j l w)))
have_less c t (m.entry_value es key ∷ fs) i h = omega arith
have_less c t (m.ends_value ∷ fs) i h = value_less c t fs i (omega arith)
have_less c t (m.value_piped a ∷ fs) i h = omega arith
have_less c t (m.member_key qs ∷ fs) i h =
    expecting_less c token.right_parenthesis (expecting token.colon (λ j. go m.pattern_next (m.pattern_member qs (built.by_tree t) ∷ fs) j)) i
    (λ u j e. expecting_less c token.colon (λ l. go m.pattern_next (m.pattern_member qs (built.by_tree t) ∷ fs) l) j (λ v l w. omega (arith, longer u i j e, longer v j l w)))
have_less c t (f ∷ fs) i h = tt

-- ---- each turn

pub turn_less : (mode : Mode) (fs : List Frame) (i : List Token) → Less (weight mode fs i) (turn mode fs i)
unfolding turn frames_weight
turn_less m.want_main fs i = main_less fs i
turn_less (m.want_pipe before) fs i = pipe_less before fs i
turn_less (m.want_level l) fs i = omega arith
turn_less m.want_una fs i = una_less fs i
turn_less m.want_body fs i = body_less fs i
turn_less m.want_post fs i = post_less fs i
turn_less m.want_value fs i = omega arith
turn_less (m.have t) fs i = have_less (weight (m.have t) fs i) t fs i (omega arith)
turn_less (m.suffix last a) fs i = suffix_less last a fs i
turn_less (m.bracket a) fs i = bracket_less a fs i
turn_less (m.operators a from upto) fs i = operators_less a from upto fs i
turn_less (m.listed t) fs i = listed_less t fs i
turn_less (m.text u before) fs i = text_less u before fs i
turn_less (m.text_done u ps) fs i = text_done_less u ps fs i
turn_less (m.entry es) fs i = entry_less es fs i
turn_less (m.after_entry es) fs i = after_entry_less es fs i
turn_less m.pattern_next fs i = pattern_less fs i
turn_less (m.have_pattern x) fs i = have_pattern_less x fs i
turn_less (m.member qs) fs i = member_less qs fs i
turn_less (m.after_member qs) fs i = after_member_less qs fs i
turn_less (m.definition_next d) fs i = head_less (weight (m.definition_next d) fs i) d fs i (m.function_head i) refl (omega arith)
turn_less (m.after_definition d f) fs i = after_definition_less d f fs i

-- ---- the turns end

-- The turns stop without a tree.
pub data Refused : Next → Type 0 where
  at_stop : Refused stop
  turn_refused : {mode : Mode} {fs : List Frame} {i : List Token} → Refused (turn mode fs i) → Refused (go mode fs i)

lower : (x : Next) (w c : ℕ) → w ≤ c → Less w x → Less c x
lower (go mode fs i) w c h l = omega arith
lower (done t) w c h l = tt
lower stop w c h l = tt

pub told : (c : ℕ) (x : Next) → Less c x → ((t : Tree) × Ends x t) ⊎ Refused x
told c (done t) h = inl (t, at_end)
told c stop h = inr at_stop
told zero (go mode fs i) h = absurd (omega arith)
told (suc c) (go mode fs i) h = turned (told c (turn mode fs i) (lower (turn mode fs i) (weight mode fs i) c (omega arith) (turn_less mode fs i)))
  where
    turned : ((t : Tree) × Ends (turn mode fs i) t) ⊎ Refused (turn mode fs i) → ((t : Tree) × Ends (go mode fs i) t) ⊎ Refused (go mode fs i)
    turned (inl e) = inl (e.0, by_turn e.1)
    turned (inr e) = inr (turn_refused e)

pub not_both : {x : Next} {t : Tree} → Ends x t → Refused x → ⊥
not_both at_end f = elim f [ ]
not_both (by_turn e) (turn_refused f) = not_both e f

pub one_end : {x : Next} {a b : Tree} → Ends x a → Ends x b → a ≡ b
one_end at_end at_end = refl
one_end (by_turn e) (by_turn f) = one_end e f
