-- Turns at the tokens that may follow a phrase, and at those that begin one.
use Rattle.std.proofs.Common.{◌≡◌, ℕ, zero, suc, ◌+◌, ◌<◌, ◌≤◌, List, [], ◌∷◌, ◌++◌, Bool, true, false, Option, Some, None, refl, arith}
use Rattle.std.proofs.lemmas.Bool.{le-leb, lt-leb}
use Rattle.jq_tree.specs.Tree.{Name, Tree, last_piece, Entry, Part}
use Rattle.jq_tree.specs.Tree as tree
use Rattle.jq_tree.specs.Token.{Token, keyword, name, field, variable, format, piece, interpolation, symbol}
use Rattle.jq_tree.specs.Token as token
use Rattle.jq_tree.specs.WrittenOut.{attempt, Parameter}
use Rattle.jq_tree.specs.Grammar.{level_of, side_of, literal_named, name_of}
use Rattle.jq_builders.specs.Trees.{EntryKey, entry_of, bare_name, onto, piece_before}
use Rattle.jq_parser.specs.laws.Combinators.{first, tail, is_symbol}
use Rattle.jq_parser.specs.laws.Forms.{begins_post, is_as}
use Rattle.jq_parser.proofs.Follow.{follow, kind, colon_next, level_follow}
use Rattle.jq_parser.specs.laws.Machine.{TextUse, as_term, as_formatted, as_part_of_input, as_part_of, as_key, as_part_key, DefinitionUse, in_pipe, in_main, Frame, tried, ends_value, operated, operand, ends_operand, definition_body, binding_pattern, in_array, part_of, slice_end, want_main, want_pipe, want_level, want_una, want_body, want_post, have, suffix, bracket, operators, listed, text, text_done, entry, after_entry, pattern_next, member, after_member, definition_next, go, right_level, operator_turn, operators_turn, operand_turn, have_turn, on_definition, turn, key_turn, function_head, turns}
use Rattle.jq_parser.proofs.Ends.{Ends, by_turn}

unfoldable pub opened : Unit {0}
unfolding turns follow kind
opened = tt

same_first : {c d : Token} → Some c ≡ Some d → c ≡ d
same_first e = cc

-- ---- at the end of a phrase

pub suffix_stops : (last : Bool) (a : Tree) (fs : List Frame) (rest : List Token) (r : Tree) → 2 ≤ follow rest → Ends (go (have a) fs rest) r → Ends (go (suffix last a) fs rest) r
unfolding opened
suffix_stops last a fs [] r h k = by_turn k
suffix_stops last a fs (symbol token.question ∷ i) r h k = absurd (omega arith)
suffix_stops last a fs (symbol token.left_bracket ∷ i) r h k = absurd (omega arith)
suffix_stops last a fs (symbol token.dot ∷ i) r h k = absurd (omega arith)
suffix_stops last a fs (field n ∷ i) r h k = absurd (omega arith)
suffix_stops last a fs (t ∷ i) r h k = by_turn k

pub tried_stops : (t : Tree) (fs : List Frame) (rest : List Token) (r : Tree) → 3 ≤ follow rest → Ends (go (have (attempt t)) fs rest) r → Ends (go (have t) (tried ∷ fs) rest) r
unfolding opened
tried_stops t fs [] r h k = by_turn k
tried_stops t fs (keyword token.Catch ∷ i) r h k = absurd (omega arith)
tried_stops t fs (c ∷ i) r h k = by_turn k

pub listed_stops : (t : Tree) (fs : List Frame) (rest : List Token) (r : Tree) → 12 ≤ follow rest → Ends (go (have t) fs rest) r → Ends (go (listed t) fs rest) r
unfolding opened
listed_stops t fs [] r h k = by_turn k
listed_stops t fs (symbol token.comma ∷ i) r h k = absurd (omega arith)
listed_stops t fs (symbol token.bar ∷ i) r h k = absurd (omega arith)
listed_stops t fs (c ∷ i) r h k = by_turn k

pub value_stops : (t : Tree) (fs : List Frame) (rest : List Token) (r : Tree) → 11 ≤ follow rest → Ends (go (have t) fs rest) r → Ends (go (have t) (ends_value ∷ fs) rest) r
unfolding opened
value_stops t fs [] r h k = by_turn k
value_stops t fs (symbol token.bar ∷ i) r h k = absurd (omega arith)
value_stops t fs (c ∷ i) r h k = by_turn k

pub piece_stops : (u : TextUse) (before : List (List ℕ × Tree)) (s : List ℕ) (fs : List Frame) (rest : List Token) (r : Tree) → 1 ≤ follow rest
    → Ends (go (text_done u (onto piece_before before (last_piece s))) fs rest) r → Ends (go (text u before) fs (piece s ∷ rest)) r
unfolding opened
piece_stops u before s fs [] r h k = by_turn k
piece_stops u before s fs (interpolation ∷ i) r h k = absurd (omega arith)
piece_stops u before s fs (c ∷ i) r h k = by_turn k

pub name_stops : (v : Name) (fs : List Frame) (rest : List Token) (r : Tree) → 1 ≤ follow rest → Ends (go (suffix false (bare_name (literal_named v) v)) fs rest) r → Ends (go want_post fs (name v ∷ rest)) r
unfolding opened
name_stops v fs [] r h k = by_turn k
name_stops v fs (symbol token.left_parenthesis ∷ i) r h k = absurd (omega arith)
name_stops v fs (c ∷ i) r h k = by_turn k

pub format_stops : (f : Name) (fs : List Frame) (rest : List Token) (r : Tree) → 1 ≤ follow rest → Ends (go (suffix false (tree.format f)) fs rest) r → Ends (go want_post fs (format f ∷ rest)) r
unfolding opened
format_stops f fs [] r h k = by_turn k
format_stops f fs (piece s ∷ i) r h k = absurd (omega arith)
format_stops f fs (c ∷ i) r h k = by_turn k

pub dot_stops : (fs : List Frame) (rest : List Token) (r : Tree) → 1 ≤ follow rest → Ends (go (suffix false tree.identity) fs rest) r → Ends (go want_post fs (symbol token.dot ∷ rest)) r
unfolding opened
dot_stops fs [] r h k = by_turn k
dot_stops fs (piece s ∷ i) r h k = absurd (omega arith)
dot_stops fs (c ∷ i) r h k = by_turn k

pub key_stops : (es : List Entry) (e : EntryKey) (fs : List Frame) (rest : List Token) (r : Tree) → colon_next rest ≡ false → Ends (go (after_entry (es ++ entry_of e None ∷ [])) fs rest) r → Ends (key_turn es e fs rest) r
unfolding opened
key_stops es e fs [] r h k = k
key_stops es e fs (symbol token.colon ∷ i) r h k = absurd (cc h)
key_stops es e fs (c ∷ i) r h k = k

pub variable_stops : (qs : List Part) (v : Name) (fs : List Frame) (rest : List Token) (r : Tree) → colon_next rest ≡ false
    → Ends (go (after_member (qs ++ tree.keyed (name_of v) (tree.whole v) ∷ [])) fs rest) r → Ends (go (member qs) fs (variable v ∷ rest)) r
unfolding opened
variable_stops qs v fs [] r h k = by_turn k
variable_stops qs v fs (symbol token.colon ∷ i) r h k = absurd (cc h)
variable_stops qs v fs (c ∷ i) r h k = by_turn k

-- ---- operators

operator_stops : (a : Tree) (from upto : ℕ) (o : Token) (m : ℕ) (fs : List Frame) (i : List Token) (r : Tree) → ((l : ℕ) → m ≡ suc l → upto < suc l) → Ends (go (have a) fs (o ∷ i)) r → Ends (operator_turn a from upto o m fs i) r
unfolding operator_turn
operator_stops a from upto o zero fs i r h k = k
operator_stops a from upto o (suc l) fs i r h k = rw (lt-leb (suc l) upto (h l refl)) k

pub operators_stop : (a : Tree) (from upto : ℕ) (fs : List Frame) (rest : List Token) (r : Tree) → upto + 3 ≤ follow rest → Ends (go (have a) fs rest) r → Ends (go (operators a from upto) fs rest) r
unfolding turn operators_turn
operators_stop a from upto fs [] r h k = by_turn k
operators_stop a from upto fs (o ∷ i) r h k = by_turn (operator_stops a from upto o (level_of o) fs i r (λ l e. omega (arith, level_follow o i l e)) k)

operator_goes : (a : Tree) (from upto : ℕ) (o : Token) (m l : ℕ) (fs : List Frame) (i : List Token) (r : Tree) → m ≡ suc l → from ≤ suc l → suc l ≤ upto
    → Ends (go (want_level (right_level (side_of (suc l)) l)) (operated a o l upto ∷ fs) i) r → Ends (operator_turn a from upto o m fs i) r
unfolding operator_turn
operator_goes a from upto o m l fs i r e f u k = rw (e, le-leb (suc l) upto u, le-leb from (suc l) f) k

pub operators_go : (a : Tree) (from upto : ℕ) (o : Token) (l : ℕ) (fs : List Frame) (i : List Token) (r : Tree) → level_of o ≡ suc l → from ≤ suc l → suc l ≤ upto
    → Ends (go (want_level (right_level (side_of (suc l)) l)) (operated a o l upto ∷ fs) i) r → Ends (go (operators a from upto) fs (o ∷ i)) r
unfolding turn operators_turn
operators_go a from upto o l fs i r e f u k = by_turn (operator_goes a from upto o (level_of o) l fs i r e f u k)

pub operand_ends : (before : Option Tree) (t : Tree) (is_post : Bool) (fs : List Frame) (i : List Token) (r : Tree) → is_as (first i) ≡ false
    → Ends (go (operators t 1 7) (ends_operand before ∷ fs) i) r → Ends (go (have t) (operand before is_post ∷ fs) i) r
unfolding turn have_turn operand_turn
operand_ends before t true fs i r e k = by_turn (rw e k)
operand_ends before t false fs i r e k = by_turn k

pub operand_binds : (before : Option Tree) (t : Tree) (is_post : Bool) (fs : List Frame) (j : List Token) (r : Tree) → is_post ≡ true
    → Ends (go pattern_next (binding_pattern before t ∷ fs) j) r → Ends (go (have t) (operand before is_post ∷ fs) (keyword token.As ∷ j)) r
unfolding turn have_turn operand_turn
operand_binds before t true fs j r e k = by_turn k
operand_binds before t false fs j r e k = absurd (cc e)

-- ---- at the beginning of a phrase

pub pipe_begins : (before : Option Tree) (fs : List Frame) (us : List Token) (r : Tree) → 2 ≤ kind us → Ends (go want_una (operand before (begins_post (first us)) ∷ fs) us) r → Ends (go (want_pipe before) fs us) r
unfolding opened
pipe_begins before fs [] r h k = absurd (omega arith)
pipe_begins before fs (keyword token.Def ∷ i) r h k = absurd (omega arith)
pipe_begins before fs (keyword token.Label ∷ i) r h k = absurd (omega arith)
pipe_begins before fs (c ∷ i) r h k = by_turn k

pub una_begins : (fs : List Frame) (us : List Token) (r : Tree) → 3 ≤ kind us → Ends (go want_post fs us) r → Ends (go want_una fs us) r
unfolding opened
una_begins fs [] r h k = absurd (omega arith)
una_begins fs (symbol token.minus ∷ i) r h k = absurd (omega arith)
una_begins fs (keyword token.Try ∷ i) r h k = absurd (omega arith)
una_begins fs (c ∷ i) r h k = by_turn k

pub body_begins : (fs : List Frame) (us : List Token) (r : Tree) → 3 ≤ kind us → Ends (go want_post fs us) r → Ends (go want_body fs us) r
unfolding opened
body_begins fs [] r h k = absurd (omega arith)
body_begins fs (symbol token.minus ∷ i) r h k = absurd (omega arith)
body_begins fs (c ∷ i) r h k = by_turn k

pub main_begins : (fs : List Frame) (us : List Token) (r : Tree) → 2 ≤ kind us → Ends (go (want_pipe None) fs us) r → Ends (go want_main fs us) r
unfolding opened
main_begins fs [] r h k = absurd (omega arith)
main_begins fs (keyword token.Def ∷ i) r h k = absurd (omega arith)
main_begins fs (c ∷ i) r h k = by_turn k

pub array_begins : (fs : List Frame) (us : List Token) (r : Tree) → 1 ≤ kind us → Ends (go (want_pipe None) (in_array ∷ fs) us) r → Ends (go want_post fs (symbol token.left_bracket ∷ us)) r
unfolding opened
array_begins fs [] r h k = by_turn k
array_begins fs (symbol token.right_bracket ∷ i) r h k = absurd (omega arith)
array_begins fs (c ∷ i) r h k = by_turn k

pub object_begins : (fs : List Frame) (us : List Token) (r : Tree) → is_symbol token.right_brace (first us) ≡ false → Ends (go (entry []) fs us) r → Ends (go want_post fs (symbol token.left_brace ∷ us)) r
unfolding opened
object_begins fs [] r h k = by_turn k
object_begins fs (symbol token.right_brace ∷ i) r h k = absurd (cc h)
object_begins fs (c ∷ i) r h k = by_turn k

pub part_begins : (a : Tree) (fs : List Frame) (us : List Token) (r : Tree) → 1 ≤ kind us → Ends (go (want_pipe None) (part_of a ∷ fs) us) r → Ends (go (bracket a) fs us) r
unfolding opened
part_begins a fs [] r h k = by_turn k
part_begins a fs (symbol token.right_bracket ∷ i) r h k = absurd (omega arith)
part_begins a fs (symbol token.colon ∷ i) r h k = absurd (omega arith)
part_begins a fs (c ∷ i) r h k = by_turn k

pub slice_begins : (a b : Tree) (fs : List Frame) (us : List Token) (r : Tree) → 1 ≤ kind us → Ends (go (want_pipe None) (slice_end a b ∷ fs) us) r → Ends (go (have b) (part_of a ∷ fs) (symbol token.colon ∷ us)) r
unfolding opened
slice_begins a b fs [] r h k = by_turn k
slice_begins a b fs (symbol token.right_bracket ∷ i) r h k = absurd (omega arith)
slice_begins a b fs (c ∷ i) r h k = by_turn k

-- ---- by the first token

pub definition_begins : (before : Option Tree) (fs : List Frame) (us : List Token) (r : Tree) → first us ≡ Some (keyword token.Def) → Ends (go (definition_next (in_pipe before)) fs (tail us)) r → Ends (go (want_pipe before) fs us) r
unfolding turns
definition_begins before fs [] r e k = absurd (cc e)
definition_begins before fs (c ∷ cs) r e k = rw (same_first e) (by_turn k)

pub main_definition_begins : (fs : List Frame) (us : List Token) (r : Tree) → first us ≡ Some (keyword token.Def) → Ends (go (definition_next in_main) fs (tail us)) r → Ends (go want_main fs us) r
unfolding turns
main_definition_begins fs [] r e k = absurd (cc e)
main_definition_begins fs (c ∷ cs) r e k = rw (same_first e) (by_turn k)

pub head_read : (d : DefinitionUse) (fs : List Frame) (i us : List Token) (v : Name) (ps : List Parameter) (r : Tree) → function_head i ≡ Some ((v, ps), us)
    → Ends (go (want_pipe None) (definition_body d v ps ∷ fs) us) r → Ends (go (definition_next d) fs i) r
unfolding turn on_definition
head_read d fs i us v ps r e k = by_turn (rw e k)

pub text_begins : (s : List ℕ) (fs : List Frame) (us : List Token) (r : Tree) → first us ≡ Some (piece s) → Ends (go (text as_term []) fs us) r → Ends (go want_post fs us) r
unfolding turns
text_begins s fs [] r e k = absurd (cc e)
text_begins s fs (c ∷ cs) r e k = rw (same_first e) (by_turn (rw (same_first e) at k))

pub formatted_begins : (f : Name) (s : List ℕ) (fs : List Frame) (us : List Token) (r : Tree) → first us ≡ Some (piece s) → Ends (go (text (as_formatted f) []) fs us) r → Ends (go want_post fs (format f ∷ us)) r
unfolding turns
formatted_begins f s fs [] r e k = absurd (cc e)
formatted_begins f s fs (c ∷ cs) r e k = rw (same_first e) (by_turn (rw (same_first e) at k))

pub dot_text_begins : (s : List ℕ) (fs : List Frame) (us : List Token) (r : Tree) → first us ≡ Some (piece s) → Ends (go (text as_part_of_input []) fs us) r → Ends (go want_post fs (symbol token.dot ∷ us)) r
unfolding turns
dot_text_begins s fs [] r e k = absurd (cc e)
dot_text_begins s fs (c ∷ cs) r e k = rw (same_first e) (by_turn (rw (same_first e) at k))

pub dotted_text_begins : (last : Bool) (a : Tree) (s : List ℕ) (fs : List Frame) (us : List Token) (r : Tree) → first us ≡ Some (piece s) → Ends (go (text (as_part_of a) []) fs us) r → Ends (go (suffix last a) fs (symbol token.dot ∷ us)) r
unfolding turns
dotted_text_begins last a s fs [] r e k = absurd (cc e)
dotted_text_begins last a s fs (c ∷ cs) r e k = rw (same_first e) (by_turn (rw (same_first e) at k))

pub bracket_begins : (last : Bool) (a : Tree) (fs : List Frame) (us : List Token) (r : Tree) → first us ≡ Some (symbol token.left_bracket) → Ends (go (bracket a) fs (tail us)) r → Ends (go (suffix last a) fs us) r
unfolding turns
bracket_begins last a fs [] r e k = absurd (cc e)
bracket_begins last a fs (c ∷ cs) r e k = rw (same_first e) (by_turn k)

pub dotted_bracket_begins : (last : Bool) (a : Tree) (fs : List Frame) (us : List Token) (r : Tree) → first us ≡ Some (symbol token.left_bracket) → Ends (go (bracket a) fs (tail us)) r → Ends (go (suffix last a) fs (symbol token.dot ∷ us)) r
unfolding turns
dotted_bracket_begins last a fs [] r e k = absurd (cc e)
dotted_bracket_begins last a fs (c ∷ cs) r e k = rw (same_first e) (by_turn k)

pub text_key_begins : (es : List Entry) (s : List ℕ) (fs : List Frame) (us : List Token) (r : Tree) → first us ≡ Some (piece s) → Ends (go (text (as_key es) []) fs us) r → Ends (go (entry es) fs us) r
unfolding turns
text_key_begins es s fs [] r e k = absurd (cc e)
text_key_begins es s fs (c ∷ cs) r e k = rw (same_first e) (by_turn (rw (same_first e) at k))

pub text_part_begins : (qs : List Part) (s : List ℕ) (fs : List Frame) (us : List Token) (r : Tree) → first us ≡ Some (piece s) → Ends (go (text (as_part_key qs) []) fs us) r → Ends (go (member qs) fs us) r
unfolding turns
text_part_begins qs s fs [] r e k = absurd (cc e)
text_part_begins qs s fs (c ∷ cs) r e k = rw (same_first e) (by_turn (rw (same_first e) at k))
