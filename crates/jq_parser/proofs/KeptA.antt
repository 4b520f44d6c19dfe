-- Each turn keeps the invariant of the frames.
use Rattle.std.proofs.Common.{◌≡◌, ℕ, ◌≤◌, ◌<◌, pos, List, [], ◌∷◌, ◌++◌, Bool, false, Option, Some, None, refl, append_assoc, ◌⊎◌}
use Rattle.jq_tree.specs.Tree.{Name, Literal, Tree, Pieces, Entry, no_entries, more_entries, Pattern, Part, no_parts, more_parts}
use Rattle.jq_tree.specs.Tree as tree
use Rattle.jq_tree.specs.Token.{Keyword, Symbol, Token, keyword, name, field, variable, format, number, piece, symbol}
use Rattle.jq_tree.specs.Token as token
use Rattle.jq_tree.specs.WrittenOut.{recurse_all}
use Rattle.jq_tree.specs.Grammar.{Left, side_of, literal_named, to_all}
use Rattle.jq_tree.specs.Grammar as g
use Rattle.jq_builders.specs.Trees.{bare_name, Function, onto}
use Rattle.jq_parser.specs.laws.Machine as m
use Rattle.jq_parser.proofs.Stack as k
use Rattle.jq_parser.specs.laws.Combinators.{first}
use Rattle.jq_parser.specs.laws.Forms.{begins_post}
use Rattle.jq_parser.proofs.Standing.{Ended, ended_post, questioned, Before}
use Rattle.jq_parser.specs.laws.Machine.{TextUse, DefinitionUse, Frame, Mode, Next, go, done, stop, turns}
use Rattle.jq_parser.proofs.Stack.{Kind, a_main, a_pipe, a_level, a_una, a_body, a_post, a_value, a_pattern, Phrase, OfPost, una_of_post, body_of_post, post_of_post, post_phrase, OfPipe, pipe_of_pipe, main_of_pipe, PiecesSoFar, EntriesSoFar, PartsSoFar, SuffixAfter, Stack, TextFor}

abbrev pub AtPipe : List Token → Option Tree → List Frame → List Token → Type 0
AtPipe all before fs i = (k : Kind) × (ws : List Token) × (vs : List Token) × OfPipe k × Stack all fs k ws × Before before vs × (all ≡ ws ++ (vs ++ i))

abbrev pub At : List Token → Kind → List Frame → List Token → Type 0
At all k fs i = (ws : List Token) × Stack all fs k ws × (all ≡ ws ++ i)

abbrev pub AtPost : List Token → List Frame → List Token → Type 0
AtPost all fs i = (k : Kind) × (ws : List Token) × OfPost k × Stack all fs k ws × (all ≡ ws ++ i)

abbrev pub Had : List Token → Tree → List Frame → List Token → Type 0
Had all t fs i = (k : Kind) × (ws : List Token) × (us : List Token) × Stack all fs k ws × Phrase k us t × (all ≡ ws ++ (us ++ i))

abbrev pub Suffixed : List Token → Bool → Tree → List Frame → List Token → Type 0
Suffixed all last t fs i = (k : Kind) × (ws : List Token) × (us : List Token) × OfPost k × Stack all fs k ws × Ended last us t × (all ≡ ws ++ (us ++ i))

abbrev pub Bracketed : List Token → Tree → List Frame → List Token → Type 0
Bracketed all a fs i = (k : Kind) × (ws : List Token) × (us : List Token) × (op : List Token) × OfPost k × Stack all fs k ws × g.Post us a × SuffixAfter op × (all ≡ ws ++ (us ++ (op ++ i)))

abbrev pub Climbed : List Token → Tree → ℕ → ℕ → List Frame → List Token → Type 0
Climbed all t from upto fs i = (ws : List Token) × (us : List Token) × (l : ℕ) × Stack all fs (a_level upto) ws × g.Level l us t × (l ≤ upto) × ((l < from) ⊎ ((l ≡ from) × (side_of from ≡ Left))) × (all ≡ ws ++ (us ++ i))

abbrev pub Commaed : List Token → Tree → List Frame → List Token → Type 0
Commaed all t fs i = (k : Kind) × (ws : List Token) × (us : List Token) × OfPipe k × Stack all fs k ws × g.Commas us t × (all ≡ ws ++ (us ++ i))

abbrev pub Texting : List Token → TextUse → List (List ℕ × Tree) → List Frame → List Token → Type 0
Texting all u before fs i = (ws : List Token) × (us : List Token) × TextFor all u fs ws × PiecesSoFar us before × (all ≡ ws ++ (us ++ i))

abbrev pub Texted : List Token → TextUse → Pieces → List Frame → List Token → Type 0
Texted all u ps fs i = (ws : List Token) × (us : List Token) × TextFor all u fs ws × g.Str us ps × (all ≡ ws ++ (us ++ i))

abbrev pub AtEntry : List Token → List Entry → List Frame → List Token → Type 0
AtEntry all es fs i = (k : Kind) × (ws : List Token) × (us : List Token) × OfPost k × Stack all fs k ws × EntriesSoFar us es × (all ≡ ws ++ symbol token.left_brace ∷ (us ++ i))

abbrev pub AfterEntry : List Token → List Entry → List Frame → List Token → Type 0
AfterEntry all es fs i = (k : Kind) × (ws : List Token) × (us : List Token) × OfPost k × Stack all fs k ws × g.Ents us (onto more_entries es no_entries) × EntriesSoFar (us ++ symbol token.comma ∷ []) es × (all ≡ ws ++ symbol token.left_brace ∷ (us ++ i))

abbrev pub HadPattern : List Token → Pattern → List Frame → List Token → Type 0
HadPattern all x fs i = (ws : List Token) × (us : List Token) × Stack all fs a_pattern ws × g.Pat us x × (all ≡ ws ++ (us ++ i))

abbrev pub AtMember : List Token → List Part → List Frame → List Token → Type 0
AtMember all qs fs i = (ws : List Token) × (us : List Token) × Stack all fs a_pattern ws × PartsSoFar us qs × (all ≡ ws ++ symbol token.left_brace ∷ (us ++ i))

abbrev pub AfterMember : List Token → List Part → List Frame → List Token → Type 0
AfterMember all qs fs i = (ws : List Token) × (us : List Token) × Stack all fs a_pattern ws × g.PEnts us (onto more_parts qs no_parts) × PartsSoFar (us ++ symbol token.comma ∷ []) qs × (all ≡ ws ++ symbol token.left_brace ∷ (us ++ i))

abbrev pub Defining : List Token → DefinitionUse → List Frame → List Token → Type 0
Defining all (m.in_pipe before) fs i = AtPipe all before fs (keyword token.Def ∷ i)
Defining all m.in_main fs i = At all a_main fs (keyword token.Def ∷ i)

abbrev pub Defined : List Token → DefinitionUse → Function → List Frame → List Token → Type 0
Defined all (m.in_pipe before) f fs i = (k : Kind) × (ws : List Token) × (vs : List Token) × (us : List Token) × OfPipe k × Stack all fs k ws × Before before vs × g.Def us f.named f.parameters f.body × (all ≡ ws ++ (vs ++ (us ++ i)))
Defined all m.in_main f fs i = (ws : List Token) × (us : List Token) × Stack all fs a_main ws × g.Def us f.named f.parameters f.body × (all ≡ ws ++ (us ++ i))

abbrev pub Kept : List Token → Mode → List Frame → List Token → Type 0
Kept all m.want_main fs i = At all a_main fs i
Kept all (m.want_pipe before) fs i = AtPipe all before fs i
Kept all (m.want_level l) fs i = At all (a_level l) fs i
Kept all m.want_una fs i = At all a_una fs i
Kept all m.want_body fs i = At all a_body fs i
Kept all m.want_post fs i = AtPost all fs i
Kept all m.want_value fs i = At all a_value fs i
Kept all (m.have t) fs i = Had all t fs i
Kept all (m.suffix last t) fs i = Suffixed all last t fs i
Kept all (m.bracket a) fs i = Bracketed all a fs i
Kept all (m.operators t from upto) fs i = Climbed all t from upto fs i
Kept all (m.listed t) fs i = Commaed all t fs i
Kept all (m.text u before) fs i = Texting all u before fs i
Kept all (m.text_done u ps) fs i = Texted all u ps fs i
Kept all (m.entry es) fs i = AtEntry all es fs i
Kept all (m.after_entry es) fs i = AfterEntry all es fs i
Kept all m.pattern_next fs i = At all a_pattern fs i
Kept all (m.have_pattern x) fs i = HadPattern all x fs i
Kept all (m.member qs) fs i = AtMember all qs fs i
Kept all (m.after_member qs) fs i = AfterMember all qs fs i
Kept all (m.definition_next d) fs i = Defining all d fs i
Kept all (m.after_definition d f) fs i = Defined all d f fs i

abbrev pub Good : List Token → Next → Type 0
Good all (go mode fs i) = Kept all mode fs i
Good all (done t) = g.Main all t
Good all stop = Unit {0}

-- ---- at the beginning of a phrase

pub main_kept : (all : List Token) (fs : List Frame) (i : List Token) → At all a_main fs i → Good all (m.main_turn fs i)
unfolding turns
main_kept all fs [] h = (a_main, h.0, [], h.1, g.no_filter, h.2)
main_kept all fs (keyword token.Def ∷ i) h = h
main_kept all fs (t ∷ i) h = (a_main, h.0, [], main_of_pipe, h.1, refl, h.2)

pub label_kept : (all : List Token) (before : Option Tree) (fs : List Frame) (i : List Token) → AtPipe all before fs (keyword token.Label ∷ i) → Good all (m.label_turn before fs i)
unfolding turns
label_kept all before fs (variable n ∷ symbol token.bar ∷ i) h = (a_pipe, (h.1 ++ h.2) ++ keyword token.Label ∷ variable n ∷ symbol token.bar ∷ [], [], pipe_of_pipe, k.label_rest h.2 h.3 h.4 h.5, refl, simp append_assoc h.6)
label_kept all before fs i h = tt

pub pipe_plain : (all : List Token) (before : Option Tree) (fs : List Frame) (i : List Token) → AtPipe all before fs i → At all a_una (m.operand before (begins_post (first i)) ∷ fs) i
pipe_plain all before fs i h = (h.1 ++ h.2, k.operand h.2 i h.3 h.4 h.5 (rw append_assoc h.6), rw append_assoc h.6)

pub pipe_kept : (all : List Token) (before : Option Tree) (fs : List Frame) (i : List Token) → AtPipe all before fs i → Good all (m.pipe_turn before fs i)
unfolding turns
pipe_kept all before fs [] h = pipe_plain all before fs [] h
pipe_kept all before fs (keyword token.Def ∷ i) h = h
pipe_kept all before fs (keyword token.Label ∷ i) h = label_kept all before fs i h
pipe_kept all before fs (t ∷ i) h = pipe_plain all before fs (t ∷ i) h

pub una_kept : (all : List Token) (fs : List Frame) (i : List Token) → At all a_una fs i → Good all (m.una_turn fs i)
unfolding turns
una_kept all fs [] h = (a_una, h.0, una_of_post, h.1, h.2)
una_kept all fs (symbol token.minus ∷ i) h = (h.0 ++ symbol token.minus ∷ [], k.una_negated h.1, rw append_assoc h.2)
una_kept all fs (keyword token.Try ∷ i) h = (h.0 ++ keyword token.Try ∷ [], k.tried h.1, rw append_assoc h.2)
una_kept all fs (t ∷ i) h = (a_una, h.0, una_of_post, h.1, h.2)

pub body_kept : (all : List Token) (fs : List Frame) (i : List Token) → At all a_body fs i → Good all (m.body_turn fs i)
unfolding turns
body_kept all fs [] h = (a_body, h.0, body_of_post, h.1, h.2)
body_kept all fs (symbol token.minus ∷ i) h = (h.0 ++ symbol token.minus ∷ [], k.body_negated h.1, rw append_assoc h.2)
body_kept all fs (t ∷ i) h = (a_body, h.0, body_of_post, h.1, h.2)

-- a term that ends at i
pub termed : (all : List Token) (fs : List Frame) (us i : List Token) (t : Tree) → AtPost all fs (us ++ i) → g.Term us t → Suffixed all false t fs i
termed all fs us i t h d = (h.0, h.1, us, h.2, h.3, g.term d, h.4)

pub named_is : (v : Name) (o : Option Literal) → literal_named v ≡ o → g.Term (name v ∷ []) (bare_name o v)
named_is v (Some w) e = g.a_literal e
named_is v None e = g.plain_call e

pub bare_kept : (all : List Token) (v : Name) (fs : List Frame) (i : List Token) → AtPost all fs (name v ∷ i) → Suffixed all false (bare_name (literal_named v) v) fs i
bare_kept all v fs i h = termed all fs (name v ∷ []) i (bare_name (literal_named v) v) h (named_is v (literal_named v) refl)

pub call_kept : (all : List Token) (v : Name) (fs : List Frame) (i : List Token) → AtPost all fs (name v ∷ i) → Good all (m.call_turn v fs i)
unfolding turns
call_kept all v fs [] h = bare_kept all v fs [] h
call_kept all v fs (symbol token.left_parenthesis ∷ i) h = (a_pipe, h.1 ++ name v ∷ symbol token.left_parenthesis ∷ [], [], pipe_of_pipe, k.argument [] h.2 h.3 (λ ys vs d. d), refl, rw append_assoc h.4)
call_kept all v fs (t ∷ i) h = bare_kept all v fs (t ∷ i) h

pub format_kept : (all : List Token) (f : Name) (fs : List Frame) (i : List Token) → AtPost all fs (format f ∷ i) → Good all (m.format_turn f fs i)
unfolding turns
format_kept all f fs [] h = termed all fs (format f ∷ []) [] (tree.format f) h g.a_format
format_kept all f fs (piece s ∷ i) h = (h.1 ++ format f ∷ [], [], k.as_formatted h.2 h.3, (λ ys ps d. d), rw append_assoc h.4)
format_kept all f fs (t ∷ i) h = termed all fs (format f ∷ []) (t ∷ i) (tree.format f) h g.a_format

pub dot_kept : (all : List Token) (fs : List Frame) (i : List Token) → AtPost all fs (symbol token.dot ∷ i) → Good all (m.dot_turn fs i)
unfolding turns
dot_kept all fs [] h = termed all fs (symbol token.dot ∷ []) [] tree.identity h g.dot
dot_kept all fs (piece s ∷ i) h = (h.1 ++ symbol token.dot ∷ [], [], k.as_part_of_input h.2 h.3, (λ ys ps d. d), rw append_assoc h.4)
dot_kept all fs (t ∷ i) h = termed all fs (symbol token.dot ∷ []) (t ∷ i) tree.identity h g.dot

pub array_items : (all : List Token) (fs : List Frame) (i : List Token) → AtPost all fs (symbol token.left_bracket ∷ i) → AtPipe all None (m.in_array ∷ fs) i
array_items all fs i h = (a_pipe, h.1 ++ symbol token.left_bracket ∷ [], [], pipe_of_pipe, k.in_array h.2 h.3, refl, rw append_assoc h.4)

pub array_kept : (all : List Token) (fs : List Frame) (i : List Token) → AtPost all fs (symbol token.left_bracket ∷ i) → Good all (m.array_turn fs i)
unfolding turns
array_kept all fs [] h = array_items all fs [] h
array_kept all fs (symbol token.right_bracket ∷ i) h = termed all fs (symbol token.left_bracket ∷ symbol token.right_bracket ∷ []) i (tree.array tree.empty) h g.no_items
array_kept all fs (t ∷ i) h = array_items all fs (t ∷ i) h

pub object_entries : (all : List Token) (fs : List Frame) (i : List Token) → AtPost all fs (symbol token.left_brace ∷ i) → AtEntry all [] fs i
object_entries all fs i h = (h.0, h.1, [], h.2, h.3, (λ ys xs d. d), h.4)

pub object_kept : (all : List Token) (fs : List Frame) (i : List Token) → AtPost all fs (symbol token.left_brace ∷ i) → Good all (m.object_turn fs i)
unfolding turns
object_kept all fs [] h = object_entries all fs [] h
object_kept all fs (symbol token.right_brace ∷ i) h = termed all fs (symbol token.left_brace ∷ symbol token.right_brace ∷ []) i (tree.object no_entries) h g.no_members
object_kept all fs (t ∷ i) h = object_entries all fs (t ∷ i) h

pub break_kept : (all : List Token) (fs : List Frame) (i : List Token) → AtPost all fs (keyword token.Break ∷ i) → Good all (m.break_turn fs i)
unfolding turns
break_kept all fs (variable n ∷ i) h = termed all fs (keyword token.Break ∷ variable n ∷ []) i (tree.break n) h g.a_break
break_kept all fs i h = tt

pub symbol_kept : (all : List Token) (s : Symbol) (fs : List Frame) (i : List Token) → AtPost all fs (symbol s ∷ i) → Good all (m.symbol_turn s fs i)
unfolding turns
symbol_kept all token.two_dots fs i h = termed all fs (symbol token.two_dots ∷ []) i recurse_all h g.two_dots
symbol_kept all token.dot fs i h = dot_kept all fs i h
symbol_kept all token.left_parenthesis fs i h = (a_pipe, h.1 ++ symbol token.left_parenthesis ∷ [], [], pipe_of_pipe, k.in_parentheses h.2 h.3, refl, rw append_assoc h.4)
symbol_kept all token.left_bracket fs i h = array_kept all fs i h
symbol_kept all token.left_brace fs i h = object_kept all fs i h
symbol_kept all s fs i h = tt

pub keyword_kept : (all : List Token) (w : Keyword) (fs : List Frame) (i : List Token) → AtPost all fs (keyword w ∷ i) → Good all (m.keyword_turn w fs i)
unfolding turns
keyword_kept all token.Break fs i h = break_kept all fs i h
keyword_kept all token.Reduce fs i h = (a_post, h.1 ++ keyword token.Reduce ∷ [], post_of_post, k.fold_source h.2 h.3, rw append_assoc h.4)
keyword_kept all token.Foreach fs i h = (a_post, h.1 ++ keyword token.Foreach ∷ [], post_of_post, k.fold_source h.2 h.3, rw append_assoc h.4)
keyword_kept all token.If fs i h = (a_pipe, h.1 ++ keyword token.If ∷ [], [], pipe_of_pipe, k.branch_test [] h.2 h.3 (λ ys t d. d), refl, rw append_assoc h.4)
keyword_kept all w fs i h = tt

pub post_kept : (all : List Token) (fs : List Frame) (i : List Token) → AtPost all fs i → Good all (m.post_turn fs i)
unfolding turns
post_kept all fs [] h = tt
post_kept all fs (field n ∷ i) h = (h.0, h.1, field n ∷ [], h.2, h.3, g.field_of_input, h.4)
post_kept all fs (symbol s ∷ i) h = symbol_kept all s fs i h
post_kept all fs (keyword w ∷ i) h = keyword_kept all w fs i h
post_kept all fs (number n ∷ i) h = termed all fs (number n ∷ []) i (tree.literal (tree.number (pos n))) h g.a_number
post_kept all fs (piece s ∷ i) h = (h.1, [], k.as_term h.2 h.3, (λ ys ps d. d), h.4)
post_kept all fs (format f ∷ i) h = format_kept all f fs i h
post_kept all fs (variable n ∷ i) h = termed all fs (variable n ∷ []) i (tree.variable n) h g.a_variable
post_kept all fs (name v ∷ i) h = call_kept all v fs i h
post_kept all fs (t ∷ i) h = tt

-- ---- steps

pub suffix_ends : (all : List Token) (last : Bool) (a : Tree) (fs : List Frame) (i : List Token) → Suffixed all last a fs i → Had all a fs i
suffix_ends all last a fs i h = (h.0, h.1, h.2, h.4, post_phrase h.3 (ended_post last h.2 a h.5), h.6)

pub dotted_text : (all : List Token) (last : Bool) (a : Tree) (fs : List Frame) (i : List Token) → Suffixed all last a fs (symbol token.dot ∷ i) → Texting all (m.as_part_of a) [] fs i
dotted_text all last a fs i h = (h.1 ++ (h.2 ++ symbol token.dot ∷ []), [], k.as_part_of h.3 h.4 (ended_post last h.2 a h.5), (λ ys ps d. d), simp append_assoc h.6)

pub dotted_kept : (all : List Token) (last : Bool) (a : Tree) (fs : List Frame) (i : List Token) → Suffixed all last a fs (symbol token.dot ∷ i) → Good all (m.dotted_turn a fs i)
unfolding turns
dotted_kept all last a fs [] h = dotted_text all last a fs [] h
dotted_kept all last a fs (symbol token.left_bracket ∷ i) h = (h.0, h.1, h.2, symbol token.dot ∷ symbol token.left_bracket ∷ [], h.3, h.4, ended_post last h.2 a h.5, (λ ts s d. g.suf_dot_bracket d), h.6)
dotted_kept all last a fs (t ∷ i) h = dotted_text all last a fs (t ∷ i) h

pub suffix_kept : (all : List Token) (last : Bool) (a : Tree) (fs : List Frame) (i : List Token) → Suffixed all last a fs i → Good all (m.suffix_turn last a fs i)
unfolding turns
suffix_kept all last a fs [] h = suffix_ends all last a fs [] h
suffix_kept all last a fs (symbol token.question ∷ i) h = (h.0, h.1, h.2 ++ symbol token.question ∷ [], h.3, h.4, questioned last h.2 a h.5, rw append_assoc h.6)
suffix_kept all last a fs (field n ∷ i) h = (h.0, h.1, h.2 ++ field n ∷ [], h.3, h.4, g.step_of (ended_post last h.2 a h.5) g.suf_field, rw append_assoc h.6)
suffix_kept all last a fs (symbol token.left_bracket ∷ i) h = (h.0, h.1, h.2, symbol token.left_bracket ∷ [], h.3, h.4, ended_post last h.2 a h.5, (λ ts s d. g.suf_bracket d), h.6)
suffix_kept all last a fs (symbol token.dot ∷ i) h = dotted_kept all last a fs i h
suffix_kept all last a fs (t ∷ i) h = suffix_ends all last a fs (t ∷ i) h

pub bracket_part : (all : List Token) (a : Tree) (fs : List Frame) (i : List Token) → Bracketed all a fs i → AtPipe all None (m.part_of a ∷ fs) i
bracket_part all a fs i h = (a_pipe, h.1 ++ (h.2 ++ h.3), [], pipe_of_pipe, k.part_of h.3 h.4 h.5 h.6 h.7, refl, simp append_assoc h.8)

pub bracket_kept : (all : List Token) (a : Tree) (fs : List Frame) (i : List Token) → Bracketed all a fs i → Good all (m.bracket_turn a fs i)
unfolding turns
bracket_kept all a fs [] h = bracket_part all a fs [] h
bracket_kept all a fs (symbol token.right_bracket ∷ i) h = (h.0, h.1, h.2 ++ (h.3 ++ symbol token.right_bracket ∷ []), h.4, h.5, g.step_of h.6 (h.7 (symbol token.right_bracket ∷ []) to_all g.br_all), simp append_assoc h.8)
bracket_kept all a fs (symbol token.colon ∷ i) h = (a_pipe, h.1 ++ (h.2 ++ (h.3 ++ symbol token.colon ∷ [])), [], pipe_of_pipe, k.slice_to h.3 h.4 h.5 h.6 h.7, refl, simp append_assoc h.8)
bracket_kept all a fs (t ∷ i) h = bracket_part all a fs (t ∷ i) h
