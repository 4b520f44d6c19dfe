-- The trees with lists in them, by the contents of the lists. The characters of keywords and names, and the literals among names.
use Rattle.std.proofs.Common.{◌≡◌, ℕ, List, [], ◌∷◌, ◌++◌, map, Box, Vec, String, Global, true, false, refl, ap, sym, ◌∙◌, arith, codes, ◌+◌, ◌<◌, length, take, get_or}
use Rattle.std.proofs.lemmas.List.{take_more}
use Rattle.std.specs.Str.{bytes_eq}
use Rattle.std.specs.Str.{chars}
use Rattle.jv_data.specs.Text.{text_of}
use Rattle.jq_tree.specs.Tree as tree
use Rattle.jq_tree.specs.Token.{Keyword, keyword_text}
use Rattle.jq_tree.specs.Token as token
use Rattle.jq_tree.specs.WrittenOut as written
use Rattle.jq_tree.specs.Grammar as g
use Rattle.jq_ast.specs.Named.{named, named_as_pattern, named_as_part, name_of, pieces_of, named_entry, named_piece}
use Rattle.jq_ast.proofs.shared.Forms.{named-Text, named-Object, named-Call, named-PreludeCall, named-Update, named-Items, named-Members}
use Rattle.jq_ast.specs.declared.names.Modify.{Modify}
use Rattle.jq_ast.specs.declared.names.Name.{Name}
use Rattle.jq_ast.specs.declared.tree.Entry.{Entry}
use Rattle.jq_ast.specs.declared.tree.Piece.{Piece}
use Rattle.jq_ast.specs.declared.tree.Member.{Member}
use Rattle.jq_ast.specs.declared.tree.Pattern.{Pattern}
use Rattle.jq_ast.specs.declared.tree.Tree.{Tree}
use Rattle.jq_ast.specs.declared.tree.Tree.TheVariants as t
use Rattle.jq_ast.specs.declared.tree.Pattern.TheVariants as p
use Rattle.jq_builders.specs.Trees as built
use Rattle.jq_builders.specs.Views.{piece_of, branch_of, tree_in, parameter_of}
use Rattle.jq_builders.specs.declared.parts.Branch.{Branch}
use Rattle.jq_builders.specs.declared.parts.Parameter.{Parameter}

-- ---- one level

pub trees_onto : (ts : List tree.Tree) → tree.trees_of ts ≡ built.onto tree.more_trees ts tree.no_trees
trees_onto [] = refl
trees_onto (x ∷ xs) = ap (tree.more_trees x) (trees_onto xs)

pub entries_onto : (es : List tree.Entry) → tree.entries_of es ≡ built.onto tree.more_entries es tree.no_entries
entries_onto [] = refl
entries_onto (x ∷ xs) = ap (tree.more_entries x) (entries_onto xs)

pub patterns_onto : (ps : List tree.Pattern) → tree.patterns_of ps ≡ built.onto tree.more_patterns ps tree.no_patterns
patterns_onto [] = refl
patterns_onto (x ∷ xs) = ap (tree.more_patterns x) (patterns_onto xs)

pub parts_onto : (ps : List tree.Part) → tree.parts_of ps ≡ built.onto tree.more_parts ps tree.no_parts
parts_onto [] = refl
parts_onto (x ∷ xs) = ap (tree.more_parts x) (parts_onto xs)

pub named_call : (n : Name) (v : Vec Tree Global) → named (t.Call n v) ≡ tree.call (name_of n) (built.onto tree.more_trees (map named v.items) tree.no_trees)
named_call n v = named-Call n v ∙ ap (tree.call (name_of n)) (trees_onto (map named v.items))

pub named_prelude_call : (n : Name) (v : Vec Tree Global) → named (t.PreludeCall n v) ≡ tree.prelude_call (name_of n) (built.onto tree.more_trees (map named v.items) tree.no_trees)
named_prelude_call n v = named-PreludeCall n v ∙ ap (tree.prelude_call (name_of n)) (trees_onto (map named v.items))

pub named_update : (m : Modify) (ts : Box (List Tree) Global) → named (t.Update m ts) ≡ tree.prelude_call (codes "_modify") (built.onto tree.more_trees (map named ts.value) tree.no_trees)
named_update m ts =
    named-Update m ts ∙ ap (λ n. tree.prelude_call n (tree.trees_of (map named ts.value))) m.same ∙ ap (tree.prelude_call (codes "_modify")) (trees_onto (map named ts.value))

pub named_items : (v : Vec Pattern Global) → named_as_pattern (p.Items v) ≡ tree.items (built.onto tree.more_patterns (map named_as_pattern v.items) tree.no_patterns)
named_items v = named-Items v ∙ ap tree.items (patterns_onto (map named_as_pattern v.items))

pub named_members : (v : Vec Member Global) → named_as_pattern (p.Members v) ≡ tree.members (built.onto tree.more_parts (map named_as_part v.items) tree.no_parts)
named_members v = named-Members v ∙ ap tree.members (parts_onto (map named_as_part v.items))

pub named_object : (v : Vec (Entry Tree) Global) → named (t.Object v) ≡ tree.object (built.onto tree.more_entries (map named_entry v.items) tree.no_entries)
named_object v = named-Object v ∙ ap tree.object (entries_onto (map named_entry v.items))

pieces_onto : (s : String Global) (qs : List (Piece Tree)) → pieces_of (map named_piece qs) s ≡ built.onto built.piece_before (map piece_of qs) (tree.last_piece (text_of s))
pieces_onto s [] = refl
pieces_onto s (q ∷ qs) = ap (tree.more_pieces (text_of q.before) (named q.tree)) (pieces_onto s qs)

pub named_text : (n : Name) (v : Vec (Piece Tree) Global) (s : String Global) → named (t.Text n v s) ≡ tree.text (name_of n) (built.onto built.piece_before (map piece_of v.items) (tree.last_piece (text_of s)))
named_text n v s = named-Text n v s ∙ ap (tree.text (name_of n)) (pieces_onto s v.items)

-- ---- texts

pub keyword_characters : (k : Keyword) → chars (keyword_text k) ≡ keyword_text k
unfolding chars
keyword_characters token.Def = refl
keyword_characters token.If = refl
keyword_characters token.Then = refl
keyword_characters token.Elif = refl
keyword_characters token.Else = refl
keyword_characters token.End = refl
keyword_characters token.As = refl
keyword_characters token.Reduce = refl
keyword_characters token.Foreach = refl
keyword_characters token.Try = refl
keyword_characters token.Catch = refl
keyword_characters token.Label = refl
keyword_characters token.Break = refl
keyword_characters token.Import = refl
keyword_characters token.Include = refl
keyword_characters token.Module = refl
keyword_characters token.And = refl
keyword_characters token.Or = refl
keyword_characters token.Location = refl

pub recurse_characters : chars (codes "recurse") ≡ codes "recurse"
unfolding chars
recurse_characters = refl

pub assign_characters : chars (codes "_assign") ≡ codes "_assign"
unfolding chars
assign_characters = refl

pub text_characters : chars (codes "text") ≡ codes "text"
unfolding chars
text_characters = refl

pub null_characters : chars (codes "null") ≡ codes "null"
unfolding chars
null_characters = refl

pub true_characters : chars (codes "true") ≡ codes "true"
unfolding chars
true_characters = refl

pub false_characters : chars (codes "false") ≡ codes "false"
unfolding chars
false_characters = refl

pub no_characters : chars [] ≡ []
unfolding chars
no_characters = refl

-- ---- lists from their last item

pub branches_last : (bs : List Branch) (b : Branch) (x : tree.Tree) → built.onto built.branch_before (map branch_of (bs ++ b ∷ [])) x ≡ built.onto built.branch_before (map branch_of bs) (tree.choice (tree_in b.test) (tree_in b.holds) x)
branches_last [] b x = refl
branches_last (c ∷ bs) b x = ap (built.branch_before (branch_of c)) (branches_last bs b x)

value_first : (q : written.Parameter) (qs : List written.Parameter) (x : tree.Tree) → written.with_values (q ∷ qs) x ≡ written.with_values (q ∷ []) (written.with_values qs x)
value_first (written.by_filter n) qs x = refl
value_first (written.by_value n) qs x = refl

pub values_last : (ps : List Parameter) (q : Parameter) (x : tree.Tree) → written.with_values (map parameter_of (ps ++ q ∷ [])) x ≡ written.with_values (map parameter_of ps) (written.with_values (parameter_of q ∷ []) x)
values_last [] q x = refl
values_last (c ∷ ps) q x = value_first (parameter_of c) (map parameter_of (ps ++ q ∷ [])) x ∙ ap (written.with_values (parameter_of c ∷ [])) (values_last ps q x) ∙ sym (value_first (parameter_of c) (map parameter_of ps) (written.with_values (parameter_of q ∷ []) x))

pub names_more : (qs : List Parameter) (q : Parameter) → written.parameter_names (map parameter_of (qs ++ q ∷ [])) ≡ written.parameter_names (map parameter_of qs) ++ written.parameter_name (parameter_of q) ∷ []
names_more [] q = refl
names_more (c ∷ qs) q = ap (λ ns. written.parameter_name (parameter_of c) ∷ ns) (names_more qs q)

pub names_take : (qs : List Parameter) (i : ℕ) (q : Parameter) → q ≡ get_or qs i q → i < length qs → written.parameter_names (map parameter_of (take (i + 1) qs)) ≡ written.parameter_names (map parameter_of (take i qs)) ++ written.parameter_name (parameter_of q) ∷ []
names_take qs i q e h = ap (λ ps. written.parameter_names (map parameter_of ps)) (take_more qs i q h ∙ ap (λ p. take i qs ++ p ∷ []) (sym e)) ∙ names_more (take i qs) q

-- ---- the filter of a string

pub some_pieces : (v : List (Piece Tree)) (s : String Global) → 0 < length v → g.text_of (built.onto built.piece_before (map piece_of v) (tree.last_piece (text_of s))) ≡ tree.text (codes "text") (built.onto built.piece_before (map piece_of v) (tree.last_piece (text_of s)))
some_pieces [] s h = absurd (omega (arith, h))
some_pieces (x ∷ v) s h = refl

-- ---- names of literals

pub literal_true : (n : List ℕ) → bytes_eq n (codes "null") ≡ false → bytes_eq n (codes "true") ≡ true → built.bare_name (g.literal_named n) n ≡ tree.literal (tree.boolean true)
literal_true n h k = rw (h, k)

pub literal_false : (n : List ℕ) → bytes_eq n (codes "null") ≡ false → bytes_eq n (codes "true") ≡ false → bytes_eq n (codes "false") ≡ true → built.bare_name (g.literal_named n) n ≡ tree.literal (tree.boolean false)
literal_false n h k j = rw (h, k, j)
