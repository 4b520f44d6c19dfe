-- The turns end with the trees of the grammar: objects, terms and steps.
use Rattle.std.proofs.Common.{◌≡◌, ℕ, ◌≤◌, pos, List, [], ◌∷◌, ◌++◌, Bool, true, false, Option, Some, None, refl, sym, ap, subst, append_assoc, arith}
use Rattle.std.proofs.lemmas.List.{append-nil}
use Rattle.jq_tree.specs.Tree.{Name, Literal, Tree, Trees, no_trees, more_trees, Pieces, Entry, Entries, no_entries, more_entries, Pattern}
use Rattle.jq_tree.specs.Tree as tree
use Rattle.jq_tree.specs.Token.{Token, keyword, name, field, variable, format, number, piece, symbol}
use Rattle.jq_tree.specs.Token as token
use Rattle.jq_tree.specs.WrittenOut.{recurse_all, Parameter, definition}
use Rattle.jq_tree.specs.Grammar.{Key, key_name, key_word, literal_named, text_of, text_entry, own_entry, Suffix, to_field, to_part, to_slice, to_all, with_suffix, no_bound}
use Rattle.jq_builders.specs.Trees as built
use Rattle.jq_builders.specs.Trees.{by_word, by_text, by_format, bare_name, with_question, branch_before, keyed_by, computed_by}
use Rattle.jq_parser.specs.laws.Machine as m
use Rattle.jq_parser.specs.laws.Combinators.{first, is_symbol}
use Rattle.jq_parser.proofs.Follow.{follow, kind}
use Rattle.jq_parser.proofs.Readings.{function_of}
use Rattle.jq_parser.specs.laws.Machine.{Frame, go, key_turn, turn, text_done_turn, entry_turn, turns, reducing, iterating, in_main}
use Rattle.jq_parser.proofs.Ends.{Ends, by_turn}
use Rattle.jq_parser.proofs.AtTokens.{opened, value_stops, name_stops, format_stops, dot_stops, key_stops, array_begins, object_begins, part_begins, slice_begins, main_begins, main_definition_begins, text_begins, formatted_begins, dot_text_begins, dotted_text_begins, bracket_begins, dotted_bracket_begins, text_key_begins}
use Rattle.jq_parser.proofs.Turned.{PipeTurns, EndsTurns, PostTurns, BrTurns, SufTurns, StrTurns, BranchesTurns, ArgsTurns, ValTurns, EntTurns, EntsTurns, PatTurns, DefTurns, MainTurns, LevelTurns, onto-snoc, post_end, level_in}

-- ---- arguments

pub is_one_arg : (xs : List Token) (a : Tree) → PipeTurns xs a → ArgsTurns xs (more_trees a no_trees)
unfolding opened
is_one_arg xs a i v ss fs rest r k = i (m.argument v ss ∷ fs) (symbol token.right_parenthesis ∷ rest) r (omega arith) (by_turn (rw (onto-snoc more_trees ss a no_trees) k))

pub is_more_args : (xs ys : List Token) (a : Tree) (us : Trees) → PipeTurns xs a → ArgsTurns ys us → ArgsTurns (xs ++ symbol token.semicolon ∷ ys) (more_trees a us)
unfolding opened
is_more_args xs ys a us i j v ss fs rest r k =
    rw append_assoc (i (m.argument v ss ∷ fs) (symbol token.semicolon ∷ (ys ++ symbol token.right_parenthesis ∷ rest)) r (omega arith) (by_turn (j v (ss ++ a ∷ []) fs rest r (rw (onto-snoc more_trees ss a us) k))))

-- ---- entries

pub is_one_val : (xs : List Token) (a : Tree) → LevelTurns 7 xs a → ValTurns xs a
unfolding turns
is_one_val xs a i fs rest r h k = by_turn (level_in 7 xs a i rest (omega arith) (m.ends_value ∷ fs) r (value_stops a fs rest r h k))

pub is_more_val : (xs ys : List Token) (a b : Tree) → LevelTurns 7 xs a → ValTurns ys b → ValTurns (xs ++ symbol token.bar ∷ ys) (tree.pipe a b)
unfolding opened
is_more_val xs ys a b i j fs rest r h k =
    rw append_assoc (by_turn (level_in 7 xs a i (symbol token.bar ∷ (ys ++ rest)) (omega arith) (m.ends_value ∷ fs) r (by_turn (j (m.value_piped a ∷ fs) rest r h (by_turn k)))))

-- the value after a key
entry_value : (es : List Entry) (key : built.ValueKey) (xs : List Token) (v : Tree) → ValTurns xs v → (fs : List Frame) (rest : List Token) (r : Tree) → 11 ≤ follow rest
    → Ends (go (m.after_entry (es ++ built.entry_with key v ∷ [])) fs rest) r → Ends (go m.want_value (m.entry_value es key ∷ fs) (xs ++ rest)) r
unfolding turns
entry_value es key xs v i fs rest r h k = i (m.entry_value es key ∷ fs) rest r h (by_turn k)

key_of_entry : (es : List Entry) (key : Token) (s : List ℕ) (fs : List Frame) (us : List Token) (r : Tree) → Key key s → Ends (key_turn es (by_word s) fs us) r → Ends (go (m.entry es) fs (key ∷ us)) r
unfolding turns
key_of_entry es key s fs us r key_name k = by_turn k
key_of_entry es key s fs us r (key_word w) k = by_turn k

pub is_ent_variable : (v : Name) → EntTurns (variable v ∷ []) (tree.named v (tree.variable v))
unfolding turns
is_ent_variable v es fs rest r h c k = by_turn k

pub is_ent_key : (key : Token) (s : List ℕ) → Key key s → EntTurns (key ∷ []) (tree.named s (tree.field tree.identity s false))
is_ent_key key s w es fs rest r h c k = key_of_entry es key s fs rest r w (key_stops es (by_word s) fs rest r c k)

pub is_ent_key_value : (key : Token) (s : List ℕ) (xs : List Token) (v : Tree) → Key key s → ValTurns xs v → EntTurns (key ∷ symbol token.colon ∷ xs) (tree.named s v)
unfolding key_turn
is_ent_key_value key s xs v w i es fs rest r h c k = key_of_entry es key s fs (symbol token.colon ∷ (xs ++ rest)) r w (entry_value es (keyed_by (by_word s)) xs v i fs rest r h k)

pub is_ent_text : (xs : List Token) (ps : Pieces) → ((rest : List Token) → (s : List ℕ) × (first (xs ++ rest) ≡ Some (piece s))) → StrTurns xs ps → EntTurns xs (own_entry ps)
unfolding turn text_done_turn
is_ent_text xs ps b i es fs rest r h c k =
    text_key_begins es (b rest).0 fs (xs ++ rest) r (b rest).1 (i (m.as_key es) [] fs rest r (omega arith) (by_turn (key_stops es (by_text ps) fs rest r c k)))

pub is_ent_text_value : (xs ys : List Token) (ps : Pieces) (v : Tree) → ((rest : List Token) → (s : List ℕ) × (first (xs ++ rest) ≡ Some (piece s))) → StrTurns xs ps → ValTurns ys v → EntTurns (xs ++ symbol token.colon ∷ ys) (text_entry ps v)
unfolding opened
is_ent_text_value xs ys ps v b i j es fs rest r h c k =
    rw append_assoc (text_key_begins es (b (symbol token.colon ∷ (ys ++ rest))).0 fs (xs ++ symbol token.colon ∷ (ys ++ rest)) r (b (symbol token.colon ∷ (ys ++ rest))).1
    (i (m.as_key es) [] fs (symbol token.colon ∷ (ys ++ rest)) r (omega arith) (by_turn (entry_value es (keyed_by (by_text ps)) ys v j fs rest r h k))))

pub is_ent_formatted : (w : Name) (xs : List Token) (ps : Pieces) → StrTurns xs ps → EntTurns (format w ∷ xs) (tree.own (tree.text w ps))
unfolding turn entry_turn text_done_turn
is_ent_formatted w xs ps i es fs rest r h c k = by_turn (i (m.as_formatted_key es w) [] fs rest r (omega arith) (by_turn (key_stops es (by_format w ps) fs rest r c k)))

pub is_ent_formatted_value : (w : Name) (xs ys : List Token) (ps : Pieces) (v : Tree) → StrTurns xs ps → ValTurns ys v → EntTurns (format w ∷ (xs ++ symbol token.colon ∷ ys)) (tree.computed (tree.text w ps) v)
unfolding opened
is_ent_formatted_value w xs ys ps v i j es fs rest r h c k =
    rw append_assoc (by_turn (i (m.as_formatted_key es w) [] fs (symbol token.colon ∷ (ys ++ rest)) r (omega arith) (by_turn (entry_value es (keyed_by (by_format w ps)) ys v j fs rest r h k))))

pub is_ent_computed : (xs ys : List Token) (a b : Tree) → PipeTurns xs a → ValTurns ys b → EntTurns (symbol token.left_parenthesis ∷ (xs ++ symbol token.right_parenthesis ∷ symbol token.colon ∷ ys)) (tree.computed a b)
unfolding opened
is_ent_computed xs ys a b i j es fs rest r h c k =
    rw append_assoc (by_turn (i (m.entry_key es ∷ fs) (symbol token.right_parenthesis ∷ symbol token.colon ∷ (ys ++ rest)) r (omega arith) (by_turn (entry_value es (computed_by a) ys b j fs rest r h k))))

pub is_one_ent : (xs : List Token) (e : Entry) → EntTurns xs e → EntsTurns xs (more_entries e no_entries)
unfolding opened
is_one_ent xs e i es fs rest r k = i es fs (symbol token.right_brace ∷ rest) r (omega arith) refl (by_turn (rw (onto-snoc more_entries es e no_entries) k))

pub is_more_ents : (xs ys : List Token) (e : Entry) (us : Entries) → EntTurns xs e → EntsTurns ys us → EntsTurns (xs ++ symbol token.comma ∷ ys) (more_entries e us)
unfolding opened
is_more_ents xs ys e us i j es fs rest r k =
    rw append_assoc (i es fs (symbol token.comma ∷ (ys ++ symbol token.right_brace ∷ rest)) r (omega arith) refl (by_turn (j (es ++ e ∷ []) fs rest r (rw (onto-snoc more_entries es e us) k))))

-- ---- terms

pub is_dot : EndsTurns false (symbol token.dot ∷ []) tree.identity
is_dot fs rest r h k = dot_stops fs rest r h k

pub is_two_dots : EndsTurns false (symbol token.two_dots ∷ []) recurse_all
unfolding turns
is_two_dots fs rest r h k = by_turn k

pub is_a_number : (v : ℕ) → EndsTurns false (number v ∷ []) (tree.literal (tree.number (pos v)))
unfolding turns
is_a_number v fs rest r h k = by_turn k

pub is_a_text : (xs : List Token) (ps : Pieces) → ((rest : List Token) → (s : List ℕ) × (first (xs ++ rest) ≡ Some (piece s))) → StrTurns xs ps → EndsTurns false xs (text_of ps)
unfolding turns
is_a_text xs ps b i fs rest r h k = text_begins (b rest).0 fs (xs ++ rest) r (b rest).1 (i m.as_term [] fs rest r h (by_turn k))

pub is_a_format : (w : Name) → EndsTurns false (format w ∷ []) (tree.format w)
is_a_format w fs rest r h k = format_stops w fs rest r h k

pub is_a_formatted : (w : Name) (xs : List Token) (ps : Pieces) → ((rest : List Token) → (s : List ℕ) × (first (xs ++ rest) ≡ Some (piece s))) → StrTurns xs ps → EndsTurns false (format w ∷ xs) (tree.text w ps)
unfolding turns
is_a_formatted w xs ps b i fs rest r h k = formatted_begins w (b rest).0 fs (xs ++ rest) r (b rest).1 (i (m.as_formatted w) [] fs rest r h (by_turn k))

pub is_a_variable : (v : Name) → EndsTurns false (variable v ∷ []) (tree.variable v)
unfolding turns
is_a_variable v fs rest r h k = by_turn k

pub is_a_break : (v : Name) → EndsTurns false (keyword token.Break ∷ variable v ∷ []) (tree.break v)
unfolding turns
is_a_break v fs rest r h k = by_turn k

is_bare_name : (v : Name) (t : Tree) → bare_name (literal_named v) v ≡ t → EndsTurns false (name v ∷ []) t
is_bare_name v t e fs rest r h k = name_stops v fs rest r h (subst (λ (w : Tree). Ends (go (m.suffix false w) fs rest) r) (sym e) k)

pub is_a_literal : (v : Name) (w : Literal) → literal_named v ≡ Some w → EndsTurns false (name v ∷ []) (tree.literal w)
is_a_literal v w e = is_bare_name v (tree.literal w) (ap (λ (o : Option Literal). bare_name o v) e)

pub is_plain_call : (v : Name) → literal_named v ≡ None → EndsTurns false (name v ∷ []) (tree.call v no_trees)
is_plain_call v e = is_bare_name v (tree.call v no_trees) (ap (λ (o : Option Literal). bare_name o v) e)

pub is_call : (v : Name) (xs : List Token) (us : Trees) → ArgsTurns xs us → EndsTurns false (name v ∷ symbol token.left_parenthesis ∷ (xs ++ symbol token.right_parenthesis ∷ [])) (tree.call v us)
unfolding turns
is_call v xs us i fs rest r h k = rw append_assoc (by_turn (i v [] fs rest r k))

pub is_brackets : (xs : List Token) (a : Tree) → PipeTurns xs a → EndsTurns false (symbol token.left_parenthesis ∷ (xs ++ symbol token.right_parenthesis ∷ [])) a
unfolding opened
is_brackets xs a i fs rest r h k = rw append_assoc (by_turn (i (m.in_parentheses ∷ fs) (symbol token.right_parenthesis ∷ rest) r (omega arith) (by_turn k)))

pub is_no_items : EndsTurns false (symbol token.left_bracket ∷ symbol token.right_bracket ∷ []) (tree.array tree.empty)
unfolding turns
is_no_items fs rest r h k = by_turn k

pub is_items : (xs : List Token) (a : Tree) → ((rest : List Token) → 1 ≤ kind (xs ++ rest)) → PipeTurns xs a → EndsTurns false (symbol token.left_bracket ∷ (xs ++ symbol token.right_bracket ∷ [])) (tree.array a)
unfolding opened
is_items xs a b i fs rest r h k = rw append_assoc (array_begins fs (xs ++ symbol token.right_bracket ∷ rest) r (b (symbol token.right_bracket ∷ rest)) (i (m.in_array ∷ fs) (symbol token.right_bracket ∷ rest) r (omega arith) (by_turn k)))

pub is_no_members : EndsTurns false (symbol token.left_brace ∷ symbol token.right_brace ∷ []) (tree.object no_entries)
unfolding turns
is_no_members fs rest r h k = by_turn k

pub is_members : (xs : List Token) (es : Entries) → ((rest : List Token) → is_symbol token.right_brace (first (xs ++ rest)) ≡ false) → EntsTurns xs es → EndsTurns false (symbol token.left_brace ∷ (xs ++ symbol token.right_brace ∷ [])) (tree.object es)
is_members xs es b i fs rest r h k = rw append_assoc (object_begins fs (xs ++ symbol token.right_brace ∷ rest) r (b (symbol token.right_brace ∷ rest)) (i [] fs rest r k))

-- ---- folds and conditions

pub is_reduce : (xs ps ys zs : List Token) (a b c : Tree) (x : Pattern) → PostTurns xs a → PatTurns ps x → PipeTurns ys b → PipeTurns zs c
    → EndsTurns false (keyword token.Reduce ∷ (xs ++ keyword token.As ∷ (ps ++ symbol token.left_parenthesis ∷ (ys ++ symbol token.semicolon ∷ (zs ++ symbol token.right_parenthesis ∷ []))))) (tree.reduce a x b c)
unfolding opened
is_reduce xs ps ys zs a b c x i p j o fs rest r h k =
    simp append_assoc (by_turn (post_end xs a i (m.fold_source reducing ∷ fs) (keyword token.As ∷ (ps ++ symbol token.left_parenthesis ∷ (ys ++ symbol token.semicolon ∷ (zs ++ symbol token.right_parenthesis ∷ rest)))) r (omega arith)
    (by_turn (p (m.fold_pattern reducing a ∷ fs) (symbol token.left_parenthesis ∷ (ys ++ symbol token.semicolon ∷ (zs ++ symbol token.right_parenthesis ∷ rest))) r
    (by_turn (j (m.fold_start reducing a x ∷ fs) (symbol token.semicolon ∷ (zs ++ symbol token.right_parenthesis ∷ rest)) r (omega arith)
    (by_turn (o (m.fold_update reducing a x b ∷ fs) (symbol token.right_parenthesis ∷ rest) r (omega arith) (by_turn k)))))))))

pub is_foreach : (xs ps ys zs : List Token) (a b c : Tree) (x : Pattern) → PostTurns xs a → PatTurns ps x → PipeTurns ys b → PipeTurns zs c
    → EndsTurns false (keyword token.Foreach ∷ (xs ++ keyword token.As ∷ (ps ++ symbol token.left_parenthesis ∷ (ys ++ symbol token.semicolon ∷ (zs ++ symbol token.right_parenthesis ∷ []))))) (tree.foreach a x b c tree.identity)
unfolding opened
is_foreach xs ps ys zs a b c x i p j o fs rest r h k =
    simp append_assoc (by_turn (post_end xs a i (m.fold_source iterating ∷ fs) (keyword token.As ∷ (ps ++ symbol token.left_parenthesis ∷ (ys ++ symbol token.semicolon ∷ (zs ++ symbol token.right_parenthesis ∷ rest)))) r (omega arith)
    (by_turn (p (m.fold_pattern iterating a ∷ fs) (symbol token.left_parenthesis ∷ (ys ++ symbol token.semicolon ∷ (zs ++ symbol token.right_parenthesis ∷ rest))) r
    (by_turn (j (m.fold_start iterating a x ∷ fs) (symbol token.semicolon ∷ (zs ++ symbol token.right_parenthesis ∷ rest)) r (omega arith)
    (by_turn (o (m.fold_update iterating a x b ∷ fs) (symbol token.right_parenthesis ∷ rest) r (omega arith) (by_turn k)))))))))

pub is_foreach_with : (xs ps ys zs us : List Token) (a b c d : Tree) (x : Pattern) → PostTurns xs a → PatTurns ps x → PipeTurns ys b → PipeTurns zs c → PipeTurns us d
    → EndsTurns false (keyword token.Foreach ∷ (xs ++ keyword token.As ∷ (ps ++ symbol token.left_parenthesis ∷ (ys ++ symbol token.semicolon ∷ (zs ++ symbol token.semicolon ∷ (us ++ symbol token.right_parenthesis ∷ [])))))) (tree.foreach a x b c d)
unfolding opened
is_foreach_with xs ps ys zs us a b c d x i p j o w fs rest r h k =
    simp append_assoc (by_turn (post_end xs a i (m.fold_source iterating ∷ fs) (keyword token.As ∷ (ps ++ symbol token.left_parenthesis ∷ (ys ++ symbol token.semicolon ∷ (zs ++ symbol token.semicolon ∷ (us ++ symbol token.right_parenthesis ∷ rest))))) r (omega arith)
    (by_turn (p (m.fold_pattern iterating a ∷ fs) (symbol token.left_parenthesis ∷ (ys ++ symbol token.semicolon ∷ (zs ++ symbol token.semicolon ∷ (us ++ symbol token.right_parenthesis ∷ rest)))) r
    (by_turn (j (m.fold_start iterating a x ∷ fs) (symbol token.semicolon ∷ (zs ++ symbol token.semicolon ∷ (us ++ symbol token.right_parenthesis ∷ rest))) r (omega arith)
    (by_turn (o (m.fold_update iterating a x b ∷ fs) (symbol token.semicolon ∷ (us ++ symbol token.right_parenthesis ∷ rest)) r (omega arith)
    (by_turn (w (m.fold_extract a x b c ∷ fs) (symbol token.right_parenthesis ∷ rest) r (omega arith) (by_turn k)))))))))))

pub is_no_else : (xs ys : List Token) (a b : Tree) → PipeTurns xs a → PipeTurns ys b → BranchesTurns (xs ++ keyword token.Then ∷ (ys ++ keyword token.End ∷ [])) (tree.choice a b tree.identity)
unfolding opened
is_no_else xs ys a b i j cs fs rest r k =
    simp append_assoc (i (m.branch_test cs ∷ fs) (keyword token.Then ∷ (ys ++ keyword token.End ∷ rest)) r (omega arith)
    (by_turn (j (m.branch_holds cs a ∷ fs) (keyword token.End ∷ rest) r (omega arith) (by_turn (rw (onto-snoc branch_before cs (a, b) tree.identity) k)))))

pub is_with_else : (xs ys zs : List Token) (a b c : Tree) → PipeTurns xs a → PipeTurns ys b → PipeTurns zs c → BranchesTurns (xs ++ keyword token.Then ∷ (ys ++ keyword token.Else ∷ (zs ++ keyword token.End ∷ []))) (tree.choice a b c)
unfolding opened
is_with_else xs ys zs a b c i j o cs fs rest r k =
    simp append_assoc (i (m.branch_test cs ∷ fs) (keyword token.Then ∷ (ys ++ keyword token.Else ∷ (zs ++ keyword token.End ∷ rest))) r (omega arith)
    (by_turn (j (m.branch_holds cs a ∷ fs) (keyword token.Else ∷ (zs ++ keyword token.End ∷ rest)) r (omega arith)
    (by_turn (o (m.branch_fails (cs ++ (a, b) ∷ []) ∷ fs) (keyword token.End ∷ rest) r (omega arith) (by_turn (rw (onto-snoc branch_before cs (a, b) c) k)))))))

pub is_with_elif : (xs ys zs : List Token) (a b c : Tree) → PipeTurns xs a → PipeTurns ys b → BranchesTurns zs c → BranchesTurns (xs ++ keyword token.Then ∷ (ys ++ keyword token.Elif ∷ zs)) (tree.choice a b c)
unfolding opened
is_with_elif xs ys zs a b c i j o cs fs rest r k =
    simp append_assoc (i (m.branch_test cs ∷ fs) (keyword token.Then ∷ (ys ++ keyword token.Elif ∷ (zs ++ rest))) r (omega arith)
    (by_turn (j (m.branch_holds cs a ∷ fs) (keyword token.Elif ∷ (zs ++ rest)) r (omega arith) (by_turn (o (cs ++ (a, b) ∷ []) fs rest r (rw (onto-snoc branch_before cs (a, b) c) k))))))

pub is_choice : (xs : List Token) (a : Tree) → BranchesTurns xs a → EndsTurns false (keyword token.If ∷ xs) a
unfolding turns
is_choice xs a i fs rest r h k = by_turn (i [] fs rest r k)

-- ---- steps

pub is_br_all : BrTurns (symbol token.left_bracket ∷ symbol token.right_bracket ∷ []) to_all
unfolding turns
is_br_all a fs rest r k = by_turn k

pub is_br_part : (xs : List Token) (b : Tree) → ((rest : List Token) → 1 ≤ kind (xs ++ rest)) → PipeTurns xs b → BrTurns (symbol token.left_bracket ∷ (xs ++ symbol token.right_bracket ∷ [])) (to_part b)
unfolding opened
is_br_part xs b w i a fs rest r k = rw append_assoc (part_begins a fs (xs ++ symbol token.right_bracket ∷ rest) r (w (symbol token.right_bracket ∷ rest)) (i (m.part_of a ∷ fs) (symbol token.right_bracket ∷ rest) r (omega arith) (by_turn k)))

pub is_br_slice : (xs ys : List Token) (b c : Tree) → ((rest : List Token) → 1 ≤ kind (xs ++ rest)) → ((rest : List Token) → 1 ≤ kind (ys ++ rest)) → PipeTurns xs b → PipeTurns ys c
    → BrTurns (symbol token.left_bracket ∷ (xs ++ symbol token.colon ∷ (ys ++ symbol token.right_bracket ∷ []))) (to_slice b c)
unfolding opened
is_br_slice xs ys b c v w i j a fs rest r k =
    simp append_assoc (part_begins a fs (xs ++ symbol token.colon ∷ (ys ++ symbol token.right_bracket ∷ rest)) r (v (symbol token.colon ∷ (ys ++ symbol token.right_bracket ∷ rest))) (i (m.part_of a ∷ fs) (symbol token.colon ∷ (ys ++ symbol token.right_bracket ∷ rest)) r (omega arith)
    (slice_begins a b fs (ys ++ symbol token.right_bracket ∷ rest) r (w (symbol token.right_bracket ∷ rest)) (j (m.slice_end a b ∷ fs) (symbol token.right_bracket ∷ rest) r (omega arith) (by_turn k)))))

pub is_br_from : (xs : List Token) (b : Tree) → ((rest : List Token) → 1 ≤ kind (xs ++ rest)) → PipeTurns xs b → BrTurns (symbol token.left_bracket ∷ (xs ++ symbol token.colon ∷ symbol token.right_bracket ∷ [])) (to_slice b no_bound)
unfolding opened
is_br_from xs b w i a fs rest r k =
    rw append_assoc (part_begins a fs (xs ++ symbol token.colon ∷ symbol token.right_bracket ∷ rest) r (w (symbol token.colon ∷ symbol token.right_bracket ∷ rest)) (i (m.part_of a ∷ fs) (symbol token.colon ∷ symbol token.right_bracket ∷ rest) r (omega arith) (by_turn k)))

pub is_br_to : (xs : List Token) (b : Tree) → PipeTurns xs b → BrTurns (symbol token.left_bracket ∷ symbol token.colon ∷ (xs ++ symbol token.right_bracket ∷ [])) (to_slice no_bound b)
unfolding opened
is_br_to xs b i a fs rest r k = rw append_assoc (by_turn (i (m.slice_to a ∷ fs) (symbol token.right_bracket ∷ rest) r (omega arith) (by_turn k)))

pub is_suf_field : (v : Name) → SufTurns (field v ∷ []) (to_field v)
unfolding turns
is_suf_field v last a fs rest r h k = by_turn k

pub is_suf_text : (xs : List Token) (ps : Pieces) → ((rest : List Token) → (s : List ℕ) × (first (xs ++ rest) ≡ Some (piece s))) → StrTurns xs ps → SufTurns (symbol token.dot ∷ xs) (to_part (text_of ps))
unfolding turns
is_suf_text xs ps b i last a fs rest r h k = dotted_text_begins last a (b rest).0 fs (xs ++ rest) r (b rest).1 (i (m.as_part_of a) [] fs rest r h (by_turn k))

pub is_suf_bracket : (xs : List Token) (s : Suffix) → ((rest : List Token) → first (xs ++ rest) ≡ Some (symbol token.left_bracket)) → BrTurns xs s → SufTurns xs s
is_suf_bracket xs s b i last a fs rest r h k = bracket_begins last a fs (xs ++ rest) r (b rest) (i a fs rest r k)

pub is_suf_dot_bracket : (xs : List Token) (s : Suffix) → ((rest : List Token) → first (xs ++ rest) ≡ Some (symbol token.left_bracket)) → BrTurns xs s → SufTurns (symbol token.dot ∷ xs) s
is_suf_dot_bracket xs s b i last a fs rest r h k = dotted_bracket_begins last a fs (xs ++ rest) r (b rest) (i a fs rest r k)

-- ---- postfix forms

pub either_end : (last : Bool) (xs : List Token) (a : Tree) → EndsTurns last xs a → PostTurns xs a
either_end last xs a i fs rest r h k = i fs rest r h (k last)

pub is_field_of_input : (v : Name) → EndsTurns true (field v ∷ []) (tree.field tree.identity v false)
unfolding turns
is_field_of_input v fs rest r h k = by_turn k

pub is_text_of_input : (xs : List Token) (ps : Pieces) → ((rest : List Token) → (s : List ℕ) × (first (xs ++ rest) ≡ Some (piece s))) → StrTurns xs ps → EndsTurns true (symbol token.dot ∷ xs) (tree.index tree.identity (text_of ps) false)
unfolding turns
is_text_of_input xs ps b i fs rest r h k = dot_text_begins (b rest).0 fs (xs ++ rest) r (b rest).1 (i m.as_part_of_input [] fs rest r h (by_turn k))

pub is_step_of : (xs ys : List Token) (a : Tree) (s : Suffix) → ((rest : List Token) → 1 ≤ follow (ys ++ rest)) → PostTurns xs a → SufTurns ys s → EndsTurns true (xs ++ ys) (with_suffix a s)
is_step_of xs ys a s w i j fs rest r h k = rw append_assoc (i fs (ys ++ rest) r (w rest) (λ last. j last a fs rest r h k))

pub is_question : (last : Bool) (xs : List Token) (a : Tree) → EndsTurns last xs a → EndsTurns false (xs ++ symbol token.question ∷ []) (with_question last a)
unfolding opened
is_question last xs a i fs rest r h k = rw append_assoc (i fs (symbol token.question ∷ rest) r (omega arith) (by_turn k))

-- ---- all the tokens

pub whole_pipe : (xs : List Token) (a : Tree) → PipeTurns xs a → (fs : List Frame) (r : Tree) → Ends (go (m.have a) fs []) r → Ends (go (m.want_pipe None) fs xs) r
unfolding follow
whole_pipe xs a i fs r k = subst (λ (us : List Token). Ends (go (m.want_pipe None) fs us) r) (append-nil xs) (i fs [] r (omega arith) k)

pub is_no_filter : MainTurns [] tree.identity
unfolding turns
is_no_filter fs r k = by_turn k

pub is_main_defined : (v : Name) (ps : List Parameter) (xs ys : List Token) (a b : Tree) → ((rest : List Token) → first (xs ++ rest) ≡ Some (keyword token.Def)) → DefTurns xs v ps a → MainTurns ys b → MainTurns (xs ++ ys) (definition v ps a b)
unfolding turns
is_main_defined v ps xs ys a b w i j fs r k =
    main_definition_begins fs (xs ++ ys) r (w ys) (i in_main fs ys r (by_turn (j (m.main_rest (function_of v ps a) ∷ fs) r (by_turn k))))

pub is_main_pipe : (xs : List Token) (a : Tree) → ((rest : List Token) → 2 ≤ kind (xs ++ rest)) → PipeTurns xs a → MainTurns xs a
is_main_pipe xs a b i fs r k = main_begins fs xs r (subst (λ (us : List Token). 2 ≤ kind us) (append-nil xs) (b [])) (whole_pipe xs a i fs r k)

pub is_main_labelled : (v : Name) (xs : List Token) (a : Tree) → PipeTurns (keyword token.Label ∷ variable v ∷ symbol token.bar ∷ xs) a → MainTurns (keyword token.Label ∷ variable v ∷ symbol token.bar ∷ xs) a
unfolding turns
is_main_labelled v xs a i fs r k = by_turn (whole_pipe (keyword token.Label ∷ variable v ∷ symbol token.bar ∷ xs) a i fs r k)
