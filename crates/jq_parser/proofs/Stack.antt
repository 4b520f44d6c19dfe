-- What the frames say about the tokens that were read.
use Rattle.std.proofs.Common.{◌≡◌, ℕ, suc, ◌≤◌, List, [], ◌∷◌, ◌++◌, Option}
use Rattle.jq_tree.specs.Tree.{Name, Tree, Trees, more_trees, Pieces, Entry, Entries, more_entries, Pattern, Patterns, more_patterns, Part, Parts, more_parts}
use Rattle.jq_tree.specs.Token.{Token, keyword, name, variable, format, piece, interpolation, symbol}
use Rattle.jq_tree.specs.Token as token
use Rattle.jq_tree.specs.WrittenOut.{Parameter}
use Rattle.jq_tree.specs.Grammar.{level_of, side_of, Suffix}
use Rattle.jq_tree.specs.Grammar as g
use Rattle.jq_builders.specs.Trees.{Function, onto, piece_before, branch_before, PartKey, part_with, ValueKey, entry_with}
use Rattle.jq_parser.specs.laws.Machine as m
use Rattle.jq_parser.specs.laws.Combinators.{first}
use Rattle.jq_parser.specs.laws.Forms.{begins_post}
use Rattle.jq_parser.proofs.Standing.{StartOn, Before, Listed}
use Rattle.jq_parser.specs.laws.Machine.{Fold, reducing, iterating, TextUse, Frame, right_level}

-- The phrase that is awaited.
pub data Kind : Type 0 where
  a_main : Kind
  a_pipe : Kind
  a_level : ℕ → Kind
  a_una : Kind
  a_body : Kind
  a_post : Kind
  a_value : Kind
  a_pattern : Kind

abbrev pub Phrase : Kind → List Token → Tree → Type 0
Phrase a_main = g.Main
Phrase a_pipe = g.Pipe
Phrase (a_level l) = g.Level l
Phrase a_una = g.Una
Phrase a_body = g.Body
Phrase a_post = g.Post
Phrase a_value = g.Val
Phrase a_pattern = λ ts t. ⊥

-- A postfix form is such a phrase.
pub data OfPost : Kind → Type 0 where
  una_of_post : OfPost a_una
  body_of_post : OfPost a_body
  post_of_post : OfPost a_post

pub post_phrase : {k : Kind} → OfPost k → {ts : List Token} {t : Tree} → g.Post ts t → Phrase k ts t
post_phrase una_of_post d = g.post d
post_phrase body_of_post d = g.body_post d
post_phrase post_of_post d = d

-- A pipe is such a phrase.
pub data OfPipe : Kind → Type 0 where
  pipe_of_pipe : OfPipe a_pipe
  main_of_pipe : OfPipe a_main

pub pipe_phrase : {k : Kind} → OfPipe k → {ts : List Token} {t : Tree} → g.Pipe ts t → Phrase k ts t
pipe_phrase pipe_of_pipe d = d
pipe_phrase main_of_pipe d = g.main_pipe d

-- ---- lists so far: whatever list follows, it is a longer one

abbrev pub ArgsSoFar : List Token → List Tree → Type 0
ArgsSoFar us ss = (ys : List Token) (vs : Trees) → g.Args ys vs → g.Args (us ++ ys) (onto more_trees ss vs)

abbrev pub BranchesSoFar : List Token → List (Tree × Tree) → Type 0
BranchesSoFar us cs = (ys : List Token) (t : Tree) → g.Branches ys t → g.Branches (us ++ ys) (onto branch_before cs t)

-- after `else`
abbrev pub ElseSoFar : List Token → List (Tree × Tree) → Type 0
ElseSoFar us cs = (zs : List Token) (c : Tree) → g.Pipe zs c → g.Branches (us ++ (zs ++ keyword token.End ∷ [])) (onto branch_before cs c)

abbrev pub PiecesSoFar : List Token → List (List ℕ × Tree) → Type 0
PiecesSoFar us before = (ys : List Token) (ps : Pieces) → g.Str ys ps → g.Str (us ++ ys) (onto piece_before before ps)

abbrev pub EntriesSoFar : List Token → List Entry → Type 0
EntriesSoFar us es = (ys : List Token) (xs : Entries) → g.Ents ys xs → g.Ents (us ++ ys) (onto more_entries es xs)

abbrev pub PatternsSoFar : List Token → List Pattern → Type 0
PatternsSoFar us xs = (ys : List Token) (ps : Patterns) → g.Pats ys ps → g.Pats (us ++ ys) (onto more_patterns xs ps)

abbrev pub PartsSoFar : List Token → List Part → Type 0
PartsSoFar us qs = (ys : List Token) (ps : Parts) → g.PEnts ys ps → g.PEnts (us ++ ys) (onto more_parts qs ps)

-- ---- keys: whatever value follows, it is an entry

abbrev pub ValueAfter : List Token → ValueKey → Type 0
ValueAfter ks k = (ys : List Token) (v : Tree) → g.Val ys v → g.Ent (ks ++ ys) (entry_with k v)

abbrev pub PatternAfter : List Token → PartKey → Type 0
PatternAfter ks k = (ys : List Token) (x : Pattern) → g.Pat ys x → g.PEnt (ks ++ ys) (part_with k x)

-- `[` or `.[`, what opens a step in brackets
abbrev pub SuffixAfter : List Token → Type 0
SuffixAfter op = (ts : List Token) (s : Suffix) → g.Br (symbol token.left_bracket ∷ ts) s → g.Suf (op ++ ts) s

abbrev pub fold_word : Fold → Token
fold_word reducing = keyword token.Reduce
fold_word iterating = keyword token.Foreach

mutual
  -- With these frames, and these tokens already read, the parser waits for a phrase of that kind.
  pub data Stack : List Token → List Frame → Kind → List Token → Type 0 where
    bottom : {all : List Token} → Stack all [] a_main []
    una_negated : {all ws : List Token} {fs : List Frame} → Stack all fs a_una ws → Stack all (m.negated ∷ fs) a_una (ws ++ symbol token.minus ∷ [])
    body_negated : {all ws : List Token} {fs : List Frame} → Stack all fs a_body ws → Stack all (m.negated ∷ fs) a_body (ws ++ symbol token.minus ∷ [])
    tried : {all ws : List Token} {fs : List Frame} → Stack all fs a_una ws → Stack all (m.tried ∷ fs) a_body (ws ++ keyword token.Try ∷ [])
    caught : {all ws us : List Token} {fs : List Frame} {a : Tree} → Stack all fs a_una ws → g.Body us a → Stack all (m.caught a ∷ fs) a_body (ws ++ keyword token.Try ∷ (us ++ keyword token.Catch ∷ []))
    climbing : {all ws : List Token} {fs : List Frame} {upto : ℕ} → Stack all fs (a_level upto) ws → Stack all (m.climbing upto ∷ fs) a_una ws
    operated : {all ws : List Token} (us : List Token) {fs : List Frame} {a : Tree} {o : Token} {l upto : ℕ} → Stack all fs (a_level upto) ws → level_of o ≡ suc l → suc l ≤ upto → StartOn (side_of (suc l)) l us a
        → Stack all (m.operated a o l upto ∷ fs) (a_level (right_level (side_of (suc l)) l)) (ws ++ (us ++ o ∷ []))
    operand : {all ws : List Token} (vs : List Token) {fs : List Frame} {k : Kind} {before : Option Tree} (i : List Token) → OfPipe k → Stack all fs k ws → Before before vs → all ≡ (ws ++ vs) ++ i
        → Stack all (m.operand before (begins_post (first i)) ∷ fs) a_una (ws ++ vs)
    ends_operand : {all ws : List Token} (vs : List Token) {fs : List Frame} {k : Kind} {before : Option Tree} → OfPipe k → Stack all fs k ws → Before before vs → Stack all (m.ends_operand before ∷ fs) (a_level 7) (ws ++ vs)
    piped : {all ws us : List Token} {fs : List Frame} {k : Kind} {a : Tree} → OfPipe k → Stack all fs k ws → g.Commas us a → Stack all (m.piped a ∷ fs) a_pipe (ws ++ (us ++ symbol token.bar ∷ []))
    body_in_pipe : {all ws : List Token} (vs us : List Token) {fs : List Frame} {k : Kind} {before : Option Tree} {n : Name} {ps : List Parameter} → OfPipe k → Stack all fs k ws → Before before vs → Listed us ps
        → Stack all (m.definition_body (m.in_pipe before) n ps ∷ fs) a_pipe ((ws ++ vs) ++ keyword token.Def ∷ name n ∷ (us ++ symbol token.colon ∷ []))
    body_in_main : {all ws : List Token} (us : List Token) {fs : List Frame} {n : Name} {ps : List Parameter} → Stack all fs a_main ws → Listed us ps
        → Stack all (m.definition_body m.in_main n ps ∷ fs) a_pipe (ws ++ keyword token.Def ∷ name n ∷ (us ++ symbol token.colon ∷ []))
    definition_rest : {all ws : List Token} (vs : List Token) {us : List Token} {fs : List Frame} {k : Kind} {before : Option Tree} {f : Function} → OfPipe k → Stack all fs k ws → Before before vs → g.Def us f.named f.parameters f.body
        → Stack all (m.definition_rest before f ∷ fs) a_pipe ((ws ++ vs) ++ us)
    main_rest : {all ws us : List Token} {fs : List Frame} {f : Function} → Stack all fs a_main ws → g.Def us f.named f.parameters f.body → Stack all (m.main_rest f ∷ fs) a_main (ws ++ us)
    label_rest : {all ws : List Token} (vs : List Token) {fs : List Frame} {k : Kind} {before : Option Tree} {n : Name} → OfPipe k → Stack all fs k ws → Before before vs
        → Stack all (m.label_rest before n ∷ fs) a_pipe ((ws ++ vs) ++ keyword token.Label ∷ variable n ∷ symbol token.bar ∷ [])
    binding_pattern : {all ws : List Token} (vs : List Token) {us : List Token} {fs : List Frame} {k : Kind} {before : Option Tree} {a : Tree} → OfPipe k → Stack all fs k ws → Before before vs → g.Post us a
        → Stack all (m.binding_pattern before a ∷ fs) a_pattern ((ws ++ vs) ++ (us ++ keyword token.As ∷ []))
    binding_rest : {all ws : List Token} (vs : List Token) {us ps : List Token} {fs : List Frame} {k : Kind} {before : Option Tree} {a : Tree} {x : Pattern} → OfPipe k → Stack all fs k ws → Before before vs → g.Post us a → g.Pat ps x
        → Stack all (m.binding_rest before a x ∷ fs) a_pipe ((ws ++ vs) ++ (us ++ keyword token.As ∷ (ps ++ symbol token.bar ∷ [])))
    in_parentheses : {all ws : List Token} {fs : List Frame} {k : Kind} → OfPost k → Stack all fs k ws → Stack all (m.in_parentheses ∷ fs) a_pipe (ws ++ symbol token.left_parenthesis ∷ [])
    in_array : {all ws : List Token} {fs : List Frame} {k : Kind} → OfPost k → Stack all fs k ws → Stack all (m.in_array ∷ fs) a_pipe (ws ++ symbol token.left_bracket ∷ [])
    argument : {all ws : List Token} (us : List Token) {fs : List Frame} {k : Kind} {n : Name} {ss : List Tree} → OfPost k → Stack all fs k ws → ArgsSoFar us ss → Stack all (m.argument n ss ∷ fs) a_pipe (ws ++ name n ∷ symbol token.left_parenthesis ∷ us)
    branch_test : {all ws : List Token} (us : List Token) {fs : List Frame} {k : Kind} {cs : List (Tree × Tree)} → OfPost k → Stack all fs k ws → BranchesSoFar us cs → Stack all (m.branch_test cs ∷ fs) a_pipe (ws ++ keyword token.If ∷ us)
    branch_holds : {all ws : List Token} (us : List Token) {xs : List Token} {fs : List Frame} {k : Kind} {cs : List (Tree × Tree)} {a : Tree} → OfPost k → Stack all fs k ws → BranchesSoFar us cs → g.Pipe xs a
        → Stack all (m.branch_holds cs a ∷ fs) a_pipe (ws ++ keyword token.If ∷ (us ++ (xs ++ keyword token.Then ∷ [])))
    branch_fails : {all ws : List Token} (us : List Token) {fs : List Frame} {k : Kind} {cs : List (Tree × Tree)} → OfPost k → Stack all fs k ws → ElseSoFar us cs → Stack all (m.branch_fails cs ∷ fs) a_pipe (ws ++ keyword token.If ∷ us)
    fold_source : {all ws : List Token} {fs : List Frame} {k : Kind} {f : Fold} → OfPost k → Stack all fs k ws → Stack all (m.fold_source f ∷ fs) a_post (ws ++ fold_word f ∷ [])
    fold_pattern : {all ws us : List Token} {fs : List Frame} {k : Kind} {f : Fold} {a : Tree} → OfPost k → Stack all fs k ws → g.Post us a → Stack all (m.fold_pattern f a ∷ fs) a_pattern (ws ++ fold_word f ∷ (us ++ keyword token.As ∷ []))
    fold_start : {all ws us ps : List Token} {fs : List Frame} {k : Kind} {f : Fold} {a : Tree} {x : Pattern} → OfPost k → Stack all fs k ws → g.Post us a → g.Pat ps x
        → Stack all (m.fold_start f a x ∷ fs) a_pipe (ws ++ fold_word f ∷ (us ++ keyword token.As ∷ (ps ++ symbol token.left_parenthesis ∷ [])))
    fold_update : {all ws us ps ys : List Token} {fs : List Frame} {k : Kind} {f : Fold} {a b : Tree} {x : Pattern} → OfPost k → Stack all fs k ws → g.Post us a → g.Pat ps x → g.Pipe ys b
        → Stack all (m.fold_update f a x b ∷ fs) a_pipe (ws ++ fold_word f ∷ (us ++ keyword token.As ∷ (ps ++ symbol token.left_parenthesis ∷ (ys ++ symbol token.semicolon ∷ []))))
    fold_extract : {all ws us ps ys zs : List Token} {fs : List Frame} {k : Kind} {a b c : Tree} {x : Pattern} → OfPost k → Stack all fs k ws → g.Post us a → g.Pat ps x → g.Pipe ys b → g.Pipe zs c
        → Stack all (m.fold_extract a x b c ∷ fs) a_pipe (ws ++ keyword token.Foreach ∷ (us ++ keyword token.As ∷ (ps ++ symbol token.left_parenthesis ∷ (ys ++ symbol token.semicolon ∷ (zs ++ symbol token.semicolon ∷ [])))))
    part_of : {all ws us : List Token} (op : List Token) {fs : List Frame} {k : Kind} {a : Tree} → OfPost k → Stack all fs k ws → g.Post us a → SuffixAfter op → Stack all (m.part_of a ∷ fs) a_pipe (ws ++ (us ++ op))
    slice_end : {all ws us : List Token} (op : List Token) {xs : List Token} {fs : List Frame} {k : Kind} {a b : Tree} → OfPost k → Stack all fs k ws → g.Post us a → SuffixAfter op → g.Pipe xs b
        → Stack all (m.slice_end a b ∷ fs) a_pipe (ws ++ (us ++ (op ++ (xs ++ symbol token.colon ∷ []))))
    slice_to : {all ws us : List Token} (op : List Token) {fs : List Frame} {k : Kind} {a : Tree} → OfPost k → Stack all fs k ws → g.Post us a → SuffixAfter op → Stack all (m.slice_to a ∷ fs) a_pipe (ws ++ (us ++ (op ++ symbol token.colon ∷ [])))
    text_part : {all ws : List Token} (us : List Token) {fs : List Frame} {u : TextUse} {before : List (List ℕ × Tree)} {s : List ℕ} → TextFor all u fs ws → PiecesSoFar us before
        → Stack all (m.text_part u before s ∷ fs) a_pipe (ws ++ (us ++ piece s ∷ interpolation ∷ []))
    entry_key : {all ws : List Token} (us : List Token) {fs : List Frame} {k : Kind} {es : List Entry} → OfPost k → Stack all fs k ws → EntriesSoFar us es → Stack all (m.entry_key es ∷ fs) a_pipe (ws ++ symbol token.left_brace ∷ (us ++ symbol token.left_parenthesis ∷ []))
    entry_value : {all ws : List Token} (us ks : List Token) {fs : List Frame} {k : Kind} {es : List Entry} {key : ValueKey} → OfPost k → Stack all fs k ws → EntriesSoFar us es → ValueAfter ks key
        → Stack all (m.entry_value es key ∷ fs) a_value (ws ++ symbol token.left_brace ∷ (us ++ ks))
    ends_value : {all ws : List Token} {fs : List Frame} → Stack all fs a_value ws → Stack all (m.ends_value ∷ fs) (a_level 7) ws
    value_piped : {all ws us : List Token} {fs : List Frame} {a : Tree} → Stack all fs a_value ws → g.Level 7 us a → Stack all (m.value_piped a ∷ fs) a_value (ws ++ (us ++ symbol token.bar ∷ []))
    pattern_item : {all ws : List Token} (us : List Token) {fs : List Frame} {xs : List Pattern} → Stack all fs a_pattern ws → PatternsSoFar us xs → Stack all (m.pattern_item xs ∷ fs) a_pattern (ws ++ symbol token.left_bracket ∷ us)
    pattern_member : {all ws : List Token} (us ks : List Token) {fs : List Frame} {qs : List Part} {key : PartKey} → Stack all fs a_pattern ws → PartsSoFar us qs → PatternAfter ks key
        → Stack all (m.pattern_member qs key ∷ fs) a_pattern (ws ++ symbol token.left_brace ∷ (us ++ ks))
    member_key : {all ws : List Token} (us : List Token) {fs : List Frame} {qs : List Part} → Stack all fs a_pattern ws → PartsSoFar us qs → Stack all (m.member_key qs ∷ fs) a_pipe (ws ++ symbol token.left_brace ∷ (us ++ symbol token.left_parenthesis ∷ []))

  -- The form that a string is a part of, and the tokens before it.
  pub data TextFor : List Token → TextUse → List Frame → List Token → Type 0 where
    as_term : {all ws : List Token} {fs : List Frame} {k : Kind} → OfPost k → Stack all fs k ws → TextFor all m.as_term fs ws
    as_formatted : {all ws : List Token} {fs : List Frame} {k : Kind} {f : Name} → OfPost k → Stack all fs k ws → TextFor all (m.as_formatted f) fs (ws ++ format f ∷ [])
    as_part_of_input : {all ws : List Token} {fs : List Frame} {k : Kind} → OfPost k → Stack all fs k ws → TextFor all m.as_part_of_input fs (ws ++ symbol token.dot ∷ [])
    as_part_of : {all ws us : List Token} {fs : List Frame} {k : Kind} {a : Tree} → OfPost k → Stack all fs k ws → g.Post us a → TextFor all (m.as_part_of a) fs (ws ++ (us ++ symbol token.dot ∷ []))
    as_key : {all ws : List Token} (us : List Token) {fs : List Frame} {k : Kind} {es : List Entry} → OfPost k → Stack all fs k ws → EntriesSoFar us es → TextFor all (m.as_key es) fs (ws ++ symbol token.left_brace ∷ us)
    as_formatted_key : {all ws : List Token} (us : List Token) {fs : List Frame} {k : Kind} {es : List Entry} {f : Name} → OfPost k → Stack all fs k ws → EntriesSoFar us es
        → TextFor all (m.as_formatted_key es f) fs (ws ++ symbol token.left_brace ∷ (us ++ format f ∷ []))
    as_part_key : {all ws : List Token} (us : List Token) {fs : List Frame} {qs : List Part} → Stack all fs a_pattern ws → PartsSoFar us qs → TextFor all (m.as_part_key qs) fs (ws ++ symbol token.left_brace ∷ us)
