-- Which tokens spell which tree: the grammar of filters (manual of jq 1.7, "Basic filters" to "Assignment").
--
-- Each production is one constructor. Forms that are explained by others are written out here, by the functions of
-- `WrittenOut`.
use Rattle.std.specs.Prelude.{◌≡◌, ℕ, zero, suc, pos, List, [], ◌∷◌, ◌++◌, false, Option, Some, None, bytes_eq, codes, if◌then◌else◌, true}
use Rattle.jq_tree.specs.Tree.{Name, Literal, null, boolean, string, Tree, Trees, no_trees, more_trees, Pieces, last_piece, more_pieces, Entry, Entries, no_entries, more_entries, Pattern, Patterns, no_patterns, more_patterns, Part, Parts, no_parts, more_parts}
use Rattle.jq_tree.specs.Tree as tree
use Rattle.jq_tree.specs.Token.{Keyword, keyword_text, Symbol, Token, keyword, name, field, variable, format, number, piece, interpolation, symbol}
use Rattle.jq_tree.specs.Token as token
use Rattle.jq_tree.specs.WrittenOut.{attempt, guarded, recurse_all, assign, modify, update, update_alternative, Parameter, by_filter, by_value, definition}

-- ---- the table of the operators between two filters, from the tightest level, 1, to the loosest, 7

abbrev pub symbol_level : Symbol → ℕ
symbol_level token.times = 1
symbol_level token.divided = 1
symbol_level token.modulo = 1
symbol_level token.plus = 2
symbol_level token.minus = 2
symbol_level token.equal = 3
symbol_level token.not_equal = 3
symbol_level token.less = 3
symbol_level token.less_or_equal = 3
symbol_level token.greater = 3
symbol_level token.greater_or_equal = 3
symbol_level token.assign = 6
symbol_level token.modify_assign = 6
symbol_level token.plus_assign = 6
symbol_level token.minus_assign = 6
symbol_level token.times_assign = 6
symbol_level token.divided_assign = 6
symbol_level token.modulo_assign = 6
symbol_level token.alternative_assign = 6
symbol_level token.alternative = 7
symbol_level _ = 0

-- The level of a token that is an operator, and 0 for every other token.
abbrev pub level_of : Token → ℕ
level_of (keyword token.And) = 4
level_of (keyword token.Or) = 5
level_of (symbol s) = symbol_level s
level_of _ = 0

pub data Side : Type 0 where
  Left : Side
  Right : Side
  Neither : Side

-- How the operators of a level group: a - b - c is (a - b) - c, a // b // c is a // (b // c), and a == b == c is no filter.
abbrev pub side_of : ℕ → Side
side_of (suc zero) = Left
side_of (suc (suc zero)) = Left
side_of (suc (suc (suc zero))) = Neither
side_of (suc (suc (suc (suc zero)))) = Left
side_of (suc (suc (suc (suc (suc zero))))) = Left
side_of (suc (suc (suc (suc (suc (suc zero)))))) = Neither
side_of (suc (suc (suc (suc (suc (suc (suc zero))))))) = Right
side_of _ = Neither

abbrev pub joined_by : Symbol → Tree → Tree → Tree
joined_by token.times a b = tree.binary tree.times a b
joined_by token.divided a b = tree.binary tree.divided a b
joined_by token.modulo a b = tree.binary tree.modulo a b
joined_by token.plus a b = tree.binary tree.plus a b
joined_by token.minus a b = tree.binary tree.minus a b
joined_by token.equal a b = tree.binary tree.equal a b
joined_by token.not_equal a b = tree.binary tree.not_equal a b
joined_by token.less a b = tree.binary tree.less a b
joined_by token.less_or_equal a b = tree.binary tree.less_or_equal a b
joined_by token.greater a b = tree.binary tree.greater a b
joined_by token.greater_or_equal a b = tree.binary tree.greater_or_equal a b
joined_by token.assign a b = assign a b
joined_by token.modify_assign a b = modify a b
joined_by token.plus_assign a b = update tree.plus a b
joined_by token.minus_assign a b = update tree.minus a b
joined_by token.times_assign a b = update tree.times a b
joined_by token.divided_assign a b = update tree.divided a b
joined_by token.modulo_assign a b = update tree.modulo a b
joined_by token.alternative_assign a b = update_alternative a b
joined_by token.alternative a b = tree.alternative a b
joined_by _ a b = tree.empty

-- The tree of an operator between two trees. (The value for a token of level 0 does not matter.)
abbrev pub joined : Token → Tree → Tree → Tree
joined (keyword token.And) a b = tree.conjunction a b
joined (keyword token.Or) a b = tree.disjunction a b
joined (symbol s) a b = joined_by s a b
joined _ a b = tree.empty

-- ---- small parts

-- These names without arguments are literals, even if a definition has the same name.
abbrev pub literal_named : Name → Option Literal
literal_named n = if bytes_eq n (codes "null") then Some null
    else if bytes_eq n (codes "true") then Some (boolean true)
    else if bytes_eq n (codes "false") then Some (boolean false)
    else None

abbrev pub name_of : Name → Tree
name_of n = tree.literal (string n)

-- The filter of a string: one without interpolation is a literal.
abbrev pub text_of : Pieces → Tree
text_of (last_piece s) = tree.literal (string s)
text_of (more_pieces s f ps) = tree.text (codes "text") (more_pieces s f ps)

-- The entry of an object whose key is a string.
abbrev pub text_entry : Pieces → Tree → Entry
text_entry (last_piece s) value = tree.named s value
text_entry (more_pieces s f ps) value = tree.computed (text_of (more_pieces s f ps)) value

-- The same without a value.
abbrev pub own_entry : Pieces → Entry
own_entry (last_piece s) = tree.named s (tree.field tree.identity s false)
own_entry (more_pieces s f ps) = tree.own (text_of (more_pieces s f ps))

-- What a step takes from its target.
pub data Suffix : Type 0 where
  to_field : Name → Suffix  -- .a
  to_part : (key : Tree) → Suffix  -- [f], ."a"
  to_slice : (from to : Tree) → Suffix  -- [f:g]
  to_all : Suffix  -- []

abbrev pub with_suffix : Tree → Suffix → Tree
with_suffix f (to_field n) = tree.field f n false
with_suffix f (to_part key) = tree.index f key false
with_suffix f (to_slice from to) = tree.slice f from to false
with_suffix f to_all = tree.iterate f false

-- A bound of a slice that is missing.
abbrev pub no_bound : Tree
no_bound = tree.literal null

-- Par := NAME | VAR
pub data Parameters : List Token → List Parameter → Type 0 where
  last_filter : {n : Name} → Parameters (name n ∷ []) (by_filter n ∷ [])
  last_value : {n : Name} → Parameters (variable n ∷ []) (by_value n ∷ [])
  one_filter : {n : Name} {ts : List Token} {ps : List Parameter} → Parameters ts ps
      → Parameters (name n ∷ symbol token.semicolon ∷ ts) (by_filter n ∷ ps)
  one_value : {n : Name} {ts : List Token} {ps : List Parameter} → Parameters ts ps
      → Parameters (variable n ∷ symbol token.semicolon ∷ ts) (by_value n ∷ ps)

-- Key := NAME | reserved word
pub data Key : Token → List ℕ → Type 0 where
  key_name : {n : Name} → Key (name n) n
  key_word : (k : Keyword) → Key (keyword k) (keyword_text k)

mutual
  -- Def := 'def' NAME ['(' Par {';' Par} ')'] ':' Pipe ';'
  pub data Def : List Token → Name → List Parameter → Tree → Type 0 where
    plain_def : {n : Name} {ts : List Token} {t : Tree} → Pipe ts t
        → Def (keyword token.Def ∷ name n ∷ symbol token.colon ∷ (ts ++ symbol token.semicolon ∷ [])) n [] t
    def_with : {n : Name} {xs ys : List Token} {ps : List Parameter} {t : Tree} → Parameters xs ps → Pipe ys t
        → Def (keyword token.Def ∷ name n ∷ symbol token.left_parenthesis ∷ (xs ++ symbol token.right_parenthesis ∷ symbol token.colon ∷ (ys ++ symbol token.semicolon ∷ []))) n ps t

  -- Pipe := Open | Comma | Comma '|' Pipe | Comma ',' Open
  pub data Pipe : List Token → Tree → Type 0 where
    opened : {ts : List Token} {t : Tree} → Opened ts t → Pipe ts t
    listed : {ts : List Token} {t : Tree} → Commas ts t → Pipe ts t
    piped : {xs ys : List Token} {a b : Tree} → Commas xs a → Pipe ys b → Pipe (xs ++ symbol token.bar ∷ ys) (tree.pipe a b)
    last_open : {xs ys : List Token} {a b : Tree} → Commas xs a → Opened ys b → Pipe (xs ++ symbol token.comma ∷ ys) (tree.comma a b)

  -- Open := Def Pipe | Post 'as' Pat '|' Pipe | 'label' VAR '|' Pipe
  pub data Opened : List Token → Tree → Type 0 where
    defined : {n : Name} {ps : List Parameter} {xs ys : List Token} {a b : Tree} → Def xs n ps a → Pipe ys b → Opened (xs ++ ys) (definition n ps a b)
    bound : {xs ps ys : List Token} {a b : Tree} {p : Pattern} → Post xs a → Pat ps p → Pipe ys b
        → Opened (xs ++ keyword token.As ∷ (ps ++ symbol token.bar ∷ ys)) (tree.bind_as a p b)
    labelled : {n : Name} {ts : List Token} {t : Tree} → Pipe ts t → Opened (keyword token.Label ∷ variable n ∷ symbol token.bar ∷ ts) (tree.label n t)

  -- Comma := Alt | Comma ',' Alt
  pub data Commas : List Token → Tree → Type 0 where
    one : {ts : List Token} {t : Tree} → Level 7 ts t → Commas ts t
    more : {xs ys : List Token} {a b : Tree} → Commas xs a → Level 7 ys b → Commas (xs ++ symbol token.comma ∷ ys) (tree.comma a b)

  -- The levels of the operators between two filters:
  -- Alt := Asg | Asg '//' Alt           level 7
  -- Asg := Or | Or AOP Or               level 6     AOP: = |= += -= *= /= %= //=
  -- Or  := And | Or 'or' And            level 5
  -- And := Cmp | And 'and' Cmp          level 4
  -- Cmp := Sum | Sum COP Sum            level 3     COP: == != < <= > >=
  -- Sum := Mul | Sum ('+'|'-') Mul      level 2
  -- Mul := Una | Mul ('*'|'/'|'%') Una  level 1
  pub data Level : ℕ → List Token → Tree → Type 0 where
    operand : {ts : List Token} {t : Tree} → Una ts t → Level 0 ts t
    tighter : {l : ℕ} {ts : List Token} {t : Tree} → Level l ts t → Level (suc l) ts t
    to_left : {l : ℕ} (o : Token) {xs ys : List Token} {a b : Tree} → level_of o ≡ suc l → side_of (suc l) ≡ Left
        → Level (suc l) xs a → Level l ys b → Level (suc l) (xs ++ o ∷ ys) (joined o a b)
    to_right : {l : ℕ} (o : Token) {xs ys : List Token} {a b : Tree} → level_of o ≡ suc l → side_of (suc l) ≡ Right
        → Level l xs a → Level (suc l) ys b → Level (suc l) (xs ++ o ∷ ys) (joined o a b)
    alone : {l : ℕ} (o : Token) {xs ys : List Token} {a b : Tree} → level_of o ≡ suc l → side_of (suc l) ≡ Neither
        → Level l xs a → Level l ys b → Level (suc l) (xs ++ o ∷ ys) (joined o a b)

  -- Una := '-' Una | 'try' Body ['catch' Body] | Post
  pub data Una : List Token → Tree → Type 0 where
    minus : {ts : List Token} {t : Tree} → Una ts t → Una (symbol token.minus ∷ ts) (tree.negation t)
    try_only : {ts : List Token} {t : Tree} → Body ts t → Una (keyword token.Try ∷ ts) (attempt t)
    try_catch : {xs ys : List Token} {a b : Tree} → Body xs a → Body ys b → Una (keyword token.Try ∷ (xs ++ keyword token.Catch ∷ ys)) (tree.try_catch a b)
    post : {ts : List Token} {t : Tree} → Post ts t → Una ts t

  -- Body := '-' Body | Post
  pub data Body : List Token → Tree → Type 0 where
    body_minus : {ts : List Token} {t : Tree} → Body ts t → Body (symbol token.minus ∷ ts) (tree.negation t)
    body_post : {ts : List Token} {t : Tree} → Post ts t → Body ts t

  -- Post := Term | Post Suf, here by what comes last: a step, which a `?` directly after it would guard, or something else
  pub data Post : List Token → Tree → Type 0 where
    ends_with_step : {ts : List Token} {t : Tree} → Stepped ts t → Post ts t
    ends_otherwise : {ts : List Token} {t : Tree} → Closed ts t → Post ts t

  pub data Stepped : List Token → Tree → Type 0 where
    field_of_input : {n : Name} → Stepped (field n ∷ []) (tree.field tree.identity n false)
    text_of_input : {ts : List Token} {ps : Pieces} → Str ts ps → Stepped (symbol token.dot ∷ ts) (tree.index tree.identity (text_of ps) false)
    step_of : {xs ys : List Token} {t : Tree} {s : Suffix} → Post xs t → Suf ys s → Stepped (xs ++ ys) (with_suffix t s)

  pub data Closed : List Token → Tree → Type 0 where
    term : {ts : List Token} {t : Tree} → Term ts t → Closed ts t
    step_guarded : {ts : List Token} {t : Tree} → Stepped ts t → Closed (ts ++ symbol token.question ∷ []) (guarded t)
    attempted : {ts : List Token} {t : Tree} → Closed ts t → Closed (ts ++ symbol token.question ∷ []) (attempt t)

  -- Suf := FIELD | '.' Str | ['.'] Br
  pub data Suf : List Token → Suffix → Type 0 where
    suf_field : {n : Name} → Suf (field n ∷ []) (to_field n)
    suf_text : {ts : List Token} {ps : Pieces} → Str ts ps → Suf (symbol token.dot ∷ ts) (to_part (text_of ps))
    suf_bracket : {ts : List Token} {s : Suffix} → Br ts s → Suf ts s
    suf_dot_bracket : {ts : List Token} {s : Suffix} → Br ts s → Suf (symbol token.dot ∷ ts) s

  -- Br := '[' ']' | '[' Pipe ']' | '[' Pipe ':' Pipe ']' | '[' Pipe ':' ']' | '[' ':' Pipe ']'
  pub data Br : List Token → Suffix → Type 0 where
    br_all : Br (symbol token.left_bracket ∷ symbol token.right_bracket ∷ []) to_all
    br_part : {ts : List Token} {t : Tree} → Pipe ts t → Br (symbol token.left_bracket ∷ (ts ++ symbol token.right_bracket ∷ [])) (to_part t)
    br_slice : {xs ys : List Token} {a b : Tree} → Pipe xs a → Pipe ys b
        → Br (symbol token.left_bracket ∷ (xs ++ symbol token.colon ∷ (ys ++ symbol token.right_bracket ∷ []))) (to_slice a b)
    br_from : {ts : List Token} {t : Tree} → Pipe ts t
        → Br (symbol token.left_bracket ∷ (ts ++ symbol token.colon ∷ symbol token.right_bracket ∷ [])) (to_slice t no_bound)
    br_to : {ts : List Token} {t : Tree} → Pipe ts t
        → Br (symbol token.left_bracket ∷ symbol token.colon ∷ (ts ++ symbol token.right_bracket ∷ [])) (to_slice no_bound t)

  -- Term, except FIELD and '.' Str, which are steps
  pub data Term : List Token → Tree → Type 0 where
    dot : Term (symbol token.dot ∷ []) tree.identity
    two_dots : Term (symbol token.two_dots ∷ []) recurse_all
    a_number : {n : ℕ} → Term (number n ∷ []) (tree.literal (tree.number (pos n)))
    a_text : {ts : List Token} {ps : Pieces} → Str ts ps → Term ts (text_of ps)
    a_format : {f : Name} → Term (format f ∷ []) (tree.format f)
    a_formatted : {f : Name} {ts : List Token} {ps : Pieces} → Str ts ps → Term (format f ∷ ts) (tree.text f ps)
    a_variable : {n : Name} → Term (variable n ∷ []) (tree.variable n)
    a_break : {n : Name} → Term (keyword token.Break ∷ variable n ∷ []) (tree.break n)
    a_literal : {n : Name} {v : Literal} → literal_named n ≡ Some v → Term (name n ∷ []) (tree.literal v)
    brackets : {ts : List Token} {t : Tree} → Pipe ts t → Term (symbol token.left_parenthesis ∷ (ts ++ symbol token.right_parenthesis ∷ [])) t
    no_items : Term (symbol token.left_bracket ∷ symbol token.right_bracket ∷ []) (tree.array tree.empty)
    items : {ts : List Token} {t : Tree} → Pipe ts t → Term (symbol token.left_bracket ∷ (ts ++ symbol token.right_bracket ∷ [])) (tree.array t)
    no_members : Term (symbol token.left_brace ∷ symbol token.right_brace ∷ []) (tree.object no_entries)
    members : {ts : List Token} {es : Entries} → Ents ts es → Term (symbol token.left_brace ∷ (ts ++ symbol token.right_brace ∷ [])) (tree.object es)
    a_reduce : {xs ps ys zs : List Token} {a b c : Tree} {p : Pattern} → Post xs a → Pat ps p → Pipe ys b → Pipe zs c
        → Term (keyword token.Reduce ∷ (xs ++ keyword token.As ∷ (ps ++ symbol token.left_parenthesis ∷ (ys ++ symbol token.semicolon ∷ (zs ++ symbol token.right_parenthesis ∷ []))))) (tree.reduce a p b c)
    a_foreach : {xs ps ys zs : List Token} {a b c : Tree} {p : Pattern} → Post xs a → Pat ps p → Pipe ys b → Pipe zs c
        → Term (keyword token.Foreach ∷ (xs ++ keyword token.As ∷ (ps ++ symbol token.left_parenthesis ∷ (ys ++ symbol token.semicolon ∷ (zs ++ symbol token.right_parenthesis ∷ []))))) (tree.foreach a p b c tree.identity)
    foreach_with : {xs ps ys zs us : List Token} {a b c d : Tree} {p : Pattern} → Post xs a → Pat ps p → Pipe ys b → Pipe zs c → Pipe us d
        → Term (keyword token.Foreach ∷ (xs ++ keyword token.As ∷ (ps ++ symbol token.left_parenthesis ∷ (ys ++ symbol token.semicolon ∷ (zs ++ symbol token.semicolon ∷ (us ++ symbol token.right_parenthesis ∷ [])))))) (tree.foreach a p b c d)
    a_choice : {ts : List Token} {t : Tree} → Branches ts t → Term (keyword token.If ∷ ts) t
    plain_call : {n : Name} → literal_named n ≡ None → Term (name n ∷ []) (tree.call n no_trees)
    call_with : {n : Name} {ts : List Token} {as_trees : Trees} → Args ts as_trees → Term (name n ∷ symbol token.left_parenthesis ∷ (ts ++ symbol token.right_parenthesis ∷ [])) (tree.call n as_trees)

  -- what follows 'if': Pipe 'then' Pipe {'elif' Pipe 'then' Pipe} ['else' Pipe] 'end'
  pub data Branches : List Token → Tree → Type 0 where
    no_else : {xs ys : List Token} {a b : Tree} → Pipe xs a → Pipe ys b
        → Branches (xs ++ keyword token.Then ∷ (ys ++ keyword token.End ∷ [])) (tree.choice a b tree.identity)
    with_else : {xs ys zs : List Token} {a b c : Tree} → Pipe xs a → Pipe ys b → Pipe zs c
        → Branches (xs ++ keyword token.Then ∷ (ys ++ keyword token.Else ∷ (zs ++ keyword token.End ∷ []))) (tree.choice a b c)
    with_elif : {xs ys zs : List Token} {a b c : Tree} → Pipe xs a → Pipe ys b → Branches zs c
        → Branches (xs ++ keyword token.Then ∷ (ys ++ keyword token.Elif ∷ zs)) (tree.choice a b c)

  -- Pipe {';' Pipe}
  pub data Args : List Token → Trees → Type 0 where
    one_arg : {ts : List Token} {t : Tree} → Pipe ts t → Args ts (more_trees t no_trees)
    more_args : {xs ys : List Token} {t : Tree} {us : Trees} → Pipe xs t → Args ys us → Args (xs ++ symbol token.semicolon ∷ ys) (more_trees t us)

  -- Str := PIECE {'\(' Pipe ')' PIECE}
  pub data Str : List Token → Pieces → Type 0 where
    one_piece : {s : List ℕ} → Str (piece s ∷ []) (last_piece s)
    interpolated : {s : List ℕ} {xs ys : List Token} {t : Tree} {ps : Pieces} → Pipe xs t → Str ys ps
        → Str (piece s ∷ interpolation ∷ (xs ++ symbol token.right_parenthesis ∷ ys)) (more_pieces s t ps)

  -- Ent := VAR | Key [':' Val] | [FORMAT] Str [':' Val] | '(' Pipe ')' ':' Val
  pub data Ent : List Token → Entry → Type 0 where
    ent_variable : {n : Name} → Ent (variable n ∷ []) (tree.named n (tree.variable n))
    ent_key : {k : Token} {s : List ℕ} → Key k s → Ent (k ∷ []) (tree.named s (tree.field tree.identity s false))
    ent_key_value : {k : Token} {s : List ℕ} {ts : List Token} {t : Tree} → Key k s → Val ts t → Ent (k ∷ symbol token.colon ∷ ts) (tree.named s t)
    ent_text : {ts : List Token} {ps : Pieces} → Str ts ps → Ent ts (own_entry ps)
    ent_text_value : {xs ys : List Token} {ps : Pieces} {t : Tree} → Str xs ps → Val ys t → Ent (xs ++ symbol token.colon ∷ ys) (text_entry ps t)
    ent_formatted : {f : Name} {ts : List Token} {ps : Pieces} → Str ts ps → Ent (format f ∷ ts) (tree.own (tree.text f ps))
    ent_formatted_value : {f : Name} {xs ys : List Token} {ps : Pieces} {t : Tree} → Str xs ps → Val ys t
        → Ent (format f ∷ (xs ++ symbol token.colon ∷ ys)) (tree.computed (tree.text f ps) t)
    ent_computed : {xs ys : List Token} {a b : Tree} → Pipe xs a → Val ys b
        → Ent (symbol token.left_parenthesis ∷ (xs ++ symbol token.right_parenthesis ∷ symbol token.colon ∷ ys)) (tree.computed a b)

  pub data Ents : List Token → Entries → Type 0 where
    one_ent : {ts : List Token} {e : Entry} → Ent ts e → Ents ts (more_entries e no_entries)
    more_ents : {xs ys : List Token} {e : Entry} {es : Entries} → Ent xs e → Ents ys es → Ents (xs ++ symbol token.comma ∷ ys) (more_entries e es)

  -- Val := Alt | Alt '|' Val
  pub data Val : List Token → Tree → Type 0 where
    one_val : {ts : List Token} {t : Tree} → Level 7 ts t → Val ts t
    more_val : {xs ys : List Token} {a b : Tree} → Level 7 xs a → Val ys b → Val (xs ++ symbol token.bar ∷ ys) (tree.pipe a b)

  -- Pat := VAR | '[' Pat {',' Pat} ']' | '{' PEnt {',' PEnt} '}'
  pub data Pat : List Token → Pattern → Type 0 where
    pat_variable : {n : Name} → Pat (variable n ∷ []) (tree.whole n)
    pat_items : {ts : List Token} {ps : Patterns} → Pats ts ps → Pat (symbol token.left_bracket ∷ (ts ++ symbol token.right_bracket ∷ [])) (tree.items ps)
    pat_members : {ts : List Token} {ps : Parts} → PEnts ts ps → Pat (symbol token.left_brace ∷ (ts ++ symbol token.right_brace ∷ [])) (tree.members ps)

  pub data Pats : List Token → Patterns → Type 0 where
    one_pat : {ts : List Token} {p : Pattern} → Pat ts p → Pats ts (more_patterns p no_patterns)
    more_pats : {xs ys : List Token} {p : Pattern} {ps : Patterns} → Pat xs p → Pats ys ps → Pats (xs ++ symbol token.comma ∷ ys) (more_patterns p ps)

  -- PEnt := VAR [':' Pat] | Key ':' Pat | Str ':' Pat | '(' Pipe ')' ':' Pat
  pub data PEnt : List Token → Part → Type 0 where
    pent_variable : {n : Name} → PEnt (variable n ∷ []) (tree.keyed (name_of n) (tree.whole n))
    pent_variable_with : {n : Name} {ts : List Token} {p : Pattern} → Pat ts p → PEnt (variable n ∷ symbol token.colon ∷ ts) (tree.keyed_variable n p)
    pent_key : {k : Token} {s : List ℕ} {ts : List Token} {p : Pattern} → Key k s → Pat ts p → PEnt (k ∷ symbol token.colon ∷ ts) (tree.keyed (name_of s) p)
    pent_text : {xs ys : List Token} {ps : Pieces} {p : Pattern} → Str xs ps → Pat ys p → PEnt (xs ++ symbol token.colon ∷ ys) (tree.keyed (text_of ps) p)
    pent_computed : {xs ys : List Token} {a : Tree} {p : Pattern} → Pipe xs a → Pat ys p
        → PEnt (symbol token.left_parenthesis ∷ (xs ++ symbol token.right_parenthesis ∷ symbol token.colon ∷ ys)) (tree.keyed a p)

  pub data PEnts : List Token → Parts → Type 0 where
    one_pent : {ts : List Token} {p : Part} → PEnt ts p → PEnts ts (more_parts p no_parts)
    more_pents : {xs ys : List Token} {p : Part} {ps : Parts} → PEnt xs p → PEnts ys ps → PEnts (xs ++ symbol token.comma ∷ ys) (more_parts p ps)

-- Main := nothing | Def Main | Pipe; the empty filter is `.`
pub data Main : List Token → Tree → Type 0 where
  no_filter : Main [] tree.identity
  main_defined : {n : Name} {ps : List Parameter} {xs ys : List Token} {a b : Tree} → Def xs n ps a → Main ys b → Main (xs ++ ys) (definition n ps a b)
  main_pipe : {ts : List Token} {t : Tree} → Pipe ts t → Main ts t
