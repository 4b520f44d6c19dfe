-- The first token of each phrase.
use Rattle.std.proofs.Common.{◌≡◌, ℕ, ◌≤◌, List, ◌∷◌, ◌++◌, false, Some, refl, append_assoc, arith}
use Rattle.jq_tree.specs.Tree.{Name, Tree, Pieces, Entry, Entries}
use Rattle.jq_tree.specs.Token.{Token, keyword, piece, symbol}
use Rattle.jq_tree.specs.Token as token
use Rattle.jq_tree.specs.WrittenOut.{Parameter}
use Rattle.jq_tree.specs.Grammar.{Suffix, Key, key_name, key_word}
use Rattle.jq_tree.specs.Grammar as g
use Rattle.jq_parser.specs.laws.Combinators.{first, is_symbol}
use Rattle.jq_parser.proofs.Follow.{follow, kind}

pub Str-kind : {ts : List Token} {ps : Pieces} → g.Str ts ps → (rest : List Token) → 3 ≤ kind (ts ++ rest)
unfolding kind
Str-kind g.one_piece rest = omega arith
Str-kind (g.interpolated d e) rest = omega arith

pub Term-kind : {ts : List Token} {t : Tree} → g.Term ts t → (rest : List Token) → 3 ≤ kind (ts ++ rest)
unfolding kind
Term-kind g.dot rest = omega arith
Term-kind g.two_dots rest = omega arith
Term-kind g.a_number rest = omega arith
Term-kind (g.a_text d) rest = Str-kind d rest
Term-kind g.a_format rest = omega arith
Term-kind (g.a_formatted d) rest = omega arith
Term-kind g.a_variable rest = omega arith
Term-kind g.a_break rest = omega arith
Term-kind (g.a_literal e) rest = omega arith
Term-kind (g.brackets d) rest = omega arith
Term-kind g.no_items rest = omega arith
Term-kind (g.items d) rest = omega arith
Term-kind g.no_members rest = omega arith
Term-kind (g.members d) rest = omega arith
Term-kind (g.a_reduce d p e f) rest = omega arith
Term-kind (g.a_foreach d p e f) rest = omega arith
Term-kind (g.foreach_with d p e f u) rest = omega arith
Term-kind (g.a_choice d) rest = omega arith
Term-kind (g.plain_call e) rest = omega arith
Term-kind (g.call_with d) rest = omega arith

mutual
  unfolding kind

  pub Post-kind : {ts : List Token} {t : Tree} → g.Post ts t → (rest : List Token) → 3 ≤ kind (ts ++ rest)
  Post-kind (g.ends_with_step d) rest = Stepped-kind d rest
  Post-kind (g.ends_otherwise d) rest = Closed-kind d rest

  pub Stepped-kind : {ts : List Token} {t : Tree} → g.Stepped ts t → (rest : List Token) → 3 ≤ kind (ts ++ rest)
  Stepped-kind g.field_of_input rest = omega arith
  Stepped-kind (g.text_of_input d) rest = omega arith
  Stepped-kind (g.step_of {ys = ys} d e) rest = rw append_assoc (Post-kind d (ys ++ rest))

  pub Closed-kind : {ts : List Token} {t : Tree} → g.Closed ts t → (rest : List Token) → 3 ≤ kind (ts ++ rest)
  Closed-kind (g.term d) rest = Term-kind d rest
  Closed-kind (g.step_guarded d) rest = rw append_assoc (Stepped-kind d (symbol token.question ∷ rest))
  Closed-kind (g.attempted d) rest = rw append_assoc (Closed-kind d (symbol token.question ∷ rest))

pub Una-kind : {ts : List Token} {t : Tree} → g.Una ts t → (rest : List Token) → 2 ≤ kind (ts ++ rest)
unfolding kind
Una-kind (g.minus d) rest = omega arith
Una-kind (g.try_only d) rest = omega arith
Una-kind (g.try_catch d e) rest = omega arith
Una-kind (g.post d) rest = omega (arith, Post-kind d rest)

pub Level-kind : {l : ℕ} {ts : List Token} {t : Tree} → g.Level l ts t → (rest : List Token) → 2 ≤ kind (ts ++ rest)
Level-kind (g.operand d) rest = Una-kind d rest
Level-kind (g.tighter d) rest = Level-kind d rest
Level-kind (g.to_left o {ys = ys} h s d e) rest = rw append_assoc (Level-kind d (o ∷ (ys ++ rest)))
Level-kind (g.to_right o {ys = ys} h s d e) rest = rw append_assoc (Level-kind d (o ∷ (ys ++ rest)))
Level-kind (g.alone o {ys = ys} h s d e) rest = rw append_assoc (Level-kind d (o ∷ (ys ++ rest)))

pub Commas-kind : {ts : List Token} {t : Tree} → g.Commas ts t → (rest : List Token) → 2 ≤ kind (ts ++ rest)
Commas-kind (g.one d) rest = Level-kind d rest
Commas-kind (g.more {ys = ys} d e) rest = rw append_assoc (Commas-kind d (symbol token.comma ∷ (ys ++ rest)))

pub Def-first : {ts : List Token} {n : Name} {ps : List Parameter} {t : Tree} → g.Def ts n ps t → (rest : List Token) → first (ts ++ rest) ≡ Some (keyword token.Def)
Def-first (g.plain_def d) rest = refl
Def-first (g.def_with p d) rest = refl

pub Def-kind : {ts : List Token} {n : Name} {ps : List Parameter} {t : Tree} → g.Def ts n ps t → (rest : List Token) → 1 ≤ kind (ts ++ rest)
unfolding kind
Def-kind (g.plain_def d) rest = omega arith
Def-kind (g.def_with p d) rest = omega arith

pub Opened-kind : {ts : List Token} {t : Tree} → g.Opened ts t → (rest : List Token) → 1 ≤ kind (ts ++ rest)
unfolding kind
Opened-kind (g.defined {ys = ys} d e) rest = rw append_assoc (Def-kind d (ys ++ rest))
Opened-kind (g.bound {ps = ps} {ys = ys} d p e) rest = rw append_assoc (omega (arith, Post-kind d (keyword token.As ∷ ((ps ++ symbol token.bar ∷ ys) ++ rest))))
Opened-kind (g.labelled d) rest = omega arith

pub Pipe-kind : {ts : List Token} {t : Tree} → g.Pipe ts t → (rest : List Token) → 1 ≤ kind (ts ++ rest)
Pipe-kind (g.opened d) rest = Opened-kind d rest
Pipe-kind (g.listed d) rest = omega (arith, Commas-kind d rest)
Pipe-kind (g.piped {ys = ys} d e) rest = rw append_assoc (omega (arith, Commas-kind d (symbol token.bar ∷ (ys ++ rest))))
Pipe-kind (g.last_open {ys = ys} d e) rest = rw append_assoc (omega (arith, Commas-kind d (symbol token.comma ∷ (ys ++ rest))))

-- ---- first tokens

pub Str-first : {ts : List Token} {ps : Pieces} → g.Str ts ps → (rest : List Token) → (s : List ℕ) × (first (ts ++ rest) ≡ Some (piece s))
Str-first (g.one_piece {s = s}) rest = (s, refl)
Str-first (g.interpolated {s = s} d e) rest = (s, refl)

pub Br-first : {ts : List Token} {s : Suffix} → g.Br ts s → (rest : List Token) → first (ts ++ rest) ≡ Some (symbol token.left_bracket)
Br-first g.br_all rest = refl
Br-first (g.br_part d) rest = refl
Br-first (g.br_slice d e) rest = refl
Br-first (g.br_from d) rest = refl
Br-first (g.br_to d) rest = refl

pub Br-follow : {ts : List Token} {s : Suffix} → g.Br ts s → (rest : List Token) → 1 ≤ follow (ts ++ rest)
unfolding follow
Br-follow g.br_all rest = omega arith
Br-follow (g.br_part d) rest = omega arith
Br-follow (g.br_slice d e) rest = omega arith
Br-follow (g.br_from d) rest = omega arith
Br-follow (g.br_to d) rest = omega arith

pub Suf-follow : {ts : List Token} {s : Suffix} → g.Suf ts s → (rest : List Token) → 1 ≤ follow (ts ++ rest)
unfolding follow
Suf-follow g.suf_field rest = omega arith
Suf-follow (g.suf_text d) rest = omega arith
Suf-follow (g.suf_bracket d) rest = Br-follow d rest
Suf-follow (g.suf_dot_bracket d) rest = omega arith

Key-open : {k : Token} {s : List ℕ} → Key k s → (rest : List Token) → is_symbol token.right_brace (first (k ∷ rest)) ≡ false
Key-open key_name rest = refl
Key-open (key_word k) rest = refl

Str-open : {ts : List Token} {ps : Pieces} → g.Str ts ps → (rest : List Token) → is_symbol token.right_brace (first (ts ++ rest)) ≡ false
Str-open g.one_piece rest = refl
Str-open (g.interpolated d e) rest = refl

Ent-open : {ts : List Token} {e : Entry} → g.Ent ts e → (rest : List Token) → is_symbol token.right_brace (first (ts ++ rest)) ≡ false
Ent-open g.ent_variable rest = refl
Ent-open (g.ent_key k) rest = Key-open k rest
Ent-open (g.ent_key_value {ts = ts} k d) rest = Key-open k (symbol token.colon ∷ (ts ++ rest))
Ent-open (g.ent_text d) rest = Str-open d rest
Ent-open (g.ent_text_value {ys = ys} d e) rest = rw append_assoc (Str-open d (symbol token.colon ∷ (ys ++ rest)))
Ent-open (g.ent_formatted d) rest = refl
Ent-open (g.ent_formatted_value d e) rest = refl
Ent-open (g.ent_computed d e) rest = refl

-- The entries of an object do not begin with its end.
pub Ents-open : {ts : List Token} {es : Entries} → g.Ents ts es → (rest : List Token) → is_symbol token.right_brace (first (ts ++ rest)) ≡ false
Ents-open (g.one_ent d) rest = Ent-open d rest
Ents-open (g.more_ents {ys = ys} d e) rest = rw append_assoc (Ent-open d (symbol token.comma ∷ (ys ++ rest)))
