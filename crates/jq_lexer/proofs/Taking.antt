-- What the calls of the lexer do.
use Rattle.std.proofs.Common.{◌≡◌, ◌∙◌, ℕ, ◌+◌, ◌<◌, ◌≤◌, List, [], ◌∷◌, ◌++◌, length, take, drop, map, Bool, true, false, Option, Some, None, refl, sym, ap, subst, inl, inr, arith, length-append}
use Rattle.std.proofs.Math.Seq.{drop-append_seam}
use Rattle.std.specs.Prelude.{reverse, if◌then◌else◌, not}
use Rattle.std.specs.Option.{option_to_list}
use Rattle.std.specs.List.{prefix_len}
use Rattle.std.proofs.lemmas.Bool.Decides.{eqb_tells}
use Rattle.std.proofs.lemmas.List.{append-nil, map-append, reverse-append}
use Rattle.jq_tree.specs.Token as token
use Rattle.jq_tree.specs.Words.{every, Lexeme, Spells, Longest}
use Rattle.jq_tree.specs.Lexing as lexing
use Rattle.jq_tree.specs.Lexing.{Spot, between, within, Next, word, opens, closes, closes_in_string, closes_nothing, quote, is_space, is_not_line_feed, Reads, here, space, comment, last_comment, Missing, no_token, no_piece}
use Rattle.jq_tree.proofs.shared.Missing.{no_word, no_longest}
use Rattle.jq_tree.proofs.shared.Valueless.{no_token_there}
use Rattle.jq_lexer.specs.private.Found.{IsWordAt, NoWordAt, Stands}
use Rattle.jq_lexer.specs.private.Spots.{parenthesis_of, parentheses_of, tokens_of, spot_of, taken_by, spot_after, Takes, Keeps, AnswersLexed, TakesPiece, NoPiece, AnswersPiece, IsFirstPiece, IsWordStart}
use Rattle.jv_data.specs.Text.{text_of}
use Rattle.jq_lexer.specs.Places.{Begins, at_word, at_piece}
use Rattle.jq_lexer.specs.Views.{token_of}
use Rattle.jq_lexer.specs.declared.lexing.Parenthesis.{Parenthesis}
use Rattle.jq_lexer.specs.declared.lexing.Parenthesis.TheVariants.{Plain, InString}
use Rattle.jq_lexer.specs.declared.lexing.Lexed.{Lexed}
use Rattle.jq_lexer.specs.declared.lexing.Lexed.TheVariants as lexed
use Rattle.jq_lexer.specs.declared.lexing.Lexer.{Lexer}
use Rattle.jq_lexer.specs.declared.strings.Piece as code
use Rattle.jq_lexer.specs.declared.tokens.Symbol.TheVariants as symbol
use Rattle.jq_lexer.specs.declared.tokens.Token.{Token}
use Rattle.jq_lexer.specs.declared.tokens.Token.TheVariants as tokens
use Rattle.jq_lexer.specs.declared.words.Shape.{Shape}
use Rattle.jq_lexer.proofs.Readings.{reads_leaves, reads_one, reads_part, reads_then, not_parenthesis}
use Rattle.jq_lexer.proofs.Runs.{starts, run_of}

-- ---- the parts of a lexer

pub tokens_more : (old new : Lexer) (ts : List Token) → new.tokens.items ≡ old.tokens.items ++ ts → tokens_of new ≡ tokens_of old ++ map token_of ts
tokens_more old new ts e = ap (map token_of) e ∙ map-append token_of old.tokens.items ts

pub opened_more : (old new : Lexer) (b : Parenthesis) → new.opened.items ≡ old.opened.items ++ b ∷ [] → parentheses_of new ≡ parenthesis_of b ∷ parentheses_of old
opened_more old new b e =
    ap (λ (l : List Parenthesis). reverse (map parenthesis_of l)) e ∙ ap reverse (map-append parenthesis_of old.opened.items (b ∷ [])) ∙ reverse-append (map parenthesis_of old.opened.items) (parenthesis_of b ∷ [])

spot_between : (l : Lexer) → l.within ≡ false → spot_of l ≡ between (parentheses_of l)
spot_between l e = ap (λ (b : Bool). if b then within (parentheses_of l) else between (parentheses_of l)) e

spot_within : (l : Lexer) → l.within ≡ true → spot_of l ≡ within (parentheses_of l)
spot_within l e = ap (λ (b : Bool). if b then within (parentheses_of l) else between (parentheses_of l)) e

-- A token was taken.
takes_next : (old new : Lexer) (ts : List Token) → old.within ≡ false → new.tokens.items ≡ old.tokens.items ++ ts
    → Next (parentheses_of old) old.rest.now (map token_of ts) (spot_of new) new.rest.now → length new.rest.now < length old.rest.now → Takes old new
takes_next old new ts e f n s = record {
  taken = map token_of ts;
  tokens = tokens_more old new ts f;
  reads = subst (λ (spot : Spot). Reads spot old.rest.now (map token_of ts) (spot_of new) new.rest.now) (sym (spot_between old e)) (reads_one n);
  begins = λ _. subst (λ (spot : Spot). Begins spot old.rest.now (map token_of ts)) (sym (spot_between old e)) (at_word n);
  shorter = s;
}

after_first : (text rest : List ℕ) (c : ℕ) → text ≡ c ∷ rest → length rest < length text
after_first text rest c e = let n = ap length e in omega arith

-- ---- parentheses

pub opens_takes : (old new : Lexer) (rest : List ℕ) → old.within ≡ false → old.rest.now ≡ 40 ∷ rest → new.within ≡ old.within → new.rest.now ≡ rest
    → new.tokens.items ≡ old.tokens.items ++ tokens.Symbol symbol.LeftParenthesis ∷ [] → new.opened.items ≡ old.opened.items ++ Plain ∷ [] → Takes old new
opens_takes old new rest e f g h i j =
    let n : Next (parentheses_of old) (40 ∷ rest) (token.symbol token.left_parenthesis ∷ []) (between (lexing.plain_parenthesis ∷ parentheses_of old)) rest = opens in
    let spot : spot_of new ≡ between (lexing.plain_parenthesis ∷ parentheses_of old) = spot_between new (g ∙ e) ∙ ap between (opened_more old new Plain j) in
    let m = subst (λ (r : List ℕ). Next (parentheses_of old) (40 ∷ rest) (token.symbol token.left_parenthesis ∷ []) (spot_of new) r) (sym h)
    (subst (λ (s : Spot). Next (parentheses_of old) (40 ∷ rest) (token.symbol token.left_parenthesis ∷ []) s rest) (sym spot) n) in
    takes_next old new (tokens.Symbol symbol.LeftParenthesis ∷ []) e i
    (subst (λ (x : List ℕ). Next (parentheses_of old) x (token.symbol token.left_parenthesis ∷ []) (spot_of new) new.rest.now) (sym f) m)
    (after_first old.rest.now new.rest.now 40 (f ∙ ap (λ (r : List ℕ). 40 ∷ r) (sym h)))

-- The parenthesis that was opened last is closed.
abbrev pub is_in_string : Option Parenthesis → Bool
is_in_string None = false
is_in_string (Some Plain) = false
is_in_string (Some InString) = true

close_next : (opened left : List Parenthesis) (o : Option Parenthesis) (rest : List ℕ) → opened ≡ left ++ option_to_list o → (o ≡ None → length opened ≡ 0)
    → Next (reverse (map parenthesis_of opened)) (41 ∷ rest) (token.symbol token.right_parenthesis ∷ [])
    (if is_in_string o then within (reverse (map parenthesis_of left)) else between (reverse (map parenthesis_of left))) rest
close_next opened left (Some Plain) rest e k =
    let b : reverse (map parenthesis_of opened) ≡ lexing.plain_parenthesis ∷ reverse (map parenthesis_of left) =
    ap (λ (l : List Parenthesis). reverse (map parenthesis_of l)) e ∙ ap reverse (map-append parenthesis_of left (Plain ∷ [])) ∙ reverse-append (map parenthesis_of left) (lexing.plain_parenthesis ∷ []) in
    subst (λ (l : List lexing.Parenthesis). Next l (41 ∷ rest) (token.symbol token.right_parenthesis ∷ []) (between (reverse (map parenthesis_of left))) rest) (sym b) closes
close_next opened left (Some InString) rest e k =
    let b : reverse (map parenthesis_of opened) ≡ lexing.in_string ∷ reverse (map parenthesis_of left) =
    ap (λ (l : List Parenthesis). reverse (map parenthesis_of l)) e ∙ ap reverse (map-append parenthesis_of left (InString ∷ [])) ∙ reverse-append (map parenthesis_of left) (lexing.in_string ∷ []) in
    subst (λ (l : List lexing.Parenthesis). Next l (41 ∷ rest) (token.symbol token.right_parenthesis ∷ []) (within (reverse (map parenthesis_of left))) rest) (sym b) closes_in_string
close_next [] [] None rest e k = closes_nothing
close_next [] (b ∷ bs) None rest e k = absurd (cc e)
close_next (b ∷ bs) left None rest e k = let n = k refl in absurd (omega arith)

pub closes_takes : (old new : Lexer) (o : Option Parenthesis) (rest : List ℕ) → old.within ≡ false → old.rest.now ≡ 41 ∷ rest → new.rest.now ≡ rest
    → new.tokens.items ≡ old.tokens.items ++ tokens.Symbol symbol.RightParenthesis ∷ [] → old.opened.items ≡ new.opened.items ++ option_to_list o → (o ≡ None → length old.opened.items ≡ 0)
    → new.within ≡ is_in_string o → Takes old new
closes_takes old new o rest e f h i j k l =
    let n = close_next old.opened.items new.opened.items o rest j k in
    let spot : spot_of new ≡ (if is_in_string o then within (parentheses_of new) else between (parentheses_of new)) = ap (λ (b : Bool). if b then within (parentheses_of new) else between (parentheses_of new)) l in
    let m = subst (λ (r : List ℕ). Next (parentheses_of old) (41 ∷ rest) (token.symbol token.right_parenthesis ∷ []) (spot_of new) r) (sym h)
    (subst (λ (s : Spot). Next (parentheses_of old) (41 ∷ rest) (token.symbol token.right_parenthesis ∷ []) s rest) (sym spot) n) in
    takes_next old new (tokens.Symbol symbol.RightParenthesis ∷ []) e i
    (subst (λ (x : List ℕ). Next (parentheses_of old) x (token.symbol token.right_parenthesis ∷ []) (spot_of new) new.rest.now) (sym f) m)
    (after_first old.rest.now new.rest.now 41 (f ∙ ap (λ (r : List ℕ). 41 ∷ r) (sym h)))

-- ---- words

word_some : (text : List ℕ) (n : ℕ) → Longest text (take n text) (drop n text) → n ≡ 0 → ⊥
word_some text n l e = no_word (subst Lexeme (ap (λ (k : ℕ). take k text) e) l.is_word)

pub word_takes : (old new : Lexer) (n : ℕ) (s : Shape) (x : Token) → old.within ≡ false → IsWordStart old.rest.now → IsWordAt old.rest.now s n → Spells (take n old.rest.now) (token_of x)
    → new.within ≡ old.within → new.rest.now ≡ drop n old.rest.now → new.tokens.items ≡ old.tokens.items ++ x ∷ [] → new.opened.items ≡ old.opened.items → Takes old new
word_takes old new n s x e start at spelt g h i j =
    let text = old.rest.now in
    let parenthesis = not_parenthesis start.first start.following (drop n text) (sym start.whole ∙ at.longest.front) spelt start.no_open start.no_close in
    let m : Next (parentheses_of old) text (token_of x ∷ []) (between (parentheses_of old)) (drop n text) = word (take n text) at.longest spelt parenthesis in
    let spot : spot_of new ≡ between (parentheses_of old) = spot_between new (g ∙ e) ∙ ap (λ (l : List Parenthesis). between (reverse (map parenthesis_of l))) j in
    let some = word_some text n at.longest in
    let size = ap length at.longest.front ∙ length-append (take n text) (drop n text) in
    takes_next old new (x ∷ []) e i
    (subst (λ (r : List ℕ). Next (parentheses_of old) text (token_of x ∷ []) (spot_of new) r) (sym h)
    (subst (λ (p : Spot). Next (parentheses_of old) text (token_of x ∷ []) p (drop n text)) (sym spot) m))
    (subst (λ (r : List ℕ). length r < length text) (sym h) (front_some (take n text) (drop n text) size (λ k. no_word (subst Lexeme k at.longest.is_word))))
  where
    front_some : (front rest : List ℕ) {m : ℕ} → m ≡ length front + length rest → (front ≡ [] → ⊥) → length rest < m
    front_some [] rest e k = absurd (k refl)
    front_some (c ∷ cs) rest e k = omega arith

missing_at : (opened : List lexing.Parenthesis) (text : List ℕ) → IsWordStart text
    → ((c : ℕ) (rest : List ℕ) → text ≡ c ∷ rest → (c ≡ 34 → ⊥) → (c ≡ 40 → ⊥) → (c ≡ 41 → ⊥) → (ts : List token.Token) (spot : Spot) (left : List ℕ) → ¬ Next opened (c ∷ rest) ts spot left)
    → Missing (between opened) text
missing_at opened text s k = subst (Missing (between opened)) (sym s.whole)
    (no_token s.no_space s.no_comment (k s.first s.following s.whole s.no_quote s.no_open s.no_close))

no_word_next : (opened : List lexing.Parenthesis) (c : ℕ) (text : List ℕ) → NoWordAt (c ∷ text) → (c ≡ 34 → ⊥) → (c ≡ 40 → ⊥) → (c ≡ 41 → ⊥)
    → (ts : List token.Token) (spot : Spot) (left : List ℕ) → ¬ Next opened (c ∷ text) ts spot left
no_word_next opened c text none q o r ts spot left (word w h s n) = none w left h.front h.is_word
no_word_next opened c text none q o r ts spot left opens = o refl
no_word_next opened c text none q o r ts spot left closes = r refl
no_word_next opened c text none q o r ts spot left closes_in_string = r refl
no_word_next opened c text none q o r ts spot left closes_nothing = r refl
no_word_next opened c text none q o r ts spot left (quote p) = q refl

pub no_word_missing : (l : Lexer) → l.within ≡ false → IsWordStart l.rest.now → NoWordAt l.rest.now → Missing (spot_of l) l.rest.now
no_word_missing l e s none = subst (λ (p : Spot). Missing p l.rest.now) (sym (spot_between l e))
    (missing_at (parentheses_of l) l.rest.now s (λ c rest f q o r. no_word_next (parentheses_of l) c rest (subst NoWordAt f none) q o r))

pub no_token_missing : (l : Lexer) (n : ℕ) (s : Shape) → l.within ≡ false → IsWordStart l.rest.now → IsWordAt l.rest.now s n → ((x : token.Token) → ¬ Spells (take n l.rest.now) x)
    → Missing (spot_of l) l.rest.now
no_token_missing l n s e start at none = subst (λ (p : Spot). Missing p l.rest.now) (sym (spot_between l e))
    (missing_at (parentheses_of l) l.rest.now start
    (λ c rest f q o r. no_token_there (parentheses_of l) c rest (take n l.rest.now) (drop n l.rest.now)
    (subst (λ (x : List ℕ). Longest x (take n l.rest.now) (drop n l.rest.now)) f at.longest) none q o r))

-- ---- pieces

pub piece_ended : (text : List ℕ) (old new : Lexer) (p : code.Piece) → IsFirstPiece text (Some p) → p.interpolated ≡ false → new.within ≡ false → new.rest.now ≡ p.rest.now
    → new.tokens.items ≡ old.tokens.items ++ tokens.Piece p.content ∷ [] → new.opened.items ≡ old.opened.items → TakesPiece text old new
piece_ended text old new p f b e h i j =
    let opened = parentheses_of old in
    let d : lexing.Piece opened text (token.piece (text_of p.content) ∷ []) (between opened) p.rest.now =
    subst (λ (x : Bool). lexing.Piece opened text (taken_by (text_of p.content) x) (spot_after opened x) p.rest.now) b (f.0 opened) in
    let spot : spot_of new ≡ between opened = spot_between new e ∙ ap (λ (l : List Parenthesis). between (reverse (map parenthesis_of l))) j in
    record {
      taken = token.piece (text_of p.content) ∷ [];
      tokens = tokens_more old new (tokens.Piece p.content ∷ []) i;
      piece = subst (λ (r : List ℕ). lexing.Piece opened text (token.piece (text_of p.content) ∷ []) (spot_of new) r) (sym h)
          (subst (λ (s : Spot). lexing.Piece opened text (token.piece (text_of p.content) ∷ []) s p.rest.now) (sym spot) d);
      shorter = subst (λ (r : List ℕ). length r < length text) (sym h) (f.1);
    }

pub piece_interpolated : (text : List ℕ) (old new : Lexer) (p : code.Piece) → IsFirstPiece text (Some p) → p.interpolated ≡ true → new.within ≡ false → new.rest.now ≡ p.rest.now
    → new.tokens.items ≡ old.tokens.items ++ tokens.Piece p.content ∷ tokens.Interpolation ∷ [] → new.opened.items ≡ old.opened.items ++ InString ∷ [] → TakesPiece text old new
piece_interpolated text old new p f b e h i j =
    let opened = parentheses_of old in
    let d : lexing.Piece opened text (token.piece (text_of p.content) ∷ token.interpolation ∷ []) (between (lexing.in_string ∷ opened)) p.rest.now =
    subst (λ (x : Bool). lexing.Piece opened text (taken_by (text_of p.content) x) (spot_after opened x) p.rest.now) b (f.0 opened) in
    let spot : spot_of new ≡ between (lexing.in_string ∷ opened) = spot_between new e ∙ ap between (opened_more old new InString j) in
    record {
      taken = token.piece (text_of p.content) ∷ token.interpolation ∷ [];
      tokens = tokens_more old new (tokens.Piece p.content ∷ tokens.Interpolation ∷ []) i;
      piece = subst (λ (r : List ℕ). lexing.Piece opened text (token.piece (text_of p.content) ∷ token.interpolation ∷ []) (spot_of new) r) (sym h)
          (subst (λ (s : Spot). lexing.Piece opened text (token.piece (text_of p.content) ∷ token.interpolation ∷ []) s p.rest.now) (sym spot) d);
      shorter = subst (λ (r : List ℕ). length r < length text) (sym h) (f.1);
    }

-- After the `)` of an interpolation.
pub part_answers : (old new : Lexer) (s : Lexed) → old.within ≡ true → AnswersPiece old.rest.now old s new → AnswersLexed old s new
part_answers old new lexed.Taken e d = record {
  taken = d.taken;
  tokens = d.tokens;
  reads = subst (λ (p : Spot). Reads p old.rest.now d.taken (spot_of new) new.rest.now) (sym (spot_within old e)) (reads_part d.piece);
  begins = λ _. subst (λ (p : Spot). Begins p old.rest.now d.taken) (sym (spot_within old e)) (at_piece d.piece);
  shorter = d.shorter;
}
part_answers old new lexed.Missing e d = (d.0, subst (λ (p : Spot). Missing p old.rest.now) (sym (spot_within old e)) (no_piece (d.1)))
part_answers old new lexed.Done e d = absurd d

no_quote_next : (opened : List lexing.Parenthesis) (text : List ℕ) → NoPiece opened text → (ts : List token.Token) (spot : Spot) (left : List ℕ) → ¬ Next opened (34 ∷ text) ts spot left
no_quote_next opened text none ts spot left (word w h s n) = no_longest 34 text w left refl h
no_quote_next opened text none ts spot left (quote p) = none ts spot left p

quote_reads : (opened : List lexing.Parenthesis) (text whole rest : List ℕ) (ts : List token.Token) (spot : Spot) → whole ≡ 34 ∷ text → lexing.Piece opened text ts spot rest
    → Reads (between opened) whole ts spot rest
quote_reads opened text whole rest ts spot e p = subst (λ (x : List ℕ). Reads (between opened) x ts spot rest) (sym e) (reads_one (quote p))

quote_missing : (opened : List lexing.Parenthesis) (text whole : List ℕ) → whole ≡ 34 ∷ text → NoPiece opened text → Missing (between opened) whole
quote_missing opened text whole e k = subst (Missing (between opened)) (sym e) (no_token refl (λ h. cc h) (no_quote_next opened text k))

after_quote : (rest text whole : List ℕ) → whole ≡ 34 ∷ text → length rest < length text → length rest < length whole
after_quote rest text whole e h = let n = ap length e in omega arith

quote_takes : (old new : Lexer) (text : List ℕ) → old.within ≡ false → old.rest.now ≡ 34 ∷ text → TakesPiece text old new → Takes old new
quote_takes old new text e f d = record {
  taken = d.taken;
  tokens = d.tokens;
  reads = subst (λ (p : Spot). Reads p old.rest.now d.taken (spot_of new) new.rest.now) (sym (spot_between old e)) (quote_reads (parentheses_of old) text old.rest.now new.rest.now d.taken (spot_of new) f d.piece);
  begins = λ _. subst (λ (p : Spot). Begins p old.rest.now d.taken) (sym (spot_between old e))
      (subst (λ (x : List ℕ). Begins (between (parentheses_of old)) x d.taken) (sym f) (at_word (quote d.piece)));
  shorter = after_quote new.rest.now text old.rest.now f d.shorter;
}

pub quote_answers : (old new : Lexer) (s : Lexed) (text : List ℕ) → old.within ≡ false → old.rest.now ≡ 34 ∷ text → AnswersPiece text old s new → AnswersLexed old s new
quote_answers old new lexed.Taken text e f d = quote_takes old new text e f d
quote_answers old new lexed.Missing text e f d =
    (d.0, subst (λ (p : Spot). Missing p old.rest.now) (sym (spot_between old e)) (quote_missing (parentheses_of old) text old.rest.now f (d.1)))
quote_answers old new lexed.Done text e f d = absurd d

-- ---- white space and comments

passes : (old new : Lexer) → tokens_of new ≡ tokens_of old → spot_of new ≡ spot_of old → Reads (spot_of old) old.rest.now [] (spot_of old) new.rest.now
    → length new.rest.now < length old.rest.now → Takes old new
passes old new e f d s = record {
  taken = [];
  tokens = e ∙ sym (append-nil (tokens_of old));
  reads = subst (λ (p : Spot). Reads (spot_of old) old.rest.now [] p new.rest.now) (sym f) d;
  begins = λ k. absurd (k refl);
  shorter = s;
}

at_spot : (l : Lexer) (text rest : List ℕ) → l.within ≡ false → Reads (between (parentheses_of l)) text [] (between (parentheses_of l)) rest → Reads (spot_of l) text [] (spot_of l) rest
at_spot l text rest e d = subst (λ (p : Spot). Reads p text [] p rest) (sym (spot_between l e)) d

pub space_takes : (old new : Lexer) (c : ℕ) → old.within ≡ false → is_space c ≡ true → old.rest.now ≡ c ∷ new.rest.now → tokens_of new ≡ tokens_of old → spot_of new ≡ spot_of old → Takes old new
space_takes old new c e s f g h =
    let d : Reads (between (parentheses_of old)) (c ∷ new.rest.now) [] (between (parentheses_of old)) new.rest.now = space s here in
    passes old new g h (at_spot old old.rest.now new.rest.now e (subst (λ (x : List ℕ). Reads (between (parentheses_of old)) x [] (between (parentheses_of old)) new.rest.now) (sym f) d))
    (after_first old.rest.now new.rest.now c f)

line_feed : (c : ℕ) → is_not_line_feed c ≡ false → c ≡ 10
line_feed c h = elim (eqb_tells c 10) [
  | inl p ↦ p.1
  | inr p ↦ let k : true ≡ false = sym (ap not (p.0)) ∙ h in absurd (cc k)
]

comment_read : (opened : List lexing.Parenthesis) (text front rest : List ℕ) → text ≡ front ++ rest → every is_not_line_feed front ≡ true → starts is_not_line_feed rest ≡ false
    → Reads (between opened) (35 ∷ text) [] (between opened) rest
comment_read opened text front [] e h s =
    let d : Reads (between opened) (35 ∷ front) [] (between opened) [] = last_comment front h in
    subst (λ (x : List ℕ). Reads (between opened) (35 ∷ x) [] (between opened) []) (sym (e ∙ append-nil front)) d
comment_read opened text front (c ∷ rest) e h s =
    let f : c ≡ 10 = line_feed c s in
    subst (λ (x : ℕ). Reads (between opened) (35 ∷ text) [] (between opened) (x ∷ rest)) (sym f) (comment front rest (e ∙ ap (λ (x : ℕ). front ++ x ∷ rest) f) h here)

pub comment_takes : (old new : Lexer) (text : List ℕ) (n : ℕ) → old.within ≡ false → old.rest.now ≡ 35 ∷ text → n ≡ prefix_len is_not_line_feed text → new.rest.now ≡ drop n text
    → tokens_of new ≡ tokens_of old → spot_of new ≡ spot_of old → Takes old new
comment_takes old new text n e f s r g h =
    let run = run_of is_not_line_feed text in
    let same : new.rest.now ≡ run.rest = r ∙ ap (λ (k : ℕ). drop k text) (s ∙ run.size) ∙ ap (drop (length run.front)) run.whole ∙ drop-append_seam run.front run.rest in
    let d = comment_read (parentheses_of old) text run.front run.rest run.whole run.each run.stops in
    let k : Reads (between (parentheses_of old)) old.rest.now [] (between (parentheses_of old)) new.rest.now =
    subst (λ (x : List ℕ). Reads (between (parentheses_of old)) x [] (between (parentheses_of old)) new.rest.now) (sym f)
    (subst (λ (x : List ℕ). Reads (between (parentheses_of old)) (35 ∷ text) [] (between (parentheses_of old)) x) (sym same) d) in
    let size = ap length run.whole ∙ length-append run.front run.rest in
    let a = ap length same in
    let b = ap length f in
    passes old new g h (at_spot old old.rest.now new.rest.now e k) (omega arith)

-- ---- answers

pub answers_taken : (old new : Lexer) (s : Lexed) → s ≡ lexed.Taken → Takes old new → AnswersLexed old s new
answers_taken old new s e d = subst (λ (x : Lexed). AnswersLexed old x new) (sym e) d

pub keeps_same : (l : Lexer) → Keeps l l
keeps_same l = record { tokens = refl; spot = refl; rest = refl }

-- ---- the whole text

pub lex_start : (text : List ℕ) (l : Lexer) → tokens_of l ≡ [] → spot_of l ≡ between [] → l.rest.now ≡ text → Reads (between []) text (tokens_of l) (spot_of l) l.rest.now
lex_start text l e f g =
    let d : Reads (between []) text [] (between []) text = here in
    subst (λ (ts : List token.Token). Reads (between []) text ts (spot_of l) l.rest.now) (sym e)
    (subst (λ (p : Spot). Reads (between []) text [] p l.rest.now) (sym f) (subst (λ (r : List ℕ). Reads (between []) text [] (between []) r) (sym g) d))

pub lex_more : (text : List ℕ) (old new : Lexer) (s : Lexed) → s ≡ lexed.Taken → Reads (between []) text (tokens_of old) (spot_of old) old.rest.now → AnswersLexed old s new
    → Reads (between []) text (tokens_of new) (spot_of new) new.rest.now
lex_more text old new s e d h =
    let t : Takes old new = subst (λ (x : Lexed). AnswersLexed old x new) e h in
    subst (λ (ts : List token.Token). Reads (between []) text ts (spot_of new) new.rest.now) (sym t.tokens) (reads_then d t.reads)

pub lex_missing : (old new : Lexer) (s : Lexed) → s ≡ lexed.Missing → AnswersLexed old s new → Keeps old new × Missing (spot_of old) old.rest.now
lex_missing old new s e h = subst (λ (x : Lexed). AnswersLexed old x new) e h

pub lex_done : (text : List ℕ) (old new : Lexer) (s : Lexed) → s ≡ lexed.Done → Reads (between []) text (tokens_of old) (spot_of old) old.rest.now → AnswersLexed old s new → lexing.Lexes text (tokens_of new)
lex_done text old new s e d h =
    let k : Keeps old new × (old.within ≡ false) × (old.rest.now ≡ []) = subst (λ (x : Lexed). AnswersLexed old x new) e h in
    let r : Reads (between []) text (tokens_of old) (between (parentheses_of old)) [] =
    subst (λ (l : List ℕ). Reads (between []) text (tokens_of old) (between (parentheses_of old)) l) (k.2)
    (subst (λ (p : Spot). Reads (between []) text (tokens_of old) p old.rest.now) (spot_between old (k.1)) d) in
    (parentheses_of old, subst (λ (ts : List token.Token). Reads (between []) text ts (between (parentheses_of old)) []) (sym (k.0.tokens)) r)

pub left_within : (text : List ℕ) (l : Lexer) → Reads (between []) text (tokens_of l) (spot_of l) l.rest.now → length l.rest.now ≤ length text
left_within text l d = let f = reads_leaves d in let n = ap length (f.1) in let m = length-append (f.0) l.rest.now in by_length (length (f.0)) (n ∙ m)
  where
    by_length : (k : ℕ) → length text ≡ k + length l.rest.now → length l.rest.now ≤ length text
    by_length k e = omega arith

-- ---- the token of a word

pub stands_none : (w v : List ℕ) (o : Option Token) → w ≡ v → o ≡ None → Stands w o → (x : token.Token) → ¬ Spells v x
stands_none w v o e f h =
    let k : Stands v None = subst (λ (u : List ℕ). Stands u None) e (subst (Stands w) f h) in k

pub stands_some : (w v : List ℕ) (o : Option Token) (x : Token) → w ≡ v → o ≡ Some x → Stands w o → Spells v (token_of x)
stands_some w v o x e f h =
    let k : Stands v (Some x) = subst (λ (u : List ℕ). Stands u (Some x)) e (subst (Stands w) f h) in k
