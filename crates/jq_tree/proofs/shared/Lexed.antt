-- The computed tokens are the tokens of the text.
use Rattle.std.proofs.Common.{◌≡◌, ℕ, zero, suc, ◌+◌, ◌*◌, ◌^◌, List, [], ◌∷◌, ◌++◌, Bool, true, false, ◌&&◌, ◌||◌, not, nat_eq, nat_lt, Option, Some, None, cond, refl, sym, ap, ◌∙◌, subst, take, drop, ◌⊎◌, inl, inr}
use Rattle.std.specs.Prelude.{bytes_eq}
use Rattle.std.proofs.lemmas.List.{take-append-drop, append-nil, append_assoc}
use Rattle.std.proofs.lemmas.Option.{same_Some}
use Rattle.std.proofs.lemmas.Slice.Eq.{bytes_eq-Decides}
use Rattle.std.proofs.lemmas.Bool.{eqb-true, ltb-true, not-true, and_from}
use Rattle.std.specs.Str.Parse.{digits_value}
use Rattle.jq_tree.specs.Tree.{Name}
use Rattle.jq_tree.specs.Token.{Keyword, keyword_text, Symbol, symbol_text, Token, keyword, name, field, variable, format, number, piece, interpolation, symbol}
use Rattle.jq_tree.specs.Token as token
use Rattle.jq_tree.specs.Words.{is_name, is_digits, is_format_name, keywords, is_keyword, Numeral, whole_alone, no_exponent, IsNumeral, Lexeme, name_form, field_form, variable_form, format_form, number_form, symbol_form, Spells, spells_keyword, spells_name, spells_field, spells_variable, spells_format, spells_number, spells_symbol, Longest}
use Rattle.jq_tree.specs.Lexing.{escaped, Content, no_content, plain, escape, Parenthesis, plain_parenthesis, in_string, Spot, between, within, ended, interpolated, IsParenthesis, word, opens, closes, closes_in_string, closes_nothing, quote, is_space, is_not_line_feed, Reads, here, space, comment, token, part}
use Rattle.jq_tree.specs.Words.{every}
use Rattle.jq_tree.specs.laws.Lexed.{may_begin, ends_before, keyword_in, symbol_in, symbols, or_else, signed, spelled, Piece, with_character, with_escaped, piece_at, Taken, taken, word_taken, word_in, take_word, take_piece, take_closing, take_comment, step, before, lexed_from, lexed, lexing, LexedAreTheTokens, word_length, is_parenthesis}
use Rattle.jq_tree.proofs.shared.Fronts.{and_left, and_right, longest_at_end, longest_before}
use Rattle.jq_tree.proofs.shared.Tags.{keyword_is_name}

-- ---- choices

-- The value of a choice, by its test.
chosen : {A : Type 0} (b : Bool) (x y : A) {z : A} → cond b x y ≡ z → ((b ≡ true) × (x ≡ z)) ⊎ ((b ≡ false) × (y ≡ z))
chosen true x y e = inl (refl, e)
chosen false x y e = inr (refl, e)

either : (a b : Option Token) (P : Token → Type 0) → ((t : Token) → a ≡ Some t → P t) → ((t : Token) → b ≡ Some t → P t) → (t : Token) → or_else a b ≡ Some t → P t
unfolding lexing
either (Some u) b P f g t e = f t e
either None b P f g t e = g t e

-- ---- the token of a word

record IsWord (w : List ℕ) (t : Token) : Type 0 where
  form : Lexeme w
  spells : Spells w t
  no_parenthesis : ¬ IsParenthesis t

keyword_found : (ks : List Keyword) (w : List ℕ) (t : Token) → keyword_in ks w ≡ Some t → IsWord w t
unfolding lexing
keyword_found [] w t e = absurd (cc e)
keyword_found (k ∷ ks) w t e = elim (chosen (bytes_eq w (keyword_text k)) (Some (keyword k)) (keyword_in ks w) e) [
  | inl h ↦ let f : w ≡ keyword_text k = (bytes_eq-Decides w (keyword_text k)).0 h.0 in
      subst (IsWord w) (same_Some _ _ h.1) (record { form = name_form (ap is_name f ∙ keyword_is_name k); spells = spells_keyword k f; no_parenthesis = λ r. elim r [ inl x ↦ cc x | inr x ↦ cc x ] })
  | inr h ↦ keyword_found ks w t h.1
]

not_parenthesis : (y : Symbol) → is_parenthesis y ≡ false → ¬ IsParenthesis (symbol y)
not_parenthesis y e (inl x) = let f : y ≡ token.left_parenthesis = cc in let g : true ≡ false = sym (ap is_parenthesis f) ∙ e in cc g
not_parenthesis y e (inr x) = let f : y ≡ token.right_parenthesis = cc in let g : true ≡ false = sym (ap is_parenthesis f) ∙ e in cc g

symbol_found : (ys : List Symbol) (w : List ℕ) (t : Token) → symbol_in ys w ≡ Some t → IsWord w t
unfolding lexing
symbol_found [] w t e = absurd (cc e)
symbol_found (y ∷ ys) w t e = elim (chosen (bytes_eq w (symbol_text y) && not (is_parenthesis y)) (Some (symbol y)) (symbol_in ys w) e) [
  | inl h ↦ let f : w ≡ symbol_text y = (bytes_eq-Decides w (symbol_text y)).0 (and_left (bytes_eq w (symbol_text y)) (not (is_parenthesis y)) h.0) in
      subst (IsWord w) (same_Some _ _ h.1) (record {
        form = symbol_form y f;
        spells = spells_symbol y f;
        no_parenthesis = not_parenthesis y (not-true (is_parenthesis y) (and_right (bytes_eq w (symbol_text y)) (not (is_parenthesis y)) h.0));
      })
  | inr h ↦ symbol_found ys w t h.1
]

name_found : (w : List ℕ) (t : Token) → cond (is_name w) (cond (is_keyword w) (keyword_in keywords w) (Some (name w))) None ≡ Some t → IsWord w t
name_found w t e = elim (chosen (is_name w) (cond (is_keyword w) (keyword_in keywords w) (Some (name w))) None e) [
  | inl h ↦ elim (chosen (is_keyword w) (keyword_in keywords w) (Some (name w)) h.1) [
    | inl k ↦ keyword_found keywords w t k.1
    | inr k ↦ subst (IsWord w) (same_Some _ _ k.1) (record { form = name_form h.0; spells = spells_name h.0 k.0; no_parenthesis = λ r. elim r [ inl x ↦ cc x | inr x ↦ cc x ] })
  ]
  | inr h ↦ absurd (cc (h.1))
]

sign_found : (sign : ℕ) (test : List ℕ → Bool) (make : Name → Token) (w : List ℕ) (t : Token) → signed sign test make w ≡ Some t
    → (n : Name) × (w ≡ sign ∷ n) × (test n ≡ true) × (make n ≡ t)
unfolding lexing
sign_found sign test make [] t e = absurd (cc e)
sign_found sign test make (c ∷ cs) t e = elim (chosen (nat_eq c sign && test cs) (Some (make cs)) None e) [
  | inl h ↦ let f : c ≡ sign = eqb-true c sign (and_left (nat_eq c sign) (test cs) h.0) in
      (cs, ap (λ (x : ℕ). x ∷ cs) f, and_right (nat_eq c sign) (test cs) h.0, same_Some _ _ h.1)
  | inr h ↦ absurd (cc (h.1))
]

field_found : (w : List ℕ) (t : Token) → signed 46 is_name field w ≡ Some t → IsWord w t
field_found w t e = let h = sign_found 46 is_name field w t e in
    subst (IsWord w) h.3 (record { form = field_form h.0 h.1 h.2; spells = spells_field h.0 h.1 h.2; no_parenthesis = λ r. elim r [ inl x ↦ cc x | inr x ↦ cc x ] })

variable_found : (w : List ℕ) (t : Token) → signed 36 is_name variable w ≡ Some t → IsWord w t
variable_found w t e = let h = sign_found 36 is_name variable w t e in
    subst (IsWord w) h.3 (record { form = variable_form h.0 h.1 h.2; spells = spells_variable h.0 h.1 h.2; no_parenthesis = λ r. elim r [ inl x ↦ cc x | inr x ↦ cc x ] })

format_found : (w : List ℕ) (t : Token) → signed 64 is_format_name format w ≡ Some t → IsWord w t
format_found w t e = let h = sign_found 64 is_format_name format w t e in
    subst (IsWord w) h.3 (record { form = format_form h.0 h.1 h.2; spells = spells_format h.0 h.1 h.2; no_parenthesis = λ r. elim r [ inl x ↦ cc x | inr x ↦ cc x ] })

whole_number : List ℕ → Numeral
whole_number ds = record { whole = ds; fraction = []; up = 0; down = 0 }

number_found : (w : List ℕ) (t : Token) → cond (is_digits w && nat_lt (digits_value 10 w) (2 ^ 63)) (Some (number (digits_value 10 w))) None ≡ Some t → IsWord w t
unfolding whole_number
number_found w t e = elim (chosen (is_digits w && nat_lt (digits_value 10 w) (2 ^ 63)) (Some (number (digits_value 10 w))) None e) [
  | inl h ↦ let d : is_digits w ≡ true = and_left (is_digits w) (nat_lt (digits_value 10 w) (2 ^ 63)) h.0 in
      let i : IsNumeral w (whole_number w) = record { mantissa = w; exponent = []; parts = sym (append-nil w); digits = whole_alone refl d; power = no_exponent refl } in
      let v : digits_value 10 w * 10 ^ (0 + 0) ≡ digits_value 10 (w ++ []) * 10 ^ 0 = ap (λ (ds : List ℕ). digits_value 10 ds * 1) (sym (append-nil w)) in
      subst (IsWord w) (same_Some _ _ h.1) (record {
        form = number_form (whole_number w) i;
        spells = spells_number (whole_number w) (digits_value 10 w) i
            (record { exact = v; fits = ltb-true (digits_value 10 w) (2 ^ 63) (and_right (is_digits w) (nat_lt (digits_value 10 w) (2 ^ 63)) h.0) });
        no_parenthesis = λ r. elim r [ inl x ↦ cc x | inr x ↦ cc x ];
      })
  | inr h ↦ absurd (cc (h.1))
]

spelled_found : (w : List ℕ) (t : Token) → spelled w ≡ Some t → IsWord w t
unfolding spelled
spelled_found w = either _ _ (IsWord w) (name_found w)
    (either _ _ (IsWord w) (field_found w) (either _ _ (IsWord w) (variable_found w) (either _ _ (IsWord w) (format_found w) (either _ _ (IsWord w) (number_found w) (symbol_found symbols w)))))

-- ---- the steps

-- A reading of the rest, with the taken tokens before it, is a reading of the text.
abbrev Goes : Spot → List ℕ → Taken → Type 0
Goes spot text s = (us : List Token) (last : Spot) (left : List ℕ) → Reads s.spot s.rest us last left → Reads spot text (s.tokens ++ us) last left

abbrev made : List Token → Spot → List ℕ → Taken
made ts spot rest = record { tokens = ts; spot = spot; rest = rest }

taken_goes : (spot : Spot) (text : List ℕ) (ts : List Token) (after : Spot) (rest : List ℕ) (s : Taken) → Goes spot text (made ts after rest) → taken ts after rest ≡ Some s → Goes spot text s
unfolding taken
taken_goes spot text ts after rest s g e = subst (Goes spot text) (same_Some _ _ e) g

longest_word : (w rest : List ℕ) → Lexeme w → ends_before w rest ≡ true → Longest (w ++ rest) w rest
unfolding ends_before
longest_word w [] h e = rw append-nil (longest_at_end w h)
longest_word w (c ∷ cs) h e = longest_before w c cs h (not-true (may_begin (w ++ c ∷ [])) e)

word_goes : (opened : List Parenthesis) (w rest : List ℕ) (s : Taken) → word_in opened w rest ≡ Some s → Goes (between opened) (w ++ rest) s
unfolding word_in word_taken
word_goes opened w rest s e = elim (chosen (ends_before w rest) (word_taken opened rest (spelled w)) None e) [
  | inl h ↦ by_token (spelled w) refl h.0 h.1
  | inr h ↦ absurd (cc (h.1))
]
  where
    by_token : (o : Option Token) → spelled w ≡ o → ends_before w rest ≡ true → word_taken opened rest o ≡ Some s → Goes (between opened) (w ++ rest) s
    by_token None f b k = absurd (cc k)
    by_token (Some t) f b k = let i = spelled_found w t f in
        taken_goes (between opened) (w ++ rest) (t ∷ []) (between opened) rest s (λ us last left d. token (word w (longest_word w rest i.form b) i.spells i.no_parenthesis) d) k

take_word_goes : (opened : List Parenthesis) (text : List ℕ) (s : Taken) → take_word opened text ≡ Some s → Goes (between opened) text s
unfolding take_word
take_word_goes opened text s e =
    let n = word_length [] text in
    subst (λ (x : List ℕ). Goes (between opened) x s) (take-append-drop n text) (word_goes opened (take n text) (drop n text) s e)

-- ---- strings

abbrev ending : Piece → List ℕ
ending p = cond p.goes_on (92 ∷ 40 ∷ p.rest) (34 ∷ p.rest)

abbrev IsPieceAt : List ℕ → Piece → Type 0
IsPieceAt text p = (cs : List ℕ) × (text ≡ cs ++ ending p) × Content cs p.content

put_character : (c : ℕ) (front text : List ℕ) (o : Option Piece) (p : Piece) → ((q : Piece) → o ≡ Some q → IsPieceAt text q)
    → ((cs s : List ℕ) → Content cs s → Content (front ++ cs) (c ∷ s)) → with_character c o ≡ Some p → IsPieceAt (front ++ text) p
unfolding with_character
put_character c front text None p f g e = absurd (cc e)
put_character c front text (Some q) p f g e = let h = f q refl in
    subst (IsPieceAt (front ++ text)) (same_Some _ _ e) (front ++ h.0, ap (λ (x : List ℕ). front ++ x) h.1 ∙ sym (append_assoc front h.0 (ending q)), g h.0 q.content h.2)

is_plain_then : (c : ℕ) → nat_eq c 34 ≡ false → nat_eq c 92 ≡ false → not (nat_eq c 34 || nat_eq c 92) ≡ true
is_plain_then c e f = rw (e, f) refl

piece_found : (text : List ℕ) (p : Piece) → piece_at text ≡ Some p → IsPieceAt text p
unfolding piece_at with_escaped
piece_found [] p e = absurd (cc e)
piece_found (c ∷ []) p e = elim (chosen (nat_eq c 34) (Some (record { content = []; goes_on = false; rest = [] })) None e) [
  | inl h ↦ subst (IsPieceAt (c ∷ [])) (same_Some _ _ h.1) ([], ap (λ (x : ℕ). x ∷ []) (eqb-true c 34 h.0), no_content)
  | inr h ↦ absurd (cc (h.1))
]
piece_found (c ∷ d ∷ cs) p e =
    elim (chosen (nat_eq c 34) (Some (record { content = []; goes_on = false; rest = d ∷ cs }))
    (cond (nat_eq c 92) (cond (nat_eq d 40) (Some (record { content = []; goes_on = true; rest = cs })) (with_escaped (escaped d) (piece_at cs))) (with_character c (piece_at (d ∷ cs)))) e) [
      | inl h ↦ subst (IsPieceAt (c ∷ d ∷ cs)) (same_Some _ _ h.1) ([], ap (λ (x : ℕ). x ∷ d ∷ cs) (eqb-true c 34 h.0), no_content)
      | inr h ↦ elim (chosen (nat_eq c 92) (cond (nat_eq d 40) (Some (record { content = []; goes_on = true; rest = cs })) (with_escaped (escaped d) (piece_at cs))) (with_character c (piece_at (d ∷ cs))) h.1) [
        | inl k ↦ let f : c ≡ 92 = eqb-true c 92 k.0 in
            elim (chosen (nat_eq d 40) (Some (record { content = []; goes_on = true; rest = cs })) (with_escaped (escaped d) (piece_at cs)) k.1) [
              | inl l ↦ let g : d ≡ 40 = eqb-true d 40 l.0 in subst (IsPieceAt (c ∷ d ∷ cs)) (same_Some _ _ l.1) ([], rw (f, g) refl, no_content)
              | inr l ↦ by_escape (λ q x. piece_found cs q x) (escaped d) refl f l.1
            ]
        | inr k ↦ put_character c (c ∷ []) (d ∷ cs) (piece_at (d ∷ cs)) p (λ q x. piece_found (d ∷ cs) q x) (λ ds t x. plain (is_plain_then c h.0 k.0) x) k.1
      ]
    ]
  where
    by_escape : ((q : Piece) → piece_at cs ≡ Some q → IsPieceAt cs q) → (o : Option ℕ) → escaped d ≡ o → c ≡ 92 → with_escaped o (piece_at cs) ≡ Some p → IsPieceAt (c ∷ d ∷ cs) p
    by_escape go None f g k = absurd (cc k)
    by_escape go (Some x) f g k = subst (λ (y : ℕ). IsPieceAt (y ∷ d ∷ cs) p) (sym g)
        (put_character x (92 ∷ d ∷ []) cs (piece_at cs) p go (λ ds t l. escape f l) k)

-- A piece is taken inside a string, and after a string's first quote.
piece_goes : (opened : List Parenthesis) (text : List ℕ) (s : Taken) → take_piece opened (piece_at text) ≡ Some s
    → Goes (within opened) text s × Goes (between opened) (34 ∷ text) s
unfolding take_piece
piece_goes opened text s e = by_piece (piece_at text) refl e
  where
    by_end : (p : Piece) (more : Bool) → p.goes_on ≡ more → IsPieceAt text p
        → cond more (taken (piece p.content ∷ interpolation ∷ []) (between (in_string ∷ opened)) p.rest) (taken (piece p.content ∷ []) (between opened) p.rest) ≡ Some s
        → Goes (within opened) text s × Goes (between opened) (34 ∷ text) s
    by_end p true f h k =
        let w : text ≡ h.0 ++ 92 ∷ 40 ∷ p.rest = h.1 ∙ ap (λ (b : Bool). h.0 ++ cond b (92 ∷ 40 ∷ p.rest) (34 ∷ p.rest)) f in (
          taken_goes (within opened) text (piece p.content ∷ interpolation ∷ []) (between (in_string ∷ opened)) p.rest s (λ us last left d. part (interpolated h.0 w h.2) d) k,
          taken_goes (between opened) (34 ∷ text) (piece p.content ∷ interpolation ∷ []) (between (in_string ∷ opened)) p.rest s (λ us last left d. token (quote (interpolated h.0 w h.2)) d) k,
        )
    by_end p false f h k =
        let w : text ≡ h.0 ++ 34 ∷ p.rest = h.1 ∙ ap (λ (b : Bool). h.0 ++ cond b (92 ∷ 40 ∷ p.rest) (34 ∷ p.rest)) f in (
          taken_goes (within opened) text (piece p.content ∷ []) (between opened) p.rest s (λ us last left d. part (ended h.0 w h.2) d) k,
          taken_goes (between opened) (34 ∷ text) (piece p.content ∷ []) (between opened) p.rest s (λ us last left d. token (quote (ended h.0 w h.2)) d) k,
        )

    by_piece : (o : Option Piece) → piece_at text ≡ o → take_piece opened o ≡ Some s → Goes (within opened) text s × Goes (between opened) (34 ∷ text) s
    by_piece None f k = absurd (cc k)
    by_piece (Some p) f k = by_end p p.goes_on refl (piece_found text p f) k

-- ---- comments, brackets, one step

every_append : (xs : List ℕ) (c : ℕ) → every is_not_line_feed xs ≡ true → nat_eq c 10 ≡ false → every is_not_line_feed (xs ++ c ∷ []) ≡ true
every_append [] c e f = rw f refl
every_append (x ∷ xs) c e f = and_from (is_not_line_feed x) (every is_not_line_feed (xs ++ c ∷ [])) (and_left (is_not_line_feed x) (every is_not_line_feed xs) e)
    (every_append xs c (and_right (is_not_line_feed x) (every is_not_line_feed xs) e) f)

comment_goes : (opened : List Parenthesis) (front cs : List ℕ) (s : Taken) → every is_not_line_feed front ≡ true → take_comment opened cs ≡ Some s
    → Goes (between opened) (35 ∷ (front ++ cs)) s
unfolding take_comment
comment_goes opened front [] s h e = absurd (cc e)
comment_goes opened front (c ∷ cs) s h e = elim (chosen (nat_eq c 10) (taken [] (between opened) (10 ∷ cs)) (take_comment opened cs) e) [
  | inl k ↦ let f : c ≡ 10 = eqb-true c 10 k.0 in
      taken_goes (between opened) (35 ∷ (front ++ c ∷ cs)) [] (between opened) (10 ∷ cs) s
      (λ us last left d. comment front cs (ap (λ (x : ℕ). front ++ x ∷ cs) f) h d) k.1
  | inr k ↦ subst (λ (x : List ℕ). Goes (between opened) (35 ∷ x) s) (append_assoc front (c ∷ []) cs) (comment_goes opened (front ++ c ∷ []) cs s (every_append front c h k.0) k.1)
]

closing_goes : (opened : List Parenthesis) (cs : List ℕ) (s : Taken) → take_closing opened cs ≡ Some s → Goes (between opened) (41 ∷ cs) s
unfolding take_closing
closing_goes [] cs s e = taken_goes (between []) (41 ∷ cs) (symbol token.right_parenthesis ∷ []) (between []) cs s (λ us last left d. token closes_nothing d) e
closing_goes (plain_parenthesis ∷ opened) cs s e = taken_goes (between (plain_parenthesis ∷ opened)) (41 ∷ cs) (symbol token.right_parenthesis ∷ []) (between opened) cs s (λ us last left d. token closes d) e
closing_goes (in_string ∷ opened) cs s e = taken_goes (between (in_string ∷ opened)) (41 ∷ cs) (symbol token.right_parenthesis ∷ []) (within opened) cs s (λ us last left d. token closes_in_string d) e

from_first : {opened : List Parenthesis} (c d : ℕ) (cs : List ℕ) (s : Taken) → nat_eq c d ≡ true → Goes (between opened) (d ∷ cs) s → Goes (between opened) (c ∷ cs) s
from_first {opened} c d cs s e g = subst (λ (x : ℕ). Goes (between opened) (x ∷ cs) s) (sym (eqb-true c d e)) g

step_goes : (spot : Spot) (text : List ℕ) (s : Taken) → step spot text ≡ Some s → Goes spot text s
unfolding step
step_goes (within opened) text s e = (piece_goes opened text s e).0
step_goes (between opened) [] s e = absurd (cc e)
step_goes (between opened) (c ∷ cs) s e = elim (chosen (is_space c) (taken [] (between opened) cs) _ e) [
  | inl h ↦ taken_goes (between opened) (c ∷ cs) [] (between opened) cs s (λ us last left d. space h.0 d) h.1
  | inr h ↦ elim (chosen (nat_eq c 34) (take_piece opened (piece_at cs)) _ h.1) [
    | inl k ↦ from_first c 34 cs s k.0 (piece_goes opened cs s k.1).1
    | inr k ↦ elim (chosen (nat_eq c 40) (taken (symbol token.left_parenthesis ∷ []) (between (plain_parenthesis ∷ opened)) cs) _ k.1) [
      | inl l ↦ from_first c 40 cs s l.0
          (taken_goes (between opened) (40 ∷ cs) (symbol token.left_parenthesis ∷ []) (between (plain_parenthesis ∷ opened)) cs s (λ us last left d. token opens d) l.1)
      | inr l ↦ elim (chosen (nat_eq c 41) (take_closing opened cs) _ l.1) [
        | inl m ↦ from_first c 41 cs s m.0 (closing_goes opened cs s m.1)
        | inr m ↦ elim (chosen (nat_eq c 35) (take_comment opened cs) (take_word opened (c ∷ cs)) m.1) [
          | inl n ↦ from_first c 35 cs s n.0 (comment_goes opened [] cs s refl n.1)
          | inr n ↦ take_word_goes opened (c ∷ cs) s n.1
        ]
      ]
    ]
  ]
]

-- ---- all steps

abbrev ReadsAll : Spot → List ℕ → List Token → Type 0
ReadsAll spot text ts = (opened : List Parenthesis) × Reads spot text ts (between opened) []

steps_read : (n : ℕ) → ((spot : Spot) (text : List ℕ) (ts : List Token) → lexed_from n spot text ≡ Some ts → ReadsAll spot text ts)
    → (spot : Spot) (text : List ℕ) (ts : List Token) (o : Option Taken) → step spot text ≡ o
    → elim o as (λ _. Option (List Token)) [ None ↦ None | Some s ↦ before s.tokens (lexed_from n s.spot s.rest) ] ≡ Some ts → ReadsAll spot text ts
unfolding before
steps_read n go spot text ts None f k = absurd (cc k)
steps_read n go spot text ts (Some s) f k = by_rest (lexed_from n s.spot s.rest) refl k
  where
    by_rest : (o : Option (List Token)) → lexed_from n s.spot s.rest ≡ o → before s.tokens o ≡ Some ts → ReadsAll spot text ts
    by_rest None g k = absurd (cc k)
    by_rest (Some us) g k = let h = go s.spot s.rest us g in
        subst (ReadsAll spot text) (same_Some _ _ k) (h.0, step_goes spot text s f us (between h.0) [] h.1)

lexed_reads : (n : ℕ) (spot : Spot) (text : List ℕ) (ts : List Token) → lexed_from n spot text ≡ Some ts → ReadsAll spot text ts
unfolding lexed_from
lexed_reads zero spot text ts e = absurd (cc e)
lexed_reads (suc n) (between opened) [] ts e = subst (ReadsAll (between opened) []) (same_Some _ _ e) (opened, here)
lexed_reads (suc n) (between opened) (c ∷ cs) ts e = steps_read n (λ spot text us f. lexed_reads n spot text us f) (between opened) (c ∷ cs) ts (step (between opened) (c ∷ cs)) refl e
lexed_reads (suc n) (within opened) text ts e = steps_read n (λ spot text us f. lexed_reads n spot text us f) (within opened) text ts (step (within opened) text) refl e

pub lexed_are_the_tokens : LexedAreTheTokens
unfolding lexed
lexed_are_the_tokens n text ts e = lexed_reads n (between []) text ts e
