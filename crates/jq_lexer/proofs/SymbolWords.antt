-- The longest symbol at the start of a text.
use Rattle.std.proofs.Common.{◌≡◌, ◌∙◌, ℕ, zero, suc, ◌+◌, ◌≤◌, ◌<◌, get_or, add-one, List, [], ◌∷◌, ◌++◌, Bool, true, false, ◌&&◌, nat_eq, length, drop, refl, sym, ap, subst, inl, inr, arith, length-append, lit≤}
use Rattle.std.specs.Prelude.{Option, Some, None, if◌then◌else◌}
use Rattle.std.specs.List.{starts_with}
use Rattle.std.proofs.lemmas.Bool.{cond-true, cond-false}
use Rattle.std.proofs.lemmas.Bool.Decides.{Decides-eqb}
use Rattle.std.proofs.lemmas.Slice.Eq.{starts_is}
use Rattle.jq_tree.specs.Token.{symbol_text}
use Rattle.jq_tree.specs.Token as token
use Rattle.jq_tree.specs.Words.{Lexeme, symbol_form}
use Rattle.jq_lexer.specs.private.Found.{first_symbol_in, NoWordAt, IsWordAt, OnlySymbols}
use Rattle.jq_lexer.specs.Views.{symbol_of}
use Rattle.jq_lexer.specs.declared.spellings.TheConstants.{SYMBOLS}
use Rattle.jq_lexer.specs.declared.tokens.Symbol.{Symbol}
use Rattle.jq_lexer.specs.declared.tokens.Symbol.TheVariants as code
use Rattle.jq_lexer.specs.declared.words.Shape.TheVariants as shape
use Rattle.jq_lexer.proofs.Runs.{chosen, longest_word, word_at}

-- ---- the found symbol is a prefix of the text

begins : (text : List ℕ) (y : token.Symbol) → starts_with nat_eq text (symbol_text y) ≡ true → text ≡ symbol_text y ++ drop (length (symbol_text y)) text
begins text y h = (starts_is Decides-eqb text (symbol_text y) (starts_with nat_eq text (symbol_text y)) refl).0 h

found_begins : (text : List ℕ) (ys : List Symbol) (y : Symbol) → first_symbol_in text ys ≡ Some y → text ≡ symbol_text (symbol_of y) ++ drop (length (symbol_text (symbol_of y))) text
found_begins text [] y e = absurd (cc e)
found_begins text (x ∷ ys) y e = elim (chosen (starts_with nat_eq text (symbol_text (symbol_of x))) x y (first_symbol_in text ys) e) [
  | inl p ↦ subst (λ (z : Symbol). text ≡ symbol_text (symbol_of z) ++ drop (length (symbol_text (symbol_of z))) text) (p.1) (begins text (symbol_of x) (p.0))
  | inr p ↦ found_begins text ys y p
]

-- ---- the found symbol is at least as long as any symbol that the text begins with

abbrev AtLeast : ℕ → Option Symbol → Type 0
AtLeast n None = ⊥
AtLeast n (Some y) = n ≤ length (symbol_text (symbol_of y))

either : (n : ℕ) (b : Bool) (x y : Option Symbol) → AtLeast n x → AtLeast n y → AtLeast n (if b then x else y)
either n true x y h k = h
either n false x y h k = k

is_long : (z : token.Symbol) (after : List ℕ) → AtLeast (length (symbol_text z)) (first_symbol_in (symbol_text z ++ after) SYMBOLS)
is_long token.less [] = lit≤ tt
is_long token.less (d ∷ ds) = either 1 (nat_eq 61 d && true) (Some code.LessOrEqual) (Some code.Less) (lit≤ tt) (lit≤ tt)
is_long token.greater [] = lit≤ tt
is_long token.greater (d ∷ ds) = either 1 (nat_eq 61 d && true) (Some code.GreaterOrEqual) (Some code.Greater) (lit≤ tt) (lit≤ tt)
is_long token.assign [] = lit≤ tt
is_long token.assign (d ∷ ds) = either 1 (nat_eq 61 d && true) (Some code.Equal) (Some code.Assign) (lit≤ tt) (lit≤ tt)
is_long token.dot [] = lit≤ tt
is_long token.dot (d ∷ ds) = either 1 (nat_eq 46 d && true) (Some code.TwoDots) (Some code.Dot) (lit≤ tt) (lit≤ tt)
is_long token.bar [] = lit≤ tt
is_long token.bar (d ∷ ds) = either 1 (nat_eq 61 d && true) (Some code.ModifyAssign) (Some code.Bar) (lit≤ tt) (lit≤ tt)
is_long token.plus [] = lit≤ tt
is_long token.plus (d ∷ ds) = either 1 (nat_eq 61 d && true) (Some code.PlusAssign) (Some code.Plus) (lit≤ tt) (lit≤ tt)
is_long token.minus [] = lit≤ tt
is_long token.minus (d ∷ ds) = either 1 (nat_eq 61 d && true) (Some code.MinusAssign) (Some code.Minus) (lit≤ tt) (lit≤ tt)
is_long token.times [] = lit≤ tt
is_long token.times (d ∷ ds) = either 1 (nat_eq 61 d && true) (Some code.TimesAssign) (Some code.Times) (lit≤ tt) (lit≤ tt)
is_long token.modulo [] = lit≤ tt
is_long token.modulo (d ∷ ds) = either 1 (nat_eq 61 d && true) (Some code.ModuloAssign) (Some code.Modulo) (lit≤ tt) (lit≤ tt)
is_long token.divided [] = lit≤ tt
is_long token.divided (d ∷ []) = either 1 (nat_eq 47 d && false) (Some code.AlternativeAssign) _ (lit≤ tt)
    (either 1 (nat_eq 47 d && true) (Some code.Alternative) _ (lit≤ tt)
    (either 1 (nat_eq 61 d && true) (Some code.DividedAssign) (Some code.Divided) (lit≤ tt) (lit≤ tt)))
is_long token.divided (d ∷ e ∷ ds) = either 1 (nat_eq 47 d && (nat_eq 61 e && true)) (Some code.AlternativeAssign) _ (lit≤ tt)
    (either 1 (nat_eq 47 d && true) (Some code.Alternative) _ (lit≤ tt)
    (either 1 (nat_eq 61 d && true) (Some code.DividedAssign) (Some code.Divided) (lit≤ tt) (lit≤ tt)))
is_long token.alternative [] = lit≤ tt
is_long token.alternative (d ∷ ds) = either 2 (nat_eq 61 d && true) (Some code.AlternativeAssign) (Some code.Alternative) (lit≤ tt) (lit≤ tt)
is_long token.not_equal after = lit≤ tt
is_long token.equal after = lit≤ tt
is_long token.less_or_equal after = lit≤ tt
is_long token.greater_or_equal after = lit≤ tt
is_long token.alternative_assign after = lit≤ tt
is_long token.modify_assign after = lit≤ tt
is_long token.plus_assign after = lit≤ tt
is_long token.minus_assign after = lit≤ tt
is_long token.times_assign after = lit≤ tt
is_long token.divided_assign after = lit≤ tt
is_long token.modulo_assign after = lit≤ tt
is_long token.two_dots after = lit≤ tt
is_long token.left_bracket after = lit≤ tt
is_long token.right_bracket after = lit≤ tt
is_long token.left_parenthesis after = lit≤ tt
is_long token.right_parenthesis after = lit≤ tt
is_long token.left_brace after = lit≤ tt
is_long token.right_brace after = lit≤ tt
is_long token.comma after = lit≤ tt
is_long token.colon after = lit≤ tt
is_long token.semicolon after = lit≤ tt
is_long token.question after = lit≤ tt

-- ---- the word

pub symbol_at : (text : List ℕ) (y : Symbol) → OnlySymbols text → first_symbol_in text SYMBOLS ≡ Some y → IsWordAt text (shape.Symbol y) (length (symbol_text (symbol_of y)))
symbol_at text y only e =
    let w = symbol_text (symbol_of y) in
    let rest = drop (length w) text in
    let whole : text ≡ w ++ rest = found_begins text SYMBOLS y e in
    word_at text w rest (shape.Symbol y) (length w) whole refl (longest_word text w rest whole (symbol_form (symbol_of y) refl) (λ x xs after f l. longer x xs after (whole ∙ ap (λ (t : List ℕ). w ++ t) f) l)) refl
  where
    longer : (x : ℕ) (xs after : List ℕ) → text ≡ symbol_text (symbol_of y) ++ x ∷ (xs ++ after) → Lexeme (symbol_text (symbol_of y) ++ x ∷ xs) → ⊥
    longer x xs after f l =
        let w = symbol_text (symbol_of y) in
        let g : text ≡ (w ++ x ∷ xs) ++ after = f ∙ shift w x xs after in
        let z = only (w ++ x ∷ xs) after g l in
        let h : text ≡ symbol_text (z.0) ++ after = g ∙ ap (λ (t : List ℕ). t ++ after) (z.1) in
        let k : AtLeast (length (symbol_text (z.0))) (Some y) = subst (AtLeast (length (symbol_text (z.0)))) (ap (λ (t : List ℕ). first_symbol_in t SYMBOLS) (sym h) ∙ e) (is_long (z.0) after) in
        let size : length (symbol_text (z.0)) ≡ length w + length (x ∷ xs) = ap length (sym (z.1)) ∙ length-append w (x ∷ xs) in
        absurd (omega arith)
      where
        shift : (u : List ℕ) (a : ℕ) (bs cs : List ℕ) → u ++ a ∷ (bs ++ cs) ≡ (u ++ a ∷ bs) ++ cs
        shift [] a bs cs = refl
        shift (v ∷ vs) a bs cs = ap (λ (t : List ℕ). v ∷ t) (shift vs a bs cs)

pub no_symbol_at : (text : List ℕ) → OnlySymbols text → first_symbol_in text SYMBOLS ≡ None → NoWordAt text
no_symbol_at text only e w rest f l =
    let z = only w rest f l in
    let h : text ≡ symbol_text (z.0) ++ rest = f ∙ ap (λ (t : List ℕ). t ++ rest) (z.1) in
    let k : AtLeast (length (symbol_text (z.0))) None = subst (AtLeast (length (symbol_text (z.0)))) (ap (λ (t : List ℕ). first_symbol_in t SYMBOLS) (sym h) ∙ e) (is_long (z.0) rest) in k

-- ---- the search through the symbols

step_past : (text : List ℕ) (y : Symbol) (ys : List Symbol) → starts_with nat_eq text (symbol_text (symbol_of y)) ≡ false → first_symbol_in text (y ∷ ys) ≡ first_symbol_in text ys
step_past text y ys h = cond-false (starts_with nat_eq text (symbol_text (symbol_of y))) (Some y) (first_symbol_in text ys) h

pub first_next : (text : List ℕ) (ys : List Symbol) (i : ℕ) (d : Symbol) → i < length ys → starts_with nat_eq text (symbol_text (symbol_of (get_or ys i d))) ≡ false
    → first_symbol_in text (drop i ys) ≡ first_symbol_in text (drop (i + 1) ys)
first_next text ys i d h k = next ys i h k ∙ ap (λ (n : ℕ). first_symbol_in text (drop n ys)) (sym (add-one i))
  where
    next : (zs : List Symbol) (j : ℕ) → j < length zs → starts_with nat_eq text (symbol_text (symbol_of (get_or zs j d))) ≡ false → first_symbol_in text (drop j zs) ≡ first_symbol_in text (drop (suc j) zs)
    next [] j h k = absurd (omega arith)
    next (z ∷ zs) zero h k = step_past text z zs k
    next (z ∷ zs) (suc j) h k = next zs j (omega arith) k

pub first_here : (text : List ℕ) (ys : List Symbol) (i : ℕ) (d : Symbol) → i < length ys → starts_with nat_eq text (symbol_text (symbol_of (get_or ys i d))) ≡ true
    → first_symbol_in text (drop i ys) ≡ Some (get_or ys i d)
first_here text [] i d h k = absurd (omega arith)
first_here text (z ∷ zs) zero d h k = cond-true (starts_with nat_eq text (symbol_text (symbol_of z))) (Some z) (first_symbol_in text zs) k
first_here text (z ∷ zs) (suc i) d h k = first_here text zs i d (omega arith) k
