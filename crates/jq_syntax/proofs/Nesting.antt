-- The open brackets after each prefix of the tokens.
use Rattle.std.proofs.Common.{◌≡◌, ◌∙◌, ◌↔◌, ℕ, zero, suc, ◌+◌, ◌<◌, ◌≤◌, List, [], ◌∷◌, take, drop, length, get_or, map, ap, sym, subst, arith}
use Rattle.std.proofs.lemmas.List.{drop_more}
use Rattle.jq_lexer.specs.Views.{token_of}
use Rattle.jq_lexer.specs.declared.tokens.Token as lexed
use Rattle.jq_tree.specs.Token.{Token, keyword, name, field, variable, format, number, piece, interpolation, symbol, TooNested, opening_brackets, closing_brackets}
use Rattle.jq_tree.specs.Token as token

pub opening_brackets-one : (t : Token) (ts : List Token) → opening_brackets (t ∷ ts) ≡ opening_brackets (t ∷ []) + opening_brackets ts
opening_brackets-one (keyword k) ts = omega arith
opening_brackets-one (name n) ts = omega arith
opening_brackets-one (field n) ts = omega arith
opening_brackets-one (variable n) ts = omega arith
opening_brackets-one (format n) ts = omega arith
opening_brackets-one (number n) ts = omega arith
opening_brackets-one (piece s) ts = omega arith
opening_brackets-one interpolation ts = omega arith
opening_brackets-one (symbol token.not_equal) ts = omega arith
opening_brackets-one (symbol token.equal) ts = omega arith
opening_brackets-one (symbol token.less_or_equal) ts = omega arith
opening_brackets-one (symbol token.greater_or_equal) ts = omega arith
opening_brackets-one (symbol token.less) ts = omega arith
opening_brackets-one (symbol token.greater) ts = omega arith
opening_brackets-one (symbol token.alternative_assign) ts = omega arith
opening_brackets-one (symbol token.alternative) ts = omega arith
opening_brackets-one (symbol token.modify_assign) ts = omega arith
opening_brackets-one (symbol token.plus_assign) ts = omega arith
opening_brackets-one (symbol token.minus_assign) ts = omega arith
opening_brackets-one (symbol token.times_assign) ts = omega arith
opening_brackets-one (symbol token.divided_assign) ts = omega arith
opening_brackets-one (symbol token.modulo_assign) ts = omega arith
opening_brackets-one (symbol token.assign) ts = omega arith
opening_brackets-one (symbol token.two_dots) ts = omega arith
opening_brackets-one (symbol token.dot) ts = omega arith
opening_brackets-one (symbol token.left_bracket) ts = omega arith
opening_brackets-one (symbol token.right_bracket) ts = omega arith
opening_brackets-one (symbol token.left_parenthesis) ts = omega arith
opening_brackets-one (symbol token.right_parenthesis) ts = omega arith
opening_brackets-one (symbol token.left_brace) ts = omega arith
opening_brackets-one (symbol token.right_brace) ts = omega arith
opening_brackets-one (symbol token.bar) ts = omega arith
opening_brackets-one (symbol token.comma) ts = omega arith
opening_brackets-one (symbol token.colon) ts = omega arith
opening_brackets-one (symbol token.semicolon) ts = omega arith
opening_brackets-one (symbol token.plus) ts = omega arith
opening_brackets-one (symbol token.minus) ts = omega arith
opening_brackets-one (symbol token.times) ts = omega arith
opening_brackets-one (symbol token.divided) ts = omega arith
opening_brackets-one (symbol token.modulo) ts = omega arith
opening_brackets-one (symbol token.question) ts = omega arith

pub closing_brackets-one : (t : Token) (ts : List Token) → closing_brackets (t ∷ ts) ≡ closing_brackets (t ∷ []) + closing_brackets ts
closing_brackets-one (keyword k) ts = omega arith
closing_brackets-one (name n) ts = omega arith
closing_brackets-one (field n) ts = omega arith
closing_brackets-one (variable n) ts = omega arith
closing_brackets-one (format n) ts = omega arith
closing_brackets-one (number n) ts = omega arith
closing_brackets-one (piece s) ts = omega arith
closing_brackets-one interpolation ts = omega arith
closing_brackets-one (symbol token.not_equal) ts = omega arith
closing_brackets-one (symbol token.equal) ts = omega arith
closing_brackets-one (symbol token.less_or_equal) ts = omega arith
closing_brackets-one (symbol token.greater_or_equal) ts = omega arith
closing_brackets-one (symbol token.less) ts = omega arith
closing_brackets-one (symbol token.greater) ts = omega arith
closing_brackets-one (symbol token.alternative_assign) ts = omega arith
closing_brackets-one (symbol token.alternative) ts = omega arith
closing_brackets-one (symbol token.modify_assign) ts = omega arith
closing_brackets-one (symbol token.plus_assign) ts = omega arith
closing_brackets-one (symbol token.minus_assign) ts = omega arith
closing_brackets-one (symbol token.times_assign) ts = omega arith
closing_brackets-one (symbol token.divided_assign) ts = omega arith
closing_brackets-one (symbol token.modulo_assign) ts = omega arith
closing_brackets-one (symbol token.assign) ts = omega arith
closing_brackets-one (symbol token.two_dots) ts = omega arith
closing_brackets-one (symbol token.dot) ts = omega arith
closing_brackets-one (symbol token.left_bracket) ts = omega arith
closing_brackets-one (symbol token.right_bracket) ts = omega arith
closing_brackets-one (symbol token.left_parenthesis) ts = omega arith
closing_brackets-one (symbol token.right_parenthesis) ts = omega arith
closing_brackets-one (symbol token.left_brace) ts = omega arith
closing_brackets-one (symbol token.right_brace) ts = omega arith
closing_brackets-one (symbol token.bar) ts = omega arith
closing_brackets-one (symbol token.comma) ts = omega arith
closing_brackets-one (symbol token.colon) ts = omega arith
closing_brackets-one (symbol token.semicolon) ts = omega arith
closing_brackets-one (symbol token.plus) ts = omega arith
closing_brackets-one (symbol token.minus) ts = omega arith
closing_brackets-one (symbol token.times) ts = omega arith
closing_brackets-one (symbol token.divided) ts = omega arith
closing_brackets-one (symbol token.modulo) ts = omega arith
closing_brackets-one (symbol token.question) ts = omega arith

-- After these numbers of opening and closing brackets, some prefix of the remaining tokens has too many open ones.
pub record NestedAfter (opened closed : ℕ) (ts : List Token) : Type 0 where
  pub front : ℕ
  pub exceeds : closing_brackets (take front ts) + closed + 256 < opening_brackets (take front ts) + opened

pub nested_start : (ts : List Token) → TooNested ts ↔ NestedAfter 0 0 ts
nested_start ts = ((λ h. record { front = h.0; exceeds = omega (arith, h.1) }), (λ h. (h.front, omega (arith, h.exceeds))))

step_in : (o c : ℕ) (t : Token) (ts : List Token) → o ≤ c + 256 → (n : ℕ) → closing_brackets (take n (t ∷ ts)) + c + 256 < opening_brackets (take n (t ∷ ts)) + o
    → NestedAfter (o + opening_brackets (t ∷ [])) (c + closing_brackets (t ∷ [])) ts
step_in o c t ts h zero e = absurd (omega (arith, e, h))
step_in o c t ts h (suc n) e = record { front = n; exceeds = omega (arith, e, opening_brackets-one t (take n ts), closing_brackets-one t (take n ts)) }

-- one token further
pub nested_step : (o c : ℕ) (t : Token) (ts : List Token) → o ≤ c + 256
    → NestedAfter o c (t ∷ ts) ↔ NestedAfter (o + opening_brackets (t ∷ [])) (c + closing_brackets (t ∷ [])) ts
nested_step o c t ts h =
    ((λ k. step_in o c t ts h k.front k.exceeds), (λ k. record { front = suc k.front; exceeds = omega (arith, k.exceeds, opening_brackets-one t (take k.front ts), closing_brackets-one t (take k.front ts)) }))

pub nested_now : (o c : ℕ) (ts : List Token) → c + 256 < o → NestedAfter o c ts
nested_now o c ts h = record { front = 0; exceeds = omega (arith, h) }

none_left : (o c n : ℕ) → o ≤ c + 256 → closing_brackets (take n []) + c + 256 < opening_brackets (take n []) + o → ⊥
none_left o c zero h e = omega (arith, e, h)
none_left o c (suc n) h e = omega (arith, e, h)

pub nested_never : (o c : ℕ) → o ≤ c + 256 → ¬ NestedAfter o c []
nested_never o c h k = none_left o c k.front h k.exceeds

pub few_open : (t : Token) → opening_brackets (t ∷ []) ≤ 1
few_open (keyword k) = omega arith
few_open (name n) = omega arith
few_open (field n) = omega arith
few_open (variable n) = omega arith
few_open (format n) = omega arith
few_open (number n) = omega arith
few_open (piece s) = omega arith
few_open interpolation = omega arith
few_open (symbol token.not_equal) = omega arith
few_open (symbol token.equal) = omega arith
few_open (symbol token.less_or_equal) = omega arith
few_open (symbol token.greater_or_equal) = omega arith
few_open (symbol token.less) = omega arith
few_open (symbol token.greater) = omega arith
few_open (symbol token.alternative_assign) = omega arith
few_open (symbol token.alternative) = omega arith
few_open (symbol token.modify_assign) = omega arith
few_open (symbol token.plus_assign) = omega arith
few_open (symbol token.minus_assign) = omega arith
few_open (symbol token.times_assign) = omega arith
few_open (symbol token.divided_assign) = omega arith
few_open (symbol token.modulo_assign) = omega arith
few_open (symbol token.assign) = omega arith
few_open (symbol token.two_dots) = omega arith
few_open (symbol token.dot) = omega arith
few_open (symbol token.left_bracket) = omega arith
few_open (symbol token.right_bracket) = omega arith
few_open (symbol token.left_parenthesis) = omega arith
few_open (symbol token.right_parenthesis) = omega arith
few_open (symbol token.left_brace) = omega arith
few_open (symbol token.right_brace) = omega arith
few_open (symbol token.bar) = omega arith
few_open (symbol token.comma) = omega arith
few_open (symbol token.colon) = omega arith
few_open (symbol token.semicolon) = omega arith
few_open (symbol token.plus) = omega arith
few_open (symbol token.minus) = omega arith
few_open (symbol token.times) = omega arith
few_open (symbol token.divided) = omega arith
few_open (symbol token.modulo) = omega arith
few_open (symbol token.question) = omega arith

pub few_close : (t : Token) → closing_brackets (t ∷ []) ≤ 1
few_close (keyword k) = omega arith
few_close (name n) = omega arith
few_close (field n) = omega arith
few_close (variable n) = omega arith
few_close (format n) = omega arith
few_close (number n) = omega arith
few_close (piece s) = omega arith
few_close interpolation = omega arith
few_close (symbol token.not_equal) = omega arith
few_close (symbol token.equal) = omega arith
few_close (symbol token.less_or_equal) = omega arith
few_close (symbol token.greater_or_equal) = omega arith
few_close (symbol token.less) = omega arith
few_close (symbol token.greater) = omega arith
few_close (symbol token.alternative_assign) = omega arith
few_close (symbol token.alternative) = omega arith
few_close (symbol token.modify_assign) = omega arith
few_close (symbol token.plus_assign) = omega arith
few_close (symbol token.minus_assign) = omega arith
few_close (symbol token.times_assign) = omega arith
few_close (symbol token.divided_assign) = omega arith
few_close (symbol token.modulo_assign) = omega arith
few_close (symbol token.assign) = omega arith
few_close (symbol token.two_dots) = omega arith
few_close (symbol token.dot) = omega arith
few_close (symbol token.left_bracket) = omega arith
few_close (symbol token.right_bracket) = omega arith
few_close (symbol token.left_parenthesis) = omega arith
few_close (symbol token.right_parenthesis) = omega arith
few_close (symbol token.left_brace) = omega arith
few_close (symbol token.right_brace) = omega arith
few_close (symbol token.bar) = omega arith
few_close (symbol token.comma) = omega arith
few_close (symbol token.colon) = omega arith
few_close (symbol token.semicolon) = omega arith
few_close (symbol token.plus) = omega arith
few_close (symbol token.minus) = omega arith
few_close (symbol token.times) = omega arith
few_close (symbol token.divided) = omega arith
few_close (symbol token.modulo) = omega arith
few_close (symbol token.question) = omega arith

-- one token of the code further
pub further : (whole : List Token) (xs : List lexed.Token) (i : ℕ) (x : lexed.Token) (o c u v : ℕ) → i < length xs → x ≡ get_or xs i x
    → u ≡ opening_brackets (token_of x ∷ []) → v ≡ closing_brackets (token_of x ∷ []) → o ≤ c + 256
    → (TooNested whole ↔ NestedAfter o c (map token_of (drop i xs))) → TooNested whole ↔ NestedAfter (o + u) (c + v) (map token_of (drop (i + 1) xs))
further whole xs i x o c u v h e eu ev le inv =
    let rest = map token_of (drop (i + 1) xs) in
    let eq = ap (map token_of) (drop_more xs i x h) ∙ ap (λ (y : lexed.Token). token_of y ∷ map token_of (drop (i + 1) xs)) (sym e) in
    let s = subst (λ (ts : List Token). TooNested whole ↔ NestedAfter o c ts) eq inv in
    let n = nested_step o c (token_of x) rest le in
    subst (λ (w : ℕ). TooNested whole ↔ NestedAfter (o + w) (c + v) rest) (sym eu)
    (subst (λ (w : ℕ). TooNested whole ↔ NestedAfter (o + opening_brackets (token_of x ∷ [])) (c + w) rest) (sym ev)
    ((λ k. n.0 (s.0 k)), (λ k. s.1 (n.1 k))))
