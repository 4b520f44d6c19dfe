-- If the numbers among the tokens of a text are in printed form, the text has its numbers in printed form.
use Rattle.std.proofs.Common.{◌≡◌, ◌∙◌, ℕ, suc, ◌+◌, ◌-◌, ◌≤◌, Bool, true, false, ◌||◌, ◌==◌, cond, not, List, [], ◌∷◌, ◌++◌, length, take, drop, Option, Some, None, option_and_then, inl, inr, refl, sym, ap, subst, arith, append_assoc, append-nil, length-append, ne_eqb, true≢false}
use Rattle.std.proofs.Math.Seq.{take-append_seam}
use Rattle.std.proofs.lemmas.Bool.{false≢true, eqb-true, leb-true, and_parts, or_cases}
use Rattle.std.proofs.lemmas.List.{take-append-drop}
use Rattle.std.proofs.lemmas.Slice.Eq.{bytes_eq-Decides}
use Rattle.std.specs.List.{prefix_len}
use Rattle.std.specs.Char.{is_ascii_digit}
use Rattle.json.specs.Token.{Token, begin_object, end_object, begin_array, end_array, key, string, number, boolean, null, bad}
use Rattle.json.specs.Word.{is_operator, is_space, head, ends_word, after_digits, after_minus, after_sign, after_whole, after_fraction, after_exponent, after_number, number_before, literal, word}
use Rattle.json.specs.Lex.{Lexeme, token, comma, colon, Class, quote, backslash, operator, space, other, class, Mode, between, in_word, in_string, in_escape, lex_byte, lex}
use Rattle.json.specs.Lex.{Place, fresh, after_value, after_comma, after_key, begins_colon, may_begin, may_close, if_allowed, place_token, punctuate, tokens}
use Rattle.jv_cut.specs.Bytes.{is_bare}
use Rattle.jv_cut.specs.Text.{next_quote}
use Rattle.jv_cut.specs.declared.nesting.Quote.{Quote}
use Rattle.jv_cut.specs.declared.nesting.Quote.TheVariants.{Outside, Inside, Escaped}
use Rattle.jv_text.specs.Numbers.{run_text, after_run, is_in_run, whole_numbers}
use Rattle.jv_text.specs.private.PlainTokens.{IsPlain, ArePlain, KeepsPlain}
use Rattle.jv_text.proofs.Runs.{goes_on, stops, at_end}
use Rattle.jv_text.proofs.Short.{run_not_begun}

-- ---- the class of a byte

abbrev Facts : Class → ℕ → Type 0
Facts quote x = x ≡ 34
Facts backslash x = x ≡ 92
Facts operator x = ((x == 34) ≡ false) × ((x == 92) ≡ false) × (is_operator x ≡ true)
Facts space x = ((x == 34) ≡ false) × ((x == 92) ≡ false) × (is_space x ≡ true)
Facts other x = ((x == 34) ≡ false) × ((x == 92) ≡ false) × (is_operator x ≡ false) × (is_space x ≡ false)

facts_of : (x : ℕ) (q b o s : Bool) → (x == 34) ≡ q → (x == 92) ≡ b → is_operator x ≡ o → is_space x ≡ s → Facts (cond q quote (cond b backslash (cond o operator (cond s space other)))) x
facts_of x true b o s e f g h = eqb-true x 34 e
facts_of x false true o s e f g h = eqb-true x 92 f
facts_of x false false true s e f g h = (e, f, g)
facts_of x false false false true e f g h = (e, f, h)
facts_of x false false false false e f g h = (e, f, g, h)

class_facts : (x : ℕ) → Facts (class x) x
class_facts x = facts_of x (x == 34) (x == 92) (is_operator x) (is_space x) refl refl refl refl

other_facts : (x : ℕ) → class x ≡ other → Facts other x
other_facts x e = subst (λ c. Facts c x) e (class_facts x)

-- not an operator and not a space
neither : (x : ℕ) → is_operator x ≡ false → is_space x ≡ false → (is_operator x || is_space x) ≡ true → ⊥
neither x o s h = true≢false (sym h ∙ ap (λ b. b || is_space x) o ∙ s)

not_other : (x n : ℕ) → x ≡ n → (x == n) ≡ false → ((n == n) ≡ true) → ⊥
not_other x n e f h = true≢false (sym h ∙ ap (λ y. y == n) (sym e) ∙ f)

operator_ends : (s a c b d f e q : Bool) → (a || b || c || d || e || f) ≡ true → not (s || (a || c) || (b || d) || f || e || q) ≡ false
operator_ends true a c b d f e q h = refl
operator_ends false true c b d f e q h = refl
operator_ends false false true b d f e q h = refl
operator_ends false false false true d f e q h = refl
operator_ends false false false false true f e q h = refl
operator_ends false false false false false true e q h = refl
operator_ends false false false false false false true q h = refl
operator_ends false false false false false false false q h = absurd (false≢true h)

other_goes_on : (a b c d e f s q : Bool) → (a || b || c || d || e || f) ≡ false → s ≡ false → q ≡ false → not (s || (a || c) || (b || d) || f || e || q) ≡ true
other_goes_on true b c d e f s q h i j = absurd (true≢false h)
other_goes_on false true c d e f s q h i j = absurd (true≢false h)
other_goes_on false false true d e f s q h i j = absurd (true≢false h)
other_goes_on false false false true e f s q h i j = absurd (true≢false h)
other_goes_on false false false false true f s q h i j = absurd (true≢false h)
other_goes_on false false false false false true s q h i j = absurd (true≢false h)
other_goes_on false false false false false false s q h i j = rw (i, j) refl

bare_operator : (x : ℕ) → is_operator x ≡ true → is_bare x ≡ false
bare_operator x h = operator_ends (is_space x) (x == 123) (x == 91) (x == 125) (x == 93) (x == 44) (x == 58) (x == 34) h

bare_space : (x : ℕ) → is_space x ≡ true → is_bare x ≡ false
bare_space x h = rw h refl

bare_other : (x : ℕ) → Facts other x → is_bare x ≡ true
bare_other x h = other_goes_on (x == 123) (x == 125) (x == 91) (x == 93) (x == 58) (x == 44) (is_space x) (x == 34) h.2 h.3 h.0

-- ---- the bytes of a word

abbrev pub AllOther : List ℕ → Type 0
AllOther [] = Unit {0}
AllOther (x ∷ xs) = (class x ≡ other) × AllOther xs

other_append : (v w : List ℕ) → AllOther v → AllOther w → AllOther (v ++ w)
other_append [] w h k = k
other_append (x ∷ xs) w h k = (h.0, other_append xs w h.1 k)

-- the text t without bytes of a word at its start is `rest`
record Passes (t rest : List ℕ) : Type 0 where
  front : List ℕ
  is : t ≡ front ++ rest
  others : AllOther front

none : (t : List ℕ) → Passes t t
none t = record { front = []; is = refl; others = tt }

after : (t u r : List ℕ) → Passes t u → Passes u r → Passes t r
after t u r p q =
    record {
      front = p.front ++ q.front;
      is = p.is ∙ ap (λ l. p.front ++ l) q.is ∙ sym (append_assoc p.front q.front r);
      others = other_append p.front q.front p.others q.others;
    }

one : (c : ℕ) (t : List ℕ) → class c ≡ other → (head t == c) ≡ true → Passes t (drop 1 t)
one c [] k e = none []
one c (x ∷ xs) k e = record { front = x ∷ []; is = refl; others = (ap (λ y. class y) (eqb-true x c e) ∙ k, tt) }

pub digit_is_other : (x : ℕ) → is_ascii_digit x ≡ true → class x ≡ other
digit_is_other x h =
    let both = and_parts _ _ h in
    let low : 48 ≤ x = leb-true 48 x both.0 in
    let high : x ≤ 57 = leb-true x 57 both.1 in
    rw (
      ne_eqb x 34 (λ e. omega arith),
      ne_eqb x 92 (λ e. omega arith),
      ne_eqb x 123 (λ e. omega arith),
      ne_eqb x 125 (λ e. omega arith),
      ne_eqb x 91 (λ e. omega arith),
      ne_eqb x 93 (λ e. omega arith),
      ne_eqb x 58 (λ e. omega arith),
      ne_eqb x 44 (λ e. omega arith),
      ne_eqb x 32 (λ e. omega arith),
      ne_eqb x 9 (λ e. omega arith),
      ne_eqb x 10 (λ e. omega arith),
      ne_eqb x 13 (λ e. omega arith),
    ) refl

digits_at : (d : Bool) (x : ℕ) (xs : List ℕ) (n : ℕ) → (d ≡ true → class x ≡ other) → Passes xs (drop n xs) → Passes (x ∷ xs) (drop (cond d (1 + n) 0) (x ∷ xs))
digits_at false x xs n k p = none (x ∷ xs)
digits_at true x xs n k p =
    let e : suc n ≡ 1 + n = omega arith in
    record { front = x ∷ p.front; is = ap (λ l. x ∷ l) p.is ∙ ap (λ m. (x ∷ p.front) ++ drop m (x ∷ xs)) e; others = (k refl, p.others) }

digits : (t : List ℕ) → Passes t (drop (prefix_len is_ascii_digit t) t)
digits [] = none []
digits (x ∷ xs) = digits_at (is_ascii_digit x) x xs (prefix_len is_ascii_digit xs) (digit_is_other x) (digits xs)

-- what follows a part of a number, if there is such a part
abbrev Then : List ℕ → Option (List ℕ) → Type 0
Then t None = Unit {0}
Then t (Some r) = Passes t r

by_test : (t : List ℕ) (b : Bool) (x y : Option (List ℕ)) → (b ≡ true → Then t x) → Then t y → Then t (cond b x y)
by_test t true x y f g = f refl
by_test t false x y f g = g

further : (t u : List ℕ) (o : Option (List ℕ)) → Passes t u → Then u o → Then t o
further t u None p h = tt
further t u (Some r) p h = after t u r p h

after_both : (t : List ℕ) (f : List ℕ → Option (List ℕ)) → ((u : List ℕ) → Then u (f u)) → (o : Option (List ℕ)) → Then t o → Then t (option_and_then f o)
after_both t f g None h = tt
after_both t f g (Some u) h = further t u (f u) h (g u)

skipped : (t : List ℕ) (b : Bool) → (b ≡ true → Passes t (drop 1 t)) → Passes t (cond b (drop 1 t) t)
skipped t true f = f refl
skipped t false f = none t

either : (a b : ℕ) (t : List ℕ) → class a ≡ other → class b ≡ other → ((head t == a) || (head t == b)) ≡ true → Passes t (drop 1 t)
either a b t p q e = elim (or_cases _ _ e) [ inl h ↦ one a t p h | inr h ↦ one b t q h ]

some_digits : (t : List ℕ) → Then t (after_digits t)
some_digits t = by_test t (prefix_len is_ascii_digit t == 0) None _ (λ e. tt) (digits t)

whole : (t : List ℕ) → Then t (after_whole t)
whole t = by_test t (head t == 48) (Some (drop 1 t)) _ (λ e. one 48 t refl e) (some_digits t)

fraction : (t : List ℕ) → Then t (after_fraction t)
fraction t = by_test t (head t == 46) _ (Some t) (λ e. further t (drop 1 t) _ (one 46 t refl e) (some_digits (drop 1 t))) (none t)

exponent : (t : List ℕ) → Then t (after_exponent t)
exponent t =
    let u = drop 1 t in
    by_test t ((head t == 101) || (head t == 69)) _ (Some t) (λ e. further t u _ (either 101 69 t refl refl e) (further u (after_sign u) _ (skipped u _ (either 45 43 u refl refl)) (some_digits (after_sign u)))) (none t)

number_passes : (t : List ℕ) → Then t (after_number t)
unfolding after_number
number_passes t =
    let u = after_minus t in
    after_both t after_exponent exponent _ (after_both t after_fraction fraction _ (further t u _ (skipped t (head t == 45) (one 45 t refl)) (whole u)))

-- the text begins with a word that is a run in printed form
record WordRun (t : List ℕ) : Type 0 where
  front : List ℕ
  rest : List ℕ
  is : t ≡ front ++ rest
  others : AllOther front
  ended : ends_word rest ≡ true
  printed : run_text front ≡ Some front

choose : (b : Bool) (x y : Token) (P : Type 0) → (b ≡ true → IsPlain x → P) → (IsPlain y → P) → IsPlain (cond b x y) → P
choose true x y P f g h = f refl h
choose false x y P f g h = g h

number_word : (t : List ℕ) (o : Option (List ℕ)) → Then t o → IsPlain (number_before t o) → WordRun t
number_word t None p h = absurd h
number_word t (Some r) p h =
    let n : length t - length r ≡ length p.front = omega (arith, ap length p.is, length-append p.front r) in
    let text : take (length t - length r) t ≡ p.front = ap (λ k. take k t) n ∙ ap (take (length p.front)) p.is ∙ take-append_seam p.front r in
    choose (ends_word r) (number (take (length t - length r) t)) bad (WordRun t)
    (λ e q. record { front = p.front; rest = r; is = p.is; others = p.others; ended = e; printed = subst (λ s. run_text s ≡ Some s) text q }) (λ q. absurd q) h

literal_word : (name : List ℕ) (k : Token) (t : List ℕ) → AllOther name → run_text name ≡ Some name → IsPlain (literal name k t) → WordRun t
literal_word name k t others printed =
    choose _ k bad (WordRun t)
    (λ e q.
    let both = and_parts _ _ e in
    let front : name ≡ take (length name) t = (bytes_eq-Decides name (take (length name) t)).0 both.0 in
    record { front = name; rest = drop (length name) t; is = sym (take-append-drop (length name) t) ∙ ap (λ l. l ++ drop (length name) t) (sym front); others = others; ended = both.1; printed = printed }) (λ q. absurd q)

word_run : (t : List ℕ) → IsPlain (word t) → WordRun t
unfolding word
word_run t =
    choose (head t == 116) _ _ _ (λ e. literal_word (116 ∷ 114 ∷ 117 ∷ 101 ∷ []) (boolean true) t (refl, (refl, (refl, (refl, tt)))) (run_not_begun (116 ∷ 114 ∷ 117 ∷ 101 ∷ []) refl))
    (choose (head t == 102) _ _ _ (λ e. literal_word (102 ∷ 97 ∷ 108 ∷ 115 ∷ 101 ∷ []) (boolean false) t (refl, (refl, (refl, (refl, (refl, tt))))) (run_not_begun (102 ∷ 97 ∷ 108 ∷ 115 ∷ 101 ∷ []) refl))
    (choose (head t == 110) _ _ _ (λ e. literal_word (110 ∷ 117 ∷ 108 ∷ 108 ∷ []) null t (refl, (refl, (refl, (refl, tt)))) (run_not_begun (110 ∷ 117 ∷ 108 ∷ 108 ∷ []) refl)) (number_word t (after_number t) (number_passes t))))

-- ---- the lexemes under the tokens

abbrev PlainLexeme : Lexeme → Type 0
PlainLexeme (token t) = IsPlain t
PlainLexeme comma = Unit {0}
PlainLexeme colon = Unit {0}

abbrev PlainLexemes : List Lexeme → Type 0
PlainLexemes [] = Unit {0}
PlainLexemes (l ∷ ls) = PlainLexeme l × PlainLexemes ls

allowed : (b : Bool) (t : Token) (k : Place → List Token) (next : Place) → ArePlain (if_allowed b t k next) → IsPlain t × ArePlain (k next)
allowed true t k next h = h
allowed false t k next h = absurd h.0

placed : (p : Place) (t : Token) (b : Bool) (k : Place → List Token) (P : Type 0) → ((n : Place) → ArePlain (k n) → P) → ArePlain (place_token p t b k) → IsPlain t × P
placed p begin_object b k P f h = let a = allowed (may_begin p) begin_object k fresh h in (a.0, f fresh a.1)
placed p end_object b k P f h = let a = allowed (may_close p) end_object k after_value h in (a.0, f after_value a.1)
placed p begin_array b k P f h = let a = allowed (may_begin p) begin_array k fresh h in (a.0, f fresh a.1)
placed p end_array b k P f h = let a = allowed (may_close p) end_array k after_value h in (a.0, f after_value a.1)
placed p (key s) b k P f h = absurd h.0
placed p (string s) true k P f h = let a = allowed (may_begin p) (key s) k after_key h in (tt, f after_key a.1)
placed p (string s) false k P f h = let a = allowed (may_begin p) (string s) k after_value h in (tt, f after_value a.1)
placed p (number s) b k P f h = let a = allowed (may_begin p) (number s) k after_value h in (a.0, f after_value a.1)
placed p (boolean v) b k P f h = let a = allowed (may_begin p) (boolean v) k after_value h in (a.0, f after_value a.1)
placed p null b k P f h = let a = allowed (may_begin p) null k after_value h in (a.0, f after_value a.1)
placed p bad b k P f h = absurd h.0

plain_lexemes : (ls : List Lexeme) (p : Place) → ArePlain (punctuate p ls) → PlainLexemes ls
unfolding punctuate
plain_lexemes [] p h = tt
plain_lexemes (token t ∷ ls) p h = placed p t (begins_colon ls) (λ n. punctuate n ls) (PlainLexemes ls) (plain_lexemes ls) h
plain_lexemes (comma ∷ ls) fresh h = absurd h.0
plain_lexemes (comma ∷ ls) after_value h = (tt, plain_lexemes ls after_comma h)
plain_lexemes (comma ∷ ls) after_comma h = absurd h.0
plain_lexemes (comma ∷ ls) after_key h = absurd h.0
plain_lexemes (colon ∷ ls) fresh h = absurd h.0
plain_lexemes (colon ∷ ls) after_value h = absurd h.0
plain_lexemes (colon ∷ ls) after_comma h = absurd h.0
plain_lexemes (colon ∷ ls) after_key h = (tt, plain_lexemes ls fresh h)

-- ---- the bytes under the lexemes

-- what is left of a word: the run so far and these bytes together are in printed form
record WordLeft (run xs : List ℕ) : Type 0 where
  front : List ℕ
  rest : List ℕ
  is : xs ≡ front ++ rest
  others : AllOther front
  ended : ends_word rest ≡ true
  printed : run_text (run ++ front) ≡ Some (run ++ front)

-- the text from here on, where the lexer is in this mode, is in printed form
abbrev Claim : Mode → List ℕ → Type 0
Claim between xs = whole_numbers Outside [] xs ≡ Some xs
Claim in_word xs = (run : List ℕ) → WordLeft run xs → whole_numbers Outside run xs ≡ Some (run ++ xs)
Claim in_string xs = whole_numbers Inside [] xs ≡ Some xs
Claim in_escape xs = whole_numbers Escaped [] xs ≡ Some xs

no_run : run_text [] ≡ Some []
no_run = run_not_begun [] refl

stop_at : (q next : Quote) (run : List ℕ) (x : ℕ) (xs : List ℕ) → is_in_run q x ≡ false → next_quote q x ≡ next → run_text run ≡ Some run → whole_numbers next [] xs ≡ Some xs → whole_numbers q run (x ∷ xs) ≡ Some (run ++ x ∷ xs)
stop_at q next run x xs e n rt h =
    stops q run x xs e ∙ ap (λ o. after_run o x (whole_numbers (next_quote q x) [] xs)) rt ∙ ap (λ m. after_run (Some run) x (whole_numbers m [] xs)) n ∙ ap (after_run (Some run) x) h

stays_outside : (x : ℕ) → (x == 34) ≡ false → next_quote Outside x ≡ Outside
stays_outside x e = rw e refl

stays_inside : (x : ℕ) → (x == 34) ≡ false → (x == 92) ≡ false → next_quote Inside x ≡ Inside
stays_inside x e f = rw (e, f) refl

abbrev IsOther : Class → Bool
IsOther quote = false
IsOther backslash = false
IsOther operator = false
IsOther space = false
IsOther other = true

-- only a byte of the class `other` begins what is left of a word, and otherwise the word has ended
left_other : (c : Class) (x : ℕ) → Facts c x → Facts other x → IsOther c ≡ true
left_other quote x f h = absurd (not_other x 34 f h.0 refl)
left_other backslash x f h = absurd (not_other x 92 f h.1 refl)
left_other operator x f h = absurd (true≢false (sym f.2 ∙ h.2))
left_other space x f h = absurd (true≢false (sym f.2 ∙ h.3))
left_other other x f h = refl

abbrev Ends : Class → Bool
Ends quote = false
Ends backslash = false
Ends operator = true
Ends space = true
Ends other = false

left_ended : (c : Class) (x : ℕ) → Facts c x → (is_operator x || is_space x) ≡ true → Ends c ≡ true
left_ended quote x f h = absurd (true≢false (sym h ∙ ap (λ y. is_operator y || is_space y) f))
left_ended backslash x f h = absurd (true≢false (sym h ∙ ap (λ y. is_operator y || is_space y) f))
left_ended operator x f h = refl
left_ended space x f h = refl
left_ended other x f h = absurd (neither x f.2 f.3 h)

-- the word ends before x, or goes on with it
data Left (c : Class) (run : List ℕ) (x : ℕ) (xs : List ℕ) : Type 0 where
  over : Ends c ≡ true → run_text run ≡ Some run → Left c run x xs
  more : IsOther c ≡ true → WordLeft (run ++ x ∷ []) xs → Left c run x xs

left_by : (c : Class) (run : List ℕ) (x : ℕ) (xs front rest : List ℕ) → Facts c x → x ∷ xs ≡ front ++ rest → AllOther front → ends_word rest ≡ true → run_text (run ++ front) ≡ Some (run ++ front) → Left c run x xs
left_by c run x xs [] rest f is others ended printed =
    over (left_ended c x f (ap ends_word is ∙ ended)) (subst (λ r. run_text r ≡ Some r) (append-nil run) printed)
left_by c run x xs (y ∷ front) rest f is others ended printed =
    let same : x ≡ y = ap head is in
    let tail : xs ≡ front ++ rest = ap (drop 1) is in
    let joined : run ++ y ∷ front ≡ (run ++ x ∷ []) ++ front = ap (λ z. run ++ z ∷ front) (sym same) ∙ sym (append_assoc run (x ∷ []) front) in
    more (left_other c x f (subst (Facts other) (sym same) (other_facts y others.0)))
    (record { front = front; rest = rest; is = tail; others = others.1; ended = ended; printed = subst (λ r. run_text r ≡ Some r) joined printed })

left_at : (c : Class) (run : List ℕ) (x : ℕ) (xs : List ℕ) → Facts c x → WordLeft run (x ∷ xs) → Left c run x xs
left_at c run x xs f w = left_by c run x xs w.front w.rest f w.is w.others w.ended w.printed

-- one more byte of a word
word_on : (run : List ℕ) (x : ℕ) (xs : List ℕ) → Facts other x → Claim in_word xs → WordLeft (run ++ x ∷ []) xs → whole_numbers Outside run (x ∷ xs) ≡ Some (run ++ x ∷ xs)
word_on run x xs f claim w = goes_on Outside run x xs (bare_other x f) ∙ claim (run ++ x ∷ []) w ∙ ap Some (append_assoc run (x ∷ []) xs)

word_here : (c : Class) (run : List ℕ) (x : ℕ) (xs : List ℕ) → Facts c x → Left c run x xs → (Ends c ≡ true → run_text run ≡ Some run → whole_numbers Outside run (x ∷ xs) ≡ Some (run ++ x ∷ xs))
    → (IsOther c ≡ true → WordLeft (run ++ x ∷ []) xs → whole_numbers Outside run (x ∷ xs) ≡ Some (run ++ x ∷ xs)) → whole_numbers Outside run (x ∷ xs) ≡ Some (run ++ x ∷ xs)
word_here c run x xs f (over e r) g h = g e r
word_here c run x xs f (more e w) g h = h e w

step : (m : Mode) (c : Class) (x : ℕ) (xs : List ℕ) → Facts c x → PlainLexemes (lex_byte m c x xs (λ n. lex n xs)) → ((n : Mode) → PlainLexemes (lex n xs) → Claim n xs) → Claim m (x ∷ xs)
step between quote x xs f h k = stop_at Outside Inside [] x xs (rw f refl) (rw f refl) no_run (k in_string h.1)
step between backslash x xs f h k = absurd h.0
step between operator x xs f h k = stop_at Outside Outside [] x xs (bare_operator x f.2) (stays_outside x f.0) no_run (k between h.1)
step between space x xs f h k = stop_at Outside Outside [] x xs (bare_space x f.2) (stays_outside x f.0) no_run (k between h)
step between other x xs f h k =
    let w = word_run (x ∷ xs) h.0 in
    word_here other [] x xs f (left_by other [] x xs w.front w.rest f w.is w.others w.ended w.printed) (λ e. absurd (false≢true e)) (λ e. word_on [] x xs f (k in_word h.1))
step in_word quote x xs f h k = λ run w. word_here quote run x xs f (left_at quote run x xs f w) (λ e. absurd (false≢true e)) (λ e. absurd (false≢true e))
step in_word backslash x xs f h k = λ run w. word_here backslash run x xs f (left_at backslash run x xs f w) (λ e. absurd (false≢true e)) (λ e. absurd (false≢true e))
step in_word operator x xs f h k =
    λ run w. word_here operator run x xs f (left_at operator run x xs f w) (λ e r. stop_at Outside Outside run x xs (bare_operator x f.2) (stays_outside x f.0) r (k between h.1)) (λ e. absurd (false≢true e))
step in_word space x xs f h k =
    λ run w. word_here space run x xs f (left_at space run x xs f w) (λ e r. stop_at Outside Outside run x xs (bare_space x f.2) (stays_outside x f.0) r (k between h)) (λ e. absurd (false≢true e))
step in_word other x xs f h k = λ run w. word_here other run x xs f (left_at other run x xs f w) (λ e. absurd (false≢true e)) (λ e. word_on run x xs f (k in_word h))
step in_string quote x xs f h k = stop_at Inside Outside [] x xs refl (rw f refl) no_run (k between h)
step in_string backslash x xs f h k = stop_at Inside Escaped [] x xs refl (rw f refl) no_run (k in_escape h)
step in_string operator x xs f h k = stop_at Inside Inside [] x xs refl (stays_inside x f.0 f.1) no_run (k in_string h)
step in_string space x xs f h k = stop_at Inside Inside [] x xs refl (stays_inside x f.0 f.1) no_run (k in_string h)
step in_string other x xs f h k = stop_at Inside Inside [] x xs refl (stays_inside x f.0 f.1) no_run (k in_string h)
step in_escape c x xs f h k = stop_at Escaped Inside [] x xs refl refl no_run (k in_string h)

word_over : (run front rest : List ℕ) → [] ≡ front ++ rest → run_text (run ++ front) ≡ Some (run ++ front) → whole_numbers Outside run [] ≡ Some (run ++ [])
word_over run [] rest is printed = at_end Outside run ∙ subst (λ r. run_text r ≡ Some r) (append-nil run) printed ∙ ap Some (sym (append-nil run))
word_over run (y ∷ front) rest is printed = let never : ⊥ = omega (arith, ap length is, length-append front rest) in absurd never

at_the_end : (m : Mode) → Claim m []
at_the_end between = at_end Outside [] ∙ no_run
at_the_end in_word = λ run w. word_over run w.front w.rest w.is w.printed
at_the_end in_string = at_end Inside [] ∙ no_run
at_the_end in_escape = at_end Escaped [] ∙ no_run

claims : (xs : List ℕ) (m : Mode) → PlainLexemes (lex m xs) → Claim m xs
unfolding lex
claims [] m h = at_the_end m
claims (x ∷ xs) m h = step m (class x) x xs (class_facts x) h (claims xs)

pub plain_text : (text : List ℕ) → ArePlain (tokens text) → whole_numbers Outside [] text ≡ Some text
plain_text text h = claims text between (plain_lexemes (lex between text) fresh h)

-- ---- the tokens that a call took

pub took_none : (old new : List Token) → new ≡ old → KeepsPlain old new
took_none old new e = record { plain = λ h. subst ArePlain e h }

pub took_first : (t : Token) (old mid new : List Token) → old ≡ t ∷ mid → IsPlain t → KeepsPlain mid new → KeepsPlain old new
took_first t old mid new e p k = record { plain = λ h. subst ArePlain (sym e) (p, k.plain h) }

pub took_both : (old mid new : List Token) → KeepsPlain old mid → KeepsPlain mid new → KeepsPlain old new
took_both old mid new a b = record { plain = λ h. a.plain (b.plain h) }

pub took_all : (text : List ℕ) (old new : List Token) → old ≡ tokens text → new ≡ [] → KeepsPlain old new → whole_numbers Outside [] text ≡ Some text
took_all text old new e none k = plain_text text (subst ArePlain e (k.plain (subst ArePlain (sym none) tt)))
