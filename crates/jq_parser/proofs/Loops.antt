-- The parameters of a definition, read one after the other.
use Rattle.std.proofs.Common.{◌≡◌, ℕ, zero, suc, ◌≤◌, ◌<◌, List, [], ◌∷◌, ◌++◌, length, true, false, Some, None, refl, ap, sym, ◌∙◌, append_assoc, arith}
use Rattle.jq_tree.specs.Token.{Token, name, variable}
use Rattle.jq_tree.specs.Token as token
use Rattle.jq_tree.specs.WrittenOut.{Parameter, by_filter, by_value}
use Rattle.jq_parser.specs.laws.Combinators.{Outcome, first, tail, is_symbol, separated, next_item, and_then}
use Rattle.jq_parser.specs.laws.Forms.{parameter, parameter_on, parameter_list, one_parameter, more_parameters}

abbrev pub listing : ℕ → List Token → Outcome (List Parameter)
listing n i = separated token.semicolon one_parameter more_parameters parameter n i

abbrev pub after : List Parameter → Outcome (List Parameter) → Outcome (List Parameter)
after ps (Some r) = Some (ps ++ r.0, r.1)
after ps None = None

pub after_none : (o : Outcome (List Parameter)) → o ≡ after [] o
after_none (Some r) = refl
after_none None = refl

after_one : (ps : List Parameter) (p : Parameter) (o : Outcome (List Parameter)) → after ps (and_then o (λ qs i. Some (more_parameters p qs, i))) ≡ after (ps ++ p ∷ []) o
unfolding and_then
after_one ps p (Some r) = ap (λ qs. Some (qs, r.1)) (sym (append_assoc ps (p ∷ []) r.0))
after_one ps p None = refl

abbrev rest_of : {A : Type 0} → Outcome A → List Token
rest_of (Some r) = r.1
rest_of None = []

-- A parameter takes one token.
taken : (i : List Token) (p : Parameter) (j : List Token) → parameter i ≡ Some (p, j) → length j < length i
unfolding parameter parameter_on and_then
taken [] p j e = absurd (cc e)
taken (name v ∷ i) p j e = let d : Some (by_filter v, i) ≡ Some (p, j) = e in let l : i ≡ j = ap rest_of d in omega (arith, ap length l)
taken (variable v ∷ i) p j e = let d : Some (by_value v, i) ≡ Some (p, j) = e in let l : i ≡ j = ap rest_of d in omega (arith, ap length l)
taken (t ∷ i) p j e = absurd (cc e)

pub record Reads (all : List Token) (ps : List Parameter) (i : List Token) : Type 0 where
  pub turns : ℕ
  pub enough : length i ≤ turns
  pub same : parameter_list all ≡ after ps (listing turns i)

pub reads_start : (all : List Token) → Reads all [] all
unfolding parameter_list
reads_start all = record { turns = length all; enough = omega arith; same = after_none (listing (length all) all) }

one_more : (n : ℕ) (i : List Token) (p : Parameter) (j : List Token) → length i ≤ n → parameter i ≡ Some (p, j) → is_symbol token.semicolon (first j) ≡ true
    → (k : ℕ) × (length (tail j) ≤ k) × (listing n i ≡ and_then (listing k (tail j)) (λ qs r. Some (more_parameters p qs, r)))
unfolding separated next_item and_then
one_more zero i p j h e s = absurd (omega (arith, taken i p j e))
one_more (suc n) i p [] h e s = absurd (cc s)
one_more (suc n) i p (t ∷ j) h e s = (n, omega (arith, taken i p (t ∷ j) e), rw (e, s))

pub reads_more : (all : List Token) (ps : List Parameter) (i : List Token) (p : Parameter) (j : List Token) → Reads all ps i → parameter i ≡ Some (p, j) → is_symbol token.semicolon (first j) ≡ true → Reads all (ps ++ p ∷ []) (tail j)
reads_more all ps i p j h e s =
    let k = one_more h.turns i p j h.enough e s in
    record { turns = k.0; enough = k.1; same = h.same ∙ ap (after ps) k.2 ∙ after_one ps p (listing k.0 (tail j)) }

last_one : (n : ℕ) (i : List Token) (p : Parameter) (j : List Token) → length i ≤ n → parameter i ≡ Some (p, j) → is_symbol token.semicolon (first j) ≡ false → listing n i ≡ Some (p ∷ [], j)
unfolding separated next_item and_then
last_one zero i p j h e s = absurd (omega (arith, taken i p j e))
last_one (suc n) i p j h e s = rw (e, s)

pub reads_last : (all : List Token) (ps : List Parameter) (i : List Token) (p : Parameter) (j : List Token) → Reads all ps i → parameter i ≡ Some (p, j) → is_symbol token.semicolon (first j) ≡ false → parameter_list all ≡ Some (ps ++ p ∷ [], j)
reads_last all ps i p j h e s = h.same ∙ ap (after ps) (last_one h.turns i p j h.enough e s)

none_left : (n : ℕ) (i : List Token) → parameter i ≡ None → listing n i ≡ None
unfolding separated next_item and_then
none_left zero i e = refl
none_left (suc n) i e = rw e

pub reads_stop : (all : List Token) (ps : List Parameter) (i : List Token) → Reads all ps i → parameter i ≡ None → parameter_list all ≡ None
reads_stop all ps i h e = h.same ∙ ap (after ps) (none_left h.turns i e)

pub shorter : (i : List Token) (p : Parameter) (j : List Token) → parameter i ≡ Some (p, j) → length (tail j) < length i
shorter i p [] e = omega (arith, taken i p [] e)
shorter i p (t ∷ j) e = omega (arith, taken i p (t ∷ j) e)
