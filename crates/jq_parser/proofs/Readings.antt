-- Lists with a symbol between their items, the parameters of a definition, and what may follow an operand.
use Rattle.std.proofs.Common.{◌≡◌, ℕ, zero, suc, ◌+◌, ◌≤◌, List, ◌∷◌, ◌++◌, length, false, Some, refl, arith, eq-eqb, ◌⊎◌, inl, inr}
use Rattle.jq_tree.specs.Tree.{Name, Tree}
use Rattle.jq_tree.specs.Token.{Symbol, Token, name, variable, symbol}
use Rattle.jq_tree.specs.Token as token
use Rattle.jq_tree.specs.WrittenOut.{Parameter, by_filter, by_value}
use Rattle.jq_tree.specs.Grammar.{Left, side_of}
use Rattle.jq_tree.specs.Grammar as g
use Rattle.jq_builders.specs.Trees.{Function}
use Rattle.jq_parser.specs.laws.Combinators.{Parser, and_then, first, symbol_number, is_symbol, next_item, separated}
use Rattle.jq_parser.specs.laws.Forms.{one_parameter, more_parameters, parameter, parameter_on, parameter_list}
use Rattle.jq_parser.proofs.Follow.{follow, no_symbol}

abbrev pub function_of : Name → List Parameter → Tree → Function
function_of v ps a = record { named = v; parameters = ps; body = a }

-- what may follow on a level, if the same level may continue to the left
abbrev pub May : ℕ → List Token → Type 0
May l rest = (l + 3 ≤ follow rest) ⊎ ((l + 2 ≤ follow rest) × (side_of l ≡ Left))

-- ---- lists

pub list_one : {A B : Type 0} (s : Symbol) (one : A → B) (more : A → B → B) (q : Parser A) (a : A) (us rest : List Token) (k : ℕ) → 1 ≤ k
    → q us ≡ Some (a, rest) → is_symbol s (first rest) ≡ false → separated s one more q k us ≡ Some (one a, rest)
unfolding separated next_item and_then
list_one s one more q a us rest zero h e f = absurd (omega arith)
list_one s one more q a us rest (suc m) h e f = rw (e, f)

pub list_more : {A B : Type 0} (s : Symbol) (one : A → B) (more : A → B → B) (q : Parser A) (a : A) (b : B) (us vs rest : List Token) (k : ℕ) → 1 ≤ k
    → q us ≡ Some (a, symbol s ∷ vs) → ((m : ℕ) → k ≡ suc m → separated s one more q m vs ≡ Some (b, rest)) → separated s one more q k us ≡ Some (more a b, rest)
unfolding separated next_item and_then
list_more s one more q a b us vs rest zero h e go = absurd (omega arith)
list_more s one more q a b us vs rest (suc m) h e go = rw (e, eq-eqb (symbol_number s) (symbol_number s) refl, go m refl)

-- parameters

filter_read : (v : Name) (rest : List Token) → parameter (name v ∷ rest) ≡ Some (by_filter v, rest)
unfolding parameter parameter_on and_then
filter_read v rest = refl

value_parameter_read : (v : Name) (rest : List Token) → parameter (variable v ∷ rest) ≡ Some (by_value v, rest)
unfolding parameter parameter_on and_then
value_parameter_read v rest = refl

parameters_complete : {ts : List Token} {ps : List Parameter} → g.Parameters ts ps → (rest : List Token) → 13 ≤ follow rest → (k : ℕ) → length (ts ++ rest) ≤ k
    → separated token.semicolon one_parameter more_parameters parameter k (ts ++ rest) ≡ Some (ps, rest)
parameters_complete (g.last_filter {n = v}) rest h k l =
    list_one token.semicolon one_parameter more_parameters parameter (by_filter v) (name v ∷ rest) rest k (omega arith) (filter_read v rest) (no_symbol token.semicolon rest (omega arith))
parameters_complete (g.last_value {n = v}) rest h k l =
    list_one token.semicolon one_parameter more_parameters parameter (by_value v) (variable v ∷ rest) rest k (omega arith) (value_parameter_read v rest) (no_symbol token.semicolon rest (omega arith))
parameters_complete (g.one_filter {n = v} {ts = ts} {ps = ps} p) rest h k l =
    list_more token.semicolon one_parameter more_parameters parameter (by_filter v) ps (name v ∷ symbol token.semicolon ∷ (ts ++ rest)) (ts ++ rest) rest k (omega arith) (filter_read v (symbol token.semicolon ∷ (ts ++ rest)))
    (λ m e. parameters_complete p rest h m (omega arith))
parameters_complete (g.one_value {n = v} {ts = ts} {ps = ps} p) rest h k l =
    list_more token.semicolon one_parameter more_parameters parameter (by_value v) ps (variable v ∷ symbol token.semicolon ∷ (ts ++ rest)) (ts ++ rest) rest k (omega arith) (value_parameter_read v (symbol token.semicolon ∷ (ts ++ rest)))
    (λ m e. parameters_complete p rest h m (omega arith))

pub parameters_read : {ts : List Token} {ps : List Parameter} → g.Parameters ts ps → (rest : List Token) → 13 ≤ follow rest → parameter_list (ts ++ rest) ≡ Some (ps, rest)
unfolding parameter_list
parameters_read {ts = ts} p rest h = parameters_complete p rest h (length (ts ++ rest)) (omega arith)

-- ---- levels

-- ---- levels

pub may_3 : (l : ℕ) (rest : List Token) → May l rest → 3 ≤ follow rest
may_3 zero rest (inl h) = omega arith
may_3 zero rest (inr h) = absurd (cc h.1)
may_3 (suc l) rest (inl h) = omega arith
may_3 (suc l) rest (inr h) = omega (arith, h.0)

pub may_tighter : (l : ℕ) (rest : List Token) → May (suc l) rest → l + 3 ≤ follow rest
may_tighter l rest (inl h) = omega arith
may_tighter l rest (inr h) = omega (arith, h.0)
