-- What an escape represents.
use Rattle.std.proofs.Common.{◌≡◌, ℕ, zero, suc, List, [], ◌∷◌, Bool, true, false, sym, ap, ◌∙◌}
use Rattle.std.specs.Prelude.{Option, Some, None}
use Rattle.jq_tree.specs.Lexing.{hex_value, Hex, hex, escaped, is_plain}
use Rattle.jq_tree.specs.laws.Escapes.{hex_number}

abbrev pub nth : ℕ → List ℕ → ℕ
nth n [] = 0
nth zero (c ∷ cs) = c
nth (suc n) (c ∷ cs) = nth n cs

pub differ : (test : ℕ → Bool) {a b : ℕ} → a ≡ b → test a ≡ true → test b ≡ false → ⊥
differ test e f g = let h : true ≡ false = sym f ∙ ap test e ∙ g in cc h

pub no_plain : {c : ℕ} → 92 ≡ c → is_plain c ≡ true → ⊥
no_plain e h = let k : false ≡ true = ap is_plain e ∙ h in cc k

pub no_escape : (d : ℕ) {c e : ℕ} → escaped d ≡ None → d ≡ c → escaped c ≡ Some e → ⊥
no_escape d {c} {e} n f h = let k : None ≡ Some e = sym n ∙ ap escaped f ∙ h in cc k

pub hex_is : {a b c d n : ℕ} → Hex a b c d n → hex_number (hex_value a) (hex_value b) (hex_value c) (hex_value d) ≡ Some n
hex_is {a} {b} {c} {d} (hex {i} {j} {k} {l} e f g h) =
    ap (λ (x : Option ℕ). hex_number x (hex_value b) (hex_value c) (hex_value d)) e
    ∙ ap (λ (x : Option ℕ). hex_number (Some i) x (hex_value c) (hex_value d)) f
    ∙ ap (λ (x : Option ℕ). hex_number (Some i) (Some j) x (hex_value d)) g
    ∙ ap (λ (x : Option ℕ). hex_number (Some i) (Some j) (Some k) x) h

pub hex_at : (p q r t : ℕ) {a b c d n : ℕ} → p ≡ a → q ≡ b → r ≡ c → t ≡ d → Hex a b c d n
    → hex_number (hex_value p) (hex_value q) (hex_value r) (hex_value t) ≡ Some n
hex_at p q r t {a} {b} {c} {d} e f g h x =
    ap (λ (y : ℕ). hex_number (hex_value y) (hex_value q) (hex_value r) (hex_value t)) e
    ∙ ap (λ (y : ℕ). hex_number (hex_value a) (hex_value y) (hex_value r) (hex_value t)) f
    ∙ ap (λ (y : ℕ). hex_number (hex_value a) (hex_value b) (hex_value y) (hex_value t)) g
    ∙ ap (λ (y : ℕ). hex_number (hex_value a) (hex_value b) (hex_value c) (hex_value y)) h ∙ hex_is x

abbrev pub value_of : Option ℕ → ℕ
value_of None = 0
value_of (Some n) = n
