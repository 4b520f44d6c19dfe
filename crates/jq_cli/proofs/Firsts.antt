-- The first variable of each name, one variable after the other.
use Rattle.jq_cli.specs.private.Variables.{with_first}
use Rattle.std.proofs.Common.{◌≡◌, ◌∙◌, ℕ, Bool, List, [], ◌∷◌, ◌++◌, true, false, not, cond, refl, sym, ap, ap₂, String, Global, string_bytes}
use Rattle.std.specs.Prelude.{◌||◌, filter}
use Rattle.std.specs.List.{list_any}
use Rattle.std.specs.Str.{bytes_eq, chars, IsUtf8}
use Rattle.std.proofs.lemmas.Slice.Eq.{bytes_eq-Decides}
use Rattle.std.proofs.lemmas.List.{append-nil}
use Rattle.std.proofs.lemmas.Str.{IsUtf8-string_bytes}
use Rattle.jq_syntax.specs.Chosen.{variables_of}
use Rattle.jv_data.proofs.shared.Texts.{bytes_eq-sym, same_characters}
use Rattle.jv_data.specs.declared.values.Val.{Val}
use Rattle.jq_cli.specs.Pieces.{Variable, firsts, is_named}

-- a name is compared by its bytes
pub known : (name : List ℕ) (vars : List (String Global × Val)) → IsUtf8 name
    → list_any (λ v. bytes_eq (string_bytes v.0) name) vars ≡ list_any (is_named (chars name)) (variables_of vars)
known name [] u = refl
known name (v ∷ vs) u = ap₂ (λ p q. p || q) (same_characters (string_bytes v.0) name (IsUtf8-string_bytes v.0) u) (known name vs u)

filter-append : (test : Variable → Bool) (xs : List Variable) (v : Variable) → filter test (xs ++ v ∷ []) ≡ filter test xs ++ filter test (v ∷ [])
filter-append test [] v = refl
filter-append test (x ∷ xs) v = go (test x) (filter-append test xs v)
  where
    go : (b : Bool) → filter test (xs ++ v ∷ []) ≡ filter test xs ++ filter test (v ∷ [])
        → cond b (x ∷ filter test (xs ++ v ∷ [])) (filter test (xs ++ v ∷ [])) ≡ cond b (x ∷ filter test xs) (filter test xs) ++ filter test (v ∷ [])
    go true e = ap (λ ys. x ∷ ys) e
    go false e = e

abbrev others : Variable → List Variable → List Variable
others x = filter (λ w. not (is_named x.0 w))

-- a variable with another name than x occurs in a list exactly if it occurs among those that are not named as x
known_among_others : (v x : Variable) (xs : List Variable) → is_named v.0 x ≡ false → list_any (is_named v.0) (others x xs) ≡ list_any (is_named v.0) xs
known_among_others v x [] apart = refl
known_among_others v x (w ∷ ws) apart = go (is_named x.0 w) refl (known_among_others v x ws apart)
  where
    go : (b : Bool) → is_named x.0 w ≡ b → list_any (is_named v.0) (others x ws) ≡ list_any (is_named v.0) ws
        → list_any (is_named v.0) (cond (not b) (w ∷ others x ws) (others x ws)) ≡ (is_named v.0 w || list_any (is_named v.0) ws)
    go false e rest = ap (λ b. is_named v.0 w || b) rest
    go true e rest = also (is_named v.0 w) refl
      where
        also : (b : Bool) → is_named v.0 w ≡ b → list_any (is_named v.0) (others x ws) ≡ (b || list_any (is_named v.0) ws)
        also false n = rest
        also true n =
            let same : is_named v.0 x ≡ true = (bytes_eq-Decides x.0 v.0).1 (sym ((bytes_eq-Decides w.0 x.0).0 e) ∙ (bytes_eq-Decides w.0 v.0).0 n) in
            cc

-- one more variable
pub firsts-push : (vs : List Variable) (v : Variable) → firsts (vs ++ v ∷ []) ≡ with_first (firsts vs) v
firsts-push [] v = refl
firsts-push (x ∷ vs) v = ap (λ ys. x ∷ others x ys) (firsts-push vs v) ∙ go (is_named v.0 x) refl
  where
    alone : (b : Bool) → is_named x.0 v ≡ b → others x (v ∷ []) ≡ cond (not b) (v ∷ []) []
    alone b e = ap (λ t. cond (not t) (v ∷ []) []) e

    go : (b : Bool) → is_named v.0 x ≡ b → x ∷ others x (with_first (firsts vs) v) ≡ cond (b || list_any (is_named v.0) (others x (firsts vs))) (x ∷ others x (firsts vs)) ((x ∷ others x (firsts vs)) ++ v ∷ [])
    go true e = ap (λ ys. x ∷ ys) (same (list_any (is_named v.0) (firsts vs)))
      where
        same : (b : Bool) → others x (cond b (firsts vs) (firsts vs ++ v ∷ [])) ≡ others x (firsts vs)
        same true = refl
        same false = filter-append (λ w. not (is_named x.0 w)) (firsts vs) v ∙ ap (λ ys. others x (firsts vs) ++ ys) (alone true (bytes_eq-sym v.0 x.0 ∙ e))
            ∙ append-nil (others x (firsts vs))
    go false e = ap (λ ys. x ∷ ys) (both (list_any (is_named v.0) (firsts vs)) refl) ∙ move (list_any (is_named v.0) (others x (firsts vs)))
      where
        both : (b : Bool) → list_any (is_named v.0) (firsts vs) ≡ b
            → others x (cond b (firsts vs) (firsts vs ++ v ∷ [])) ≡ cond (list_any (is_named v.0) (others x (firsts vs))) (others x (firsts vs)) (others x (firsts vs) ++ v ∷ [])
        both true k = ap (λ b. cond b (others x (firsts vs)) (others x (firsts vs) ++ v ∷ [])) (sym (known_among_others v x (firsts vs) e ∙ k))
        both false k =
            filter-append (λ w. not (is_named x.0 w)) (firsts vs) v ∙ ap (λ ys. others x (firsts vs) ++ ys) (alone false (bytes_eq-sym v.0 x.0 ∙ e))
            ∙ ap (λ b. cond b (others x (firsts vs)) (others x (firsts vs) ++ v ∷ [])) (sym (known_among_others v x (firsts vs) e ∙ k))

        move : (b : Bool) → x ∷ cond b (others x (firsts vs)) (others x (firsts vs) ++ v ∷ []) ≡ cond b (x ∷ others x (firsts vs)) ((x ∷ others x (firsts vs)) ++ v ∷ [])
        move true = refl
        move false = refl
