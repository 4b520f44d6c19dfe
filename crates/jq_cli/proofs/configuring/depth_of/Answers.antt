use Rattle.std.proofs.Common.{◌≡◌, ◌^◌, ◌∙◌, ℕ, Bool, true, false, List, [], ◌∷◌, length, Option, Some, None, ap, cond, refl, lt-ltb, ltb-true, codes}
use Rattle.std.specs.Char.{digit_value}
use Rattle.std.specs.List.{list_all}
use Rattle.std.specs.Prelude.{Ok, Err, Result, nat_lt, unwrap_or}
use Rattle.std.specs.Str.Parse.{AllDigits, ParsesUnsigned, ExplainsUnsignedError, HasUnsignedDigitsIfOk, digits_value, without_leading_plus}
use Rattle.clap.specs.Matches.{ReadsOne}
use Rattle.clap.specs.Words.{found_of, one_of, rows_of}
use Rattle.clap.proofs.WalkLemmas.{both, one_text-rows}
use Rattle.jq_cli.specs.Configuration.{are_digits, number_in}
use Rattle.jq_cli.proofs.configuring.depth_of.Goals as goal

digits_pass : (ds : List ℕ) → AllDigits 10 ds → list_all (λ d. nat_lt (digit_value d) 10) ds ≡ true
digits_pass [] h = refl
digits_pass (d ∷ ds) h = rw (lt-ltb (digit_value d) 10 h.0) (digits_pass ds h.1)

digits_from : (ds : List ℕ) → list_all (λ d. nat_lt (digit_value d) 10) ds ≡ true → AllDigits 10 ds
digits_from [] e = tt
digits_from (d ∷ ds) e =
    let parts = both _ _ e in
    (ltb-true _ _ parts.0, digits_from ds parts.1)

-- a text is read as the number that it is
reads : (E : Type 0) (G : List ℕ → Result ℕ E → Type 0) (t : List ℕ) (r : Option ℕ) → ReadsOne G t r → ((u : List ℕ) (x : Result ℕ E) → G u x → ParsesUnsigned 32 10 u x)
    → unwrap_or r 10000 ≡ number_in (Some t)
reads E G t (Some v) h only =
    let parsed = only t (Ok v) h in
    let ds = without_leading_plus t in
    rw (lt-ltb 0 (length ds) parsed.0.0.0, digits_pass ds parsed.0.0.1, lt-ltb (digits_value 10 ds) (2 ^ 32) parsed.0.1) parsed.1
reads E G t None h only = go (are_digits (without_leading_plus t)) refl
  where
    go : (b : Bool) → are_digits (without_leading_plus t) ≡ b → 10000 ≡ cond b (digits_value 10 (without_leading_plus t)) 10000
    go false e = refl
    go true e =
        let outer = both _ _ e in
        let inner = both _ _ outer.0 in
        absurd (only t (Err h.0) h.1 ((ltb-true _ _ inner.0, digits_from (without_leading_plus t) inner.1), ltb-true _ _ outer.1))

pub returns : goal.returns
returns c =
    go (one_of (codes "depth") (rows_of (found_of c.args.matches.now))) refl
  where
    go : (o : Option (List ℕ)) → one_of (codes "depth") (rows_of (found_of c.args.matches.now)) ≡ o → c.unwrap_or.result ≡ number_in o
    go None e = c.unwrap_or.ensures ∙ ap (λ r. unwrap_or r 10000) (c.get_one.ensures.none (one_text-rows (found_of c.args.matches.now) (codes "depth") ∙ e))
    go (Some t) e = c.unwrap_or.ensures ∙ reads _ (λ bs r. ParsesUnsigned 32 10 bs r × ExplainsUnsignedError 10 bs r × HasUnsignedDigitsIfOk bs r) t c.get_one.result (c.get_one.ensures.value t (one_text-rows (found_of c.args.matches.now) (codes "depth") ∙ e)) (λ u x g. g.0)
