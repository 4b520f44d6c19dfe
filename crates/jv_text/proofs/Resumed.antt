-- A text that is interrupted between two tokens, and goes on after the same place.
use Rattle.std.proofs.Common.{zero, suc, ◌≡◌, ◌∙◌, ℕ, ◌+◌, ◌-◌, ◌^◌, ◌≤◌, ◌<◌, List, [], ◌∷◌, ◌++◌, min, replicate, length, drop, fold, refl, sym, ap, append_assoc, Result, Ok, Err, is_ok, OnOk, Bool, if◌then◌else◌, append-nil, true, false, arith}
use Rattle.std.proofs.lemmas.List.{drop-append-le, drop_at}
use Rattle.std.proofs.lemmas.List.Sums.{fold_push}
use Rattle.json.specs.Layout.{Last, nothing, bracket, name, value, is_value, step, piece, pretty, pretty_from, state_after}
use Rattle.json.specs.Print.{ends_value, print, print_from}
use Rattle.json.specs.Token.{Token, begin_array, key, null}
use Rattle.json.proofs.Printed.Tokens.{print_from-append, ends_push}
use Rattle.jv_data.specs.Value.{Value as Data}
use Rattle.jv_text.specs.Printed.{compact, laid_out, pretty as pretty_text, tokens_of}
use Rattle.jv_text.specs.declared.nested.Open.{Open}
use Rattle.jv_text.specs.declared.printing.Style.{Style}
use Rattle.jv_text.specs.Pieces.{text_from}
use Rattle.jv_text.specs.PrintedTokens.{open_tokens}
use Rattle.jv_text.proofs.Spelt.{print-tokens_of}
use Rattle.jv_text.specs.Places.{place_of, replayed}
use Rattle.jv_text.specs.declared.places.Place.{Place}
use Rattle.jv_text.specs.declared.places.Place.TheVariants.{Nothing, Bracket, Key, Value}

-- ---- the part of a text after its first bytes

pub after_front : (text front after rest : List ℕ) (n : ℕ) → n ≤ length text → length front ≡ n → text ++ after ≡ front ++ rest → rest ≡ drop n text ++ after
after_front text front after rest n within len same = sym (drop_at front rest n len) ∙ sym (ap (drop n) same) ∙ drop-append-le n text after within

-- what a call did to the items if it succeeded
pub on_ok_if : {T E : Type 0} (r : Result T E) (new more old : List ℕ) {P : Type 0} → new ≡ (if is_ok r then more else old) → (new ≡ more → P) → OnOk r P
on_ok_if (Ok t) new more old is f = f is
on_ok_if (Err e) new more old is f = tt

-- ---- without spaces

-- whether a value ends there
replayed_ends : (p : Place) → ends_value (replayed p) ≡ is_value (place_of p).0
replayed_ends Nothing = refl
replayed_ends (Bracket d) = ends_push false (replicate d begin_array) begin_array
replayed_ends (Key d) = ends_push false (replicate d begin_array) (key [])
replayed_ends (Value d) = ends_push false (replicate d begin_array) null

pub line_resumed : (p : Place) (ts left all : List Token) → ts ++ left ≡ replayed p ++ all
    → print ts ++ print_from (ends_value ts) left ≡ print (replayed p) ++ print_from (is_value (place_of p).0) all
line_resumed p ts left all e =
    sym (print_from-append false ts left) ∙ ap print e ∙ print_from-append false (replayed p) all
    ∙ ap (λ b. print (replayed p) ++ print_from b all) (replayed_ends p)

-- ---- with a line for each item and member

pretty_from-append : (s : Last × ℕ) (ts us : List Token) → pretty_from s (ts ++ us) ≡ pretty_from s ts ++ pretty_from (fold step s ts) us
unfolding pretty_from
pretty_from-append s [] us = refl
pretty_from-append s (t ∷ ts) us = ap (λ l. piece s t ++ l) (pretty_from-append (step s t) ts us) ∙ sym (append_assoc (piece s t) _ _)

-- so many arrays are open
opens : (d n : ℕ) (l : Last) → n ≤ 2 ^ 64 - 1 → (fold step (l, n) (replicate d begin_array)).1 ≡ min (n + d) (2 ^ 64 - 1)
opens zero n l h = omega arith
opens (suc d) n l h =
    let within : min (n + 1) (2 ^ 64 - 1) ≤ 2 ^ 64 - 1 = omega arith in
    let same : min (min (n + 1) (2 ^ 64 - 1) + d) (2 ^ 64 - 1) ≡ min (n + suc d) (2 ^ 64 - 1) = omega arith in
    opens d (min (n + 1) (2 ^ 64 - 1)) bracket within ∙ same

abbrev pair : Last → ℕ → Last × ℕ
pair l n = (l, n)

open_after : (d : ℕ) → (fold step (nothing, 0) (replicate d begin_array)).1 ≡ min d (2 ^ 64 - 1)
open_after d =
    let none : 0 ≤ 2 ^ 64 - 1 = omega arith in
    let same : min (0 + d) (2 ^ 64 - 1) ≡ min d (2 ^ 64 - 1) = omega arith in
    opens d 0 nothing none ∙ same

replayed_state : (p : Place) → (place_of p).1 < 2 ^ 64 → state_after (replayed p) ≡ place_of p
replayed_state Nothing h = refl
replayed_state (Bracket d) h =
    let one : min (min d (2 ^ 64 - 1) + 1) (2 ^ 64 - 1) ≡ min (d + 1) (2 ^ 64 - 1) = omega arith in
    fold_push step (nothing, 0) (replicate d begin_array) begin_array
    ∙ ap (λ k. pair bracket (min (k + 1) (2 ^ 64 - 1))) (open_after d) ∙ ap (pair bracket) one
replayed_state (Key d) h =
    let all : min d (2 ^ 64 - 1) ≡ d = omega arith in
    fold_push step (nothing, 0) (replicate d begin_array) (key []) ∙ ap (pair name) (open_after d ∙ all)
replayed_state (Value d) h =
    let all : min d (2 ^ 64 - 1) ≡ d = omega arith in
    fold_push step (nothing, 0) (replicate d begin_array) null ∙ ap (pair value) (open_after d ∙ all)

pub lines_resumed : (p : Place) (ts left all : List Token) → (place_of p).1 < 2 ^ 64 → ts ++ left ≡ replayed p ++ all
    → pretty ts ++ pretty_from (state_after ts) left ≡ pretty (replayed p) ++ pretty_from (place_of p) all
lines_resumed p ts left all h e =
    sym (pretty_from-append (nothing, 0) ts left) ∙ ap pretty e ∙ pretty_from-append (nothing, 0) (replayed p) all
    ∙ ap (λ s. pretty (replayed p) ++ pretty_from s all) (replayed_state p h)

-- ---- the beginning and the end

pub text_none : (whole : Bool) (p : Place) → text_from whole p [] ≡ []
unfolding print_from pretty_from
text_none true p = refl
text_none false p = refl

pub opened_none : (os : List Open) → length os ≡ 0 → open_tokens os [] ≡ []
opened_none [] e = refl
opened_none (o ∷ os) e = absurd (omega arith)

pub last_piece : (part left end : List ℕ) → left ≡ [] → (part ++ left) ++ end ≡ (part ++ end) ++ []
last_piece part left end none = ap (λ l. (part ++ l) ++ end) none ∙ ap (λ l. l ++ end) (append-nil part) ∙ sym (append-nil (part ++ end))

-- the text of a whole value
pub text_whole : (whole : Bool) (style : Style) (v : Data) → whole ≡ style.compact → text_from whole Nothing (tokens_of v ++ []) ≡ laid_out style v
text_whole true style v e = ap print (append-nil (tokens_of v)) ∙ print-tokens_of v ∙ ap (λ c. if c then compact v else pretty_text v) e
text_whole false style v e = ap pretty (append-nil (tokens_of v)) ∙ ap (λ c. if c then compact v else pretty_text v) e
