-- What follows from taking tokens.
use Rattle.std.proofs.Common.{◌≡◌, ℕ, zero, suc, List, [], ◌∷◌, ◌++◌, Bool, true, false, cond, Some, None, refl, sym, ap, subst, append_assoc}
use Rattle.std.proofs.lemmas.Bool.{eqb-true}
use Rattle.std.specs.Prelude.{◌==◌}
use Rattle.std.proofs.lemmas.Option.{same_Some}
use Rattle.jq_tree.specs.Tree.{Name}
use Rattle.jq_tree.specs.Token.{Symbol, Token, name, symbol}
use Rattle.jq_parser.specs.laws.Combinators.{Parser, Outcome, and_then, skip, refuse, first, symbol_number, is_symbol, expect, any_name, any_name_on, next_item, separated}
use Rattle.jq_parser.proofs.Follow.{same_symbol}

pub record Takes {A : Type 0} (M : List Token → A → Type 0) (ts : List Token) (y : A × List Token) : Type 0 where
  pub us : List Token
  pub means : M us y.0
  pub parts : ts ≡ us ++ y.1

-- The results of the parser satisfy M.
abbrev pub Gives : {A : Type 0} → (List Token → A → Type 0) → Parser A → Type 0
Gives {A} M q = (ts : List Token) (y : A × List Token) → q ts ≡ Some y → Takes M ts y

pub bind_some : {A B : Type 0} (o : Outcome A) (f : A → Parser B) (y : B × List Token) → and_then o f ≡ Some y → (x : A × List Token) × (o ≡ Some x) × (f x.0 x.1 ≡ Some y)
unfolding and_then
bind_some (Some x) f y e = (x, refl, e)
bind_some None f y e = absurd cc

pub after_skip : {B : Type 0} (f : Parser B) (ts : List Token) (y : B × List Token) → and_then {A = Unit {0}} (Some (tt, ts)) (λ u. f) ≡ Some y → f ts ≡ Some y
unfolding and_then
after_skip f ts y e = e

pub ends : {A : Type 0} (M : List Token → A → Type 0) (ts : List Token) (x y : A × List Token) → Takes M ts x → Some x ≡ Some y → Takes M ts y
ends {A} M ts x y h e = subst (λ (z : A × List Token). Takes M ts z) (same_Some _ _ e) h

-- the same tokens
pub moved : {A : Type 0} (M : List Token → A → Type 0) (ts us : List Token) (y : A × List Token) → ts ≡ us → Takes M us y → Takes M ts y
moved M ts us y e h = subst (λ (ws : List Token). Takes M ws y) (sym e) h

pub joins : (ts us mid vs rest : List Token) → ts ≡ us ++ mid → mid ≡ vs ++ rest → ts ≡ (us ++ vs) ++ rest
joins ts us mid vs rest e f = rw (e, f, append_assoc)

pub on : (c : Token) (ts us : List Token) → ts ≡ us → c ∷ ts ≡ c ∷ us
on c ts us e = rw e

-- after a prefix
pub after_front : (ws ts us : List Token) → ts ≡ us → ws ++ ts ≡ ws ++ us
after_front ws ts us e = rw e

-- ---- tokens

expected : (test : Bool) (s t : Symbol) (ts : List Token) (x : Unit {0} × List Token) → (test ≡ true → t ≡ s) → cond {A = Parser (Unit {0})} test skip refuse (symbol t ∷ ts) ≡ Some x → symbol t ∷ ts ≡ symbol s ∷ x.1
expected true s t ts x h e = let d : (tt, ts) ≡ x = same_Some _ _ e in rw (h refl) (ap (λ (w : Unit {0} × List Token). symbol s ∷ w.1) d)
expected false s t ts x h e = absurd cc

pub expect_is : (s : Symbol) (ts : List Token) (x : Unit {0} × List Token) → expect s ts ≡ Some x → ts ≡ symbol s ∷ x.1
unfolding expect
expect_is s [] x e = absurd cc
expect_is s (symbol t ∷ ts) x e = expected (symbol_number t == symbol_number s) s t ts x (λ h. same_symbol t s (eqb-true (symbol_number t) (symbol_number s) h)) e
expect_is s (t ∷ ts) x e = absurd cc

pub any_name_is : (ts : List Token) (x : Name × List Token) → any_name ts ≡ Some x → ts ≡ name x.0 ∷ x.1
unfolding any_name any_name_on and_then
any_name_is [] x e = absurd cc
any_name_is (name n ∷ ts) x e = let d : (n, ts) ≡ x = same_Some _ _ e in ap (λ (w : Name × List Token). name w.0 ∷ w.1) d
any_name_is (t ∷ ts) x e = absurd cc

-- ---- lists

module _ {A B : Type 0} (s : Symbol) (one : A → B) (more : A → B → B) (q : Parser A) (M : List Token → A → Type 0) (N : List Token → B → Type 0)
    (items : Gives M q) (last : (xs : List Token) (a : A) → M xs a → N xs (one a))
    (before : (xs ys : List Token) (a : A) (b : B) → M xs a → N ys b → N (xs ++ symbol s ∷ ys) (more a b)) where
  no_item : (xs : List Token) (a : A) (ts : List Token) (y : B × List Token) → M xs a → Some (one a, ts) ≡ Some y → Takes N (xs ++ ts) y
  no_item xs a ts y d e = ends N (xs ++ ts) (one a, ts) y (record { us = xs; means = last xs a d; parts = refl }) e

  sound_item : (go : Parser B) → Gives N go → (test : Bool) (xs : List Token) (a : A) (t : Token) (ts : List Token) (y : B × List Token) → (test ≡ true → t ≡ symbol s) → M xs a
      → next_item one more a go test (t ∷ ts) ≡ Some y → Takes N (xs ++ t ∷ ts) y
  unfolding next_item
  sound_item go h true xs a t ts y same d e =
      let b = bind_some _ _ _ (after_skip _ ts y e) in
      let r = h _ _ b.1 in
      ends N (xs ++ t ∷ ts) (more a b.0.0, b.0.1) y (record {
        us = xs ++ symbol s ∷ r.us;
        means = before xs r.us a b.0.0 d r.means;
        parts = joins _ xs (t ∷ ts) (symbol s ∷ r.us) b.0.1 refl (rw (same refl) (on (symbol s) _ _ r.parts));
      }) b.2
  sound_item go h false xs a t ts y same d e = no_item xs a (t ∷ ts) y d e

  sound_next : (go : Parser B) → Gives N go → (xs : List Token) (a : A) (ts : List Token) (y : B × List Token) → M xs a → next_item one more a go (is_symbol s (first ts)) ts ≡ Some y → Takes N (xs ++ ts) y
  unfolding next_item
  sound_next go h xs a [] y d e = no_item xs a [] y d e
  sound_next go h xs a (symbol t ∷ ts) y d e =
      sound_item go h (symbol_number t == symbol_number s) xs a (symbol t) ts y (λ k. ap symbol (same_symbol t s (eqb-true (symbol_number t) (symbol_number s) k))) d e
  sound_next go h xs a (t ∷ ts) y d e = no_item xs a (t ∷ ts) y d e

  pub sound_list : (k : ℕ) (ts : List Token) (y : B × List Token) → separated s one more q k ts ≡ Some y → Takes N ts y
  unfolding separated
  sound_list zero ts y e = absurd cc
  sound_list (suc k) ts y e =
      let b = bind_some _ _ _ e in
      let r = items _ _ b.1 in
      moved N ts (r.us ++ b.0.1) y r.parts (sound_next (separated s one more q k) (λ us z d. sound_list k us z d) r.us b.0.0 b.0.1 y r.means b.2)
