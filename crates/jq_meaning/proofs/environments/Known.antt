-- Names of the language.
use Rattle.std.proofs.Common.{◌≡◌, ℕ, List, [], ◌∷◌, ◌++◌, Bool, true, false, ◌||◌, if◌then◌else◌, refl, ap, ◌∙◌}
use Rattle.std.proofs.lemmas.Bool.{and_parts}
use Rattle.std.proofs.lemmas.List.Folds.{list_all-append}
use Rattle.std.specs.List.{list_all}
use Rattle.jq_tree.specs.Names.{Reference, to_format, Scope, is_bound, same_reference, language}
use Rattle.jq_tree.specs.BoundTree.{bound_at, in_language, nowhere}
use Rattle.jq_tree.specs.Binders.{binder, from_inside}
use Rattle.jq_tree.proofs.shared.References.{same_is}
use Rattle.jq_meaning.specs.Env.{Binding, value_of, function, closure, label_of}
use Rattle.jq_meaning.specs.laws.KnownNames.{is_known}
use Rattle.jq_meaning.specs.laws.Names.{name_of}
use Rattle.jq_meaning.specs.laws.Lookups.{FormatsAreNotBound}
use Rattle.jq_meaning.proofs.environments.Binders.{language_inside}
use Rattle.jq_meaning.proofs.environments.Found.{bindings_named}

in_language_or_not : (t : Bool) → (if t then in_language else nowhere) ≡ in_language → t ≡ true
in_language_or_not true e = refl
in_language_or_not false e = absurd (cc e)

pub in_the_language : (s : Scope) (r : Reference) → binder s r ≡ in_language → is_bound r language ≡ true
in_the_language [] r e = in_language_or_not (is_bound r language) e
in_the_language (b ∷ bs) r e = go (same_reference r b) e (λ h. in_the_language bs r h)
  where
    go : (t : Bool) → (if t then bound_at 0 else from_inside (binder bs r)) ≡ in_language → (binder bs r ≡ in_language → is_bound r language ≡ true)
        → is_bound r language ≡ true
    go true h there = absurd (cc h)
    go false h there = there (language_inside (binder bs r) h)

pub all_append : (xs ys : Scope) → list_all is_known xs ≡ true → list_all is_known ys ≡ true → list_all is_known (xs ++ ys) ≡ true
all_append xs ys h i = rw (list_all-append is_known xs ys, h, i) refl

pub known_in : (xs : Scope) → list_all is_known xs ≡ true → (r : Reference) → is_bound r xs ≡ true → is_known r ≡ true
known_in [] h r e = absurd (cc e)
known_in (x ∷ xs) h r e = let w = and_parts (is_known x) (list_all is_known xs) h in go (same_reference r x) refl e w.0 (λ k. known_in xs w.1 r k)
  where
    go : (t : Bool) → same_reference r x ≡ t → (t || is_bound r xs) ≡ true → is_known x ≡ true → (is_bound r xs ≡ true → is_known r ≡ true) → is_known r ≡ true
    go true s f k there = ap is_known (same_is r x s) ∙ k
    go false s f k there = there f

no_format : (b : Binding) (n : List ℕ) → name_of b ≡ to_format n → ⊥
no_format (value_of m v) n e = cc e
no_format (function m ps body) n e = cc e
no_format (closure m body own) n e = cc e
no_format (label_of m level) n e = cc e

pub formats_not_bound : FormatsAreNotBound
formats_not_bound e n i h = let w = bindings_named e (to_format n) i h in no_format w.0 n w.3
