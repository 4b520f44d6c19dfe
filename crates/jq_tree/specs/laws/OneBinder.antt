-- Laws of the binders of names, not used to define them.
use Rattle.std.specs.Prelude.{◌≡◌, ◌∷◌, ◌++◌, true, false, length}
use Rattle.jq_tree.specs.BoundTree.{Binder, bound_at, in_language, nowhere}
use Rattle.jq_tree.specs.Names.{Reference, Scope, is_bound, language}
use Rattle.jq_tree.specs.Binders.{binder, prelude_binder}

-- ---- the binder of one name, by the binders around it

-- The innermost one: the binders inside it are of other names. A name that the scope does not bind may be a part of the
-- language.
pub data HasBinder (scope : Scope) (r : Reference) : Binder → Type 0 where
  by_innermost : (inner outer : Scope) → scope ≡ inner ++ r ∷ outer → is_bound r inner ≡ false → HasBinder scope r (bound_at (length inner))
  by_language : is_bound r scope ≡ false → is_bound r language ≡ true → HasBinder scope r in_language

-- The prelude's own: the binders outside it are of other names.
pub data HasPreludeBinder (scope : Scope) (r : Reference) : Binder → Type 0 where
  by_outermost : (inner outer : Scope) → scope ≡ inner ++ r ∷ outer → is_bound r outer ≡ false → HasPreludeBinder scope r (bound_at (length inner))

-- ---- laws

-- A name has a binder exactly when its scope or the language binds it, and only one.
abbrev pub BoundNamesHaveABinder : Type 0
BoundNamesHaveABinder = (scope : Scope) (r : Reference) → is_bound r (scope ++ language) ≡ true → HasBinder scope r (binder scope r)

abbrev pub OnlyBoundNamesHaveABinder : Type 0
OnlyBoundNamesHaveABinder = (scope : Scope) (r : Reference) (b : Binder) → HasBinder scope r b → is_bound r (scope ++ language) ≡ true

abbrev pub OneBinder : Type 0
OneBinder = (scope : Scope) (r : Reference) (b c : Binder) → HasBinder scope r b → HasBinder scope r c → b ≡ c

abbrev pub UnboundNamesStandNowhere : Type 0
UnboundNamesStandNowhere = (scope : Scope) (r : Reference) → is_bound r (scope ++ language) ≡ false → binder scope r ≡ nowhere

-- The same for the prelude's own functions.
abbrev pub BoundNamesHaveAPreludeBinder : Type 0
BoundNamesHaveAPreludeBinder = (scope : Scope) (r : Reference) → is_bound r scope ≡ true → HasPreludeBinder scope r (prelude_binder scope r)

abbrev pub OnePreludeBinder : Type 0
OnePreludeBinder = (scope : Scope) (r : Reference) (b c : Binder) → HasPreludeBinder scope r b → HasPreludeBinder scope r c → b ≡ c

abbrev pub UnboundNamesAreNotThePreludes : Type 0
UnboundNamesAreNotThePreludes = (scope : Scope) (r : Reference) → is_bound r scope ≡ false → prelude_binder scope r ≡ nowhere
