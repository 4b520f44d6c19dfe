-- A binding at an index, for which a test holds.
use Rattle.std.specs.Prelude.{◌≡◌, ℕ, ◌<◌, List, Bool, true, false, slice_get, Some}
use Rattle.jq_meaning.specs.Env.{Binding}

-- it is one of the first `end`
pub record IsAt (holds : Binding → Bool) (bs : List Binding) (end place : ℕ) (b : Binding) : Type 0 where
  pub within : place < end
  pub is : slice_get bs place ≡ Some b
  pub held : holds b ≡ true

abbrev pub IsNotAt : (holds : Binding → Bool) → List Binding → (end place : ℕ) → Type 0
IsNotAt holds bs end place = (b : Binding) → place < end → slice_get bs place ≡ Some b → holds b ≡ false
