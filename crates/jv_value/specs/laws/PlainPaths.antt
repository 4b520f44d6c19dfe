-- Paths of keys and indexes, without slices, and where two of them diverge.
use Rattle.std.specs.Prelude.{◌≡◌, ◌≢◌, pos, negsuc, List, [], ◌∷◌, ◌++◌, ⊤, Ok}
use Rattle.std.specs.List.Sorted.{IsPermutation}
use Rattle.jv_data.specs.Value.{Value, number, string}
use Rattle.jv_value.specs.DeletePaths.{delpaths_of}
use Rattle.jv_value.specs.GetPath.{getpath_of}
use Rattle.jv_value.specs.SetPath.{setpath_of}

-- a key of an object or an index of an array
abbrev pub IsPlainKey : Value → Type 0
IsPlainKey (string s) = ⊤
IsPlainKey (number n) = ⊤
IsPlainKey k = ⊥

abbrev pub IsPlain : List Value → Type 0
IsPlain [] = ⊤
IsPlain (k ∷ ks) = IsPlainKey k × IsPlain ks

-- two different keys, two different indexes from the start, or two from the end
abbrev pub AreApart : Value → Value → Type 0
AreApart (string s) (string t) = s ≢ t
AreApart (number (pos i)) (number (pos j)) = i ≢ j
AreApart (number (negsuc i)) (number (negsuc j)) = i ≢ j
AreApart k l = ⊥

-- the value that is set at a path is the value that is got there
abbrev pub SetIsGot : Type 0
SetIsGot = (v x w : Value) (path : List Value) → IsPlain path → setpath_of v path x ≡ Ok w → getpath_of w path ≡ Ok x

-- setting a path keeps the value at every path that diverges from it, before either ends
abbrev pub SetLeavesOthers : Type 0
SetLeavesOthers = (v x w k l : Value) (path ks ls : List Value) → IsPlain path → AreApart k l → setpath_of v (path ++ k ∷ ks) x ≡ Ok w → getpath_of w (path ++ l ∷ ls) ≡ getpath_of v (path ++ l ∷ ls)

abbrev pub DeletingNothing : Type 0
DeletingNothing = (v : Value) → delpaths_of v [] ≡ Ok v

abbrev pub DeletionHasNoOrder : Type 0
DeletionHasNoOrder = (v : Value) (ps qs : List (List Value)) → IsPermutation ps qs → delpaths_of v ps ≡ delpaths_of v qs
