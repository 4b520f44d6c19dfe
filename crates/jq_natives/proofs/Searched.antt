-- The answer of searches in containers in one another.
use Rattle.std.proofs.Common.{◌≡◌, Bool, List, [], ◌∷◌, ◌++◌, ap, refl}
use Rattle.jq_natives.specs.private.Searches.{after}
use Rattle.jq_natives.specs.declared.containment.Search.{Search}

-- the answer of the first of several searches, each of which waits for the one after it, and the last one for b
abbrev pub after_all : List Search → Bool → Bool
after_all [] b = b
after_all (s ∷ ss) b = after s (after_all ss b)

pub after_all-last : (ss : List Search) (s : Search) (b : Bool) → after_all (ss ++ s ∷ []) b ≡ after_all ss (after s b)
after_all-last [] s b = refl
after_all-last (t ∷ ss) s b = ap (after t) (after_all-last ss s b)
