-- Values of nodes in a vector, each from those before it. So a vector of frames holds continuations, and a vector of bindings
-- holds environments.
use Rattle.std.specs.Prelude.{List, [], ◌∷◌, ◌++◌}

-- The value of each node, in order, after the values that are known: f computes a node's value from the values before it.
abbrev pub builds : {N A : Type 0} → (List A → N → A) → (known : List A) → List N → List A
builds f known [] = known
builds f known (n ∷ ns) = builds f (known ++ f known n ∷ []) ns
