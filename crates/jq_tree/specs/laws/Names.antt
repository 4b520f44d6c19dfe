-- A law: how often a filter calls `inputs`, by the list of its names.
use Rattle.std.specs.Prelude.{◌≡◌, Bool, true, false, ◌&&◌, count_by}
use Rattle.jq_tree.specs.Tree.{Tree}
use Rattle.jq_tree.specs.Names.{to_function, same_reference, Scope}
use Rattle.jq_tree.specs.BoundTree.{Binder, in_language}
use Rattle.jq_tree.specs.Binders.{Use, bound_in, uses}
use Rattle.jq_tree.specs.Inputs.{inputs, count}

abbrev pub is_languages : Binder → Bool
is_languages in_language = true
is_languages _ = false

-- The language's `inputs`, which no binder around the name hides.
abbrev pub reads_inputs : Use → Bool
reads_inputs u = same_reference (u.0) (to_function inputs 0) && is_languages (u.1)

-- The count of `inputs` is the number of times it is among the names of the tree, bound by the language.
abbrev pub InputsAreCounted : Type 0
InputsAreCounted = (scope : Scope) (t : Tree) → count scope t ≡ count_by reads_inputs (uses (bound_in scope t))
