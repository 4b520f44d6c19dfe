-- Whether a filter calls a function that halts (manual of jq 1.7, "halt", "halt_error").
--
-- A tree here is that of the filter alone, without the prelude.
use Rattle.std.specs.Prelude.{◌≡◌, [], ◌∷◌, codes}
use Rattle.jq_tree.specs.Tree.{Tree}
use Rattle.jq_tree.specs.Names.{Scope, to_function}
use Rattle.jq_tree.specs.Binders.{bound_in}

-- `halt` and `halt_error(f)` are parts of the language, and `halt_error` is a function of the prelude that calls `halt_error(f)`.
abbrev pub halting : Scope
halting = to_function (codes "halt") 0 ∷ to_function (codes "halt_error") 0 ∷ to_function (codes "halt_error") 1 ∷ []

-- No name in the filter, nor in the body of a function that it never calls, refers to one of them: if they were bound just around
-- the filter, each of its names would still have the binder that it has without them.
abbrev pub CallsNoHalt : Tree → Type 0
CallsNoHalt t = bound_in halting t ≡ bound_in [] t
