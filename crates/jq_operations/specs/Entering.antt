-- Definitions, calls, and filters whose outputs are refused.
use Rattle.std.specs.Prelude.{List, ◌∷◌, map}
use Rattle.jv_data.specs.Text.{text_of}
use Rattle.jq_ast.specs.Named.{name_of, named}
use Rattle.jq_ast.specs.declared.names.Name.{Name}
use Rattle.jq_ast.specs.declared.tree.Function.{Function}
use Rattle.jq_ast.specs.declared.tree.Tree.{Tree}
use Rattle.jq_tree.specs.Tree.{trees_of}
use Rattle.jq_tree.specs.Tree as form
use Rattle.jq_meaning.specs.Runs.{Item}
use Rattle.jq_meaning.specs.machine.State.{state, evaluate, operation, refuse}
use Rattle.jq_state.specs.Nexts.{Transition}

-- a definition before a filter
abbrev pub defined : Function Tree → form.Tree → form.Tree
defined f rest = form.define (text_of f.name) (map text_of f.parameters.items) (named f.body) rest

-- a call of a name with arguments
abbrev pub called : Name → List Tree → form.Tree
called name arguments = form.call (name_of name) (trees_of (map named arguments))

-- a filter is run on an item, and its outputs are refused
abbrev pub refusing : form.Tree → Item → Transition
refusing t x p k fs = state (evaluate t p x) (operation refuse ∷ k) fs
