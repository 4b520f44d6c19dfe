-- A program: its functions in order, each of which sees those before it and itself, and a tree that sees them all.
use Rattle.std.specs.Prelude.{ℕ, suc, ◌+◌, List, [], ◌∷◌, length, map, String}
use Rattle.std.specs.declared.alloc.Global.{Global}
use Rattle.jv_data.specs.Text.{text_of}
use Rattle.jv_data.specs.declared.values.Val.{Val}
use Rattle.jq_tree.specs.Tree as tree
use Rattle.jq_tree.specs.BoundTree as form
use Rattle.jq_ast.specs.Named.{named}
use Rattle.jq_ast.specs.Bound.{bound}
use Rattle.jq_ast.specs.declared.tree.Function.{Function}
use Rattle.jq_ast.specs.declared.tree.Tree.{Tree}

-- The program as one filter: the definitions in order, then the tree.
abbrev pub named_program : List (Function Tree) → Tree → tree.Tree
named_program [] t = named t
named_program (f ∷ fs) t = tree.define (text_of f.name) (map text_of f.parameters.items) (named f.body) (named_program fs t)

-- The same with the binder of each name, inside this number of binders.
abbrev pub bound_program : List (Function Tree) → Tree → (around : ℕ) → form.BoundTree
bound_program [] t n = bound t n
bound_program (f ∷ fs) t n = form.define (text_of f.name) (map text_of f.parameters.items) (bound f.body (suc n + length f.parameters.items)) (bound_program fs t (suc n))

-- The names of the variables of a command line.
abbrev pub variable_names : List (String Global × Val) → List tree.Name
variable_names vs = map (λ v. text_of v.0) vs
