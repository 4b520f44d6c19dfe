-- A filter after definitions.
use Rattle.std.proofs.Common.{◌≡◌, List, [], ◌∷◌, ◌++◌, map, refl, ap, ◌∙◌}
use Rattle.jv_data.specs.Text.{text_of}
use Rattle.jq_tree.specs.Tree as tree
use Rattle.jq_tree.specs.Prelude.{followed_by}
use Rattle.jq_ast.specs.Named.{named}
use Rattle.jq_ast.specs.declared.tree.Function.{Function}
use Rattle.jq_ast.specs.declared.tree.Tree.{Tree}
use Rattle.jq_syntax.specs.private.Reading.{nested}

-- more definitions are inside
pub nested_append : (fs gs : List (Function Tree)) (t : tree.Tree) → nested (fs ++ gs) t ≡ nested fs (nested gs t)
nested_append [] gs t = refl
nested_append (f ∷ fs) gs t = ap (λ r. tree.define (text_of f.name) (map text_of f.parameters.items) (named f.body) r) (nested_append fs gs t)

-- a definition that was taken from the filter comes after the others
pub defined : (fs gs : List (Function Tree)) (f : Function Tree) (rest u : tree.Tree) → gs ≡ fs ++ f ∷ []
    → nested gs (followed_by rest u) ≡ nested fs (tree.define (text_of f.name) (map text_of f.parameters.items) (named f.body) (followed_by rest u))
defined fs gs f rest u e = ap (λ (hs : List (Function Tree)). nested hs (followed_by rest u)) e ∙ nested_append fs (f ∷ []) (followed_by rest u)
