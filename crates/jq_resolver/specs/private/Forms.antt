-- Kinds of forms.
use Rattle.std.specs.Prelude.{Bool, true, false}
use Rattle.jq_tree.specs.Tree as tree

-- Two parts in one scope.
abbrev pub is_pair : tree.Tree → Bool
is_pair (tree.index f g mark) = true
is_pair (tree.pipe f g) = true
is_pair (tree.comma f g) = true
is_pair (tree.binary op f g) = true
is_pair (tree.conjunction f g) = true
is_pair (tree.disjunction f g) = true
is_pair (tree.alternative f g) = true
is_pair (tree.try_catch f g) = true
is_pair t = false

-- Names are bound around the last parts.
abbrev pub is_binder : tree.Tree → Bool
is_binder (tree.label n f) = true
is_binder (tree.bind_as f p g) = true
is_binder (tree.reduce f p g h) = true
is_binder (tree.foreach f p g h i) = true
is_binder (tree.define n ps f g) = true
is_binder t = false
