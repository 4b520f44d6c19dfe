-- The forms of filters that are explained by other forms.
use Rattle.std.specs.Prelude.{List, [], ◌∷◌, true, codes}
use Rattle.jq_tree.specs.Tree.{Name, Operator, Tree, no_trees, more_trees, whole}
use Rattle.jq_tree.specs.Tree as tree

-- `try f` without a handler, and `f?` where f does not end with a step ("Error suppression"): an error ends f silently.
abbrev pub attempt : Tree → Tree
attempt f = tree.try_catch f tree.empty

-- `?` directly after a step guards that step alone. (Other trees stay as they are.)
abbrev pub guarded : Tree → Tree
guarded (tree.field f name mark) = tree.field f name true
guarded (tree.index f key mark) = tree.index f key true
guarded (tree.slice f from to mark) = tree.slice f from to true
guarded (tree.iterate f mark) = tree.iterate f true
guarded f = f

-- `..` is the prelude's `recurse` ("Recursive Descent").
abbrev pub recurse_all : Tree
recurse_all = tree.prelude_call (codes "recurse") no_trees

-- `f = g` is the prelude's `_assign(f; g)` ("Plain assignment").
abbrev pub assign : Tree → Tree → Tree
assign f g = tree.prelude_call (codes "_assign") (more_trees f (more_trees g no_trees))

-- `f |= g` is the prelude's `_modify(f; g)` ("Update-assignment").
abbrev pub modify : Tree → Tree → Tree
modify f g = tree.prelude_call (codes "_modify") (more_trees f (more_trees g no_trees))

-- A variable that no filter can name, since a name has at least one letter.
abbrev pub unnamed : Name
unnamed = []

-- `f op= g` is `g as $v | f |= (. op $v)` with a variable that no filter can name ("Arithmetic update-assignment").
abbrev pub update : Operator → Tree → Tree → Tree
update op f g = tree.bind_as g (whole unnamed) (modify f (tree.binary op tree.identity (tree.variable unnamed)))

-- `f //= g` is the same with `. // $v`.
abbrev pub update_alternative : Tree → Tree → Tree
update_alternative f g = tree.bind_as g (whole unnamed) (modify f (tree.alternative tree.identity (tree.variable unnamed)))

-- A parameter of a function ("Defining functions"): `g` is a filter, `$a` is each output of one.
pub data Parameter : Type 0 where
  by_filter : Name → Parameter
  by_value : Name → Parameter

abbrev pub parameter_name : Parameter → Name
parameter_name (by_filter name) = name
parameter_name (by_value name) = name

abbrev pub parameter_names : List Parameter → List Name
parameter_names [] = []
parameter_names (p ∷ ps) = parameter_name p ∷ parameter_names ps

-- `$a` is a filter `a`, and `a as $a |` before the body; the first such parameter is the outermost.
abbrev pub with_values : List Parameter → Tree → Tree
with_values [] body = body
with_values (by_filter name ∷ ps) body = with_values ps body
with_values (by_value name ∷ ps) body = tree.bind_as (tree.call name no_trees) (whole name) (with_values ps body)

-- `def name(ps): body; rest`.
abbrev pub definition : Name → List Parameter → Tree → Tree → Tree
definition name ps body rest = tree.define name (parameter_names ps) (with_values ps body) rest
