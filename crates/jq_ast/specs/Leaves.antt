-- The constants and operators of a tree as those of the definitions.
use Rattle.std.specs.Prelude.{ℕ, List, []}
use Rattle.jv_data.specs.Value.{Value}
use Rattle.jv_data.specs.Value as value
use Rattle.jv_data.specs.View.{view}
use Rattle.jq_tree.specs.Tree as tree
use Rattle.jq_ast.specs.declared.leaves.Literal.{Literal}
use Rattle.jq_ast.specs.declared.leaves.Key.{Key}
use Rattle.jq_ast.specs.declared.operators.Operator.{Operator}
use Rattle.jq_ast.specs.declared.operators.Operator.TheVariants as operator

abbrev pub constant : Value → tree.Literal
constant value.null = tree.null
constant (value.boolean b) = tree.boolean b
constant (value.number n) = tree.number n
constant (value.string s) = tree.string s
constant v = tree.null

abbrev pub literal_of : Literal → tree.Literal
literal_of l = constant (view l.value)

abbrev pub characters : Value → List ℕ
characters (value.string s) = s
characters v = []

abbrev pub key_of : Key → List ℕ
key_of k = characters (view k.value)

abbrev pub operator_of : Operator → tree.Operator
operator_of operator.Plus = tree.plus
operator_of operator.Minus = tree.minus
operator_of operator.Times = tree.times
operator_of operator.Divided = tree.divided
operator_of operator.Modulo = tree.modulo
operator_of operator.Equal = tree.equal
operator_of operator.NotEqual = tree.not_equal
operator_of operator.Less = tree.less
operator_of operator.LessOrEqual = tree.less_or_equal
operator_of operator.Greater = tree.greater
operator_of operator.GreaterOrEqual = tree.greater_or_equal
