-- An operator on the input and a constant.
use Rattle.std.proofs.Common.{◌≡◌, ◌∙◌, ℕ}
use Rattle.jv_data.specs.Value.{Value}
use Rattle.jq_tree.specs.Tree.{Operator, Literal, binary, identity, literal}
use Rattle.jq_meaning.specs.Continuations.{value_of_literal, on_left, on_right}
use Rattle.jq_meaning.specs.Env.{Env}
use Rattle.jq_meaning.specs.Meaning.{meaning}
use Rattle.jq_meaning.specs.Runs.{answered, plain, one}
use Rattle.jq_meaning.specs.Steps.{operator_of}
use Rattle.jq_meaning.proofs.shared.machine.RunLaws.{bind-one}

pub on_constant : (depth : ℕ) (op : Operator) (l : Literal) (e : Env) (level : ℕ) (v : Value)
    → meaning depth (binary op identity (literal l)) e level (plain v) ≡ answered plain (operator_of op v (value_of_literal l))
unfolding on_left on_right
on_constant depth op l e level v =
    bind-one (plain (value_of_literal l)) (on_right op (one (plain v))) ∙ bind-one (plain v) (on_left op (value_of_literal l))
