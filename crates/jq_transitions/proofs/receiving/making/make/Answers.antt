use Rattle.jv_data.specs.Shared.{text_in}
use Rattle.jv_data.specs.Text.{text_of}
use Rattle.jq_ast.specs.Named.{name_of}
use Rattle.jq_meaning.specs.Continuations.{format_of}
use Rattle.jq_meaning.specs.Runs.{value_in}
use Rattle.jq_operations.specs.Outputs.{Inserts}
use Rattle.jq_state.specs.Items.{item_of}
use Rattle.jq_transitions.proofs.receiving.making.make.Goals as goal

pub returns-in-Hole : goal.returns-in-Hole
returns-in-Hole c =
    let front = text_of c.in-Hole.front.now in
    let back = text_in c.in-Hole.back in
    let text = format_of (name_of c.in-Hole.format.now) (value_in (item_of c.args.item)) in
    let inserts : Inserts front text back c.in_ok-text-in-Hole.text = rw (c.as_str.ensures.value, c.as_str-in-Hole.ensures, c.into_value-value.ensures) at c.in_ok-text-in-Hole.ensures in
    rw c.in-Hole.is (c.fill_hole.ensures front back text inserts)
