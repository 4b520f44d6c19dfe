use Rattle.std.proofs.Common.{ap, ◌∙◌}
use Rattle.std.specs.Str.{chars}
use Rattle.jq_ast.specs.Named.{name_of}
use Rattle.jq_state.specs.Items.{item_of}
use Rattle.jq_state.specs.Links.{scope_in}
use Rattle.jq_state.specs.Views.{envs_in, frames_in, forks_in}
use Rattle.jq_operations.proofs.Coming.{same_goal}
use Rattle.jq_operations.proofs.Walking.{pieces_entered}
use Rattle.jq_operations.proofs.pieces.enter_pieces.Goals as goal

pub returns : goal.returns
returns c =
    let s = c.args.state.now in
    same_goal c.next_hole.result _ _ c.next_hole.new.state
    (λ inputs. pieces_entered (name_of c.args.format.now) c.args.pieces.now c.args.last.now _ (scope_in (envs_in inputs s) c.args.scope) (item_of c.args.input) (frames_in inputs s) (forks_in inputs s)
    (ap chars (c.in_ok-back.ensures ∙ c.in_ok-from_str.ensures.ok ∙ c.as_str.ensures.value)))
    c.next_hole.ensures
