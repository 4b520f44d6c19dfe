use Rattle.std.proofs.Common.{◌≡◌, ◌∙◌, [], refl, sym}
use Rattle.jv_data.specs.Value.{Value}
use Rattle.jv_data.specs.View.{view}
use Rattle.jq_meaning.specs.Runs.{Run}
use Rattle.jq_meaning.specs.machine.Matching.{checked}
use Rattle.jq_meaning.specs.machine.Stack.{set_cell}
use Rattle.jq_state.specs.Items.{item_of, keys_of}
use Rattle.jq_state.specs.Views.{frames_in, forks_in}
use Rattle.jq_state.specs.declared.next.Next.TheVariants.{Evaluate}
use Rattle.jq_state.proofs.shared.Items.{checked_path, checked_plain}
use Rattle.jq_transitions.proofs.Comings.{came}
use Rattle.jq_transitions.proofs.receiving.binders.enter_update.Goals as goal
use Rattle.jq_transitions.proofs.receiving.binders.enter_update.Goals.{then-is_present+in_ok-fork, else-is_present}

pub returns : goal.returns
returns c =
    let s = c.args.state.now in
    let h = c.args.height in
    let x = c.take_state-item.result in
    let took = c.take_state-item.ensures in
    let t = c.if-is_present.state in
    let reached : (t.nodes ≡ s.nodes) × ((inputs : Run Value) → frames_in inputs t ≡ frames_in inputs s) × ((inputs : Run Value) → forks_in inputs t ≡ checked (item_of x) h (frames_in inputs s) (set_cell h [] (forks_in inputs s))) =
    elim c.if-is_present.branch [
      | then-is_present+in_ok-fork w ↦ rw w.state-is (
        w.in_ok-fork.ensures.envs ∙ took.envs,
        λ inputs. w.in_ok-fork.ensures.frames inputs ∙ took.frames inputs,
        λ inputs. w.in_ok-fork.ensures.forks inputs ∙ rw (w.new.ensures.items, took.frames inputs, took.forks inputs)
            (sym (checked_path (view x.value) (keys_of x.path) h (frames_in inputs s) (set_cell h [] (forks_in inputs s)) (sym c.is_present.ensures ∙ w.if-is_present.true))),
      )
      | else-is_present w ↦ rw w.state-is (
        took.envs,
        took.frames,
        λ inputs. took.forks inputs ∙ sym (checked_plain (view x.value) (keys_of x.path) h (frames_in inputs s) (set_cell h [] (forks_in inputs s)) (sym c.is_present.ensures ∙ w.if-is_present.false)),
      )
    ] in
    let pushed = c.in_ok-push.ensures in
    came s c.push.new.self (Evaluate c.update_of.result c.args.scope x) (pushed.envs ∙ reached.0) c.requires pushed.frames pushed.forks
    (λ inputs. rw (reached.1 inputs, reached.2 inputs, reached.0, took.item inputs, c.update_of.ensures) refl)
