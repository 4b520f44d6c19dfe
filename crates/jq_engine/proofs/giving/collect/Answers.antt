use Rattle.std.proofs.Common.{◌∙◌, ◌∷◌, ◌++◌, [], refl, sym, ap}
use Rattle.jv_data.specs.View.{view}
use Rattle.jq_meaning.specs.machine.Stack.{cell_at, set_cell}
use Rattle.jq_meaning.specs.machine.State.{collect, give, go_back, state}
use Rattle.jq_state.specs.Items.{item_of}
use Rattle.jq_state.specs.Nexts.{stands}
use Rattle.jq_state.specs.Views.{frames_in, forks_in}
use Rattle.jq_state.specs.declared.next.Next.TheVariants.{GoBack}
use Rattle.jq_engine.proofs.Leading.{leads_to}
use Rattle.jq_engine.proofs.Transitions.{gives}
use Rattle.jq_engine.proofs.Waiting.{value_alone}
use Rattle.jq_engine.proofs.giving.collect.Goals as goal

pub returns : goal.returns
returns c inputs =
    let s = c.args.state.now in
    let after = c.add_to_cell.new.self in
    let x = item_of c.args.item in
    let h = c.args.height in
    let added = c.in_ok-add_to_cell.ensures in
    let frames = c.requires inputs ∙ ap (λ k. collect h ∷ k) (sym (c.skip.ensures.frames inputs) ∙ sym (added.frames inputs)) in
    let cell = ap (λ z. set_cell h (cell_at h (forks_in inputs s) ++ z ∷ []) (forks_in inputs s)) (c.plain.ensures ∙ sym (value_alone c.args.item (view c.args.item.value) refl)) in
    let forks = added.forks inputs ∙ ap (λ fs. set_cell h (cell_at h fs ++ item_of c.plain.result ∷ []) fs) (c.skip.ensures.forks inputs) ∙ cell in
    leads_to inputs (state (give x) (frames_in inputs s) (forks_in inputs s)) (stands inputs after GoBack) after GoBack
    (gives x frames refl (ap (λ fs. state go_back (frames_in inputs after) fs) forks)) (tt, refl)
