use Rattle.std.proofs.Common.{◌≡◌, ◌∙◌, ◌∷◌, [], ap, length, rules, sym}
use Rattle.std.proofs.lemmas.List.{nil_from_length}
use Rattle.jv_data.proofs.shared.Results.{if_ok_map}
use Rattle.jv_data.specs.View.{view}
use Rattle.jq_meaning.specs.machine.Matching.{match_later}
use Rattle.jq_state.specs.Nexts.{Transition}
use Rattle.jq_state.specs.Steps.{binder_of, tasks_of}
use Rattle.jq_transitions.specs.private.Transitions.{ComesAnywhere, items_left}
use Rattle.jq_transitions.proofs.Tasks.{tasks-push}
use Rattle.jq_transitions.proofs.receiving.patterns.match_later.Goals as goal

pub returns-in-Some-Items : goal.returns-in-Some-Items
returns-in-Some-Items c =
    let task = items_left c.in-Some-Items.patterns.now c.in-Some-Items.index (view c.in-Some-Items.value) in
    let go : Transition = match_later (task ∷ tasks_of c.pop.new.self.items) (binder_of c.deref_mut.result.now.binder) in
    rw (ap (λ r. r.tasks.items) (sym c.deref_mut.ensures.value), ap (λ r. r.binder) (sym c.deref_mut.ensures.value), c.in-Some-Items.ensures.items, tasks-push, c.in-Some-Items.field-0-is)
    (if_ok_map c.match_items.result {P = ComesAnywhere c.args.scope go} c.match_items.ensures (λ n h. h c.args.state.now c.requires))

pub returns-in-Some-Members : goal.returns-in-Some-Members
returns-in-Some-Members c =
    rw (ap (λ r. r.tasks.items) (sym c.deref_mut.ensures.value), ap (λ r. r.binder) (sym c.deref_mut.ensures.value), c.in-Some-Members.ensures.items, tasks-push, c.in-Some-Members.field-0-is) c.match_members.ensures

pub returns-in-None : goal.returns-in-None
returns-in-None c =
    let tasks = c.deref_mut.result.now.tasks.items in
    let empty : length tasks ≡ 0 = search rules in
    let none : c.args.remaining.value.tasks.items ≡ [] = ap (λ r. r.tasks.items) (sym c.deref_mut.ensures.value) ∙ nil_from_length tasks empty in
    let same : c.args.remaining.value.binder ≡ c.into_inner.result.binder = search rules in
    rw (none, same) c.run_bound.ensures
