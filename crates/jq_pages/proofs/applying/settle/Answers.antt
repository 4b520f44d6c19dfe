use Rattle.std.proofs.Common.{◌≡◌, ◌∙◌, List, subst, sym}
use Rattle.std.proofs.Math.Logic.{∥∥₁_elim, ∥∥₁_map}
use Rattle.std.proofs.Props.{props}
use Rattle.jq_pages.specs.private.Groups.{IsFew, group_pages}
use Rattle.jq_pages.specs.private.Pages.{all_inputs, IsHeld}
use Rattle.jq_pages.proofs.Sets.{sets}
use Rattle.jq_pages.proofs.Groups.{few_group}
use Rattle.jq_pages.proofs.Filled.{dropped_inputs, dropped_held, dropped_filled, dropped_within, same_pieces}
use Rattle.jq_pages.proofs.Joined.{merges_filled, merges_held, merges_inputs}
use Rattle.jq_pages.proofs.applying.settle.Goals as goal
use Rattle.jq_pages.proofs.applying.settle.Goals.{After-merge}

-- what the pages hold after the page was removed or joined
held : (g : _) (c : After-merge g) → IsHeld g.S.Steps.seen (g.S.Steps.fold c.args.«_steps».now) (g.S.Steps.seen c.args.«_first».now) c.args.pages.now.items c.args.«_tail».now → IsHeld g.S.Steps.seen (g.S.Steps.fold c.args.«_steps».now) (g.S.Steps.seen c.args.«_first».now) c.merge.new.pages.items c.args.«_tail».now
held g c h =
    merges_held g.S.Steps.seen _ _ c.drop_empty.new.pages.items c.merge.new.pages.items _ c.merge.ensures.pages
    (dropped_held g.S.Steps.seen _ _ c.args.pages.now.items c.drop_empty.new.pages.items c.args.j _ c.drop_empty.ensures.pages c.requires.page h)

inputs : (g : _) (c : After-merge g) → all_inputs c.merge.new.pages.items ≡ all_inputs c.args.pages.now.items
inputs g c = merges_inputs c.drop_empty.new.pages.items c.merge.new.pages.items c.merge.ensures.pages ∙ dropped_inputs c.args.pages.now.items c.drop_empty.new.pages.items c.args.j c.drop_empty.ensures.pages c.requires.page

pub merge-requires-clause-page : goal.merge-requires-clause-page
merge-requires-clause-page g c = dropped_within c.args.pages.now.items c.drop_empty.new.pages.items c.args.j c.drop_empty.ensures.pages c.requires.page

pub add_groups-requires-clause-few : goal.add_groups-requires-clause-few
add_groups-requires-clause-few g c =
    let b = (goal.at.add_groups-requires-clause-few g c).After-merge in
    subst (λ (z : List _). (n : _) → IsFew (group_pages n z)) (sym c.deref.ensures.value)
    (∥∥₁_elim c.requires.held (hlevel props) (λ h.
    let k = held g b h in
    few_group g.S.Steps.seen _ _ c.merge.new.pages.items k.holds k.sized))

pub returns-clause-inputs : goal.returns-clause-inputs
returns-clause-inputs g c = inputs g ((goal.at.returns-clause-inputs g c).After-merge)

pub returns-clause-pieces : goal.returns-clause-pieces
returns-clause-pieces g c =
    let b = (goal.at.returns-clause-pieces g c).After-merge in
    ∥∥₁_elim c.requires.held (hlevel sets) (λ h. same_pieces g.S.Steps.seen _ _ c.args.pages.now.items c.merge.new.pages.items h.holds (held g b h).holds (inputs g b))

pub returns-clause-held : goal.returns-clause-held
returns-clause-held g c = ∥∥₁_map c.requires.held (λ h. held g ((goal.at.returns-clause-held g c).After-merge) h)

pub returns-clause-filled : goal.returns-clause-filled
returns-clause-filled g c h = merges_filled c.drop_empty.new.pages.items c.merge.new.pages.items c.merge.ensures.pages (dropped_filled c.args.pages.now.items c.drop_empty.new.pages.items c.args.j c.drop_empty.ensures.pages c.requires.page h)
