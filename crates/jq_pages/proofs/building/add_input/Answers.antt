use Rattle.std.proofs.Common.{◌≡◌, ap, ◌∙◌}
use Rattle.std.proofs.Math.Logic.{∥∥₁_map}
use Rattle.jq_pages.specs.private.Pages.{IsPaged}
use Rattle.jq_pages.specs.private.Reruns.{kept_of}
use Rattle.jq_pages.proofs.Grown.{grown_holds, grown_sized, grown_filled, on_ok}
use Rattle.jq_pages.proofs.building.add_input.Goals as goal
use Rattle.jq_pages.proofs.building.add_input.Goals.{In_ok-piece}

at : (g : _) (c : In_ok-piece g) → g.S.Steps.seen c.kept_after.result.now ≡ kept_of g.S.Steps.seen (g.S.Steps.seen c.args.first.now) c.args.pages.now.items
at g c = c.kept_after.ensures ∙ ap (kept_of g.S.Steps.seen (g.S.Steps.seen c.args.first.now)) c.deref.ensures.value

pub returns-then-count-eq0-clause-paged : goal.returns-then-count-eq0-clause-paged
returns-then-count-eq0-clause-paged g c =
    let b = (goal.at.returns-then-count-eq0-clause-paged g c).In_ok-piece in
    on_ok _ _ _ c.add_page.ensures (λ x. let y : IsPaged g.S.Steps.seen (g.S.Steps.fold c.args.steps.now) (g.S.Steps.seen c.args.first.now) c.add_page.new.pages.items = record {
      holds = ∥∥₁_map c.requires.paged.holds (λ h. grown_holds g.S.Steps.seen (g.S.Steps.fold c.args.steps.now) (g.S.Steps.seen c.args.first.now) (g.S.Steps.seen c.kept_after.result.now) c.args.pages.now.items c.add_page.new.pages.items c.args.value c.in_ok-piece.piece c.in_ok-piece.exit x (at g b) c.in_ok-piece.ensures.piece c.in_ok-piece.ensures.state h);
      sized = ∥∥₁_map c.requires.paged.sized (λ h. grown_sized c.args.pages.now.items c.add_page.new.pages.items c.args.value c.in_ok-piece.piece c.in_ok-piece.exit x h);
    } in y)

pub returns-then-count-eq0-clause-filled : goal.returns-then-count-eq0-clause-filled
returns-then-count-eq0-clause-filled g c = on_ok _ _ _ c.add_page.ensures (λ x. ∥∥₁_map c.requires.filled (λ h. grown_filled c.args.pages.now.items c.add_page.new.pages.items c.args.value c.in_ok-piece.piece c.in_ok-piece.exit x h))

pub returns-clause-paged : goal.returns-clause-paged
returns-clause-paged g c =
    let b = (goal.at.returns-clause-paged g c).In_ok-piece in
    on_ok _ _ _ c.add_to_last.ensures (λ x. let y : IsPaged g.S.Steps.seen (g.S.Steps.fold c.args.steps.now) (g.S.Steps.seen c.args.first.now) c.add_to_last.new.pages.items = record {
      holds = ∥∥₁_map c.requires.paged.holds (λ h. grown_holds g.S.Steps.seen (g.S.Steps.fold c.args.steps.now) (g.S.Steps.seen c.args.first.now) (g.S.Steps.seen c.kept_after.result.now) c.args.pages.now.items c.add_to_last.new.pages.items c.args.value c.in_ok-piece.piece c.in_ok-piece.exit x (at g b) c.in_ok-piece.ensures.piece c.in_ok-piece.ensures.state h);
      sized = ∥∥₁_map c.requires.paged.sized (λ h. grown_sized c.args.pages.now.items c.add_to_last.new.pages.items c.args.value c.in_ok-piece.piece c.in_ok-piece.exit x h);
    } in y)

pub returns-clause-filled : goal.returns-clause-filled
returns-clause-filled g c = on_ok _ _ _ c.add_to_last.ensures (λ x. ∥∥₁_map c.requires.filled (λ h. grown_filled c.args.pages.now.items c.add_to_last.new.pages.items c.args.value c.in_ok-piece.piece c.in_ok-piece.exit x h))
