use Rattle.std.proofs.Common.{ℕ, List, ap, sym, subst, ◌∙◌}
use Rattle.std.proofs.Math.Logic.{∥∥₁_elim, ∥∥₁_map, ∥∥₁_prop}
use Rattle.jq_pages.specs.private.Reruns.{kept_of}
use Rattle.std.proofs.Props.{props}
use Rattle.jq_pages.specs.private.Groups.{IsFew, group_pages}
use Rattle.jq_pages.proofs.Groups.{few_group}
use Rattle.jq_pages.proofs.Grown.{begun_by, held_by, start_one, start_three, start_two}
use Rattle.jq_pages.proofs.building.run_all.Goals as goal

pub add_groups-requires-clause-few : goal.add_groups-requires-clause-few
add_groups-requires-clause-few g c =
    subst (λ (z : List _). (n : ℕ) → IsFew (group_pages n z)) (sym c.deref-2.ensures.value)
    (∥∥₁_elim c.in_ok-pages.ensures.paged.holds (hlevel props) (λ h. ∥∥₁_elim c.in_ok-pages.ensures.paged.sized (hlevel props) (λ z. few_group g.S.Steps.seen (g.S.Steps.fold c.begin.new.self) (g.S.Steps.seen c.in_ok-head.first) c.in_ok-pages.pages.items h z)))

pub returns-clause-begun : goal.returns-clause-begun
returns-clause-begun g c = ∣ begun_by g.S.Steps.seen (g.S.Steps.fold c.args.steps.now) (g.S.Steps.fold c.close.new.self) c.in_ok-head.head c.in_ok-head.first (c.in_ok-tail.ensures.same ∙ c.in_ok-pages.ensures.same ∙ c.in_ok-head.ensures.same) c.in_ok-head.ensures.piece c.in_ok-head.ensures.state ∣₁

pub returns-clause-held : goal.returns-clause-held
returns-clause-held g c =
    let seen = g.S.Steps.seen in
    let first = g.S.Steps.seen c.in_ok-head.first in
    ∥∥₁_elim c.in_ok-pages.ensures.paged.sized ∥∥₁_prop (λ z. ∥∥₁_map c.in_ok-pages.ensures.paged.holds (λ h. held_by seen (g.S.Steps.fold c.begin.new.self) (g.S.Steps.fold c.fill_pages.new.steps) (g.S.Steps.fold c.close.new.self) first (seen c.kept_after.result.now) c.in_ok-pages.pages.items c.in_ok-tail.tail c.in_ok-pages.ensures.same c.in_ok-tail.ensures.same h z c.in_ok-tail.ensures.piece (c.kept_after.ensures ∙ ap (kept_of seen first) c.deref.ensures.value)))

pub returns-in_err-head-clause-started : goal.returns-in_err-head-clause-started
returns-in_err-head-clause-started g c = start_one (g.S.Steps.fold c.args.steps.now) _ _ _ c.begin.ensures.rises c.begin.ensures.silent

pub returns-in_err-pages-clause-started : goal.returns-in_err-pages-clause-started
returns-in_err-pages-clause-started g c = start_two (g.S.Steps.fold c.args.steps.now) _ _ _ _ c.begin.ensures.rises c.begin.ensures.silent c.fill_pages.ensures.rises

pub returns-in_err-tail-clause-started : goal.returns-in_err-tail-clause-started
returns-in_err-tail-clause-started g c = start_three (g.S.Steps.fold c.args.steps.now) (g.S.Steps.fold c.fill_pages.new.steps) _ _ _ _ _ (c.fill_pages.ensures.same ∙ c.begin.ensures.same) c.begin.ensures.rises c.begin.ensures.silent c.fill_pages.ensures.rises c.close.ensures.rises c.close.ensures.silent

pub returns-clause-started : goal.returns-clause-started
returns-clause-started g c = start_three (g.S.Steps.fold c.args.steps.now) (g.S.Steps.fold c.fill_pages.new.steps) _ _ _ _ _ (c.fill_pages.ensures.same ∙ c.begin.ensures.same) c.begin.ensures.rises c.begin.ensures.silent c.fill_pages.ensures.rises c.close.ensures.rises c.close.ensures.silent
