use Rattle.std.proofs.Common.{ℕ, ◌+◌, ◌<◌, length, take, arith, below_more, ◌∙◌, sym, ap, subst, map, get_or}
use Rattle.jv_data.specs.View.{view}
use Rattle.jq_pages.specs.Folds.{Rises}
use Rattle.jq_pages.specs.private.Reruns.{RunsOver, MeetsAt, count_in, exit_of}
use Rattle.jq_pages.proofs.Reruns.{rises_page, rises_within, count_part, apart_here, rises_to, runs_more}
use Rattle.jq_pages.proofs.Folds.{run_whole}
use Rattle.jq_pages.proofs.following.follow.Goals as goal
use Rattle.jq_pages.proofs.following.follow.Goals.{After-run_page}

pub returns-then-has_met-clause-rises : goal.returns-then-has_met-clause-rises
returns-then-has_met-clause-rises g c = rises_within _ _ _ _ c.loop-page.invariant.rises (count_part c.args.pages.now c.loop-page.page-index)

pub returns-then-has_met-clause-rises_to : goal.returns-then-has_met-clause-rises_to
returns-then-has_met-clause-rises_to g c t l m =
    rises_to (MeetsAt g.S.Steps.seen (g.S.Steps.fold c.args.steps.now) (g.S.Steps.seen c.args.exit.now) (g.S.Steps.seen c.args.kept.now) c.args.pages.now) c.args.pages.now c.loop-page.page-index _ _ c.loop-page.invariant.apart c.loop-page.invariant.rises t m

-- the runs that were not made in vain
rose : (g : _) (c : After-run_page g) → Rises (g.S.Steps.starts c.args.steps.now) (g.S.Steps.starts c.run_page.new.steps) (count_in (take (c.loop-page.page-index + 1) c.args.pages.now))
rose g c =
    rises_page c.args.pages.now c.loop-page.page-index c.page-item.result _ _ _ c.loop-page-test.true c.page-item.is c.loop-page.invariant.rises
    (subst (λ z. Rises (g.S.Steps.starts c.loop-page.steps) (g.S.Steps.starts c.run_page.new.steps) (length z + 0 + 0)) c.deref-in-loop-page-2.ensures.value c.run_page.ensures.rises)

apart : (g : _) (c : After-run_page g) → (t : ℕ) → t < c.loop-page.page-index + 1 → MeetsAt g.S.Steps.seen (g.S.Steps.fold c.args.steps.now) (g.S.Steps.seen c.args.exit.now) (g.S.Steps.seen c.args.kept.now) c.args.pages.now t → ⊥
apart g c =
    let inv = c.loop-page.invariant in
    below_more (λ t. MeetsAt g.S.Steps.seen (g.S.Steps.fold c.args.steps.now) (g.S.Steps.seen c.args.exit.now) (g.S.Steps.seen c.args.kept.now) c.args.pages.now t → ⊥) _ inv.apart
    (apart_here g.S.Steps.seen _ _ _ c.args.pages.now c.loop-page.runs.items c.deref.result.now c.loop-page.page-index c.has_met.result inv.count inv.over c.deref.ensures.value c.has_met.ensures.1 c.if-has_met.false)

pub returns-in_err-run-clause-rises : goal.returns-in_err-run-clause-rises
returns-in_err-run-clause-rises g c = rises_within _ _ _ _ (rose g ((goal.at.returns-in_err-run-clause-rises g c).After-run_page)) (count_part c.args.pages.now (c.loop-page.page-index + 1))

pub returns-in_err-push-clause-rises : goal.returns-in_err-push-clause-rises
returns-in_err-push-clause-rises g c = rises_within _ _ _ _ (rose g ((goal.at.returns-in_err-push-clause-rises g c).After-run_page)) (count_part c.args.pages.now (c.loop-page.page-index + 1))

pub returns-in_err-run-clause-rises_to : goal.returns-in_err-run-clause-rises_to
returns-in_err-run-clause-rises_to g c t l m =
    rises_to (MeetsAt g.S.Steps.seen (g.S.Steps.fold c.args.steps.now) (g.S.Steps.seen c.args.exit.now) (g.S.Steps.seen c.args.kept.now) c.args.pages.now) c.args.pages.now (c.loop-page.page-index + 1) _ _ (apart g ((goal.at.returns-in_err-run-clause-rises_to g c).After-run_page)) (rose g ((goal.at.returns-in_err-run-clause-rises_to g c).After-run_page)) t m

pub returns-in_err-push-clause-rises_to : goal.returns-in_err-push-clause-rises_to
returns-in_err-push-clause-rises_to g c t l m =
    rises_to (MeetsAt g.S.Steps.seen (g.S.Steps.fold c.args.steps.now) (g.S.Steps.seen c.args.exit.now) (g.S.Steps.seen c.args.kept.now) c.args.pages.now) c.args.pages.now (c.loop-page.page-index + 1) _ _ (apart g ((goal.at.returns-in_err-push-clause-rises_to g c).After-run_page)) (rose g ((goal.at.returns-in_err-push-clause-rises_to g c).After-run_page)) t m

pub loop-page-preserved : goal.loop-page-preserved
loop-page-preserved g c =
    let inv = c.loop-page.invariant in
    let ran = c.run_page.ensures in
    let entry = c.exit_after-entry.ensures ∙ ap (exit_of g.S.Steps.seen (g.S.Steps.seen c.args.exit.now)) c.deref-in-loop-page.ensures.value in
    record {
      count = omega (arith, c.in_ok-push.ensures.len, inv.count);
      over = subst (λ z. RunsOver g.S.Steps.seen (g.S.Steps.fold c.args.steps.now) (g.S.Steps.seen c.args.exit.now) c.args.pages.now z) (sym c.in_ok-push.ensures.items)
          (runs_more g.S.Steps.seen _ _ c.args.pages.now c.loop-page.runs.items c.page-item.result c.in_ok-run.run' inv.over (omega arith) (c.page-item.is ∙ ap (λ z. get_or c.args.pages.now z c.page-item.result) (sym inv.count)) (run_whole _ _ _ _ _ _ _ _ inv.same entry (ap (map view) c.deref-in-loop-page-2.ensures.value) c.in_ok-run.ensures.run));
      apart = apart g ((goal.at.loop-page-preserved g c).After-run_page);
      same = ran.same ∙ inv.same;
      rises = rose g ((goal.at.loop-page-preserved g c).After-run_page);
    }
