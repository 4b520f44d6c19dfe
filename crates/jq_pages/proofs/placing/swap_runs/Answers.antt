use Rattle.std.proofs.Common.{◌≡◌, ℕ, ◌<◌, ◌≤◌, length, arith, ◌∙◌}
use Rattle.jq_pages.proofs.Moves.{next_pages, next_run, next_runs, swapped_all_pages, swapped_all_runs, swapped_end, swapped_first_pages, swapped_first_runs, swapped_within}
use Rattle.jq_pages.proofs.placing.swap_runs.Goals as goal

pub loop-at-init : goal.loop-at-init
loop-at-init g c = record { pages = swapped_first_pages c.args.pages.now.items c.args.runs.now.items c.args.from; runs = swapped_first_runs c.args.pages.now.items c.args.runs.now.items c.args.from }

below : (a n m : ℕ) → a < n → n ≡ m → a < m
below a n m l e = omega arith

pub index_mut-requires : goal.index_mut-requires
index_mut-requires g c =
    let l : c.loop-at.at < length c.args.runs.now.items = below _ _ _ c.loop-at-test.true (c.len-at-end.ensures ∙ c.args.runs.now.ok.0) in
    swapped_within c.args.pages.now.items c.loop-at.pages.items c.args.runs.now.items c.args.from c.loop-at.at _ c.requires l c.loop-at.invariant.pages c.loop-at.pages.ok.0

pub loop-at-preserved : goal.loop-at-preserved
loop-at-preserved g c =
    let ps = c.args.pages.now.items in
    let rs = c.args.runs.now.items in
    let at = c.loop-at.at in
    let p = c.index_mut.result.now in
    let l : at < length rs = below _ _ _ c.loop-at-test.true (c.len-at-end.ensures ∙ c.args.runs.now.ok.0) in
    let inv = c.loop-at.invariant in
    let run = next_run ps c.loop-at.pages.items rs c.loop-at.runs.items c.args.from at p c.requires l inv.pages c.index_mut-in-loop-at.result.now inv.runs c.index_mut-in-loop-at.ensures.value in
    record {
      pages = next_pages ps c.loop-at.pages.items rs c.loop-at.runs.items c.args.from at p c.requires l inv.pages c.index_mut-in-loop-at.result.now c.swap_run.new.page c.index_mut.ensures.value run c.swap_run.ensures.inputs c.swap_run.ensures.page.0 c.swap_run.ensures.page.1;
      runs = next_runs ps c.loop-at.pages.items rs c.loop-at.runs.items c.args.from at p c.requires l inv.pages c.swap_run.new.run inv.runs c.index_mut.ensures.value c.swap_run.ensures.run.0 c.swap_run.ensures.run.1;
    }

pub returns-clause-pages : goal.returns-clause-pages
returns-clause-pages g c = swapped_all_pages c.args.pages.now.items c.loop-at.pages.items c.args.runs.now.items c.args.from c.loop-at.at (swapped_end _ _ _ c.loop-at-test.false (c.len-at-end.ensures ∙ c.args.runs.now.ok.0)) c.loop-at.invariant.pages

pub returns-clause-runs : goal.returns-clause-runs
returns-clause-runs g c =
    let n : c.len-at-end.result ≡ length c.args.runs.now.items = c.len-at-end.ensures ∙ c.args.runs.now.ok.0 in
    let l : c.loop-at.at ≤ length c.args.runs.now.items = omega (arith, n) in
    swapped_all_runs c.args.pages.now.items c.args.runs.now.items c.loop-at.runs.items c.args.from c.loop-at.at (swapped_end _ _ _ c.loop-at-test.false n) l c.loop-at.invariant.runs
