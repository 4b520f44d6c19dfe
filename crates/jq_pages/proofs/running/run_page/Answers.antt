use Rattle.std.proofs.Common.{ap, ◌∙◌, map, ◌++◌, [], refl}
use Rattle.jv_data.specs.View.{view}
use Rattle.jq_pages.specs.Pieces.{piece_view}
use Rattle.jq_pages.proofs.Folds.{run_added, run_none}
use Rattle.jq_pages.proofs.running.run_page.Goals as goal

pub returns-clause-run : goal.returns-clause-run
returns-clause-run g c =
    let r = g.S.Steps.fold c.args.steps.now in
    let s = g.S.Steps.seen c.args.entry.now in
    let xs = map view c.args.before.now in
    let ys = map view c.args.put.now in
    let zs = map view c.args.after.now in
    let one = c.in_ok-middle.ensures in
    let two = c.in_ok-later.ensures in
    let three = c.in_ok-exit.ensures in
    let none = run_none r s (g.S.Steps.seen c.in_ok-start.start) (map piece_view c.new-pieces.result.items.items) (ap (map piece_view) c.new-pieces.ensures.items) c.in_ok-start.ensures in
    let first = run_added r r s _ _ [] xs _ _ refl none one.exit one.pieces in
    let second = run_added r _ s _ _ xs ys _ _ one.same first two.exit two.pieces in
    run_added r _ s _ _ (xs ++ ys) zs _ _ (two.same ∙ one.same) second three.exit three.pieces
