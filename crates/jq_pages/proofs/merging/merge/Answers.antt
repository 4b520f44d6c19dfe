use Rattle.std.proofs.Common.{ℕ, ◌+◌, ◌<◌, ◌≤◌, subst, sym, arith}
use Rattle.jq_pages.specs.private.Groups.{IsIndex}
use Rattle.jq_pages.proofs.Groups.{index_put}
use Rattle.jq_pages.proofs.merging.merge.Goals as goal

before : (k n : ℕ) → k + 1 < n → k ≤ n
before k n l = omega arith

pub returns-clause-index : goal.returns-clause-index
returns-clause-index g c =
    let x = c.join_pages.ensures in
    subst (λ z. IsIndex z c.join_pages.new.pages.items) (sym c.cut_groups.ensures) (index_put c.args.groups.now.items c.args.pages.now.items _ _ c.pair_of-k.result c.requires.index x.list (before _ _ x.there))
