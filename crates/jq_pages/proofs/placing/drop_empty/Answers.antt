use Rattle.std.proofs.Common.{ℕ, ◌+◌, ◌<◌, ◌≤◌, drop, subst, sym, arith}
use Rattle.jq_pages.specs.private.Groups.{IsIndex}
use Rattle.jq_pages.proofs.Groups.{index_put}
use Rattle.jq_pages.proofs.placing.drop_empty.Goals as goal

before : (j n : ℕ) → j < n → j ≤ n
before j n l = omega arith

pub returns-then-is_empty-clause-index : goal.returns-then-is_empty-clause-index
returns-then-is_empty-clause-index g c =
    let old = c.args.pages.now.items in
    subst (λ z. IsIndex z c.remove.new.self.items) (sym c.cut_groups.ensures)
    (index_put c.args.groups.now.items old c.remove.new.self.items (drop (c.args.j + 1) old) c.args.j c.requires.index c.remove.ensures.by_index.2 (before _ _ c.requires.page))
