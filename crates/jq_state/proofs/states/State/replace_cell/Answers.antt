use Rattle.std.proofs.Common.{◌<◌, ◌≤◌, ◌++◌, ◌∷◌, [], length, ap, ◌∙◌, arith}
use Rattle.jq_state.specs.Environments.{envs_of}
use Rattle.jq_state.specs.Chains.{continuations}
use Rattle.jq_state.specs.Items.{item_of}
use Rattle.jq_state.proofs.Cells.{changed, fits_changed, changed_small, items_set, set_outside}
use Rattle.jq_state.proofs.states.State.replace_cell.Goals as goal

pub invariant_of-self : goal.invariant_of-self
invariant_of-self c =
    let s = c.args.self.now in
    let f = c.index_mut.result.now in
    let v = c.push.new.self in
    let e = c.index_mut.ensures.value in
    record { small = changed_small s.forks.items c.args.height (changed v f) s.small; fit = fits_changed s.nodes s.frames s.forks.items s.top c.args.height f v e s.fit }

pub returns-then-index-len-clause-forks : goal.returns-then-index-len-clause-forks
returns-then-index-len-clause-forks c inputs =
    let s = c.args.self.now in
    let envs = envs_of inputs s.nodes in
    let m : length s.forks.items ≤ c.args.height = omega (arith, c.if-index-len.true, c.len.ensures, s.forks.ok.0) in
    set_outside envs (continuations envs s.frames) s.forks.items c.args.height (item_of c.args.item ∷ []) m

pub returns-clause-forks : goal.returns-clause-forks
returns-clause-forks c inputs =
    let s = c.args.self.now in
    let envs = envs_of inputs s.nodes in
    let x = c.args.item in
    let l : c.args.height < length s.forks.items = omega (arith, c.if-index-len.false, c.len.ensures, s.forks.ok.0) in
    let p = c.in_ok-push.ensures.items ∙ ap (λ xs. xs ++ x ∷ []) c.clear.ensures.items in
    items_set envs (continuations envs s.frames) s.forks.items c.args.height c.index_mut.result.now c.push.new.self (x ∷ []) l c.index_mut.ensures.value p
