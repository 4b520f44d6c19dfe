use Rattle.std.proofs.Common.{◌<◌, ◌≤◌, ◌++◌, ◌∷◌, [], length, arith}
use Rattle.jq_state.specs.Environments.{envs_of}
use Rattle.jq_state.specs.Chains.{continuations}
use Rattle.jq_state.specs.Items.{item_of}
use Rattle.jq_meaning.specs.machine.Stack.{cell_at}
use Rattle.jq_state.proofs.Cells.{points, changed, fits_changed, changed_small, item_added, set_outside}
use Rattle.jq_state.proofs.states.State.add_to_cell.Goals as goal

pub invariant_of-self : goal.invariant_of-self
invariant_of-self c =
    let s = c.args.self.now in
    let f = c.index_mut.result.now in
    let v = c.push.new.self in
    let e = c.index_mut.ensures.value in
    record { small = changed_small s.forks.items c.args.height (changed v f) s.small; fit = fits_changed s.nodes s.frames s.forks.items s.top c.args.height f v e s.fit }

pub returns-then-index-len-clause-forks : goal.returns-then-index-len-clause-forks
returns-then-index-len-clause-forks c inputs =
    let s = c.args.self.now in
    let envs = envs_of inputs s.nodes in
    let ks = continuations envs s.frames in
    let m : length s.forks.items ≤ c.args.height = omega (arith, c.if-index-len.true, c.len.ensures, s.forks.ok.0) in
    set_outside envs ks s.forks.items c.args.height (cell_at c.args.height (points envs ks s.forks.items) ++ item_of c.args.item ∷ []) m

pub returns-clause-forks : goal.returns-clause-forks
returns-clause-forks c inputs =
    let s = c.args.self.now in
    let envs = envs_of inputs s.nodes in
    let l : c.args.height < length s.forks.items = omega (arith, c.if-index-len.false, c.len.ensures, s.forks.ok.0) in
    item_added envs (continuations envs s.frames) s.forks.items c.args.height c.index_mut.result.now c.push.new.self c.args.item l c.index_mut.ensures.value c.in_ok-push.ensures.items
