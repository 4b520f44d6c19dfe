use Rattle.std.proofs.Common.{◌<◌, ◌≤◌, length, sym, ap, ◌∙◌, arith}
use Rattle.jq_state.specs.Environments.{envs_of}
use Rattle.jq_state.specs.Chains.{continuations}
use Rattle.jq_state.specs.Items.{item_of}
use Rattle.jq_state.specs.Views.{is_empty}
use Rattle.jq_state.proofs.Cells.{cell_read, cell_outside, empty_cell}
use Rattle.jq_state.proofs.states.State.is_cell_empty.Goals as goal

pub returns-then-index-len : goal.returns-then-index-len
returns-then-index-len c inputs =
    let s = c.args.self.now in
    let envs = envs_of inputs s.nodes in
    let m : length s.forks.items ≤ c.args.height = omega (arith, c.if-index-len.true, c.len.ensures, s.forks.ok.0) in
    sym (ap is_empty (cell_outside envs (continuations envs s.frames) s.forks.items c.args.height m))

pub returns : goal.returns
returns c inputs =
    let s = c.args.self.now in
    let envs = envs_of inputs s.nodes in
    let f = c.index.result.now in
    let l : c.args.height < length s.forks.items = omega (arith, c.if-index-len.false, c.len.ensures, s.forks.ok.0) in
    c.is_empty.ensures ∙ empty_cell item_of f.cell.items f.cell.len f.cell.ok.0 ∙ sym (ap is_empty (cell_read envs (continuations envs s.frames) s.forks.items c.args.height f l c.index.ensures))
