use Rattle.std.proofs.Common.{◌≡◌, ◌<◌, ◌≤◌, ◌∷◌, [], length, drop, sym, ap, ◌∙◌, arith}
use Rattle.jv_data.proofs.shared.Levels.{view-Null}
use Rattle.jq_meaning.specs.Runs.{plain}
use Rattle.jq_meaning.specs.machine.Operations.{state_in}
use Rattle.jq_state.specs.Environments.{envs_of}
use Rattle.jq_state.specs.Chains.{continuations}
use Rattle.jq_state.proofs.Cells.{changed, fits_changed, changed_small, items_set, set_outside, state_read, cell_outside, one_left, none_left}
use Rattle.jq_state.proofs.states.State.take_state.Goals as goal

pub invariant_of-self : goal.invariant_of-self
invariant_of-self c =
    let s = c.args.self.now in
    let f = c.index_mut.result.now in
    let v = c.pop.new.self in
    let e = c.index_mut.ensures.value in
    record { small = changed_small s.forks.items c.args.height (changed v f) s.small; fit = fits_changed s.nodes s.frames s.forks.items s.top c.args.height f v e s.fit }

pub returns-then-index-len-clause-item : goal.returns-then-index-len-clause-item
returns-then-index-len-clause-item c inputs =
    let s = c.args.self.now in
    let envs = envs_of inputs s.nodes in
    let m : length s.forks.items ≤ c.args.height = omega (arith, c.if-index-len.true, c.len.ensures, s.forks.ok.0) in
    c.plain.ensures ∙ ap plain view-Null ∙ sym (ap state_in (cell_outside envs (continuations envs s.frames) s.forks.items c.args.height m))

pub returns-then-index-len-clause-forks : goal.returns-then-index-len-clause-forks
returns-then-index-len-clause-forks c inputs =
    let s = c.args.self.now in
    let envs = envs_of inputs s.nodes in
    let m : length s.forks.items ≤ c.args.height = omega (arith, c.if-index-len.true, c.len.ensures, s.forks.ok.0) in
    set_outside envs (continuations envs s.frames) s.forks.items c.args.height [] m

pub returns-in-Some-clause-item : goal.returns-in-Some-clause-item
returns-in-Some-clause-item c inputs =
    let s = c.args.self.now in
    let envs = envs_of inputs s.nodes in
    let f = c.index_mut.result.now in
    let x = c.in-Some.state in
    let l : c.args.height < length s.forks.items = omega (arith, c.if-index-len.false, c.len.ensures, s.forks.ok.0) in
    let one = one_left f.cell.items c.pop.new.self.items x (sym c.truncate.ensures.items ∙ c.in-Some.ensures.items) in
    sym (state_read envs (continuations envs s.frames) s.forks.items c.args.height f (x ∷ drop 1 f.cell.items) l c.index_mut.ensures.value one.1)

pub returns-in-Some-clause-forks : goal.returns-in-Some-clause-forks
returns-in-Some-clause-forks c inputs =
    let s = c.args.self.now in
    let envs = envs_of inputs s.nodes in
    let f = c.index_mut.result.now in
    let l : c.args.height < length s.forks.items = omega (arith, c.if-index-len.false, c.len.ensures, s.forks.ok.0) in
    let one = one_left f.cell.items c.pop.new.self.items c.in-Some.state (sym c.truncate.ensures.items ∙ c.in-Some.ensures.items) in
    items_set envs (continuations envs s.frames) s.forks.items c.args.height f c.pop.new.self [] l c.index_mut.ensures.value one.0

pub returns-in-None-clause-item : goal.returns-in-None-clause-item
returns-in-None-clause-item c inputs =
    let s = c.args.self.now in
    let envs = envs_of inputs s.nodes in
    let f = c.index_mut.result.now in
    let l : c.args.height < length s.forks.items = omega (arith, c.if-index-len.false, c.len.ensures, s.forks.ok.0) in
    let left = c.truncate.new.self in
    let n : length left.items ≡ 0 = omega (arith, c.in-None.ensures.cases, left.ok.0) in
    let none = none_left f.cell.items c.pop.new.self.items left.items c.truncate.ensures.items c.in-None.ensures.items n in
    c.plain-in-None.ensures ∙ ap plain view-Null ∙ sym (state_read envs (continuations envs s.frames) s.forks.items c.args.height f [] l c.index_mut.ensures.value none.1)

pub returns-in-None-clause-forks : goal.returns-in-None-clause-forks
returns-in-None-clause-forks c inputs =
    let s = c.args.self.now in
    let envs = envs_of inputs s.nodes in
    let f = c.index_mut.result.now in
    let l : c.args.height < length s.forks.items = omega (arith, c.if-index-len.false, c.len.ensures, s.forks.ok.0) in
    let left = c.truncate.new.self in
    let n : length left.items ≡ 0 = omega (arith, c.in-None.ensures.cases, left.ok.0) in
    let none = none_left f.cell.items c.pop.new.self.items left.items c.truncate.ensures.items c.in-None.ensures.items n in
    items_set envs (continuations envs s.frames) s.forks.items c.args.height f c.pop.new.self [] l c.index_mut.ensures.value none.0
