use Rattle.std.proofs.Common.{◌≡◌, ◌+◌, ◌-◌, ◌≤◌, length, take, reverse, map, sym, ap, ◌∙◌, arith}
use Rattle.std.proofs.lemmas.List.{length-map}
use Rattle.jq_state.specs.Nodes.{program_binding}
use Rattle.jq_state.specs.Chains.{continuations, mark_of}
use Rattle.jq_state.specs.Environments.{envs_of, first_count}
use Rattle.jq_state.specs.Forks.{fork_in, left_in}
use Rattle.jq_state.specs.Links.{last_mark}
use Rattle.jq_state.specs.Views.{frames_in, newest_left}
use Rattle.jq_state.specs.declared.forks.Fork.{Fork}
use Rattle.jq_state.proofs.Cells.{changed_small}
use Rattle.jq_state.proofs.Giving.{fits_again, given, last_fits, last_left-at, last_left-none, last_same, with_choice}
use Rattle.jq_state.proofs.states.State.give_next.Goals as goal

pub returns-in_err-item-clause-none_forks : goal.returns-in_err-item-clause-none_forks
returns-in_err-item-clause-none_forks c =
    let s = c.args.self.now in
    let f = c.index_mut-fork.result.now in
    let i = c.len-count.result - 1 in
    rw c.from_residual.ensures
    (λ inputs.
    ap (λ forks. reverse (map (fork_in (envs_of inputs s.nodes) (continuations (envs_of inputs s.nodes) s.frames)) forks))
    (last_same s.forks.items i f (with_choice c.take_first.new.self f.cell f) c.index_mut-fork.ensures.value (ap (λ d. with_choice d f.cell f) c.in_err-item.ensures.none)))

pub returns-then-count-eq0-clause-few : goal.returns-then-count-eq0-clause-few
returns-then-count-eq0-clause-few c =
    let s = c.args.self.now in
    let n : length s.forks.items ≡ 0 = omega (arith, c.len-count.ensures, s.forks.ok.0, c.if-count-eq0.true) in
    last_left-none s.forks.items n

pub returns-in_err-item-clause-few : goal.returns-in_err-item-clause-few
returns-in_err-item-clause-few c =
    let s = c.args.self.now in
    let f = c.index_mut-fork.result.now in
    let i = c.len-count.result - 1 in
    let n : length s.forks.items ≡ i + 1 = omega (arith, c.len-count.ensures, s.forks.ok.0, c.if-count-eq0.false) in
    let left : newest_left s ≡ left_in f.choice = last_left-at 0 s.forks.items f i n ∙ ap (λ (g : Fork). left_in g.choice) (sym c.index_mut-fork.ensures.value) in
    let h = c.in_err-item.ensures.few in
    rw c.from_residual.ensures (omega (arith, left, h))

pub cut-requires : goal.cut-requires
cut-requires c =
    let s = c.args.self.now in
    let i = c.len-count.result - 1 in
    let f = c.index_mut-fork.result.now in
    let n : length s.forks.items ≡ i + 1 = omega (arith, c.len-count.ensures, s.forks.ok.0, c.if-count-eq0.false) in
    let last = last_fits s.nodes s.frames s.forks.items i s.top f n c.index_mut-fork.ensures.value s.fit in
    last.in_frames

pub cut-requires-2-clause-program : goal.cut-requires-2-clause-program
cut-requires-2-clause-program c =
    let s = c.args.self.now in
    let i = c.len-count.result - 1 in
    let f = c.index_mut-fork.result.now in
    let n : length s.forks.items ≡ i + 1 = omega (arith, c.len-count.ensures, s.forks.ok.0, c.if-count-eq0.false) in
    let last = last_fits s.nodes s.frames s.forks.items i s.top f n c.index_mut-fork.ensures.value s.fit in
    omega (arith, last.low, length-map s.nodes.program.now.items.items program_binding)

pub cut-requires-2-clause-within : goal.cut-requires-2-clause-within
cut-requires-2-clause-within c =
    let s = c.args.self.now in
    let i = c.len-count.result - 1 in
    let f = c.index_mut-fork.result.now in
    let n : length s.forks.items ≡ i + 1 = omega (arith, c.len-count.ensures, s.forks.ok.0, c.if-count-eq0.false) in
    let last = last_fits s.nodes s.frames s.forks.items i s.top f n c.index_mut-fork.ensures.value s.fit in
    last.in_envs

pub invariant_of-self-2 : goal.invariant_of-self-2
invariant_of-self-2 c =
    let s = c.args.self.now in
    let i = c.len-count.result - 1 in
    let f = c.index_mut-fork.result.now in
    let n : length s.forks.items ≡ i + 1 = omega (arith, c.len-count.ensures, s.forks.ok.0, c.if-count-eq0.false) in
    let last = last_fits s.nodes s.frames s.forks.items i s.top f n c.index_mut-fork.ensures.value s.fit in
    record {
      small = changed_small s.forks.items i (with_choice c.take_first.new.self c.clear.new.self f) s.small;
      fit = fits_again s.nodes c.cut-2.new.self s.frames c.cut.new.self s.forks.items i f c.take_first.new.self c.clear.new.self n last c.cut.ensures.left c.cut.ensures.count c.cut-2.ensures.first c.cut-2.ensures.count;
    }

pub returns-clause-some : goal.returns-clause-some
returns-clause-some c inputs =
    let s = c.args.self.now in
    let i = c.len-count.result - 1 in
    let f = c.index_mut-fork.result.now in
    let n : length s.forks.items ≡ i + 1 = omega (arith, c.len-count.ensures, s.forks.ok.0, c.if-count-eq0.false) in
    let last = last_fits s.nodes s.frames s.forks.items i s.top f n c.index_mut-fork.ensures.value s.fit in
    let left : mark_of c.cut.new.self ≡ last_mark 0 (take f.frames s.frames.frames.items) = ap (last_mark 0) c.cut.ensures.left in
    let mark : mark_of c.cut.new.self ≤ f.envs = omega (arith, left, last.fits.2) in
    let envs = envs_of inputs s.nodes in
    given envs (envs_of inputs c.cut-2.new.self) s.frames c.cut.new.self (first_count s.nodes) s.forks.items i f c.take_first.new.self c.clear.new.self c.in_ok-item.item (frames_in inputs s)
    n c.index_mut-fork.ensures.value (c.cut-2.ensures.envs inputs) (c.cut.ensures.frames envs) mark last.fits last.others c.in_ok-item.ensures.some c.clear.ensures.items
