use Rattle.std.proofs.Common.{◌≡◌, ◌+◌, ◌-◌, ◌≤◌, length, ap, ◌∙◌, arith}
use Rattle.std.proofs.lemmas.List.{length-map, length-take-le}
use Rattle.jq_meaning.specs.Env.{outermost}
use Rattle.jq_state.specs.Builds.{builds}
use Rattle.jq_state.specs.Nodes.{program_binding, program_envs, node_in}
use Rattle.jq_state.specs.Environments.{program_of}
use Rattle.jq_state.proofs.Walks.{nodes_fit-take, cut_off}
use Rattle.jq_state.proofs.environments.Nodes.cut.Goals as goal

pub invariant_of-self : goal.invariant_of-self
invariant_of-self c =
    let ns = c.args.self.now in
    let own : c.len.result ≡ length ns.program.now.items.items = c.len.ensures in
    let k = c.args.count - c.len.result - 1 in
    let m = length-map ns.program.now.items.items program_binding in
    let h : k ≤ length ns.nodes.items = omega (arith, own, c.requires.within, c.requires.program, m) in
    let l = length-take-le k ns.nodes.items h in
    rw c.truncate.ensures.items (record { small = omega (arith, l, h, ns.small); fit = nodes_fit-take (length ns.program.now.items.items + 1) ns.nodes.items k ns.fit })

pub returns-clause-envs : goal.returns-clause-envs
returns-clause-envs c inputs =
    let ns = c.args.self.now in
    let own : c.len.result ≡ length ns.program.now.items.items = c.len.ensures in
    let k = c.args.count - c.len.result - 1 in
    let m = length-map ns.program.now.items.items program_binding in
    let h : k ≤ length ns.nodes.items = omega (arith, own, c.requires.within, c.requires.program, m) in
    let e : c.args.count ≡ length ns.program.now.items.items + 1 + k = omega (arith, own, c.requires.program, m) in
    ap (builds node_in (program_envs (program_of ns) (outermost inputs))) c.truncate.ensures.items ∙ cut_off ns inputs k c.args.count h e
