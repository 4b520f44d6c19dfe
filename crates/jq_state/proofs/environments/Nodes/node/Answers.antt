use Rattle.std.proofs.Common.{◌≡◌, ◌+◌, ◌-◌, ◌<◌, length, sym, ap, subst, ◌∙◌, arith}
use Rattle.jq_state.specs.Nodes.{node_in, NodeFits}
use Rattle.jq_state.specs.Environments.{envs_of}
use Rattle.jq_state.proofs.Walks.{node_read, nodes_fit-at}
use Rattle.jq_state.proofs.environments.Nodes.node.Goals as goal

pub returns-clause-env : goal.returns-clause-env
returns-clause-env c inputs =
    let ns = c.args.self.now in
    let own : c.len-own.result ≡ length ns.program.now.items.items = c.len-own.ensures in
    let k = c.args.index - c.len-own.result - 1 in
    let h : k < length ns.nodes.items = omega (arith, own, c.requires, c.if-index-own.false) in
    let e : c.args.index ≡ length ns.program.now.items.items + 1 + k = omega (arith, own, c.if-index-own.false) in
    node_read ns inputs k c.args.index c.index.result.now h e ∙ ap (node_in (envs_of inputs ns)) (sym c.index.ensures)

pub returns-clause-fits : goal.returns-clause-fits
returns-clause-fits c =
    let ns = c.args.self.now in
    let own : c.len-own.result ≡ length ns.program.now.items.items = c.len-own.ensures in
    let k = c.args.index - c.len-own.result - 1 in
    let h : k < length ns.nodes.items = omega (arith, own, c.requires, c.if-index-own.false) in
    let e : c.args.index ≡ length ns.program.now.items.items + 1 + k = omega (arith, own, c.if-index-own.false) in
    subst (NodeFits c.args.index) (sym c.index.ensures) (nodes_fit-at (length ns.program.now.items.items + 1) ns.nodes.items k c.args.index c.index.result.now h e ns.fit)
