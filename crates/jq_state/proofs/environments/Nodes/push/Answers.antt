use Rattle.std.proofs.Common.{◌≡◌, ◌+◌, length, ap, ◌∙◌, arith, is_ok}
use Rattle.jq_meaning.specs.Env.{outermost}
use Rattle.jq_state.specs.Builds.{builds}
use Rattle.jq_state.specs.Nodes.{program_envs, node_in}
use Rattle.jq_state.specs.Environments.{program_of, count_of}
use Rattle.jq_state.specs.declared.environments.Node.{Node}
use Rattle.jq_state.proofs.Chains.{length_after, length_before}
use Rattle.jq_state.proofs.Walks.{fits_after, pushed}
use Rattle.jq_state.proofs.environments.Nodes.push.Goals as goal

pub invariant_of-self : goal.invariant_of-self
invariant_of-self c =
    let ns = c.args.self.now in
    let n : Node = record { binding = c.args.binding; outer = c.args.outer } in
    let l = length_after (is_ok c.push.result) ns.nodes.items c.push.new.self.items n c.push.ensures.items in
    let e : count_of ns ≡ (length ns.program.now.items.items + 1) + length ns.nodes.items = omega arith in
    record {
      small = omega (arith, l, c.if-index.false, c.count-index.ensures, c.count-index.type_inv);
      fit = fits_after (is_ok c.push.result) (length ns.program.now.items.items + 1) (count_of ns) ns.nodes.items c.push.new.self.items n c.push.ensures.items e ns.fit (c.requires.outer, c.requires.own);
    }

pub returns-clause-envs : goal.returns-clause-envs
returns-clause-envs c inputs =
    let ns = c.args.self.now in
    let known = program_envs (program_of ns) (outermost inputs) in
    ap (builds node_in known) c.in_ok-push.ensures.items ∙ pushed inputs known ns.nodes.items (record { binding = c.args.binding; outer = c.args.outer })

pub returns-clause-grows : goal.returns-clause-grows
returns-clause-grows c =
    let l = length_before (is_ok c.push.result) c.args.self.now.nodes.items c.push.new.self.items (record { binding = c.args.binding; outer = c.args.outer }) c.push.ensures.items in
    omega (arith, l)

pub returns-in_err-push-clause-grows : goal.returns-in_err-push-clause-grows
returns-in_err-push-clause-grows c =
    let l = length_before (is_ok c.push.result) c.args.self.now.nodes.items c.push.new.self.items (record { binding = c.args.binding; outer = c.args.outer }) c.push.ensures.items in
    omega (arith, l)
