use Rattle.std.proofs.Common.{◌≡◌, ℕ, ◌+◌, ◌<◌, ◌≤◌, ◌∙◌, List, length, get_or, sym, ap, subst, arith}
use Rattle.std.proofs.lemmas.List.{length-map}
use Rattle.jv_data.specs.Value.{Value}
use Rattle.jq_meaning.specs.Programs.{program_env}
use Rattle.jq_meaning.specs.Runs.{Run}
use Rattle.jq_state.specs.Environments.{count_of, envs_of, program_of}
use Rattle.jq_state.specs.Nodes.{NodeFits, env_at, node_in, program_binding}
use Rattle.jq_state.specs.declared.environments.Node.{Node}
use Rattle.jq_state.specs.declared.environments.Nodes.{Nodes}
use Rattle.jq_state.proofs.Copying.{added_same, node_same}
use Rattle.jq_state.proofs.Walks.{envs-length, node_read, nodes_fit-at}
use Rattle.jq_state.proofs.environments.Nodes.copy.Goals as goal

pub loop-node-init : goal.loop-node-init
loop-node-init c =
    let s = c.args.self.now in
    let first = c.in_ok-copy.copy in
    let count : count_of first ≡ length s.program.now.items.items + 1 = c.in_ok-copy.ensures.count in
    let bs = program_of s in
    let same : program_of first ≡ bs = c.in_ok-copy.ensures.program in
    let all : length bs ≡ length s.program.now.items.items = length-map s.program.now.items.items program_binding in
    record {
      count = omega (arith, count);
      envs = λ inputs i l.
          let low : i ≤ length bs = omega (arith, l, count, all) in
          let own : i ≤ length (program_of first) = subst (λ xs. i ≤ length xs) (sym same) low in
          c.program_comes_first-2.ensures inputs i own ∙ ap (λ xs. program_env xs i inputs) same ∙ sym (c.program_comes_first.ensures inputs i low);
    }

-- the node names environments before its own, which is computed from it
module _ (ns : Nodes) (copied : Nodes) (k : ℕ) (n : Node) (items : List Node) (same : items ≡ ns.nodes.items) (at : n ≡ get_or items k n) (low : k < length items) (count : count_of copied ≡ length ns.program.now.items.items + 1 + k) where
  is_read : n ≡ get_or ns.nodes.items k n
  is_read = at ∙ ap (λ xs. get_or xs k n) same

  under : k < length ns.nodes.items
  under = subst (λ xs. k < length xs) same low

  fits : NodeFits (count_of copied) n
  fits = subst (NodeFits (count_of copied)) (sym is_read) (nodes_fit-at (length ns.program.now.items.items + 1) ns.nodes.items k (count_of copied) n under count ns.fit)

  reads : (inputs : Run Value) → env_at (envs_of inputs ns) (count_of copied) ≡ node_in (envs_of inputs ns) n
  reads inputs = node_read ns inputs k (count_of copied) n under count ∙ ap (node_in (envs_of inputs ns)) (sym is_read)

pub push-requires-clause-outer : goal.push-requires-clause-outer
push-requires-clause-outer c = (fits c.args.self.now c.loop-node.copy c.loop-node.node-index c.node-item.result c.as_slice-node-items.result.now c.as_slice-node-items.ensures.value c.node-item.is c.loop-node-test.true c.loop-node.invariant.count).0

pub push-requires-clause-own : goal.push-requires-clause-own
push-requires-clause-own c =
    c.in_ok-copy-2.ensures.fits (count_of c.loop-node.copy)
    (fits c.args.self.now c.loop-node.copy c.loop-node.node-index c.node-item.result c.as_slice-node-items.result.now c.as_slice-node-items.ensures.value c.node-item.is c.loop-node-test.true c.loop-node.invariant.count).1

pub loop-node-preserved : goal.loop-node-preserved
loop-node-preserved c =
    let s = c.args.self.now in
    let before = c.loop-node.copy in
    let k = c.loop-node.node-index in
    let n = c.node-item.result in
    let count = c.loop-node.invariant.count in
    let known = fits s before k n c.as_slice-node-items.result.now c.as_slice-node-items.ensures.value c.node-item.is c.loop-node-test.true count in
    let one_more : count_of c.push.new.self ≡ count_of before + 1 = c.in_ok-push.ensures.count in
    record {
      count = omega (arith, count, one_more);
      envs = λ inputs i l.
          let low : i < count_of before + 1 = omega (arith, l, one_more) in
          added_same (count_of before) i (envs_of inputs s) (envs_of inputs before) (envs_of inputs c.push.new.self) _ (sym (envs-length before inputs)) (c.in_ok-push.ensures.envs inputs) (c.loop-node.invariant.envs inputs)
          (node_same (envs_of inputs s) (envs_of inputs before) (count_of before) n.outer n.binding c.in_ok-copy-2.field-0 (c.loop-node.invariant.envs inputs) known.0 known.1 c.in_ok-copy-2.ensures.same
          ∙ sym (reads s before k n c.as_slice-node-items.result.now c.as_slice-node-items.ensures.value c.node-item.is c.loop-node-test.true count inputs)) low;
    }
