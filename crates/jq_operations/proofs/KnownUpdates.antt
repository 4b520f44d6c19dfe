-- The prelude's `_modify` in the environments of a program.
use Rattle.std.proofs.Common.{◌≡◌, ℕ, zero, suc, ◌+◌, ◌-◌, ◌<◌, ◌≤◌, Some, length, sym, subst, arith}
use Rattle.jv_data.specs.Value.{Value}
use Rattle.jq_meaning.specs.Programs.{program_env}
use Rattle.jq_meaning.specs.Runs.{Run}
use Rattle.jq_state.specs.Environments.{envs_of, program_of}
use Rattle.jq_state.specs.Modify.{KnowsModify}
use Rattle.jq_state.specs.Nodes.{env_at}
use Rattle.jq_state.specs.declared.environments.Nodes.{Nodes}
use Rattle.jq_meaning.specs.updates.Known.{HasModify, HasModifyOf}
use Rattle.jq_meaning.specs.laws.Updates.{ModifyStays}
use Rattle.jq_operations.specs.private.Program.{ProgramIsAList}
use Rattle.jq_operations.proofs.Programs.{Comes, there}

-- what is known of an outer environment is known of the inner ones
known_inside : (ns : Nodes) (inputs : Run Value) (count k : ℕ) → ProgramIsAList ns → ModifyStays → count + k ≤ length (program_of ns) → HasModify (env_at (envs_of inputs ns) count)
    → HasModify (env_at (envs_of inputs ns) (count + k))
known_inside ns inputs count zero list stays h m = let p : count ≡ count + 0 = omega arith in subst (λ i. HasModify (env_at (envs_of inputs ns) i)) p m
known_inside ns inputs count (suc k) list stays h m =
    let p : suc (count + k) ≡ count + suc k = omega arith in
    let l : count + k < length (program_of ns) = omega (arith, h) in
    let le : count + k ≤ length (program_of ns) = omega (arith, h) in
    let b = there (program_of ns) (count + k) l in
    subst (λ i. HasModify (env_at (envs_of inputs ns) i)) p
    (subst HasModify (sym (list.grow inputs (count + k) b.0 b.1)) (stays b.0 (env_at (envs_of inputs ns) (count + k)) (known_inside ns inputs count k list stays le m)))

pub known_at : (ns : Nodes) (inputs : Run Value) (count env : ℕ) → Comes ns → ProgramIsAList ns → ModifyStays → count ≤ env → env ≤ length (program_of ns) → KnowsModify (program_of ns) (Some count)
    → HasModify (env_at (envs_of inputs ns) env)
known_at ns inputs count env comes list stays h l known =
    let k = env - count in
    let s : count + k ≡ env = omega (arith, h) in
    let t : count + k ≤ length (program_of ns) = omega (arith, s, l) in
    let le : count ≤ length (program_of ns) = omega (arith, h, l) in
    let own = program_env (program_of ns) count inputs in
    let here : HasModify (env_at (envs_of inputs ns) count) = record { own = own; is = subst (HasModifyOf own) (sym (comes inputs count le)) (known inputs) } in
    subst (λ i. HasModify (env_at (envs_of inputs ns) i)) s (known_inside ns inputs count k list stays t here)
