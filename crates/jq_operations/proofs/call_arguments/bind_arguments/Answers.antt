use Rattle.std.proofs.Common.{◌∙◌, ap, arith}
use Rattle.std.specs.Iterator.Adapters.{zip_first, zip_second}
use Rattle.std.specs.Slice.Iter.{iter_rest}
use Rattle.std.proofs.lemmas.Slice.Zip.{Zip-more, either_empty_from_Zip}
use Rattle.jv_data.specs.Text.{text_of}
use Rattle.jq_ast.specs.Named.{named}
use Rattle.jq_meaning.specs.Env.{bound, closure}
use Rattle.jq_state.specs.Nodes.{env_at}
use Rattle.jq_state.specs.Views.{envs_in}
use Rattle.jq_operations.proofs.Binding.{bound_more, bound_all}
use Rattle.jq_operations.proofs.call_arguments.bind_arguments.Goals as goal

pub loop-parameter-preserved : goal.loop-parameter-preserved
loop-parameter-preserved c =
    let s = c.loop-parameter.parameter-iterator in
    let t = c.next.new.self in
    let more = Zip-more s t c.next.result _ c.in-Some.is c.next.ensures.steps in
    let p = c.in-Some.parameter.now in
    let u = c.in-Some.argument.now in
    let i = c.loop-parameter.invariant in
    record {
      caller = omega (arith, i.caller, c.in_ok-env.ensures.grows);
      within = c.in_ok-env.ensures.within;
      kept = λ inputs. c.in_ok-env.ensures.others inputs c.args.caller i.caller ∙ i.kept inputs;
      same = λ inputs.
          bound_more (iter_rest (zip_first s)) (iter_rest (zip_first t)) (iter_rest (zip_second s)) (iter_rest (zip_second t)) p u
          (env_at (envs_in inputs c.args.state.now) c.args.caller) (env_at (envs_in inputs c.loop-parameter.state) c.loop-parameter.env) _ _ more.0 more.1
          (c.in_ok-env.ensures.env inputs ∙ ap (λ z. bound (closure (text_of p) (named u) z) (env_at (envs_in inputs c.loop-parameter.state) c.loop-parameter.env)) (i.kept inputs))
          (i.same inputs);
      frames = λ inputs. c.in_ok-env.ensures.frames inputs ∙ i.frames inputs;
      forks = λ inputs. c.in_ok-env.ensures.forks inputs ∙ i.forks inputs;
    }

pub returns-clause-env : goal.returns-clause-env
returns-clause-env c inputs =
    let s = c.loop-parameter.parameter-iterator in
    let i = c.loop-parameter.invariant in
    bound_all (iter_rest (zip_first s)) (iter_rest (zip_second s)) (env_at (envs_in inputs c.args.state.now) c.args.caller) (env_at (envs_in inputs c.loop-parameter.state) c.loop-parameter.env) _
    (either_empty_from_Zip s c.next.new.self c.next.result c.in-None.is c.next.ensures.steps) (i.same inputs)
