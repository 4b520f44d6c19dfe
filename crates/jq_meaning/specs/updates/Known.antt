-- That `_modify` is the prelude's.
use Rattle.std.specs.Prelude.{◌≡◌, codes}
use Rattle.jq_meaning.specs.Env.{Env, found_function, no_callee, find_callee, find_in_prelude}
use Rattle.jq_tree.specs.ModifyBody.{modify_body, modify_parameters}

-- In these bindings `_modify` is the prelude's definition, and where its body runs nothing defines `path`, `getpath`, `setpath` or
-- `delpaths` anew.
pub record HasModifyOf (own e : Env) : Type 0 where
  pub found : find_in_prelude (codes "_modify") 2 e ≡ found_function modify_parameters modify_body own
  pub paths : find_callee (codes "path") 1 own ≡ no_callee
  pub gets : find_callee (codes "getpath") 1 own ≡ no_callee
  pub sets : find_callee (codes "setpath") 2 own ≡ no_callee
  pub removes : find_callee (codes "delpaths") 1 own ≡ no_callee

pub record HasModify (e : Env) : Type 0 where
  pub own : Env
  pub is : HasModifyOf own e
