use Rattle.std.proofs.Common.{rules, tests, ◌∙◌, string_bytes}
use Rattle.std.specs.Str.{bytes_eq}
use Rattle.std.proofs.lemmas.Iterator.{YieldsList-from_slice}
use Rattle.std.proofs.lemmas.Iterator.Search.{any_from_yields_List}
use Rattle.jq_cli.proofs.Firsts.{known}
use Rattle.jq_cli.proofs.taking.is_known.Goals as goal

pub returns : goal.returns
returns c =
    any_from_yields_List (λ v. bytes_eq (string_bytes v.0) c.args.name.now) _ _ c.any.result c.any.ensures.ran (YieldsList-from_slice c.args.vars.now cc) (λ x b q k. search (rules, tests))
    ∙ known c.args.name.now c.args.vars.now c.utf8.name
