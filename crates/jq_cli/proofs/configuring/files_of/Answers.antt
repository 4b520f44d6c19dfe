use Rattle.std.proofs.Common.{◌∙◌, ap, codes, map, []}
use Rattle.std.specs.Prelude.{unwrap_or}
use Rattle.std.proofs.lemmas.Result.{IfOk-weaker}
use Rattle.clap.specs.Words.{found_of}
use Rattle.clap.proofs.WalkLemmas.{raw_values-rows}
use Rattle.jq_cli.proofs.configuring.files_of.Goals as goal

pub returns-in-Some : goal.returns-in-Some
returns-in-Some c =
    let is = ap (λ o. unwrap_or o []) (c.in-Some.ensures ∙ raw_values-rows (found_of c.args.matches.now) (codes "FILE")) in
    IfOk-weaker c.copied.result _ _ (λ v e. e ∙ is) c.copied.ensures

pub returns-in-None : goal.returns-in-None
returns-in-None c =
    let is = ap (λ o. unwrap_or o []) (c.in-None.ensures ∙ raw_values-rows (found_of c.args.matches.now) (codes "FILE")) in
    ap (map _) c.new.ensures.items ∙ is
