use Rattle.std.proofs.Common.{rules, tests, ◌∙◌, string_bytes}
use Rattle.std.proofs.lemmas.Iterator.{YieldsList-from_slice}
use Rattle.std.proofs.lemmas.Iterator.Search.{any_from_yields_List}
use Rattle.jq_app.specs.Explained.{is_explain}
use Rattle.jq_app.proofs.Explained.{mapped}
use Rattle.jq_app.proofs.notes.asks_for_notes.Goals as goal

pub returns : goal.returns
returns c =
    any_from_yields_List (λ w. is_explain (string_bytes w)) _ _ c.any.result c.any.ensures.ran (YieldsList-from_slice c.args.words.now cc) (λ x b q k. search (rules, tests))
    ∙ mapped c.args.words.now
