use Rattle.std.proofs.Common.{◌≡◌, ◌∙◌, true, false, ap, map, string_bytes, sym}
use Rattle.jq_app.specs.Explained.{asks_for_notes}
use Rattle.jq_app.proofs.Explained.{noted_result, shown_noted, shown_plain}
use Rattle.jq_app.proofs.commands.run_words.Goals as goal

pub returns-then-not-asks-clause-served : goal.returns-then-not-asks-clause-served
returns-then-not-asks-clause-served g c =
    let asks : asks_for_notes (map string_bytes c.args.words.items) ≡ false =
    ap (λ ws. asks_for_notes (map string_bytes ws)) (sym c.as_slice.ensures.value) ∙ sym c.asks_for_notes-asks.ensures ∙ c.if-not-asks.true in
    (_, shown_plain _ _ _ asks, c.run_reported.ensures.served)

pub returns-clause-served : goal.returns-clause-served
returns-clause-served g c =
    let asks : asks_for_notes (map string_bytes c.args.words.items) ≡ true =
    ap (λ ws. asks_for_notes (map string_bytes ws)) (sym c.as_slice.ensures.value) ∙ sym c.asks_for_notes-asks.ensures ∙ c.if-not-asks.false in
    let noting = c.noting.ensures in
    let noted = c.into_noted.ensures in (
      _,
      shown_noted _ _ _ _ asks noted.noted,
      noted_result _ _ _ c.args.streams c.noting.result c.run_reported-status.result.streams c.into_noted.result _ _ _ noting.bytes noting.failures noted.remaining noted.output noted.failures c.run_reported-status.ensures.served,
    )
