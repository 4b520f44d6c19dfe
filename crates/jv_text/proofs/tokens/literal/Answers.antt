use Rattle.std.proofs.Common.{◌∙◌, true, false, sym}
use Rattle.std.proofs.lemmas.Slice.Eq.{bytes_eq-Decides}
use Rattle.jv_data.proofs.shared.Levels.{view-Null, view-Bool}
use Rattle.jv_text.proofs.SmallTexts.{small_null, small_true, small_false}
use Rattle.jv_text.proofs.tokens.literal.Goals as goal

pub returns-then-eq : goal.returns-then-eq
returns-then-eq c = small_null c.args.text.now _ ((bytes_eq-Decides _ _).0 (sym c.if-eq.ensures) ∙ c.as_slice.ensures) view-Null

pub returns-then-eq-2 : goal.returns-then-eq-2
returns-then-eq-2 c = small_true c.args.text.now _ ((bytes_eq-Decides _ _).0 (sym c.if-eq-2.ensures) ∙ c.as_slice-else-eq.ensures) (view-Bool true)

pub returns-then-eq-3 : goal.returns-then-eq-3
returns-then-eq-3 c = small_false c.args.text.now _ ((bytes_eq-Decides _ _).0 (sym c.if-eq-3.ensures) ∙ c.as_slice-else-eq-2.ensures) (view-Bool false)
