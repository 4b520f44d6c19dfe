use Rattle.std.proofs.Common.{◌∙◌, sym}
use Rattle.jv_text.proofs.Short.{run_not_begun}
use Rattle.jv_text.proofs.numbers.stays.Goals as goal

pub returns-then-not-begins_number : goal.returns-then-not-begins_number
returns-then-not-begins_number c = let unbegun = c.if-not-begins_number.true in rw unbegun (run_not_begun c.args.run.now (sym c.begins_number.ensures ∙ unbegun))
