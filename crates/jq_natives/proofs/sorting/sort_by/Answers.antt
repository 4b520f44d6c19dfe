use Rattle.std.proofs.Common.{◌∙◌, ap, sym, Ok}
use Rattle.jq_natives.specs.Sorting.{array_of, sorted}
use Rattle.jq_natives.proofs.KeysInArrays.{array_of_ignores}
use Rattle.jq_natives.proofs.sorting.sort_by.Goals as goal

pub returns-in_ok-array_of-in-Ok : goal.returns-in_ok-array_of-in-Ok
returns-in_ok-array_of-in-Ok c = c.in-Ok.ensures array_of array_of_ignores ∙ ap Ok (sym c.in_ok-array_of-in-Ok.ensures)

pub returns-in-Err : goal.returns-in-Err
returns-in-Err c = c.in-Err.ensures (λ ps. array_of (sorted ps))
