-- A filter on each input that may halt, as a fold: after the first input whose run halts no input is run.
use Rattle.std.specs.Prelude.{Bool, true, false, is_some}
use Rattle.jv_data.specs.Value.{Value}
use Rattle.jq_meaning.specs.Runs.{none}
use Rattle.jq_pages.specs.Folds.{Fold}
use Rattle.jq_pages.specs.Pieces.{PieceView}
use Rattle.jq_filters.specs.Outcomes.{Job, halt_status}
use Rattle.jq_filters.specs.Pieces.{no_piece, piece_of}

-- The state says whether a run halted. Then nothing more is run.
abbrev pub halting_step : Job → (halted : Bool) → Value → PieceView × Bool
halting_step job true v = (no_piece, true)
halting_step job false v = (piece_of job.style (job.run none v), is_some (halt_status (job.run none v).ending))

abbrev pub halting_fold : Job → Fold Bool
halting_fold job = record { begin = (no_piece, false); step = halting_step job; close = λ halted. no_piece; plain = false }
