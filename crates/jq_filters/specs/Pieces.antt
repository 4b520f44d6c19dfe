-- What the runs on inputs write, input by input.
use Rattle.std.specs.Prelude.{◌≡◌, ℕ, Bool, [], true, false, None, nat_lt, unwrap_or}
use Rattle.jv_text.specs.declared.printing.Style.{Style}
use Rattle.jq_meaning.specs.Runs.{Run, Item, none}
use Rattle.jq_pages.specs.Folds.{Fold}
use Rattle.jq_pages.specs.Pieces.{PieceView}
use Rattle.jq_pages.specs.declared.pieces.Last.{Last}
use Rattle.jq_pages.specs.declared.pieces.Last.TheVariants as last
use Rattle.jq_pages.specs.declared.totals.Totals.{Totals}
use Rattle.jq_filters.specs.Outcomes.{Job, printed_of, ending_report, is_failure, halt_status, last_item, nothing, falsy, truthy, end_status}
use Rattle.jq_filters.specs.Outcomes as outcomes

abbrev pub last_in : outcomes.Last → Last
last_in nothing = last.Nothing
last_in falsy = last.Falsy
last_in truthy = last.Truthy

abbrev pub last_of : Last → outcomes.Last
last_of last.Nothing = nothing
last_of last.Falsy = falsy
last_of last.Truthy = truthy

-- what one run writes
abbrev pub piece_of : Style → Run Item → PieceView
piece_of style r = record { out = printed_of style r; err = ending_report r.ending; last = last_in (last_item r.items); failed = is_failure r.ending; halt = halt_status r.ending }

abbrev pub no_piece : PieceView
no_piece = record { out = []; err = []; last = last.Nothing; failed = false; halt = None }

-- The runs on each input as a fold whose states are all equal. It writes nothing at its start and at its end.
abbrev pub each_fold : Job → Fold (Unit {0})
each_fold job = record { begin = (no_piece, tt); step = λ s v. (piece_of job.style (job.run none v), tt); close = λ s. no_piece; plain = true }

-- the status after pieces with these totals: that of the first halt, if a run halts
abbrev pub status_in : (exit : Bool) → Totals → ℕ
status_in exit t = unwrap_or t.halt (end_status exit (nat_lt 0 t.failed) (last_of t.last))
