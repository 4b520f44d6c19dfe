-- The fold that a filter is, as pages keep it.
use Rattle.std.specs.Prelude.{ℕ, Bool, true, false, Option, Some, None}
use Rattle.jv_data.specs.Value.{null}
use Rattle.jv_text.specs.declared.printing.Style.{Style}
use Rattle.jq_tree.specs.Inputs.{at_most_one}
use Rattle.jq_meaning.specs.Meaning.{meaning}
use Rattle.jq_meaning.specs.Runs.{Run, Item, plain, none}
use Rattle.jq_folds.specs.Folding.{FoldAt, steps_of}
use Rattle.jq_folds.specs.Pieces.{FoldState, stopped, Stepped, begun, Steps, step_from, close_from}
use Rattle.jq_pages.specs.Folds as pages
use Rattle.jq_pages.specs.Pieces.{PieceView}
use Rattle.jq_filters.specs.Pieces.{piece_of}

-- ---- the runs

-- the run of the start on null
abbrev pub start_of : (depth : ℕ) → FoldAt → Run Item
start_of depth f = meaning depth f.fold.start f.env 0 (plain null)

-- nothing is run if there is no fold
abbrev pub start_at : (depth : ℕ) → Option FoldAt → Run Item
start_at depth (Some f) = start_of depth f
start_at depth None = none

abbrev pub steps_at : (depth : ℕ) → Option FoldAt → Steps
steps_at depth (Some f) = steps_of depth f.env 0 f.fold
steps_at depth None = record { step = λ s v. record { run = none; next = stopped }; close = λ s. none }

-- the start has at most one output
abbrev pub starts_once : Option FoldAt → Bool
starts_once (Some f) = at_most_one f.fold.start
starts_once None = true

-- ---- what they write

-- what a piece writes, and the state after it
abbrev pub written : Style → Stepped → PieceView × FoldState
written style s = (piece_of style s.run, s.next)

-- The fold with a piece for the start, for each input, and for what follows it.
abbrev pub fold_of : Style → (depth : ℕ) → Option FoldAt → pages.Fold FoldState
fold_of style depth found =
    record {
      begin = written style (begun (start_at depth found));
      step = λ s v. written style (step_from (steps_at depth found) s v);
      close = λ s. piece_of style (close_from (steps_at depth found) s);
      plain = false;
    }
