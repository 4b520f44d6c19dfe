-- What is kept of a run.
use Rattle.std.specs.Prelude.{◌≡◌, ℕ, ◌||◌, List, [], ◌∷◌, ◌++◌, Option, Some, None}
use Rattle.jv_data.specs.View.{view}
use Rattle.jv_data.specs.declared.values.Val.{Val}
use Rattle.jv_text.specs.declared.printing.Style.{Style}
use Rattle.jq_meaning.specs.Runs.{Item, Done, Ending, as_value, value_in}
use Rattle.jq_folds.specs.Pieces.{FoldState, going, stopped, Stepped, with_state}
use Rattle.jq_folds.specs.laws.States.{LeadsTo}
use Rattle.jq_pages.specs.Pieces.{PieceView, piece_view}
use Rattle.jq_pages.specs.declared.pieces.Piece.{Piece}
use Rattle.jq_pages.specs.declared.pieces.Last.{Last}
use Rattle.jq_filters.specs.Outcomes.{ending_report, is_failure, halt_status}
use Rattle.std.specs.Option.{option_or}
use Rattle.jq_filters.specs.Pieces.{piece_of}
use Rattle.jq_fold_steps.specs.States.{state_in}
use Rattle.jq_fold_steps.specs.declared.fold_steps.FoldState as code

-- the piece of a run with these outputs so far
abbrev pub piece_so_far : Style → List Item → PieceView
piece_so_far style xs = piece_of style (record { items = xs; ending = Done })

-- the state without a path
abbrev pub valued : FoldState → FoldState
valued (going s) = going (as_value s)
valued stopped = stopped

-- The output that is held back comes after those in the piece. At first there is none.
abbrev pub IsHeld : Option Val → (done held : List Item) → Type 0
IsHeld None done xs = (done ≡ []) × (xs ≡ [])
IsHeld (Some v) done xs = (x : Item) × (xs ≡ x ∷ []) × (value_in x ≡ view v)

-- The piece is that of a step, and the state is the one after it.
pub record IsKept (style : Style) (s : Stepped) (p : Piece) (state : code.FoldState) : Type 0 where
  pub piece : piece_view p ≡ piece_of style s.run
  pub next : state_in state ≡ valued s.next

-- With these outputs in a piece, and what is held back, a run ends so: this is the piece of its step and the state after it.
abbrev pub EndsStep : Style → (so_far : Piece) → (held : Option Val) → Ending → (p : Piece) → (state : code.FoldState) → Type 0
EndsStep style so_far held ending p state =
    (s : Stepped) (done xs : List Item) → LeadsTo s.run.ending s.next → piece_view so_far ≡ piece_so_far style done → IsHeld held done xs
    → with_state s ≡ record { items = done ++ xs; ending = ending } → IsKept style s p state

-- This text was added to the output, and it is that of the last output.
pub record IsAdded (text : List ℕ) (kind : Last) (old new : Piece) : Type 0 where
  pub out : new.out.items ≡ old.out.items ++ text
  pub err : new.err.items ≡ old.err.items
  pub last : new.last ≡ kind
  pub failed : new.failed ≡ old.failed
  pub halt : new.halt ≡ old.halt

-- An ending was reported.
pub record IsReported (e : Ending) (old new : Piece) : Type 0 where
  pub out : new.out.items ≡ old.out.items
  pub err : new.err.items ≡ old.err.items ++ ending_report e
  pub last : new.last ≡ old.last
  pub failed : new.failed ≡ (is_failure e || old.failed)
  pub halt : new.halt ≡ option_or (halt_status e) old.halt
