-- What the steps return is what the fold says.
use Rattle.std.proofs.Common.{◌≡◌, ℕ, [], Option, Some, None, true, refl, ◌∙◌}
use Rattle.jv_data.specs.Value.{Value, null}
use Rattle.jv_text.specs.declared.printing.Style.{Style}
use Rattle.jq_meaning.specs.Runs.{plain, located}
use Rattle.jq_engine.specs.Engine.{IsRest}
use Rattle.jq_engine.specs.declared.engines.Engine.{Engine}
use Rattle.jq_folds.specs.Folding.{FoldAt}
use Rattle.jq_folds.specs.Pieces.{FoldState, going, stopped, Stepped, begun, with_state}
use Rattle.jq_folds.specs.laws.States.{IsValue, LeadsTo}
use Rattle.jq_folds.specs.laws.Statements.{BeginLeads, StepLeads, StatesAreValues, NextIsValue}
use Rattle.jq_pages.specs.Pieces.{piece_view}
use Rattle.jq_pages.specs.declared.pieces.Piece.{Piece}
use Rattle.jq_fold_steps.specs.Folded.{start_of, starts_once, steps_at, fold_of}
use Rattle.jq_fold_steps.specs.States.{state_in}
use Rattle.jq_fold_steps.specs.private.Collecting.{valued, IsKept}
use Rattle.jq_fold_steps.specs.private.Starting.{IsRunOf}
use Rattle.jq_fold_steps.specs.declared.fold_steps.FoldState as code

-- What was collected of an engine's run is this step, if the engine stands for it.
abbrev pub IsCollected : Style → Engine → Piece → code.FoldState → Type 0
IsCollected style e p k = (s : Stepped) → LeadsTo s.run.ending s.next → IsRest e (with_state s) → IsKept style s p k

valued-value : (s : FoldState) → IsValue s → valued s ≡ s
valued-value (going (plain v)) h = refl
valued-value (going (located v p)) h = absurd h
valued-value stopped h = refl

-- ---- the start

pub begin-kept : BeginLeads → StatesAreValues → (style : Style) (d : ℕ) (o : Option FoldAt) (e : Engine) (p : Piece) (k : code.FoldState) → starts_once o ≡ true
    → IsRunOf (Some e) o (λ f. with_state (begun (start_of d f))) → IsCollected style e p k → (piece_view p ≡ (fold_of style d o).begin.0) × (state_in k ≡ (fold_of style d o).begin.1)
begin-kept leads values style d (Some f) e p k once r c =
    let s = begun (start_of d f) in
    let kept = c s (leads f.fold f.env d 0 null once) r in
    (kept.piece, kept.next ∙ valued-value s.next (values f.fold f.env d 0 null []))
begin-kept leads values style d None e p k once r c = absurd r

-- ---- a step

pub step-kept : StepLeads → NextIsValue → (style : Style) (d : ℕ) (o : Option FoldAt) (e : Engine) (p : Piece) (k : code.FoldState) (w v : Value)
    → IsRunOf (Some e) o (λ f. with_state ((steps_at d (Some f)).step (plain w) v)) → IsCollected style e p k
    → (piece_view p ≡ ((fold_of style d o).step (going (plain w)) v).0) × (state_in k ≡ ((fold_of style d o).step (going (plain w)) v).1)
step-kept leads values style d (Some f) e p k w v r c =
    let s = (steps_at d (Some f)).step (plain w) v in
    let kept = c s (leads f.fold f.env d 0 (plain w) v) r in
    (kept.piece, kept.next ∙ valued-value s.next (values f.fold f.env d 0 w v))
step-kept leads values style d None e p k w v r c = absurd r
