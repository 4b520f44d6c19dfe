use Rattle.std.proofs.Common.{◌<◌, ◌∙◌, sym, subst}
use Rattle.std.proofs.Math.Logic.{∥∥₁_map}
use Rattle.jq_pages.specs.Pieces.{piece_view}
use Rattle.jq_pages.specs.private.Cuts.{AreSplices}
use Rattle.jq_pages.specs.private.Pages.{all_pieces}
use Rattle.jq_pages.proofs.Applied.{changed_err, err_edit}
use Rattle.jq_pages.proofs.Plain.{later_edit, one_refused}
use Rattle.jq_pages.proofs.applying.edit_at.Goals as goal

pub settle-requires-clause-page : goal.settle-requires-clause-page
settle-requires-clause-page g c = subst (λ n. c.args.j < n) (sym c.edit_either-result.ensures.pages.count) c.requires.at.place.page

pub returns-in_err-result-clause-stored : goal.returns-in_err-result-clause-stored
returns-in_err-result-clause-stored g c =
    record {
      held = c.settle.ensures.held;
      filled = ∥∥₁_map c.requires.filled (λ h. c.settle.ensures.filled (c.edit_either-result.ensures.pages.filled h));
      index = c.settle.ensures.index;
    }

pub returns-clause-stored : goal.returns-clause-stored
returns-clause-stored g c =
    record {
      held = c.settle.ensures.held;
      filled = ∥∥₁_map c.requires.filled (λ h. c.settle.ensures.filled (c.edit_either-result.ensures.pages.filled h));
      index = c.settle.ensures.index;
    }

pub returns-clause-edit : goal.returns-clause-edit
returns-clause-edit g c =
    record {
      edits = ∥∥₁_map c.in_ok-result.ensures.edit.edits (λ e. later_edit _ _ _ _ _ _ _ _ _ _ _ _ _ _ _ _ c.settle.ensures.inputs c.settle.ensures.pieces e);
      one = c.in_ok-result.ensures.edit.one;
    }

pub returns-clause-report : goal.returns-clause-report
returns-clause-report g c =
    record {
      kept_tail = c.in_ok-result.ensures.applied.report.kept_tail;
      spliced = subst (λ z. AreSplices c.in_ok-result.field-0.0 (piece_view c.args.head.now) (all_pieces c.args.pages.now.items) z (piece_view c.args.tail.now) (piece_view c.edit_either-result.new.tail)) (sym c.settle.ensures.pieces) c.in_ok-result.ensures.applied.report.spliced;
    }

pub returns-in_err-result-clause-edit : goal.returns-in_err-result-clause-edit
returns-in_err-result-clause-edit g c = record {
  edits = ∥∥₁_map c.in_err-result.ensures.edit.edits (λ x. later_edit _ _ _ _ _ _ _ _ _ _ _ _ _ _ _ _ (c.settle.ensures.inputs ∙ x.unchanged) (c.settle.ensures.pieces ∙ x.same_pieces) (err_edit _ _ _ _ _ _ _ _ _ _ _ _ (changed_err _ c.from_residual.ensures.0) x.rises x.rises_all));
  one = λ p. one_refused _ _ _ _ _ _ (changed_err _ c.from_residual.ensures.0) ((c.in_err-result.ensures.edit.one p).rises);
}
