use Rattle.std.proofs.Common.{◌≡◌, ℕ, ◌<◌, [], ◌∷◌, ◌∙◌, refl, sym, arith}
use Rattle.jv_data.specs.View.{view}
use Rattle.jq_pages.specs.Edits.{replace}
use Rattle.jq_pages.specs.private.Edits.{changed}
use Rattle.jq_pages.proofs.Edits.{inputs_count}
use Rattle.jq_pages.proofs.Public.{Accepts, accepts_replace, begun_again, changed_by, counted_same, edited_to, kept_folded, on_err, spliced_after, started_of, folded_kept}
use Rattle.jq_pages.proofs.pages.Pages.replace.Goals as goal
use Rattle.jq_pages.proofs.pages.Pages.replace.Goals.{After-change_at}

below : (k n m a : ℕ) → k < n → n ≡ m → m ≡ a → k < a
below k n m a h d e = omega arith

pub change_at-requires-clause-place : goal.change_at-requires-clause-place
change_at-requires-clause-place g c = below _ _ _ _ c.if-k-len.false c.len.ensures.count (inputs_count c.args.self.now.kept.pages.items)

accepts : (g : _) (c : After-change_at g) → Accepts (replace c.args.k (view c.args.value)) (c.args.value ∷ []) (folded_kept c.args.self.now.kept).inputs
accepts g c = accepts_replace c.args.k c.args.value (folded_kept c.args.self.now.kept).inputs (below _ _ _ _ c.if-k-len.false c.len.ensures.count refl)

pub invariant_of-kept : goal.invariant_of-kept
invariant_of-kept g c =
    let old = c.args.self.now.kept in
    let ran = c.change_at.ensures in
    record {
      begun = begun_again g.S.Steps.seen (g.S.Steps.fold old.steps) (g.S.Steps.fold c.change_at.new.steps) old.head old.first ran.same old.begun;
      held = ran.stored.held;
      filled = ran.stored.filled;
      counted = old.counted ∙ sym (counted_same old c.change_at.new.steps c.change_at.new.pages.items (replace c.args.k (view c.args.value)) (c.args.value ∷ []) (changed c.change_at.result) (accepts g ((goal.at.invariant_of-kept g c).After-change_at)) refl ran.edit.edits);
      indexed = ran.stored.index;
      not_over_full = old.not_over_full;
    }

pub returns-in_err-change_at-clause-unchanged : goal.returns-in_err-change_at-clause-unchanged
returns-in_err-change_at-clause-unchanged g c =
    let ran = c.in_err-change_at.ensures in
    on_err c.from_residual.result (kept_folded c.args.self.now.kept c.change_at.new.steps c.change_at.new.pages.items (replace c.args.k (view c.args.value)) (c.args.value ∷ []) _ ran.same ran.edit.edits)

pub returns-in_err-change_at-clause-started : goal.returns-in_err-change_at-clause-started
returns-in_err-change_at-clause-started g c =
    let ran = c.change_at.ensures in
    started_of c.args.self.now.kept c.change_at.new.steps c.change_at.new.pages.items (replace c.args.k (view c.args.value)) (c.args.value ∷ []) (changed c.change_at.result) (accepts g ((goal.at.returns-in_err-change_at-clause-started g c).After-change_at)) ran.edit.edits ran.edit.one

pub returns-clause-edited : goal.returns-clause-edited
returns-clause-edited g c =
    let ran = c.in_ok-change_at.ensures in
    edited_to c.args.self.now.kept c.change_at.new.steps c.change_at.new.pages.items (replace c.args.k (view c.args.value)) (c.args.value ∷ []) c.in_ok-change_at.field-0.change (accepts g ((goal.at.returns-clause-edited g c).After-change_at)) ran.same ran.edit.edits

pub returns-clause-change : goal.returns-clause-change
returns-clause-change g c =
    let ran = c.in_ok-change_at.ensures in
    changed_by c.args.self.now.kept c.change_at.new.steps c.change_at.new.pages.items (replace c.args.k (view c.args.value)) (c.args.value ∷ []) c.in_ok-change_at.field-0.change c.change_at.new.tail (accepts g ((goal.at.returns-clause-change g c).After-change_at)) ran.same ran.stored.held ran.edit.edits ran.report.kept_tail ran.edit.one

pub returns-clause-spliced : goal.returns-clause-spliced
returns-clause-spliced g c =
    let ran = c.in_ok-change_at.ensures in
    spliced_after c.args.self.now.kept c.change_at.new.steps c.change_at.new.pages.items (replace c.args.k (view c.args.value)) (c.args.value ∷ []) c.in_ok-change_at.field-0 c.change_at.new.tail ran.same ran.stored.held ran.edit.edits ran.report.kept_tail ran.report.spliced

pub returns-clause-started : goal.returns-clause-started
returns-clause-started g c =
    let ran = c.change_at.ensures in
    started_of c.args.self.now.kept c.change_at.new.steps c.change_at.new.pages.items (replace c.args.k (view c.args.value)) (c.args.value ∷ []) (changed c.change_at.result) (accepts g ((goal.at.returns-clause-started g c).After-change_at)) ran.edit.edits ran.edit.one

pub change_at-requires-clause-stored : goal.change_at-requires-clause-stored
change_at-requires-clause-stored g c = let old = c.args.self.now.kept in record { held = old.held; filled = old.filled; index = old.indexed }
