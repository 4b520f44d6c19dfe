use Rattle.std.proofs.Common.{◌≡◌, ℕ, ◌+◌, ◌-◌, ◌<◌, ◌≤◌, [], ◌∙◌, refl, sym, arith}
use Rattle.jq_pages.specs.Edits.{remove}
use Rattle.jq_pages.specs.private.Edits.{changed}
use Rattle.jq_pages.proofs.Edits.{inputs_count}
use Rattle.jq_pages.proofs.Public.{Accepts, accepts_remove, begun_again, changed_by, counted_after, counted_kept, edited_to, kept_folded, on_err, spliced_after, started_of, folded_kept}
use Rattle.jq_pages.proofs.pages.Pages.remove.Goals as goal
use Rattle.jq_pages.proofs.pages.Pages.remove.Goals.{After-change_at}

below : (k n m a : ℕ) → k < n → n ≡ m → m ≡ a → k < a
below k n m a h d e = omega arith

pub change_at-requires-clause-place : goal.change_at-requires-clause-place
change_at-requires-clause-place g c = below _ _ _ _ c.if-k-len.false c.len.ensures.count (inputs_count c.args.self.now.kept.pages.items)

accepts : (g : _) (c : After-change_at g) → Accepts (remove c.args.k) [] (folded_kept c.args.self.now.kept).inputs
accepts g c = accepts_remove c.args.k (folded_kept c.args.self.now.kept).inputs (below _ _ _ _ c.if-k-len.false c.len.ensures.count refl)

pub returns-in_err-edited-clause-unchanged : goal.returns-in_err-edited-clause-unchanged
returns-in_err-edited-clause-unchanged g c =
    let ran = c.in_err-edited.ensures in
    on_err c.from_residual.result (kept_folded c.args.self.now.kept c.change_at.new.steps c.change_at.new.pages.items (remove c.args.k) [] _ ran.same ran.edit.edits)

pub returns-in_err-edited-clause-started : goal.returns-in_err-edited-clause-started
returns-in_err-edited-clause-started g c =
    let ran = c.change_at.ensures in
    started_of c.args.self.now.kept c.change_at.new.steps c.change_at.new.pages.items (remove c.args.k) [] (changed c.change_at.result) (accepts g ((goal.at.returns-in_err-edited-clause-started g c).After-change_at)) ran.edit.edits ran.edit.one

pub returns-clause-edited : goal.returns-clause-edited
returns-clause-edited g c =
    let ran = c.in_ok-edited.ensures in
    edited_to c.args.self.now.kept c.change_at.new.steps c.change_at.new.pages.items (remove c.args.k) [] c.in_ok-edited.edited.change (accepts g ((goal.at.returns-clause-edited g c).After-change_at)) ran.same ran.edit.edits

pub returns-clause-change : goal.returns-clause-change
returns-clause-change g c =
    let ran = c.in_ok-edited.ensures in
    changed_by c.args.self.now.kept c.change_at.new.steps c.change_at.new.pages.items (remove c.args.k) [] c.in_ok-edited.edited.change c.change_at.new.tail (accepts g ((goal.at.returns-clause-change g c).After-change_at)) ran.same ran.stored.held ran.edit.edits ran.report.kept_tail ran.edit.one

pub returns-clause-spliced : goal.returns-clause-spliced
returns-clause-spliced g c =
    let ran = c.in_ok-edited.ensures in
    spliced_after c.args.self.now.kept c.change_at.new.steps c.change_at.new.pages.items (remove c.args.k) [] c.in_ok-edited.edited c.change_at.new.tail ran.same ran.stored.held ran.edit.edits ran.report.kept_tail ran.report.spliced

pub returns-clause-started : goal.returns-clause-started
returns-clause-started g c =
    let ran = c.change_at.ensures in
    started_of c.args.self.now.kept c.change_at.new.steps c.change_at.new.pages.items (remove c.args.k) [] (changed c.change_at.result) (accepts g ((goal.at.returns-clause-started g c).After-change_at)) ran.edit.edits ran.edit.one

one_less : (n m k : ℕ) → n ≡ m → k + 1 ≡ m + 0 → n - 1 ≡ k
one_less n m k a b = omega arith

fewer : (n : ℕ) → n ≤ 1000000 → n - 1 ≤ 1000000
fewer n l = omega arith

some : (k n m : ℕ) → k < n → n ≡ m → 1 ≤ m
some k n m a e = omega arith

pub invariant_of-kept : goal.invariant_of-kept
invariant_of-kept g c =
    let old = c.args.self.now.kept in
    let ran = c.change_at.ensures in
    record {
      begun = begun_again g.S.Steps.seen (g.S.Steps.fold old.steps) (g.S.Steps.fold c.change_at.new.steps) old.head old.first ran.same old.begun;
      held = ran.stored.held;
      filled = ran.stored.filled;
      counted = old.counted ∙ sym (counted_kept old c.change_at.new.steps c.change_at.new.pages.items (remove c.args.k) [] _ c.in_err-edited.ensures.edit.edits);
      indexed = ran.stored.index;
      not_over_full = old.not_over_full;
    }

pub invariant_of-kept-2 : goal.invariant_of-kept-2
invariant_of-kept-2 g c =
    let old = c.args.self.now.kept in
    let ran = c.change_at.ensures in
    record {
      begun = begun_again g.S.Steps.seen (g.S.Steps.fold old.steps) (g.S.Steps.fold c.change_at.new.steps) old.head old.first ran.same old.begun;
      held = ran.stored.held;
      filled = ran.stored.filled;
      counted = one_less _ _ _ old.counted (counted_after old c.change_at.new.steps c.change_at.new.pages.items (remove c.args.k) [] c.in_ok-edited.edited.change (accepts g ((goal.at.invariant_of-kept-2 g c).After-change_at)) c.in_ok-edited.ensures.edit.edits);
      indexed = ran.stored.index;
      not_over_full = fewer _ old.not_over_full;
    }

pub overflow_sub-kept : goal.overflow_sub-kept
overflow_sub-kept g c = some _ _ _ c.if-k-len.false (c.len.ensures.count ∙ inputs_count c.args.self.now.kept.pages.items ∙ sym c.args.self.now.kept.counted)

pub change_at-requires-clause-stored : goal.change_at-requires-clause-stored
change_at-requires-clause-stored g c = let old = c.args.self.now.kept in record { held = old.held; filled = old.filled; index = old.indexed }
