use Rattle.std.proofs.Common.{◌≡◌, ℕ, ◌+◌, ◌<◌, ◌≤◌, length, [], ◌∷◌, ◌∙◌, refl, sym, arith}
use Rattle.jv_data.specs.View.{view}
use Rattle.jq_pages.specs.Edits.{after, insert}
use Rattle.jq_pages.specs.Refusals.{IsRefusal}
use Rattle.jq_pages.specs.declared.refusals.Refusal.TheVariants as refusal
use Rattle.jq_pages.specs.private.Edits.{changed}
use Rattle.jq_pages.proofs.Edits.{inputs_count}
use Rattle.jq_pages.proofs.Public.{Accepts, accepted_ok, accepts_insert, begun_again, changed_by, counted_after, counted_kept, edited_to, full_insert, if_err, kept_folded, on_err, spliced_after, started_of, folded_kept}
use Rattle.jq_pages.proofs.pages.Pages.insert.Goals as goal
use Rattle.jq_pages.proofs.pages.Pages.insert.Goals.{After-insert_at}

upto : (k n m a : ℕ) → k ≤ n → n ≡ m → m ≡ a → k ≤ a
upto k n m a h d e = omega arith

pub insert_at-requires-clause-place : goal.insert_at-requires-clause-place
insert_at-requires-clause-place g c = upto _ _ _ _ c.if-k-len.false c.len.ensures.count (inputs_count c.args.self.now.kept.pages.items)

full : (n m a : ℕ) → n ≡ 1000000 → n ≡ m → a ≡ m → 1000000 ≤ a
full n m a e f h = omega arith

room : (n m a : ℕ) → ¬ (n ≡ 1000000) → n ≤ 1000000 → n ≡ m → a ≡ m → a < 1000000
room n m a e l f h = omega arith

accepts : (g : _) (c : After-insert_at g) → Accepts (insert c.args.k (view c.args.value)) (c.args.value ∷ []) (folded_kept c.args.self.now.kept).inputs
accepts g c =
    let old = c.args.self.now.kept in
    accepts_insert c.args.k c.args.value (folded_kept old).inputs (upto _ _ _ _ c.if-k-len.false c.len.ensures.count refl) (room _ _ _ c.if-kept-eq-MOST_INPUTS.false old.not_over_full old.counted (inputs_count old.pages.items))

pub returns-in_err-edited-clause-unchanged : goal.returns-in_err-edited-clause-unchanged
returns-in_err-edited-clause-unchanged g c =
    let ran = c.in_err-edited.ensures in
    on_err c.from_residual.result (kept_folded c.args.self.now.kept c.insert_at.new.steps c.insert_at.new.pages.items (insert c.args.k (view c.args.value)) (c.args.value ∷ []) _ ran.same ran.edit.edits)

pub returns-in_err-edited-clause-started : goal.returns-in_err-edited-clause-started
returns-in_err-edited-clause-started g c =
    let ran = c.insert_at.ensures in
    started_of c.args.self.now.kept c.insert_at.new.steps c.insert_at.new.pages.items (insert c.args.k (view c.args.value)) (c.args.value ∷ []) (changed c.insert_at.result) (accepts g ((goal.at.returns-in_err-edited-clause-started g c).After-insert_at)) ran.edit.edits ran.edit.one

pub returns-clause-edited : goal.returns-clause-edited
returns-clause-edited g c =
    let ran = c.in_ok-edited.ensures in
    edited_to c.args.self.now.kept c.insert_at.new.steps c.insert_at.new.pages.items (insert c.args.k (view c.args.value)) (c.args.value ∷ []) c.in_ok-edited.edited.change (accepts g ((goal.at.returns-clause-edited g c).After-insert_at)) ran.same ran.edit.edits

pub returns-clause-change : goal.returns-clause-change
returns-clause-change g c =
    let ran = c.in_ok-edited.ensures in
    changed_by c.args.self.now.kept c.insert_at.new.steps c.insert_at.new.pages.items (insert c.args.k (view c.args.value)) (c.args.value ∷ []) c.in_ok-edited.edited.change c.insert_at.new.tail (accepts g ((goal.at.returns-clause-change g c).After-insert_at)) ran.same ran.stored.held ran.edit.edits ran.report.kept_tail ran.edit.one

pub returns-clause-spliced : goal.returns-clause-spliced
returns-clause-spliced g c =
    let ran = c.in_ok-edited.ensures in
    spliced_after c.args.self.now.kept c.insert_at.new.steps c.insert_at.new.pages.items (insert c.args.k (view c.args.value)) (c.args.value ∷ []) c.in_ok-edited.edited c.insert_at.new.tail ran.same ran.stored.held ran.edit.edits ran.report.kept_tail ran.report.spliced

pub returns-clause-started : goal.returns-clause-started
returns-clause-started g c =
    let ran = c.insert_at.ensures in
    started_of c.args.self.now.kept c.insert_at.new.steps c.insert_at.new.pages.items (insert c.args.k (view c.args.value)) (c.args.value ∷ []) (changed c.insert_at.result) (accepts g ((goal.at.returns-clause-started g c).After-insert_at)) ran.edit.edits ran.edit.one

pub returns-then-kept-eq-MOST_INPUTS-clause-refused : goal.returns-then-kept-eq-MOST_INPUTS-clause-refused
returns-then-kept-eq-MOST_INPUTS-clause-refused g c =
    let old = c.args.self.now.kept in
    full_insert c.args.k (view c.args.value) (folded_kept old) (upto _ _ _ _ c.if-k-len.false c.len.ensures.count refl) (full _ _ _ c.if-kept-eq-MOST_INPUTS.true old.counted (inputs_count old.pages.items))

one_more : (n m k : ℕ) → n ≡ m → k + 0 ≡ m + 1 → n + 1 ≡ k
one_more n m k a b = omega arith

grown : (n m a : ℕ) → n ≡ m → a ≡ m → a < 1000000 → n + 1 ≤ 1000000
grown n m a e f l = omega arith

pub invariant_of-kept : goal.invariant_of-kept
invariant_of-kept g c =
    let old = c.args.self.now.kept in
    let ran = c.insert_at.ensures in
    record {
      begun = begun_again g.S.Steps.seen (g.S.Steps.fold old.steps) (g.S.Steps.fold c.insert_at.new.steps) old.head old.first ran.same old.begun;
      held = ran.stored.held;
      filled = ran.stored.filled;
      counted = old.counted ∙ sym (counted_kept old c.insert_at.new.steps c.insert_at.new.pages.items (insert c.args.k (view c.args.value)) (c.args.value ∷ []) _ c.in_err-edited.ensures.edit.edits);
      indexed = ran.stored.index;
      not_over_full = old.not_over_full;
    }

pub invariant_of-kept-2 : goal.invariant_of-kept-2
invariant_of-kept-2 g c =
    let old = c.args.self.now.kept in
    let ran = c.insert_at.ensures in
    record {
      begun = begun_again g.S.Steps.seen (g.S.Steps.fold old.steps) (g.S.Steps.fold c.insert_at.new.steps) old.head old.first ran.same old.begun;
      held = ran.stored.held;
      filled = ran.stored.filled;
      counted = one_more _ _ _ old.counted (counted_after old c.insert_at.new.steps c.insert_at.new.pages.items (insert c.args.k (view c.args.value)) (c.args.value ∷ []) c.in_ok-edited.edited.change (accepts g ((goal.at.invariant_of-kept-2 g c).After-insert_at)) c.in_ok-edited.ensures.edit.edits);
      indexed = ran.stored.index;
      not_over_full = let l : length (folded_kept old).inputs < 1000000 = room _ _ _ c.if-kept-eq-MOST_INPUTS.false old.not_over_full old.counted (inputs_count old.pages.items) in grown _ _ _ old.counted (inputs_count old.pages.items) l;
    }

pub returns-in_err-edited-clause-refused : goal.returns-in_err-edited-clause-refused
returns-in_err-edited-clause-refused g c =
    let old = c.args.self.now.kept in
    let edit = insert c.args.k (view c.args.value) in
    if_err c.from_residual.result refusal.NoMemory (λ r. IsRefusal r (after edit (folded_kept old))) c.from_residual.ensures.1
    (accepted_ok edit (c.args.value ∷ []) (g.S.Steps.fold old.steps) (folded_kept old).inputs (accepts g ((goal.at.returns-in_err-edited-clause-refused g c).After-insert_at)))

pub insert_at-requires-clause-stored : goal.insert_at-requires-clause-stored
insert_at-requires-clause-stored g c = let old = c.args.self.now.kept in record { held = old.held; filled = old.filled; index = old.indexed }
