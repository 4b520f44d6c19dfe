use Rattle.std.proofs.Common.{◌≡◌, ℕ, ◌<◌, ◌∙◌, length, refl, sym, arith}
use Rattle.jq_pages.specs.Moves.{IsMoveRefusal, after_move}
use Rattle.jq_pages.specs.declared.refusals.Refusal.TheVariants as refusal
use Rattle.jq_pages.proofs.Edits.{inputs_count}
use Rattle.jq_pages.proofs.Halves.{accepted_move, counted_shift, halves_of, moved_after, started_move}
use Rattle.jq_pages.proofs.Public.{begun_again, folded_kept, if_err}
use Rattle.jq_pages.proofs.pages.Pages.shift.Goals as goal
use Rattle.jq_pages.proofs.pages.Pages.shift.Goals.{After-shift_at}

below : (k n m a : ℕ) → k < n → n ≡ m → m ≡ a → k < a
below k n m a h d e = omega arith

pub shift_at-requires-clause-places : goal.shift_at-requires-clause-places
shift_at-requires-clause-places g c = (
  below _ _ _ _ c.if-k-len.false c.len.ensures.count (inputs_count c.args.self.now.kept.pages.items),
  below _ _ _ _ c.if-l-len.false c.len-else-k-len.ensures.count (inputs_count c.args.self.now.kept.pages.items),
)

has : (g : _) (c : After-shift_at g) → c.args.k < length (folded_kept c.args.self.now.kept).inputs
has g c = below _ _ _ _ c.if-k-len.false c.len.ensures.count refl

gap : (g : _) (c : After-shift_at g) → c.args.l < length (folded_kept c.args.self.now.kept).inputs
gap g c = below _ _ _ _ c.if-l-len.false c.len-else-k-len.ensures.count refl

pub invariant_of-kept : goal.invariant_of-kept
invariant_of-kept g c =
    let old = c.args.self.now.kept in
    let ran = c.shift_at.ensures in
    let b = (goal.at.invariant_of-kept g c).After-shift_at in
    record {
      begun = begun_again g.S.Steps.seen (g.S.Steps.fold old.steps) (g.S.Steps.fold c.shift_at.new.steps) old.head old.first ran.same old.begun;
      held = ran.stored.held;
      filled = ran.stored.filled;
      counted = old.counted ∙ sym (counted_shift old c.shift_at.new.steps c.shift_at.new.pages.items c.shift_at.new.tail c.args.k c.args.l (has g b) (gap g b) c.shift_at.result ran.shifted ran.unchanged);
      indexed = ran.stored.index;
      not_over_full = old.not_over_full;
    }

pub returns-in_err-shift_at-clause-refused : goal.returns-in_err-shift_at-clause-refused
returns-in_err-shift_at-clause-refused g c =
    let old = c.args.self.now.kept in
    let b = (goal.at.returns-in_err-shift_at-clause-refused g c).After-shift_at in
    if_err c.from_residual.result refusal.NoMemory (λ r. IsMoveRefusal r (after_move c.args.k c.args.l (folded_kept old))) c.from_residual.ensures.1
    (accepted_move old c.shift_at.new.steps c.shift_at.new.pages.items c.shift_at.new.tail c.args.k c.args.l (has g b) (gap g b))

pub returns-in_err-shift_at-clause-started : goal.returns-in_err-shift_at-clause-started
returns-in_err-shift_at-clause-started g c =
    let b = (goal.at.returns-in_err-shift_at-clause-started g c).After-shift_at in
    started_move c.args.self.now.kept c.shift_at.new.steps c.shift_at.new.pages.items c.shift_at.new.tail c.args.k c.args.l (has g b) (gap g b) _ _ c.shift_at.ensures.starts.started c.shift_at.ensures.starts.plain

pub returns-clause-moved : goal.returns-clause-moved
returns-clause-moved g c =
    let b = (goal.at.returns-clause-moved g c).After-shift_at in
    moved_after c.args.self.now.kept c.shift_at.new.steps c.shift_at.new.pages.items c.shift_at.new.tail c.args.k c.args.l (has g b) (gap g b) c.in_ok-shift_at.field-0 c.shift_at.ensures.same c.in_ok-shift_at.ensures.shifted

pub returns-clause-halves : goal.returns-clause-halves
returns-clause-halves g c =
    let b = (goal.at.returns-clause-halves g c).After-shift_at in
    halves_of c.args.self.now.kept c.shift_at.new.steps c.shift_at.new.pages.items c.shift_at.new.tail c.args.k c.args.l (has g b) (gap g b) c.in_ok-shift_at.field-0 c.shift_at.ensures.same c.shift_at.ensures.stored.held c.in_ok-shift_at.ensures.shifted

pub returns-clause-started : goal.returns-clause-started
returns-clause-started g c =
    let b = (goal.at.returns-clause-started g c).After-shift_at in
    started_move c.args.self.now.kept c.shift_at.new.steps c.shift_at.new.pages.items c.shift_at.new.tail c.args.k c.args.l (has g b) (gap g b) _ _ c.shift_at.ensures.starts.started c.shift_at.ensures.starts.plain

pub shift_at-requires-clause-stored : goal.shift_at-requires-clause-stored
shift_at-requires-clause-stored g c = let old = c.args.self.now.kept in record { held = old.held; filled = old.filled; index = old.indexed }
