use Rattle.std.proofs.Common.{◌≡◌, ℕ, ◌+◌, ◌<◌, ◌≤◌, ◌∷◌, ◌++◌, [], ◌∙◌, Some, IsTrue, ap, get_or, refl, sym, subst, subst₂, length, List, arith}
use Rattle.std.proofs.Math.Logic.{∥∥₁_elim, ∥∥₁_map, ∥∥₁_prop}
use Rattle.std.proofs.Props.{props}
use Rattle.jq_pages.specs.private.Pages.{all_pieces, IsHeld}
use Rattle.jv_data.specs.View.{view}
use Rattle.jv_data.specs.declared.values.Val.{Val}
use Rattle.jq_pages.specs.private.Moves.{restored, restored_tail}
use Rattle.jq_pages.specs.Pieces.{piece_view}
use Rattle.jq_pages.specs.Totals.{totals}
use Rattle.jq_pages.proofs.Applied.{moved_edit, page_spot, room_edit}
use Rattle.jq_pages.proofs.Divided.{page_pieces}
use Rattle.jq_pages.proofs.Edits.{pieces_length}
use Rattle.jq_pages.proofs.Parts.{parts_at, parts_length}
use Rattle.jq_pages.proofs.Plain.{still_rise}
use Rattle.jq_pages.proofs.Shifts.{count_less, filled_moved, none_told, parts_held, rise_both, rise_one, shift_both, shift_first, shift_silent, shift_there, target_free, target_small}
use Rattle.jq_pages.proofs.moving.shift_in.Goals as goal

next : (at n : ℕ) → at + 1 ≤ n → at < n
next at n l = omega arith

below : (at n m k : ℕ) → at + 1 ≤ n → m + 1 ≡ n + 0 → k ≡ m → at ≤ k
below at n m k l e f = omega arith

pub returns-in_err-value-clause-starts : goal.returns-in_err-value-clause-starts
returns-in_err-value-clause-starts g c =
    record {
      started = ∣ shift_silent _ _ c.args.pages.now.items c.args.from.page c.args.from.at _ _ _ _ _ c.requires.at.place c.requires.at.spot ∣₁;
      plain = λ p. still_rise _ 1;
      counted = none_told c.from_residual.result _ c.from_residual.ensures.0;
    }

pub returns-in_err-removal-clause-starts : goal.returns-in_err-removal-clause-starts
returns-in_err-removal-clause-starts g c =
    record {
      started = ∥∥₁_map c.in_err-removal.ensures.edit.edits (λ x. shift_first _ _ c.args.pages.now.items c.args.from.page c.args.from.at _ _ _ _ _ _ c.requires.at.place c.requires.at.spot (x.rises, x.rises_all));
      plain = λ p. rise_one _ _ (c.in_err-removal.ensures.edit.one p).rises;
      counted = none_told c.from_residual-in_err-removal.result _ c.from_residual-in_err-removal.ensures.0;
    }

pub insert_in-requires-clause-free : goal.insert_in-requires-clause-free
insert_in-requires-clause-free g c = target_free c.args.pages.now.items c.edit_either.new.pages.items c.args.from.page c.args.to.page c.args.to.at c.args.l c.requires.at.place.page c.requires.to c.in_ok-removal.ensures.applied.resized

pub insert_in-requires-clause-summed : goal.insert_in-requires-clause-summed
insert_in-requires-clause-summed g c = record {
  index = c.edit_either.ensures.kept.index;
  few = count_less c.args.pages.now.items c.edit_either.new.pages.items c.args.from.page c.requires.at.place.page c.in_ok-removal.ensures.applied.resized c.requires.summed.few;
}

pub totals_now-between-requires-clause-few : goal.totals_now-between-requires-clause-few
totals_now-between-requires-clause-few g c =
    let mid = c.edit_either.new.pages.items in
    subst (λ (z : List _). length (all_pieces z) < 4294967296) (sym c.deref-3.ensures.value)
    (∥∥₁_elim c.edit_either.ensures.kept.held (hlevel props) (λ h.
    subst (λ n. n < 4294967296) (sym (pieces_length g.S.Steps.seen _ _ mid h.holds)) (count_less c.args.pages.now.items mid c.args.from.page c.requires.at.place.page c.in_ok-removal.ensures.applied.resized c.requires.summed.few)))

pub put_back-requires-clause-within : goal.put_back-requires-clause-within
put_back-requires-clause-within g c d = below _ _ _ _ (c.requires.at.place.place d) (c.in_ok-removal.ensures.applied.resized.here d) (parts_at c.edit_either.new.pages.items c.insert_in.new.pages.items c.args.from.page d c.in-Err.ensures.unchanged.same)

pub put_back-requires-clause-have : goal.put_back-requires-clause-have
put_back-requires-clause-have g c d =
    let new = c.insert_in.new.pages.items in
    let e = c.in-Err.ensures.unchanged.same in
    let mid = c.edit_either.new.pages.items in
    let l : c.args.from.page < length new = subst (λ n. c.args.from.page < n) (sym (parts_length mid new e ∙ c.in_ok-removal.ensures.applied.resized.same)) c.requires.at.place.page in
    let n = below _ _ _ _ (c.requires.at.place.place d) (c.in_ok-removal.ensures.applied.resized.here d) (parts_at mid new c.args.from.page d e) in
    ∥∥₁_elim c.insert_in.ensures.kept.held (hlevel props) (λ h. subst (λ m. c.args.from.at ≤ m) (sym (page_pieces g.S.Steps.seen _ _ new c.args.from.page d l h.holds)) n)

pub returns-in-Ok-clause-starts : goal.returns-in-Ok-clause-starts
returns-in-Ok-clause-starts g c =
    record {
      started = ∥∥₁_elim c.in_ok-removal.ensures.edit.edits ∥∥₁_prop (λ x. ∥∥₁_map c.insert_in.ensures.edit.edits (λ y.
          shift_both _ _ _ c.args.pages.now.items _ c.args.from.page c.args.from.at _ _ _ _ _ _ _ c.in_ok-value.value c.requires.at.place c.requires.at.spot (subst (λ (z : List _). (d : _) (u : Val) → view c.in_ok-value.value ≡ view (get_or (get_or z c.args.from.page d).inputs.items c.args.from.at u)) c.deref.ensures.value c.in_ok-value.ensures) c.edit_either.ensures.kept.same x.inputs (x.rises, x.rises_all) (y.rises, y.rises_all)));
      plain = λ p. rise_both _ _ _ (c.edit_either.ensures.edit.one p).rises (c.insert_in.ensures.edit.one (subst (λ r. IsTrue r.plain) (sym c.edit_either.ensures.kept.same) p)).rises;
      counted = (
        subst (λ n. g.S.Steps.starts c.args.steps.now ≤ n) (sym c.count-starts.ensures) (∥∥₁_elim c.edit_either.ensures.edit.edits (hlevel props) (λ x. x.rises_all.low)),
        subst (λ n. n ≤ g.S.Steps.starts c.insert_in.new.steps) (sym c.count-starts.ensures) (∥∥₁_elim c.insert_in.ensures.edit.edits (hlevel props) (λ x. x.rises_all.low)),
      );
    }

pub returns-in-Err-clause-starts : goal.returns-in-Err-clause-starts
returns-in-Err-clause-starts g c =
    record {
      started = ∥∥₁_elim c.in_ok-removal.ensures.edit.edits ∥∥₁_prop (λ x. ∥∥₁_map c.insert_in.ensures.edit.edits (λ y.
          shift_both _ _ _ c.args.pages.now.items _ c.args.from.page c.args.from.at _ _ _ _ _ _ _ c.in_ok-value.value c.requires.at.place c.requires.at.spot (subst (λ (z : List _). (d : _) (u : Val) → view c.in_ok-value.value ≡ view (get_or (get_or z c.args.from.page d).inputs.items c.args.from.at u)) c.deref.ensures.value c.in_ok-value.ensures) c.edit_either.ensures.kept.same x.inputs (x.rises, x.rises_all) (y.rises, y.rises_all)));
      plain = λ p. rise_both _ _ _ (c.edit_either.ensures.edit.one p).rises (c.insert_in.ensures.edit.one (subst (λ r. IsTrue r.plain) (sym c.edit_either.ensures.kept.same) p)).rises;
      counted = tt;
    }

pub returns-in-Err-clause-kept : goal.returns-in-Err-clause-kept
returns-in-Err-clause-kept g c =
    record {
      same = c.insert_in.ensures.kept.same ∙ c.edit_either.ensures.kept.same;
      held = let mid = c.edit_either.new.pages.items in
          let e = c.put_back.ensures.pages ∙ ap (λ z. restored z c.args.from.page c.args.from.at c.in_ok-removal.taken) c.in-Err.ensures.unchanged.same ∙ (c.in_ok-removal.ensures.applied.taken refl refl).back in
          let t = c.put_back.ensures.tail ∙ ap (λ z. restored_tail z c.in_ok-removal.taken) c.in-Err.ensures.unchanged.kept_tail ∙ c.in_ok-removal.ensures.applied.old_tail in
          ∥∥₁_map c.requires.held (λ h. subst₂ (λ r k. IsHeld g.S.Steps.seen r (g.S.Steps.seen c.args.first.now) c.put_back.new.pages.items k) (sym (c.insert_in.ensures.kept.same ∙ c.edit_either.ensures.kept.same)) (sym t) (parts_held g.S.Steps.seen _ _ c.args.pages.now.items c.put_back.new.pages.items _ e h));
      index = c.put_back.ensures.groups;
    }

pub returns-in-Ok-clause-shifted : goal.returns-in-Ok-clause-shifted
returns-in-Ok-clause-shifted g c =
    record {
      shifted = let ps = c.args.pages.now.items in
          let mid = c.edit_either.new.pages.items in
          let same = c.edit_either.ensures.kept.same in
          let w = shift_there ps c.args.from.page c.args.from.at c.args.k c.requires.at.place c.requires.at.spot in
          let v = c.in_ok-value.value in
          let copied = subst (λ (z : List _). (d : _) (u : Val) → view c.in_ok-value.value ≡ view (get_or (get_or z c.args.from.page d).inputs.items c.args.from.at u)) c.deref.ensures.value c.in_ok-value.ensures in
          ∥∥₁_elim c.requires.held ∥∥₁_prop (λ h. ∥∥₁_elim c.edit_either.ensures.kept.held ∥∥₁_prop (λ k. ∥∥₁_elim c.in_ok-removal.ensures.edit.edits ∥∥₁_prop (λ x. ∥∥₁_map c.in-Ok.ensures.edit.edits (λ y. record {
            value = v;
            there = w.1 ∙ ap Some (sym (w.2 v copied));
            middle = mid;
            close = c.edit_either.new.tail;
            held = subst (λ r. IsHeld g.S.Steps.seen r (g.S.Steps.seen c.args.first.now) mid c.edit_either.new.tail) same k;
            before = g.S.Steps.starts c.args.steps.now;
            starts = g.S.Steps.starts c.edit_either.new.steps;
            after = g.S.Steps.starts c.insert_in.new.steps;
            removal = room_edit _ _ _ _ _ _ _ _ _ _ _ _ _ _ _ (still_rise _ _) (page_spot ps c.args.from.page c.args.from.at c.requires.at.place.page (λ d. next _ _ (c.requires.at.place.place d)) ∣ h.sized ∣₁) x;
            insertion = room_edit _ _ _ _ _ _ _ _ _ _ _ _ _ _ _ (still_rise _ _) (target_small ps c.args.from.page c.args.to.page c.args.to.at c.args.l c.requires.to) (moved_edit _ _ _ _ _ _ _ _ _ _ _ _ _ _ _ _ _ _ same refl refl refl y);
            one_removal = c.in_ok-removal.ensures.edit.one;
            one_insertion = λ p. c.in-Ok.ensures.edit.one (subst (λ r. IsTrue r.plain) (sym same) p);
            first_tail = c.in_ok-removal.ensures.applied.report.kept_tail;
            last_tail = c.in-Ok.ensures.report.kept_tail;
            cut = c.in_ok-removal.ensures.applied.report.spliced;
            put = c.in-Ok.ensures.report.spliced;
            between = c.totals_now-between.ensures ∙ ap (λ (z : List _). totals (piece_view c.args.head.now ∷ (all_pieces z ++ (piece_view c.edit_either.new.tail ∷ [])))) c.deref-3.ensures.value;
          }))));
      count = c.in-Ok.ensures.resized.same ∙ c.in_ok-removal.ensures.applied.resized.same;
      filled = λ h. filled_moved c.args.pages.now.items c.edit_either.new.pages.items c.insert_in.new.pages.items c.args.from.page c.args.to.page c.in_ok-removal.ensures.applied.resized c.in-Ok.ensures.resized h;
    }

pub put_back-requires-clause-place : goal.put_back-requires-clause-place
put_back-requires-clause-place g c = c.in-Err.ensures.unchanged.place _ _ ((c.in_ok-removal.ensures.applied.taken refl refl).room)

pub returns-in-Err-clause-back : goal.returns-in-Err-clause-back
returns-in-Err-clause-back g c = c.put_back.ensures.pages ∙ ap (λ z. restored z c.args.from.page c.args.from.at c.in_ok-removal.taken) c.in-Err.ensures.unchanged.same ∙ (c.in_ok-removal.ensures.applied.taken refl refl).back

pub returns-in-Ok-clause-kept : goal.returns-in-Ok-clause-kept
returns-in-Ok-clause-kept g c = record {
  same = c.insert_in.ensures.kept.same ∙ c.edit_either.ensures.kept.same;
  held = c.insert_in.ensures.kept.held;
  index = c.insert_in.ensures.kept.index;
}
