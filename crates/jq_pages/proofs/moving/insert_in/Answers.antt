use Rattle.std.proofs.Common.{◌≡◌, ℕ, ◌+◌, ◌<◌, ◌≤◌, ◌∙◌, take, map, ap, refl, sym, subst, arith}
use Rattle.std.proofs.Math.Logic.{∥∥₁_map}
use Rattle.jq_pages.specs.Pieces.{piece_view}
use Rattle.jq_pages.specs.private.Cuts.{AreSplices}
use Rattle.jq_pages.specs.private.Pages.{all_pieces, parts}
use Rattle.jq_pages.proofs.Applied.{changed_err, err_edit, moved_edit}
use Rattle.jq_pages.proofs.Filled.{held_again}
use Rattle.jq_pages.proofs.Plain.{later_edit, one_refused, plain_refused, still_rise}
use Rattle.jq_pages.proofs.Parts.{parts_at, parts_count, parts_holds, parts_index, parts_inputs, parts_length, parts_pieces, parts_place, parts_resized, parts_sized, parts_take}
use Rattle.jq_pages.proofs.Public.{on_err}
use Rattle.jq_pages.specs.private.Moves.{HasPlace}
use Rattle.jq_pages.proofs.moving.insert_in.Goals as goal

pub reserve_in-requires : goal.reserve_in-requires
reserve_in-requires g c = c.requires.free.page

upto : (i n m : ℕ) → i ≤ n → m ≡ n → i + 0 ≤ m
upto i n m l e = omega arith

one : (n m : ℕ) → n + 1 ≤ 64 → m ≡ n → m + 1 ≤ 64 + 0
one n m l e = omega arith

pub edit_either-requires-clause-at : goal.edit_either-requires-clause-at
edit_either-requires-clause-at g c =
    let e = c.reserve_in.ensures.same in
    let ps = c.args.pages.now.items in
    let qs = c.reserve_in.new.pages.items in
    let j = c.args.spot.page in
    record {
      place = record {
        page = subst (λ n. j < n) (sym (parts_length ps qs e)) c.requires.free.page;
        one = omega arith;
        place = λ d. upto _ _ _ (c.requires.free.within d) (parts_at ps qs j d e);
        fits = λ d. one _ _ (c.requires.free.fits d) (parts_at ps qs j d e);
        room = λ z. c.in_ok-reserve_in.ensures.room;
      };
      spot = ap (λ n. n + c.args.spot.at) (parts_count (take j ps) (take j qs) (parts_take ps qs j c.reserve_in.ensures.same)) ∙ c.requires.free.spot;
    }

pub edit_either-requires-clause-summed : goal.edit_either-requires-clause-summed
edit_either-requires-clause-summed g c = record {
  index = parts_index c.args.groups.now.items c.args.pages.now.items c.reserve_in.new.pages.items c.reserve_in.ensures.same c.requires.summed.index;
  few = subst (λ n. n < 4294967296) (sym (parts_count c.args.pages.now.items c.reserve_in.new.pages.items c.reserve_in.ensures.same)) c.requires.summed.few;
}

pub edit_either-requires-clause-held : goal.edit_either-requires-clause-held
edit_either-requires-clause-held g c =
    let e = c.reserve_in.ensures.same in
    let ps = c.args.pages.now.items in
    let qs = c.reserve_in.new.pages.items in
    ∥∥₁_map c.requires.held (λ h. held_again g.S.Steps.seen _ _ ps qs _ h (parts_holds g.S.Steps.seen _ _ ps qs e h.holds) (parts_sized ps qs e h.sized) (parts_inputs ps qs e))

few : 0 ≤ 1
few = omega arith

pub returns-in_err-reserve_in-clause-edit : goal.returns-in_err-reserve_in-clause-edit
returns-in_err-reserve_in-clause-edit g c =
    record {
      edits = let e = c.reserve_in.ensures.same in
          let ps = c.args.pages.now.items in
          let qs = c.reserve_in.new.pages.items in
          ∣ later_edit _ _ _ _ _ _ _ _ _ _ _ _ _ _ _ _ (parts_inputs ps qs e) (parts_pieces ps qs e) (plain_refused _ _ _ _ _ _ _ _ _ _ _ 0 _ (changed_err _ c.from_residual.ensures.0) (still_rise _ 0) few) ∣₁;
      one = λ p. one_refused _ 1 0 _ _ _ (changed_err _ c.from_residual.ensures.0) (still_rise _ 1);
    }

pub returns-in_err-reserve_in-clause-kept : goal.returns-in_err-reserve_in-clause-kept
returns-in_err-reserve_in-clause-kept g c =
    record {
      same = refl;
      held = let e = c.reserve_in.ensures.same in
          let ps = c.args.pages.now.items in
          let qs = c.reserve_in.new.pages.items in
          ∥∥₁_map c.requires.held (λ h. held_again g.S.Steps.seen _ _ ps qs _ h (parts_holds g.S.Steps.seen _ _ ps qs e h.holds) (parts_sized ps qs e h.sized) (parts_inputs ps qs e));
      index = parts_index c.args.groups.now.items c.args.pages.now.items c.reserve_in.new.pages.items c.reserve_in.ensures.same c.requires.summed.index;
    }

pub returns-in_err-reserve_in-clause-unchanged : goal.returns-in_err-reserve_in-clause-unchanged
returns-in_err-reserve_in-clause-unchanged g c = on_err c.from_residual.result (record {
  same = c.reserve_in.ensures.same;
  kept_tail = refl;
  place = λ j t h. parts_place c.args.pages.now.items c.reserve_in.new.pages.items c.reserve_in.ensures.same c.reserve_in.ensures.kept c.reserve_in.ensures.kept_both j t h;
})

pub returns-in_err-edited-clause-edit : goal.returns-in_err-edited-clause-edit
returns-in_err-edited-clause-edit g c =
    record {
      edits = let e = c.reserve_in.ensures.same in
          let ps = c.args.pages.now.items in
          let qs = c.reserve_in.new.pages.items in
          ∥∥₁_map c.in_err-edited.ensures.edit.edits (λ x. moved_edit _ _ _ _ _ _ _ _ _ _ _ _ _ _ _ _ _ _ refl refl (parts_inputs ps qs e) (parts_pieces ps qs e)
          (later_edit _ _ _ _ _ _ _ _ _ _ _ _ _ _ _ _ x.unchanged x.same_pieces (err_edit _ _ _ _ _ _ _ _ _ _ _ _ (changed_err _ c.from_residual-in_err-edited.ensures.0) x.rises x.rises_all)));
      one = λ p. one_refused _ 1 0 _ _ _ (changed_err _ c.from_residual-in_err-edited.ensures.0) ((c.in_err-edited.ensures.edit.one p).rises);
    }

pub returns-in_err-edited-clause-unchanged : goal.returns-in_err-edited-clause-unchanged
returns-in_err-edited-clause-unchanged g c = let qs = c.reserve_in.new.pages.items in
    on_err c.from_residual-in_err-edited.result (record {
      same = ap (map parts) c.in_err-edited.ensures.unchanged.0 ∙ c.reserve_in.ensures.same;
      kept_tail = c.in_err-edited.ensures.unchanged.1;
      place = λ j t h. subst (λ z. HasPlace z j t) (sym c.in_err-edited.ensures.unchanged.0) (parts_place c.args.pages.now.items qs c.reserve_in.ensures.same c.reserve_in.ensures.kept c.reserve_in.ensures.kept_both j t h);
    })

pub returns-clause-edit : goal.returns-clause-edit
returns-clause-edit g c =
    record {
      edits = let e = c.reserve_in.ensures.same in
          let ps = c.args.pages.now.items in
          let qs = c.reserve_in.new.pages.items in
          ∥∥₁_map c.in_ok-edited.ensures.edit.edits (λ x. moved_edit _ _ _ _ _ _ _ _ _ _ _ _ _ _ _ _ _ _ refl refl (parts_inputs ps qs e) (parts_pieces ps qs e) x);
      one = c.in_ok-edited.ensures.edit.one;
    }

pub returns-clause-report : goal.returns-clause-report
returns-clause-report g c =
    record {
      kept_tail = c.in_ok-edited.ensures.applied.report.kept_tail;
      spliced = subst (λ z. AreSplices c.in_ok-edited.edited (piece_view c.args.head.now) z (all_pieces c.edit_either.new.pages.items) (piece_view c.args.tail.now) (piece_view c.edit_either.new.tail)) (parts_pieces c.args.pages.now.items c.reserve_in.new.pages.items c.reserve_in.ensures.same) c.in_ok-edited.ensures.applied.report.spliced;
    }

pub returns-clause-resized : goal.returns-clause-resized
returns-clause-resized g c = parts_resized c.args.pages.now.items c.reserve_in.new.pages.items c.edit_either.new.pages.items c.args.spot.page 1 0 c.reserve_in.ensures.same c.in_ok-edited.ensures.applied.resized
