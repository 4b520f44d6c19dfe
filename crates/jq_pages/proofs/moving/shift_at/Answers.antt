use Rattle.std.proofs.Common.{IsTrue, ◌≡◌, ℕ, ◌+◌, ◌<◌, ◌≤◌, List, ◌∙◌, get_or, length, take, sym, subst, arith}
use Rattle.std.proofs.Math.Logic.{∥∥₁_elim, ∥∥₁_map, ∥∥₁_prop}
use Rattle.jq_pages.specs.Folds.{Rises}
use Rattle.jq_pages.specs.private.Pages.{IsFilledBut, IsHeld, IsPlace}
use Rattle.jq_pages.specs.private.Reruns.{count_in}
use Rattle.jq_pages.proofs.Applied.{page_small, page_spot, spot_small}
use Rattle.jq_pages.proofs.Filled.{held_again, same_count}
use Rattle.jq_pages.proofs.Parts.{parts_but, parts_inputs, parts_length}
use Rattle.jq_pages.proofs.Plain.{still_rise}
use Rattle.jq_pages.proofs.Shifts.{none_told, shift_around, shift_no_room, shift_room}
use Rattle.jq_pages.proofs.moving.shift_at.Goals as goal
use Rattle.jq_pages.proofs.moving.shift_at.Goals.{After-make_room, In_ok-page, After-find-from_page}

count : (g : _) (c : In_ok-page g) → count_in c.make_room.new.pages.items ≡ count_in c.args.pages.now.items
count g c = same_count c.args.pages.now.items c.make_room.new.pages.items c.in_ok-page.ensures.rearranged.inputs

-- the pages after room was made, or was not found
held : (g : _) (c : After-make_room g) → ∥ IsHeld g.S.Steps.seen (g.S.Steps.fold c.make_room.new.steps) (g.S.Steps.seen c.args.first.now) c.make_room.new.pages.items c.args.tail.now ∥₁
held g c =
    let ran = c.make_room.ensures.rearranged in
    ∥∥₁_elim c.requires.stored.held ∥∥₁_prop (λ h. ∥∥₁_elim ran.keeps.paged.sized ∥∥₁_prop (λ z. ∥∥₁_map ran.keeps.paged.holds (λ k.
    subst (λ z. IsHeld g.S.Steps.seen z (g.S.Steps.seen c.args.first.now) c.make_room.new.pages.items c.args.tail.now) (sym ran.keeps.same)
    (held_again g.S.Steps.seen (g.S.Steps.fold c.args.steps.now) (g.S.Steps.seen c.args.first.now) c.args.pages.now.items c.make_room.new.pages.items c.args.tail.now h k z ran.inputs))))

page : (g : _) (c : After-find-from_page g) → c.find-from_page.result.0 < length c.make_room.new.pages.items
page g c = subst (λ (z : List _). c.find-from_page.result.0 < length z) c.deref-2.ensures.value c.find-from_page.ensures.page

has : (g : _) (c : After-find-from_page g) (d : _) → c.find-from_page.result.1 < length (get_or c.make_room.new.pages.items c.find-from_page.result.0 d).inputs.items
has g c = subst (λ (z : List _). (d : _) → c.find-from_page.result.1 < length (get_or z c.find-from_page.result.0 d).inputs.items) c.deref-2.ensures.value c.find-from_page.ensures.within

next : (i n : ℕ) → i < n → i + 1 ≤ n
next i n l = omega arith

fits : (n : ℕ) → n ≤ 64 → n + 0 ≤ 64 + 1
fits n l = omega arith

never : ◌≡◌ {A = ℕ} 1 0 → ⊥
never e = omega arith

from : (g : _) (c : After-find-from_page g) → IsPlace c.make_room.new.pages.items c.find-from_page.result.0 c.find-from_page.result.1 0 1
from g c = record {
  page = page g c;
  one = omega arith;
  place = λ d. next _ _ (has g c d);
  fits = λ d. fits _ (page_small c.make_room.new.pages.items c.find-from_page.result.0 d (page g c) c.make_room.ensures.rearranged.keeps.paged.sized);
  room = λ e. absurd (never e);
}

no_more : (i n : ℕ) → i + 0 ≤ n → i ≤ n
no_more i n l = omega arith

no_fit : (n : ℕ) → n + 1 ≤ 64 + 0 → n + 1 ≤ 64
no_fit n l = omega arith

small : (g : _) (c : In_ok-page g) → c.in_ok-page.at ≤ 64
small g c =
    let at = c.in_ok-page.ensures.room.at.place in
    spot_small c.make_room.new.pages.items c.in_ok-page.page c.in_ok-page.at at.page (λ d. no_more _ _ (at.place d)) (λ d. no_fit _ (at.fits d))

pub make_room-requires-clause-paged : goal.make_room-requires-clause-paged
make_room-requires-clause-paged g c = record { holds = ∥∥₁_map c.requires.stored.held (λ h. h.holds); sized = ∥∥₁_map c.requires.stored.held (λ h. h.sized) }

pub returns-in_err-page-clause-stored : goal.returns-in_err-page-clause-stored
returns-in_err-page-clause-stored g c =
    record {
      held = held g ((goal.at.returns-in_err-page-clause-stored g c).After-make_room);
      filled = c.in_err-page.ensures.filled;
      index = c.make_room.ensures.rearranged.keeps.index;
    }

pub returns-in_err-page-clause-starts : goal.returns-in_err-page-clause-starts
returns-in_err-page-clause-starts g c =
    record {
      started = ∣ shift_no_room _ _ c.args.pages.now.items c.args.k c.args.l _ _ c.requires.places.0 c.in_err-page.ensures.starts.at_most ∣₁;
      plain = λ p. subst (λ n. Rises (g.S.Steps.starts c.args.steps.now) n 1) (sym (c.make_room.ensures.starts.silent p)) (still_rise _ 1);
      counted = none_told c.from_residual.result _ c.from_residual.ensures.0;
    }

pub find-from_page-requires-clause-place : goal.find-from_page-requires-clause-place
find-from_page-requires-clause-place g c = subst (λ (z : List _). c.args.k < count_in z) (sym c.deref-2.ensures.value) (subst (λ n. c.args.k < n) (sym (count g ((goal.at.find-from_page-requires-clause-place g c).In_ok-page))) c.requires.places.0)

pub target_of-to-requires-clause-from : goal.target_of-to-requires-clause-from
target_of-to-requires-clause-from g c = subst (λ (z : List _). IsPlace z c.find-from_page.result.0 c.find-from_page.result.1 0 1) (sym c.deref-3.ensures.value) (from g ((goal.at.target_of-to-requires-clause-from g c).After-find-from_page))

pub shift_in-requires-clause-at : goal.shift_in-requires-clause-at
shift_in-requires-clause-at g c = record {
  place = from g ((goal.at.shift_in-requires-clause-at g c).After-find-from_page);
  spot = subst (λ (z : List _). count_in (take c.find-from_page.result.0 z) + c.find-from_page.result.1 ≡ c.args.k) c.deref-2.ensures.value c.find-from_page.ensures.place;
}

pub shift_in-requires-clause-summed : goal.shift_in-requires-clause-summed
shift_in-requires-clause-summed g c = record {
  index = c.in_ok-page.ensures.rearranged.keeps.index;
  few = subst (λ n. n < 4294967296) (sym (count g ((goal.at.shift_in-requires-clause-summed g c).In_ok-page))) c.requires.few;
}

pub shift_in-requires-clause-held : goal.shift_in-requires-clause-held
shift_in-requires-clause-held g c = held g ((goal.at.shift_in-requires-clause-held g c).After-make_room)

pub settle-requires-clause-page : goal.settle-requires-clause-page
settle-requires-clause-page g c = subst (λ n. c.find-from_page.result.0 < n) (sym c.in-Ok.ensures.shifted.count) (page g ((goal.at.settle-requires-clause-page g c).After-find-from_page))

pub returns-in-Ok-clause-shifted : goal.returns-in-Ok-clause-shifted
returns-in-Ok-clause-shifted g c =
    let m = c.in_ok-page.ensures in
    ∥∥₁_map c.in-Ok.ensures.shifted.shifted (λ x. shift_around _ _ _ _ _ c.args.pages.now.items c.make_room.new.pages.items c.shift_in.new.pages.items c.settle.new.pages.items _ _ _ _ _ m.rearranged.keeps.same m.rearranged.inputs m.rearranged.pieces c.settle.ensures.inputs c.settle.ensures.pieces x)

pub returns-in-Ok-clause-stored : goal.returns-in-Ok-clause-stored
returns-in-Ok-clause-stored g c =
    record {
      held = c.settle.ensures.held;
      filled = ∥∥₁_map c.in_ok-page.ensures.room.filled (λ h. c.settle.ensures.filled (c.in-Ok.ensures.shifted.filled (subst (λ n. IsFilledBut n c.make_room.new.pages.items) (sym c.target_of-to.ensures.page) h)));
      index = c.settle.ensures.index;
    }

through : (a b d : ℕ) → a ≤ b → b ≤ d → a ≤ d
through a b d l m = omega arith

pub returns-in-Ok-clause-starts : goal.returns-in-Ok-clause-starts
returns-in-Ok-clause-starts g c =
    record {
      started = let b = (goal.at.returns-in-Ok-clause-starts g c).After-find-from_page in
          let m = c.in_ok-page.ensures in
          let near = page_spot c.make_room.new.pages.items c.find-from_page.result.0 c.find-from_page.result.1 (page g b) (has g b) m.rearranged.keeps.paged.sized in
          ∥∥₁_map c.shift_in.ensures.starts.started (λ x. shift_room _ _ _ _ _ _ _ _ _ _ _ _ _ m.rearranged.keeps.same m.rearranged.inputs m.starts.rises near c.target_of-to.ensures.at (small g ((goal.at.returns-in-Ok-clause-starts g c).In_ok-page)) x);
      plain = λ p. subst (λ n. Rises n (g.S.Steps.starts c.shift_in.new.steps) 1) (c.in_ok-page.ensures.starts.silent p) (c.shift_in.ensures.starts.plain (subst (λ r. IsTrue r.plain) (sym c.in_ok-page.ensures.rearranged.keeps.same) p));
      counted = (through _ _ _ c.in_ok-page.ensures.starts.rises.low c.in-Ok.ensures.starts.counted.0, c.in-Ok.ensures.starts.counted.1);
    }

pub returns-in-Err-clause-starts : goal.returns-in-Err-clause-starts
returns-in-Err-clause-starts g c =
    record {
      started = let b = (goal.at.returns-in-Err-clause-starts g c).After-find-from_page in
          let m = c.in_ok-page.ensures in
          let near = page_spot c.make_room.new.pages.items c.find-from_page.result.0 c.find-from_page.result.1 (page g b) (has g b) m.rearranged.keeps.paged.sized in
          ∥∥₁_map c.shift_in.ensures.starts.started (λ x. shift_room _ _ _ _ _ _ _ _ _ _ _ _ _ m.rearranged.keeps.same m.rearranged.inputs m.starts.rises near c.target_of-to.ensures.at (small g ((goal.at.returns-in-Err-clause-starts g c).In_ok-page)) x);
      plain = λ p. subst (λ n. Rises n (g.S.Steps.starts c.shift_in.new.steps) 1) (c.in_ok-page.ensures.starts.silent p) (c.shift_in.ensures.starts.plain (subst (λ r. IsTrue r.plain) (sym c.in_ok-page.ensures.rearranged.keeps.same) p));
      counted = tt;
    }

pub returns-in-Err-clause-unchanged : goal.returns-in-Err-clause-unchanged
returns-in-Err-clause-unchanged g c = c.settle-in-Err.ensures.inputs ∙ parts_inputs c.make_room.new.pages.items c.shift_in.new.pages.items c.in-Err.ensures.back ∙ c.in_ok-page.ensures.rearranged.inputs

pub returns-in-Err-clause-stored : goal.returns-in-Err-clause-stored
returns-in-Err-clause-stored g c =
    record {
      held = c.settle-in-Err.ensures.held;
      filled = ∥∥₁_map c.in_ok-page.ensures.room.filled (λ h. c.settle-in-Err.ensures.filled (parts_but c.make_room.new.pages.items c.shift_in.new.pages.items c.in_ok-page.page c.in-Err.ensures.back h));
      index = c.settle-in-Err.ensures.index;
    }

pub settle-requires-in-Err-clause-page : goal.settle-requires-in-Err-clause-page
settle-requires-in-Err-clause-page g c = subst (λ n. c.in_ok-page.page < n) (sym (parts_length c.make_room.new.pages.items c.shift_in.new.pages.items c.in-Err.ensures.back)) c.in_ok-page.ensures.room.at.place.page
