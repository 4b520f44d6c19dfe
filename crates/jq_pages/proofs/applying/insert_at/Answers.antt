use Rattle.std.proofs.Common.{IsTrue, ◌≡◌, ℕ, ◌+◌, ◌<◌, ◌≤◌, sym, subst, refl, arith}
use Rattle.std.proofs.Math.Logic.{∥∥₁_elim, ∥∥₁_map, ∥∥₁_prop}
use Rattle.jq_pages.specs.private.Reruns.{count_in}
use Rattle.jq_pages.specs.private.Edits.{IsOneEdit, changed}
use Rattle.jq_pages.specs.private.Pages.{IsHeld}
use Rattle.jq_pages.proofs.Applied.{moved_edit, room_edit, spot_small}
use Rattle.jq_pages.proofs.Filled.{held_again, same_count}
use Rattle.jq_pages.proofs.applying.insert_at.Goals as goal
use Rattle.jq_pages.proofs.applying.insert_at.Goals.{After-make_room, In_ok-j}

count : (g : _) (c : In_ok-j g) → count_in c.make_room.new.pages.items ≡ count_in c.args.pages.now.items
count g c = same_count c.args.pages.now.items c.make_room.new.pages.items c.in_ok-j.ensures.rearranged.inputs

pub make_room-requires-clause-paged : goal.make_room-requires-clause-paged
make_room-requires-clause-paged g c = record { holds = ∥∥₁_map c.requires.stored.held (λ h. h.holds); sized = ∥∥₁_map c.requires.stored.held (λ h. h.sized) }

pub edit_at-requires-clause-at : goal.edit_at-requires-clause-at
edit_at-requires-clause-at g c = c.in_ok-j.ensures.room.at

pub edit_at-requires-clause-summed : goal.edit_at-requires-clause-summed
edit_at-requires-clause-summed g c = record {
  index = c.in_ok-j.ensures.rearranged.keeps.index;
  few = subst (λ n. n < 4294967296) (sym (count g ((goal.at.edit_at-requires-clause-summed g c).In_ok-j))) c.requires.few;
}

pub edit_at-requires-clause-filled : goal.edit_at-requires-clause-filled
edit_at-requires-clause-filled g c = c.in_ok-j.ensures.room.filled

within : (i n : ℕ) → i + 0 ≤ n → i ≤ n
within i n l = omega arith

fits : (n : ℕ) → n + 1 ≤ 64 + 0 → n + 1 ≤ 64
fits n l = omega arith

-- the pages after room was made, or was not found
held : (g : _) (c : After-make_room g) → ∥ IsHeld g.S.Steps.seen (g.S.Steps.fold c.make_room.new.steps) (g.S.Steps.seen c.args.first.now) c.make_room.new.pages.items c.args.tail.now ∥₁
held g c =
    let ran = c.make_room.ensures.rearranged in
    ∥∥₁_elim c.requires.stored.held ∥∥₁_prop (λ h. ∥∥₁_elim ran.keeps.paged.sized ∥∥₁_prop (λ z. ∥∥₁_map ran.keeps.paged.holds (λ k.
    subst (λ z. IsHeld g.S.Steps.seen z (g.S.Steps.seen c.args.first.now) c.make_room.new.pages.items c.args.tail.now) (sym ran.keeps.same)
    (held_again g.S.Steps.seen (g.S.Steps.fold c.args.steps.now) (g.S.Steps.seen c.args.first.now) c.args.pages.now.items c.make_room.new.pages.items c.args.tail.now h k z ran.inputs))))

pub edit_at-requires-clause-held : goal.edit_at-requires-clause-held
edit_at-requires-clause-held g c = held g ((goal.at.edit_at-requires-clause-held g c).After-make_room)

pub returns-in_err-j-clause-stored : goal.returns-in_err-j-clause-stored
returns-in_err-j-clause-stored g c =
    record {
      held = held g ((goal.at.returns-in_err-j-clause-stored g c).After-make_room);
      filled = c.in_err-j.ensures.filled;
      index = c.make_room.ensures.rearranged.keeps.index;
    }

pub returns-clause-edit : goal.returns-clause-edit
returns-clause-edit g c =
    record {
      edits = let m = c.in_ok-j.ensures in
          let at = m.room.at.place in
          let small : c.in_ok-j.i ≤ 64 = spot_small c.make_room.new.pages.items c.in_ok-j.j c.in_ok-j.i at.page (λ d. within _ _ (at.place d)) (λ d. fits _ (at.fits d)) in
          ∥∥₁_map c.edit_at.ensures.edit.edits (λ e. room_edit _ _ _ _ _ _ _ _ _ _ _ _ _ _ _ m.starts.rises small (moved_edit _ _ _ _ _ _ _ _ _ _ _ _ _ _ _ _ _ _ m.rearranged.keeps.same refl m.rearranged.inputs m.rearranged.pieces e));
      one = λ p. subst (λ n. IsOneEdit c.args.k 1 0 n (g.S.Steps.starts c.edit_at.new.steps) (changed c.edit_at.result)) (c.in_ok-j.ensures.starts.silent p) (c.edit_at.ensures.edit.one (subst (λ r. IsTrue r.plain) (sym c.in_ok-j.ensures.rearranged.keeps.same) p));
    }
