use Rattle.std.proofs.Common.{◌≡◌, ◌<◌, ◌≤◌, ◌+◌, ℕ, List, length, get_or, take, subst, arith}
use Rattle.std.proofs.Math.Logic.{∥∥₁_map}
use Rattle.jq_pages.specs.private.Pages.{IsSized}
use Rattle.jq_pages.specs.private.Reruns.{count_in}
use Rattle.jq_pages.proofs.Applied.{room_edit, page_small, page_spot}
use Rattle.jq_pages.proofs.Filled.{filled_but}
use Rattle.jq_pages.proofs.Plain.{still_rise, one_more}
use Rattle.jq_pages.proofs.applying.change_at.Goals as goal
use Rattle.jq_pages.proofs.applying.change_at.Goals.{After-find-j}

page : (g : _) (c : After-find-j g) → c.find-j.result.0 < length c.args.pages.now.items
page g c = subst (λ (z : List _). c.find-j.result.0 < length z) c.deref-2.ensures.value c.find-j.ensures.page

has : (g : _) (c : After-find-j g) (d : _) → c.find-j.result.1 < length (get_or c.args.pages.now.items c.find-j.result.0 d).inputs.items
has g c = subst (λ (z : List _). (d : _) → c.find-j.result.1 < length (get_or z c.find-j.result.0 d).inputs.items) c.deref-2.ensures.value c.find-j.ensures.within

sized : (g : _) (c : After-find-j g) → ∥ IsSized c.args.pages.now.items ∥₁
sized g c = ∥∥₁_map c.requires.stored.held (λ h. h.sized)

next : (i n : ℕ) → i < n → i + 1 ≤ n
next i n l = omega arith

never : ◌≡◌ {A = ℕ} 1 0 → ⊥
never e = omega arith

pub edit_at-requires-clause-at : goal.edit_at-requires-clause-at
edit_at-requires-clause-at g c =
    let b = (goal.at.edit_at-requires-clause-at g c).After-find-j in
    record {
      place = record {
        page = page g b;
        one = omega arith;
        place = λ d. next _ _ (has g b d);
        fits = λ d. one_more _ c.args.put (page_small c.args.pages.now.items c.find-j.result.0 d (page g b) (sized g b));
        room = λ e. absurd (never e);
      };
      spot = subst (λ (z : List _). count_in (take c.find-j.result.0 z) + c.find-j.result.1 ≡ c.args.k) c.deref-2.ensures.value c.find-j.ensures.place;
    }

pub edit_at-requires-clause-filled : goal.edit_at-requires-clause-filled
edit_at-requires-clause-filled g c = ∥∥₁_map c.requires.stored.filled (λ h. filled_but c.find-j.result.0 c.args.pages.now.items h)

pub returns-clause-edit : goal.returns-clause-edit
returns-clause-edit g c =
    record {
      edits = let b = (goal.at.returns-clause-edit g c).After-find-j in
          ∥∥₁_map c.edit_at.ensures.edit.edits (λ e. room_edit _ _ _ _ _ _ _ _ _ _ _ _ _ _ _ (still_rise _ _) (page_spot c.args.pages.now.items c.find-j.result.0 c.find-j.result.1 (page g b) (has g b) (sized g b)) e);
      one = c.edit_at.ensures.edit.one;
    }

pub edit_at-requires-clause-summed : goal.edit_at-requires-clause-summed
edit_at-requires-clause-summed g c = record { index = c.requires.stored.index; few = c.requires.few }
