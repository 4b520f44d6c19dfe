use Rattle.std.proofs.Common.{◌≡◌, ℕ, ◌+◌, ◌-◌, ◌<◌, ◌≤◌, length, take, get_or, ap, sym, ◌∙◌, subst, arith}
use Rattle.std.proofs.Math.Logic.{∥∥₁_elim, ∥∥₁_map}
use Rattle.jq_pages.specs.Folds.{Rises}
use Rattle.jq_pages.specs.private.Groups.{IsIndex}
use Rattle.jq_pages.specs.private.Pages.{all_inputs, IsSized}
use Rattle.jq_pages.specs.private.Reruns.{Holds}
use Rattle.jq_pages.specs.declared.page.Page.{Page}
use Rattle.jq_pages.proofs.Filled.{dropped_filled, dropped_holds, dropped_inputs, dropped_sized, same_pieces}
use Rattle.jq_pages.proofs.Parts.{parts_at, parts_but, parts_count, parts_holds, parts_index, parts_inputs, parts_length, parts_pieces, parts_sized, parts_take}
use Rattle.jq_pages.proofs.Sets.{sets}
use Rattle.jq_pages.proofs.rooms.make_room.Goals as goal
use Rattle.jq_pages.proofs.rooms.make_room.Goals.{After-reserve_in}

page : (g : _) (c : After-reserve_in g) → c.in_ok-j.j < length c.reserve_in.new.pages.items
page g c = subst (λ n. c.in_ok-j.j < n) (sym (parts_length c.find_room.new.pages.items c.reserve_in.new.pages.items c.reserve_in.ensures.same)) c.in_ok-j.ensures.free.page

inputs : (g : _) (c : After-reserve_in g) → all_inputs c.reserve_in.new.pages.items ≡ all_inputs c.args.pages.now.items
inputs g c = parts_inputs c.find_room.new.pages.items c.reserve_in.new.pages.items c.reserve_in.ensures.same ∙ c.in_ok-j.ensures.rearranged.inputs

holds : (g : _) (c : After-reserve_in g) → ∥ Holds g.S.Steps.seen (g.S.Steps.fold c.args.steps.now) (g.S.Steps.seen c.args.first.now) c.reserve_in.new.pages.items ∥₁
holds g c = ∥∥₁_map c.in_ok-j.ensures.rearranged.keeps.paged.holds (λ h. parts_holds g.S.Steps.seen (g.S.Steps.fold c.args.steps.now) (g.S.Steps.seen c.args.first.now) c.find_room.new.pages.items c.reserve_in.new.pages.items c.reserve_in.ensures.same h)

sized : (g : _) (c : After-reserve_in g) → ∥ IsSized c.reserve_in.new.pages.items ∥₁
sized g c = ∥∥₁_map c.in_ok-j.ensures.rearranged.keeps.paged.sized (λ h. parts_sized c.find_room.new.pages.items c.reserve_in.new.pages.items c.reserve_in.ensures.same h)

index : (g : _) (c : After-reserve_in g) → IsIndex c.find_room.new.groups.items c.reserve_in.new.pages.items
index g c = parts_index c.find_room.new.groups.items c.find_room.new.pages.items c.reserve_in.new.pages.items c.reserve_in.ensures.same c.in_ok-j.ensures.rearranged.keeps.index

pub drop_empty-requires-clause-page : goal.drop_empty-requires-clause-page
drop_empty-requires-clause-page g c = page g ((goal.at.drop_empty-requires-clause-page g c).After-reserve_in)

pub drop_empty-requires-clause-index : goal.drop_empty-requires-clause-index
drop_empty-requires-clause-index g c = index g ((goal.at.drop_empty-requires-clause-index g c).After-reserve_in)

none : (i n m : ℕ) → m ≡ n → i ≤ n → i + 0 ≤ m
none i n m e l = omega arith

more : (n m : ℕ) → m ≡ n → n + 1 ≤ 64 → m + 1 ≤ 64 + 0
more n m e l = omega arith

pub returns-in-Ok-clause-room : goal.returns-in-Ok-clause-room
returns-in-Ok-clause-room g c =
    record {
      at = record {
        place = let b = (goal.at.returns-in-Ok-clause-room g c).After-reserve_in in
            let same : (d : Page _) → length (get_or c.reserve_in.new.pages.items c.in_ok-j.j d).inputs.items ≡ length (get_or c.find_room.new.pages.items c.in_ok-j.j d).inputs.items = λ d. parts_at c.find_room.new.pages.items c.reserve_in.new.pages.items c.in_ok-j.j d c.reserve_in.ensures.same in
            record {
              page = page g b;
              one = omega arith;
              place = λ d. none _ _ _ (same d) (c.in_ok-j.ensures.free.within d);
              fits = λ d. more _ _ (same d) (c.in_ok-j.ensures.free.fits d);
              room = λ e. c.in-Ok.ensures.room;
            };
        spot = ap (λ n. n + c.in_ok-j.i) (parts_count (take c.in_ok-j.j c.find_room.new.pages.items) (take c.in_ok-j.j c.reserve_in.new.pages.items) (parts_take c.find_room.new.pages.items c.reserve_in.new.pages.items c.in_ok-j.j c.reserve_in.ensures.same)) ∙ c.in_ok-j.ensures.free.spot;
      };
      filled = ∥∥₁_map c.requires.filled (λ h. parts_but c.find_room.new.pages.items c.reserve_in.new.pages.items c.in_ok-j.j c.reserve_in.ensures.same (c.in_ok-j.ensures.filled h));
    }

pub returns-in-Ok-clause-rearranged : goal.returns-in-Ok-clause-rearranged
returns-in-Ok-clause-rearranged g c =
    record {
      inputs = inputs g ((goal.at.returns-in-Ok-clause-rearranged g c).After-reserve_in);
      pieces = parts_pieces c.find_room.new.pages.items c.reserve_in.new.pages.items c.reserve_in.ensures.same ∙ c.in_ok-j.ensures.rearranged.pieces;
      keeps = record {
        same = c.in_ok-j.ensures.rearranged.keeps.same;
        paged = record {
          holds = holds g ((goal.at.returns-in-Ok-clause-rearranged g c).After-reserve_in);
          sized = sized g ((goal.at.returns-in-Ok-clause-rearranged g c).After-reserve_in);
        };
        index = index g ((goal.at.returns-in-Ok-clause-rearranged g c).After-reserve_in);
      };
    }

pub returns-in-Err-clause-filled : goal.returns-in-Err-clause-filled
returns-in-Err-clause-filled g c =
    let b = (goal.at.returns-in-Err-clause-filled g c).After-reserve_in in
    ∥∥₁_map c.requires.filled (λ h. dropped_filled c.reserve_in.new.pages.items c.drop_empty.new.pages.items c.in_ok-j.j c.drop_empty.ensures.pages (page g b) (parts_but c.find_room.new.pages.items c.reserve_in.new.pages.items c.in_ok-j.j c.reserve_in.ensures.same (c.in_ok-j.ensures.filled h)))

pub returns-in-Err-clause-rearranged : goal.returns-in-Err-clause-rearranged
returns-in-Err-clause-rearranged g c =
    record {
      inputs = let b = (goal.at.returns-in-Err-clause-rearranged g c).After-reserve_in in
          dropped_inputs c.reserve_in.new.pages.items c.drop_empty.new.pages.items c.in_ok-j.j c.drop_empty.ensures.pages (page g b) ∙ inputs g b;
      pieces = let b = (goal.at.returns-in-Err-clause-rearranged g c).After-reserve_in in
          let old = c.reserve_in.new.pages.items in
          let new = c.drop_empty.new.pages.items in
          ∥∥₁_elim (holds g b) (hlevel sets) (λ h.
          same_pieces g.S.Steps.seen (g.S.Steps.fold c.args.steps.now) (g.S.Steps.seen c.args.first.now) old new h
          (dropped_holds g.S.Steps.seen (g.S.Steps.fold c.args.steps.now) (g.S.Steps.seen c.args.first.now) old new c.in_ok-j.j c.drop_empty.ensures.pages (page g b) h)
          (dropped_inputs old new c.in_ok-j.j c.drop_empty.ensures.pages (page g b)))
          ∙ parts_pieces c.find_room.new.pages.items old c.reserve_in.ensures.same ∙ c.in_ok-j.ensures.rearranged.pieces;
      keeps = record {
        same = c.in_ok-j.ensures.rearranged.keeps.same;
        paged = record {
          holds = let b = (goal.at.returns-in-Err-clause-rearranged g c).After-reserve_in in
              ∥∥₁_map (holds g b) (λ h. dropped_holds g.S.Steps.seen (g.S.Steps.fold c.args.steps.now) (g.S.Steps.seen c.args.first.now) c.reserve_in.new.pages.items c.drop_empty.new.pages.items c.in_ok-j.j c.drop_empty.ensures.pages (page g b) h);
          sized = let b = (goal.at.returns-in-Err-clause-rearranged g c).After-reserve_in in
              ∥∥₁_map (sized g b) (λ h. dropped_sized c.reserve_in.new.pages.items c.drop_empty.new.pages.items c.in_ok-j.j c.drop_empty.ensures.pages (page g b) h);
        };
        index = c.drop_empty.ensures.index;
      };
    }

fewer : (a b i : ℕ) → Rises a b (64 - i) → Rises a b 64
fewer a b i x = let p : a ≤ b = x.low in let q : b ≤ a + (64 - i) = x.high in record { low = p; high = omega arith }

pub returns-in-Err-clause-starts : goal.returns-in-Err-clause-starts
returns-in-Err-clause-starts g c = record {
  rises = tt;
  at_most = fewer _ _ c.in_ok-j.i c.in_ok-j.ensures.starts.rises;
  silent = c.in_ok-j.ensures.starts.silent;
}
