use Rattle.std.proofs.Common.{refl, ◌≡◌, ℕ, ◌∙◌, ◌+◌, ◌-◌, ◌≤◌, ◌<◌, List, length, take, get_or, ap, sym, subst, arith}
use Rattle.std.proofs.Math.Logic.{∥∥₁_map}
use Rattle.jq_pages.specs.private.Reruns.{count_in}
use Rattle.jq_pages.specs.private.Groups.{IsIndex}
use Rattle.jq_pages.specs.declared.page.Page.{Page}
use Rattle.jq_pages.proofs.Applied.{opened_inputs, opened_sized, place_after, page_small}
use Rattle.jq_pages.proofs.Applied.{opened_pieces}
use Rattle.jq_pages.proofs.Edits.{same_default}
use Rattle.jq_pages.proofs.Filled.{filled_but, opened_but, halved_filled}
use Rattle.jq_pages.proofs.Divided.{opened_holds, halved_inputs, halved_holds, halved_sized, halved_later, halved_within, halved_fits, later_within, later_fits, later_rise, halved_pieces, full_place}
use Rattle.jq_pages.proofs.Free.{halved_first, halved_second, halved_spot, just_within, least, opened_free}
use Rattle.jq_pages.proofs.Groups.{index_put}
use Rattle.jq_pages.proofs.rooms.find_room.Goals as goal
use Rattle.jq_pages.proofs.rooms.find_room.Goals.{In_ok-split_page, After-cut_groups-2}

full : (n m i : ℕ) → n ≡ m → 64 ≤ n → m ≤ 64 → i + 1 ≡ 64 → m ≡ i + 1
full n m i a b c d = omega arith

some : (k : ℕ) → ¬ (k ≡ 0) → 0 < k
some k n = omega arith

half : (n m : ℕ) → n ≡ m → 64 ≤ n → 32 ≤ m
half n m a b = omega arith

pub returns-in_ok-open_page-clause-rearranged : goal.returns-in_ok-open_page-clause-rearranged
returns-in_ok-open_page-clause-rearranged g c =
    record {
      inputs = opened_inputs g.S.Steps.seen _ c.args.pages.now.items c.open_page.new.pages.items _ c.in_ok-open_page.ensures.pages;
      pieces = opened_pieces g.S.Steps.seen _ c.args.pages.now.items c.open_page.new.pages.items _ c.in_ok-open_page.ensures.pages;
      keeps = record {
        same = refl;
        paged = record {
          holds = let x = c.in_ok-open_page.ensures.pages in ∥∥₁_map c.requires.paged.holds (λ h. opened_holds g.S.Steps.seen _ _ c.args.pages.now.items c.open_page.new.pages.items _ x h);
          sized = let x = c.in_ok-open_page.ensures.pages in ∥∥₁_map c.requires.paged.sized (λ h. opened_sized g.S.Steps.seen _ c.args.pages.now.items c.open_page.new.pages.items _ x h);
        };
        index = subst (λ z. IsIndex z c.open_page.new.pages.items) (sym c.cut_groups.ensures) (index_put c.args.groups.now.items c.args.pages.now.items _ _ 0 c.requires.index c.in_ok-open_page.ensures.pages.list (least _));
      };
    }

pub returns-then-has_room-clause-free : goal.returns-then-has_room-clause-free
returns-then-has_room-clause-free g c =
    record {
      page = subst (λ (z : List _). c.find-j.result.0 + 1 < length z) c.deref-then-i-eq-MOST_IN_PAGE.ensures.value (c.has_room.ensures.page c.if-has_room.true);
      within = λ d. least _;
      fits = λ d. subst (λ (z : List _). length (get_or z (c.find-j.result.0 + 1) d).inputs.items + 1 ≤ 64) c.deref-then-i-eq-MOST_IN_PAGE.ensures.value (c.has_room.ensures.room c.if-has_room.true d);
      spot = let ps = c.args.pages.now.items in
          let j = c.find-j.result.0 in
          let p = c.index-2.result.now in
          let l : j < length ps = subst (λ (z : List _). j < length z) c.deref-2.ensures.value c.find-j.ensures.page in
          let n : length p.inputs.items ≤ 64 = subst (λ z. length z.inputs.items ≤ 64) (sym c.index-2.ensures) (page_small ps j p l c.requires.paged.sized) in
          full_place ps j c.find-j.result.1 c.args.k p l c.index-2.ensures
          (full _ _ _ (c.len-2.ensures ∙ p.inputs.ok.0) c.if-len-lt-MOST_IN_PAGE.false n c.if-i-eq-MOST_IN_PAGE.true)
          (ap (λ z. count_in (take j z) + c.find-j.result.1) (sym c.deref-2.ensures.value) ∙ c.find-j.ensures.place) (some _ c.if-k-eq0.false);
    }

pub returns-then-has_room-clause-filled : goal.returns-then-has_room-clause-filled
returns-then-has_room-clause-filled g c h = filled_but (c.find-j.result.0 + 1) c.args.pages.now.items h

pub returns-then-i-eq-MOST_IN_PAGE-clause-free : goal.returns-then-i-eq-MOST_IN_PAGE-clause-free
returns-then-i-eq-MOST_IN_PAGE-clause-free g c =
    let l : c.find-j.result.0 < length c.args.pages.now.items = subst (λ (z : List _). c.find-j.result.0 < length z) c.deref-2.ensures.value c.find-j.ensures.page in
    let m : c.find-j.result.0 + 1 ≤ length c.args.pages.now.items = omega arith in
    opened_free g.S.Steps.seen (g.S.Steps.seen c.args.first.now) c.args.pages.now.items c.open_page-then-i-eq-MOST_IN_PAGE.new.pages.items (c.find-j.result.0 + 1) c.args.k c.in_ok-open_page-2.ensures.pages m
    (let ps = c.args.pages.now.items in
    let j = c.find-j.result.0 in
    let p = c.index-2.result.now in
    let l : j < length ps = subst (λ (z : List _). j < length z) c.deref-2.ensures.value c.find-j.ensures.page in
    let n : length p.inputs.items ≤ 64 = subst (λ z. length z.inputs.items ≤ 64) (sym c.index-2.ensures) (page_small ps j p l c.requires.paged.sized) in
    place_after g.S.Steps.seen (g.S.Steps.seen c.args.first.now) ps c.open_page-then-i-eq-MOST_IN_PAGE.new.pages.items j c.find-j.result.1 c.args.k p c.in_ok-open_page-2.ensures.pages l c.index-2.ensures
    (full _ _ _ (c.len-2.ensures ∙ p.inputs.ok.0) c.if-len-lt-MOST_IN_PAGE.false n c.if-i-eq-MOST_IN_PAGE.true)
    (ap (λ z. count_in (take j z) + c.find-j.result.1) (sym c.deref-2.ensures.value) ∙ c.find-j.ensures.place) (some _ c.if-k-eq0.false))

page : (g : _) (c : In_ok-split_page g) → c.find-j.result.0 < length c.args.pages.now.items
page g c = subst (λ (z : List _). c.find-j.result.0 < length z) c.deref-2.ensures.value c.find-j.ensures.page

long : (g : _) (c : In_ok-split_page g) (d : Page _) → 32 ≤ length (get_or c.args.pages.now.items c.find-j.result.0 d).inputs.items
long g c d =
    let p = c.index-2.result.now in
    subst (λ z. 32 ≤ length z.inputs.items) (c.index-2.ensures ∙ same_default c.args.pages.now.items c.find-j.result.0 p d (page g c)) (half _ _ (c.len-2.ensures ∙ p.inputs.ok.0) c.if-len-lt-MOST_IN_PAGE.false)

has : (g : _) (c : In_ok-split_page g) (d : Page _) → c.find-j.result.1 < length (get_or c.args.pages.now.items c.find-j.result.0 d).inputs.items
has g c = subst (λ (z : List _). (d : _) → c.find-j.result.1 < length (get_or z c.find-j.result.0 d).inputs.items) c.deref-2.ensures.value c.find-j.ensures.within

few : (g : _) (c : In_ok-split_page g) (d : Page _) → length (get_or c.args.pages.now.items c.find-j.result.0 d).inputs.items ≤ 64
few g c d = page_small c.args.pages.now.items c.find-j.result.0 d (page g c) c.requires.paged.sized

at : (g : _) (c : In_ok-split_page g) → count_in (take c.find-j.result.0 c.args.pages.now.items) + c.find-j.result.1 ≡ c.args.k - 1
at g c = ap (λ z. count_in (take c.find-j.result.0 z) + c.find-j.result.1) (sym c.deref-2.ensures.value) ∙ c.find-j.ensures.place

pub returns-then-i-le-HALF-clause-free : goal.returns-then-i-le-HALF-clause-free
returns-then-i-le-HALF-clause-free g c =
    record {
      page = halved_first g.S.Steps.seen (g.S.Steps.fold c.args.steps.now) (g.S.Steps.seen c.args.first.now) c.args.pages.now.items c.split_page.new.pages.items c.find-j.result.0 c.in_ok-split_page.ensures.halved (just_within _ _ (page g ((goal.at.returns-then-i-le-HALF-clause-free g c).In_ok-split_page)));
      within = λ d. let b = (goal.at.returns-then-i-le-HALF-clause-free g c).In_ok-split_page in halved_within g.S.Steps.seen (g.S.Steps.fold c.args.steps.now) (g.S.Steps.seen c.args.first.now) c.args.pages.now.items c.split_page.new.pages.items c.find-j.result.0 c.find-j.result.1 c.in_ok-split_page.ensures.halved d (page g b) (long g b) c.if-i-le-HALF.true;
      fits = λ d. let b = (goal.at.returns-then-i-le-HALF-clause-free g c).In_ok-split_page in halved_fits g.S.Steps.seen (g.S.Steps.fold c.args.steps.now) (g.S.Steps.seen c.args.first.now) c.args.pages.now.items c.split_page.new.pages.items c.find-j.result.0 c.in_ok-split_page.ensures.halved d (page g b) (long g b);
      spot = halved_spot g.S.Steps.seen (g.S.Steps.fold c.args.steps.now) (g.S.Steps.seen c.args.first.now) c.args.pages.now.items c.split_page.new.pages.items c.find-j.result.0 c.find-j.result.1 c.args.k c.in_ok-split_page.ensures.halved (just_within _ _ (page g ((goal.at.returns-then-i-le-HALF-clause-free g c).In_ok-split_page))) (at g ((goal.at.returns-then-i-le-HALF-clause-free g c).In_ok-split_page)) (some _ c.if-k-eq0.false);
    }

pub returns-clause-free : goal.returns-clause-free
returns-clause-free g c =
    record {
      page = halved_second g.S.Steps.seen (g.S.Steps.fold c.args.steps.now) (g.S.Steps.seen c.args.first.now) c.args.pages.now.items c.split_page.new.pages.items c.find-j.result.0 c.in_ok-split_page.ensures.halved (just_within _ _ (page g ((goal.at.returns-clause-free g c).In_ok-split_page)));
      within = λ d. let b = (goal.at.returns-clause-free g c).In_ok-split_page in later_within g.S.Steps.seen (g.S.Steps.fold c.args.steps.now) (g.S.Steps.seen c.args.first.now) c.args.pages.now.items c.split_page.new.pages.items c.find-j.result.0 c.find-j.result.1 c.in_ok-split_page.ensures.halved d (page g b) (has g b);
      fits = λ d. let b = (goal.at.returns-clause-free g c).In_ok-split_page in later_fits g.S.Steps.seen (g.S.Steps.fold c.args.steps.now) (g.S.Steps.seen c.args.first.now) c.args.pages.now.items c.split_page.new.pages.items c.find-j.result.0 c.in_ok-split_page.ensures.halved d (page g b) (few g b);
      spot = let b = (goal.at.returns-clause-free g c).In_ok-split_page in halved_later g.S.Steps.seen (g.S.Steps.fold c.args.steps.now) (g.S.Steps.seen c.args.first.now) c.args.pages.now.items c.split_page.new.pages.items c.find-j.result.0 c.find-j.result.1 c.args.k c.in_ok-split_page.ensures.halved (page g b) (long g b) (at g b) (some _ c.if-k-eq0.false) c.if-i-le-HALF.false;
    }

pub returns-clause-starts : goal.returns-clause-starts
returns-clause-starts g c =
    record {
      rises = let b = (goal.at.returns-clause-starts g c).In_ok-split_page in later_rise _ _ c.find-j.result.1 _ c.in_ok-split_page.ensures.rises (has g b c.index-2.result.now) (few g b c.index-2.result.now);
      at_most = tt;
      silent = c.in_ok-split_page.ensures.silent;
    }

whole : (g : _) (c : In_ok-split_page g) (d : Page _) → 64 ≤ length (get_or c.args.pages.now.items c.find-j.result.0 d).inputs.items
whole g c d =
    let p = c.index-2.result.now in
    subst (λ z. 64 ≤ length z.inputs.items) (c.index-2.ensures ∙ same_default c.args.pages.now.items c.find-j.result.0 p d (page g c)) (subst (λ n. 64 ≤ n) (c.len-2.ensures ∙ p.inputs.ok.0) c.if-len-lt-MOST_IN_PAGE.false)

pub returns-then-len-lt-MOST_IN_PAGE-clause-filled : goal.returns-then-len-lt-MOST_IN_PAGE-clause-filled
returns-then-len-lt-MOST_IN_PAGE-clause-filled g c h = filled_but c.find-j.result.0 c.args.pages.now.items h

pub returns-then-i-eq-MOST_IN_PAGE-clause-filled : goal.returns-then-i-eq-MOST_IN_PAGE-clause-filled
returns-then-i-eq-MOST_IN_PAGE-clause-filled g c h =
    let x = c.in_ok-open_page-2.ensures.pages in
    let l : c.find-j.result.0 < length c.args.pages.now.items = subst (λ (z : List _). c.find-j.result.0 < length z) c.deref-2.ensures.value c.find-j.ensures.page in
    let m : c.find-j.result.0 + 1 ≤ length c.args.pages.now.items = omega arith in
    opened_but g.S.Steps.seen _ c.args.pages.now.items c.open_page-then-i-eq-MOST_IN_PAGE.new.pages.items _ x m h

pub returns-then-i-le-HALF-clause-filled : goal.returns-then-i-le-HALF-clause-filled
returns-then-i-le-HALF-clause-filled g c h = let b = (goal.at.returns-then-i-le-HALF-clause-filled g c).In_ok-split_page in filled_but c.find-j.result.0 c.split_page.new.pages.items (halved_filled g.S.Steps.seen (g.S.Steps.fold c.args.steps.now) (g.S.Steps.seen c.args.first.now) c.args.pages.now.items c.split_page.new.pages.items c.find-j.result.0 c.in_ok-split_page.ensures.halved (page g b) (whole g b) h)

pub returns-clause-filled : goal.returns-clause-filled
returns-clause-filled g c h = let b = (goal.at.returns-clause-filled g c).In_ok-split_page in filled_but (c.find-j.result.0 + 1) c.split_page.new.pages.items (halved_filled g.S.Steps.seen (g.S.Steps.fold c.args.steps.now) (g.S.Steps.seen c.args.first.now) c.args.pages.now.items c.split_page.new.pages.items c.find-j.result.0 c.in_ok-split_page.ensures.halved (page g b) (whole g b) h)

pub returns-then-i-eq-MOST_IN_PAGE-clause-rearranged : goal.returns-then-i-eq-MOST_IN_PAGE-clause-rearranged
returns-then-i-eq-MOST_IN_PAGE-clause-rearranged g c =
    record {
      inputs = let x = c.in_ok-open_page-2.ensures.pages in opened_inputs g.S.Steps.seen _ c.args.pages.now.items c.open_page-then-i-eq-MOST_IN_PAGE.new.pages.items _ x;
      pieces = let x = c.in_ok-open_page-2.ensures.pages in opened_pieces g.S.Steps.seen _ c.args.pages.now.items c.open_page-then-i-eq-MOST_IN_PAGE.new.pages.items _ x;
      keeps = record {
        same = refl;
        paged = record {
          holds = let x = c.in_ok-open_page-2.ensures.pages in ∥∥₁_map c.requires.paged.holds (λ h. opened_holds g.S.Steps.seen _ _ c.args.pages.now.items c.open_page-then-i-eq-MOST_IN_PAGE.new.pages.items _ x h);
          sized = let x = c.in_ok-open_page-2.ensures.pages in ∥∥₁_map c.requires.paged.sized (λ h. opened_sized g.S.Steps.seen _ c.args.pages.now.items c.open_page-then-i-eq-MOST_IN_PAGE.new.pages.items _ x h);
        };
        index = let x = c.in_ok-open_page-2.ensures.pages in
            let l : c.find-j.result.0 < length c.args.pages.now.items = subst (λ (z : List _). c.find-j.result.0 < length z) c.deref-2.ensures.value c.find-j.ensures.page in
            let m : c.find-j.result.0 + 1 ≤ length c.args.pages.now.items = omega arith in
            subst (λ z. IsIndex z c.open_page-then-i-eq-MOST_IN_PAGE.new.pages.items) (sym c.cut_groups-then-i-eq-MOST_IN_PAGE.ensures) (index_put c.args.groups.now.items c.args.pages.now.items _ _ (c.find-j.result.0 + 1) c.requires.index x.list m);
      };
    }

cut : (g : _) (c : After-cut_groups-2 g) → c.find-j.result.0 < length c.args.pages.now.items → IsIndex c.cut_groups-2.new.groups.items c.split_page.new.pages.items
cut g c l =
    let x = c.in_ok-split_page.ensures.halved.divided in
    let m : c.find-j.result.0 ≤ length c.args.pages.now.items = omega arith in
    subst (λ z. IsIndex z c.split_page.new.pages.items) (sym c.cut_groups-2.ensures) (index_put c.args.groups.now.items c.args.pages.now.items _ _ c.find-j.result.0 c.requires.index x.list m)

pub returns-then-i-le-HALF-clause-rearranged : goal.returns-then-i-le-HALF-clause-rearranged
returns-then-i-le-HALF-clause-rearranged g c =
    record {
      inputs = let b = (goal.at.returns-then-i-le-HALF-clause-rearranged g c).In_ok-split_page in halved_inputs g.S.Steps.seen (g.S.Steps.fold c.args.steps.now) (g.S.Steps.seen c.args.first.now) c.args.pages.now.items c.split_page.new.pages.items c.find-j.result.0 c.in_ok-split_page.ensures.halved (page g b);
      pieces = let b = (goal.at.returns-then-i-le-HALF-clause-rearranged g c).In_ok-split_page in halved_pieces g.S.Steps.seen (g.S.Steps.fold c.args.steps.now) (g.S.Steps.seen c.args.first.now) c.args.pages.now.items c.split_page.new.pages.items c.find-j.result.0 c.in_ok-split_page.ensures.halved (page g b);
      keeps = record {
        same = c.in_ok-split_page.ensures.same;
        paged = record {
          holds = let b = (goal.at.returns-then-i-le-HALF-clause-rearranged g c).In_ok-split_page in ∥∥₁_map c.requires.paged.holds (λ h. halved_holds g.S.Steps.seen (g.S.Steps.fold c.args.steps.now) (g.S.Steps.seen c.args.first.now) c.args.pages.now.items c.split_page.new.pages.items c.find-j.result.0 c.in_ok-split_page.ensures.halved (page g b) (long g b) h);
          sized = let b = (goal.at.returns-then-i-le-HALF-clause-rearranged g c).In_ok-split_page in ∥∥₁_map c.requires.paged.sized (λ h. halved_sized g.S.Steps.seen (g.S.Steps.fold c.args.steps.now) (g.S.Steps.seen c.args.first.now) c.args.pages.now.items c.split_page.new.pages.items c.find-j.result.0 c.in_ok-split_page.ensures.halved (page g b) (long g b) h);
        };
        index = cut g ((goal.at.returns-then-i-le-HALF-clause-rearranged g c).After-cut_groups-2) (page g ((goal.at.returns-then-i-le-HALF-clause-rearranged g c).In_ok-split_page));
      };
    }

pub returns-clause-rearranged : goal.returns-clause-rearranged
returns-clause-rearranged g c =
    record {
      inputs = let b = (goal.at.returns-clause-rearranged g c).In_ok-split_page in halved_inputs g.S.Steps.seen (g.S.Steps.fold c.args.steps.now) (g.S.Steps.seen c.args.first.now) c.args.pages.now.items c.split_page.new.pages.items c.find-j.result.0 c.in_ok-split_page.ensures.halved (page g b);
      pieces = let b = (goal.at.returns-clause-rearranged g c).In_ok-split_page in halved_pieces g.S.Steps.seen (g.S.Steps.fold c.args.steps.now) (g.S.Steps.seen c.args.first.now) c.args.pages.now.items c.split_page.new.pages.items c.find-j.result.0 c.in_ok-split_page.ensures.halved (page g b);
      keeps = record {
        same = c.in_ok-split_page.ensures.same;
        paged = record {
          holds = let b = (goal.at.returns-clause-rearranged g c).In_ok-split_page in ∥∥₁_map c.requires.paged.holds (λ h. halved_holds g.S.Steps.seen (g.S.Steps.fold c.args.steps.now) (g.S.Steps.seen c.args.first.now) c.args.pages.now.items c.split_page.new.pages.items c.find-j.result.0 c.in_ok-split_page.ensures.halved (page g b) (long g b) h);
          sized = let b = (goal.at.returns-clause-rearranged g c).In_ok-split_page in ∥∥₁_map c.requires.paged.sized (λ h. halved_sized g.S.Steps.seen (g.S.Steps.fold c.args.steps.now) (g.S.Steps.seen c.args.first.now) c.args.pages.now.items c.split_page.new.pages.items c.find-j.result.0 c.in_ok-split_page.ensures.halved (page g b) (long g b) h);
        };
        index = cut g ((goal.at.returns-clause-rearranged g c).After-cut_groups-2) (page g ((goal.at.returns-clause-rearranged g c).In_ok-split_page));
      };
    }
