use Rattle.std.proofs.Common.{◌≡◌, ℕ, ◌+◌, ◌/◌, ◌<◌, ◌≤◌, [], ◌∷◌, ◌++◌, List, length, get_or, take, drop, map, ap, arith, sym, ◌∙◌, subst, subst₂, false, refl}
use Rattle.std.proofs.Math.Logic.{∥∥₁_elim, ∥∥₁_map}
use Rattle.std.proofs.Props.{props}
use Rattle.std.specs.Option.{option_to_list}
use Rattle.jv_data.specs.declared.values.Val.{Val}
use Rattle.jq_pages.specs.private.Reruns.{Holds, count_in, pieces_in}
use Rattle.jq_pages.specs.private.Cuts.{AreCut}
use Rattle.jq_pages.specs.private.Groups.{IsFew, IsIndex, IsIndexBut, group_pages}
use Rattle.jq_pages.specs.private.Pages.{all_pieces, IsSized}
use Rattle.jq_pages.specs.Pieces.{piece_view}
use Rattle.jv_data.specs.View.{view}
use Rattle.jq_pages.proofs.Applied.{here, page_small}
use Rattle.jq_pages.proofs.Moves.{changed_in_err, resized_installed}
use Rattle.jq_pages.proofs.Cuts.{one_splices}
use Rattle.jq_pages.proofs.Edits.{map_length, pieces_count, pieces_length}
use Rattle.jq_pages.proofs.Divided.{page_pieces}
use Rattle.jq_pages.proofs.Filled.{installed_length, set_but}
use Rattle.jq_pages.proofs.Groups.{few_group, index_replaced}
use Rattle.jq_pages.proofs.Plain.{as_installed, plain_edit, plain_holds, plain_refused, plain_sized, one_refused, one_spot, option_few, not_closed}
use Rattle.jq_pages.proofs.applying.edit_plain.Goals as goal
use Rattle.jq_pages.proofs.applying.edit_plain.Goals.{After-exchange_one-value}

pub exchange_one-value-requires-clause-have : goal.exchange_one-value-requires-clause-have
exchange_one-value-requires-clause-have g c d =
    ∥∥₁_elim c.requires.plain.paged.holds (hlevel props) (λ h.
    subst (λ n. c.args.i + c.args.cut ≤ n) (sym (page_pieces g.S.Steps.seen (g.S.Steps.fold c.args.steps.now) (g.S.Steps.seen c.args.state.now) c.args.pages.now.items c.args.j d c.requires.at.place.page h)) (c.requires.at.place.place d))

place : (g : _) (c : After-exchange_one-value g) → c.args.i + c.args.cut ≤ length (here c.requires.at.place).0.inputs.items
place g c = subst (λ z. c.args.i + c.args.cut ≤ length z.inputs.items) (sym (here c.requires.at.place).1) (c.requires.at.place.place (here c.requires.at.place).0)

fits : (g : _) (c : After-exchange_one-value g) → length (here c.requires.at.place).0.inputs.items + length (option_to_list c.args.put) ≤ 64 + c.args.cut
fits g c = subst (λ z. length z.inputs.items + length (option_to_list c.args.put) ≤ 64 + c.args.cut) (sym (here c.requires.at.place).1) (c.requires.at.place.fits (here c.requires.at.place).0)

have : (g : _) (c : After-exchange_one-value g) → Holds g.S.Steps.seen (g.S.Steps.fold c.args.steps.now) (g.S.Steps.seen c.args.state.now) c.args.pages.now.items → c.args.i + c.args.cut ≤ length (here c.requires.at.place).0.pieces.items.items
have g c h =
    subst (λ n. c.args.i + c.args.cut ≤ n) (sym (ap (λ z. length z.pieces.items.items) (here c.requires.at.place).1 ∙ page_pieces g.S.Steps.seen (g.S.Steps.fold c.args.steps.now) (g.S.Steps.seen c.args.state.now) c.args.pages.now.items c.args.j (here c.requires.at.place).0 c.requires.at.place.page h))
    (c.requires.at.place.place (here c.requires.at.place).0)

-- as many pieces as inputs that are put in
piece_count : (g : _) (c : After-exchange_one-value g) → length (option_to_list c.in_ok-piece.piece) ≡ length (option_to_list c.args.put)
piece_count g c =
    sym (map_length piece_view (option_to_list c.in_ok-piece.piece)) ∙ ap length c.in_ok-piece.ensures.pieces
    ∙ pieces_count (g.S.Steps.fold c.args.steps.now) (g.S.Steps.seen c.args.state.now) (map view (option_to_list c.args.put)) ∙ map_length view (option_to_list c.args.put)

pub returns-clause-edit : goal.returns-clause-edit
returns-clause-edit g c =
    record {
      edits = let b = (goal.at.returns-clause-edit g c).After-exchange_one-value in
          ∥∥₁_map c.requires.plain.paged.holds (λ h.
          plain_edit g.S.Steps.seen (g.S.Steps.fold c.args.steps.now) (g.S.Steps.seen c.args.state.now) (g.S.Steps.seen c.args.state.now) c.args.pages.now.items c.exchange_one-value.new.pages.items c.args.j c.args.i c.args.cut c.args.k (here c.requires.at.place).0 (option_to_list c.args.put) (option_to_list c.in_ok-piece.piece) (record { from = c.args.k; cut = c.args.cut; put = length c.slice_of-more.result.now; closed = false }) _ _ c.exchange_one-value.ensures.pages c.requires.at.place.page (here c.requires.at.place).1 (place g b) (have g b h) c.requires.at.spot
          (one_spot g.S.Steps.seen (g.S.Steps.fold c.args.steps.now) (g.S.Steps.seen c.args.state.now) c.args.pages.now.items c.args.j c.args.i c.args.cut c.args.k (here c.requires.at.place).0 c.requires.at.place.page (here c.requires.at.place).1 (place g b) c.requires.at.spot h)
          c.in_ok-piece.ensures.pieces h (option_few c.args.put) refl (ap (λ (z : List Val). length z) c.slice_of-more.ensures) refl not_closed c.in_ok-piece.ensures.rises);
      one = record { change = (refl, ap (λ (z : List Val). length z) c.slice_of-more.ensures, refl, not_closed); rises = c.in_ok-piece.ensures.rises };
    }

-- what the new pages hold
holds : (g : _) (c : After-exchange_one-value g) → Holds g.S.Steps.seen (g.S.Steps.fold c.args.steps.now) (g.S.Steps.seen c.args.state.now) c.args.pages.now.items → Holds g.S.Steps.seen (g.S.Steps.fold c.args.steps.now) (g.S.Steps.seen c.args.state.now) c.exchange_one-value.new.pages.items
holds g c h = plain_holds g.S.Steps.seen (g.S.Steps.fold c.args.steps.now) (g.S.Steps.seen c.args.state.now) (g.S.Steps.seen c.args.state.now) c.args.pages.now.items c.exchange_one-value.new.pages.items c.args.j c.args.i c.args.cut (here c.requires.at.place).0 (option_to_list c.args.put) (option_to_list c.in_ok-piece.piece) c.exchange_one-value.ensures.pages c.requires.plain.alike c.requires.at.place.page (here c.requires.at.place).1 (place g c) c.in_ok-piece.ensures.pieces h

sized : (g : _) (c : After-exchange_one-value g) → IsSized c.args.pages.now.items → IsSized c.exchange_one-value.new.pages.items
sized g c z = plain_sized c.args.pages.now.items c.exchange_one-value.new.pages.items c.args.j c.args.i c.args.cut (here c.requires.at.place).0 (option_to_list c.args.put) (option_to_list c.in_ok-piece.piece) c.exchange_one-value.ensures.pages c.requires.at.place.page (here c.requires.at.place).1 (place g c) (fits g c) z

pub sum_again-requires-clause-others : goal.sum_again-requires-clause-others
sum_again-requires-clause-others g c =
    subst (λ (z : List _). IsIndexBut c.args.groups.now.items z (c.args.j / 128) (c.args.j / 128 + 1)) (sym c.deref-3.ensures.value)
    (index_replaced c.args.groups.now.items c.args.pages.now.items c.exchange_one-value.new.pages.items c.args.j c.args.i c.args.cut (option_to_list c.args.put) (option_to_list c.in_ok-piece.piece) c.exchange_one-value.ensures.pages c.requires.at.place.page c.requires.summed.index)

pub sum_again-requires-clause-few : goal.sum_again-requires-clause-few
sum_again-requires-clause-few g c =
    let b = (goal.at.sum_again-requires-clause-few g c).After-exchange_one-value in
    subst (λ (z : List _). (n : ℕ) → IsFew (group_pages n z)) (sym c.deref-3.ensures.value)
    (∥∥₁_elim c.requires.plain.paged.holds (hlevel props) (λ h. ∥∥₁_elim c.requires.plain.paged.sized (hlevel props) (λ z. few_group g.S.Steps.seen (g.S.Steps.fold c.args.steps.now) (g.S.Steps.seen c.args.state.now) c.exchange_one-value.new.pages.items (holds g b h) (sized g b z))))

pub returns-clause-kept : goal.returns-clause-kept
returns-clause-kept g c =
    record {
      same = c.in_ok-piece.ensures.same;
      paged = record {
        holds = ∥∥₁_map c.requires.plain.paged.holds (λ h. holds g ((goal.at.returns-clause-kept g c).After-exchange_one-value) h);
        sized = ∥∥₁_map c.requires.plain.paged.sized (λ z. sized g ((goal.at.returns-clause-kept g c).After-exchange_one-value) z);
      };
      index = subst (λ (z : List _). IsIndex c.sum_again.new.groups.items z) c.deref-3.ensures.value c.sum_again.ensures;
    }

pub returns-clause-pages : goal.returns-clause-pages
returns-clause-pages g c =
    record {
      count = installed_length _ _ _ _ _ _ _ _ (as_installed c.args.pages.now.items c.exchange_one-value.new.pages.items c.args.j c.args.i c.args.cut (option_to_list c.args.put) (option_to_list c.in_ok-piece.piece) c.exchange_one-value.ensures.pages) c.requires.at.place.page;
      filled = λ h. let x = c.exchange_one-value.ensures.pages in set_but c.args.pages.now.items c.exchange_one-value.new.pages.items _ _ c.args.j x.list c.requires.at.place.page h.0 h.1;
    }

pub splices_one-requires-clause-few : goal.splices_one-requires-clause-few
splices_one-requires-clause-few g c =
    subst (λ (z : List _). length (all_pieces z) < 4294967296) (sym c.deref-2.ensures.value)
    (∥∥₁_elim c.requires.plain.paged.holds (hlevel props) (λ h.
    let n : length (all_pieces c.args.pages.now.items) ≡ count_in c.args.pages.now.items = pieces_length g.S.Steps.seen (g.S.Steps.fold c.args.steps.now) (g.S.Steps.seen c.args.state.now) c.args.pages.now.items h in
    omega (arith, n, c.requires.summed.few)))

pub splices_one-requires-clause-page : goal.splices_one-requires-clause-page
splices_one-requires-clause-page g c = subst (λ (z : List _). c.args.j < length z) (sym c.deref-2.ensures.value) c.requires.at.place.page

pub splices_one-requires-clause-place : goal.splices_one-requires-clause-place
splices_one-requires-clause-place g c d =
    subst (λ (z : List _). c.args.i + c.args.cut ≤ length (get_or z c.args.j d).pieces.items.items) (sym c.deref-2.ensures.value)
    (∥∥₁_elim c.requires.plain.paged.holds (hlevel props) (λ h.
    subst (λ n. c.args.i + c.args.cut ≤ n) (sym (page_pieces g.S.Steps.seen (g.S.Steps.fold c.args.steps.now) (g.S.Steps.seen c.args.state.now) c.args.pages.now.items c.args.j d c.requires.at.place.page h)) (c.requires.at.place.place d)))

-- the place is within a page
small : (i cut n : ℕ) → i + cut ≤ n → n ≤ 64 → i < 4294967296
small i cut n a b = omega arith

pub splices_one-requires-clause-small : goal.splices_one-requires-clause-small
splices_one-requires-clause-small g c =
    small _ _ _ (c.requires.at.place.place (here c.requires.at.place).0) (page_small c.args.pages.now.items c.args.j (here c.requires.at.place).0 c.requires.at.place.page c.requires.plain.paged.sized)

pub returns-in_err-splices-clause-edit : goal.returns-in_err-splices-clause-edit
returns-in_err-splices-clause-edit g c =
    record {
      edits = ∣ plain_refused _ _ _ _ _ _ _ _ _ _ _ _ _ (changed_in_err _ c.from_residual-in_err-splices.ensures.0) c.in_ok-piece.ensures.rises (option_few c.args.put) ∣₁;
      one = one_refused _ _ _ _ _ _ (changed_in_err _ c.from_residual-in_err-splices.ensures.0) c.in_ok-piece.ensures.rises;
    }

pub returns-clause-applied : goal.returns-clause-applied
returns-clause-applied g c q =
    record {
      report = record {
        kept_tail = λ f. refl;
        spliced = let t = piece_view q in let e = piece_view q in let b = (goal.at.returns-clause-applied g c).After-exchange_one-value in
            let ps = c.args.pages.now.items in
            let p = (here c.requires.at.place).0 in
            let j = c.args.j in
            let d : get_or ps j p ≡ p = sym (here c.requires.at.place).1 in
            ∥∥₁_elim c.requires.plain.paged.holds (hlevel props) (λ h.
            one_splices g.S.Steps.seen (g.S.Steps.fold c.args.steps.now) (g.S.Steps.seen c.args.state.now) ps c.exchange_one-value.new.pages.items j c.args.i c.args.cut c.args.k p (option_to_list c.args.put) (option_to_list c.in_ok-piece.piece)
            (record { from = c.args.k; cut = c.args.cut; put = length c.slice_of-more.result.now; closed = false }) _ _ (piece_view c.args.head.now) t e c.exchange_one-value.ensures.pages c.requires.at.place.page (here c.requires.at.place).1 (have g b h) c.requires.at.spot h
            refl (ap (λ (z : List Val). length z) c.slice_of-more.ensures ∙ sym (piece_count g b)) refl refl
            (subst (λ z. AreCut c.in_ok-splices.splices.out c.in_ok-splices.splices.err (piece_view c.args.head.now ∷ (all_pieces (take j ps) ++ take c.args.i (pieces_in z))) (take c.args.cut (drop c.args.i (pieces_in z))) (map piece_view (option_to_list c.in_ok-piece.piece))) d
            (subst₂ (λ (z : List _) (y : List _). AreCut c.in_ok-splices.splices.out c.in_ok-splices.splices.err (piece_view c.args.head.now ∷ (all_pieces (take j z) ++ take c.args.i (pieces_in (get_or z j p)))) (take c.args.cut (drop c.args.i (pieces_in (get_or z j p)))) (map piece_view y)) c.deref-2.ensures.value c.piece_slice.ensures (c.in_ok-splices.ensures p))));
      };
      resized = let b = (goal.at.returns-clause-applied g c).After-exchange_one-value in
          resized_installed c.args.pages.now.items c.exchange_one-value.new.pages.items c.args.j c.args.i c.args.cut (here c.requires.at.place).0 (option_to_list c.args.put) _ [] (as_installed c.args.pages.now.items c.exchange_one-value.new.pages.items c.args.j c.args.i c.args.cut (option_to_list c.args.put) (option_to_list c.in_ok-piece.piece) c.exchange_one-value.ensures.pages) c.requires.at.place.page (here c.requires.at.place).1 (place g b);
      taken = λ z n. c.exchange_one-value.ensures.back z n (c.in_ok-piece.ensures.none n);
      old_tail = refl;
    }
