use Rattle.std.proofs.Common.{◌≡◌, ℕ, ◌+◌, ◌-◌, ◌/◌, ◌<◌, ◌≤◌, ◌∷◌, ◌++◌, List, length, length-drop, take, drop, map, ap, ap₂, sym, ◌∙◌, subst, subst₂, arith, None, IfSome, IsSome, IsTrue, IsFalse, Bool, true, false, Option, Some, Result, MatchOption, ◌↔◌, refl}
use Rattle.std.proofs.Math.Logic.{∥∥₁_elim, ∥∥₁_map}
use Rattle.std.proofs.Props.{props}
use Rattle.std.specs.List.{replace_range}
use Rattle.std.specs.Option.{option_to_list}
use Rattle.jv_data.specs.View.{view}
use Rattle.jq_pages.specs.Pieces.{piece_view}
use Rattle.jq_pages.specs.Folds.{Fold, Rises, state_after}
use Rattle.jq_pages.specs.private.Reruns.{IsRunOf, RunsOver, MeetsAt, Holds, count_in, kept_of, exit_of}
use Rattle.jq_pages.specs.private.Groups.{IsFew, IsIndex, IsIndexBut, group_pages}
use Rattle.jq_pages.specs.private.Pages.{all_inputs, all_pieces, IsSized, IsHeld}
use Rattle.jq_pages.specs.private.Placed.{put_at}
use Rattle.jq_pages.specs.private.Edits.{IsPagesEdit, Meets}
use Rattle.jq_pages.specs.declared.changes.Change.{Change}
use Rattle.jq_pages.specs.declared.page.Page.{Page}
use Rattle.jq_pages.specs.declared.pieces.Piece.{Piece}
use Rattle.jv_data.specs.declared.values.Val.{Val}
use Rattle.jq_pages.proofs.Moves.{changed_in_err, resized_installed}
use Rattle.jq_pages.proofs.Applied.{end_near, rises_near, far_near, rises_end, done_holds, done_inputs, done_sized, done_tail, done_stop, done_change, err_edit, ok_edit, old_count, sized_at, far_of}
use Rattle.jq_pages.specs.private.Cuts.{AreCut, closing_if, made_pieces}
use Rattle.jq_pages.proofs.Cuts.{done_splices}
use Rattle.jq_pages.proofs.Edits.{pieces_length}
use Rattle.jq_pages.proofs.Filled.{installed_but, installed_length}
use Rattle.jq_pages.proofs.Groups.{few_group, index_installed}
use Rattle.jq_pages.proofs.Public.{on_err}
use Rattle.jq_pages.proofs.Reruns.{count_part}
use Rattle.jq_pages.proofs.applying.edit_pages.Goals as goal
use Rattle.jq_pages.proofs.applying.edit_pages.Goals.{After-run_edit, After-deref-6}

place : (g : _) (c : After-run_edit g) → c.args.i + c.args.cut ≤ length c.index-page.result.now.inputs.items
place g c = subst (λ z. c.args.i + c.args.cut ≤ length z.inputs.items) (sym c.index-page.ensures) (c.requires.at.place.place c.index-page.result.now)

fits : (g : _) (c : After-run_edit g) → length c.index-page.result.now.inputs.items + length (option_to_list c.args.put) ≤ 64 + c.args.cut
fits g c = subst (λ z. length z.inputs.items + length (option_to_list c.args.put) ≤ 64 + c.args.cut) (sym c.index-page.ensures) (c.requires.at.place.fits c.index-page.result.now)

entry : (g : _) (c : After-run_edit g) → g.S.Steps.seen c.kept_after-entry.result.now ≡ kept_of g.S.Steps.seen (g.S.Steps.seen c.args.first.now) (take c.args.j c.args.pages.now.items)
entry g c = c.kept_after-entry.ensures ∙ ap (λ z. kept_of g.S.Steps.seen (g.S.Steps.seen c.args.first.now) (take c.args.j z)) c.deref.ensures.value

after : (g : _) (c : After-run_edit g) → c.pages_after-after.result.now ≡ drop (c.args.j + 1) c.args.pages.now.items
after g c = c.pages_after-after.ensures ∙ ap (drop (c.args.j + 1)) c.deref-2.ensures.value

to : (g : _) (c : After-run_edit g) → (t : ℕ) → t ≤ length (drop (c.args.j + 1) c.args.pages.now.items) → MeetsAt g.S.Steps.seen (g.S.Steps.fold c.args.steps.now) (state_after (g.S.Steps.fold c.args.steps.now) (g.S.Steps.seen c.kept_after-entry.result.now) (put_at c.index-page.result.now.inputs.items c.args.i (option_to_list c.args.put) c.args.cut)) (g.S.Steps.seen c.index-page.result.now.exit) (drop (c.args.j + 1) c.args.pages.now.items) t → Rises (g.S.Steps.starts c.args.steps.now) (g.S.Steps.starts c.run_edit.new.steps) (((c.args.i + length (option_to_list c.args.put)) + length (drop (c.args.i + c.args.cut) c.index-page.result.now.inputs.items)) + count_in (take t (drop (c.args.j + 1) c.args.pages.now.items)) + 1)
to g c =
    subst₂ (λ (n : List Val) ps. (t : ℕ) → t ≤ length ps → MeetsAt g.S.Steps.seen (g.S.Steps.fold c.args.steps.now) (state_after (g.S.Steps.fold c.args.steps.now) (g.S.Steps.seen c.kept_after-entry.result.now) (put_at c.index-page.result.now.inputs.items c.args.i n c.args.cut)) (g.S.Steps.seen c.index-page.result.now.exit) ps t → Rises (g.S.Steps.starts c.args.steps.now) (g.S.Steps.starts c.run_edit.new.steps) (((c.args.i + length n) + length (drop (c.args.i + c.args.cut) c.index-page.result.now.inputs.items)) + count_in (take t ps) + 1))
    c.slice_of-new.ensures (after g c) c.run_edit.ensures.starts.rises_to

all : (g : _) (c : After-run_edit g) → Rises (g.S.Steps.starts c.args.steps.now) (g.S.Steps.starts c.run_edit.new.steps) (((c.args.i + length (option_to_list c.args.put)) + length (drop (c.args.i + c.args.cut) c.index-page.result.now.inputs.items)) + count_in (drop (c.args.j + 1) c.args.pages.now.items) + 1)
all g c =
    subst₂ (λ (n : List Val) ps. Rises (g.S.Steps.starts c.args.steps.now) (g.S.Steps.starts c.run_edit.new.steps) (((c.args.i + length n) + length (drop (c.args.i + c.args.cut) c.index-page.result.now.inputs.items)) + count_in ps + 1))
    c.slice_of-new.ensures (after g c) c.run_edit.ensures.starts.rises

near : (g : _) (c : After-run_edit g) → Holds g.S.Steps.seen (g.S.Steps.fold c.args.steps.now) (g.S.Steps.seen c.args.first.now) c.args.pages.now.items → IsSized c.args.pages.now.items → (q : ℕ) → Meets (g.S.Steps.fold c.args.steps.now) (g.S.Steps.seen c.args.first.now) (all_inputs c.args.pages.now.items) (replace_range (all_inputs c.args.pages.now.items) (count_in (take c.args.j c.args.pages.now.items) + c.args.i) ((count_in (take c.args.j c.args.pages.now.items) + c.args.i) + c.args.cut) (map view (option_to_list c.args.put))) (count_in (take c.args.j c.args.pages.now.items) + c.args.i) (length (option_to_list c.args.put)) c.args.cut q → Rises (g.S.Steps.starts c.args.steps.now) (g.S.Steps.starts c.run_edit.new.steps) ((q - (count_in (take c.args.j c.args.pages.now.items) + c.args.i)) + c.args.i + 65)
near g c h z q m =
    rises_near g.S.Steps.seen (g.S.Steps.fold c.args.steps.now) (g.S.Steps.seen c.args.first.now) (g.S.Steps.seen c.kept_after-entry.result.now) c.args.pages.now.items c.args.j c.args.i c.args.cut c.index-page.result.now (option_to_list c.args.put) q _ _ (place g c)
    (end_near g.S.Steps.seen (g.S.Steps.fold c.args.steps.now) (g.S.Steps.seen c.args.first.now) (g.S.Steps.seen c.kept_after-entry.result.now) c.args.pages.now.items c.args.j c.args.i c.args.cut c.index-page.result.now (option_to_list c.args.put) q c.requires.at.place.page c.index-page.ensures (place g c) (fits g c) h z (entry g c) m)
    (to g c)

-- an edit at the same place of the list
at_place : {T S E : Type 0} (seen : T → S) (r : Fold S) (s : S) (old new : List (Page T)) (n k : ℕ) (put : List Val) (cut i before after : ℕ) (result : Result Change E) → n ≡ k → ∥ IsPagesEdit seen r s old new n put cut i before after result ∥₁ → ∥ IsPagesEdit seen r s old new k put cut i before after result ∥₁
at_place seen r s old new n k put cut i before after result e x = subst (λ z. ∥ IsPagesEdit seen r s old new z put cut i before after result ∥₁) e x

pub returns-in_err-made-clause-edits : goal.returns-in_err-made-clause-edits
returns-in_err-made-clause-edits g c =
    let r = g.S.Steps.fold c.args.steps.now in
    let s = g.S.Steps.seen c.args.first.now in
    let e = g.S.Steps.seen c.kept_after-entry.result.now in
    let ps = c.args.pages.now.items in
    let j = c.args.j in
    let i = c.args.i in
    let cut = c.args.cut in
    let put = option_to_list c.args.put in
    let page = c.index-page.result.now in
    let later = c.pages_after-after.ensures ∙ ap (drop (j + 1)) c.deref-2.ensures.value in
    let place' = subst (λ z. i + cut ≤ length z.inputs.items) (sym c.index-page.ensures) (c.requires.at.place.place page) in
    let fits' = subst (λ z. length z.inputs.items + length put ≤ 64 + cut) (sym c.index-page.ensures) (c.requires.at.place.fits page) in
    let entry' = c.kept_after-entry.ensures ∙ ap (λ z. kept_of g.S.Steps.seen s (take j z)) c.deref.ensures.value in
    let to' =
    subst₂ (λ (n : List Val) ps. (t : ℕ) → t ≤ length ps → MeetsAt g.S.Steps.seen r (state_after r e (put_at page.inputs.items i n cut)) (g.S.Steps.seen page.exit) ps t → Rises (g.S.Steps.starts c.args.steps.now) (g.S.Steps.starts c.run_edit.new.steps) (((i + length n) + length (drop (i + cut) page.inputs.items)) + count_in (take t ps) + 1))
    c.slice_of-new.ensures later c.run_edit.ensures.starts.rises_to in
    let all' =
    subst₂ (λ (n : List Val) ps. Rises (g.S.Steps.starts c.args.steps.now) (g.S.Steps.starts c.run_edit.new.steps) (((i + length n) + length (drop (i + cut) page.inputs.items)) + count_in ps + 1))
    c.slice_of-new.ensures later c.run_edit.ensures.starts.rises in
    at_place g.S.Steps.seen (g.S.Steps.fold c.args.steps.now) (g.S.Steps.seen c.args.first.now) c.args.pages.now.items c.args.pages.now.items _ _ (option_to_list c.args.put) c.args.cut c.args.i _ _ _ c.requires.at.spot
    (∥∥₁_map c.requires.held (λ h.
    err_edit _ _ _ _ _ _ _ _ _ _ _ _ (changed_in_err _ c.from_residual.ensures.0)
    (λ q m. rises_near g.S.Steps.seen r s e ps j i cut page put q _ _ place' (end_near g.S.Steps.seen r s e ps j i cut page put q c.requires.at.place.page c.index-page.ensures place' fits' h.holds h.sized entry' m) to')
    (rises_end g.S.Steps.seen ps j i cut page put _ _ c.requires.at.place.page c.index-page.ensures place' all')))

run : (g : _) (c : After-deref-6 g) → IsRunOf g.S.Steps.seen (g.S.Steps.fold c.args.steps.now) (g.S.Steps.seen c.kept_after-entry.result.now) (put_at c.index-page.result.now.inputs.items c.args.i (option_to_list c.args.put) c.args.cut) c.in_ok-made.made.run
run g c = subst (λ (n : List Val). IsRunOf g.S.Steps.seen (g.S.Steps.fold c.args.steps.now) (g.S.Steps.seen c.kept_after-entry.result.now) (put_at c.index-page.result.now.inputs.items c.args.i n c.args.cut) c.in_ok-made.made.run) c.slice_of-new.ensures c.in_ok-made.ensures.made.run

later : (g : _) (c : After-deref-6 g) → c.pages_after-after.result.now ≡ drop (c.args.j + 1) c.args.pages.now.items
later g c = c.pages_after-after.ensures ∙ ap (drop (c.args.j + 1)) c.deref-2.ensures.value

over : (g : _) (c : After-deref-6 g) → RunsOver g.S.Steps.seen (g.S.Steps.fold c.args.steps.now) (g.S.Steps.seen c.in_ok-made.made.run.exit) (drop (c.args.j + 1) c.args.pages.now.items) c.in_ok-made.made.runs.items
over g c = subst (λ z. RunsOver g.S.Steps.seen (g.S.Steps.fold c.args.steps.now) (g.S.Steps.seen c.in_ok-made.made.run.exit) z c.in_ok-made.made.runs.items) (later g c) c.in_ok-made.ensures.made.runs

fit : (g : _) (c : After-deref-6 g) → length c.in_ok-made.made.runs.items ≤ length (drop (c.args.j + 1) c.args.pages.now.items)
fit g c = subst (λ (z : List _). length c.in_ok-made.made.runs.items ≤ length z) (later g c) c.in_ok-made.ensures.made.fit

met : (g : _) (c : After-deref-6 g) → c.in_ok-made.made.tail ≡ None → exit_of g.S.Steps.seen (g.S.Steps.seen c.in_ok-made.made.run.exit) c.in_ok-made.made.runs.items ≡ kept_of g.S.Steps.seen (g.S.Steps.seen c.index-page.result.now.exit) (take (length c.in_ok-made.made.runs.items) (drop (c.args.j + 1) c.args.pages.now.items))
met g c n = c.in_ok-made.ensures.made.met n ∙ ap (λ z. kept_of g.S.Steps.seen (g.S.Steps.seen c.index-page.result.now.exit) (take (length c.in_ok-made.made.runs.items) z)) (later g c)

closed : (g : _) (c : After-deref-6 g) → IfSome c.in_ok-made.made.tail (λ t. (length c.in_ok-made.made.runs.items ≡ length (drop (c.args.j + 1) c.args.pages.now.items)) × (piece_view t ≡ Fold.close (g.S.Steps.fold c.args.steps.now) (exit_of g.S.Steps.seen (g.S.Steps.seen c.in_ok-made.made.run.exit) c.in_ok-made.made.runs.items)))
closed g c = subst (λ (z : List _). IfSome c.in_ok-made.made.tail (λ t. (length c.in_ok-made.made.runs.items ≡ length z) × (piece_view t ≡ Fold.close (g.S.Steps.fold c.args.steps.now) (exit_of g.S.Steps.seen (g.S.Steps.seen c.in_ok-made.made.run.exit) c.in_ok-made.made.runs.items)))) (later g c) c.in_ok-made.ensures.made.closed

kept : (g : _) (c : After-deref-6 g) → Holds g.S.Steps.seen (g.S.Steps.fold c.args.steps.now) (g.S.Steps.seen c.args.first.now) c.args.pages.now.items → Holds g.S.Steps.seen (g.S.Steps.fold c.args.steps.now) (g.S.Steps.seen c.args.first.now) c.exchange-value.new.pages.items
kept g c h =
    done_holds g.S.Steps.seen _ _ _ c.args.pages.now.items c.exchange-value.new.pages.items c.args.j c.args.i c.args.cut c.index-page.result.now (option_to_list c.args.put) c.in_ok-made.made.run c.in_ok-made.made.runs.items c.exchange-value.ensures.pages c.requires.at.place.page c.index-page.ensures h (entry g ((goal.at.sum_again-requires-clause-others g c).After-run_edit)) (run g c) (over g c)
    (done_stop c.in_ok-made.made.tail _ _ _ _ _ (met g c) (closed g c))

abbrev start : (g : _) (c : After-deref-6 g) → After-run_edit g
start g c = (goal.at.sum_again-requires-clause-others g c).After-run_edit

-- the number of inputs of each page
sized : (g : _) (c : After-deref-6 g) → IsSized c.args.pages.now.items → IsSized c.exchange-value.new.pages.items
sized g c z = done_sized c.args.pages.now.items c.exchange-value.new.pages.items c.args.j c.args.i c.args.cut c.index-page.result.now (option_to_list c.args.put) c.in_ok-made.made.run c.in_ok-made.made.runs.items c.exchange-value.ensures.pages c.requires.at.place.page c.index-page.ensures (place g (start g c)) (fits g (start g c)) z

pub sum_again-requires-clause-others : goal.sum_again-requires-clause-others
sum_again-requires-clause-others g c =
    subst₂ (λ (z : List _) n. IsIndexBut c.args.groups.now.items z (c.args.j / 128) ((c.args.j + n) / 128 + 1)) (sym c.deref-6.ensures.value) (sym (c.len.ensures ∙ c.in_ok-made.made.runs.ok.0))
    (index_installed c.args.groups.now.items c.args.pages.now.items c.exchange-value.new.pages.items c.args.j c.args.i (option_to_list c.args.put) c.args.cut c.in_ok-made.made.run c.in_ok-made.made.runs.items c.exchange-value.ensures.pages c.requires.at.place.page c.requires.summed.index)

pub sum_again-requires-clause-few : goal.sum_again-requires-clause-few
sum_again-requires-clause-few g c =
    subst (λ (z : List _). (n : ℕ) → IsFew (group_pages n z)) (sym c.deref-6.ensures.value)
    (∥∥₁_elim c.requires.held (hlevel props) (λ h. few_group g.S.Steps.seen (g.S.Steps.fold c.args.steps.now) (g.S.Steps.seen c.args.first.now) c.exchange-value.new.pages.items (kept g c h.holds) (sized g c h.sized)))

pub returns-clause-kept : goal.returns-clause-kept
returns-clause-kept g d =
    record {
      same = d.run_edit.ensures.same;
      held = let c = (goal.at.returns-clause-kept g d).After-deref-6 in
          ∥∥₁_map c.requires.held (λ h.
          subst (λ z. IsHeld g.S.Steps.seen z (g.S.Steps.seen c.args.first.now) c.exchange-value.new.pages.items c.exchange-value.new.tail) (sym c.in_ok-made.ensures.same) (record {
            holds = kept g c h.holds;
            sized = sized g c h.sized;
            tail = done_tail g.S.Steps.seen (g.S.Steps.fold c.args.steps.now) (g.S.Steps.seen c.args.first.now) c.args.pages.now.items c.exchange-value.new.pages.items c.args.j c.args.i c.args.cut c.index-page.result.now (option_to_list c.args.put) c.in_ok-made.made.run c.in_ok-made.made.runs.items c.exchange-value.ensures.pages c.in_ok-made.made.tail c.args.tail.now c.exchange-value.new.tail c.requires.at.place.page c.index-page.ensures (fit g c) (met g c) (closed g c) c.exchange-value.ensures.swapped.new_tail h.tail;
          }));
      index = subst (λ (z : List _). IsIndex d.sum_again.new.groups.items z) d.deref-6.ensures.value d.sum_again.ensures;
    }

from_is : (a i k : ℕ) → a + i ≡ k → k - i ≡ a
from_is a i k e = omega arith

before : (g : _) (c : After-deref-6 g) → (c.args.k - c.args.i) ≡ count_in (take c.args.j c.args.pages.now.items)
before g c = from_is _ _ _ c.requires.at.spot

one_on : (j n : ℕ) → (j + n) + 1 ≡ (j + 1) + n
one_on j n = omega arith

total : (g : _) (c : After-deref-6 g) → (c.args.k - c.args.i) + c.measure-old.result ≡ count_in (take ((c.args.j + 1) + length c.in_ok-made.made.runs.items) c.args.pages.now.items)
total g c = ap (λ n. n + c.measure-old.result) (before g c ∙ ap (λ z. count_in (take c.args.j z)) (sym c.deref-3.ensures.value)) ∙ c.measure-old.ensures ∙ ap₂ (λ n z. count_in (take ((c.args.j + n) + 1) z)) (c.len.ensures ∙ c.in_ok-made.made.runs.ok.0) c.deref-3.ensures.value ∙ ap (λ n. count_in (take n c.args.pages.now.items)) (one_on c.args.j (length c.in_ok-made.made.runs.items))

short : (g : _) (c : After-deref-6 g) → (t : ℕ) → t ≤ length (drop (c.args.j + 1) c.args.pages.now.items) → MeetsAt g.S.Steps.seen (g.S.Steps.fold c.args.steps.now) (state_after (g.S.Steps.fold c.args.steps.now) (g.S.Steps.seen c.kept_after-entry.result.now) (put_at c.index-page.result.now.inputs.items c.args.i (option_to_list c.args.put) c.args.cut)) (g.S.Steps.seen c.index-page.result.now.exit) (drop (c.args.j + 1) c.args.pages.now.items) t → length c.in_ok-made.made.runs.items ≤ t
short g c =
    subst₂ (λ e ps. (t : ℕ) → t ≤ length ps → MeetsAt g.S.Steps.seen (g.S.Steps.fold c.args.steps.now) e (g.S.Steps.seen c.index-page.result.now.exit) ps t → length c.in_ok-made.made.runs.items ≤ t)
    ((run g c).exit) (later g c) c.in_ok-made.ensures.made.short

at_most : (a b n m : ℕ) → a + b ≡ n → n ≤ m → b ≤ m
at_most a b n m e l = omega arith

past : (p put q : ℕ) → p + put ≤ q → p ≤ q
past p put q l = omega arith

-- the numbers of the change
old_is : (g : _) (c : After-deref-6 g) → c.measure-old.result ≡ length c.index-page.result.now.inputs.items + count_in (take (length c.in_ok-made.made.runs.items) (drop (c.args.j + 1) c.args.pages.now.items))
old_is g c = old_count c.args.pages.now.items c.args.j (length c.in_ok-made.made.runs.items) c.index-page.result.now (c.args.k - c.args.i) c.measure-old.result c.requires.at.place.page c.index-page.ensures (before g c) (total g c)

few : (g : _) (c : After-deref-6 g) → c.measure-old.result ≤ count_in c.args.pages.now.items
few g c =
    let t : (c.args.k - c.args.i) + c.measure-old.result ≡ count_in (take ((c.args.j + 1) + length c.in_ok-made.made.runs.items) c.args.pages.now.items) = total g c in
    let k : count_in (take ((c.args.j + 1) + length c.in_ok-made.made.runs.items) c.args.pages.now.items) ≤ count_in c.args.pages.now.items = count_part c.args.pages.now.items ((c.args.j + 1) + length c.in_ok-made.made.runs.items) in
    at_most (c.args.k - c.args.i) _ _ _ t k

cut_within : (i cut n k old more : ℕ) → i + cut ≤ n → old ≡ n + k → cut ≤ old + more
cut_within i cut n k old more a b = omega arith

pub overflow_sub-edited-2 : goal.overflow_sub-edited-2
overflow_sub-edited-2 g d =
    let c = (goal.at.overflow_sub-edited-2 g d).After-deref-6 in cut_within _ _ _ _ _ _ (place g (start g c)) (old_is g c)

pub overflow_add-edited : goal.overflow_add-edited
overflow_add-edited g d =
    let c = (goal.at.overflow_add-edited g d).After-deref-6 in
    let f : c.measure-old.result ≤ count_in c.args.pages.now.items = few g c in
    let p : length c.index-page.result.now.inputs.items + length (option_to_list c.args.put) ≤ 64 + c.args.cut = fits g (start g c) in
    let n : length c.slice_of-new.result.now ≡ length (option_to_list c.args.put) = ap (λ (z : List Val). length z) c.slice_of-new.ensures in
    omega (arith, f, p, n, c.requires.summed.few, c.requires.at.place.one)

closes : (g : _) (c : After-deref-6 g) → IsTrue c.is_closed-closed.result ↔ IsSome c.in_ok-made.made.tail
closes g c = c.is_closed-closed.ensures

pub returns-clause-edits : goal.returns-clause-edits
returns-clause-edits g d =
    let c = (goal.at.returns-clause-edits g d).After-deref-6 in
    let b = start g c in
    at_place g.S.Steps.seen (g.S.Steps.fold c.args.steps.now) (g.S.Steps.seen c.args.first.now) c.args.pages.now.items c.exchange-value.new.pages.items _ _ (option_to_list c.args.put) c.args.cut c.args.i _ _ _ c.requires.at.spot
    (∥∥₁_map c.requires.held (λ h. let z = h.sized in
    ok_edit _ _ _ _ _ _ _ _ _ _ _ _ _ _
    (done_inputs c.args.pages.now.items c.exchange-value.new.pages.items c.args.j c.args.i c.args.cut c.index-page.result.now (option_to_list c.args.put) c.in_ok-made.made.run c.in_ok-made.made.runs.items c.exchange-value.ensures.pages c.requires.at.place.page c.index-page.ensures (place g b))
    (done_change g.S.Steps.seen (g.S.Steps.fold c.args.steps.now) (g.S.Steps.seen c.args.first.now) c.args.pages.now.items c.exchange-value.new.pages.items c.args.j c.args.i c.args.cut c.index-page.result.now (option_to_list c.args.put) c.in_ok-made.made.run c.in_ok-made.made.runs.items c.exchange-value.ensures.pages c.in_ok-made.made.tail _ _ c.requires.at.place.page c.index-page.ensures (place g b) (fits g b) (sized_at c.args.pages.now.items c.args.j c.index-page.result.now c.requires.at.place.page c.index-page.ensures z) h.holds (kept g c h.holds) (fit g c) (closed g c) ((closes g c).0) (before g c) (total g c) (ap (λ (n : List Val). (c.measure-old.result + length n) - c.args.cut) c.slice_of-new.ensures))
    (λ q m. far_of c.args.pages.now.items c.args.j c.args.i c.args.cut c.index-page.result.now (option_to_list c.args.put) (length c.in_ok-made.made.runs.items) q (c.args.k - c.args.i) c.measure-old.result _ (before g c) (old_is g c) (place g b) (ap (λ (n : List Val). (c.measure-old.result + length n) - c.args.cut) c.slice_of-new.ensures)
    (far_near g.S.Steps.seen (g.S.Steps.fold c.args.steps.now) (g.S.Steps.seen c.args.first.now) (g.S.Steps.seen c.kept_after-entry.result.now) c.args.pages.now.items c.args.j c.args.i c.args.cut c.index-page.result.now (option_to_list c.args.put) q (length c.in_ok-made.made.runs.items) (past _ _ _ m.after)
    (end_near g.S.Steps.seen (g.S.Steps.fold c.args.steps.now) (g.S.Steps.seen c.args.first.now) (g.S.Steps.seen c.kept_after-entry.result.now) c.args.pages.now.items c.args.j c.args.i c.args.cut c.index-page.result.now (option_to_list c.args.put) q c.requires.at.place.page c.index-page.ensures (place g b) (fits g b) h.holds z (entry g b) m)
    (short g c)))
    (near g b h.holds z)
    (rises_end g.S.Steps.seen c.args.pages.now.items c.args.j c.args.i c.args.cut c.index-page.result.now (option_to_list c.args.put) _ _ c.requires.at.place.page c.index-page.ensures (place g b) (all g b))))

few_pieces : (g : _) (c : After-run_edit g) → length (all_pieces c.args.pages.now.items) < 4294967296
few_pieces g c =
    ∥∥₁_elim c.requires.held (hlevel props) (λ h.
    let n : length (all_pieces c.args.pages.now.items) ≡ count_in c.args.pages.now.items = pieces_length g.S.Steps.seen (g.S.Steps.fold c.args.steps.now) (g.S.Steps.seen c.args.first.now) c.args.pages.now.items h.holds in
    omega (arith, n, c.requires.summed.few))

pub splices_made-requires-clause-few : goal.splices_made-requires-clause-few
splices_made-requires-clause-few g c =
    let b = (goal.at.splices_made-requires-clause-few g c).After-run_edit in
    subst (λ (z : List _). length (all_pieces z) < 4294967296) (sym c.deref-5.ensures.value) (few_pieces g b)

pub splices_made-requires-clause-page : goal.splices_made-requires-clause-page
splices_made-requires-clause-page g c =
    let d : length (drop (c.args.j + 1) c.args.pages.now.items) ≡ length c.args.pages.now.items - (c.args.j + 1) = length-drop (c.args.j + 1) c.args.pages.now.items in
    let e : length c.pages_after-after.result.now ≡ length (drop (c.args.j + 1) c.args.pages.now.items) = ap (λ (z : List _). length z) (c.pages_after-after.ensures ∙ ap (drop (c.args.j + 1)) c.deref-2.ensures.value) in
    let f : length c.in_ok-made.made.runs.items ≤ length c.pages_after-after.result.now = c.in_ok-made.ensures.made.fit in
    let l : c.args.j < length c.args.pages.now.items = c.requires.at.place.page in
    let n : length c.deref-5.result.now ≡ length c.args.pages.now.items = ap (λ (z : List _). length z) c.deref-5.ensures.value in
    omega arith

-- the splices, by the pages before the edit
cuts : (g : _) (c : After-deref-6 g) → AreCut c.in_ok-splices.splices.out c.in_ok-splices.splices.err (piece_view c.args.head.now ∷ all_pieces (take c.args.j c.args.pages.now.items)) (all_pieces (take (1 + length c.in_ok-made.made.runs.items) (drop c.args.j c.args.pages.now.items)) ++ closing_if c.in_ok-made.made.tail (piece_view c.args.tail.now)) (made_pieces c.in_ok-made.made)
cuts g c =
    subst (λ (z : List _). AreCut c.in_ok-splices.splices.out c.in_ok-splices.splices.err (piece_view c.args.head.now ∷ all_pieces (take c.args.j z)) (all_pieces (take (1 + length c.in_ok-made.made.runs.items) (drop c.args.j z)) ++ closing_if c.in_ok-made.made.tail (piece_view c.args.tail.now)) (made_pieces c.in_ok-made.made))
    c.deref-5.ensures.value c.in_ok-splices.ensures

pub returns-in_err-splices-clause-edits : goal.returns-in_err-splices-clause-edits
returns-in_err-splices-clause-edits g c =
    let b = (goal.at.returns-in_err-splices-clause-edits g c).After-run_edit in
    at_place g.S.Steps.seen (g.S.Steps.fold c.args.steps.now) (g.S.Steps.seen c.args.first.now) c.args.pages.now.items c.args.pages.now.items _ _ (option_to_list c.args.put) c.args.cut c.args.i _ _ _ c.requires.at.spot
    (∥∥₁_map c.requires.held (λ h. let z = h.sized in
    err_edit _ _ _ _ _ _ _ _ _ _ _ _ (changed_in_err _ c.from_residual-in_err-splices.ensures.0) (near g b h.holds z)
    (rises_end g.S.Steps.seen c.args.pages.now.items c.args.j c.args.i c.args.cut c.index-page.result.now (option_to_list c.args.put) _ _ c.requires.at.place.page c.index-page.ensures (place g b) (all g b))))

pub returns-clause-pages : goal.returns-clause-pages
returns-clause-pages g c =
    record {
      count = installed_length c.args.pages.now.items c.exchange-value.new.pages.items c.args.j c.args.i (option_to_list c.args.put) c.args.cut c.in_ok-made.made.run c.in_ok-made.made.runs.items c.exchange-value.ensures.pages c.requires.at.place.page;
      filled = λ h. installed_but c.args.pages.now.items c.exchange-value.new.pages.items c.args.j c.args.i (option_to_list c.args.put) c.args.cut c.in_ok-made.made.run c.in_ok-made.made.runs.items c.exchange-value.ensures.pages c.requires.at.place.page h;
    }

never : (b : Bool) → IsTrue b → IsFalse b → ⊥
never true t f = cc
never false t f = cc

-- the piece of `close` if it was not run again
tail_stays : (b : Bool) (o : Option Piece) (old new : Piece) → IsTrue b ↔ IsSome o → MatchOption o (new ≡ old) (λ p. new ≡ p) → IsFalse b → new ≡ old
tail_stays b None old new e m f = m
tail_stays b (Some p) old new e m f = absurd (never b (e.1 refl) f)

pub returns-clause-applied : goal.returns-clause-applied
returns-clause-applied g d =
    let c = (goal.at.returns-clause-applied g d).After-deref-6 in
    record {
      report = record {
        kept_tail = tail_stays c.is_closed-closed.result c.in_ok-made.made.tail c.args.tail.now c.exchange-value.new.tail (closes g c) c.exchange-value.ensures.swapped.new_tail;
        spliced = let c = (goal.at.returns-clause-applied g d).After-deref-6 in
            let b = start g c in
            ∥∥₁_elim c.requires.held (hlevel props) (λ h.
            done_splices g.S.Steps.seen (g.S.Steps.fold c.args.steps.now) (g.S.Steps.seen c.args.first.now) c.args.pages.now.items c.exchange-value.new.pages.items c.args.j c.args.i c.args.cut c.index-page.result.now (option_to_list c.args.put) c.in_ok-made.made.run c.in_ok-made.made.runs.items c.exchange-value.ensures.pages c.in_ok-made.made.tail
            _ _ _ (piece_view c.args.head.now) c.args.tail.now c.exchange-value.new.tail c.requires.at.place.page c.index-page.ensures (place g b) h.holds (kept g c h.holds) (fit g c) (before g c) (total g c) (ap (λ (n : List Val). (c.measure-old.result + length n) - c.args.cut) c.slice_of-new.ensures)
            (closes g c) c.exchange-value.ensures.swapped.new_tail (cuts g c));
      };
      resized = let c = (goal.at.returns-clause-applied g d).After-deref-6 in
          resized_installed c.args.pages.now.items c.exchange-value.new.pages.items c.args.j c.args.i c.args.cut c.index-page.result.now (option_to_list c.args.put) c.in_ok-made.made.run c.in_ok-made.made.runs.items c.exchange-value.ensures.pages c.requires.at.place.page c.index-page.ensures (place g (start g c));
      taken = c.exchange-value.ensures.back;
      old_tail = c.exchange-value.ensures.swapped.old_tail;
    }

pub returns-in_err-made-clause-unchanged : goal.returns-in_err-made-clause-unchanged
returns-in_err-made-clause-unchanged g c = on_err c.from_residual.result (refl, refl)

pub returns-in_err-made-clause-pages : goal.returns-in_err-made-clause-pages
returns-in_err-made-clause-pages g c = record { count = refl; filled = λ h. h }

pub returns-in_err-made-clause-kept : goal.returns-in_err-made-clause-kept
returns-in_err-made-clause-kept g c = record {
  same = c.run_edit.ensures.same;
  held = subst (λ z. ∥ IsHeld g.S.Steps.seen z (g.S.Steps.seen c.args.first.now) c.args.pages.now.items c.args.tail.now ∥₁) (sym c.run_edit.ensures.same) c.requires.held;
  index = c.requires.summed.index;
}

pub returns-in_err-splices-clause-unchanged : goal.returns-in_err-splices-clause-unchanged
returns-in_err-splices-clause-unchanged g c = on_err c.from_residual-in_err-splices.result (refl, refl)

pub returns-in_err-splices-clause-pages : goal.returns-in_err-splices-clause-pages
returns-in_err-splices-clause-pages g c = record { count = refl; filled = λ h. h }

pub returns-in_err-splices-clause-kept : goal.returns-in_err-splices-clause-kept
returns-in_err-splices-clause-kept g c = record {
  same = c.run_edit.ensures.same;
  held = subst (λ z. ∥ IsHeld g.S.Steps.seen z (g.S.Steps.seen c.args.first.now) c.args.pages.now.items c.args.tail.now ∥₁) (sym c.run_edit.ensures.same) c.requires.held;
  index = c.requires.summed.index;
}
