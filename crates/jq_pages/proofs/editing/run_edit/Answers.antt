use Rattle.std.proofs.Common.{◌≡◌, ℕ, ◌+◌, ◌-◌, ◌≤◌, ◌++◌, List, length, length-drop, length-take, take_all, take, drop, map, min, Some, None, ap, ap₂, sym, ◌∙◌, subst, subst₂, arith}
use Rattle.jv_data.specs.View.{view}
use Rattle.jq_pages.specs.Folds.{Fold, Rises}
use Rattle.jq_pages.specs.private.Reruns.{IsRunOf, RunsOver, AtMeetings, MeetsAt, exit_of}
use Rattle.jq_pages.specs.private.Placed.{put_at}
use Rattle.jq_pages.proofs.editing.run_edit.Goals as goal
use Rattle.jq_pages.proofs.editing.run_edit.Goals.{In_ok-run}

all_left : {A : Type 0} (n : ℕ) (xs : List A) → length (drop n xs) ≤ length xs - n
all_left n xs = let e : length (drop n xs) ≡ length xs - n = length-drop n xs in omega arith

rest : {A : Type 0} (n : ℕ) (xs ys : List A) → xs ≡ ys → take (length xs - n) (drop n xs) ≡ drop n ys
rest n xs ys e = take_all (length xs - n) (drop n xs) (all_left n xs) ∙ ap (drop n) e

-- the run over the edited page
run : (g : _) (c : In_ok-run g) → IsRunOf g.S.Steps.seen (g.S.Steps.fold c.args.steps.now) (g.S.Steps.seen c.args.entry.now) (put_at c.args.page.now.inputs.items c.args.i c.args.put.now c.args.cut) c.in_ok-run.run'
run g c =
    subst₂ (λ (y : List _) (z : List _). IsRunOf g.S.Steps.seen (g.S.Steps.fold c.args.steps.now) (g.S.Steps.seen c.args.entry.now) ((map view (take c.args.i y) ++ map view c.args.put.now) ++ map view z) c.in_ok-run.run')
    c.deref.ensures.value (rest (c.args.i + c.args.cut) c.deref-2.result.now _ c.deref-2.ensures.value) c.in_ok-run.ensures.run

not_none : {A : Type 0} (x : A) → Some x ≡ None → ⊥
not_none x e = cc

pub returns-clause-made : goal.returns-clause-made
returns-clause-made g c =
    let same = c.in_ok-run.ensures.same in
    let first = c.in_ok-following.ensures in
    record {
      run = run g ((goal.at.returns-clause-made g c).In_ok-run);
      runs = subst (λ r. RunsOver g.S.Steps.seen r (g.S.Steps.seen c.in_ok-run.run'.exit) c.args.after.now c.in_ok-following.following.runs.items) same first.runs;
      fit = first.fit;
      met = λ n. absurd (not_none _ n);
      closed = (first.unmet c.if-following.false, c.in_ok-closing.ensures.piece ∙ ap₂ (λ r s. Fold.close r s) (first.same ∙ same) (c.exit_after.ensures ∙ ap (exit_of g.S.Steps.seen (g.S.Steps.seen c.in_ok-run.run'.exit)) c.deref-3.ensures.value));
      short = subst (λ r. AtMeetings g.S.Steps.seen r (g.S.Steps.seen c.in_ok-run.run'.exit) (g.S.Steps.seen c.args.page.now.exit) c.args.after.now (λ t. length c.in_ok-following.following.runs.items ≤ t)) same first.short;
    }

front : {A : Type 0} (i : ℕ) (xs : List A) → length (take i xs) ≤ i
front i xs = let e : length (take i xs) ≡ min i (length xs) = length-take i xs in omega arith

added : (a b d e i p n q m : ℕ) → p ≤ i → Rises a b (p + n + q) → Rises b d m → Rises d e 1 → Rises a e (((i + n) + q) + m + 1)
added a b d e i p n q m l x y z =
    let x0 : a ≤ b = x.low in
    let x1 : b ≤ a + (p + n + q) = x.high in
    let y0 : b ≤ d = y.low in
    let y1 : d ≤ b + m = y.high in
    let z0 : d ≤ e = z.low in
    let z1 : e ≤ d + 1 = z.high in
    record { low = omega arith; high = omega arith }

-- how often the run over the edited page starts the filter
page : (g : _) (c : In_ok-run g) → Rises (g.S.Steps.starts c.args.steps.now) (g.S.Steps.starts c.run_page.new.steps) (length (take c.args.i c.deref.result.now) + length c.args.put.now + length (drop (c.args.i + c.args.cut) c.args.page.now.inputs.items))
page g c = subst (λ (z : List _). Rises (g.S.Steps.starts c.args.steps.now) (g.S.Steps.starts c.run_page.new.steps) (length (take c.args.i c.deref.result.now) + length c.args.put.now + length z)) (rest (c.args.i + c.args.cut) c.deref-2.result.now _ c.deref-2.ensures.value) c.run_page.ensures.rises

pub returns-clause-starts : goal.returns-clause-starts
returns-clause-starts g c =
    let b = (goal.at.returns-clause-starts g c).In_ok-run in
    record {
      rises = added _ _ _ _ _ _ _ _ _ (front c.args.i c.deref.result.now) (page g b) c.follow.ensures.rises c.close.ensures.rises;
      rises_to = λ t l m. added _ _ _ _ _ _ _ _ _ (front c.args.i c.deref.result.now) (page g b) (c.follow.ensures.rises_to t l (subst₂ (λ r s. MeetsAt g.S.Steps.seen r s (g.S.Steps.seen c.args.page.now.exit) c.args.after.now t) (sym c.in_ok-run.ensures.same) (sym ((run g b).exit)) m)) c.close.ensures.rises;
    }
