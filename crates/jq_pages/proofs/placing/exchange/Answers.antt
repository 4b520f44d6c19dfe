use Rattle.std.proofs.Common.{◌≡◌, ℕ, ◌+◌, ◌-◌, ◌≤◌, ◌<◌, ◌++◌, List, length, length-drop, length-take-le, get_or, take, drop, arith, ap, ◌∙◌, sym, map, subst}
use Rattle.std.proofs.lemmas.List.{drop-set-lt}
use Rattle.std.specs.Option.{option_to_list}
use Rattle.std.specs.Prelude.{vec_capacity}
use Rattle.jq_pages.specs.declared.page.Page.{Page}
use Rattle.jv_data.specs.View.{view}
use Rattle.jq_pages.specs.private.Placed.{put_at}
use Rattle.jq_pages.specs.private.Reruns.{run_in}
use Rattle.jq_pages.proofs.Edits.{map_length, same_default, mapped_edit, set_and_renewed}
use Rattle.jq_pages.proofs.Filled.{installed_length}
use Rattle.jq_pages.proofs.Moves.{placed_there, put_back_is, put_there, runs_back, runs_put}
use Rattle.jq_pages.proofs.placing.exchange.Goals as goal
use Rattle.jq_pages.proofs.placing.exchange.Goals.{After-swap_tail}

pub returns-clause-pages : goal.returns-clause-pages
returns-clause-pages g c =
    let ps = c.args.pages.now.items in
    let j = c.args.j in
    let l : j < length ps = omega arith in
    let at = λ (p : _). put_at p.inputs.items c.args.i (option_to_list c.args.put) c.args.cut in
    record {
      page = c.swap_run.new.page;
      list = c.swap_runs.ensures.pages ∙ set_and_renewed ps j _ c.args.made.now.runs.items l;
      inputs = ap (λ z. map view z.items) c.swap_run.ensures.inputs ∙ ap (λ z. map view z) c.edit_list-taken.ensures.items ∙ mapped_edit view _ (option_to_list c.args.put) _ ∙ ap at (c.index_mut-page.ensures.value ∙ same_default ps j _ _ l);
      pieces = c.swap_run.ensures.page.0;
      exit = c.swap_run.ensures.page.1;
    }

place : (g : _) (c : After-swap_tail g) → c.args.i + c.args.cut ≤ length c.index_mut-page.result.now.inputs.items
place g c = subst (λ z. c.args.i + c.args.cut ≤ length z.inputs.items) (sym c.index_mut-page.ensures.value) (c.requires.place c.index_mut-page.result.now)

within : (j n m : ℕ) → j + 1 + n ≤ m → j < m
within j n m l = omega arith

next : (j : ℕ) → j < j + 1
next j = omega arith

-- the inputs of the page
inputs : (g : _) (c : After-swap_tail g) → c.swap_run.new.page.inputs.items ≡ (take c.args.i c.index_mut-page.result.now.inputs.items ++ option_to_list c.args.put) ++ drop (c.args.i + c.args.cut) c.index_mut-page.result.now.inputs.items
inputs g c = ap (λ z. z.items) c.swap_run.ensures.inputs ∙ c.edit_list-taken.ensures.items

pub returns-clause-put : goal.returns-clause-put
returns-clause-put g c z =
    let ps = c.args.pages.now.items in
    let j = c.args.j in
    let q = c.index_mut-page.result.now in
    let l = within j _ _ c.requires.page in
    runs_put ps c.swap_runs.new.pages.items j c.args.i q c.swap_run.new.page c.args.put c.args.made.now l c.index_mut-page.ensures.value (c.swap_runs.ensures.pages ∙ set_and_renewed ps j _ c.args.made.now.runs.items l)
    (put_there q.inputs.items _ c.args.i c.args.cut c.args.put z (inputs g c)) c.swap_run.ensures.page.0 c.swap_run.ensures.page.1

fits : (j n m k : ℕ) → j + 1 + n ≤ m → k ≡ m - (j + 1) → n ≤ k
fits j n m k a b = omega arith

-- as many runs as before
as_many : (g : _) (c : After-swap_tail g) → length c.swap_runs.new.runs.items ≡ length c.args.made.now.runs.items
as_many g c =
    let ps = c.args.pages.now.items in
    let j = c.args.j in
    let rs = c.args.made.now.runs.items in
    let e = c.swap_runs.ensures.runs ∙ ap (λ z. map run_in (take (length rs) z)) (drop-set-lt (j + 1) ps j c.swap_run.new.page (next j)) in
    ap (λ (z : List _). length z) e ∙ map_length run_in (take (length rs) (drop (j + 1) ps)) ∙ length-take-le (length rs) (drop (j + 1) ps) (fits j _ _ _ c.requires.page (length-drop (j + 1) ps))

pub returns-clause-back : goal.returns-clause-back
unfolding returns-clause-pages
returns-clause-back g c z n =
    record {
      back = let ps = c.args.pages.now.items in
          let j = c.args.j in
          let q = c.index_mut-page.result.now in
          let rs = c.args.made.now.runs.items in
          let l = within j _ _ c.requires.page in
          runs_back ps c.swap_runs.new.pages.items j c.args.i q c.swap_run.new.page rs c.edit_list-taken.result _ l c.requires.page c.index_mut-page.ensures.value (c.swap_runs.ensures.pages ∙ set_and_renewed ps j _ rs l)
          (put_back_is q.inputs.items _ c.args.i c.args.cut c.args.put c.edit_list-taken.result (place g c) n (inputs g c) c.edit_list-taken.ensures.taken) c.swap_run.ensures.run.0 c.swap_run.ensures.run.1
          (c.swap_runs.ensures.runs ∙ ap (λ z. map run_in (take (length rs) z)) (drop-set-lt (j + 1) ps j c.swap_run.new.page (next j)));
      room = (
        subst (λ m. c.args.j + 1 + m ≤ length c.swap_runs.new.pages.items) (sym (as_many g ((goal.at.returns-clause-back g c).After-swap_tail))) (subst (λ n. c.args.j + 1 + length c.args.made.now.runs.items ≤ n) (sym (installed_length _ _ _ _ _ _ _ _ (returns-clause-pages g c) (within c.args.j _ _ c.requires.page))) c.requires.page),
        λ d. subst (λ (z : Page _). length z.inputs.items + 1 ≤ vec_capacity z.inputs) (sym (ap (λ (z : List _). get_or z c.args.j d) (returns-clause-pages g c).list ∙ placed_there c.args.pages.now.items _ c.args.j _ d (within c.args.j _ _ c.requires.page))) (subst (λ (z : _). length z.items + 1 ≤ vec_capacity z) (sym c.swap_run.ensures.inputs) (c.edit_list-taken.ensures.room z n)),
      );
    }
