use Rattle.std.proofs.Common.{◌+◌, ◌++◌, ◌≤◌, ◌<◌, List, get_or, length, take, drop, ap, refl, sym, subst, ◌∙◌}
use Rattle.std.specs.Option.{option_to_list}
use Rattle.std.specs.Prelude.{vec_capacity}
use Rattle.jq_pages.specs.declared.page.Page.{Page}
use Rattle.jq_pages.proofs.Edits.{same_default, set_is}
use Rattle.jq_pages.proofs.Filled.{installed_length}
use Rattle.jq_pages.proofs.Plain.{as_installed}
use Rattle.jq_pages.proofs.Moves.{one_back, one_put, placed_there, put_back_is, put_there}
use Rattle.jq_pages.proofs.placing.exchange_one.Goals as goal
use Rattle.jq_pages.proofs.placing.exchange_one.Goals.{After-edit-old}

pub returns-clause-pages : goal.returns-clause-pages
returns-clause-pages g c =
    let ps = c.args.pages.now.items in
    let j = c.args.j in
    let l = c.requires.page in
    let new : Page _ = record { inputs = c.edit_list-value.new.list; pieces = c.edit-old.new.self; exit = c.index_mut-page.result.now.exit } in
    let e = c.index_mut-page.ensures.value ∙ same_default ps j _ new l in
    record {
      page = new;
      list = set_is ps j new l;
      inputs = c.edit_list-value.ensures.items ∙ ap (λ z. (take c.args.i z.inputs.items ++ option_to_list c.args.put) ++ drop (c.args.i + c.args.cut) z.inputs.items) e;
      others = c.edit-old.ensures.items ∙ ap (λ z. (take c.args.i z.pieces.items.items ++ option_to_list c.args.piece) ++ drop (c.args.i + c.args.cut) z.pieces.items.items) e;
      exit = ap (λ z. z.exit) e;
    }

place : (g : _) (c : After-edit-old g) → c.args.i + c.args.cut ≤ length c.index_mut-page.result.now.inputs.items
place g c = subst (λ z. c.args.i + c.args.cut ≤ length z.inputs.items) (sym c.index_mut-page.ensures.value) (c.requires.place c.index_mut-page.result.now)

have : (g : _) (c : After-edit-old g) → c.args.i + c.args.cut ≤ length c.index_mut-page.result.now.pieces.items.items
have g c = subst (λ z. c.args.i + c.args.cut ≤ length z.pieces.items.items) (sym c.index_mut-page.ensures.value) (c.requires.have c.index_mut-page.result.now)

pub returns-clause-put : goal.returns-clause-put
returns-clause-put g c z =
    let ps = c.args.pages.now.items in
    let q = c.index_mut-page.result.now in
    let new : Page _ = record { inputs = c.edit_list-value.new.list; pieces = c.edit-old.new.self; exit = q.exit } in
    one_put ps _ c.args.j c.args.i q new c.args.put c.args.piece c.requires.page c.index_mut-page.ensures.value (set_is ps c.args.j new c.requires.page)
    (put_there q.inputs.items _ c.args.i c.args.cut c.args.put z c.edit_list-value.ensures.items) (put_there q.pieces.items.items _ c.args.i c.args.cut c.args.piece z c.edit-old.ensures.items) refl

pub returns-clause-back : goal.returns-clause-back
unfolding returns-clause-pages
returns-clause-back g c z n m =
    record {
      back = let b = (goal.at.returns-clause-back g c).After-edit-old in
          let ps = c.args.pages.now.items in
          let q = c.index_mut-page.result.now in
          let new : Page _ = record { inputs = c.edit_list-value.new.list; pieces = c.edit-old.new.self; exit = q.exit } in
          one_back ps _ c.args.j c.args.i q new c.edit_list-value.result c.edit-old.result c.requires.page c.index_mut-page.ensures.value (set_is ps c.args.j new c.requires.page)
          (put_back_is q.inputs.items _ c.args.i c.args.cut c.args.put c.edit_list-value.result (place g b) n c.edit_list-value.ensures.items c.edit_list-value.ensures.taken)
          (put_back_is q.pieces.items.items _ c.args.i c.args.cut c.args.piece c.edit-old.result (have g b) m c.edit-old.ensures.items c.edit-old.ensures.taken) refl;
      room = (subst (λ n. c.args.j < n) (sym (installed_length _ _ _ _ _ _ _ _ (as_installed _ _ _ _ _ _ _ (returns-clause-pages g c)) c.requires.page)) c.requires.page, record { inputs = λ d. subst (λ (z : Page _). length z.inputs.items + 1 ≤ vec_capacity z.inputs) (sym (ap (λ (z : List _). get_or z c.args.j d) (returns-clause-pages g c).list ∙ placed_there c.args.pages.now.items _ c.args.j _ d c.requires.page)) (c.edit_list-value.ensures.room z n); pieces = λ d. subst (λ (z : Page _). length z.pieces.items.items + 1 ≤ vec_capacity z.pieces.items) (sym (ap (λ (z : List _). get_or z c.args.j d) (returns-clause-pages g c).list ∙ placed_there c.args.pages.now.items _ c.args.j _ d c.requires.page)) (c.edit-old.ensures.room z m) });
    }
