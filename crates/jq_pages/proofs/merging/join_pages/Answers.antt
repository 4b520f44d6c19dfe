use Rattle.std.proofs.Common.{◌≡◌, ◌+◌, ◌≤◌, ◌++◌, ◌∷◌, List, length, take, drop, get_or, ap, ap₂, ◌∙◌, sym, subst, length-append}
use Rattle.jv_data.specs.declared.values.Val.{Val}
use Rattle.jq_pages.specs.declared.page.Page.{Page}
use Rattle.jq_pages.proofs.Edits.{same_default, set_is}
use Rattle.jq_pages.proofs.Joined.{removed_at, removed_front}
use Rattle.jq_pages.proofs.merging.join_pages.Goals as goal

pub returns : goal.returns
returns g c =
    let old = c.args.pages.now.items in
    let k = c.args.k in
    let mid = c.remove-inputs.new.self.items in
    let l = c.requires.page in
    let e : mid ≡ take (k + 1) old ++ drop ((k + 1) + 1) old = c.remove-inputs.ensures.by_index.2 in
    let new : Page _ = record { inputs = c.append_list.new.list; pieces = c.append.new.self; exit = c.remove-inputs.result.exit } in
    let at = removed_at old mid k new e l in
    let cut = removed_front old k l in
    let one : c.index_mut-page.result.now ≡ get_or old k new = c.index_mut-page.ensures.value ∙ same_default mid k _ new at.0 ∙ at.1 in
    let two : c.remove-inputs.result ≡ get_or old (k + 1) new = c.remove-inputs.ensures.value ∙ same_default old (k + 1) _ new l in
    let inputs : new.inputs.items ≡ (get_or old k new).inputs.items ++ (get_or old (k + 1) new).inputs.items = c.append_list.ensures ∙ ap₂ (λ y z. y.inputs.items ++ z.inputs.items) one two in
    record {
      page = new;
      there = l;
      list = set_is mid k new at.0 ∙ ap₂ (λ y z. y ++ (new ∷ z)) (ap (take k) e ∙ cut.0) (ap (drop (k + 1)) e ∙ cut.1);
      inputs = inputs;
      pieces = c.append.ensures ∙ ap₂ (λ y z. y.pieces.items.items ++ z.pieces.items.items) one two;
      exit = ap (λ z. z.exit) two;
      few = subst (λ n. n ≤ 64) (sym (ap (λ (z : List Val). length z) inputs ∙ length-append (get_or old k new).inputs.items (get_or old (k + 1) new).inputs.items)) (c.requires.small new);
    }
