use Rattle.std.proofs.Common.{◌+◌, ◌∷◌, ◌++◌, [], take, drop, ap, ◌∙◌, sym, append_assoc}
use Rattle.std.specs.Option.{option_to_list}
use Rattle.jq_pages.proofs.Edits.{set_is}
use Rattle.jq_pages.proofs.lists.change_one.Goals as goal

pub returns-in-Some-clause-items : goal.returns-in-Some-clause-items
returns-in-Some-clause-items g c =
    let xs = c.args.list.now.items in
    let i = c.args.i in
    set_is xs i c.replace.new.dest c.requires.place ∙ ap (λ z. take i xs ++ z ∷ drop (i + 1) xs) c.replace.ensures.after ∙ sym (append_assoc (take i xs) (c.in-Some.value ∷ []) (drop (i + 1) xs)) ∙ ap (λ z. (take i xs ++ option_to_list z) ++ drop (i + 1) xs) (sym c.in-Some.is)
