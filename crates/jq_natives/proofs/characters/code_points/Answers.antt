use Rattle.std.proofs.Common.{◌≡◌, ◌∙◌, ◌+◌, ◌++◌, ◌∷◌, [], ap, sym, rules, drop, option_map}
use Rattle.std.proofs.lemmas.List.{drop_more}
use Rattle.std.proofs.lemmas.Str.{chars-nil}
use Rattle.std.specs.Str.{chars}
use Rattle.jv_data.specs.Text.{text_of}
use Rattle.jv_data.specs.View.{items_view, view}
use Rattle.jq_natives.specs.Texts.{code_points}
use Rattle.jv_data.proofs.shared.Lists.{after_one_more}
use Rattle.jq_natives.proofs.Prefixed.{after_nothing, code_point_first}
use Rattle.jv_data.proofs.shared.Texts.{written_more}
use Rattle.jq_natives.proofs.characters.code_points.Goals as goal

pub loop-item-init : goal.loop-item-init
loop-item-init c = after_nothing (text_of c.new-text.result) _ (ap chars c.new-text.ensures.bytes ∙ chars-nil)

pub loop-item-preserved : goal.loop-item-preserved
loop-item-preserved c =
    let t = text_of c.loop-item.text in
    let d = c.in-Some.c in
    let x = c.item-item.result in
    let rest = drop (c.loop-item.item-index + 1) c.args.items.now in
    let next : drop c.loop-item.item-index c.args.items.now ≡ x ∷ rest = drop_more c.args.items.now c.loop-item.item-index x (search rules) ∙ ap (λ y. y ∷ rest) (sym c.item-item.is) in
    let text : text_of c.push.new.self ≡ t ++ d ∷ [] = written_more c.loop-item.text c.push.new.self d (search rules) in
    c.loop-item.invariant ∙ ap (λ xs. option_map (λ cs. t ++ cs) (code_points (items_view xs))) next
    ∙ ap (option_map (λ cs. t ++ cs)) (code_point_first (view x) d (items_view rest) c.in-Some.ensures) ∙ after_one_more t d (code_points (items_view rest))
    ∙ ap (λ s. option_map (λ cs. s ++ cs) (code_points (items_view rest))) (sym text)
