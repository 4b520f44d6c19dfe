use Rattle.std.proofs.Common.{◌≡◌, ◌∙◌, ◌++◌, ◌∷◌, [], ap, sym, rules, arith, append_assoc, length, reverse}
use Rattle.std.proofs.lemmas.Str.{chars-nil}
use Rattle.std.specs.Str.{chars}
use Rattle.std.specs.Vec.Iter.{into_iter_items}
use Rattle.jv_data.specs.Text.{text_of}
use Rattle.jv_data.proofs.shared.Texts.{written_more}
use Rattle.jq_natives.proofs.arrays.backwards.Goals as goal

pub loop-c-init : goal.loop-c-init
loop-c-init c =
    let left = into_iter_items c.into_iter-c-iterator.result in (
      search rules,
      sym (ap (λ t. t ++ left) (ap chars c.new-turned.ensures.bytes ∙ chars-nil) ∙ c.into_iter-c-iterator.ensures.into_iter_gives.0 ∙ c.reverse.ensures.items ∙ ap reverse c.in_ok-characters.ensures),
    )

pub loop-c-preserved : goal.loop-c-preserved
loop-c-preserved c =
    let l = c.loop-c in
    let d = c.in-Some.c in
    let rest = into_iter_items c.next.new.self in
    let count = ap length c.in-Some.ensures.steps.0 in
    let text : text_of c.push.new.self ≡ text_of l.turned ++ d ∷ [] = written_more l.turned c.push.new.self d (search rules) in (
      omega (arith, c.in-Some.ensures.steps.1, count, l.invariant.0),
      l.invariant.1 ∙ ap (λ xs. text_of l.turned ++ xs) c.in-Some.ensures.steps.0 ∙ sym (append_assoc (text_of l.turned) (d ∷ []) rest) ∙ ap (λ t. t ++ rest) (sym text),
    )
