use Rattle.std.proofs.Common.{◌≡◌, ◌∙◌, ◌++◌, ◌∷◌, [], ap, map}
use Rattle.std.proofs.lemmas.List.{map-append, nil_from_length}
use Rattle.jv_data.specs.View.{view}
use Rattle.jq_natives.specs.Answers.{count}
use Rattle.jv_data.proofs.shared.Texts.{all_read, read_more}
use Rattle.jq_natives.proofs.TextSteps.{made_more}
use Rattle.jq_natives.proofs.characters.numbers.Goals as goal

pub loop-c-preserved : goal.loop-c-preserved
loop-c-preserved c =
    let d = c.in-Some.c in
    let old = c.loop-c.numbers.items in
    let pushed : map view c.push.new.self.items ≡ map view old ++ count d ∷ [] =
    ap (map view) c.in_ok-push.ensures.items ∙ map-append view old (c.number.result ∷ []) ∙ ap (λ v. map view old ++ v ∷ []) c.number.ensures in (
      read_more c.args.text.now c.loop-c.yielded c.loop-c.c-iterator.rest.now c.next.new.self.rest.now d c.loop-c.invariant.0 c.in-Some.ensures.steps.0,
      pushed ∙ made_more count _ c.loop-c.yielded d c.loop-c.invariant.1,
    )

pub returns : goal.returns
returns c = c.loop-c.invariant.1 ∙ ap (map count) (all_read c.args.text.now c.loop-c.yielded c.loop-c.c-iterator.rest.now c.utf8.text c.loop-c.invariant.0 (nil_from_length c.loop-c.c-iterator.rest.now c.in-None.ensures.steps.0.0))
