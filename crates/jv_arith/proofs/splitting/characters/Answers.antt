use Rattle.std.proofs.Common.{◌≡◌, ◌∙◌, ◌++◌, ◌∷◌, [], ap, map}
use Rattle.std.proofs.lemmas.List.{map-append, nil_from_length}
use Rattle.jv_data.specs.Value.{string}
use Rattle.jv_data.specs.View.{view}
use Rattle.jv_arith.specs.Strings.{single}
use Rattle.jv_data.proofs.shared.Texts.{all_read, read_more}
use Rattle.jv_arith.proofs.Parts.{singles_more}
use Rattle.jv_arith.proofs.splitting.characters.Goals as goal

pub loop-c-preserved : goal.loop-c-preserved
loop-c-preserved c =
    let part = c.in_ok-part.part in
    let pushed : map view c.push.new.self.items ≡ map view c.loop-c.parts.items ++ view part ∷ [] = ap (map view) c.in_ok-push.ensures.items ∙ map-append view c.loop-c.parts.items (part ∷ []) in (
      read_more c.args.text.now c.loop-c.yielded c.loop-c.c-iterator.rest.now c.next.new.self.rest.now c.in-Some.c c.loop-c.invariant.0 c.in-Some.ensures.steps.0,
      pushed ∙ singles_more (map view c.loop-c.parts.items) c.loop-c.yielded c.in-Some.c (view part) c.loop-c.invariant.1 c.in_ok-part.ensures,
    )

pub returns : goal.returns
returns c = c.loop-c.invariant.1 ∙ ap (λ cs. map string (map single cs)) (all_read c.args.text.now c.loop-c.yielded c.loop-c.c-iterator.rest.now c.utf8.text c.loop-c.invariant.0 (nil_from_length c.loop-c.c-iterator.rest.now c.in-None.ensures.steps.0.0))
