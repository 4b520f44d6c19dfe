use Rattle.std.proofs.Common.{◌∙◌, ◌++◌, ap}
use Rattle.std.proofs.lemmas.List.{flat_map_more, nil_from_length}
use Rattle.std.specs.Prelude.{flat_map}
use Rattle.jv_data.specs.Text.{text_of}
use Rattle.jv_text.specs.private.Escapes.{written_in}
use Rattle.jv_data.proofs.shared.Texts.{all_read, read_more}
use Rattle.jv_text.proofs.formats.escapes.push_escaped.Goals as goal

pub loop-c-preserved : goal.loop-c-preserved
loop-c-preserved c =
    let d = c.in-Some.c in
    let w = written_in c.args.escapes in (
      read_more c.args.text.now c.loop-c.yielded c.loop-c.c-iterator.rest.now c.next.new.self.rest.now d c.loop-c.invariant.0 c.in-Some.ensures.steps.0,
      c.in_ok-push_character.ensures ∙ ap (λ xs. xs ++ w d) c.loop-c.invariant.1 ∙ flat_map_more w (text_of c.args.out.now) c.loop-c.yielded d,
    )

pub returns : goal.returns
returns c =
    let w = written_in c.args.escapes in
    c.loop-c.invariant.1 ∙ ap (λ cs. text_of c.args.out.now ++ flat_map w cs) (all_read c.args.text.now c.loop-c.yielded c.loop-c.c-iterator.rest.now c.utf8.text c.loop-c.invariant.0 (nil_from_length c.loop-c.c-iterator.rest.now c.in-None.ensures.steps.0.0))
