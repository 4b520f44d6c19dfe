use Rattle.std.proofs.Common.{Some, None, sym, ap, ◌∙◌}
use Rattle.jq_script.specs.private.Reading.{changing}
use Rattle.jq_script.proofs.Asking.{no_text, changing_by}
use Rattle.jq_script.proofs.requests.place_and_text.Goals as goal

pub returns-in_err-place : goal.returns-in_err-place
returns-in_err-place c = λ edit. no_text c.args.rest.now c.in_err-place.ensures edit ∙ ap (changing edit) (sym c.from_residual.ensures)

pub returns-in_err-place_of : goal.returns-in_err-place_of
returns-in_err-place_of c =
    let around = c.in_ok-place.ensures in
    let place = c.in_err-place_of.ensures in
    λ edit. changing_by c.args.rest.now c.in_ok-place.place.now c.in_ok-place.text.now None around.0 around.1 place edit
    ∙ ap (changing edit) (sym c.from_residual-in_err-place_of.ensures)

pub returns : goal.returns
returns c =
    let around = c.in_ok-place.ensures in
    let place = c.in_ok-place_of.ensures in
    λ edit. changing_by c.args.rest.now c.in_ok-place.place.now c.in_ok-place.text.now (Some c.in_ok-place_of.field-0) around.0 around.1 place edit
