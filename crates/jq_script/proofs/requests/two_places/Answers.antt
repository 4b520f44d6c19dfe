use Rattle.std.proofs.Common.{Some, None, refl, sym, ap, ◌∙◌}
use Rattle.jq_script.specs.Requests.{place_of}
use Rattle.jq_script.specs.private.Reading.{moving}
use Rattle.jq_script.proofs.Asking.{no_places, moving_by}
use Rattle.jq_script.proofs.requests.two_places.Goals as goal

pub returns-in_err-first : goal.returns-in_err-first
returns-in_err-first c = no_places c.args.rest.now c.in_err-first.ensures ∙ ap moving (sym c.from_residual.ensures)

pub returns-in_err-place_of : goal.returns-in_err-place_of
returns-in_err-place_of c =
    let around = c.in_ok-first.ensures in
    moving_by c.args.rest.now c.in_ok-first.first.now c.in_ok-first.second.now None (place_of c.in_ok-first.second.now) around.0 around.1 c.in_err-place_of.ensures refl
    ∙ ap moving (sym c.from_residual-in_err-place_of.ensures)

pub returns-in_err-place_of-2 : goal.returns-in_err-place_of-2
returns-in_err-place_of-2 c =
    let around = c.in_ok-first.ensures in
    moving_by c.args.rest.now c.in_ok-first.first.now c.in_ok-first.second.now (Some c.in_ok-place_of.field-0) None around.0 around.1 c.in_ok-place_of.ensures c.in_err-place_of-2.ensures
    ∙ ap moving (sym c.from_residual-in_err-place_of-2.ensures)

pub returns : goal.returns
returns c =
    let around = c.in_ok-first.ensures in
    moving_by c.args.rest.now c.in_ok-first.first.now c.in_ok-first.second.now (Some c.in_ok-place_of.field-0) (Some c.in_ok-place_of-2.field-0) around.0 around.1
    c.in_ok-place_of.ensures c.in_ok-place_of-2.ensures
