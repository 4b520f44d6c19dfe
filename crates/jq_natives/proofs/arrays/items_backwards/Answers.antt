use Rattle.std.proofs.Common.{◌∙◌, ap, map}
use Rattle.std.specs.Prelude.{reverse}
use Rattle.jv_data.specs.View.{view}
use Rattle.jq_natives.proofs.Turned.{map-reverse}
use Rattle.jq_natives.proofs.arrays.items_backwards.Goals as goal

pub returns : goal.returns
returns c =
    ap (map view) c.reverse.ensures.items ∙ map-reverse view c.in_ok-turned.turned.items ∙ ap reverse c.in_ok-turned.ensures
