use Rattle.std.proofs.Common.{◌∷◌, ◌∙◌, ap, sym}
use Rattle.jq_devices.proofs.Names.{first_name}
use Rattle.jq_devices.proofs.reader.FileReader.name.Goals as goal

pub returns-in-Some : goal.returns-in-Some
returns-in-Some g c = λ shut.
    let first = first_name c.args.self.now.names.items c.in-Some.name.now c.in-Some.ensures.item.3.0 c.in-Some.ensures.lookup in
    (first.0, first.1 ∙ ap (λ name. name ∷ first.0) (sym c.as_str.ensures.value))
