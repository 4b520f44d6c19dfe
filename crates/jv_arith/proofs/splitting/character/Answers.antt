use Rattle.std.proofs.Common.{◌≡◌, ◌∙◌, ap, rules, string_bytes}
use Rattle.jv_data.specs.Value.{string}
use Rattle.jv_arith.proofs.Parts.{chars_of_one}
use Rattle.jv_arith.proofs.splitting.character.Goals as goal
use lib.Utf8.{encode}

pub returns : goal.returns
returns c =
    let bytes : string_bytes c.push.new.self ≡ encode c.args.c = search rules in
    c.in_ok-from_string.ensures ∙ ap string (chars_of_one c.args.c c.push.new.self bytes)
