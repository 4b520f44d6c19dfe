use Rattle.std.proofs.Common.{◌≡◌, ◌∙◌, ◌++◌, ap, rules, string_bytes}
use Rattle.std.specs.Str.{chars}
use Rattle.jq_operations.proofs.Messages.{chars-between}
use Rattle.jq_operations.proofs.texts.joined.Goals as goal

pub returns : goal.returns
returns c =
    let a = c.args.front.now in
    let b = c.args.text.now in
    let d = c.args.back.now in
    let bytes : string_bytes c.push_str-2.new.self ≡ (a ++ b) ++ d = search rules in
    ap chars bytes ∙ chars-between a b d c.utf8.front c.utf8.text
