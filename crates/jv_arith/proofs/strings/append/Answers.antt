use Rattle.std.proofs.Common.{◌≡◌, ◌∙◌, ◌++◌, ap, rules}
use Rattle.std.proofs.lemmas.Str.{chars-append}
use Rattle.std.specs.Str.{chars}
use Rattle.jv_data.specs.Shared.{bytes_in}
use Rattle.jv_data.proofs.shared.Views.{text_utf8}
use Rattle.jv_arith.proofs.strings.append.Goals as goal

pub returns : goal.returns
returns c =
    let left = c.args.left.now in
    let right = c.args.right.now in
    let bytes : bytes_in c.push_str.new.self ≡ bytes_in left ++ bytes_in right = search rules in
    ap chars bytes ∙ chars-append (bytes_in left) (bytes_in right) (text_utf8 left)
