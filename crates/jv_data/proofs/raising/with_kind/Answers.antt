use Rattle.std.proofs.Common.{◌≡◌, ◌∙◌, ◌++◌, ap, rules, subst, string_bytes, IfOk}
use Rattle.std.specs.Str.{chars}
use Rattle.jv_data.specs.Value.{string}
use Rattle.jv_data.specs.View.{view}
use Rattle.jv_data.proofs.Messages.{three_chars}
use Rattle.jv_data.proofs.raising.with_kind.Goals as goal

pub returns : goal.returns
returns c =
    let k = c.kind_name.result.now in
    let bytes : string_bytes c.push_str-2.new.self ≡ (c.args.before.now ++ k) ++ c.args.after.now = search rules in
    let text = ap chars bytes ∙ three_chars c.args.before.now k c.args.after.now c.requires.before c.kind_name.ensures.ascii c.requires.after in
    let named = ap (λ n. c.args.before.now ++ (n ++ c.args.after.now)) c.kind_name.ensures.name in
    subst (λ cs. IfOk c.from_string.result (λ w. view w ≡ string cs)) (text ∙ named) c.from_string.ensures
