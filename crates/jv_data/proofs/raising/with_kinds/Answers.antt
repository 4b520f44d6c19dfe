use Rattle.std.proofs.Common.{◌≡◌, ◌∙◌, ◌++◌, ap, ap₂, rules, subst, string_bytes, IfOk}
use Rattle.std.specs.Str.{chars}
use Rattle.jv_data.specs.Value.{string}
use Rattle.jv_data.specs.View.{view}
use Rattle.jv_data.proofs.Messages.{five_chars}
use Rattle.jv_data.proofs.raising.with_kinds.Goals as goal

pub returns : goal.returns
returns c =
    let k = c.kind_name.result.now in
    let l = c.kind_name-2.result.now in
    let before = c.args.before.now in
    let between = c.args.between.now in
    let after = c.args.after.now in
    let bytes : string_bytes c.push_str-4.new.self ≡ (((before ++ k) ++ between) ++ l) ++ after = search rules in
    let text = ap chars bytes ∙ five_chars before k between l after c.requires.before c.kind_name.ensures.ascii c.requires.between c.kind_name-2.ensures.ascii c.requires.after in
    let named = ap₂ (λ m n. before ++ (m ++ (between ++ (n ++ after)))) c.kind_name.ensures.name c.kind_name-2.ensures.name in
    subst (λ cs. IfOk c.from_string.result (λ w. view w ≡ string cs)) (text ∙ named) c.from_string.ensures
