use Rattle.std.proofs.Common.{◌≡◌, ◌∙◌, ◌++◌, codes, ap, append_assoc, refl, rules, string_bytes}
use Rattle.std.specs.Str.{chars}
use Rattle.json.specs.Print.{quoted}
use lib.Utf8.{encodes}
use Rattle.jv_data.proofs.shared.Ascii.{both_ascii, text_after_ascii}
use Rattle.jv_value.specs.ErrorTexts.{cannot_index}
use Rattle.jv_value.proofs.error_texts.cannot_index_text.Goals as goal

pub returns : goal.returns
unfolding cannot_index
returns c =
    let first = codes "Cannot index " in
    let kind = c.kind_name.result.now in
    let middle = codes " with " in
    let key = quoted (chars c.args.name.now) in
    let bytes : string_bytes c.push_str-3.new.self ≡ ((first ++ kind) ++ middle) ++ encodes key = search rules in
    let plain = both_ascii (first ++ kind) middle (both_ascii first kind refl c.kind_name.ensures.ascii) refl in
    text_after_ascii c.push_str-3.new.self ((first ++ kind) ++ middle) key plain bytes
    ∙ append_assoc (first ++ kind) middle key ∙ append_assoc first kind (middle ++ key) ∙ ap (λ name. first ++ (name ++ (middle ++ key))) c.kind_name.ensures.name
