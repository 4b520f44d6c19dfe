use Rattle.std.proofs.Common.{◌≡◌, ◌∙◌, ◌<◌, [], length, map, ap, sym, rules, arith}
use Rattle.std.proofs.lemmas.List.{nil_from_length}
use Rattle.std.proofs.lemmas.Str.{chars-nil}
use Rattle.std.specs.Str.{chars}
use Rattle.jv_data.specs.Value.{string}
use Rattle.jv_data.specs.View.{view}
use Rattle.jv_arith.specs.Strings.{split_of}
use Rattle.jv_arith.proofs.Parts.{some_bytes, some_text, split_of_singles, split_of_parts}
use Rattle.jv_arith.proofs.splitting.parts_of.Goals as goal

pub returns-then-is_empty : goal.returns-then-is_empty
returns-then-is_empty c =
    let none : c.args.text.now ≡ [] = nil_from_length c.args.text.now (search rules) in
    ap (map view) c.new.ensures.items ∙ sym (ap (λ s. map string (split_of s (chars c.args.separator.now))) (ap chars none ∙ chars-nil))

pub returns-then-is_empty-2 : goal.returns-then-is_empty-2
returns-then-is_empty-2 c =
    let none : c.args.separator.now ≡ [] = nil_from_length c.args.separator.now (search rules) in
    let s = chars c.args.text.now in
    c.in_ok-characters.ensures ∙ ap (map string) (sym (ap (split_of s) (ap chars none ∙ chars-nil) ∙ split_of_singles s))

pub returns : goal.returns
returns c =
    let text : 0 < length c.args.text.now = grind arith in
    let separator : 0 < length c.args.separator.now = grind arith in
    c.in_ok-parts_between.ensures
    ∙ ap (map string) (sym (split_of_parts (chars c.args.text.now) (chars c.args.separator.now) (some_text c.args.text.now c.utf8.text (some_bytes c.args.text.now text)) (some_text c.args.separator.now c.utf8.separator (some_bytes c.args.separator.now separator))))
