use Rattle.std.proofs.Common.{◌≡◌, ◌∙◌, ◌*◌, ◌<◌, ◌≤◌, [], length, ap, sym, subst, rules, arith, Ok, pos}
use Rattle.std.proofs.Math.Nat.{div-lt_iff_lt-mul}
use Rattle.std.proofs.lemmas.List.{nil_from_length}
use Rattle.std.proofs.lemmas.Str.{chars-nil}
use Rattle.std.specs.Str.{chars}
use Rattle.jv_data.specs.Fails.{FailsAs}
use Rattle.jv_data.specs.Value.{string}
use Rattle.jv_arith.proofs.Repeats.{repeated-short, repeated-long, repeated_nil, not_large}
use Rattle.jv_arith.specs.Strings.{repeated, repeat_limit}
use Rattle.jv_arith.proofs.strings.repeated_once_at_least.Goals as goal

pub returns-then-is_empty : goal.returns-then-is_empty
returns-then-is_empty c =
    let empty : c.args.text.now ≡ [] = nil_from_length c.args.text.now (search rules) in
    let none : chars c.args.text.now ≡ [] = ap chars empty ∙ chars-nil in
    ap (λ s. repeated s (pos c.args.count)) none ∙ repeated_nil c.args.count c.requires ∙ ap (λ s. Ok (string s)) (sym none) ∙ ap Ok (sym c.in_ok-from_text.ensures)

pub returns-then-count-text : goal.returns-then-count-text
returns-then-count-text c =
    let some : 0 < length c.args.text.now = grind arith in
    let large : repeat_limit < c.args.count * length c.args.text.now = (div-lt_iff_lt-mul some).0 (search rules) in
    subst (FailsAs c.repeat_too_long.result) (sym (repeated-long c.args.text.now c.args.count c.utf8.text c.requires large)) c.repeat_too_long.ensures

pub returns : goal.returns
returns c =
    let some : 0 < length c.args.text.now = grind arith in
    let small : c.args.count * length c.args.text.now ≤ repeat_limit = not_large c.args.count (length c.args.text.now) some (search rules) in
    repeated-short c.args.text.now c.args.count c.utf8.text c.requires small ∙ ap (λ s. Ok (string s)) (sym c.in_ok-copies.ensures) ∙ ap Ok (sym c.in_ok-from_string.ensures)
