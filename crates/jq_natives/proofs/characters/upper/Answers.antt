use Rattle.std.proofs.Common.{◌≡◌, ◌∙◌, ◌++◌, ap, map, rules, string_bytes}
use Rattle.std.proofs.lemmas.List.{nil_from_length}
use Rattle.std.proofs.lemmas.Str.{chars-nil}
use Rattle.std.specs.Str.{chars}
use Rattle.std.specs.Char.{to_ascii_uppercase}
use Rattle.jq_natives.specs.Texts.{ascii_upper}
use Rattle.jv_data.proofs.shared.Texts.{all_read, read_more, written_more}
use Rattle.jq_natives.proofs.TextSteps.{made_more, upper_is}
use Rattle.jq_natives.proofs.characters.upper.Goals as goal
use lib.Utf8.{encode}

pub loop-c-init : goal.loop-c-init
loop-c-init c = (search rules, ap chars (search rules) ∙ chars-nil)

pub loop-c-preserved : goal.loop-c-preserved
loop-c-preserved c =
    let d = c.in-Some.c in
    let bytes : string_bytes c.push.new.self ≡ string_bytes c.loop-c.changed ++ encode (to_ascii_uppercase d) = search rules in (
      read_more c.args.text.now c.loop-c.yielded c.loop-c.c-iterator.rest.now c.next.new.self.rest.now d c.loop-c.invariant.0 c.in-Some.ensures.steps.0,
      written_more c.loop-c.changed c.push.new.self (ascii_upper d) (bytes ∙ ap (λ x. string_bytes c.loop-c.changed ++ encode x) (upper_is d)) ∙ made_more ascii_upper _ c.loop-c.yielded d c.loop-c.invariant.1,
    )

pub returns : goal.returns
returns c = c.loop-c.invariant.1 ∙ ap (map ascii_upper) (all_read c.args.text.now c.loop-c.yielded c.loop-c.c-iterator.rest.now c.utf8.text c.loop-c.invariant.0 (nil_from_length c.loop-c.c-iterator.rest.now c.in-None.ensures.steps.0.0))
