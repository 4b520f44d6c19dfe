use Rattle.std.proofs.Common.{◌≡◌, ◌∙◌, ◌++◌, ap, rules, string_bytes}
use Rattle.std.proofs.lemmas.Str.{chars-nil}
use Rattle.std.specs.Str.{chars}
use Rattle.jv_data.proofs.shared.Texts.{written_more}
use Rattle.jv_data.specs.Text.{text_of}
use Rattle.jq_lexer.proofs.Pieces.{reading_end, reading_more, reading_start, unit_shorter}
use Rattle.jq_lexer.proofs.strings.first_piece.Goals as goal
use lib.Utf8.{encode}

pub loop-c-init : goal.loop-c-init
loop-c-init c = reading_start c.args.text.now (text_of c.new-content.result) (ap chars c.new-content.ensures.bytes ∙ chars-nil)

pub loop-c-smaller : goal.loop-c-smaller
loop-c-smaller c = unit_shorter c.loop-c.rest.now c.in-Some.c c.in-Some.following.now c.in-Some.ensures

pub loop-c-preserved : goal.loop-c-preserved
loop-c-preserved c =
    let bytes : string_bytes c.push.new.self ≡ string_bytes c.loop-c.content ++ encode c.in-Some.c = search rules in
    reading_more c.args.text.now c.loop-c.rest.now (text_of c.loop-c.content) (text_of c.push.new.self) c.in-Some.c c.in-Some.following.now c.loop-c.invariant c.in-Some.ensures
    (written_more c.loop-c.content c.push.new.self c.in-Some.c bytes)

pub returns : goal.returns
returns c = reading_end c.args.text.now c.loop-c.rest.now (text_of c.loop-c.content) c.ended.result c.loop-c.invariant c.in_default.ensures c.ended.ensures
