use Rattle.std.proofs.Common.{◌≡◌, ◌∙◌, ◌-◌, ℕ, List, ap, arith, encode_utf8_all, length, take}
use Rattle.std.proofs.lemmas.Str.{encodes-chars}
use Rattle.std.specs.Str.{chars}
use Rattle.jq_lexer.specs.private.Spots.{spot_of, tokens_of}
use Rattle.jq_lexer.proofs.Readings.{bad_token}
use Rattle.jq_lexer.proofs.Taking.{lex_done, lex_missing, lex_more, lex_start, left_within}
use Rattle.jq_lexer.proofs.Texts.{bytes_within}
use Rattle.jq_lexer.proofs.lexing.lex.Goals as goal

pub loop-lexer-init : goal.loop-lexer-init
loop-lexer-init c = lex_start (chars c.args.filter.now) c.new-lexer.result c.new-lexer.ensures.tokens c.new-lexer.ensures.spot (c.new-lexer.ensures.rest ∙ c.deref.ensures.value ∙ c.in_ok-characters.ensures)

pub loop-lexer-preserved : goal.loop-lexer-preserved
loop-lexer-preserved c = lex_more (chars c.args.filter.now) c.loop-lexer.lexer c.take.new.self c.in_ok-take.field-0 c.in-Taken.is c.loop-lexer.invariant c.in_ok-take.ensures

pub overflow_sub-read : goal.overflow_sub-read
overflow_sub-read c =
    let missing = lex_missing c.loop-lexer.lexer c.take.new.self c.in_ok-take.field-0 c.in-Missing.is c.in_ok-take.ensures in
    let kept : length c.take.new.self.rest.now ≡ length c.loop-lexer.lexer.rest.now = ap length (missing.0).rest in
    let left = left_within (chars c.args.filter.now) c.loop-lexer.lexer c.loop-lexer.invariant in
    let size : length c.deref.result.now ≡ length (chars c.args.filter.now) = ap length (c.deref.ensures.value ∙ c.in_ok-characters.ensures) in
    omega (arith, kept, left, size, c.deref.ensures.len, c.len.ensures)

pub byte_count-at-requires : goal.byte_count-at-requires
byte_count-at-requires c =
    let n = c.len.result - length c.take.new.self.rest.now in
    let within = bytes_within c.deref-in-Missing.result.now n in
    let all : length (encode_utf8_all c.deref-in-Missing.result.now) ≡ length c.args.filter.now =
    ap (λ (cs : List ℕ). length (encode_utf8_all cs)) (c.deref-in-Missing.ensures.value ∙ c.in_ok-characters.ensures) ∙ ap length (encodes-chars c.args.filter.now c.utf8.filter) in
    omega (arith, within, all)

pub returns-in-Missing-clause-fault : goal.returns-in-Missing-clause-fault
returns-in-Missing-clause-fault c =
    let text = chars c.args.filter.now in
    let n = c.len.result - length c.take.new.self.rest.now in
    let missing = lex_missing c.loop-lexer.lexer c.take.new.self c.in_ok-take.field-0 c.in-Missing.is c.in_ok-take.ensures in
    let kept : length c.take.new.self.rest.now ≡ length c.loop-lexer.lexer.rest.now = ap length (missing.0).rest in
    let size : length c.deref.result.now ≡ length text = ap length (c.deref.ensures.value ∙ c.in_ok-characters.ensures) in
    let read : n ≡ length text - length c.loop-lexer.lexer.rest.now = omega (arith, kept, size, c.deref.ensures.len, c.len.ensures) in
    bad_token text (tokens_of c.loop-lexer.lexer) (spot_of c.loop-lexer.lexer) c.loop-lexer.lexer.rest.now n c.byte_count-at.result c.loop-lexer.invariant (missing.1) read
    (c.byte_count-at.ensures ∙ ap (λ (cs : List ℕ). length (encode_utf8_all (take n cs))) (c.deref-in-Missing.ensures.value ∙ c.in_ok-characters.ensures))

pub returns-in-Done-clause-tokens : goal.returns-in-Done-clause-tokens
returns-in-Done-clause-tokens c = lex_done (chars c.args.filter.now) c.loop-lexer.lexer c.take.new.self c.in_ok-take.field-0 c.in-Done.is c.loop-lexer.invariant c.in_ok-take.ensures
