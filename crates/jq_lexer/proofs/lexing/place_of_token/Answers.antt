use Rattle.std.proofs.Common.{◌≡◌, ◌∙◌, ◌-◌, ℕ, List, ap, arith, encode_utf8_all, length, take}
use Rattle.std.proofs.lemmas.List.{length-map}
use Rattle.std.proofs.lemmas.Str.{encodes-chars}
use Rattle.std.specs.Str.{chars}
use Rattle.jq_lexer.specs.Views.{token_of}
use Rattle.jq_lexer.proofs.Placing.{few_done, few_missing, takes_at, token_at}
use Rattle.jq_lexer.proofs.Taking.{lex_more, lex_start, left_within}
use Rattle.jq_lexer.proofs.Texts.{bytes_within}
use Rattle.jq_lexer.proofs.lexing.place_of_token.Goals as goal

pub loop-lexer-init : goal.loop-lexer-init
loop-lexer-init c =
    let size = ap length c.new-lexer.ensures.tokens in
    let count = length-map c.new-lexer.result.tokens.items token_of in
    record {
      read = lex_start (chars c.args.filter.now) c.new-lexer.result c.new-lexer.ensures.tokens c.new-lexer.ensures.spot (c.new-lexer.ensures.rest ∙ c.deref.ensures.value ∙ c.in_ok-characters.ensures);
      few = omega (arith, size, count);
    }

pub returns-in-Missing : goal.returns-in-Missing
returns-in-Missing c = few_missing c.one_reading.ensures.not_both (chars c.args.filter.now) c.args.number c.loop-lexer.lexer c.take.new.self c.in_ok-take.field-0 c.in-Missing.is c.loop-lexer.invariant c.in_ok-take.ensures

pub returns-in-Done : goal.returns-in-Done
returns-in-Done c = few_done c.one_reading.ensures.tokens (chars c.args.filter.now) c.args.number c.loop-lexer.lexer c.take.new.self c.in_ok-take.field-0 c.in-Done.is c.loop-lexer.invariant c.in_ok-take.ensures

pub overflow_sub-read : goal.overflow_sub-read
overflow_sub-read c =
    let left = left_within (chars c.args.filter.now) c.loop-lexer.lexer c.loop-lexer.invariant.read in
    let size : length c.deref.result.now ≡ length (chars c.args.filter.now) = ap length (c.deref.ensures.value ∙ c.in_ok-characters.ensures) in
    omega (arith, left, size, c.deref.ensures.len, c.len-then-len-number.ensures)

pub byte_count-requires : goal.byte_count-requires
byte_count-requires c =
    let n = c.len-then-len-number.result - length c.loop-lexer.lexer.rest.now in
    let within = bytes_within c.deref-then-len-number.result.now n in
    let all : length (encode_utf8_all c.deref-then-len-number.result.now) ≡ length c.args.filter.now =
    ap (λ (cs : List ℕ). length (encode_utf8_all cs)) (c.deref-then-len-number.ensures.value ∙ c.in_ok-characters.ensures) ∙ ap length (encodes-chars c.args.filter.now c.utf8.filter) in
    omega (arith, within, all)

pub returns-then-len-number : goal.returns-then-len-number
returns-then-len-number c =
    let text = chars c.args.filter.now in
    let n = c.len-then-len-number.result - length c.loop-lexer.lexer.rest.now in
    let size : length c.deref.result.now ≡ length text = ap length (c.deref.ensures.value ∙ c.in_ok-characters.ensures) in
    let read : n ≡ length text - length c.loop-lexer.lexer.rest.now = omega (arith, size, c.deref.ensures.len, c.len-then-len-number.ensures) in
    token_at text c.args.number n c.byte_count.result c.loop-lexer.lexer c.take.new.self c.loop-lexer.invariant
    (takes_at c.loop-lexer.lexer c.take.new.self c.in_ok-take.field-0 c.in-Taken.is c.in_ok-take.ensures) (omega (arith, c.if-len-number.true, c.len.ensures)) read
    (c.byte_count.ensures ∙ ap (λ (cs : List ℕ). length (encode_utf8_all (take n cs))) (c.deref-then-len-number.ensures.value ∙ c.in_ok-characters.ensures))

pub loop-lexer-smaller : goal.loop-lexer-smaller
loop-lexer-smaller c = (takes_at c.loop-lexer.lexer c.take.new.self c.in_ok-take.field-0 c.in-Taken.is c.in_ok-take.ensures).shorter

pub loop-lexer-preserved : goal.loop-lexer-preserved
loop-lexer-preserved c = record {
  read = lex_more (chars c.args.filter.now) c.loop-lexer.lexer c.take.new.self c.in_ok-take.field-0 c.in-Taken.is c.loop-lexer.invariant.read c.in_ok-take.ensures;
  few = omega (arith, c.if-len-number.false, c.len.ensures);
}
