use Rattle.std.proofs.Common.{◌+◌, arith}
use Rattle.jq_lexer.proofs.Texts.{bytes_next, bytes_within}
use Rattle.jq_lexer.proofs.places.byte_count.Goals as goal

pub overflow_add-count : goal.overflow_add-count
overflow_add-count c =
    let next = bytes_next c.args.characters.now c.loop-c.c-index c.c-item.result c.loop-c-test.true c.c-item.is in
    let within = bytes_within c.args.characters.now (c.loop-c.c-index + 1) in omega (arith, c.requires, c.len_utf8-count.ensures.len, c.loop-c.invariant)

pub loop-c-preserved : goal.loop-c-preserved
loop-c-preserved c =
    let next = bytes_next c.args.characters.now c.loop-c.c-index c.c-item.result c.loop-c-test.true c.c-item.is in
    omega (arith, c.len_utf8-count.ensures.len, c.loop-c.invariant)
