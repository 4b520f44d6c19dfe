use Rattle.std.proofs.Common.{◌∙◌, ◌<◌, [], drop, length, nat_cmp, ap, sym, rules}
use Rattle.std.proofs.lemmas.List.{drop_more, nil_from_length}
use Rattle.std.specs.Cmp.Lexicographic.{slice_cmp}
use Rattle.std.specs.Slice.Iter.{iter_rest}
use Rattle.jv_data.proofs.containers.names.compare.Goals as goal

pub returns-in-None : goal.returns-in-None
returns-in-None c =
    let left = c.args.left.now in
    let index = c.loop-byte.byte-index in
    let within : index < length left = search rules in
    let none = nil_from_length (iter_rest c.loop-byte.others) c.in-None.ensures.steps.0 in
    sym (c.loop-byte.invariant ∙ ap (slice_cmp nat_cmp (drop index left)) none ∙ ap (λ xs. slice_cmp nat_cmp xs []) (drop_more left index 0 within))
