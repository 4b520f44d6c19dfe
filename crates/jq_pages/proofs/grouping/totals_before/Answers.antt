use Rattle.std.proofs.Common.{◌≡◌, ℕ, ◌+◌, ◌<◌, ◌≤◌, min, arith}
use Rattle.jq_pages.proofs.Groups.{all_groups, bounded_first, bounded_group, few_first, few_with, group_first, pieces_first, totals_group}
use Rattle.jq_pages.proofs.Sums.{room_err, room_failed, room_out, totals_join}
use Rattle.jq_pages.proofs.grouping.totals_before.Goals as goal

within : (n a b : ℕ) → n ≡ min a b → n ≤ b
within n a b e = omega arith

wide : (n m : ℕ) → n + m < 4294967296 → n + m < 18446744073709551616
wide n m l = omega arith

part : (n m : ℕ) → n + m < 4294967296 → m < 4294967296
part n m l = omega arith

pub and-sum-requires-clause-out : goal.and-sum-requires-clause-out
and-sum-requires-clause-out g c =
    let x = group_first c.args.groups.now c.args.pages.now c.smaller-whole.result c.loop-group.group-index _ c.requires.index (within _ _ _ c.smaller-whole.ensures) c.loop-group-test.true in
    room_out _ _ _ _ c.loop-group.invariant.bounded x.bounded (few_with c.args.pages.now c.loop-group.group-index c.requires.few)

pub and-sum-requires-clause-err : goal.and-sum-requires-clause-err
and-sum-requires-clause-err g c =
    let x = group_first c.args.groups.now c.args.pages.now c.smaller-whole.result c.loop-group.group-index _ c.requires.index (within _ _ _ c.smaller-whole.ensures) c.loop-group-test.true in
    room_err _ _ _ _ c.loop-group.invariant.bounded x.bounded (few_with c.args.pages.now c.loop-group.group-index c.requires.few)

pub and-sum-requires-clause-failed : goal.and-sum-requires-clause-failed
and-sum-requires-clause-failed g c =
    let x = group_first c.args.groups.now c.args.pages.now c.smaller-whole.result c.loop-group.group-index _ c.requires.index (within _ _ _ c.smaller-whole.ensures) c.loop-group-test.true in
    room_failed _ _ _ _ c.loop-group.invariant.bounded x.bounded (few_with c.args.pages.now c.loop-group.group-index c.requires.few)

pub loop-group-preserved : goal.loop-group-preserved
loop-group-preserved g c =
    let x = group_first c.args.groups.now c.args.pages.now c.smaller-whole.result c.loop-group.group-index _ c.requires.index (within _ _ _ c.smaller-whole.ensures) c.loop-group-test.true in
    record {
      value = totals_group _ _ _ c.loop-group.group-index c.args.pages.now x c.loop-group.invariant.value c.and-sum.ensures;
      bounded = bounded_group _ _ _ c.loop-group.group-index c.args.pages.now x c.loop-group.invariant.bounded c.and-sum.ensures;
    }

pub totals_in-requires : goal.totals_in-requires
totals_in-requires g c =
    let n = all_groups c.args.groups.now c.smaller-whole.result c.args.j c.loop-group.group-index c.smaller-whole.ensures c.loop-group-test.false c.loop-group.auto.group-index-end in
    part _ _ (few_first c.args.pages.now c.smaller-whole.result c.args.j c.loop-group.group-index n.0 n.1 c.requires.few)

pub and-requires-clause-out : goal.and-requires-clause-out
and-requires-clause-out g c =
    let n = all_groups c.args.groups.now c.smaller-whole.result c.args.j c.loop-group.group-index c.smaller-whole.ensures c.loop-group-test.false c.loop-group.auto.group-index-end in
    room_out _ _ _ _ c.loop-group.invariant.bounded c.totals_in.ensures.bounded (wide _ _ (few_first c.args.pages.now c.smaller-whole.result c.args.j c.loop-group.group-index n.0 n.1 c.requires.few))

pub and-requires-clause-err : goal.and-requires-clause-err
and-requires-clause-err g c =
    let n = all_groups c.args.groups.now c.smaller-whole.result c.args.j c.loop-group.group-index c.smaller-whole.ensures c.loop-group-test.false c.loop-group.auto.group-index-end in
    room_err _ _ _ _ c.loop-group.invariant.bounded c.totals_in.ensures.bounded (wide _ _ (few_first c.args.pages.now c.smaller-whole.result c.args.j c.loop-group.group-index n.0 n.1 c.requires.few))

pub and-requires-clause-failed : goal.and-requires-clause-failed
and-requires-clause-failed g c =
    let n = all_groups c.args.groups.now c.smaller-whole.result c.args.j c.loop-group.group-index c.smaller-whole.ensures c.loop-group-test.false c.loop-group.auto.group-index-end in
    room_failed _ _ _ _ c.loop-group.invariant.bounded c.totals_in.ensures.bounded (wide _ _ (few_first c.args.pages.now c.smaller-whole.result c.args.j c.loop-group.group-index n.0 n.1 c.requires.few))

pub returns-clause-value : goal.returns-clause-value
returns-clause-value g c =
    let n = all_groups c.args.groups.now c.smaller-whole.result c.args.j c.loop-group.group-index c.smaller-whole.ensures c.loop-group-test.false c.loop-group.auto.group-index-end in
    totals_join _ _ _ _ _ _ c.loop-group.invariant.value c.totals_in.ensures.value c.and.ensures (pieces_first c.args.pages.now c.smaller-whole.result c.args.j c.loop-group.group-index n.0 n.1)

pub returns-clause-bounded : goal.returns-clause-bounded
returns-clause-bounded g c =
    let n = all_groups c.args.groups.now c.smaller-whole.result c.args.j c.loop-group.group-index c.smaller-whole.ensures c.loop-group-test.false c.loop-group.auto.group-index-end in
    bounded_first _ _ _ c.args.pages.now c.smaller-whole.result c.args.j c.loop-group.group-index n.0 n.1 c.loop-group.invariant.bounded c.totals_in.ensures.bounded c.and.ensures
