use Rattle.std.proofs.Common.{◌≡◌, ◌∙◌, ◌+◌, ◌-◌, ◌/◌, ◌<◌, ◌≤◌, Less, Equal, Greater, suc, length, map, nat_cmp, string_bytes, subst, sym, arith, rules}
use Rattle.std.specs.Cmp.Lexicographic.{slice_cmp}
use Rattle.jv_data.proofs.Names.{IsPast, IsAhead, past_more, past_here, ahead_at, ahead_of_none, between}
use Rattle.jv_data.proofs.containers.names.find.Goals as goal

pub loop-low-init : goal.loop-low-init
loop-low-init c = (omega arith, omega arith, tt, ahead_of_none c.args.name.now c.args.texts.now)

pub loop-low-preserved-in-Less : goal.loop-low-preserved-in-Less
loop-low-preserved-in-Less c =
    let texts = c.args.texts.now in
    let middle = c.loop-low.low + (c.loop-low.high - c.loop-low.low) / 2 in
    let x = c.index-texts-middle.result in
    let within : middle < length texts = search rules in
    let order : slice_cmp nat_cmp c.args.name.now (string_bytes x) ≡ Less = sym (rw c.as_str.ensures.value at c.compare.ensures) ∙ c.in-Less.is in
    (omega arith, omega (arith, within), c.loop-low.invariant.2, ahead_at c.args.name.now texts middle x within c.index-texts-middle.is order)

pub returns-in-Equal : goal.returns-in-Equal
returns-in-Equal c =
    let texts = c.args.texts.now in
    let middle = c.loop-low.low + (c.loop-low.high - c.loop-low.low) / 2 in
    let x = c.index-texts-middle.result in
    let within : middle < length texts = search rules in
    let order : slice_cmp nat_cmp c.args.name.now (string_bytes x) ≡ Equal = sym (rw c.as_str.ensures.value at c.compare.ensures) ∙ c.in-Equal.is in
    past_here c.args.name.now texts middle x c.requires within c.index-texts-middle.is order

pub loop-low-preserved : goal.loop-low-preserved
loop-low-preserved c =
    let texts = c.args.texts.now in
    let middle = c.loop-low.low + (c.loop-low.high - c.loop-low.low) / 2 in
    let x = c.index-texts-middle.result in
    let within : middle < length texts = search rules in
    let next : middle + 1 ≤ c.loop-low.high = search rules in
    let order : slice_cmp nat_cmp c.args.name.now (string_bytes x) ≡ Greater = sym (rw c.as_str.ensures.value at c.compare.ensures) ∙ c.in-Greater.is in
    let one : suc middle ≡ middle + 1 = omega arith in
    (next, c.loop-low.invariant.1, subst (IsPast c.args.name.now (map string_bytes texts)) one (past_more c.args.name.now texts middle x c.requires within c.index-texts-middle.is order), c.loop-low.invariant.3)

pub returns : goal.returns
returns c =
    let all : c.loop-low.high ≡ c.loop-low.low = search rules in
    between c.args.name.now (map string_bytes c.args.texts.now) c.loop-low.low c.loop-low.invariant.2 (subst (IsAhead c.args.name.now (map string_bytes c.args.texts.now)) all c.loop-low.invariant.3)
