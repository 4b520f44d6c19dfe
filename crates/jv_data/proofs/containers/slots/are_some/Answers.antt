use Rattle.std.proofs.Common.{◌≡◌, ◌∙◌, ◌∷◌, ◌+◌, ◌<◌, List, Option, Some, None, false, drop, length, is_none, ap, sym, subst, rules}
use Rattle.std.proofs.lemmas.List.{drop_all, drop_more}
use Rattle.jv_data.specs.private.Slots.{AreSome}
use Rattle.jv_data.specs.declared.values.Val.{Val}
use Rattle.jv_data.proofs.containers.slots.are_some.Goals as goal

some_first : (x : Option Val) (rest : List (Option Val)) → is_none x ≡ false → AreSome rest → AreSome (x ∷ rest)
some_first (Some v) rest e h = h
some_first None rest e h = absurd (cc)

pub loop-slot-preserved : goal.loop-slot-preserved
loop-slot-preserved c =
    let slots = c.args.slots.now in
    let x = c.slot-item.result in
    let rest = drop (c.loop-slot.slot-index + 1) slots in
    let within : c.loop-slot.slot-index < length slots = search rules in
    let next : drop c.loop-slot.slot-index slots ≡ x ∷ rest = drop_more slots c.loop-slot.slot-index x within ∙ ap (λ y. y ∷ rest) (sym c.slot-item.is) in
    let some : is_none x ≡ false = search rules in
    λ h. c.loop-slot.invariant (subst AreSome (sym next) (some_first x rest some h))

pub returns : goal.returns
returns c = λ h. c.loop-slot.invariant (subst AreSome (sym (drop_all c.loop-slot.slot-index c.args.slots.now (search rules))) tt)
