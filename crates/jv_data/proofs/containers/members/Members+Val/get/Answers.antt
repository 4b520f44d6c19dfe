use Rattle.std.proofs.Common.{◌≡◌, ◌∙◌, sym, ap, option_copied, slice_get}
use Rattle.jv_data.proofs.Names.{got_is, lookup_at, lookup_none}
use Rattle.jv_data.proofs.containers.members.Members+Val.get.Goals as goal

pub returns-in-Ok : goal.returns-in-Ok
returns-in-Ok c =
    let names = c.in-Few.names.value.texts.items in
    let values = c.in-Few.values.items in
    let got : option_copied c.get.result ≡ slice_get c.deref-in-Ok.result.now c.in-Ok.index = got_is c.get.result c.deref-in-Ok.result.now c.in-Ok.index c.get.ensures.lookup.3 c.get.ensures.lookup.1 in
    rw c.in-Few.is
    (got ∙ ap (λ xs. slice_get xs c.in-Ok.index) c.deref-in-Ok.ensures.value
    ∙ sym (lookup_at c.args.key.now names values c.in-Ok.index (rw c.deref.ensures at c.in-Ok.ensures.place)))

pub returns-in-Err : goal.returns-in-Err
returns-in-Err c =
    let names = c.in-Few.names.value.texts.items in
    rw c.in-Few.is
    (sym (lookup_none c.args.key.now names c.in-Few.values.items c.in-Err.field-0 (rw c.deref.ensures at c.in-Err.ensures.place) (rw c.deref.ensures at c.find.ensures.rising)))
