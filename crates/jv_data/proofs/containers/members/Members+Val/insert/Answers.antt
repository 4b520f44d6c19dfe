use Rattle.std.proofs.Common.{◌<◌, ◌∙◌, ap, length, rules, sym, zip}
use Rattle.jv_data.proofs.Names.{insert_entry-at}
use Rattle.jv_data.proofs.Places.{members_view-insert_entry}
use Rattle.jv_data.specs.View.{members_view}
use Rattle.jv_data.proofs.containers.members.Members+Val.insert.Goals as goal

pub returns-then-index-len-clause-ok : goal.returns-then-index-len-clause-ok
returns-then-index-len-clause-ok c =
    let names = c.in-Few.names.value.texts.items in
    let values = c.in-Few.values.items in
    let place = rw (c.deref.ensures, c.as_str.ensures.value) at c.in-Ok.ensures.place in
    let within : c.in-Ok.index < length values = search rules in
    rw c.in-Few.is (ap members_view (sym (insert_entry-at c.args.key names values c.in-Ok.index c.args.value place within)) ∙ members_view-insert_entry (zip names values) c.args.key c.args.value)
