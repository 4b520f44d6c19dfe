use Rattle.std.proofs.Common.{◌∙◌, ◌<◌, ◌≤◌, length, option_map, zip, sym, ap, ap₂, subst, rules}
use Rattle.std.specs.Str.{chars}
use Rattle.jv_data.proofs.Members.{same_names}
use Rattle.jv_data.proofs.Names.{below_length, lookup_at, lookup_none, lookup_past, remove_entry-at, remove_entry-none, remove_entry-past, same_texts, slice_get_is}
use Rattle.jv_data.proofs.Places.{member_found, members_view-remove_entry}
use Rattle.jv_data.proofs.Shares.{on_err}
use Rattle.jv_data.specs.Shared.{entries_held}
use Rattle.jv_data.specs.View.{view, members_view}
use Rattle.jv_data.specs.Names.{IsAt}
use Rattle.jv_data.specs.Members.{without}
use Rattle.jv_data.proofs.containers.members.Members+Val.remove.Goals as goal

pub returns-in_err-make_mut-in-Ok-clause-err : goal.returns-in_err-make_mut-in-Ok-clause-err
returns-in_err-make_mut-in-Ok-clause-err c =
    let names = c.in-Few.names.value in
    let now = c.make_mut.follows.lender-at-none.value in
    let same = same_texts names now (rw c.in_err-make_mut-in-Ok.was at c.make_mut.follows.holds-at-none) in
    on_err c.from_residual.result (same_names now.texts.items names.texts.items c.in-Few.values.items same ∙ ap (λ m. members_view (entries_held m)) (sym c.in-Few.is))

pub remove-requires : goal.remove-requires
remove-requires c =
    let names = c.in-Few.names.value in
    let own = c.in_ok-make_mut-in-Ok.field-0.now in
    let same = same_texts names own c.in_ok-make_mut-in-Ok.ensures.value in
    let place = rw c.deref.ensures at c.in-Ok.ensures.place in
    below_length c.args.key.now own.texts.items c.in-Ok.index (subst (λ ls. IsAt c.args.key.now ls c.in-Ok.index) (sym same) place)

pub returns-in_ok-make_mut-in-Ok-clause-value : goal.returns-in_ok-make_mut-in-Ok-clause-value
returns-in_ok-make_mut-in-Ok-clause-value c =
    let names = c.in-Few.names.value.texts.items in
    let values = c.in-Few.values.items in
    let place = rw c.deref.ensures at c.in-Ok.ensures.place in
    let within : c.in-Ok.index < length values = search rules in
    let found = lookup_at c.args.key.now names values c.in-Ok.index place ∙ slice_get_is values c.in-Ok.index c.remove-then-index-len.result within c.remove-then-index-len.ensures.value in
    rw c.in-Few.is (ap (option_map view) (sym found) ∙ member_found c.args.key.now c.utf8.key (zip names values))

pub returns-in_ok-make_mut-in-Ok-clause-left : goal.returns-in_ok-make_mut-in-Ok-clause-left
returns-in_ok-make_mut-in-Ok-clause-left c =
    let names = c.in-Few.names.value in
    let values = c.in-Few.values.items in
    let own = c.in_ok-make_mut-in-Ok.field-0.now in
    let same = same_texts names own c.in_ok-make_mut-in-Ok.ensures.value in
    let place = subst (λ ls. IsAt c.args.key.now ls c.in-Ok.index) (sym same) (rw c.deref.ensures at c.in-Ok.ensures.place) in
    let within : c.in-Ok.index < length values = search rules in
    let left = ap (λ n. n.texts.items) (c.make_mut.follows.holds c.remove.new.self (search rules)) ∙ c.remove.ensures in
    rw c.in-Few.is
    (ap₂ (λ ns vs. members_view (zip ns vs)) left c.remove-then-index-len.ensures.items
    ∙ ap members_view (sym (remove_entry-at c.args.key.now own.texts.items values c.in-Ok.index place within))
    ∙ members_view-remove_entry c.args.key.now c.utf8.key (zip own.texts.items values)
    ∙ ap (without (chars c.args.key.now)) (same_names own.texts.items names.texts.items values same))

pub returns-else-index-len-clause-value : goal.returns-else-index-len-clause-value
returns-else-index-len-clause-value c =
    let names = c.in-Few.names.value.texts.items in
    let values = c.in-Few.values.items in
    let past : length values ≤ c.in-Ok.index = search rules in
    let none = lookup_past c.args.key.now names values c.in-Ok.index (rw c.deref.ensures at c.in-Ok.ensures.place) past in
    rw c.in-Few.is (ap (option_map view) (sym none) ∙ member_found c.args.key.now c.utf8.key (zip names values))

pub returns-else-index-len-clause-left : goal.returns-else-index-len-clause-left
returns-else-index-len-clause-left c =
    let names = c.in-Few.names.value.texts.items in
    let values = c.in-Few.values.items in
    let past : length values ≤ c.in-Ok.index = search rules in
    let kept = remove_entry-past c.args.key.now names values c.in-Ok.index (rw c.deref.ensures at c.in-Ok.ensures.place) past in
    rw c.in-Few.is (ap members_view (sym kept) ∙ members_view-remove_entry c.args.key.now c.utf8.key (zip names values))

pub returns-in-Err-clause-value : goal.returns-in-Err-clause-value
returns-in-Err-clause-value c =
    let names = c.in-Few.names.value.texts.items in
    let values = c.in-Few.values.items in
    let none = lookup_none c.args.key.now names values c.in-Err.field-0 (rw c.deref.ensures at c.in-Err.ensures.place) (rw c.deref.ensures at c.find.ensures.rising) in
    rw c.in-Few.is (ap (option_map view) (sym none) ∙ member_found c.args.key.now c.utf8.key (zip names values))

pub returns-in-Err-clause-left : goal.returns-in-Err-clause-left
returns-in-Err-clause-left c =
    let names = c.in-Few.names.value.texts.items in
    let values = c.in-Few.values.items in
    let kept = remove_entry-none c.args.key.now names values c.in-Err.field-0 (rw c.deref.ensures at c.in-Err.ensures.place) (rw c.deref.ensures at c.find.ensures.rising) in
    rw c.in-Few.is (ap members_view (sym kept) ∙ members_view-remove_entry c.args.key.now c.utf8.key (zip names values))

pub returns-in-Many-clause-value : goal.returns-in-Many-clause-value
returns-in-Many-clause-value c = rw c.in-Many.is (ap (option_map view) c.remove-in-Many.ensures.value ∙ member_found c.args.key.now c.utf8.key c.in-Many.map.entries)

pub returns-in-Many-clause-left : goal.returns-in-Many-clause-left
returns-in-Many-clause-left c = rw c.in-Many.is (ap members_view c.remove-in-Many.ensures.entries ∙ members_view-remove_entry c.args.key.now c.utf8.key c.in-Many.map.entries)
