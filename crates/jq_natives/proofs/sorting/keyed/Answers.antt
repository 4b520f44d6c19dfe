use Rattle.std.proofs.Common.{◌≡◌, ◌≢◌, ◌∙◌, ap, sym, subst, rules, length, map, Ok, zip}
use Rattle.jv_data.specs.Fails.{FailsAs}
use Rattle.jv_data.specs.Held.{values_in}
use Rattle.jv_data.specs.Kind.{kind_of}
use Rattle.jv_data.specs.Shared.{items_in}
use Rattle.jv_data.proofs.shared.Items.{values_of-items_of}
use Rattle.jv_data.specs.Value.{array, items_of, values_of}
use Rattle.jv_data.specs.View.{items_view, view}
use Rattle.jq_natives.specs.private.SortedItems.{AreKeysOf}
use Rattle.jq_natives.specs.Sorting.{keyed_answer}
use Rattle.jq_natives.proofs.KeyedAnswers.{keys_match, keys_differ}
use Rattle.jq_natives.proofs.KeysInArrays.{keys_ignored}
use Rattle.jv_data.proofs.shared.Levels.{view-List}
use Rattle.jq_natives.proofs.sorting.keyed.Goals as goal

pub into_list-requires : goal.into_list-requires
into_list-requires c = ap kind_of (ap view c.in-List-List.is-0 ∙ view-List c.in-List-List.items)

pub returns-then-len : goal.returns-then-len
returns-then-len c = λ f.
    let a = c.in-List-List.items in
    let b = c.in-List-List.keys in
    let apart : length (items_in a) ≢ length (items_in b) = λ e. c.if-len.true (c.len.ensures ∙ e ∙ sym c.len-in-List-List.ensures) in
    let seen = ap (λ v. keyed_answer f c.args.text.now v (view c.args.keys.now)) (ap view c.in-List-List.is-0 ∙ view-List a) ∙ ap (keyed_answer f c.args.text.now (array (items_view (items_in a)))) (ap view c.in-List-List.is-1 ∙ view-List b) in
    subst (FailsAs c.unmatched_keys.result) (sym (seen ∙ keys_differ f c.args.text.now a b apart)) c.unmatched_keys.ensures

pub returns-in_ok-pairs-in-List-List : goal.returns-in_ok-pairs-in-List-List
returns-in_ok-pairs-in-List-List c = λ f ignores.
    let a = c.in-List-List.items in
    let b = c.in-List-List.keys in
    let r = c.into_list.result in
    let same : length (items_in a) ≡ length (items_in b) = search rules in
    let seen = ap (λ v. keyed_answer f c.args.text.now v (view c.args.keys.now)) (ap view c.in-List-List.is-0 ∙ view-List a) ∙ ap (keyed_answer f c.args.text.now (array (items_view (items_in a)))) (ap view c.in-List-List.is-1 ∙ view-List b) in
    let moved : array (items_of (values_in r)) ≡ array (items_of (values_in a)) = sym c.into_list.ensures ∙ ap view c.in-List-List.is-0 ∙ view-List a in
    let parts : items_of (values_in r) ≡ items_of (values_in a) = cc in
    let values : map view c.in_ok-items-in-List-List.items.items ≡ map view (items_in a) = c.in_ok-items-in-List-List.ensures ∙ sym (values_of-items_of (values_in r)) ∙ ap values_of parts ∙ values_of-items_of (values_in a) in
    let keys = subst (λ ks. AreKeysOf (map view ks) (map view c.in_ok-keys-in-List-List.keys.items)) c.as_slice.ensures c.in_ok-keys-in-List-List.ensures in
    let pairs = ap (zip (map view c.in_ok-keys-in-List-List.keys.items)) (sym values) ∙ sym c.in_ok-pairs-in-List-List.ensures in
    seen ∙ keys_match f c.args.text.now a b same ∙ ap Ok (keys_ignored f ignores (map view (items_in b)) (map view c.in_ok-keys-in-List-List.keys.items) (map view (items_in a)) keys ∙ ap f pairs)
