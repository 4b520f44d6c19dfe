use Rattle.std.proofs.Common.{◌≡◌, ◌∙◌, List, ap, sym, subst, map, reverse}
use Rattle.std.specs.Prelude.{zip}
use Rattle.std.specs.Result.{IfOk}
use Rattle.jv_data.specs.View.{view}
use Rattle.jq_meaning.specs.Runs.{Item}
use Rattle.jq_meaning.specs.Steps.{part_of}
use Rattle.jq_state.specs.Items.{item_at, item_of, keys_of}
use Rattle.jq_operations.proofs.Items.{parts_plain, parts_located}
use Rattle.jq_operations.proofs.Pairs.{same_count}
use Rattle.jq_operations.proofs.parts.part_items.Goals as goal

pub located_items-requires : goal.located_items-requires
located_items-requires c = same_count c.in_ok-keys.keys.items c.args.parts.items (view c.args.item.now.value) c.in_ok-keys.ensures c.requires

pub returns-in_ok-keys : goal.returns-in_ok-keys
returns-in_ok-keys c =
    let v = view c.args.item.now.value in
    let path = keys_of c.args.item.now.path in
    let parts = map view c.args.parts.items in
    let keys = map view c.in_ok-keys.keys.items in
    subst (λ (made : List Item). IfOk c.located_items.result (λ xs. reverse (map item_of xs.items) ≡ made))
    (parts_located v path (zip keys parts) ∙ ap (λ ks. map (λ p. part_of (item_at v path) p.0 p.1) (zip ks parts)) c.in_ok-keys.ensures)
    c.located_items.ensures

pub returns-else-is_present : goal.returns-else-is_present
returns-else-is_present c =
    let v = view c.args.item.now.value in
    let path = keys_of c.args.item.now.path in
    subst (λ (made : List Item). IfOk c.plain_items.result (λ xs. reverse (map item_of xs.items) ≡ made))
    (parts_plain v path (map view c.args.parts.items) (sym c.if-is_present.false ∙ c.is_present.ensures) c.requires)
    c.plain_items.ensures
