use Rattle.std.proofs.Common.{◌≡◌, ◌∙◌, ◌++◌, ◌∷◌, [], List, ap, sym, map, option_map, length, arith}
use Rattle.std.proofs.lemmas.List.{length-append, length-map, map-append}
use Rattle.jv_data.specs.Value.{Value}
use Rattle.jv_data.specs.View.{view}
use Rattle.jq_state.specs.Items.{item_at, item_of}
use Rattle.jq_operations.proofs.Pairs.{last_made}
use Rattle.jq_operations.proofs.parts.located_items.Invariants.{located}
use Rattle.jq_operations.proofs.parts.located_items.Goals as goal

pub loop-key-preserved : goal.loop-key-preserved
loop-key-preserved c =
    let key = c.in-Some-Some.key in
    let part = c.in-Some-Some.part in
    let keys = c.pop.new.self.items in
    let parts = c.pop-in-loop-key.new.self.items in
    let old = map item_of c.loop-key.items.items in
    let item = c.in_ok-located.field-0 in
    let some_keys : c.loop-key.keys.items ≡ keys ++ key ∷ [] = c.in-Some-Some.ensures.items in
    let some_parts : c.loop-key.parts.items ≡ parts ++ part ∷ [] = c.in-Some-Some.ensures'.items in
    let paired : length keys ≡ length parts =
    omega (arith, c.loop-key.invariant.paired, ap length some_keys, ap length some_parts, length-append keys (key ∷ []), length-append parts (part ∷ [])) in
    record {
      paired = paired;
      made =
          last_made (located c.args.path.now) _ (map view c.loop-key.keys.items) (map view keys) (map view c.loop-key.parts.items) (map view parts) (view key) (view part) old (map item_of c.push.new.self.items) (item_of item)
          (ap (map view) some_keys ∙ map-append view keys (key ∷ [])) (ap (map view) some_parts ∙ map-append view parts (part ∷ []))
          (length-map keys view ∙ paired ∙ sym (length-map parts view))
          (c.in_ok-located.ensures ∙ ap (λ path. item_at (view part) (option_map (λ (ks : List Value). ks ++ view key ∷ []) path)) c.in_ok-copy.ensures)
          (ap (map item_of) c.in_ok-push.ensures.items ∙ map-append item_of c.loop-key.items.items (item ∷ []))
          c.loop-key.invariant.made;
    }
