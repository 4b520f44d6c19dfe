use Rattle.std.proofs.Common.{◌≡◌, ◌∙◌, ◌∷◌, ◌++◌, [], ap, subst, sym, None, nat_cmp, string_bytes, string_cmp}
use Rattle.std.proofs.lemmas.List.{map-append}
use Rattle.std.specs.BTreeMap.{get, get_by, UpdatesBy}
use Rattle.std.specs.Cmp.Lexicographic.{slice_cmp}
use Rattle.std.specs.Str.{chars}
use Rattle.jv_value.specs.private.Groups.{AreGrouped, held_in}
use Rattle.jv_value.specs.Locations.{key}
use Rattle.jv_value.specs.private.Locations.{location_in, locations_in}
use Rattle.jv_value.proofs.Grouped.{grouped_more, held_or_none}
use Rattle.jv_value.proofs.grouping.push_named.Goals as goal

pub returns : goal.returns
returns c = λ qs a.
    let old = c.args.groups.now in
    let k = c.in_ok-from_str.field-0 in
    let group = c.unwrap_or-group.result in
    let rest = c.args.rest in
    let spelt : string_bytes k ≡ c.args.name.now = c.in_ok-from_str.ensures.ok in
    let found : c.remove.result ≡ get string_cmp old k = c.remove.ensures.value ∙ ap (λ bs. get_by (λ l. slice_cmp nat_cmp bs (string_bytes l)) old) (sym spelt) in
    let before : locations_in group.items ≡ held_in (get string_cmp old k) = ap (λ g. locations_in g.items) c.unwrap_or-group.ensures ∙ held_or_none c.remove.result c.new.result c.new.ensures.items ∙ ap held_in found in
    let more : locations_in c.push.new.self.items ≡ held_in (get string_cmp old k) ++ location_in rest ∷ [] =
    ap locations_in c.in_ok-push.ensures.items ∙ map-append location_in group.items (rest ∷ []) ∙ ap (λ ps. ps ++ location_in rest ∷ []) before in
    let taken : UpdatesBy string_cmp (string_cmp k) old c.remove.new.self None =
    subst (λ bs. UpdatesBy string_cmp (λ l. slice_cmp nat_cmp bs (string_bytes l)) old c.remove.new.self None) (sym spelt) c.remove.ensures.updates in
    subst (λ bs. AreGrouped c.insert.new.self (qs ++ (key (chars bs) ∷ location_in rest) ∷ [])) spelt
    (grouped_more old c.remove.new.self c.insert.new.self k c.push.new.self (location_in rest) qs more taken c.in_ok-insert.ensures.updates a)
