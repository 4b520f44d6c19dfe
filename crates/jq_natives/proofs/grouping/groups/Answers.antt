use Rattle.std.proofs.Common.{◌≡◌, ◌≢◌, ◌∙◌, ◌<◌, ◌++◌, ◌∷◌, [], true, false, ap, sym, subst, rules, arith, append_assoc, length, map}
use Rattle.std.proofs.lemmas.Grind.{common_steps}
use Rattle.std.proofs.lemmas.List.{append-nil, length-map, map-append, nil_from_length}
use Rattle.std.specs.Vec.Iter.{into_iter_items}
use Rattle.jq_natives.specs.private.SortedItems.{goes_with, groups_in, pair_of}
use Rattle.jq_natives.specs.Sorting.{groups}
use Rattle.jq_natives.proofs.Groups.{HaveOneKey, one_key_more, closed, all_closed}
use Rattle.jq_natives.proofs.grouping.groups.Goals as goal

pub loop-pair-preserved-in_ok-push : goal.loop-pair-preserved-in_ok-push
loop-pair-preserved-in_ok-push c =
    let l = c.loop-pair in
    let p = c.in-Some.pair in
    let made = groups_in l.groups.items in
    let group = map pair_of l.group.items in
    let rest = map pair_of (into_iter_items c.next.new.self) in
    let count = ap length c.in-Some.ensures.steps.0 in
    let more : map pair_of c.push.new.self.items ≡ group ++ pair_of p ∷ [] = ap (map pair_of) c.in_ok-push.ensures.items ∙ map-append pair_of l.group.items (p ∷ []) in
    let goes : goes_with group (pair_of p) ≡ true = ap (λ xs. goes_with (map pair_of xs) (pair_of p)) (sym c.as_slice.ensures.value) ∙ sym c.goes_with.ensures ∙ c.if-goes_with.true in
    record {
      left = omega (arith, c.in-Some.ensures.steps.1, count, l.invariant.left);
      one_key = subst HaveOneKey (sym more) (one_key_more group (pair_of p) l.invariant.one_key goes);
      grouped =
          l.invariant.grouped ∙ ap (λ xs. made ++ groups (group ++ map pair_of xs)) c.in-Some.ensures.steps.0
          ∙ ap (λ ps. made ++ groups ps) (sym (append_assoc group (pair_of p ∷ []) rest) ∙ ap (λ ps. ps ++ rest) (sym more));
    }

pub loop-pair-preserved : goal.loop-pair-preserved
loop-pair-preserved c =
    let l = c.loop-pair in
    let p = c.in-Some.pair in
    let made = groups_in l.groups.items in
    let group = map pair_of l.group.items in
    let rest = map pair_of (into_iter_items c.next.new.self) in
    let count = ap length c.in-Some.ensures.steps.0 in
    let new : map pair_of c.replace.new.dest.items ≡ pair_of p ∷ [] = ap (λ v. map pair_of v.items) c.replace.ensures.after ∙ ap (map pair_of) c.in_ok-vec.ensures.items in
    let parts : goes_with group (pair_of p) ≡ false = ap (λ xs. goes_with (map pair_of xs) (pair_of p)) (sym c.as_slice.ensures.value) ∙ sym c.goes_with.ensures ∙ c.if-goes_with.false in
    let more : groups_in c.push-else-goes_with.new.self.items ≡ made ++ group ∷ [] =
    ap groups_in c.in_ok-push-2.ensures.items ∙ map-append (λ g. map pair_of g.items) l.groups.items (c.replace.result ∷ []) ∙ ap (λ v. made ++ map pair_of v.items ∷ []) c.replace.ensures.value in
    record {
      left = omega (arith, c.in-Some.ensures.steps.1, count, l.invariant.left);
      one_key = subst HaveOneKey (sym new) tt;
      grouped =
          l.invariant.grouped ∙ ap (λ xs. made ++ groups (group ++ map pair_of xs)) c.in-Some.ensures.steps.0
          ∙ ap (λ gs. made ++ gs) (closed group (pair_of p) rest l.invariant.one_key parts)
          ∙ sym (append_assoc made (group ∷ []) (groups (pair_of p ∷ rest)))
          ∙ ap (λ gs. gs ++ groups (pair_of p ∷ rest)) (sym more)
          ∙ ap (λ ps. groups_in c.push-else-goes_with.new.self.items ++ groups (ps ++ rest)) (sym new);
    }

pub returns-then-is_empty : goal.returns-then-is_empty
returns-then-is_empty c =
    let l = c.loop-pair in
    let made = groups_in l.groups.items in
    let none : l.group.items ≡ [] = nil_from_length l.group.items (search rules) in
    let done : into_iter_items l.pair-iterator ≡ [] = nil_from_length (into_iter_items l.pair-iterator) (sym l.invariant.left ∙ c.in-None.ensures.steps.0) in
    sym (l.invariant.grouped ∙ ap (λ xs. made ++ groups (map pair_of xs ++ map pair_of (into_iter_items l.pair-iterator))) none
    ∙ ap (λ xs. made ++ groups (map pair_of xs)) done ∙ append-nil made)

pub returns : goal.returns
returns c =
    let l = c.loop-pair in
    let made = groups_in l.groups.items in
    let group = map pair_of l.group.items in
    let done : into_iter_items l.pair-iterator ≡ [] = nil_from_length (into_iter_items l.pair-iterator) (sym l.invariant.left ∙ c.in-None.ensures.steps.0) in
    let positive : 0 < length l.group.items = grind (arith, common_steps) in
    let size : length group ≡ length l.group.items = length-map l.group.items pair_of in
    let some : length group ≢ 0 = omega arith in
    let more : groups_in c.push-2.new.self.items ≡ made ++ group ∷ [] = ap groups_in c.in_ok-push-3.ensures.items ∙ map-append (λ g. map pair_of g.items) l.groups.items (l.group ∷ []) in
    more ∙ sym (l.invariant.grouped ∙ ap (λ xs. made ++ groups (group ++ map pair_of xs)) done ∙ ap (λ gs. made ++ gs) (all_closed group l.invariant.one_key some))
