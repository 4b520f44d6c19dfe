use Rattle.std.proofs.Common.{◌≡◌, ◌∙◌, ◌+◌, ◌-◌, ◌<◌, ◌++◌, ◌∷◌, [], suc, ap, sym, rules, arith, append_assoc, map}
use Rattle.std.proofs.lemmas.List.{map-append, nil_from_length}
use Rattle.jv_data.specs.Value.{item}
use Rattle.jv_data.specs.View.{items_view, view}
use Rattle.jq_natives.specs.Arrays.{opened}
use Rattle.jq_natives.specs.declared.flattening.Level.{Level}
use Rattle.jq_natives.proofs.Opened.{left_in, left_push, opened_array, some_weight, steps_in, steps_push, weight, weights}
use Rattle.jq_natives.proofs.flattening.opened.Goals as goal

pub loop-level-smaller-in_default-split_first : goal.loop-level-smaller-in_default-split_first
loop-level-smaller-in_default-split_first c =
    let before = c.pop.new.self.items in
    let level = c.in-Some.level in
    let all : c.loop-level.open.items ≡ before ++ level ∷ [] = search rules in
    let steps : steps_in c.loop-level.open.items ≡ suc (weights (items_view level.items.now)) + steps_in before = ap steps_in all ∙ steps_push before level in
    let less : steps_in before < steps_in c.loop-level.open.items = omega arith in
    less

pub loop-level-preserved-in_default-split_first : goal.loop-level-preserved-in_default-split_first
loop-level-preserved-in_default-split_first c =
    let before = c.pop.new.self.items in
    let level = c.in-Some.level in
    let flat = map view c.loop-level.flat.items in
    let all : c.loop-level.open.items ≡ before ++ level ∷ [] = search rules in
    let none : level.items.now ≡ [] = nil_from_length level.items.now (search rules) in
    c.loop-level.invariant ∙ ap (λ es. flat ++ left_in es) all
    ∙ ap (λ vs. flat ++ vs) (left_push before level ∙ ap (λ xs. opened level.levels (items_view xs) ++ left_in before) none)

pub loop-level-smaller-in_ok-push-in-Some-opened_items : goal.loop-level-smaller-in_ok-push-in-Some-opened_items
loop-level-smaller-in_ok-push-in-Some-opened_items c =
    let before = c.pop.new.self.items in
    let level = c.in-Some.level in
    let first = c.in-Some-split_first.first.now in
    let more = items_view c.in-Some-split_first.items.now in
    let inner = items_view c.in-Some-opened_items.items.now in
    let outer : Level = record { items = c.in-Some-split_first.items; levels = level.levels } in
    let inside : Level = record { items = c.in-Some-opened_items.items; levels = level.levels - 1 } in
    let all : c.loop-level.open.items ≡ before ++ level ∷ [] = search rules in
    let parts : level.items.now ≡ first ∷ c.in-Some-split_first.items.now = search rules in
    let one : steps_in c.push.new.self.items ≡ suc (weights more) + steps_in before = ap steps_in c.in_ok-push.ensures.items ∙ steps_push before outer in
    let two : steps_in c.push-in-Some-opened_items.new.self.items ≡ suc (weights inner) + steps_in c.push.new.self.items = ap steps_in c.in_ok-push-in-Some-opened_items.ensures.items ∙ steps_push c.push.new.self.items inside in
    let heavy : weight (view first) ≡ suc (suc (weights inner)) = ap weight c.in-Some-opened_items.ensures.1 in
    let steps : steps_in c.loop-level.open.items ≡ suc (weight (view first) + weights more) + steps_in before =
    ap steps_in all ∙ steps_push before level ∙ ap (λ xs. suc (weights (items_view xs)) + steps_in before) parts in
    let less : steps_in c.push-in-Some-opened_items.new.self.items < steps_in c.loop-level.open.items = omega arith in
    less

pub loop-level-preserved-in_ok-push-in-Some-opened_items : goal.loop-level-preserved-in_ok-push-in-Some-opened_items
loop-level-preserved-in_ok-push-in-Some-opened_items c =
    let before = c.pop.new.self.items in
    let level = c.in-Some.level in
    let n = level.levels in
    let first = c.in-Some-split_first.first.now in
    let more = items_view c.in-Some-split_first.items.now in
    let inner = items_view c.in-Some-opened_items.items.now in
    let flat = map view c.loop-level.flat.items in
    let outer : Level = record { items = c.in-Some-split_first.items; levels = n } in
    let inside : Level = record { items = c.in-Some-opened_items.items; levels = n - 1 } in
    let all : c.loop-level.open.items ≡ before ++ level ∷ [] = search rules in
    let parts : level.items.now ≡ first ∷ c.in-Some-split_first.items.now = search rules in
    let one : left_in c.push.new.self.items ≡ opened n more ++ left_in before = ap left_in c.in_ok-push.ensures.items ∙ left_push before outer in
    let two : left_in c.push-in-Some-opened_items.new.self.items ≡ opened (n - 1) inner ++ (opened n more ++ left_in before) =
    ap left_in c.in_ok-push-in-Some-opened_items.ensures.items ∙ left_push c.push.new.self.items inside ∙ ap (λ vs. opened (n - 1) inner ++ vs) one in
    c.loop-level.invariant ∙ ap (λ es. flat ++ left_in es) all
    ∙ ap (λ vs. flat ++ vs) (
    left_push before level ∙ ap (λ xs. opened n (items_view xs) ++ left_in before) parts
    ∙ ap (λ v. opened n (item v more) ++ left_in before) c.in-Some-opened_items.ensures.1
    ∙ ap (λ vs. vs ++ left_in before) (opened_array n inner more c.in-Some-opened_items.ensures.0)
    ∙ append_assoc (opened (n - 1) inner) (opened n more) (left_in before) ∙ sym two)

pub loop-level-smaller : goal.loop-level-smaller
loop-level-smaller c =
    let before = c.pop.new.self.items in
    let level = c.in-Some.level in
    let first = c.in-Some-split_first.first.now in
    let more = items_view c.in-Some-split_first.items.now in
    let outer : Level = record { items = c.in-Some-split_first.items; levels = level.levels } in
    let all : c.loop-level.open.items ≡ before ++ level ∷ [] = search rules in
    let parts : level.items.now ≡ first ∷ c.in-Some-split_first.items.now = search rules in
    let one : steps_in c.push.new.self.items ≡ suc (weights more) + steps_in before = ap steps_in c.in_ok-push.ensures.items ∙ steps_push before outer in
    let heavy = some_weight (view first) in
    let steps : steps_in c.loop-level.open.items ≡ suc (weight (view first) + weights more) + steps_in before =
    ap steps_in all ∙ steps_push before level ∙ ap (λ xs. suc (weights (items_view xs)) + steps_in before) parts in
    let less : steps_in c.push.new.self.items < steps_in c.loop-level.open.items = omega arith in
    less

pub loop-level-preserved : goal.loop-level-preserved
loop-level-preserved c =
    let before = c.pop.new.self.items in
    let level = c.in-Some.level in
    let n = level.levels in
    let first = c.in-Some-split_first.first.now in
    let more = items_view c.in-Some-split_first.items.now in
    let old = c.loop-level.flat.items in
    let flat = map view old in
    let v = c.in_ok-clone-in-None.field-0 in
    let outer : Level = record { items = c.in-Some-split_first.items; levels = n } in
    let all : c.loop-level.open.items ≡ before ++ level ∷ [] = search rules in
    let parts : level.items.now ≡ first ∷ c.in-Some-split_first.items.now = search rules in
    let same : view v ≡ view first = search rules in
    let one : left_in c.push.new.self.items ≡ opened n more ++ left_in before = ap left_in c.in_ok-push.ensures.items ∙ left_push before outer in
    let pushed : map view c.push-in-None.new.self.items ≡ flat ++ view first ∷ [] = ap (map view) c.in_ok-push-in-None.ensures.items ∙ map-append view old (v ∷ []) ∙ ap (λ w. flat ++ w ∷ []) same in
    c.loop-level.invariant ∙ ap (λ es. flat ++ left_in es) all
    ∙ ap (λ vs. flat ++ vs) (
    left_push before level ∙ ap (λ xs. opened n (items_view xs) ++ left_in before) parts
    ∙ ap (λ vs. vs ++ left_in before) (c.in-None.ensures more) ∙ ap (λ vs. view first ∷ vs) (sym one))
    ∙ sym (append_assoc flat (view first ∷ []) (left_in c.push.new.self.items)) ∙ ap (λ vs. vs ++ left_in c.push.new.self.items) (sym pushed)
