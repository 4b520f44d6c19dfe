use Rattle.std.proofs.Common.{◌≡◌, ◌∙◌, ◌++◌, ◌∷◌, [], ℕ, ap, sym, rules, drop, map}
use Rattle.std.proofs.lemmas.List.{map-append, take_rest}
use Rattle.std.proofs.lemmas.Slice.{between_to_end}
use Rattle.std.specs.List.{starts_with}
use Rattle.jv_data.specs.View.{view}
use Rattle.jq_natives.specs.Answers.{count}
use Rattle.jq_natives.proofs.ListPlaces.{place_more, no_place_more}
use Rattle.jq_natives.proofs.searching.places.Goals as goal
use Rattle.jq_natives.proofs.searching.places.Goals.{then-starts_with+in_ok-count+in_ok-push, else-starts_with}

pub loop-place-preserved : goal.loop-place-preserved
loop-place-preserved g c =
    let n = c.loop-place.place in
    let old = c.loop-place.places.items in
    let test = λ (i : ℕ). starts_with g.T.PartialEq.eq (drop i c.args.whole.now) c.args.part.now in
    let here : c.starts_with.result ≡ test n = search (rules, take_rest, between_to_end) in
    elim c.if-starts_with.branch [
      | then-starts_with+in_ok-count+in_ok-push w ↦
          ap (λ p. map view p.items) w.places-is ∙ ap (map view) w.in_ok-push.ensures.items ∙ map-append view old (w.in_ok-count.field-0 ∷ [])
          ∙ ap (λ v. map view old ++ v ∷ []) w.in_ok-count.ensures.value ∙ ap (λ vs. vs ++ count n ∷ []) c.loop-place.invariant
          ∙ sym (place_more count test n (sym here ∙ w.if-starts_with.true))
      | else-starts_with w ↦ ap (λ p. map view p.items) w.places-is ∙ c.loop-place.invariant ∙ sym (no_place_more count test n (sym here ∙ w.if-starts_with.false))
    ]
