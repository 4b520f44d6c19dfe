-- The effect of the edits of a session's inputs on its state.
use Rattle.std.proofs.Common.{◌≡◌, ℕ, ◌+◌, ◌<◌, ◌≤◌, List, [], ◌∷◌, length, take, drop, set, map, Ok, sym, ap, ◌∙◌, arith}
use Rattle.std.proofs.lemmas.Bool.{lt-ltb, le-ltb}
use Rattle.std.proofs.lemmas.List.{length-map}
use Rattle.std.specs.List as list
use Rattle.jv_data.specs.Value.{Value}
use Rattle.jv_data.specs.View.{view}
use Rattle.jv_data.specs.declared.values.Val.{Val}
use Rattle.jq_pages.specs.Edits.{insert, replace, remove, most_inputs}
use Rattle.jq_session.specs.States.{State, over, with_inputs, after}
use Rattle.jq_session.proofs.Lists.{joined, joined_inserted, joined_replaced, joined_removed}

-- ---- edits that the definition accepts

accepts_insert : (s : State) (k : ℕ) (v : Value) → k ≤ length s.inputs → length s.inputs < most_inputs → after (insert k v) s ≡ Ok (over s (list.insert s.inputs k v))
accepts_insert s k v placed room = rw (le-ltb (length s.inputs) k placed, lt-ltb (length s.inputs) most_inputs room)

accepts_replace : (s : State) (k : ℕ) (v : Value) → k < length s.inputs → after (replace k v) s ≡ Ok (over s (set s.inputs k v))
accepts_replace s k v below = rw (lt-ltb k (length s.inputs) below)

accepts_remove : (s : State) (k : ℕ) → k < length s.inputs → after (remove k) s ≡ Ok (over s (list.remove s.inputs k))
accepts_remove s k below = rw (lt-ltb k (length s.inputs) below)

-- ---- the state over the joined inputs

pub after_insert : (s next : State) (k : ℕ) (v : Val) (old : List Val) (inputs : List Value) → s.inputs ≡ map view old → k ≤ length s.inputs → length s.inputs < most_inputs
    → inputs ≡ joined (take k old) (v ∷ []) (drop k old) → next ≡ over s inputs → after (insert k (view v)) s ≡ Ok next
after_insert s next k v old inputs same placed room e stands =
    let made : inputs ≡ list.insert s.inputs k (view v) = e ∙ joined_inserted k v old ∙ ap (λ l. list.insert l k (view v)) (sym same) in
    accepts_insert s k (view v) placed room ∙ ap (λ l. with_inputs s (Ok l)) (sym made) ∙ ap Ok (sym stands)

pub after_replace : (s next : State) (k : ℕ) (v : Val) (old : List Val) (inputs : List Value) → s.inputs ≡ map view old → k < length s.inputs
    → inputs ≡ joined (take k old) (v ∷ []) (drop (k + 1) old) → next ≡ over s inputs → after (replace k (view v)) s ≡ Ok next
after_replace s next k v old inputs same below e stands =
    let count : length s.inputs ≡ length old = ap length same ∙ length-map old view in
    let made : inputs ≡ set s.inputs k (view v) = e ∙ joined_replaced k v old (omega arith) ∙ ap (λ l. set l k (view v)) (sym same) in
    accepts_replace s k (view v) below ∙ ap (λ l. with_inputs s (Ok l)) (sym made) ∙ ap Ok (sym stands)

pub after_remove : (s next : State) (k : ℕ) (old : List Val) (inputs : List Value) → s.inputs ≡ map view old → k < length s.inputs → inputs ≡ joined (take k old) [] (drop (k + 1) old)
    → next ≡ over s inputs → after (remove k) s ≡ Ok next
after_remove s next k old inputs same below e stands =
    let made : inputs ≡ list.remove s.inputs k = e ∙ joined_removed k old ∙ ap (λ l. list.remove l k) (sym same) in
    accepts_remove s k below ∙ ap (λ l. with_inputs s (Ok l)) (sym made) ∙ ap Ok (sym stands)
