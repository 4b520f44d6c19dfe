-- The effect of a move of an input on the state of a session.
use Rattle.std.proofs.Common.{◌≡◌, ℕ, ◌+◌, ◌<◌, ◌≤◌, List, [], ◌∷◌, length, take, drop, map, get_or, Option, Some, None, Result, Ok, Err, IsOk, refl, sym, ap, ◌∙◌, subst, arith}
use Rattle.std.specs.Prelude.{MatchResult, slice_get}
use Rattle.std.proofs.lemmas.Bool.{lt-ltb, le-ltb}
use Rattle.std.proofs.lemmas.List.{length-map}
use Rattle.std.proofs.lemmas.List.Edits.{length-insert, length-remove}
use Rattle.std.proofs.lemmas.Option.{slice_get-map, slice_get_read, slice_get_within}
use Rattle.std.specs.List as list
use Rattle.std.specs.Option.{option_map}
use Rattle.jv_data.specs.Value.{Value}
use Rattle.jv_data.specs.View.{view}
use Rattle.jv_data.specs.declared.values.Val.{Val}
use Rattle.jq_pages.specs.Edits.{Edit, Reason, edited, insert, remove, most_inputs}
use Rattle.jq_pages.specs.Folds.{Rises}
use Rattle.jq_pages.specs.Moves.{moved, moved_input}
use Rattle.jq_filters.specs.Present.{run_count}
use Rattle.jq_session.specs.Splices.{Follows, FollowsMove}
use Rattle.jq_session.specs.Starts.{AllowedMove, IsMoveStarted}
use Rattle.jq_session.specs.States.{State, Halves, after, after_move, over, whole, with_inputs}
use Rattle.jq_session.specs.declared.splices.Follow.{Follow}
use Rattle.jq_session.proofs.Edited.{after_insert, after_remove}
use Rattle.jq_session.proofs.Inputs.{ok_in}
use Rattle.jq_session.proofs.Lists.{joined, joined_inserted, joined_removed}

-- ---- the places

moved_there : (k l : ℕ) (v : Value) (s : State) → slice_get s.inputs k ≡ Some v → k < length s.inputs → l < length s.inputs → length s.inputs ≤ most_inputs
    → after_move k l s ≡ Ok (over s (list.insert (list.remove s.inputs k) l v))
moved_there k l v s there below placed room =
    let one = length-remove s.inputs k below in
    rw (there, le-ltb (length (list.remove s.inputs k)) l (omega (arith, one, placed)), lt-ltb (length (list.remove s.inputs k)) most_inputs (omega (arith, one, room)))

pub accepts_move : (k l : ℕ) (v : Value) (s : State) → slice_get s.inputs k ≡ Some v → k < length s.inputs → l < length s.inputs → length s.inputs ≤ most_inputs → IsOk (after_move k l s)
accepts_move k l v s there below placed room = subst IsOk (sym (moved_there k l v s there below placed room)) refl

-- the input at its place, and a copy of it
pub copied_there : (s : State) (old : List Val) (k : ℕ) (item v : Val) → s.inputs ≡ map view old → item ≡ get_or old k item → view v ≡ view item → k < length s.inputs → slice_get s.inputs k ≡ Some (view v)
copied_there s old k item v same e copy below =
    let n : length s.inputs ≡ length old = ap length same ∙ length-map old view in
    ap (λ vs. slice_get vs k) same ∙ slice_get-map view old k ∙ ap (option_map view) (slice_get_read old (length old) k item refl (omega (arith, n, below)) e) ∙ ap Some (sym copy)

pub accepted : (k l : ℕ) (s : State) (item : Val) (old : List Val) → s.inputs ≡ map view old → item ≡ get_or old k item → k < length s.inputs → l < length s.inputs → length old ≤ most_inputs → IsOk (after_move k l s)
accepted k l s item old same e below placed room =
    let n : length s.inputs ≡ length old = ap length same ∙ length-map old view in
    accepts_move k l (view item) s (copied_there s old k item item same e refl below) below placed (omega (arith, n, room))

-- ---- the inputs without the one that moves, and then with it at its new place

pub record IsMoved (k l : ℕ) (s : State) (v : Val) (old others inputs : List Val) : Type 0 where
  pub same : s.inputs ≡ map view old
  pub there : slice_get s.inputs k ≡ Some (view v)
  pub below : k < length s.inputs
  pub placed : l < length s.inputs
  pub room : length old ≤ most_inputs
  pub without : map view others ≡ joined (take k old) [] (drop (k + 1) old)
  pub with_it : map view inputs ≡ joined (take l others) (v ∷ []) (drop l others)

-- There are as many inputs as before.
as_many : (k l : ℕ) (s : State) (v : Val) (old others inputs : List Val) → IsMoved k l s v old others inputs → (length inputs ≡ length old) × (length others + 1 ≡ length old)
as_many k l s v old others inputs m =
    let a = length-map old view in
    let b = length-map others view in
    let c = length-map inputs view in
    let n = ap length m.same in
    let below = m.below in
    let placed = m.placed in
    let one = ap length (m.without ∙ joined_removed k old) in
    let two = length-remove (map view old) k (omega (arith, n, below)) in
    let three = ap length (m.with_it ∙ joined_inserted l v others) in
    let four = length-insert (map view others) l (view v) (omega (arith, a, b, n, one, two, placed)) in
    (omega (arith, a, b, c, one, two, three, four), omega (arith, a, b, one, two))

pub still_room : (k l : ℕ) (s : State) (v : Val) (old others inputs : List Val) → IsMoved k l s v old others inputs → length inputs ≤ most_inputs
still_room k l s v old others inputs m = let n = (as_many k l s v old others inputs m).0 in let room = m.room in omega (arith, n, room)

halves : (k l : ℕ) (s next : State) (v : Val) (old others inputs : List Val) → IsMoved k l s v old others inputs → next ≡ over s (map view inputs) → Halves k l s next
halves k l s next v old others inputs m stands =
    let n : length s.inputs ≡ length old = ap length m.same ∙ length-map old view in
    let o = length-map others view in
    let count = (as_many k l s v old others inputs m).1 in
    let placed = m.placed in
    let room = m.room in
    let middle = over s (map view others) in
    record {
      value = view v;
      middle = middle;
      there = m.there;
      removed = after_remove s middle k old (map view others) m.same m.below m.without refl;
      inserted = after_insert middle next l v others (map view inputs) refl (omega (arith, n, o, count, placed)) (omega (arith, o, count, room)) m.with_it stands;
    }

without_it : (k : ℕ) (s t : State) → k < length s.inputs → after (remove k) s ≡ Ok t → t ≡ over s (list.remove s.inputs k)
without_it k s t below e =
    let led : after (remove k) s ≡ Ok (over s (list.remove s.inputs k)) = rw (lt-ltb k (length s.inputs) below) in
    ap (ok_in t) (sym e ∙ led)

halves_moved : (k l : ℕ) (s t : State) (h : Halves k l s t) → k < length s.inputs → after_move k l s ≡ Ok t
halves_moved k l s t h below =
    let e : h.middle ≡ over s (list.remove s.inputs k) = without_it k s h.middle below h.removed in
    let there : after_move k l s ≡ after (insert l h.value) (over s (list.remove s.inputs k)) = rw h.there in
    there ∙ ap (after (insert l h.value)) (sym e) ∙ h.inserted

-- ---- the laws of moves

pub halves_are_moves : (k l : ℕ) (s t : State) → Halves k l s t → after_move k l s ≡ Ok t
halves_are_moves k l s t h = halves_moved k l s t h (slice_get_within s.inputs k h.value h.there)

same_over : (s : State) (vs : List Value) (r : Result (List Value) Reason) → with_inputs (over s vs) r ≡ with_inputs s r
same_over s vs (Ok ws) = refl
same_over s vs (Err reason) = refl

halves_at : (k l : ℕ) (s t : State) (o : Option Value) → slice_get s.inputs k ≡ o → with_inputs s (moved_input o k l s.inputs) ≡ Ok t → Halves k l s t
halves_at k l s t None there e = cc
halves_at k l s t (Some v) there e =
    let rest = list.remove s.inputs k in
    record {
      value = v;
      middle = over s rest;
      there = there;
      removed = rw (lt-ltb k (length s.inputs) (slice_get_within s.inputs k v there));
      inserted = same_over s rest (edited (insert l v) rest) ∙ e;
    }

pub moves_have_halves : (k l : ℕ) (s t : State) → after_move k l s ≡ Ok t → Halves k l s t
moves_have_halves k l s t e = halves_at k l s t (slice_get s.inputs k) refl e

-- ---- a move that makes all runs again

pub moved_whole : (k l : ℕ) (s next : State) (v : Val) (old others inputs : List Val) → IsMoved k l s v old others inputs → next ≡ over s (map view inputs) → after_move k l s ≡ Ok next
moved_whole k l s next v old others inputs m stands =
    halves_moved k l s next (halves k l s next v old others inputs m stands) m.below

pub follows_whole : (k l : ℕ) (s next : State) (v : Val) (old others inputs : List Val) (first second : Follow) → IsMoved k l s v old others inputs → next ≡ over s (map view inputs)
    → ((edit : Edit) → Follows first edit s (over s (map view others))) → ((edit : Edit) → Follows second edit (over s (map view others)) next) → FollowsMove first second k l s next
unfolding halves
follows_whole k l s next v old others inputs first second m stands one two =
    record { halves = halves k l s next v old others inputs m stands; removal = one (remove k); insertion = two (insert l (view v)) }

-- ---- the starts

halves_agree : (k l : ℕ) (s t : State) (g h : Halves k l s t) → g.middle ≡ h.middle
halves_agree k l s t g h = ap (ok_in g.middle) (sym g.removed ∙ h.removed)

-- all runs were made again, without the input and then with it
pub started_whole : (k l : ℕ) (s next : State) (v : Val) (old others inputs : List Val) (a b : ℕ) → s.plan ≡ whole → IsMoved k l s v old others inputs → next ≡ over s (map view inputs)
    → Rises a b (run_count s.mode s.job (map view others) + run_count next.mode next.job next.inputs) → IsMoveStarted k l s a b
unfolding halves
started_whole k l s next v old others inputs a b plan m stands h =
    let g = halves k l s next v old others inputs m stands in
    let n = run_count next.mode next.job next.inputs in
    subst (λ r. MatchResult r (λ new. AllowedMove s.plan k l s new a b) (λ reason. b ≡ a)) (sym (moved_whole k l s next v old others inputs m stands))
    (subst (λ p. AllowedMove p k l s next a b) (sym plan)
    (λ f. subst (λ (t : State). Rises a b (run_count t.mode t.job t.inputs + n)) (halves_agree k l s next g f) h))
