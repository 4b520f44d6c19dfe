-- Calls of a session, one after the other.
use Rattle.std.proofs.Common.{◌≡◌, ℕ, List, [], ◌∷◌, Some, None, Result, Ok, Err, refl, sym, ap, ◌∙◌, subst, arith}
use Rattle.jv_data.specs.Value.{Value}
use Rattle.jq_filters.specs.Present.{values_outcome}
use Rattle.jq_pages.specs.Edits.{Reason, edited}
use Rattle.jq_pages.specs.Folds.{Rises}
use Rattle.jq_pages.specs.Moves.{moved}
use Rattle.jq_session.specs.States.{State, Point, over, with_inputs, outcome, refiltered}
use Rattle.jq_session.specs.laws.Histories.{Call, edit_call, move_call, filter_call, Changes, Leads, IsBound, IsHistory, or_unchanged, called, filtered, present_filter, present_inputs, answers_to, followed, followed_all}

-- ---- the state

taken : (old new : State) (r : Result (List Value) Reason) → with_inputs old r ≡ Ok new → new ≡ over old (or_unchanged r old.inputs)
taken old new (Ok vs) e = cc
taken old new (Err reason) e = cc

led : (call : Call) (old new : Point) → Leads call old new → new.state ≡ over (filtered call old.state) (called call old.state.inputs)
led (edit_call edit (Some follow)) old new h = taken old.state new.state (edited edit old.state.inputs) h.0.edited
led (edit_call edit None) old new h = h.0
led (move_call k l (Some answers)) old new h = taken old.state new.state (moved k l old.state.inputs) h.0.moved
led (move_call k l None) old new h = h.0
led (filter_call f (Some follow)) old new h = h.0.taken
led (filter_call f None) old new h = h.0

-- The filter does not depend on the inputs.
same_filter : (calls : List Call) (s : State) (vs ws : List Value) → over (present_filter calls (over s vs)) ws ≡ over (present_filter calls s) ws
same_filter [] s vs ws = refl
same_filter (edit_call edit answer ∷ calls) s vs ws = same_filter calls s vs ws
same_filter (move_call k l answers ∷ calls) s vs ws = same_filter calls s vs ws
same_filter (filter_call f (Some follow) ∷ calls) s vs ws = same_filter calls (refiltered f s) vs ws
same_filter (filter_call f None ∷ calls) s vs ws = same_filter calls s vs ws

pub stands_for_present : (calls : List Call) (first last : Point) → IsHistory calls first last
    → last.state ≡ over (present_filter calls first.state) (present_inputs calls first.state.inputs)
stands_for_present [] first last h = ap (λ p. p.state) h
stands_for_present (call ∷ calls) first last h =
    let vs = called call first.state.inputs in
    stands_for_present calls h.0 last h.2
    ∙ ap (λ s. over (present_filter calls s) (present_inputs calls s.inputs)) (led call first h.0 h.1)
    ∙ same_filter calls (filtered call first.state) vs (present_inputs calls vs)

pub always_right : (calls : List Call) (first last : Point) → IsHistory calls first last
    → outcome last.state ≡ values_outcome (present_filter calls first.state).mode (present_filter calls first.state).job (present_inputs calls first.state.inputs)
always_right calls first last h = ap outcome (stands_for_present calls first last h)

-- ---- the starts

pub no_more : (calls : List Call) (first last : Point) (n : ℕ) → IsBound calls first.state n → IsHistory calls first last → Rises first.starts last.starts n
no_more [] first last n e h = let same : last.starts ≡ first.starts = ap (λ p. p.starts) h in record { low = omega (arith, same); high = omega (arith, same) }
no_more (call ∷ calls) first last n bound h =
    let next = h.0 in
    let one = bound.2 first.starts next.starts h.1.1 in
    let rest = no_more calls next last bound.1 (subst (λ s. IsBound calls s bound.1) (sym (led call first next h.1)) bound.3) h.2 in
    let a = one.low in let b = one.high in let c = rest.low in let d = rest.high in let e = bound.4 in
    record { low = omega (arith, a, c); high = omega (arith, b, d, e) }

-- ---- the splices

output_followed : (call : Call) (old new : Point) → Changes call old new → followed_all (λ f. f.out) (answers_to call) (outcome old.state).output ≡ (outcome new.state).output
output_followed (edit_call edit (Some follow)) old new h = h.follows.out.turns
output_followed (edit_call edit None) old new h = ap (λ s. (outcome s).output) (sym h)
output_followed (move_call k l (Some answers)) old new h =
    ap (λ bytes. followed_all (λ f. f.out) (answers.1 ∷ []) bytes) h.follows.removal.out.turns ∙ h.follows.insertion.out.turns
output_followed (move_call k l None) old new h = ap (λ s. (outcome s).output) (sym h)
output_followed (filter_call f (Some follow)) old new h = h.follows.out.splice.turns
output_followed (filter_call f None) old new h = ap (λ s. (outcome s).output) (sym h)

pub follows_output : (calls : List Call) (first last : Point) → IsHistory calls first last → followed (λ f. f.out) calls (outcome first.state).output ≡ (outcome last.state).output
follows_output [] first last h = ap (λ p. (outcome p.state).output) (sym h)
follows_output (call ∷ calls) first last h = ap (followed (λ f. f.out) calls) (output_followed call first h.0 h.1.0) ∙ follows_output calls h.0 last h.2

errors_followed : (call : Call) (old new : Point) → Changes call old new → followed_all (λ f. f.err) (answers_to call) (outcome old.state).errors ≡ (outcome new.state).errors
errors_followed (edit_call edit (Some follow)) old new h = h.follows.err.turns
errors_followed (edit_call edit None) old new h = ap (λ s. (outcome s).errors) (sym h)
errors_followed (move_call k l (Some answers)) old new h =
    ap (λ bytes. followed_all (λ f. f.err) (answers.1 ∷ []) bytes) h.follows.removal.err.turns ∙ h.follows.insertion.err.turns
errors_followed (move_call k l None) old new h = ap (λ s. (outcome s).errors) (sym h)
errors_followed (filter_call f (Some follow)) old new h = h.follows.err.splice.turns
errors_followed (filter_call f None) old new h = ap (λ s. (outcome s).errors) (sym h)

pub follows_errors : (calls : List Call) (first last : Point) → IsHistory calls first last → followed (λ f. f.err) calls (outcome first.state).errors ≡ (outcome last.state).errors
follows_errors [] first last h = ap (λ p. (outcome p.state).errors) (sym h)
follows_errors (call ∷ calls) first last h = ap (followed (λ f. f.err) calls) (errors_followed call first h.0 h.1.0) ∙ follows_errors calls h.0 last h.2
