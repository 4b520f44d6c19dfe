-- A session that stands on the pages of a fold.
use Rattle.std.proofs.Common.{◌≡◌, ◌≤◌, ◌+◌, ◌-◌, inr, ℕ, List, OnOk, OnErr, map, length, Result, Ok, Err, refl, sym, ap, ◌∙◌, subst, arith}
use Rattle.std.proofs.Math.Logic.{∥∥₁_elim, ∥∥₁_map, ∥∥₁_prop}
use Rattle.std.proofs.Props.{props}
use Rattle.std.proofs.lemmas.List.{length-map}
use Rattle.std.specs.Prelude.{MatchResult}
use Rattle.jv_data.specs.Value.{Value}
use Rattle.jv_data.specs.View.{view}
use Rattle.jv_data.specs.declared.values.Val.{Val}
use Rattle.jq_pages.specs.Changes.{IsChange, IsMeeting, IsRerun, IsStart}
use Rattle.jq_pages.specs.Changes as pages_changes
use Rattle.jq_pages.specs.Contents.{folded_in}
use Rattle.jq_pages.specs.Edits.{Edit, Reason, edited, insert, no_place, full, remove}
use Rattle.jq_pages.specs.Edits as pages
use Rattle.jq_pages.specs.Folds.{Fold, Folded, Rises, all, errors, output}
use Rattle.jq_pages.specs.Moves.{IsMove, IsRerunTwice, moved}
use Rattle.jq_pages.specs.Moves as pages_moves
use Rattle.jq_pages.specs.Refusals as pages_refusals
use Rattle.jq_pages.specs.Splices.{IsSplice, IsSpliced, came}
use Rattle.jq_pages.specs.Totals.{totals}
use Rattle.jq_pages.specs.declared.changes.Edited.{Edited}
use Rattle.jq_pages.specs.declared.changes.Moved.{Moved}
use Rattle.jq_pages.specs.declared.refusals.Refusal as pages_refusal_type
use Rattle.jq_pages.specs.declared.refusals.Refusal.TheVariants as pages_refusal
use Rattle.jq_pages.specs.declared.splices.Splice.{Splice}
use Rattle.jq_filters.specs.Pieces.{status_in}
use Rattle.jq_filters.specs.declared.filters.Filter.{Filter}
use Rattle.jq_session.specs.Sessions.{IsMoveRefusal, IsRefusal}
use Rattle.jq_session.specs.Splices.{Follows, FollowsMove, IsPut, PutsPieces}
use Rattle.jq_session.specs.Starts.{AllowedMove, AllowedStarts, IsFirstRun, IsMoveStarted, IsStarted}
use Rattle.jq_session.specs.States.{Halves, Plan, State, after, after_move, each, filter_plan, fold, outcome, state_in, until_halt, whole, with_inputs}
use Rattle.jq_session.specs.private.Kept.{Serves}
use Rattle.jq_session.specs.private.Refusals.{refusal_in}
use Rattle.jq_session.specs.declared.splices.Follow.{Follow}
use Rattle.jq_session.proofs.Inputs.{ok_in}

-- ---- an accepted edit

made_by : {S : Type 0} (x y : Folded S) (r : Result (List Value) Reason) → pages.with_inputs x r ≡ Ok y → (r ≡ Ok y.inputs) × (y.fold ≡ x.fold)
made_by x y (Ok vs) e =
    let same : pages.over x vs ≡ y = ap (ok_in y) e in
    (ap (λ z. Ok z.inputs) same, sym (ap (λ z. z.fold) same))
made_by x y (Err reason) e = cc

made : {S : Type 0} (edit : Edit) (x y : Folded S) → pages.after edit x ≡ Ok y → (edited edit x.inputs ≡ Ok y.inputs) × (y.fold ≡ x.fold)
made edit x y e = made_by x y (edited edit x.inputs) e

pub after_paged : {S : Type 0} (f : Filter) (edit : Edit) (x y : Folded S) → pages.after edit x ≡ Ok y → after edit (state_in f x.inputs) ≡ Ok (state_in f y.inputs)
after_paged f edit x y e = ap (with_inputs (state_in f x.inputs)) (made edit x y e).0

-- ---- a refused edit

refused_by : {S : Type 0} (s : State) (x : Folded S) (refusal : pages_refusal_type.Refusal) (r : Result (List Value) Reason)
    → pages_refusals.IsRefusal refusal (pages.with_inputs x r) → IsRefusal (refusal_in refusal) (with_inputs s r)
refused_by s x pages_refusal.NoPlace (Ok vs) e = cc
refused_by s x pages_refusal.NoPlace (Err reason) e = let same : reason ≡ no_place = cc in ap Err same
refused_by s x pages_refusal.Full (Ok vs) e = cc
refused_by s x pages_refusal.Full (Err reason) e = let same : reason ≡ full = cc in ap Err same
refused_by s x pages_refusal.NoMemory (Ok vs) e = e
refused_by s x pages_refusal.NoMemory (Err reason) e = e

pub refused_paged : {S : Type 0} (f : Filter) (edit : Edit) (x : Folded S) (refusal : pages_refusal_type.Refusal)
    → pages_refusals.IsRefusal refusal (pages.after edit x) → IsRefusal (refusal_in refusal) (after edit (state_in f x.inputs))
refused_paged f edit x refusal h = refused_by (state_in f x.inputs) x refusal (edited edit x.inputs) h

-- ---- the starts

allowed : (p : Plan) (edit : Edit) (s t : State) (a b : ℕ) → ∥ AllowedStarts p edit s t a b ∥₁ → AllowedStarts p edit s t a b
allowed each edit s t a b k = record { low = ∥∥₁_elim k (hlevel props) (λ r. r.low); high = ∥∥₁_elim k (hlevel props) (λ r. r.high) }
allowed (fold f) edit s t a b k = λ m h. record { low = ∥∥₁_elim k (hlevel props) (λ r. (r m h).low); high = ∥∥₁_elim k (hlevel props) (λ r. (r m h).high) }
allowed until_halt edit s t a b k = λ m h. record { low = ∥∥₁_elim k (hlevel props) (λ r. (r m h).low); high = ∥∥₁_elim k (hlevel props) (λ r. (r m h).high) }
allowed whole edit s t a b k = record { low = ∥∥₁_elim k (hlevel props) (λ r. r.low); high = ∥∥₁_elim k (hlevel props) (λ r. r.high) }

started_by : {S : Type 0} (f : Filter) (edit : Edit) (x : Folded S) (r : Result (List Value) Reason) (a b : ℕ) → ∥ Serves f x.fold ∥₁
    → MatchResult (pages.with_inputs x r) (λ y. IsRerun edit x y a b) (λ reason. b ≡ a)
    → MatchResult (with_inputs (state_in f x.inputs) r) (λ t. AllowedStarts (filter_plan f) edit (state_in f x.inputs) t a b) (λ reason. b ≡ a)
started_by f edit x (Ok vs) a b k h = allowed (filter_plan f) edit (state_in f x.inputs) (state_in f vs) a b (∥∥₁_map k (λ s. s.starts edit x.inputs vs a b h))
started_by f edit x (Err reason) a b k h = h

pub started_paged : {S : Type 0} (f : Filter) (edit : Edit) (x : Folded S) (a b : ℕ) → ∥ Serves f x.fold ∥₁ → pages_changes.IsStarted edit x a b → IsStarted edit (state_in f x.inputs) a b
started_paged f edit x a b k h = started_by f edit x (edited edit x.inputs) a b k h

-- a count does not fall
low_by : {S : Type 0} (edit : Edit) (x : Folded S) (r : Result (List Value) Reason) (a b : ℕ) → MatchResult (pages.with_inputs x r) (λ y. IsRerun edit x y a b) (λ reason. b ≡ a) → a ≤ b
low_by edit x (Ok vs) a b h = (h.rises (length vs) (inr refl)).low
low_by edit x (Err reason) a b e = omega (arith, e)

pub started_low : {S : Type 0} (edit : Edit) (x : Folded S) (n a b : ℕ) → n ≡ a → pages_changes.IsStarted edit x a b → n ≤ b
started_low edit x n a b e h = let low = low_by edit x (edited edit x.inputs) a b h in omega (arith, e, low)

-- ---- what the pages are for stays

served_by : {S : Type 0} (f : Filter) (x y : Fold S) → y ≡ x → ∥ Serves f x ∥₁ → ∥ Serves f y ∥₁
served_by f x y e k = subst (λ r. ∥ Serves f r ∥₁) (sym e) k

pub served_after : {A E S : Type 0} (r : Result A E) (f : Filter) (edit : Edit) (x y : Folded S) → OnOk r (pages.after edit x ≡ Ok y) → OnErr r (y ≡ x) → ∥ Serves f x.fold ∥₁ → ∥ Serves f y.fold ∥₁
served_after (Ok a) f edit x y ok err k = served_by f x.fold y.fold (made edit x y ok).1 k
served_after (Err e) f edit x y ok err k = served_by f x.fold y.fold (ap (λ z. z.fold) err) k

-- ---- what is written

pub output_paged : {S : Type 0} (f : Filter) (x : Folded S) → ∥ Serves f x.fold ∥₁ → output x ≡ (outcome (state_in f x.inputs)).output
output_paged f x k = ∥∥₁_elim k (hlevel props) (λ s. (s.writes x.inputs).output)

pub errors_paged : {S : Type 0} (f : Filter) (x : Folded S) → ∥ Serves f x.fold ∥₁ → errors x ≡ (outcome (state_in f x.inputs)).errors
errors_paged f x k = ∥∥₁_elim k (hlevel props) (λ s. (s.writes x.inputs).errors)

pub status_paged : {S : Type 0} (f : Filter) (x : Folded S) → ∥ Serves f x.fold ∥₁ → status_in f.settings.exit (totals (all x)) ≡ (outcome (state_in f x.inputs)).status
status_paged f x k = ∥∥₁_elim k (hlevel props) (λ s. (s.writes x.inputs).status)

splice_of : (s t : Splice) (a b c d : List ℕ) → s ≡ t → a ≡ c → b ≡ d → IsSplice t a b → IsSplice s c d
splice_of s t a b c d e f g h = subst (λ z. IsSplice s c z) g (subst (λ z. IsSplice s z b) f (subst (λ z. IsSplice z a b) (sym e) h))

-- ---- the answer

put_in : (p : Plan) (edit : Edit) (w : Follow) (s t : State) → ∥ IsPut p edit w s t ∥₁ → IsPut p edit w s t
put_in each edit w s t k = record { out = ∥∥₁_elim k (hlevel props) (λ r. r.out); err = ∥∥₁_elim k (hlevel props) (λ r. r.err) }
put_in (fold f) edit w s t k = ∥∥₁_elim k ∥∥₁_prop (λ r. r)
put_in until_halt edit w s t k = ∥∥₁_elim k ∥∥₁_prop (λ r. r)
put_in whole edit w s t k = record { out = ∥∥₁_elim k (hlevel props) (λ r. r.out); err = ∥∥₁_elim k (hlevel props) (λ r. r.err) }

pub follows_paged : {S : Type 0} (f : Filter) (edit : Edit) (x y : Folded S) (e : Edited) (w : Follow) → ∥ Serves f x.fold ∥₁
    → pages.after edit x ≡ Ok y → IsChange e.change edit x y → IsSpliced e x y → w.out ≡ e.out → w.err ≡ e.err → w.status ≡ (outcome (state_in f y.inputs)).status
    → Follows w edit (state_in f x.inputs) (state_in f y.inputs)
follows_paged f edit x y e w k is change spliced out err status =
    let m = made edit x y is in
    let new = served_by f x.fold y.fold m.1 k in
    let same : y ≡ folded_in x.fold y.inputs = ap (λ r. folded_in r y.inputs) m.1 in
    let changed : IsChange e.change edit x (folded_in x.fold y.inputs) = subst (λ z. IsChange e.change edit x z) same change in
    let pieces : PutsPieces w (came e.change y) = record { out = ap (λ s. s.put.items) out ∙ spliced.out_put; err = ap (λ s. s.put.items) err ∙ spliced.err_put } in
    let puts : PutsPieces w (came e.change (folded_in x.fold y.inputs)) = subst (λ z. PutsPieces w (came e.change z)) same pieces in
    record {
      out = splice_of w.out e.out _ _ _ _ out (output_paged f x k) (output_paged f y new) spliced.out;
      err = splice_of w.err e.err _ _ _ _ err (errors_paged f x k) (errors_paged f y new) spliced.err;
      put = put_in (filter_plan f) edit w (state_in f x.inputs) (state_in f y.inputs) (∥∥₁_map k (λ s. s.puts edit x.inputs y.inputs e.change w m.0 changed puts));
      status = status;
    }

-- ---- a move

pub moved_paged : {S : Type 0} (f : Filter) (k l : ℕ) (x y : Folded S) → pages_moves.after_move k l x ≡ Ok y → after_move k l (state_in f x.inputs) ≡ Ok (state_in f y.inputs)
moved_paged f k l x y e = ap (with_inputs (state_in f x.inputs)) (made_by x y (moved k l x.inputs) e).0

move_refused_by : {S : Type 0} (s : State) (x : Folded S) (refusal : pages_refusal_type.Refusal) (r : Result (List Value) Reason)
    → pages_moves.IsMoveRefusal refusal (pages.with_inputs x r) → IsMoveRefusal (refusal_in refusal) (with_inputs s r)
move_refused_by s x pages_refusal.NoPlace (Ok vs) e = cc
move_refused_by s x pages_refusal.NoPlace (Err reason) e = let same : reason ≡ no_place = cc in ap Err same
move_refused_by s x pages_refusal.Full r e = e
move_refused_by s x pages_refusal.NoMemory (Ok vs) e = e
move_refused_by s x pages_refusal.NoMemory (Err reason) e = e

pub move_refused : {S : Type 0} (f : Filter) (k l : ℕ) (x : Folded S) (refusal : pages_refusal_type.Refusal)
    → pages_moves.IsMoveRefusal refusal (pages_moves.after_move k l x) → IsMoveRefusal (refusal_in refusal) (after_move k l (state_in f x.inputs))
move_refused f k l x refusal h = move_refused_by (state_in f x.inputs) x refusal (moved k l x.inputs) h

edited_by : (s t : State) (r : Result (List Value) Reason) → with_inputs s r ≡ Ok t → r ≡ Ok t.inputs
edited_by s t (Ok vs) e = ap (λ z. Ok (ok_in t z).inputs) e
edited_by s t (Err reason) e = cc

-- the halves of a move as edits of the pages
paged_halves : {S : Type 0} (f : Filter) (x : Fold S) (k l : ℕ) (vs ws : List Value) → Halves k l (state_in f vs) (state_in f ws) → pages_moves.Halves k l (folded_in x vs) (folded_in x ws)
paged_halves f x k l vs ws h = record {
  value = h.value;
  middle = folded_in x h.middle.inputs;
  there = h.there;
  removed = ap (pages.with_inputs (folded_in x vs)) (edited_by (state_in f vs) h.middle (edited (remove k) vs) h.removed);
  inserted = ap (pages.with_inputs (folded_in x h.middle.inputs)) (edited_by h.middle (state_in f ws) (edited (insert l h.value) h.middle.inputs) h.inserted);
}

-- a bound on the starts of a move
pub move_rises : {S : Type 0} (f : Filter) (x : Fold S) (k l : ℕ) (vs ws : List Value) (a b : ℕ) → IsRerunTwice k l (folded_in x vs) (folded_in x ws) a b
    → (h : Halves k l (state_in f vs) (state_in f ws)) (m n : ℕ) → IsMeeting (remove k) (folded_in x vs) (folded_in x h.middle.inputs) m
    → IsMeeting (insert l h.value) (folded_in x h.middle.inputs) (folded_in x ws) n → Rises a b (((m - k) + 129) + ((n - l) + 129))
unfolding paged_halves
move_rises f x k l vs ws a b r h m n first second = r.rises (paged_halves f x k l vs ws h) m n first second

halves_paged : {S : Type 0} (f : Filter) (k l : ℕ) (x y : Folded S) → pages_moves.Halves k l x y → Halves k l (state_in f x.inputs) (state_in f y.inputs)
halves_paged f k l x y h = record {
  value = h.value;
  middle = state_in f h.middle.inputs;
  there = h.there;
  removed = after_paged f (remove k) x h.middle h.removed;
  inserted = after_paged f (insert l h.value) h.middle y h.inserted;
}

move_allowed : (p : Plan) (k l : ℕ) (s t : State) (a b : ℕ) → ∥ AllowedMove p k l s t a b ∥₁ → AllowedMove p k l s t a b
move_allowed each k l s t a b r = record { low = ∥∥₁_elim r (hlevel props) (λ r. r.low); high = ∥∥₁_elim r (hlevel props) (λ r. r.high) }
move_allowed (fold f) k l s t a b r = λ h m n first second.
    record { low = ∥∥₁_elim r (hlevel props) (λ r. (r h m n first second).low); high = ∥∥₁_elim r (hlevel props) (λ r. (r h m n first second).high) }
move_allowed until_halt k l s t a b r = λ h m n first second.
    record { low = ∥∥₁_elim r (hlevel props) (λ r. (r h m n first second).low); high = ∥∥₁_elim r (hlevel props) (λ r. (r h m n first second).high) }
move_allowed whole k l s t a b r = λ h. record { low = ∥∥₁_elim r (hlevel props) (λ r. (r h).low); high = ∥∥₁_elim r (hlevel props) (λ r. (r h).high) }

move_started_by : {S : Type 0} (f : Filter) (k l : ℕ) (x : Folded S) (r : Result (List Value) Reason) (a b : ℕ) → ∥ Serves f x.fold ∥₁
    → MatchResult (pages.with_inputs x r) (λ y. IsRerunTwice k l x y a b) (λ reason. b ≡ a)
    → MatchResult (with_inputs (state_in f x.inputs) r) (λ t. AllowedMove (filter_plan f) k l (state_in f x.inputs) t a b) (λ reason. b ≡ a)
move_started_by f k l x (Ok vs) a b q h = move_allowed (filter_plan f) k l (state_in f x.inputs) (state_in f vs) a b (∥∥₁_map q (λ s. s.moves k l x.inputs vs a b h))
move_started_by f k l x (Err reason) a b q h = h

pub move_started : {S : Type 0} (f : Filter) (k l : ℕ) (x : Folded S) (a b : ℕ) → ∥ Serves f x.fold ∥₁ → pages_moves.IsMoveStarted k l x a b → IsMoveStarted k l (state_in f x.inputs) a b
move_started f k l x a b q h = move_started_by f k l x (moved k l x.inputs) a b q h

pub served_moved : {A E S : Type 0} (r : Result A E) (f : Filter) (k l : ℕ) (x y : Folded S) → OnOk r (pages_moves.after_move k l x ≡ Ok y) → OnErr r (y ≡ x) → ∥ Serves f x.fold ∥₁ → ∥ Serves f y.fold ∥₁
served_moved (Ok a) f k l x y ok err q = served_by f x.fold y.fold (made_by x y (moved k l x.inputs) ok).1 q
served_moved (Err e) f k l x y ok err q = served_by f x.fold y.fold (ap (λ z. z.fold) err) q

pub follows_move : {S : Type 0} (f : Filter) (k l : ℕ) (x y : Folded S) (m : Moved) (v w : Follow) → ∥ Serves f x.fold ∥₁ → IsMove k l m x y
    → v.out ≡ m.removal.out → v.err ≡ m.removal.err → v.status ≡ status_in f.settings.exit m.between
    → w.out ≡ m.insertion.out → w.err ≡ m.insertion.err → w.status ≡ (outcome (state_in f y.inputs)).status → FollowsMove v w k l (state_in f x.inputs) (state_in f y.inputs)
unfolding halves_paged
follows_move f k l x y m v w q is out err status later_out later_err later_status =
    let h = is.halves in
    let served = served_by f x.fold h.middle.fold (made (remove k) x h.middle h.removed).1 q in
    let between : v.status ≡ (outcome (state_in f h.middle.inputs)).status = status ∙ ap (status_in f.settings.exit) is.between ∙ status_paged f h.middle served in
    record {
      halves = halves_paged f k l x y h;
      removal = follows_paged f (remove k) x h.middle m.removal v q h.removed is.removal is.cut out err between;
      insertion = follows_paged f (insert l h.value) h.middle y m.insertion w served h.inserted is.insertion is.put later_out later_err later_status;
    }

-- ---- the start

pub first_served : {S : Type 0} (f : Filter) (r : Fold S) (vs : List Value) (x : Folded S) → x ≡ folded_in r vs → ∥ Serves f r ∥₁ → ∥ Serves f x.fold ∥₁
first_served f r vs x e k = served_by f r x.fold (ap (λ z. z.fold) e) k

pub first_run : {S : Type 0} (f : Filter) (r : Fold S) (vs : List Val) (a b : ℕ) → ∥ Serves f r ∥₁ → IsStart r (length vs) a b → IsFirstRun (state_in f (map view vs)) a b
first_run f r vs a b k h =
    let start = subst (λ n. IsStart r n a b) (sym (length-map vs view)) h in
    record {
      low = ∥∥₁_elim k (hlevel props) (λ s. (s.first (map view vs) a b start).low);
      high = ∥∥₁_elim k (hlevel props) (λ s. (s.first (map view vs) a b start).high);
    }

-- the same filter, and the same count before
pub run_shared : (f g : Filter) (vs : List Value) (a n b : ℕ) → g ≡ f → n ≡ a → IsFirstRun (state_in g vs) n b → IsFirstRun (state_in f vs) a b
run_shared f g vs a n b e d h = subst (λ (y : Filter). IsFirstRun (state_in y vs) a b) e (subst (λ m. IsFirstRun (state_in g vs) m b) d h)
