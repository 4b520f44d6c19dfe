-- The outputs of a run, in a piece.
use Rattle.std.proofs.Common.{◌≡◌, ℕ, ◌||◌, List, [], ◌∷◌, ◌++◌, Bool, true, false, Option, Some, None, refl, sym, ap, ◌∙◌, append-nil, append_assoc}
use Rattle.std.specs.List.{flat_map}
use Rattle.std.specs.Option.{option_or}
use Rattle.std.proofs.lemmas.Grind.{flat_map-append}
use Rattle.jv_data.specs.View.{view}
use Rattle.jv_data.specs.declared.values.Val.{Val}
use Rattle.jv_data.specs.Value.{Value}
use Rattle.jv_text.specs.Printed.{printed}
use Rattle.jv_text.specs.declared.printing.Style.{Style}
use Rattle.jq_natives.specs.Answers.{is_true}
use Rattle.jq_meaning.specs.Runs.{Run, Item, value_in, before, Ending, Done, Raised, Broken, Stopped, none, ended}
use Rattle.jq_folds.specs.Pieces.{FoldState, going, stopped, Stepped, with_state}
use Rattle.jq_folds.specs.laws.States.{LeadsTo}
use Rattle.jq_pages.specs.Pieces.{PieceView, piece_view}
use Rattle.jq_pages.specs.declared.pieces.Piece.{Piece}
use Rattle.jq_filters.specs.Outcomes.{last_item, last_by, ending_report, is_failure, halt_status}
use Rattle.jq_transitions.specs.Outcomes.{ending_of}
use Rattle.jq_transitions.specs.declared.backtracking.outcomes.Ending as code_ending
use Rattle.jq_transitions.specs.declared.backtracking.outcomes.Ending.TheVariants as ending
use Rattle.jq_filters.specs.Pieces.{last_in, piece_of}
use Rattle.jq_fold_steps.specs.private.Collecting.{piece_so_far, valued, IsHeld, IsKept, IsAdded, IsReported}
use Rattle.jq_fold_steps.specs.declared.fold_steps.FoldState.TheVariants as state

-- ---- one more output

last-more : (xs : List Item) (x : Item) → last_item (xs ++ x ∷ []) ≡ last_by (is_true (value_in x))
last-more [] x = refl
last-more (y ∷ []) x = refl
last-more (y ∷ z ∷ xs) x = last-more (z ∷ xs) x

pub one-more : (style : Style) (done : List Item) (x : Item) (v : Value) (old new : Piece) → value_in x ≡ v → piece_view old ≡ piece_so_far style done
    → IsAdded (printed style v) (last_in (last_by (is_true v))) old new → piece_view new ≡ piece_so_far style (done ++ x ∷ [])
unfolding piece_view
one-more style done x v old new is e h =
    let out =
    h.out ∙ ap (λ (p : PieceView). p.out ++ printed style v) e ∙ ap (λ w. flat_map (λ y. printed style (value_in y)) done ++ printed style w) (sym is)
    ∙ ap (λ xs. flat_map (λ y. printed style (value_in y)) done ++ xs) (sym (append-nil (printed style (value_in x)))) ∙ sym (flat_map-append _ done (x ∷ [])) in
    let err = h.err ∙ ap (λ (p : PieceView). p.err) e in
    let last = h.last ∙ ap (λ w. last_in (last_by (is_true w))) (sym is) ∙ ap last_in (sym (last-more done x)) in
    let failed = h.failed ∙ ap (λ (p : PieceView). p.failed) e in
    let halt = h.halt ∙ ap (λ (p : PieceView). p.halt) e in
    λ i. record { out = out i; err = err i; last = last i; failed = failed i; halt = halt i }

-- ---- the end

or-false : (b : Bool) → (b || false) ≡ b
or-false true = refl
or-false false = refl

or-none : (o : Option ℕ) → option_or o None ≡ o
or-none None = refl
or-none (Some n) = refl

pub at-end : (style : Style) (xs : List Item) (e : Ending) (old new : Piece) → piece_view old ≡ piece_so_far style xs → IsReported e old new → piece_view new ≡ piece_of style (record { items = xs; ending = e })
unfolding piece_view
at-end style xs e old new p h =
    let out = h.out ∙ ap (λ (q : PieceView). q.out) p in
    let err = h.err ∙ ap (λ (q : PieceView). q.err ++ ending_report e) p in
    let last = h.last ∙ ap (λ (q : PieceView). q.last) p in
    let failed = h.failed ∙ ap (λ (q : PieceView). is_failure e || q.failed) p ∙ or-false (is_failure e) in
    let halt = h.halt ∙ ap (λ (q : PieceView). option_or (halt_status e) q.halt) p ∙ or-none (halt_status e) in
    λ i. record { out = out i; err = err i; last = last i; failed = failed i; halt = halt i }

-- ---- a run as its first outputs and the rest

pub before-more : (r rest q : Run Item) (done : List Item) (x : Item) → r ≡ before done rest → rest ≡ before (x ∷ []) q → r ≡ before (done ++ x ∷ []) q
before-more r rest q done x e f = e ∙ ap (before done) f ∙ ap (λ xs. record { items = xs; ending = q.ending }) (sym (append_assoc done (x ∷ []) q.items))

pub before-end : (r rest : Run Item) (done : List Item) (e : Ending) → r ≡ before done rest → rest ≡ ended e → r ≡ record { items = done; ending = e }
before-end r rest done e p q = p ∙ ap (before done) q ∙ ap (λ xs. record { items = xs; ending = e }) (append-nil done)

-- ---- a step as its outputs and the next state

split-last : List Item → Stepped
split-last [] = record { run = none; next = stopped }
split-last (x ∷ []) = record { run = none; next = going x }
split-last (x ∷ y ∷ ys) = record { run = before (x ∷ []) (split-last (y ∷ ys)).run; next = (split-last (y ∷ ys)).next }

parted : Run Item → Stepped
parted r = elim r.ending [
  | Done ↦ split-last r.items
  | Raised v ↦ record { run = r; next = stopped }
  | Broken k ↦ record { run = r; next = stopped }
  | Stopped stop ↦ record { run = r; next = stopped }
]

split-more : (xs : List Item) (x : Item) → split-last (xs ++ x ∷ []) ≡ record { run = record { items = xs; ending = Done }; next = going x }
unfolding split-last
split-more [] x = refl
split-more (y ∷ []) x = refl
split-more (y ∷ z ∷ xs) x = ap (λ (s : Stepped). record { run = before (y ∷ []) s.run; next = s.next }) (split-more (z ∷ xs) x)

parted-run : (xs : List Item) (e : Ending) (n : FoldState) → LeadsTo e n
    → parted (with_state (record { run = record { items = xs; ending = e }; next = n })) ≡ record { run = record { items = xs; ending = e }; next = n }
unfolding parted
parted-run xs Done (going s) h = split-more xs s
parted-run xs Done stopped h = absurd h
parted-run xs (Raised v) (going s) h = absurd h
parted-run xs (Raised v) stopped h = ap (λ ys. record { run = record { items = ys; ending = Raised v }; next = stopped }) (append-nil xs)
parted-run xs (Broken k) (going s) h = absurd h
parted-run xs (Broken k) stopped h = ap (λ ys. record { run = record { items = ys; ending = Broken k }; next = stopped }) (append-nil xs)
parted-run xs (Stopped stop) (going s) h = absurd h
parted-run xs (Stopped stop) stopped h = ap (λ ys. record { run = record { items = ys; ending = Stopped stop }; next = stopped }) (append-nil xs)

-- a step whose run and state are this run
step-of : (s : Stepped) (r : Run Item) → LeadsTo s.run.ending s.next → with_state s ≡ r → s ≡ parted r
step-of s r h e = sym (parted-run s.run.items s.run.ending s.next h) ∙ ap parted e

-- no output
pub kept-none : (style : Style) (s : Stepped) (done xs : List Item) (e : Ending) (p q : Piece) → LeadsTo s.run.ending s.next → piece_view p ≡ piece_so_far style done
    → IsHeld None done xs → with_state s ≡ record { items = done ++ xs; ending = e } → IsReported e p q → IsKept style s q state.Stopped
unfolding parted split-last
kept-none style s done xs e p q h is held w r =
    let empty : with_state s ≡ ended e = w ∙ (λ i. record { items = held.0 i ++ held.1 i; ending = e }) in
    let out = at-end style [] e p q (is ∙ ap (piece_so_far style) held.0) r in
    go e (step-of s (ended e) h empty) out
  where
    go : (f : Ending) → s ≡ parted (ended f) → piece_view q ≡ piece_of style (ended f) → IsKept style s q state.Stopped
    go Done t o = record { piece = o ∙ ap (λ (u : Stepped). piece_of style u.run) (sym t); next = ap (λ (u : Stepped). valued u.next) (sym t) }
    go (Raised v) t o = record { piece = o ∙ ap (λ (u : Stepped). piece_of style u.run) (sym t); next = ap (λ (u : Stepped). valued u.next) (sym t) }
    go (Broken k) t o = record { piece = o ∙ ap (λ (u : Stepped). piece_of style u.run) (sym t); next = ap (λ (u : Stepped). valued u.next) (sym t) }
    go (Stopped stop) t o = record { piece = o ∙ ap (λ (u : Stepped). piece_of style u.run) (sym t); next = ap (λ (u : Stepped). valued u.next) (sym t) }

-- another ending than Done: the output that was held back is one
pub kept-stopped : (style : Style) (s : Stepped) (done xs : List Item) (e : Ending) (v : Val) (p q o : Piece) → ¬ (e ≡ Done) → LeadsTo s.run.ending s.next → piece_view p ≡ piece_so_far style done
    → IsHeld (Some v) done xs → with_state s ≡ record { items = done ++ xs; ending = e } → IsAdded (printed style (view v)) (last_in (last_by (is_true (view v)))) p q → IsReported e q o → IsKept style s o state.Stopped
unfolding parted
kept-stopped style s done xs e v p q o n h is held w a r =
    let out = at-end style (done ++ xs) e q o (one-more style done held.0 (view v) p q held.2 is a ∙ ap (λ ys. piece_so_far style (done ++ ys)) (sym held.1)) r in
    go e n (step-of s (record { items = done ++ xs; ending = e }) h w) out
  where
    go : (f : Ending) → ¬ (f ≡ Done) → s ≡ parted (record { items = done ++ xs; ending = f }) → piece_view o ≡ piece_of style (record { items = done ++ xs; ending = f }) → IsKept style s o state.Stopped
    go Done m t u = absurd (m refl)
    go (Raised v) m t u = record { piece = u ∙ ap (λ (y : Stepped). piece_of style y.run) (sym t); next = ap (λ (y : Stepped). valued y.next) (sym t) }
    go (Broken k) m t u = record { piece = u ∙ ap (λ (y : Stepped). piece_of style y.run) (sym t); next = ap (λ (y : Stepped). valued y.next) (sym t) }
    go (Stopped stop) m t u = record { piece = u ∙ ap (λ (y : Stepped). piece_of style y.run) (sym t); next = ap (λ (y : Stepped). valued y.next) (sym t) }

-- an ending of the code that is not Done
pub not-done : (e : code_ending.Ending) → (e ≡ ending.Done → ⊥) → ending_of e ≡ Done → ⊥
not-done ending.Done n p = n refl
not-done (ending.Raised v) n p = cc
not-done (ending.Broken k) n p = cc
not-done (ending.Stopped stop) n p = cc
