-- Known runs whose first item is given.
use Rattle.std.proofs.Common.{◌≡◌, ℕ, suc, ◌+◌, ◌-◌, ◌<◌, List, [], ◌∷◌, ◌++◌, map, reverse, length, get_or, drop, ℤ, refl, sym, ap, ◌∙◌, arith, add-one, Option, Some, None, length-drop, drop-cons}
use Rattle.std.proofs.lemmas.List.{reverse-append, map-append, length-map, length-reverse, drop-map}
use Rattle.std.specs.List.{range_with_len}
use Rattle.jv_data.specs.View.{view}
use Rattle.jv_data.specs.declared.values.Val.{Val}
use Rattle.jq_meaning.specs.Builtins.{plain_items, step_from, steps_between, numbers_up_to}
use Rattle.jq_meaning.specs.Runs.{Item, plain, Done, Run, before, none}
use Rattle.jq_meaning.specs.machine.State.{Frame, ForkPoint, give, remaining, fork, state}
use Rattle.jq_meaning.specs.machine.Operations.{deliver, deliver_items}
use Rattle.jq_state.specs.Forks.{run_after}
use Rattle.jq_state.specs.Inputs.{fault_ending}

pub others_wait : (x : Item) (xs : List Item) (k : List Frame) (fs : List ForkPoint) → 0 < length xs
    → state (give x) k (fork (remaining (record { items = xs; ending = Done })) [] k ∷ fs) ≡ deliver_items (x ∷ xs) Done k fs
others_wait x [] k fs h = absurd (omega (arith, h))
others_wait x (y ∷ xs) k fs h = refl

pub others_wait-before : (x : Item) (r s : Run Item) (k : List Frame) (fs : List ForkPoint) → s.ending ≡ Done → r ≡ before (x ∷ []) s → 0 < length s.items
    → state (give x) k (fork (remaining s) [] k ∷ fs) ≡ deliver r k fs
others_wait-before x r s k fs d e h =
    ap (λ i. state (give x) k (fork (remaining (record { items = s.items; ending = i })) [] k ∷ fs)) d
    ∙ others_wait x s.items k fs h
    ∙ ap (λ i. deliver_items (x ∷ s.items) i k fs) (sym d)
    ∙ ap (λ t. deliver t k fs) (sym e)

-- ---- items in a vector, the last one first

last_first : {A : Type 0} (read : A → Item) (xs ys : List A) (x : A) → xs ≡ ys ++ x ∷ [] → reverse (map read xs) ≡ read x ∷ reverse (map read ys)
last_first read xs ys x e = ap (λ zs. reverse (map read zs)) e ∙ ap reverse (map-append read ys (x ∷ [])) ∙ reverse-append (map read ys) (read x ∷ [])

pub last_before_others : {A : Type 0} (read : A → Item) (xs ys : List A) (x : A) (k : List Frame) (fs : List ForkPoint) → xs ≡ ys ++ x ∷ [] → 0 < length ys
    → state (give (read x)) k (fork (remaining (record { items = reverse (map read ys); ending = Done })) [] k ∷ fs) ≡ deliver_items (reverse (map read xs)) Done k fs
last_before_others read xs ys x k fs e h =
    let l : 0 < length (reverse (map read ys)) = simp (length-reverse, length-map) h in
    others_wait (read x) (reverse (map read ys)) k fs l ∙ ap (λ zs. deliver_items zs Done k fs) (sym (last_first read xs ys x e))

-- ---- numbers

pub no_number : (first end step : ℤ) → (0 < steps_between first end step → ⊥) → none ≡ numbers_up_to first end step
no_number first end step h =
    let e : steps_between first end step ≡ 0 = grind (arith, h) in
    ap (λ m. record { items = map (step_from first step) (range_with_len 0 m); ending = Done }) (sym e)

-- ---- inputs

inputs_at : (vs : List Val) (i : ℕ) (v : Val) → i < length vs → get_or vs i v ≡ v
    → drop i (map plain (map view vs)) ≡ plain (view v) ∷ drop (i + 1) (map plain (map view vs))
inputs_at vs i v h e =
    let read : List Val → List Item = λ ws. map plain (map view ws) in
    let dropped : (n : ℕ) → drop n (read vs) ≡ read (drop n vs) = λ n. drop-map plain n (map view vs) ∙ ap (map plain) (drop-map view n vs) in
    dropped i ∙ ap read (drop-cons vs i v h) ∙ ap (λ w. read (w ∷ drop (suc i) vs)) e
    ∙ ap (λ n. plain (view v) ∷ read (drop n vs)) (sym (add-one i)) ∙ ap (λ l. plain (view v) ∷ l) (sym (dropped (i + 1)))

wait_or_end : (x : Item) (xs : List Item) (fault : Option Val) (k : List Frame) (fs : List ForkPoint) → (length xs ≡ 0 → fault ≡ None → ⊥)
    → state (give x) k (fork (remaining (record { items = xs; ending = fault_ending fault })) [] k ∷ fs) ≡ deliver_items (x ∷ xs) (fault_ending fault) k fs
wait_or_end x [] None k fs h = absurd (h refl refl)
wait_or_end x [] (Some v) k fs h = refl
wait_or_end x (y ∷ xs) None k fs h = refl
wait_or_end x (y ∷ xs) (Some v) k fs h = refl

pub input_before_others : (vs : List Val) (i : ℕ) (v : Val) (fault : Option Val) (k : List Frame) (fs : List ForkPoint) → i < length vs → get_or vs i v ≡ v
    → (i + 1 ≡ length vs → fault ≡ None → ⊥)
    → state (give (plain (view v))) k (fork (remaining (run_after (i + 1) (plain_items (record { items = map view vs; ending = fault_ending fault })))) [] k ∷ fs)
    ≡ deliver (run_after i (plain_items (record { items = map view vs; ending = fault_ending fault }))) k fs
input_before_others vs i v fault k fs within e more =
    let rest : List Item = drop (i + 1) (map plain (map view vs)) in
    let l : length rest ≡ length vs - (i + 1) = simp (length-drop, length-map) refl in
    wait_or_end (plain (view v)) rest fault k fs (λ z. more (omega (arith, l, z, within)))
    ∙ ap (λ xs. deliver_items xs (fault_ending fault) k fs) (sym (inputs_at vs i v within e))
