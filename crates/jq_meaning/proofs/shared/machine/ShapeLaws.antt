-- The definition of each such form in the meaning is equal to the machine's form of it.
use Rattle.std.proofs.Common.{◌≡◌, ℕ, List, [], ◌∷◌, ◌++◌, nat_eq, if◌then◌else◌, Bool, true, false, Some, None, refl, sym, ap, ◌∙◌, append_assoc}
use Rattle.std.specs.Prelude.{map}
use Rattle.std.proofs.lemmas.List.{append-nil}
use Rattle.jv_data.specs.Value.{Value, null, array, items_of}
use Rattle.jq_natives.specs.Answers.{is_true}
use Rattle.jq_meaning.specs.Runs.{Item, plain, located, value_in, as_value, Ending, Done, Raised, Broken, Stopped, Run, ended, none, one, before, go_on, then_run, bind, bind_items, no_item, gathered, catch, kept, silenced, alternative, labelled, paths_in}
use Rattle.jq_meaning.specs.Folds.{last_or, next_state, reduced, each_of}
use Rattle.jq_meaning.specs.machine.State.{Cell}
use Rattle.jq_meaning.specs.machine.Operations.{collect_value, note_true, state_in, replace_state, path_item, no_path}
use Rattle.jq_meaning.proofs.shared.machine.RunLaws.{go_on-twice}
use Rattle.jq_meaning.proofs.shared.machine.Flow.{taken, guarded, cell_after, stored, FoldBehaviour, folded}
use Rattle.jq_meaning.proofs.shared.machine.Shapes.{on_raised, on_break, on_silenced, nothing_of, array_of, if_true, if_empty, missing, fold_of, give_state, give_nothing}

-- ---- try and label

catch-items : (xs : List Item) (e : Ending) (g : Value → Run Item) → catch (record { items = xs; ending = e }) g ≡ guarded (on_raised g) (record { items = xs; ending = e })
catch-items xs Done g = ap (λ ys. record { items = ys; ending = Done }) (sym (append-nil xs))
catch-items xs (Raised v) g = refl
catch-items xs (Broken k) g = ap (λ ys. record { items = ys; ending = Broken k }) (sym (append-nil xs))
catch-items xs (Stopped stop) g = ap (λ ys. record { items = ys; ending = Stopped stop }) (sym (append-nil xs))

pub catch-guarded : (r : Run Item) (g : Value → Run Item) → catch r g ≡ guarded (on_raised g) r
catch-guarded r g = catch-items r.items r.ending g

label-broken : (xs : List Item) (k : ℕ) (t : Bool) → ◌≡◌ {A = Run Item} (record { items = xs; ending = if t then Done else Broken k }) (before xs (taken (Broken k) (if t then Some none else None)))
label-broken xs k true = ap (λ ys. record { items = ys; ending = Done }) (sym (append-nil xs))
label-broken xs k false = ap (λ ys. record { items = ys; ending = Broken k }) (sym (append-nil xs))

label-items : (level : ℕ) (xs : List Item) (e : Ending) → labelled level (record { items = xs; ending = e }) ≡ guarded (on_break none level) (record { items = xs; ending = e })
label-items level xs Done = ap (λ ys. record { items = ys; ending = Done }) (sym (append-nil xs))
label-items level xs (Raised v) = ap (λ ys. record { items = ys; ending = Raised v }) (sym (append-nil xs))
label-items level xs (Broken k) = label-broken xs k (nat_eq k level)
label-items level xs (Stopped stop) = ap (λ ys. record { items = ys; ending = Stopped stop }) (sym (append-nil xs))

pub labelled-guarded : (level : ℕ) (r : Run Item) → labelled level r ≡ guarded (on_break none level) r
labelled-guarded level r = label-items level r.items r.ending

-- ---- arrays

pub bind-nothing : {A : Type 0} (xs : List A) (e : Ending) → bind_items xs e (λ x. none {A = Item}) ≡ ended e
bind-nothing [] e = refl
bind-nothing (x ∷ xs) e = bind-nothing xs e

collect-all : (xs : List Item) (c : Cell) → cell_after collect_value xs c ≡ c ++ map as_value xs
collect-all [] c = sym (append-nil c)
collect-all (x ∷ xs) c = collect-all xs (c ++ as_value x ∷ []) ∙ append_assoc c (as_value x ∷ []) (map as_value xs)

values-same : (xs : List Item) → map value_in (map as_value xs) ≡ map value_in xs
values-same [] = refl
values-same (x ∷ xs) = ap (λ vs. value_in x ∷ vs) (values-same xs)

pub gathered-stored : (r : Run Item) → gathered r ≡ stored collect_value nothing_of array_of [] r
gathered-stored r =
    ap (λ vs. go_on r.ending (one (plain (array (items_of vs))))) (sym (values-same r.items))
    ∙ sym (go_on-twice r.ending (array_of (map as_value r.items)))
    ∙ ap (λ (t : Run Item). then_run t (go_on r.ending (array_of (map as_value r.items)))) (sym (bind-nothing r.items r.ending))
    ∙ ap (λ (c : Cell). then_run (bind r nothing_of) (go_on r.ending (array_of c))) (sym (collect-all r.items []))

-- ---- alternatives

silenced-items : (xs : List Item) (e : Ending) → guarded (on_silenced none) (record { items = xs; ending = e }) ≡ record { items = xs; ending = silenced e }
silenced-items xs Done = ap (λ ys. record { items = ys; ending = Done }) (append-nil xs)
silenced-items xs (Raised v) = ap (λ ys. record { items = ys; ending = Done }) (append-nil xs)
silenced-items xs (Broken k) = ap (λ ys. record { items = ys; ending = Broken k }) (append-nil xs)
silenced-items xs (Stopped stop) = ap (λ ys. record { items = ys; ending = Stopped stop }) (append-nil xs)

keep-one : (x : Item) (t : Bool) (xs : List Item) (e : Ending) → then_run (if t then one x else none) (record { items = xs; ending = e }) ≡ record { items = if t then x ∷ xs else xs; ending = e }
keep-one x true xs e = refl
keep-one x false xs e = refl

keep-head : (x : Item) (xs : List Item) (t : Bool) → is_true (value_in x) ≡ t → (if t then x ∷ kept xs else kept xs) ≡ kept (x ∷ xs)
keep-head x xs true p = rw p refl
keep-head x xs false p = rw p refl

kept-bind : (xs : List Item) (e : Ending) → bind_items xs e if_true ≡ record { items = kept xs; ending = e }
kept-bind [] e = refl
kept-bind (x ∷ xs) e =
    ap (then_run (if_true x)) (kept-bind xs e) ∙ keep-one x (is_true (value_in x)) (kept xs) e
    ∙ ap (λ ys. record { items = ys; ending = e }) (keep-head x xs (is_true (value_in x)) refl)

noted-choose : (t : Bool) (x y : Item) (c : Cell) (xs : List Item) (r : Run Item) → ((z : Item) (d : Cell) → if_empty r (cell_after note_true xs (z ∷ d)) ≡ none) → if_empty r (cell_after note_true xs (if t then plain null ∷ [] else y ∷ c)) ≡ none
noted-choose true x y c xs r p = p (plain null) []
noted-choose false x y c xs r p = p y c

noted-some : (xs : List Item) (r : Run Item) (y : Item) (c : Cell) → if_empty r (cell_after note_true xs (y ∷ c)) ≡ none
noted-some [] r y c = refl
noted-some (x ∷ xs) r y c = noted-choose (is_true (value_in x)) x y c xs r (noted-some xs r)

noted-first : (t : Bool) (x : Item) (xs : List Item) (r : Run Item) → if_empty r (cell_after note_true xs []) ≡ if_empty r (kept xs)
    → if_empty r (cell_after note_true xs (if t then plain null ∷ [] else [])) ≡ if_empty r (if t then x ∷ kept xs else kept xs)
noted-first true x xs r p = noted-some xs r (plain null) []
noted-first false x xs r p = p

noted-none : (xs : List Item) (r : Run Item) → if_empty r (cell_after note_true xs []) ≡ if_empty r (kept xs)
noted-none [] r = refl
noted-none (x ∷ xs) r = noted-first (is_true (value_in x)) x xs r (noted-none xs r) ∙ ap (if_empty r) (keep-head x xs (is_true (value_in x)) refl)

kept-then : (y : Item) (ys : List Item) (e : Ending) → then_run (record { items = y ∷ ys; ending = e }) (go_on e none) ≡ record { items = y ∷ ys; ending = e }
kept-then y ys Done = ap (λ zs. record { items = y ∷ zs; ending = Done }) (append-nil ys)
kept-then y ys (Raised v) = ap (λ zs. record { items = y ∷ zs; ending = Raised v }) (append-nil ys)
kept-then y ys (Broken k) = ap (λ zs. record { items = y ∷ zs; ending = Broken k }) (append-nil ys)
kept-then y ys (Stopped stop) = ap (λ zs. record { items = y ∷ zs; ending = Stopped stop }) (append-nil ys)

either : (ks : List Item) (e : Ending) (r : Run Item) → then_run (record { items = ks; ending = e }) (go_on e (if_empty r ks)) ≡ elim ks [ [] ↦ go_on e r | y ∷ ys ↦ record { items = y ∷ ys; ending = e } ]
either [] e r = go_on-twice e r
either (y ∷ ys) e r = kept-then y ys e

pub alternative-stored : (r : Run Item) (g : Item → Run Item) (x : Item) → alternative r g x ≡ stored note_true if_true (if_empty (g x)) [] (guarded (on_silenced none) r)
alternative-stored r g x =
    sym (either (kept r.items) (silenced r.ending) (g x))
    ∙ ap (λ (t : Run Item). then_run (record { items = kept r.items; ending = silenced r.ending }) (go_on (silenced r.ending) t)) (sym (noted-none r.items (g x)))
    ∙ ap (λ (t : Run Item). then_run t (go_on (silenced r.ending) (if_empty (g x) (cell_after note_true r.items [])))) (sym (kept-bind r.items (silenced r.ending)))
    ∙ ap (stored note_true if_true (if_empty (g x)) []) (sym (silenced-items r.items r.ending))

-- ---- folds

replace-all : (y : Item) (ys : List Item) → cell_after replace_state ys (y ∷ []) ≡ last_or y ys ∷ []
replace-all y [] = refl
replace-all y (z ∷ zs) = replace-all z zs

replace-state : (ys : List Item) → state_in (cell_after replace_state ys []) ≡ last_or (plain null) ys
replace-state [] = refl
replace-state (y ∷ ys) = ap state_in (replace-all y ys)

located-state : (v : Value) (p : List Value) (ys : List Item) (go : Item → Run Item) (go' : Cell → Run Item) → ((c : Cell) → go (state_in c) ≡ go' c)
    → next_state (located v p) (record { items = ys; ending = Done }) go ≡ then_run (missing (located v p) (cell_after replace_state ys [])) (go' (cell_after replace_state ys []))
located-state v p [] go go' same = refl
located-state v p (y ∷ ys) go go' same = rw (replace-all y ys) (same (last_or y ys ∷ []))

next-done : (x : Item) (ys : List Item) (go : Item → Run Item) (go' : Cell → Run Item) → ((c : Cell) → go (state_in c) ≡ go' c)
    → next_state x (record { items = ys; ending = Done }) go ≡ then_run (missing x (cell_after replace_state ys [])) (go' (cell_after replace_state ys []))
next-done (plain v) ys go go' same = ap go (sym (replace-state ys)) ∙ same (cell_after replace_state ys [])
next-done (located v p) ys go go' same = located-state v p ys go go' same

next-stops : (x : Item) (ys : List Item) (e : Ending) (go : Item → Run Item) → ((r : Run Item) → go_on e r ≡ ended e) → next_state x (record { items = ys; ending = e }) go ≡ ended e
next-stops (plain v) ys e go p = p _
next-stops (located v q) ys e go p = p _

next-items : (x : Item) (ys : List Item) (e : Ending) (go : Item → Run Item) (go' : Cell → Run Item) → ((c : Cell) → go (state_in c) ≡ go' c)
    → next_state x (record { items = ys; ending = e }) go ≡ go_on e (then_run (missing x (cell_after replace_state ys [])) (go' (cell_after replace_state ys [])))
next-items x ys Done go go' same = next-done x ys go go' same
next-items x ys (Raised v) go go' same = next-stops x ys (Raised v) go (λ r. refl)
next-items x ys (Broken k) go go' same = next-stops x ys (Broken k) go (λ r. refl)
next-items x ys (Stopped stop) go go' same = next-stops x ys (Stopped stop) go (λ r. refl)

ended-go_on : (e : Ending) → ended e ≡ go_on e (none {A = Item})
ended-go_on Done = refl
ended-go_on (Raised v) = refl
ended-go_on (Broken k) = refl
ended-go_on (Stopped stop) = refl

pub each-folded : {S : Type 0} (update extract : S → Item → Run Item) (ss : List S) (e : Ending) (c : Cell) → each_of update extract ss e (state_in c) ≡ folded (fold_of update extract) give_nothing ss e c
each-folded update extract [] e c = ended-go_on e
each-folded update extract (s ∷ ss) e c =
    let r = update s (state_in c) in
    ap (then_run (bind r (extract s))) (next-items (state_in c) r.items r.ending (each_of update extract ss e) (folded (fold_of update extract) give_nothing ss e) (each-folded update extract ss e))

next-nothing : (e : Ending) (r : Run Item) → go_on e r ≡ then_run (ended e) (go_on e r)
next-nothing e r = sym (go_on-twice e r)

pub reduced-folded : {S : Type 0} (update : S → Item → Run Item) (ss : List S) (e : Ending) (c : Cell) → reduced update ss e (state_in c) ≡ folded (fold_of update (λ s. nothing_of)) give_state ss e c
reduced-folded update [] e c = refl
reduced-folded {S = S} update (s ∷ ss) e c =
    let r = update s (state_in c) in
    let f : FoldBehaviour S Item Item = fold_of update (λ s. nothing_of) in
    let d = cell_after replace_state r.items [] in
    let t = then_run (missing (state_in c) d) (folded f give_state ss e d) in
    next-items (state_in c) r.items r.ending (reduced update ss e) (folded f give_state ss e) (reduced-folded update ss e)
    ∙ next-nothing r.ending t
    ∙ ap (λ (q : Run Item). then_run q (go_on r.ending t)) (sym (bind-nothing r.items r.ending))

-- ---- paths

pub no_item-bind : (xs : List Item) (e : Ending) → no_item (record { items = xs; ending = e }) ≡ bind_items xs e no_path
no_item-bind [] e = refl
no_item-bind (x ∷ xs) e = refl

paths-items : (xs : List Item) (e : Ending) → ◌≡◌ {A = Run Item} (paths_in (record { items = xs; ending = e })) (bind_items xs e path_item)
paths-items [] e = refl
paths-items (x ∷ xs) e = ap (then_run (path_item x)) (paths-items xs e)

pub paths-bind : (r : Run Item) → paths_in r ≡ bind r path_item
paths-bind r = paths-items r.items r.ending
