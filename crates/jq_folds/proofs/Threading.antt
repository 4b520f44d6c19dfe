-- A fold over bindings that come in several lists is the folds over the lists, one after the other.
use Rattle.std.proofs.Common.{◌≡◌, List, [], ◌∷◌, ◌++◌, refl, sym, ap, ◌∙◌}
use Rattle.std.proofs.lemmas.List.{append-nil}
use Rattle.std.specs.Prelude.{⊤, codes}
use Rattle.std.specs.List.{flat_map}
use Rattle.jv_data.specs.Value.{Value, null, string}
use Rattle.jq_meaning.specs.Runs.{Item, plain, located, Ending, Done, Raised, Broken, Stopped, Run, ended, none, one, go_on, then_run, bind, bind_items, path_error}
use Rattle.jq_meaning.specs.Folds.{last_or, next_state, reduced, each_of}
use Rattle.jq_folds.specs.Pieces.{FoldState, going, stopped, state_of, if_done, Steps, pieces_from}
use Rattle.jq_folds.specs.laws.Statements.{joined}
use Rattle.jq_meaning.proofs.shared.machine.RunLaws.{then_run-assoc, bind-one}

-- ---- runs with one item or none

abbrev pub NotDone : Ending → Type 0
NotDone Done = ⊥
NotDone (Raised v) = ⊤
NotDone (Broken k) = ⊤
NotDone (Stopped stop) = ⊤

-- one item and Done, or no item and another ending
pub data OneOrEnd {A : Type 0} (r : Run A) : Type 0 where
  gives : (x : A) → r ≡ one x → OneOrEnd r
  ends : (e : Ending) → NotDone e → r ≡ ended e → OneOrEnd r

pub not_done : (e : Ending) → NotDone e → e ≡ Done → ⊥
not_done Done n p = n
not_done (Raised v) n p = cc
not_done (Broken k) n p = cc
not_done (Stopped stop) n p = cc

pub one_or_end : {A : Type 0} (e : Ending) (x : A) → OneOrEnd (go_on e (one x))
one_or_end Done x = gives x refl
one_or_end (Raised v) x = ends (Raised v) tt refl
one_or_end (Broken k) x = ends (Broken k) tt refl
one_or_end (Stopped stop) x = ends (Stopped stop) tt refl

pub go_on-one : {A : Type 0} (e : Ending) (r : Run A) → OneOrEnd r → OneOrEnd (go_on e r)
go_on-one Done r h = h
go_on-one (Raised v) r h = ends (Raised v) tt refl
go_on-one (Broken k) r h = ends (Broken k) tt refl
go_on-one (Stopped stop) r h = ends (Stopped stop) tt refl

located-one : (ys : List Item) (go : Item → Run Item) → ((y : Item) → OneOrEnd (go y)) → OneOrEnd (let r : Run Item = elim ys [ [] ↦ path_error | z ∷ zs ↦ go (last_or z zs) ] in r)
located-one [] go h = ends (Raised (string (codes "Invalid path expression"))) tt refl
located-one (y ∷ ys) go h = h (last_or y ys)

next-one : (s : Item) (u : Run Item) (go : Item → Run Item) → ((y : Item) → OneOrEnd (go y)) → OneOrEnd (next_state s u go)
next-one (plain v) u go h = go_on-one u.ending (go (last_or (plain null) u.items)) (h (last_or (plain null) u.items))
next-one (located v p) u go h = go_on-one u.ending _ (located-one u.items go h)

pub reduced-one : {S : Type 0} (update : S → Item → Run Item) (bs : List S) (e : Ending) (s : Item) → OneOrEnd (reduced update bs e s)
reduced-one update [] e s = one_or_end e s
reduced-one update (b ∷ bs) e s = next-one s (update b s) (reduced update bs e) (reduced-one update bs e)

-- ---- two lists of bindings

pub next-bind : (s : Item) (u : Run Item) (go : Item → Run Item) (g : Item → Run Item) → bind (next_state s u go) g ≡ next_state s u (λ y. bind (go y) g)
next-bind (plain v) u go g = ending-bind u.ending (go (last_or (plain null) u.items)) g
  where
    ending-bind : (e : Ending) (r : Run Item) (h : Item → Run Item) → bind (go_on e r) h ≡ go_on e (bind r h)
    ending-bind Done r h = refl
    ending-bind (Raised w) r h = refl
    ending-bind (Broken k) r h = refl
    ending-bind (Stopped stop) r h = refl
next-bind (located v p) u go g = items-bind u.items u.ending
  where
    items-bind : (ys : List Item) (e : Ending) → bind (next_state (located v p) (record { items = ys; ending = e }) go) g ≡ next_state (located v p) (record { items = ys; ending = e }) (λ y. bind (go y) g)
    items-bind [] Done = refl
    items-bind [] (Raised w) = refl
    items-bind [] (Broken k) = refl
    items-bind [] (Stopped stop) = refl
    items-bind (y ∷ ys) Done = refl
    items-bind (y ∷ ys) (Raised w) = refl
    items-bind (y ∷ ys) (Broken k) = refl
    items-bind (y ∷ ys) (Stopped stop) = refl

pub next-same : (s : Item) (u : Run Item) (go go' : Item → Run Item) → ((y : Item) → go y ≡ go' y) → next_state s u go ≡ next_state s u go'
next-same s u go go' h = ap (next_state s u) (λ i y. h y i)

-- the states of bs, and then those of cs
pub reduced-then : {S : Type 0} (update : S → Item → Run Item) (bs : List S) (e : Ending) (q : Run S) (s : Item)
    → reduced update (bs ++ (go_on e q).items) (go_on e q).ending s ≡ bind (reduced update bs e s) (reduced update q.items q.ending)
reduced-then update [] Done q s = sym (bind-one s (reduced update q.items q.ending))
reduced-then update [] (Raised v) q s = refl
reduced-then update [] (Broken k) q s = refl
reduced-then update [] (Stopped stop) q s = refl
reduced-then update (b ∷ bs) e q s =
    next-same s (update b s) (reduced update (bs ++ (go_on e q).items) (go_on e q).ending) (λ y. bind (reduced update bs e y) (reduced update q.items q.ending)) (reduced-then update bs e q)
    ∙ sym (next-bind s (update b s) (reduced update bs e) (reduced update q.items q.ending))

both-then : {A : Type 0} (e : Ending) (r s t : Run A) → go_on e (then_run r s) ≡ then_run (go_on e r) (go_on e s)
both-then Done r s t = refl
both-then (Raised v) r s t = refl
both-then (Broken k) r s t = refl
both-then (Stopped stop) r s t = refl

-- a step that gives outputs and states
pub next-then : (s : Item) (u : Run Item) (f g : Item → Run Item) → next_state s u (λ y. then_run (f y) (g y)) ≡ then_run (next_state s u f) (next_state s u g)
next-then (plain v) u f g = both-then u.ending (f (last_or (plain null) u.items)) (g (last_or (plain null) u.items)) none
next-then (located v p) u f g = items-then u.items u.ending
  where
    items-then : (ys : List Item) (e : Ending)
        → next_state (located v p) (record { items = ys; ending = e }) (λ y. then_run (f y) (g y)) ≡ then_run (next_state (located v p) (record { items = ys; ending = e }) f) (next_state (located v p) (record { items = ys; ending = e }) g)
    items-then [] Done = refl
    items-then [] (Raised w) = refl
    items-then [] (Broken k) = refl
    items-then [] (Stopped stop) = refl
    items-then (y ∷ ys) Done = refl
    items-then (y ∷ ys) (Raised w) = refl
    items-then (y ∷ ys) (Broken k) = refl
    items-then (y ∷ ys) (Stopped stop) = refl

-- the outputs of bs, and then those of cs from the state after bs
pub each-then : {S : Type 0} (update extract : S → Item → Run Item) (bs : List S) (e : Ending) (q : Run S) (s : Item)
    → each_of update extract (bs ++ (go_on e q).items) (go_on e q).ending s
    ≡ then_run (each_of update extract bs e s) (bind (reduced update bs e s) (each_of update extract q.items q.ending))
each-then update extract [] Done q s = sym (bind-one s (each_of update extract q.items q.ending))
each-then update extract [] (Raised v) q s = refl
each-then update extract [] (Broken k) q s = refl
each-then update extract [] (Stopped stop) q s = refl
each-then update extract (b ∷ bs) e q s =
    let u = update b s in
    let h = each_of update extract q.items q.ending in
    let first = bind u (extract b) in
    ap (then_run first)
    (next-same s u (each_of update extract (bs ++ (go_on e q).items) (go_on e q).ending) (λ y. then_run (each_of update extract bs e y) (bind (reduced update bs e y) h)) (each-then update extract bs e q)
    ∙ next-then s u (each_of update extract bs e) (λ y. bind (reduced update bs e y) h)
    ∙ ap (then_run (next_state s u (each_of update extract bs e))) (sym (next-bind s u (reduced update bs e) h)))
    ∙ sym (then_run-assoc first (next_state s u (each_of update extract bs e)) (bind (next_state s u (reduced update bs e)) h))

-- ---- where all outputs are given, there is a next state

go_on-done : {A : Type 0} (e : Ending) (q : Run A) → (go_on e q).ending ≡ Done → (e ≡ Done) × (q.ending ≡ Done)
go_on-done Done q h = (refl, h)
go_on-done (Raised v) q h = absurd (cc)
go_on-done (Broken k) q h = absurd (cc)
go_on-done (Stopped stop) q h = absurd (cc)

pub then-done : {A : Type 0} (r q : Run A) → (then_run r q).ending ≡ Done → (r.ending ≡ Done) × (q.ending ≡ Done)
then-done r q h = go_on-done r.ending q h

bind_items-done : {A B : Type 0} (xs : List A) (e : Ending) (g : A → Run B) → (bind_items xs e g).ending ≡ Done → e ≡ Done
bind_items-done [] e g h = h
bind_items-done (x ∷ xs) e g h = bind_items-done xs e g (then-done (g x) (bind_items xs e g) h).1

pub bind-done : {A B : Type 0} (r : Run A) (g : A → Run B) → (bind r g).ending ≡ Done → r.ending ≡ Done
bind-done r g h = bind_items-done r.items r.ending g h

go_on-both : {A B : Type 0} (e : Ending) (r : Run A) (q : Run B) → (r.ending ≡ Done → q.ending ≡ Done) → (go_on e r).ending ≡ Done → (go_on e q).ending ≡ Done
go_on-both Done r q i h = i h
go_on-both (Raised v) r q i h = h
go_on-both (Broken k) r q i h = h
go_on-both (Stopped stop) r q i h = h

located-both : (ys : List Item) (f g : Item → Run Item) → ((y : Item) → (f y).ending ≡ Done → (g y).ending ≡ Done)
    → (let r : Run Item = elim ys [ [] ↦ path_error | z ∷ zs ↦ f (last_or z zs) ] in r).ending ≡ Done → (let r : Run Item = elim ys [ [] ↦ path_error | z ∷ zs ↦ g (last_or z zs) ] in r).ending ≡ Done
located-both [] f g i h = h
located-both (y ∷ ys) f g i h = i (last_or y ys) h

next-both : (s : Item) (u : Run Item) (f g : Item → Run Item) → ((y : Item) → (f y).ending ≡ Done → (g y).ending ≡ Done) → (next_state s u f).ending ≡ Done → (next_state s u g).ending ≡ Done
next-both (plain v) u f g i h = go_on-both u.ending (f (last_or (plain null) u.items)) (g (last_or (plain null) u.items)) (i (last_or (plain null) u.items)) h
next-both (located v p) u f g i h = go_on-both u.ending _ _ (located-both u.items f g i) h

ended-done : {A : Type 0} (e : Ending) (x : A) → e ≡ Done → (go_on e (one x)).ending ≡ Done
ended-done Done x h = refl
ended-done (Raised v) x h = h
ended-done (Broken k) x h = h
ended-done (Stopped stop) x h = h

pub each-done : {S : Type 0} (update extract : S → Item → Run Item) (bs : List S) (e : Ending) (s : Item)
    → (each_of update extract bs e s).ending ≡ Done → (reduced update bs e s).ending ≡ Done
each-done update extract [] e s h = ended-done e s h
each-done update extract (b ∷ bs) e s h =
    next-both s (update b s) (each_of update extract bs e) (reduced update bs e) (each-done update extract bs e)
    (then-done (bind (update b s) (extract b)) (next_state s (update b s) (each_of update extract bs e)) h).1

-- ---- pieces

-- a fold that has stopped has no items, and ends with Done
pub stopped-none : (f : Steps) (vs : List Value) → joined (pieces_from f stopped vs) ≡ none
stopped-none f [] = refl
stopped-none f (v ∷ vs) = stopped-none f vs

-- a piece that ends with Done, and those after it; and a piece with another ending
pub joined-done : (r : Run Item) (rs : List (Run Item)) → r.ending ≡ Done → joined (r ∷ rs) ≡ then_run r (joined rs)
joined-done r rs h = go r.items r.ending h
  where
    go : (xs : List Item) (e : Ending) → e ≡ Done → joined (record { items = xs; ending = e } ∷ rs) ≡ then_run (record { items = xs; ending = e }) (joined rs)
    go xs Done p = refl
    go xs (Raised v) p = absurd (cc)
    go xs (Broken k) p = absurd (cc)
    go xs (Stopped stop) p = absurd (cc)

pub joined-last : (r : Run Item) (rs : List (Run Item)) → NotDone r.ending → joined rs ≡ none → joined (r ∷ rs) ≡ r
joined-last r rs n h = go r.items r.ending n
  where
    items_none : flat_map (λ (q : Run Item). q.items) rs ≡ []
    items_none = ap (λ (q : Run Item). q.items) h

    go : (xs : List Item) (e : Ending) → NotDone e → joined (record { items = xs; ending = e } ∷ rs) ≡ record { items = xs; ending = e }
    go xs Done n = absurd n
    go xs (Raised v) n = ap (λ ys. record { items = ys; ending = Raised v }) (ap (λ ys. xs ++ ys) items_none ∙ append-nil xs)
    go xs (Broken k) n = ap (λ ys. record { items = ys; ending = Broken k }) (ap (λ ys. xs ++ ys) items_none ∙ append-nil xs)
    go xs (Stopped stop) n = ap (λ ys. record { items = ys; ending = Stopped stop }) (ap (λ ys. xs ++ ys) items_none ∙ append-nil xs)

-- what follows an ending other than Done does not matter
pub then-not : {A : Type 0} (r q : Run A) → NotDone r.ending → then_run r q ≡ r
then-not {A = A} r q n = go r.items r.ending n
  where
    go : (xs : List A) (e : Ending) → NotDone e → then_run (record { items = xs; ending = e }) q ≡ record { items = xs; ending = e }
    go xs Done n = absurd n
    go xs (Raised v) n = ap (λ ys. record { items = ys; ending = Raised v }) (append-nil xs)
    go xs (Broken k) n = ap (λ ys. record { items = ys; ending = Broken k }) (append-nil xs)
    go xs (Stopped stop) n = ap (λ ys. record { items = ys; ending = Stopped stop }) (append-nil xs)

-- Done, or another ending
pub data Kind (e : Ending) : Type 0 where
  done : e ≡ Done → Kind e
  other : NotDone e → Kind e

pub kind_of : (e : Ending) → Kind e
kind_of Done = done refl
kind_of (Raised v) = other tt
kind_of (Broken k) = other tt
kind_of (Stopped stop) = other tt

if_done-not : (e : Ending) (s : FoldState) → NotDone e → if_done e s ≡ stopped
if_done-not Done s n = absurd n
if_done-not (Raised v) s n = refl
if_done-not (Broken k) s n = refl
if_done-not (Stopped stop) s n = refl

-- A step with outputs and states, and then the rest from the next state.
pub step-joined : (f : Steps) (outputs states : Run Item) (vs : List Value) → OneOrEnd states → (outputs.ending ≡ Done → states.ending ≡ Done)
    → then_run outputs (bind states (λ s. joined (pieces_from f (going s) vs)))
    ≡ joined (outputs ∷ pieces_from f (if_done outputs.ending (state_of states.items states.ending)) vs)
step-joined f outputs states vs h i = go (kind_of outputs.ending)
  where
    later : FoldState → List (Run Item)
    later t = pieces_from f t vs

    rest : Run Item
    rest = bind states (λ s. joined (later (going s)))

    -- the state after a step that is done
    next : OneOrEnd states → states.ending ≡ Done → rest ≡ joined (later (state_of states.items states.ending))
    next (gives s p) d =
        ap (λ (r : Run Item). bind r (λ y. joined (later (going y)))) p ∙ bind-one s (λ y. joined (later (going y)))
        ∙ ap (λ (r : Run Item). joined (later (state_of r.items r.ending))) (sym p)
    next (ends e n p) d = absurd (not_done e n (sym (ap (λ (r : Run Item). r.ending) p) ∙ d))

    go : Kind outputs.ending → then_run outputs rest ≡ joined (outputs ∷ later (if_done outputs.ending (state_of states.items states.ending)))
    go (done d) =
        ap (then_run outputs) (next h (i d) ∙ ap (λ (e : Ending). joined (later (if_done e (state_of states.items states.ending)))) (sym d))
        ∙ sym (joined-done outputs (later (if_done outputs.ending (state_of states.items states.ending))) d)
    go (other n) =
        then-not outputs rest n
        ∙ sym (joined-last outputs (later (if_done outputs.ending (state_of states.items states.ending))) n
        (ap (λ (t : FoldState). joined (later t)) (if_done-not outputs.ending (state_of states.items states.ending) n) ∙ stopped-none f vs))
