-- Runs one after the other, and bind on the items of a run.
use Rattle.std.proofs.Common.{◌≡◌, List, [], ◌∷◌, refl, sym, ap, ◌∙◌, append_assoc}
use Rattle.std.proofs.lemmas.List.{append-nil}
use Rattle.jq_meaning.specs.Runs.{Run, Ending, Done, Raised, Broken, Stopped, ended, none, one, before, go_on, then_run, bind_items, bind}

-- an ending followed by nothing; below, by two runs
ending-none : {A : Type 0} (e : Ending) → go_on e (none {A = A}) ≡ ended e
ending-none Done = refl
ending-none (Raised v) = refl
ending-none (Broken k) = refl
ending-none (Stopped stop) = refl

ending-then : {A : Type 0} (e : Ending) (r s : Run A) → then_run (go_on e r) s ≡ go_on e (then_run r s)
ending-then Done r s = refl
ending-then (Raised v) r s = refl
ending-then (Broken k) r s = refl
ending-then (Stopped stop) r s = refl

pub go_on-twice : {A : Type 0} (e : Ending) (r : Run A) → then_run (ended e) (go_on e r) ≡ go_on e r
go_on-twice Done r = refl
go_on-twice (Raised v) r = refl
go_on-twice (Broken k) r = refl
go_on-twice (Stopped stop) r = refl

ending-bind : {A B : Type 0} (e : Ending) (s : Run A) (g : A → Run B) → bind (go_on e s) g ≡ go_on e (bind s g)
ending-bind Done s g = refl
ending-bind (Raised v) s g = refl
ending-bind (Broken k) s g = refl
ending-bind (Stopped stop) s g = refl

pub then_run-none : {A : Type 0} (r : Run A) → then_run r none ≡ r
then_run-none r = ap (before r.items) (ending-none r.ending) ∙ ap (λ xs. record { items = xs; ending = r.ending }) (append-nil r.items)

pub then_run-assoc : {A : Type 0} (r s t : Run A) → then_run (then_run r s) t ≡ then_run r (then_run s t)
then_run-assoc r s t =
    let q = go_on r.ending s in
    ap (λ ys. record { items = ys; ending = (go_on q.ending t).ending }) (append_assoc r.items q.items (go_on q.ending t).items) ∙ ap (before r.items) (ending-then r.ending s t)

pub bind-one : {A B : Type 0} (x : A) (g : A → Run B) → bind (one x) g ≡ g x
bind-one x g = then_run-none (g x)

items-one : {A : Type 0} (xs : List A) (e : Ending) → bind_items xs e one ≡ record { items = xs; ending = e }
items-one [] e = refl
items-one (x ∷ xs) e = ap (then_run (one x)) (items-one xs e)

pub bind-one_right : {A : Type 0} (r : Run A) → bind r one ≡ r
bind-one_right r = items-one r.items r.ending

bind-before : {A B : Type 0} (xs : List A) (e : Ending) (s : Run A) (g : A → Run B) → bind (before xs (go_on e s)) g ≡ then_run (bind_items xs e g) (bind s g)
bind-before [] e s g = ending-bind e s g
bind-before (x ∷ xs) e s g = ap (then_run (g x)) (bind-before xs e s g) ∙ sym (then_run-assoc (g x) (bind_items xs e g) (bind s g))

pub bind-then_run : {A B : Type 0} (r s : Run A) (g : A → Run B) → bind (then_run r s) g ≡ then_run (bind r g) (bind s g)
bind-then_run r s g = bind-before r.items r.ending s g

items-bind : {A B C : Type 0} (xs : List A) (e : Ending) (g : A → Run B) (h : B → Run C) → bind (bind_items xs e g) h ≡ bind_items xs e (λ x. bind (g x) h)
items-bind [] e g h = refl
items-bind (x ∷ xs) e g h = bind-then_run (g x) (bind_items xs e g) h ∙ ap (then_run (bind (g x) h)) (items-bind xs e g h)

pub bind-bind : {A B C : Type 0} (r : Run A) (g : A → Run B) (h : B → Run C) → bind (bind r g) h ≡ bind r (λ x. bind (g x) h)
bind-bind r g h = items-bind r.items r.ending g h
