-- Runs of bindings that have other inputs.
use Rattle.std.proofs.Common.{◌≡◌, List, [], ◌∷◌, ◌++◌, refl, ap, ◌∙◌, subst}
use Rattle.std.specs.Prelude.{⊤, map}
use Rattle.jv_data.specs.Value.{Value}
use Rattle.jq_tree.specs.Names.{Scope}
use Rattle.jq_meaning.specs.Runs.{Item, Ending, Done, Raised, Broken, Stopped, Run, before, go_on, then_run, bind, bind_items}
use Rattle.jq_meaning.specs.Env.{Env}
use Rattle.jq_meaning.specs.Folds.{next_state, reduced, each_of}
use Rattle.jq_folds.specs.laws.Reading.{with_inputs, Hides, NoneReads}

abbrev pub Each : {A : Type 0} → (A → Type 0) → List A → Type 0
Each P [] = ⊤
Each P (x ∷ xs) = P x × Each P xs

abbrev pub run_map : {A B : Type 0} → (A → B) → Run A → Run B
run_map f r = record { items = map f r.items; ending = r.ending }

-- the second run is the first one with its items changed, and P holds for each of them
pub record Moved {A B : Type 0} (f : A → B) (P : A → Type 0) (r : Run A) (q : Run B) : Type 0 where
  pub same : run_map f r ≡ q
  pub each : Each P r.items

map-append : {A B : Type 0} (f : A → B) (xs ys : List A) → map f (xs ++ ys) ≡ map f xs ++ map f ys
map-append f [] ys = refl
map-append f (x ∷ xs) ys = ap (λ zs. f x ∷ zs) (map-append f xs ys)

map-go_on : {A B : Type 0} (f : A → B) (e : Ending) (r : Run A) → run_map f (go_on e r) ≡ go_on e (run_map f r)
map-go_on f Done r = refl
map-go_on f (Raised v) r = refl
map-go_on f (Broken k) r = refl
map-go_on f (Stopped stop) r = refl

map-then : {A B : Type 0} (f : A → B) (r q : Run A) → run_map f (then_run r q) ≡ then_run (run_map f r) (run_map f q)
map-then f r q =
    ap (λ zs. record { items = zs; ending = (go_on r.ending q).ending }) (map-append f r.items (go_on r.ending q).items) ∙ ap (before (map f r.items)) (map-go_on f r.ending q)

Each-append : {A : Type 0} (P : A → Type 0) (xs ys : List A) → Each P xs → Each P ys → Each P (xs ++ ys)
Each-append P [] ys h i = i
Each-append P (x ∷ xs) ys h i = (h.0, Each-append P xs ys h.1 i)

Each-go_on : {A : Type 0} (P : A → Type 0) (e : Ending) (r : Run A) → Each P r.items → Each P (go_on e r).items
Each-go_on P Done r h = h
Each-go_on P (Raised v) r h = tt
Each-go_on P (Broken level) r h = tt
Each-go_on P (Stopped stop) r h = tt

moved-then : {A B : Type 0} (f : A → B) (P : A → Type 0) (r q : Run A) (r' q' : Run B) → Moved f P r r' → Moved f P q q' → Moved f P (then_run r q) (then_run r' q')
moved-then f P r q r' q' h i =
    record { same = map-then f r q ∙ ap (λ t. then_run t (run_map f q)) h.same ∙ ap (then_run r') i.same; each = Each-append P r.items (go_on r.ending q).items h.each (Each-go_on P r.ending q i.each) }

-- a run of anything, and then moved runs
moved-each : {A B C : Type 0} (f : A → B) (P : A → Type 0) (xs : List C) (e : Ending) (g : C → Run A) (g' : C → Run B) → ((x : C) → Moved f P (g x) (g' x)) → Moved f P (bind_items xs e g) (bind_items xs e g')
moved-each f P [] e g g' h = record { same = refl; each = tt }
moved-each f P (x ∷ xs) e g g' h = moved-then f P (g x) (bind_items xs e g) (g' x) (bind_items xs e g') (h x) (moved-each f P xs e g g' h)

pub moved-items : {A B C : Type 0} (f : A → B) (P : A → Type 0) (r r' : Run C) (g : C → Run A) (g' : C → Run B) → r ≡ r' → ((x : C) → Moved f P (g x) (g' x)) → Moved f P (bind r g) (bind r' g')
moved-items f P r r' g g' e h = subst (λ q. Moved f P (bind r g) (bind q g')) e (moved-each f P r.items r.ending g g' h)

-- moved bindings, and then moved runs
moved-list : {A : Type 0} (f : A → A) (P : A → Type 0) (xs : List A) (e : Ending) (g g' : A → Run A) → Each P xs → ((x : A) → P x → Moved f P (g x) (g' (f x))) → Moved f P (bind_items xs e g) (bind_items (map f xs) e g')
moved-list f P [] e g g' c h = record { same = refl; each = tt }
moved-list f P (x ∷ xs) e g g' c h = moved-then f P (g x) (bind_items xs e g) (g' (f x)) (bind_items (map f xs) e g') (h x c.0) (moved-list f P xs e g g' c.1 h)

pub moved-bind : {A : Type 0} (f : A → A) (P : A → Type 0) (r r' : Run A) (g g' : A → Run A) → Moved f P r r' → ((x : A) → P x → Moved f P (g x) (g' (f x))) → Moved f P (bind r g) (bind r' g')
moved-bind f P r r' g g' m h = subst (λ q. Moved f P (bind r g) (bind q g')) m.same (moved-list f P r.items r.ending g g' m.each h)

-- moved bindings, and then the same runs
same-list : {A B C : Type 0} (f : A → B) (P : A → Type 0) (xs : List A) (e : Ending) (g : A → Run C) (g' : B → Run C) → Each P xs → ((x : A) → P x → g x ≡ g' (f x)) → bind_items xs e g ≡ bind_items (map f xs) e g'
same-list f P [] e g g' c h = refl
same-list f P (x ∷ xs) e g g' c h = λ i. then_run (h x c.0 i) (same-list f P xs e g g' c.1 h i)

pub same-bind : {A B C : Type 0} (f : A → B) (P : A → Type 0) (r : Run A) (r' : Run B) (g : A → Run C) (g' : B → Run C) → Moved f P r r' → ((x : A) → P x → g x ≡ g' (f x)) → bind r g ≡ bind r' g'
same-bind f P r r' g g' m h = same-list f P r.items r.ending g g' m.each h ∙ ap (λ q. bind q g') m.same

-- ---- folds over moved bindings

reduced-list : {A B : Type 0} (f : A → B) (P : A → Type 0) (u : A → Item → Run Item) (u' : B → Item → Run Item) (xs : List A) (e : Ending) (s : Item) → Each P xs → ((x : A) → P x → (y : Item) → u x y ≡ u' (f x) y)
    → reduced u xs e s ≡ reduced u' (map f xs) e s
reduced-list f P u u' [] e s c h = refl
reduced-list f P u u' (x ∷ xs) e s c h = λ i. next_state s (h x c.0 s i) (λ y. reduced-list f P u u' xs e y c.1 h i)

pub same-reduced : {A B : Type 0} (f : A → B) (P : A → Type 0) (r : Run A) (r' : Run B) (u : A → Item → Run Item) (u' : B → Item → Run Item) → Moved f P r r' → ((x : A) → P x → (y : Item) → u x y ≡ u' (f x) y)
    → (s : Item) → reduced u r.items r.ending s ≡ reduced u' r'.items r'.ending s
same-reduced f P r r' u u' m h s = reduced-list f P u u' r.items r.ending s m.each h ∙ ap (λ q. reduced u' q.items q.ending s) m.same

each-list : {A B : Type 0} (f : A → B) (P : A → Type 0) (u t : A → Item → Run Item) (u' t' : B → Item → Run Item) (xs : List A) (e : Ending) (s : Item) → Each P xs
    → ((x : A) → P x → (y : Item) → u x y ≡ u' (f x) y) → ((x : A) → P x → (y : Item) → t x y ≡ t' (f x) y) → each_of u t xs e s ≡ each_of u' t' (map f xs) e s
each-list f P u t u' t' [] e s c h j = refl
each-list f P u t u' t' (x ∷ xs) e s c h j =
    λ i. then_run (bind (h x c.0 s i) (λ y. j x c.0 y i)) (next_state s (h x c.0 s i) (λ y. each-list f P u t u' t' xs e y c.1 h j i))

pub same-each : {A B : Type 0} (f : A → B) (P : A → Type 0) (r : Run A) (r' : Run B) (u t : A → Item → Run Item) (u' t' : B → Item → Run Item) → Moved f P r r'
    → ((x : A) → P x → (y : Item) → u x y ≡ u' (f x) y) → ((x : A) → P x → (y : Item) → t x y ≡ t' (f x) y)
    → (s : Item) → each_of u t r.items r.ending s ≡ each_of u' t' r'.items r'.ending s
same-each f P r r' u t u' t' m h j s = each-list f P u t u' t' r.items r.ending s m.each h j ∙ ap (λ q. each_of u' t' q.items q.ending s) m.same

-- ---- bindings with other inputs

-- bindings in which nothing calls `inputs`, and a scope that they fit
abbrev pub Kept : Scope → Env → Type 0
Kept s e = Hides s e × NoneReads e

abbrev pub MovedEnvs : Run Value → Scope → Run Env → Run Env → Type 0
MovedEnvs r s = Moved (with_inputs r) (Kept s)
