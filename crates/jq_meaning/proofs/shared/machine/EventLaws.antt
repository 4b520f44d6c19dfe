-- Runs with marks, and the runs that they are without them.
use Rattle.std.proofs.Common.{◌≡◌, List, [], ◌∷◌, ◌++◌, refl, ap, ◌∙◌}
use Rattle.jq_meaning.specs.Runs.{Ending, Done, Raised, Broken, Stopped, Run, none, before, go_on, then_run, bind, bind_items}
use Rattle.jq_meaning.specs.machine.State.{Cell}
use Rattle.jq_meaning.proofs.shared.machine.Flow.{Taken, taken, guarded, cell_after, stored, FoldBehaviour, folded}
use Rattle.jq_meaning.proofs.shared.machine.Events.{Event, visit, output, outputs, erase, store_output, marked}

-- ---- erasing

outputs-append : {A : Type 0} (xs ys : List (Event A)) → outputs (xs ++ ys) ≡ outputs xs ++ outputs ys
outputs-append [] ys = refl
outputs-append (visit ∷ xs) ys = outputs-append xs ys
outputs-append (output x ∷ xs) ys = ap (λ zs. x ∷ zs) (outputs-append xs ys)

pub erase-before : {A : Type 0} (xs : List (Event A)) (r : Run (Event A)) → erase (before xs r) ≡ before (outputs xs) (erase r)
erase-before xs r = ap (λ zs. record { items = zs; ending = r.ending }) (outputs-append xs r.items)

erase-go_on : {A : Type 0} (e : Ending) (r : Run (Event A)) → erase (go_on e r) ≡ go_on e (erase r)
erase-go_on Done r = refl
erase-go_on (Raised v) r = refl
erase-go_on (Broken k) r = refl
erase-go_on (Stopped stop) r = refl

pub erase-then_run : {A : Type 0} (r s : Run (Event A)) → erase (then_run r s) ≡ then_run (erase r) (erase s)
erase-then_run r s = erase-before r.items (go_on r.ending s) ∙ ap (before (outputs r.items)) (erase-go_on r.ending s)

-- a run for each event that does not depend on marks
pub record Erases {A B : Type 0} (g : Event A → Run (Event B)) (h : A → Run B) : Type 0 where
  pub of_visit : erase (g visit) ≡ none
  pub of_output : (x : A) → erase (g (output x)) ≡ h x

erase-items : {A B : Type 0} (g : Event A → Run (Event B)) (h : A → Run B) → Erases g h → (xs : List (Event A)) (e : Ending) → erase (bind_items xs e g) ≡ bind_items (outputs xs) e h
erase-items g h p [] e = refl
erase-items g h p (visit ∷ xs) e = erase-then_run (g visit) (bind_items xs e g) ∙ ap (λ r. then_run r (erase (bind_items xs e g))) p.of_visit ∙ erase-items g h p xs e
erase-items g h p (output x ∷ xs) e =
    erase-then_run (g (output x)) (bind_items xs e g) ∙ ap (λ r. then_run r (erase (bind_items xs e g))) (p.of_output x) ∙ ap (then_run (h x)) (erase-items g h p xs e)

pub erase-bind : {A B : Type 0} (g : Event A → Run (Event B)) (h : A → Run B) → Erases g h → (r : Run (Event A)) → erase (bind r g) ≡ bind (erase r) h
erase-bind g h p r = erase-items g h p r.items r.ending

pub erase-guarded : {A : Type 0} (take : Taken (Event A)) (take' : Taken A) (r : Run (Event A)) → ((e : Ending) → erase (taken e (take e)) ≡ taken e (take' e)) → erase (guarded take r) ≡ guarded take' (erase r)
erase-guarded take take' r p = erase-before r.items (taken r.ending (take r.ending)) ∙ ap (before (outputs r.items)) (p r.ending)

cell-outputs : {A : Type 0} (store : A → Cell → Cell) (xs : List (Event A)) (c : Cell) → cell_after (store_output store) xs c ≡ cell_after store (outputs xs) c
cell-outputs store [] c = refl
cell-outputs store (visit ∷ xs) c = cell-outputs store xs c
cell-outputs store (output x ∷ xs) c = cell-outputs store xs (store x c)

pub erase-stored : {A B : Type 0} (store : A → Cell → Cell) (g : Event A → Run (Event B)) (h : A → Run B) (f : Cell → Run (Event B)) (f' : Cell → Run B) → Erases g h → ((c : Cell) → erase (f c) ≡ f' c) → (c : Cell) (r : Run (Event A))
    → erase (stored (store_output store) g f c r) ≡ stored store h f' c (erase r)
erase-stored store g h f f' p q c r =
    let d = cell_after (store_output store) r.items c in
    erase-then_run (bind r g) (go_on r.ending (f d))
    ∙ ap (λ t. then_run t (erase (go_on r.ending (f d)))) (erase-bind g h p r)
    ∙ ap (then_run (bind (erase r) h)) (erase-go_on r.ending (f d) ∙ ap (go_on r.ending) (q d ∙ ap f' (cell-outputs store r.items c)))

pub record FoldErases {S A B : Type 0} (f : FoldBehaviour S (Event A) (Event B)) (g : FoldBehaviour S A B) : Type 0 where
  pub begins : (b : S) (c : Cell) → f.begin b c ≡ g.begin b c
  pub updates : (b : S) (c : Cell) → erase (f.update b c) ≡ g.update b c
  pub stores : f.store ≡ store_output g.store
  pub extracts : (b : S) → Erases (f.extract b) (g.extract b)
  pub checks : (b : S) (c d : Cell) → erase (f.check b c d) ≡ g.check b c d

pub erase-folded : {S A B : Type 0} (f : FoldBehaviour S (Event A) (Event B)) (g : FoldBehaviour S A B) (finish : Cell → Run (Event B)) (finish' : Cell → Run B) → FoldErases f g → ((c : Cell) → erase (finish c) ≡ finish' c) → (xs : List (Event S)) (e : Ending) (c : Cell)
    → erase (folded (marked f) finish xs e c) ≡ folded g finish' (outputs xs) e c
erase-folded f g finish finish' p q [] e c = erase-go_on e (finish c) ∙ ap (go_on e) (q c)
erase-folded {A = A} {B = B} f g finish finish' p q (visit ∷ xs) e c =
    ap (λ (store : Event A → Cell → Cell). erase {A = B} (folded (marked f) finish xs e (store visit c))) p.stores ∙ erase-folded f g finish finish' p q xs e c
erase-folded {S = S} {A = A} {B = B} f g finish finish' p q (output b ∷ xs) e c =
    let after : Cell → Run (Event B) = λ d. then_run (f.check b c d) (folded (marked f) finish xs e d) in
    let after' : Cell → Run B = λ d. then_run (g.check b c d) (folded g finish' (outputs xs) e d) in
    ap (λ (store : Event A → Cell → Cell). erase (stored store (f.extract b) after (f.begin b c) (f.update b c))) p.stores
    ∙ erase-stored g.store (f.extract b) (g.extract b) after after' (p.extracts b)
    (λ d. erase-then_run (f.check b c d) (folded (marked f) finish xs e d) ∙ ap (λ t. then_run t (erase (folded (marked f) finish xs e d))) (p.checks b c d) ∙ ap (then_run (g.check b c d)) (erase-folded f g finish finish' p q xs e d))
    (f.begin b c) (f.update b c)
    ∙ ap (λ (d : Cell). stored g.store (g.extract b) after' d (erase (f.update b c))) (p.begins b c)
    ∙ ap (λ (r : Run A). stored g.store (g.extract b) after' (g.begin b c) r) (p.updates b c)
