-- A run in its surroundings: laws of each kind of frame.
use Rattle.std.proofs.Common.{◌≡◌, ◌≢◌, ℕ, List, [], ◌∷◌, ◌++◌, nat_eq, if◌then◌else◌, Bool, true, false, Option, Some, None, refl, sym, ap, ◌∙◌, arith}
use Rattle.std.proofs.lemmas.Bool.Decides.{nat_tests}
use Rattle.jq_meaning.specs.Runs.{Ending, Done, Raised, Broken, Stopped, Run, before, go_on, then_run, bind, bind_items}
use Rattle.jq_meaning.proofs.shared.machine.RunLaws.{go_on-twice, then_run-assoc}
use Rattle.jq_meaning.specs.machine.State.{Cell}
use Rattle.jq_meaning.proofs.shared.machine.Flow.{Cells, put, Rest, at, Flow, end_by, give_all, feed, outside, through_flow, Taken, take_or, guard_flow, turn_flow, FoldBehaviour, source_flow, taken, guarded, cell_after, stored, folded}

-- ---- cells

pub put-here : (h : ℕ) (c : Cell) (s : Cells) → put h c s h ≡ c
put-here h c s = let e : nat_eq h h ≡ true = grind (arith, nat_tests) in rw e refl

pub put-other : (h i : ℕ) (c : Cell) (s : Cells) → i ≢ h → put h c s i ≡ s i
put-other h i c s p = let e : nat_eq i h ≡ false = grind (arith, nat_tests) in rw e refl

put-put-at : (t : Bool) (a b c : Cell) → (if t then a else (if t then b else c)) ≡ (if t then a else c)
put-put-at true a b c = refl
put-put-at false a b c = refl

pub put-put : (h : ℕ) (c d : Cell) (s : Cells) → put h d (put h c s) ≡ put h d s
put-put h c d s = λ i n. put-put-at (nat_eq n h) d c (s n) i

swap-at : (n h i : ℕ) (t u : Bool) → nat_eq n h ≡ t → nat_eq n i ≡ u → i ≢ h → (a b c : Cell) → (if u then a else (if t then b else c)) ≡ (if t then b else (if u then a else c))
swap-at n h i true true e f p a b c = let x : n ≡ h = grind (arith, nat_tests) in let y : n ≡ i = grind (arith, nat_tests) in absurd (omega arith)
swap-at n h i true false e f p a b c = refl
swap-at n h i false true e f p a b c = refl
swap-at n h i false false e f p a b c = refl

pub put-swap : (h i : ℕ) (c d : Cell) (s : Cells) → i ≢ h → put i d (put h c s) ≡ put h c (put i d s)
put-swap h i c d s p = λ j n. swap-at n h i (nat_eq n h) (nat_eq n i) refl refl p d c (s n) j

-- ---- one run after another

give-append : {A T : Type 0} (w : Flow A T) (xs ys : List A) (a : Rest T) → give_all w (xs ++ ys) a ≡ give_all w xs (give_all w ys a)
give-append w [] ys a = refl
give-append w (x ∷ xs) ys a = ap (w.give x) (give-append w xs ys a)

feed-go_on : {A T : Type 0} (w : Flow A T) (e : Ending) (r : Run A) (a : Rest T) → feed w (go_on e r) a ≡ end_by w e (feed w r a)
feed-go_on w Done r a = refl
feed-go_on w (Raised v) r a = refl
feed-go_on w (Broken k) r a = refl
feed-go_on w (Stopped stop) r a = refl

pub feed-before : {A T : Type 0} (w : Flow A T) (xs : List A) (r : Run A) (a : Rest T) → feed w (before xs r) a ≡ give_all w xs (feed w r a)
feed-before w xs r a = give-append w xs r.items (end_by w r.ending a)

-- a comma
pub feed-then_run : {A T : Type 0} (w : Flow A T) (r s : Run A) (a : Rest T) → feed w (then_run r s) a ≡ feed w r (feed w s a)
feed-then_run w r s a = feed-before w r.items (go_on r.ending s) a ∙ ap (give_all w r.items) (feed-go_on w r.ending s a)

-- ---- a pipe

end-same : {A B T : Type 0} (w : Flow A T) (v : Flow B T) (e : Ending) (a : Rest T) → ((f : Ending) → w.stop f ≡ v.stop f) → end_by w e a ≡ end_by v e a
end-same w v Done a p = refl
end-same w v (Raised x) a p = p (Raised x)
end-same w v (Broken k) a p = p (Broken k)
end-same w v (Stopped stop) a p = p (Stopped stop)

bind-items : {A B T : Type 0} (w : Flow B T) (g : A → Run B) (xs : List A) (e : Ending) (a : Rest T)
    → feed w (bind_items xs e g) a ≡ feed (through_flow g w) (record { items = xs; ending = e }) a
bind-items w g [] e a = end-same w (through_flow g w) e a (λ f. refl)
bind-items w g (x ∷ xs) e a = feed-then_run w (g x) (bind_items xs e g) a ∙ ap (feed w (g x)) (bind-items w g xs e a)

pub feed-bind : {A B T : Type 0} (w : Flow B T) (g : A → Run B) (r : Run A) (a : Rest T) → feed w (bind r g) a ≡ feed (through_flow g w) r a
feed-bind w g r a = bind-items w g r.items r.ending a

-- ---- endings that are caught

guard-other : {B T : Type 0} (w : Flow B T) (a : Rest T) (e : Ending) (o : Option (Run B)) → ((b : Rest T) → end_by w e b ≡ w.stop e) → feed w (taken e o) a ≡ take_or w a e o
guard-other w a e None p = p a
guard-other w a e (Some r) p = refl

guard-done : {B T : Type 0} (w : Flow B T) (a : Rest T) (o : Option (Run B)) → o ≡ None → feed w (taken Done o) a ≡ a
guard-done w a None p = refl
guard-done w a (Some r) p = cc

guard-end : {B T : Type 0} (w : Flow B T) (take : Taken B) (e : Ending) (a : Rest T) → take Done ≡ None → feed w (taken e (take e)) a ≡ end_by (guard_flow take a w) e a
guard-end w take Done a p = guard-done w a (take Done) p
guard-end w take (Raised v) a p = guard-other w a (Raised v) (take (Raised v)) (λ b. refl)
guard-end w take (Broken k) a p = guard-other w a (Broken k) (take (Broken k)) (λ b. refl)
guard-end w take (Stopped stop) a p = guard-other w a (Stopped stop) (take (Stopped stop)) (λ b. refl)

give-same : {A T : Type 0} (w v : Flow A T) (xs : List A) (a : Rest T) → ((x : A) (b : Rest T) → w.give x b ≡ v.give x b) → give_all w xs a ≡ give_all v xs a
give-same w v [] a p = refl
give-same w v (x ∷ xs) a p = ap (w.give x) (give-same w v xs a p) ∙ p x (give_all v xs a)

-- try, label, and the left side of //
pub feed-guarded : {B T : Type 0} (w : Flow B T) (take : Taken B) (r : Run B) (a : Rest T) → take Done ≡ None → feed w (guarded take r) a ≡ feed (guard_flow take a w) r a
feed-guarded w take r a p =
    feed-before w r.items (taken r.ending (take r.ending)) a
    ∙ ap (give_all w r.items) (guard-end w take r.ending a p)
    ∙ give-same w (guard_flow take a w) r.items (end_by (guard_flow take a w) r.ending a) (λ x b. refl)

-- ---- what does not change the cell at a height

pub record Local {A T : Type 0} (h : ℕ) (w : Flow A T) : Type 0 where
  pub give : (c : Cell) (x : A) (a : Rest T) → at h c (w.give x a) ≡ w.give x (at h c a)
  pub stop : (c : Cell) (e : Ending) → at h c (w.stop e) ≡ w.stop e

local-end : {A T : Type 0} (h : ℕ) (w : Flow A T) → Local h w → (c : Cell) (e : Ending) (a : Rest T) → at h c (end_by w e a) ≡ end_by w e (at h c a)
local-end h w l c Done a = refl
local-end h w l c (Raised v) a = l.stop c (Raised v)
local-end h w l c (Broken k) a = l.stop c (Broken k)
local-end h w l c (Stopped stop) a = l.stop c (Stopped stop)

local-all : {A T : Type 0} (h : ℕ) (w : Flow A T) → Local h w → (c : Cell) (xs : List A) (a : Rest T) → at h c (give_all w xs a) ≡ give_all w xs (at h c a)
local-all h w l c [] a = refl
local-all h w l c (x ∷ xs) a = l.give c x (give_all w xs a) ∙ ap (w.give x) (local-all h w l c xs a)

pub local-feed : {A T : Type 0} (h : ℕ) (w : Flow A T) → Local h w → (c : Cell) (r : Run A) (a : Rest T) → at h c (feed w r a) ≡ feed w r (at h c a)
local-feed h w l c r a = local-all h w l c r.items (end_by w r.ending a) ∙ ap (give_all w r.items) (local-end h w l c r.ending a)

-- ---- cells that change: arrays, //, and an update of a fold

end-cell : {A B T : Type 0} (h : ℕ) (w : Flow B T) (v : Flow A T) → Local h w → ((f : Ending) → v.stop f ≡ w.stop f) → (e : Ending) (c : Cell) (r : Run B) (a last : Rest T) → feed w r a ≡ at h c last
    → feed w (go_on e r) a ≡ at h c (end_by v e last)
end-cell h w v l p Done c r a last q = q
end-cell h w v l p (Raised x) c r a last q = sym (l.stop c (Raised x)) ∙ ap (at h c) (sym (p (Raised x)))
end-cell h w v l p (Broken k) c r a last q = sym (l.stop c (Broken k)) ∙ ap (at h c) (sym (p (Broken k)))
end-cell h w v l p (Stopped stop) c r a last q = sym (l.stop c (Stopped stop)) ∙ ap (at h c) (sym (p (Stopped stop)))

-- the behaviour of a turn with a known cell
turn-give : {A B T : Type 0} (h : ℕ) (w : Flow B T) → Local h w → (store : A → Cell → Cell) (extract : A → Run B) (c : Cell) (x : A) (b : Rest T)
    → feed w (extract x) (at h (store x c) b) ≡ at h c ((turn_flow h store extract w).give x b)
turn-give {T = T} h w l store extract c x b =
    let one : feed w (extract x) (at h (store x c) b) ≡ at h (store x c) (feed w (extract x) b) = sym (local-feed h w l (store x c) (extract x) b) in
    let two : ◌≡◌ {A = Rest T} (at h (store x c) (feed w (extract x) b)) (at h c ((turn_flow h store extract w).give x b)) =
    λ i s. turn-at s i in
    one ∙ two
  where
    turn-at : (s : Cells) → feed w (extract x) b (put h (store x c) s) ≡ feed w (extract x) b (put h (store x (put h c s h)) (put h c s))
    turn-at s = ap (feed w (extract x) b) (sym (put-put h c (store x c) s)) ∙ ap (λ (d : Cell). feed w (extract x) b (put h (store x d) (put h c s))) (sym (put-here h c s))

stored-items : {A B T : Type 0} (h : ℕ) (w : Flow B T) → Local h w → (store : A → Cell → Cell) (extract : A → Run B) (finish : Cell → Run B) (a last : Rest T)
    → ((d : Cell) → feed w (finish d) a ≡ at h d last) → (xs : List A) (e : Ending) (c : Cell)
    → feed w (then_run (bind_items xs e extract) (go_on e (finish (cell_after store xs c)))) a ≡ at h c (feed (turn_flow h store extract w) (record { items = xs; ending = e }) last)
stored-items h w l store extract finish a last fits [] e c =
    ap (λ r. feed w r a) (go_on-twice e (finish c)) ∙ end-cell h w (turn_flow h store extract w) l (λ f. refl) e c (finish c) a last (fits c)
stored-items h w l store extract finish a last fits (x ∷ xs) e c =
    let s = go_on e (finish (cell_after store xs (store x c))) in
    ap (λ r. feed w r a) (then_run-assoc (extract x) (bind_items xs e extract) s)
    ∙ feed-then_run w (extract x) (then_run (bind_items xs e extract) s) a
    ∙ ap (feed w (extract x)) (stored-items h w l store extract finish a last fits xs e (store x c))
    ∙ turn-give h w l store extract c x (feed (turn_flow h store extract w) (record { items = xs; ending = e }) last)

-- an array, the left side of //, an update of a fold
pub feed-stored : {A B T : Type 0} (h : ℕ) (w : Flow B T) → Local h w → (store : A → Cell → Cell) (extract : A → Run B) (finish : Cell → Run B) (a last : Rest T)
    → ((d : Cell) → feed w (finish d) a ≡ at h d last) → (r : Run A) (c : Cell)
    → feed w (stored store extract finish c r) a ≡ at h c (feed (turn_flow h store extract w) r last)
feed-stored h w l store extract finish a last fits r c = stored-items h w l store extract finish a last fits r.items r.ending c

-- ---- folds

check-at : {B T : Type 0} (h : ℕ) (w : Flow B T) → Local h w → (check : Cell → Run B) (d : Cell) (b : Rest T)
    → feed w (check d) (at h d b) ≡ at h d (λ s. feed w (check (s h)) b s)
check-at {T = T} h w l check d b =
    let two : ◌≡◌ {A = Rest T} (at h d (feed w (check d) b)) (at h d (λ s. feed w (check (s h)) b s)) =
    λ i s. feed w (check (sym (put-here h d s) i)) b (put h d s) in
    sym (local-feed h w l d (check d) b) ∙ two

source-at : {S A B T : Type 0} (h : ℕ) (f : FoldBehaviour S A B) (w : Flow B T) (x : S) (c : Cell) (b : Rest T)
    → ◌≡◌ {A = Rest T} (at h (f.begin x c) (feed (turn_flow h f.store (f.extract x) w) (f.update x c) (λ s. feed w (f.check x c (s h)) b s))) (at h c ((source_flow h f w).give x b))
source-at {B = B} {T = T} h f w x c b = λ i s. here s i
  where
    from : Cell → Rest T
    from d = feed (turn_flow h f.store (f.extract x) w) (f.update x d) (λ s. feed w (f.check x d (s h)) b s)

    here : (s : Cells) → from c (put h (f.begin x c) s) ≡ from (put h c s h) (put h (f.begin x (put h c s h)) (put h c s))
    here s = ap (from c) (sym (put-put h c (f.begin x c) s)) ∙ ap (λ (d : Cell). from d (put h (f.begin x d) (put h c s))) (sym (put-here h c s))

pub feed-folded : {S A B T : Type 0} (h : ℕ) (w : Flow B T) → Local h w → (f : FoldBehaviour S A B) (finish : Cell → Run B) (a last : Rest T)
    → ((d : Cell) → feed w (finish d) a ≡ at h d last) → (xs : List S) (e : Ending) (c : Cell)
    → feed w (folded f finish xs e c) a ≡ at h c (feed (source_flow h f w) (record { items = xs; ending = e }) last)
feed-folded h w l f finish a last fits [] e c = end-cell h w (source_flow h f w) l (λ g. refl) e c (finish c) a last (fits c)
feed-folded h w l f finish a last fits (x ∷ xs) e c =
    let after = feed (source_flow h f w) (record { items = xs; ending = e }) last in
    feed-stored h w l f.store (f.extract x) (λ d. then_run (f.check x c d) (folded f finish xs e d)) a (λ s. feed w (f.check x c (s h)) after s)
    (λ d. feed-then_run w (f.check x c d) (folded f finish xs e d) a ∙ ap (feed w (f.check x c d)) (feed-folded h w l f finish a last fits xs e d) ∙ check-at h w l (f.check x c) d after)
    (f.update x c) (f.begin x c)
    ∙ source-at h f w x c after

-- ---- each frame changes only its own cell

pub local-outside : {T : Type 0} (h : ℕ) → Local h (outside {T = T})
local-outside h = record { give = λ c x a. refl; stop = λ c e. refl }

pub local-through : {A B T : Type 0} (h : ℕ) (g : A → Run B) (w : Flow B T) → Local h w → Local h (through_flow g w)
local-through h g w l = record { give = λ c x a. local-feed h w l c (g x) a; stop = l.stop }

local-take : {B T : Type 0} (h : ℕ) (w : Flow B T) (cut : Rest T) → Local h w → ((c : Cell) → at h c cut ≡ cut) → (c : Cell) (e : Ending) (o : Option (Run B)) → at h c (take_or w cut e o) ≡ take_or w cut e o
local-take h w cut l p c e None = l.stop c e
local-take h w cut l p c e (Some r) = local-feed h w l c r cut ∙ ap (feed w r) (p c)

pub local-guard : {B T : Type 0} (h : ℕ) (take : Taken B) (cut : Rest T) (w : Flow B T) → Local h w → ((c : Cell) → at h c cut ≡ cut) → Local h (guard_flow take cut w)
local-guard h take cut w l p = record { give = l.give; stop = λ c e. local-take h w cut l p c e (take e) }

pub local-turn : {A B T : Type 0} (h i : ℕ) (store : A → Cell → Cell) (extract : A → Run B) (w : Flow B T) → i ≢ h → Local h w → Local h (turn_flow i store extract w)
local-turn {A = A} {T = T} h i store extract w p l = record { give = λ c x a. (λ j s. here c x a s j); stop = l.stop }
  where
    here : (c : Cell) (x : A) (a : Rest T) (s : Cells) → feed w (extract x) a (put i (store x (put h c s i)) (put h c s)) ≡ feed w (extract x) (at h c a) (put i (store x (s i)) s)
    here c x a s =
        ap (λ (d : Cell). feed w (extract x) a (put i (store x d) (put h c s))) (put-other h i c s p)
        ∙ ap (feed w (extract x) a) (put-swap h i c (store x (s i)) s p)
        ∙ ap (λ (b : Rest T). b (put i (store x (s i)) s)) (local-feed h w l c (extract x) a)

pub local-source : {S A B T : Type 0} (h i : ℕ) (f : FoldBehaviour S A B) (w : Flow B T) → i ≢ h → Local h w → Local h (source_flow i f w)
local-source {S = S} {T = T} h i f w p l = record { give = λ c x a. (λ j s. here c x a s j); stop = l.stop }
  where
    after : S → Cell → Rest T → Rest T
    after x d a = λ s. feed w (f.check x d (s i)) a s

    after-at : (x : S) (d c : Cell) (a : Rest T) (s : Cells) → after x d a (put h c s) ≡ after x d (at h c a) s
    after-at x d c a s =
        ap (λ (b : Cell). feed w (f.check x d b) a (put h c s)) (put-other h i c s p)
        ∙ ap (λ (b : Rest T). b s) (local-feed h w l c (f.check x d (s i)) a)

    from : S → Cell → Rest T → Rest T
    from x d b = feed (turn_flow i f.store (f.extract x) w) (f.update x d) b

    here : (c : Cell) (x : S) (a : Rest T) (s : Cells) → from x (put h c s i) (after x (put h c s i) a) (put i (f.begin x (put h c s i)) (put h c s)) ≡ from x (s i) (after x (s i) (at h c a)) (put i (f.begin x (s i)) s)
    here c x a s =
        ap (λ (d : Cell). from x d (after x d a) (put i (f.begin x d) (put h c s))) (put-other h i c s p)
        ∙ ap (from x (s i) (after x (s i) a)) (put-swap h i c (f.begin x (s i)) s p)
        ∙ ap (λ (b : Rest T). b (put i (f.begin x (s i)) s)) (local-feed h (turn_flow i f.store (f.extract x) w) (local-turn h i f.store (f.extract x) w p l) c (f.update x (s i)) (after x (s i) a))
        ∙ ap (λ (b : Rest T). from x (s i) b (put i (f.begin x (s i)) s)) (λ j u. after-at x (s i) c a u j)
