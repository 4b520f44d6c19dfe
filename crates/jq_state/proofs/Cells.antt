-- Cells of fork points by height: the vector has the oldest one first, the machine's stack the newest.
use Rattle.std.proofs.Common.{◌≡◌, ◌≢◌, ℕ, zero, suc, ◌+◌, ◌<◌, ◌≤◌, List, [], ◌∷◌, ◌++◌, map, reverse, length, get_or, set, take, drop, length-append, nat_eq, nat_lt, if◌then◌else◌, Bool, true, false, Vec, refl, sym, ap, subst, ◌∙◌, arith}
use Rattle.std.proofs.lemmas.Bool.Decides.{nat_tests}
use Rattle.std.proofs.lemmas.List.{append-nil, same_from_push, map_push, length-set, take_all, take-append-le, reverse-append, reverse-reverse, length-reverse, length-map, take-map, get_or_at, get_or_past, get_or-map, set_at, set_past, map-set}
use Rattle.std.specs.declared.alloc.Global.{Global}
use Rattle.jq_meaning.specs.Env.{Env}
use Rattle.jq_meaning.specs.machine.State.{Cell, ForkPoint, fork, no_more}
use Rattle.jq_meaning.specs.machine.State as machine
use Rattle.jq_meaning.specs.machine.Stack.{cut, cell_at, set_cell}
use Rattle.jq_meaning.specs.machine.Operations.{state_in}
use Rattle.jq_state.specs.Items.{item_of}
use Rattle.jq_state.specs.Views.{is_empty}
use Rattle.jq_state.specs.Forks.{cell_of, fork_in, ForksFit}
use Rattle.jq_state.specs.States.{Fits}
use Rattle.jq_state.specs.Environments.{count_of, first_count}
use Rattle.jq_state.specs.Chains.{height_of}
use Rattle.jq_state.specs.declared.items.Item.{Item}
use Rattle.jq_state.specs.declared.environments.Nodes.{Nodes}
use Rattle.jq_state.specs.declared.frames.Frame.{Frame}
use Rattle.jq_state.specs.declared.frames.Frames.{Frames}
use Rattle.jq_state.specs.declared.forks.Fork.{Fork}
use Rattle.jq_state.proofs.Extending.{forks_low}

-- ---- the newest cells are cut off

cut-at : {A : Type 0} (t : Bool) (h : ℕ) (x : A) (xs : List A) → nat_lt (length xs) h ≡ t → cut h xs ≡ reverse (take h (reverse xs)) → (if t then x ∷ xs else cut h xs) ≡ reverse (take h (reverse (x ∷ xs)))
cut-at true h x xs e ih =
    let p : length xs < h = grind (arith, nat_tests) in
    let n : length (reverse (x ∷ xs)) ≡ suc (length xs) = length-reverse (x ∷ xs) in
    let q : length (reverse (x ∷ xs)) ≤ h = omega (arith, n, p) in
    sym (ap reverse (take_all h (reverse (x ∷ xs)) q) ∙ reverse-reverse (x ∷ xs))
cut-at false h x xs e ih =
    let p : h ≤ length xs = grind (arith, nat_tests) in
    let n : length (reverse xs) ≡ length xs = length-reverse xs in
    let q : h ≤ length (reverse xs) = omega (arith, n, p) in
    ih ∙ sym (ap (λ ys. reverse (take h ys)) (reverse-append (x ∷ []) xs) ∙ ap reverse (take-append-le h (reverse xs) (x ∷ []) q))

cut_stack : {A : Type 0} (h : ℕ) (xs : List A) → cut h xs ≡ reverse (take h (reverse xs))
cut_stack h [] = sym (ap reverse (take_all h [] (omega arith)))
cut_stack h (x ∷ xs) = cut-at (nat_lt (length xs) h) h x xs refl (cut_stack h xs)

pub cut_reversed : {A : Type 0} (h : ℕ) (xs : List A) → cut h (reverse xs) ≡ reverse (take h xs)
cut_reversed h xs = cut_stack h (reverse xs) ∙ ap (λ ys. reverse (take h ys)) (reverse-reverse xs)

-- ---- an element that is not the last one

other_read : {A : Type 0} (xs : List A) (y d : A) (h : ℕ) → h ≢ length xs → get_or (xs ++ y ∷ []) h d ≡ get_or xs h d
other_read [] y d zero n = absurd (n refl)
other_read [] y d (suc h) n = refl
other_read (x ∷ xs) y d zero n = refl
other_read (x ∷ xs) y d (suc h) n = other_read xs y d h (λ p. n (ap suc p))

other_set : {A : Type 0} (xs : List A) (y a : A) (h : ℕ) → h ≢ length xs → set (xs ++ y ∷ []) h a ≡ set xs h a ++ y ∷ []
other_set [] y a zero n = absurd (n refl)
other_set [] y a (suc h) n = refl
other_set (x ∷ xs) y a zero n = refl
other_set (x ∷ xs) y a (suc h) n = ap (λ l. x ∷ l) (other_set xs y a h (λ p. n (ap suc p)))

-- ---- a cell is read

abbrev no_fork : ForkPoint
no_fork = fork no_more [] []

cell-at : (t : Bool) (h : ℕ) (f : ForkPoint) (fs : List ForkPoint) → nat_eq h (length fs) ≡ t → cell_at h fs ≡ (get_or (reverse fs) h no_fork).cell
    → (if t then f.cell else cell_at h fs) ≡ (get_or (reverse (f ∷ fs)) h no_fork).cell
cell-at true h f fs e ih =
    let q : h ≡ length fs = grind (arith, nat_tests) in
    let p : length (reverse fs) ≡ h = length-reverse fs ∙ sym q in
    sym (ap (λ gs. (get_or gs h no_fork).cell) (reverse-append (f ∷ []) fs) ∙ ap (λ (g : ForkPoint). g.cell) (get_or_at (reverse fs) f [] no_fork h p))
cell-at false h f fs e ih =
    let q : h ≢ length fs = grind (arith, nat_tests) in
    let p : h ≢ length (reverse fs) = λ w. q (w ∙ length-reverse fs) in
    ih ∙ sym (ap (λ gs. (get_or gs h no_fork).cell) (reverse-append (f ∷ []) fs) ∙ ap (λ (g : ForkPoint). g.cell) (other_read (reverse fs) f no_fork h p))

cell_stack : (h : ℕ) (fs : List ForkPoint) → cell_at h fs ≡ (get_or (reverse fs) h no_fork).cell
cell_stack h [] = refl
cell_stack h (f ∷ fs) = cell-at (nat_eq h (length fs)) h f fs refl (cell_stack h fs)

cell_reversed : (h : ℕ) (fs : List ForkPoint) → cell_at h (reverse fs) ≡ (get_or fs h no_fork).cell
cell_reversed h fs = cell_stack h (reverse fs) ∙ ap (λ gs. (get_or gs h no_fork).cell) (reverse-reverse fs)

-- ---- a cell is set

abbrev with_cell : Cell → ForkPoint → ForkPoint
with_cell c f = fork f.choice c f.frames

abbrev with_cell_at : ℕ → Cell → List ForkPoint → List ForkPoint
with_cell_at h c fs = set fs h (with_cell c (get_or fs h no_fork))

set-at : (t : Bool) (h : ℕ) (c : Cell) (f : ForkPoint) (fs : List ForkPoint) → nat_eq h (length fs) ≡ t → set_cell h c fs ≡ reverse (with_cell_at h c (reverse fs))
    → (if t then fork f.choice c f.frames ∷ fs else f ∷ set_cell h c fs) ≡ reverse (with_cell_at h c (reverse (f ∷ fs)))
set-at true h c f fs e ih =
    let q : h ≡ length fs = grind (arith, nat_tests) in
    let p : length (reverse fs) ≡ h = length-reverse fs ∙ sym q in
    sym (ap (λ gs. reverse (with_cell_at h c gs)) (reverse-append (f ∷ []) fs)
    ∙ ap (λ g. reverse (set (reverse fs ++ f ∷ []) h (with_cell c g))) (get_or_at (reverse fs) f [] no_fork h p)
    ∙ ap reverse (set_at (reverse fs) f [] (with_cell c f) h p)
    ∙ reverse-append (reverse fs) (with_cell c f ∷ [])
    ∙ ap (λ l. with_cell c f ∷ l) (reverse-reverse fs))
set-at false h c f fs e ih =
    let q : h ≢ length fs = grind (arith, nat_tests) in
    let p : h ≢ length (reverse fs) = λ w. q (w ∙ length-reverse fs) in
    let a = with_cell c (get_or (reverse fs) h no_fork) in
    sym (ap (λ gs. reverse (with_cell_at h c gs)) (reverse-append (f ∷ []) fs)
    ∙ ap (λ g. reverse (set (reverse fs ++ f ∷ []) h (with_cell c g))) (other_read (reverse fs) f no_fork h p)
    ∙ ap reverse (other_set (reverse fs) f a h p)
    ∙ reverse-append (set (reverse fs) h a) (f ∷ [])
    ∙ ap (λ l. f ∷ l) (sym ih))

set_stack : (h : ℕ) (c : Cell) (fs : List ForkPoint) → set_cell h c fs ≡ reverse (with_cell_at h c (reverse fs))
set_stack h c [] = refl
set_stack h c (f ∷ fs) = set-at (nat_eq h (length fs)) h c f fs refl (set_stack h c fs)

set_reversed : (h : ℕ) (c : Cell) (fs : List ForkPoint) → set_cell h c (reverse fs) ≡ reverse (with_cell_at h c fs)
set_reversed h c fs = set_stack h c (reverse fs) ∙ ap (λ gs. reverse (with_cell_at h c gs)) (reverse-reverse fs)

-- ---- the cells of fork points and those of the machine

abbrev pub points : List Env → List (List machine.Frame) → List Fork → List ForkPoint
points envs ks forks = reverse (map (fork_in envs ks) forks)

abbrev pub changed : Vec Item Global → Fork → Fork
changed v f = record { choice = f.choice; cell = v; scope = f.scope; next = f.next; frames = f.frames; envs = f.envs }

pub points_cut : (envs : List Env) (ks : List (List machine.Frame)) (forks : List Fork) (h : ℕ) → points envs ks (take h forks) ≡ cut h (points envs ks forks)
points_cut envs ks forks h = sym (cut_reversed h (map (fork_in envs ks) forks) ∙ ap reverse (take-map (fork_in envs ks) h forks))

pub cell_read : (envs : List Env) (ks : List (List machine.Frame)) (forks : List Fork) (h : ℕ) (f : Fork) → h < length forks → f ≡ get_or forks h f → cell_at h (points envs ks forks) ≡ cell_of f.cell
cell_read envs ks forks h f l e =
    cell_reversed h (map (fork_in envs ks) forks) ∙ ap (λ (g : ForkPoint). g.cell) (get_or-map (fork_in envs ks) forks h f no_fork l) ∙ ap (λ (g : Fork). cell_of g.cell) (sym e)

pub cell_outside : (envs : List Env) (ks : List (List machine.Frame)) (forks : List Fork) (h : ℕ) → length forks ≤ h → cell_at h (points envs ks forks) ≡ []
cell_outside envs ks forks h l =
    let n : length (map (fork_in envs ks) forks) ≡ length forks = length-map forks (fork_in envs ks) in
    let m : length (map (fork_in envs ks) forks) ≤ h = omega (arith, n, l) in
    cell_reversed h (map (fork_in envs ks) forks) ∙ ap (λ (g : ForkPoint). g.cell) (get_or_past (map (fork_in envs ks) forks) h no_fork m)

pub cell_changed : (envs : List Env) (ks : List (List machine.Frame)) (forks : List Fork) (h : ℕ) (f : Fork) (v : Vec Item Global) → h < length forks → f ≡ get_or forks h f
    → points envs ks (set forks h (changed v f)) ≡ set_cell h (cell_of v) (points envs ks forks)
cell_changed envs ks forks h f v l e =
    let read = fork_in envs ks in
    ap (λ (g : Fork). reverse (map read (set forks h (changed v g)))) e
    ∙ sym (set_reversed h (cell_of v) (map read forks)
    ∙ ap (λ g. reverse (set (map read forks) h (with_cell (cell_of v) g))) (get_or-map read forks h f no_fork l)
    ∙ ap reverse (sym (map-set read forks h (changed v (get_or forks h f)))))

pub set_outside : (envs : List Env) (ks : List (List machine.Frame)) (forks : List Fork) (h : ℕ) (c : Cell) → length forks ≤ h → points envs ks forks ≡ set_cell h c (points envs ks forks)
set_outside envs ks forks h c l =
    let gs = map (fork_in envs ks) forks in
    let n : length gs ≡ length forks = length-map forks (fork_in envs ks) in
    let m : length gs ≤ h = omega (arith, n, l) in
    sym (set_reversed h c gs ∙ ap reverse (set_past gs h (with_cell c (get_or gs h no_fork)) m))

-- ---- they fit

forks_take : (frames envs : ℕ) (fs : List Frame) (height count : ℕ) (forks : List Fork) (k : ℕ) → ForksFit frames envs fs height count forks → ForksFit frames envs fs height count (take k forks)
forks_take frames envs fs height count forks zero h = forks_low frames envs fs height count forks h
forks_take frames envs fs height count [] (suc k) h = h
forks_take frames envs fs height count (f ∷ forks) (suc k) h = (h.0, h.1, h.2, forks_take f.frames f.envs fs height count forks k h.3)

pub fits_cut : (ns : Nodes) (k : Frames) (forks : List Fork) (top h : ℕ) → Fits ns k forks top → Fits ns k (take h forks) top
fits_cut ns k forks top h fit = (fit.0, fit.1, forks_take 0 (first_count ns) k.frames.items (height_of k) (count_of ns) forks h fit.2)

forks_changed : (frames envs : ℕ) (fs : List Frame) (height count : ℕ) (forks : List Fork) (i : ℕ) (d : Fork) (v : Vec Item Global) → ForksFit frames envs fs height count forks
    → ForksFit frames envs fs height count (set forks i (changed v (get_or forks i d)))
forks_changed frames envs fs height count [] i d v h = h
forks_changed frames envs fs height count (f ∷ forks) zero d v h = h
forks_changed frames envs fs height count (f ∷ forks) (suc i) d v h = (h.0, h.1, h.2, forks_changed f.frames f.envs fs height count forks i d v h.3)

pub fits_changed : (ns : Nodes) (k : Frames) (forks : List Fork) (top h : ℕ) (f : Fork) (v : Vec Item Global) → f ≡ get_or forks h f → Fits ns k forks top → Fits ns k (set forks h (changed v f)) top
fits_changed ns k forks top h f v e fit =
    let P : List Fork → Type 0 = ForksFit 0 (first_count ns) k.frames.items (height_of k) (count_of ns) in
    (fit.0, fit.1, subst (λ g. P (set forks h (changed v g))) (sym e) (forks_changed 0 (first_count ns) k.frames.items (height_of k) (count_of ns) forks h f v fit.2))

pub cut_small : (forks : List Fork) (k : ℕ) → length (take k forks) ≤ length forks
cut_small forks zero = omega arith
cut_small [] (suc k) = omega arith
cut_small (f ∷ forks) (suc k) = let h = cut_small forks k in omega (arith, h)

pub changed_small : (forks : List Fork) (h : ℕ) (f : Fork) → length forks < 4294967295 → length (set forks h f) < 4294967295
changed_small forks h f l = let n : length (set forks h f) ≡ length forks = length-set forks h f in omega (arith, n, l)

-- ---- the contents of a cell

pub one_left : {A : Type 0} (xs ys : List A) (x : A) → take 1 xs ≡ ys ++ x ∷ [] → (ys ≡ []) × (xs ≡ x ∷ drop 1 xs)
one_left {A = A} [] ys x p =
    let n : length {A = A} [] ≡ length (ys ++ x ∷ []) = ap length p in
    let m : length (ys ++ x ∷ []) ≡ length ys + 1 = length-append ys (x ∷ []) in
    absurd (omega (arith, n, m))
one_left (y ∷ xs) ys x p = let q = same_from_push [] ys y x p in (sym q.0, ap (λ z. z ∷ xs) q.1)

pub none_left : {A : Type 0} (xs ys zs : List A) → zs ≡ take 1 xs → zs ≡ ys ++ [] → length zs ≡ 0 → (ys ≡ []) × (xs ≡ [])
none_left [] ys zs p q n = (sym (append-nil ys) ∙ sym q ∙ p, refl)
none_left (x ∷ xs) ys zs p q n = let m : length zs ≡ 1 = ap length p in absurd (omega (arith, n, m))

pub empty_cell : {A B : Type 0} (f : A → B) (xs : List A) (n : ℕ) → n ≡ length xs → nat_eq n 0 ≡ is_empty (map f xs)
empty_cell f [] n p = ap (λ m. nat_eq m 0) p
empty_cell f (x ∷ xs) n p =
    let q : n ≢ 0 = λ z. absurd (omega (arith, p, z)) in
    let r : nat_eq n 0 ≡ false = grind (arith, nat_tests) in
    r

-- the cell with one more item
pub item_added : (envs : List Env) (ks : List (List machine.Frame)) (forks : List Fork) (h : ℕ) (f : Fork) (v : Vec Item Global) (x : Item) → h < length forks → f ≡ get_or forks h f → v.items ≡ f.cell.items ++ x ∷ []
    → points envs ks (set forks h (changed v f)) ≡ set_cell h (cell_at h (points envs ks forks) ++ item_of x ∷ []) (points envs ks forks)
item_added envs ks forks h f v x l e p =
    cell_changed envs ks forks h f v l e
    ∙ ap (λ c. set_cell h c (points envs ks forks)) (ap (map item_of) p ∙ map_push item_of f.cell.items x ∙ ap (λ c. c ++ item_of x ∷ []) (sym (cell_read envs ks forks h f l e)))

-- the cell with only these items
pub items_set : (envs : List Env) (ks : List (List machine.Frame)) (forks : List Fork) (h : ℕ) (f : Fork) (v : Vec Item Global) (xs : List Item) → h < length forks → f ≡ get_or forks h f → v.items ≡ xs
    → points envs ks (set forks h (changed v f)) ≡ set_cell h (map item_of xs) (points envs ks forks)
items_set envs ks forks h f v xs l e p = cell_changed envs ks forks h f v l e ∙ ap (λ ys. set_cell h (map item_of ys) (points envs ks forks)) p

-- the state of a fold
pub state_read : (envs : List Env) (ks : List (List machine.Frame)) (forks : List Fork) (h : ℕ) (f : Fork) (xs : List Item) → h < length forks → f ≡ get_or forks h f → f.cell.items ≡ xs
    → state_in (cell_at h (points envs ks forks)) ≡ state_in (map item_of xs)
state_read envs ks forks h f xs l e p = ap state_in (cell_read envs ks forks h f l e ∙ ap (map item_of) p)
