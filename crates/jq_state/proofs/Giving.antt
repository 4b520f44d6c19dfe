-- The first of the numbers or items of a fork point is given, and the fork point keeps the others.
use Rattle.std.proofs.Common.{◌≡◌, ℕ, zero, suc, ◌+◌, ◌<◌, ◌≤◌, List, [], ◌∷◌, ◌++◌, map, reverse, length, get_or, set, take, ℤ, pos, true, refl, sym, ap, ◌∙◌, arith, Vec}
use Rattle.std.proofs.lemmas.List.{set-get_or}
use Rattle.std.specs.declared.alloc.Global.{Global}
use Rattle.jv_data.specs.Value.{number}
use Rattle.jq_meaning.specs.Runs.{Done, Run, before, one, plain}
use Rattle.jq_meaning.specs.Runs as runs
use Rattle.jq_meaning.specs.Builtins.{steps_between, numbers_up_to}
use Rattle.jq_meaning.specs.Env.{Env}
use Rattle.jq_meaning.specs.machine.Machine.{step_of}
use Rattle.jq_meaning.specs.machine.Operations.{deliver, deliver_items}
use Rattle.jq_meaning.specs.machine.State as machine
use Rattle.jq_state.specs.Chains.{continuations, frames_at, height_of, mark_of}
use Rattle.jq_state.specs.Environments.{count_of, first_count}
use Rattle.jq_state.specs.Forks.{cell_of, choice_in, fork_in, ForkFits, ForksFit, last_left, left_in}
use Rattle.jq_state.specs.Items.{item_of}
use Rattle.jq_state.specs.Links.{scope_in}
use Rattle.jq_state.specs.States.{Fits}
use Rattle.jq_state.specs.declared.environments.Nodes.{Nodes}
use Rattle.jq_state.specs.declared.frames.Frames.{Frames}
use Rattle.jq_state.specs.declared.forks.Fork.{Fork}
use Rattle.jq_state.specs.declared.forks.Choice.{Choice}
use Rattle.jq_state.specs.declared.forks.Choice.TheVariants as choice
use Rattle.jq_state.specs.declared.items.Item.{Item}
use Rattle.jq_state.specs.private.Firsts.{GivesFirst}
use Rattle.jq_state.proofs.Extending.{LastFits, fits_back, fits_forked, gone_back, last_of, newest_first}
use Rattle.jq_state.proofs.Ranges.{numbers_counted}

others_wait : (x : runs.Item) (xs : List runs.Item) (k : List machine.Frame) (fs : List machine.ForkPoint) → 0 < length xs
    → deliver_items (x ∷ xs) Done k fs ≡ machine.state (machine.give x) k (machine.fork (machine.remaining (record { items = xs; ending = Done })) [] k ∷ fs)
others_wait x [] k fs h = absurd (omega (arith, h))
others_wait x (y ∷ xs) k fs h = refl

-- ---- numbers

abbrev end_of : Choice → ℤ
end_of (choice.Numbers next end step) = end
end_of c = pos 0

abbrev by_of : Choice → ℤ
by_of (choice.Numbers next end step) = step
by_of c = pos 0

pub number_given : (old new : Choice) (first end step here there by next : ℤ) (x : Item) → old ≡ choice.Numbers first end step → choice.Numbers first end step ≡ choice.Numbers here there by → new ≡ choice.Numbers next there by
    → item_of x ≡ plain (number first) → 0 < length (numbers_up_to next end step).items → numbers_up_to first end step ≡ before (plain (number first) ∷ []) (numbers_up_to next end step) → GivesFirst old x new
number_given old new first end step here there by next x o same n e l d p c k fs =
    let there_is : there ≡ end = sym (ap end_of same) in
    let by_is : by ≡ step = sym (ap by_of same) in
    let gives : runs.Item → Run runs.Item → machine.State = λ y r. machine.state (machine.give y) k (machine.fork (machine.remaining r) [] k ∷ fs) in
    rw o (rw n (
    ap (λ r. deliver r k fs) d
    ∙ others_wait (plain (number first)) (numbers_up_to next end step).items k fs l
    ∙ ap (λ y. gives y (numbers_up_to next end step)) (sym e)
    ∙ ap (λ i. gives (item_of x) (numbers_up_to next i step)) (sym there_is)
    ∙ ap (λ i. gives (item_of x) (numbers_up_to next there i)) (sym by_is)
    ))

few : (n : ℕ) → (0 < n → n ≡ 1) → n ≤ 1
few zero h = omega arith
few (suc n) h = let e = h (omega arith) in omega (arith, e)

pub few_numbers : (old : Choice) (first end step : ℤ) (x : runs.Item) → old ≡ choice.Numbers first end step → (0 < steps_between first end step → numbers_up_to first end step ≡ one x) → left_in old ≤ 1
few_numbers old first end step x o h =
    rw o (few (steps_between first end step) (λ l. sym (numbers_counted first end step) ∙ ap (λ (r : Run runs.Item). length r.items) (h l)))

-- ---- the newest fork point, by its index

pub last_left-none : (forks : List Fork) → length forks ≡ 0 → last_left 0 forks ≤ 1
last_left-none [] h = omega arith
last_left-none (f ∷ forks) h = absurd (omega (arith, h))

pub last_left-at : (low : ℕ) (forks : List Fork) (d : Fork) (i : ℕ) → length forks ≡ i + 1 → last_left low forks ≡ left_in (get_or forks i d).choice
last_left-at low [] d i h = absurd (omega (arith, h))
last_left-at low (f ∷ []) d zero h = refl
last_left-at low (f ∷ g ∷ forks) d zero h = absurd (omega (arith, h))
last_left-at low (f ∷ forks) d (suc i) h = let p : length forks ≡ i + 1 = omega (arith, h) in last_left-at (left_in f.choice) forks d i p

last_set : (forks : List Fork) (i : ℕ) (f : Fork) → length forks ≡ i + 1 → set forks i f ≡ take i forks ++ f ∷ []
last_set [] i f h = absurd (omega (arith, h))
last_set (g ∷ []) zero f h = refl
last_set (g ∷ e ∷ forks) zero f h = absurd (omega (arith, h))
last_set (g ∷ forks) (suc i) f h = let p : length forks ≡ i + 1 = omega (arith, h) in ap (λ l. g ∷ l) (last_set forks i f p)

last_at : (forks : List Fork) (i : ℕ) (f : Fork) → length forks ≡ i + 1 → f ≡ get_or forks i f → forks ≡ take i forks ++ f ∷ []
last_at forks i f h e = sym (set-get_or forks i f) ∙ ap (set forks i) (sym e) ∙ last_set forks i f h

pub last_fits : (ns : Nodes) (k : Frames) (forks : List Fork) (i top : ℕ) (f : Fork) → length forks ≡ i + 1 → f ≡ get_or forks i f → Fits ns k forks top
    → LastFits 0 (first_count ns) k.frames.items (height_of k) (count_of ns) (take i forks) f
last_fits ns k forks i top f h e fit = last_of ns k forks (take i forks) top f (last_at forks i f h e) fit

-- it is unchanged
pub last_same : (forks : List Fork) (i : ℕ) (f g : Fork) → f ≡ get_or forks i f → g ≡ f → set forks i g ≡ forks
last_same forks i f g e p = ap (set forks i) (p ∙ e) ∙ set-get_or forks i f

abbrev pub with_choice : Choice → Vec Item Global → Fork → Fork
with_choice c v f = record { choice = c; cell = v; scope = f.scope; next = f.next; frames = f.frames; envs = f.envs }

pub fits_again : (ns ms : Nodes) (k j : Frames) (forks : List Fork) (i : ℕ) (f : Fork) (d : Choice) (v : Vec Item Global) → length forks ≡ i + 1
    → LastFits 0 (first_count ns) k.frames.items (height_of k) (count_of ns) (take i forks) f → j.frames.items ≡ take f.frames k.frames.items → height_of j ≡ f.frames → first_count ms ≡ first_count ns
    → count_of ms ≡ f.envs → Fits ms j (set forks i (with_choice d v f)) f.next
fits_again ns ms k j forks i f d v h l e n p q =
    let within : f.scope.env < count_of ms = omega (arith, l.fits.1, q) in
    fits_forked true ms j (take i forks) (set forks i (with_choice d v f)) f.next (with_choice d v f) (last_set forks i (with_choice d v f) h) refl (sym n) (sym q) within (fits_back ns ms k j (take i forks) f l e n p q)

pub given : (envs less : List Env) (k j : Frames) (low : ℕ) (forks : List Fork) (i : ℕ) (f : Fork) (d : Choice) (v : Vec Item Global) (x : Item) (fs : List machine.Frame) → length forks ≡ i + 1
    → f ≡ get_or forks i f → less ≡ take f.envs envs → continuations envs j ≡ take (f.frames + 1) (continuations envs k) → mark_of j ≤ f.envs → ForkFits k.frames.items f
    → ForksFit 0 low k.frames.items f.frames f.envs (take i forks) → GivesFirst f.choice x d → v.items ≡ []
    → step_of machine.go_back fs (reverse (map (fork_in envs (continuations envs k)) forks))
    ≡ machine.moves (machine.state (machine.give (item_of x)) (frames_at less j f.next) (reverse (map (fork_in less (continuations less j)) (set forks i (with_choice d v f)))))
given envs less k j low forks i f d v x fs h e t cut m fits others gives empty =
    let rest = take i forks in
    let here = frames_at less j f.next in
    let read = fork_in less (continuations less j) in
    let p = scope_in less f.scope in
    let to : List machine.ForkPoint → machine.Progress = λ gs. machine.moves (machine.state (machine.give (item_of x)) here gs) in
    ap (step_of machine.go_back fs) (gone_back envs less k j low forks rest f (last_at forks i f h e) t cut m fits others)
    ∙ ap machine.moves (gives p (cell_of f.cell) here (reverse (map read rest)))
    ∙ ap (λ xs. to (machine.fork (choice_in d p) (map item_of xs) here ∷ reverse (map read rest))) (sym empty)
    ∙ ap to (sym (newest_first read rest (with_choice d v f)))
    ∙ ap (λ gs. to (reverse (map read gs))) (sym (last_set forks i (with_choice d v f) h))
