-- Frames and environments that neither the frame that gets the next item nor a fork point needs are removed.
use Rattle.std.proofs.Common.{◌≡◌, ℕ, zero, suc, ◌+◌, ◌<◌, ◌≤◌, max, List, [], ◌∷◌, map, reverse, length, get_or, take, refl, sym, ap, subst, ◌∙◌, arith}
use Rattle.std.proofs.lemmas.List.{get_or-take}
use Rattle.jq_meaning.specs.Env.{Env, outermost}
use Rattle.jq_meaning.specs.Runs.{none}
use Rattle.jq_state.specs.Environments.{count_of, first_count}
use Rattle.jq_state.specs.Links.{last_mark}
use Rattle.jq_state.specs.Chains.{continuations, frames_at, height_of, mark_of}
use Rattle.jq_state.specs.Forks.{fork_in, ForksFit, last_envs, last_frames}
use Rattle.jq_state.specs.States.{Fits}
use Rattle.jq_state.specs.declared.environments.Nodes.{Nodes}
use Rattle.jq_state.specs.declared.frames.Frame.{Frame}
use Rattle.jq_state.specs.declared.frames.Frames.{Frames}
use Rattle.jq_state.specs.declared.forks.Fork.{Fork}
use Rattle.jq_state.proofs.Extending.{SameBelow, forks_same, forks_under, frames_same}

-- ---- the marks of the newest frame and the newest fork point

pub last_mark-at : (low : ℕ) (fs : List Frame) (d : Frame) (i : ℕ) → length fs ≡ i + 1 → (get_or fs i d).mark ≡ last_mark low fs
last_mark-at low [] d i h = absurd (omega (arith, h))
last_mark-at low (f ∷ []) d zero h = refl
last_mark-at low (f ∷ g ∷ fs) d zero h = absurd (omega (arith, h))
last_mark-at low (f ∷ fs) d (suc i) h = let p : length fs ≡ i + 1 = omega (arith, h) in last_mark-at f.mark fs d i p

pub last_envs-at : (low : ℕ) (forks : List Fork) (d : Fork) (i : ℕ) → length forks ≡ i + 1 → (get_or forks i d).envs ≡ last_envs low forks
last_envs-at low [] d i h = absurd (omega (arith, h))
last_envs-at low (f ∷ []) d zero h = refl
last_envs-at low (f ∷ g ∷ forks) d zero h = absurd (omega (arith, h))
last_envs-at low (f ∷ forks) d (suc i) h = let p : length forks ≡ i + 1 = omega (arith, h) in last_envs-at f.envs forks d i p

-- both are within the counts
last_within : (frames envs : ℕ) (fs : List Frame) (height count : ℕ) (forks : List Fork) → ForksFit frames envs fs height count forks
    → (last_frames frames forks ≤ height) × (last_envs envs forks ≤ count) × (envs ≤ last_envs envs forks)
last_within frames envs fs height count [] h = (h.0, h.1, omega arith)
last_within frames envs fs height count (f ∷ forks) h = let l = last_within f.frames f.envs fs height count forks h.3 in (l.0, l.1, omega (arith, h.1, l.2))

pub needs_within : (ns : Nodes) (k : Frames) (forks : List Fork) (top : ℕ) → Fits ns k forks top
    → (last_frames 0 forks ≤ height_of k) × (last_envs (first_count ns) forks ≤ count_of ns) × (first_count ns ≤ last_envs (first_count ns) forks)
needs_within ns k forks top h = last_within 0 (first_count ns) k.frames.items (height_of k) (count_of ns) forks h.2

-- ---- what fits still fits

forks_between : (frames envs : ℕ) (fs : List Frame) (height count n m : ℕ) (forks : List Fork) → last_frames frames forks ≤ n → last_envs envs forks ≤ m
    → ForksFit frames envs fs height count forks → ForksFit frames envs fs n m forks
forks_between frames envs fs height count n m [] l r h = (l, r)
forks_between frames envs fs height count n m (f ∷ forks) l r h = (h.0, h.1, h.2, forks_between f.frames f.envs fs height count n m forks l r h.3)

-- The first `n` frames and the first `m` environments are left, and nothing else is needed.
pub record Trimmed (ns ms : Nodes) (k j : Frames) (forks : List Fork) (top n m : ℕ) : Type 0 where
  pub items : j.frames.items ≡ take n k.frames.items
  pub height : height_of j ≡ n
  pub first : first_count ms ≡ first_count ns
  pub count : count_of ms ≡ m
  pub frames : n ≡ max top (last_frames 0 forks)
  pub envs : m ≡ max (mark_of j) (last_envs (first_count ns) forks)

-- Both cuts leave what is needed, by what the count of each is computed from.
pub trimmed : {ns ms : Nodes} {k j : Frames} {forks : List Fork} {top n m : ℕ} (base mark envs : ℕ)
    → j.frames.items ≡ take n k.frames.items → height_of j ≡ n → n ≡ max top base → base ≡ last_frames 0 forks
    → first_count ms ≡ first_count ns → count_of ms ≡ m → m ≡ max mark envs → mark ≡ mark_of j → envs ≡ last_envs (first_count ns) forks
    → Trimmed ns ms k j forks top n m
trimmed {j = j} {top = top} base mark envs items height frames base-is first count both mark-is envs-is = record {
  items = items;
  height = height;
  first = first;
  count = count;
  frames = frames ∙ ap (max top) base-is;
  envs = both ∙ ap (λ x. max x envs) mark-is ∙ ap (max (mark_of j)) envs-is;
}

pub fits_trimmed : (ns ms : Nodes) (k j : Frames) (forks : List Fork) (top n m : ℕ) → Trimmed ns ms k j forks top n m → Fits ns k forks top → Fits ms j forks top
fits_trimmed ns ms k j forks top n m t h =
    let fs = k.frames.items in
    let frames : last_frames 0 forks ≤ n = omega (arith, t.frames) in
    let envs : last_envs (first_count ns) forks ≤ m = omega (arith, t.envs) in
    let same : n ≤ n = omega arith in
    let under = forks_under 0 (first_count ns) fs n m n forks same (forks_between 0 (first_count ns) fs (height_of k) (count_of ns) n m forks frames envs h.2) in
    let P : ℕ → ℕ → ℕ → List Frame → Type 0 = λ first height count gs. ForksFit 0 first gs height count forks in (
      omega (arith, t.height, t.frames),
      omega (arith, t.count, t.envs),
      subst (λ first. P first (height_of j) (count_of ms) j.frames.items) (sym t.first) (subst (λ height. P (first_count ns) height (count_of ms) j.frames.items) (sym t.height)
          (subst (λ count. P (first_count ns) n count j.frames.items) (sym t.count) (subst (P (first_count ns) n m) (sym t.items) under))),
    )

-- ---- what is left represents the same

chain_left : (envs less : List Env) (k j : Frames) (n m : ℕ) → less ≡ take m envs → continuations envs j ≡ take (n + 1) (continuations envs k) → mark_of j ≤ m
    → continuations less j ≡ take (n + 1) (continuations envs k)
chain_left envs less k j n m e c l =
    let same : SameBelow (outermost none) m envs less = λ i h. ap (λ xs. get_or xs i (outermost none)) e ∙ get_or-take m envs i (outermost none) h in
    frames_same envs less m j same l ∙ c

pub frames_left : (envs less : List Env) (ns ms : Nodes) (k j : Frames) (forks : List Fork) (top n m : ℕ) → Trimmed ns ms k j forks top n m
    → less ≡ take m envs → continuations envs j ≡ take (n + 1) (continuations envs k) → frames_at less j top ≡ frames_at envs k top
frames_left envs less ns ms k j forks top n m t e c =
    let marks : mark_of j ≤ m = omega (arith, t.envs) in
    let within : top < n + 1 = omega (arith, t.frames) in
    ap (λ ks. get_or ks top []) (chain_left envs less k j n m e c marks) ∙ get_or-take (n + 1) (continuations envs k) top [] within

pub forks_left : (envs less : List Env) (ns ms : Nodes) (k j : Frames) (forks : List Fork) (top n m : ℕ) → Trimmed ns ms k j forks top n m
    → less ≡ take m envs → continuations envs j ≡ take (n + 1) (continuations envs k) → Fits ns k forks top
    → reverse (map (fork_in less (continuations less j)) forks) ≡ reverse (map (fork_in envs (continuations envs k)) forks)
forks_left envs less ns ms k j forks top n m t e c h =
    let ks = continuations envs k in
    let ls = continuations less j in
    let marks : mark_of j ≤ m = omega (arith, t.envs) in
    let frames : last_frames 0 forks ≤ n = omega (arith, t.frames) in
    let needed : last_envs (first_count ns) forks ≤ m = omega (arith, t.envs) in
    let same : SameBelow (outermost none) m envs less = λ i l. ap (λ xs. get_or xs i (outermost none)) e ∙ get_or-take m envs i (outermost none) l in
    let also : SameBelow [] (n + 1) ks ls = λ i l. ap (λ xs. get_or xs i []) (chain_left envs less k j n m e c marks) ∙ get_or-take (n + 1) ks i [] l in
    let between = forks_between 0 (first_count ns) k.frames.items (height_of k) (count_of ns) n m forks frames needed h.2 in
    ap reverse (forks_same envs less ks ls 0 (first_count ns) k.frames.items n m forks same also between)
