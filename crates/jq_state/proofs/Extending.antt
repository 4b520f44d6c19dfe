-- A state still represents the same when environments, frames and fork points are added.
use Rattle.std.proofs.Common.{◌≡◌, ℕ, zero, suc, ◌+◌, ◌<◌, ◌≤◌, List, [], ◌∷◌, ◌++◌, map, reverse, length, get_or, take, refl, sym, ap, subst, ◌∙◌, arith, length-append, Bool, true, false, if◌then◌else◌}
use Rattle.std.proofs.lemmas.List.{get_or_append_left, get_or-take, take-append-le, take-take, reverse-append, map-append}
use Rattle.std.proofs.Math.Seq.{take-length, get_or-append_seam}
use Rattle.jq_meaning.specs.Env.{Env, outermost}
use Rattle.jq_meaning.specs.Runs.{none}
use Rattle.jq_meaning.specs.machine.State as machine
use Rattle.jq_state.specs.Builds.{builds}
use Rattle.jq_state.proofs.Chains.{builds-length}
use Rattle.jq_state.specs.Environments.{count_of, first_count}
use Rattle.jq_state.specs.Links.{scope_in, frame_in, FramesFit, last_mark}
use Rattle.jq_state.specs.Steps.{step_in}
use Rattle.jq_state.specs.Chains.{linked, continuations, frames_at, height_of, mark_of, Popped}
use Rattle.jq_state.specs.Forks.{choice_in, cell_of, fork_in, ForkFits, ForksFit, last_frames}
use Rattle.jq_state.specs.States.{Fits}
use Rattle.jq_state.specs.declared.environments.Nodes.{Nodes}
use Rattle.jq_state.specs.declared.frames.Frame.{Frame}
use Rattle.jq_state.specs.declared.frames.Frames.{Frames}
use Rattle.jq_state.specs.declared.frames.Scope.{Scope}
use Rattle.jq_state.specs.declared.forks.Fork.{Fork}
use Rattle.jq_state.proofs.Continuing.{rising, last_mark-push, frames_cut}

-- ---- what stays the same if the environments below a count stay the same

abbrev pub SameBelow : {A : Type 0} → (d : A) → (count : ℕ) → (xs ys : List A) → Type 0
SameBelow d count xs ys = (i : ℕ) → i < count → get_or ys i d ≡ get_or xs i d

scope_same : (count : ℕ) (envs others : List Env) → SameBelow (outermost none) count envs others → (p : Scope) → p.env < count → scope_in others p ≡ scope_in envs p
scope_same count envs others same p h =
    let at : Env → machine.Scope = λ e. record { env = e; depth = p.depth; level = p.level } in
    ap at (same p.env h)

pub chains_same : (envs others : List Env) (known : List (List machine.Frame)) (count mark total : ℕ) (fs : List Frame) → SameBelow (outermost none) total envs others
    → FramesFit count mark fs → last_mark mark fs ≤ total → builds (linked others) known fs ≡ builds (linked envs) known fs
chains_same envs others known count mark total [] same h m = refl
chains_same envs others known count mark total (f ∷ fs) same h m =
    let r = rising (count + 1) f.mark fs h.2 in
    let l : f.scope.env < total = omega (arith, h.0.1, r, m) in
    let first : linked others known f ≡ linked envs known f = ap (λ p. step_in f.step p ∷ get_or known f.next []) (scope_same total envs others same f.scope l) in
    ap (λ x. builds (linked others) (known ++ x ∷ []) fs) first ∙ chains_same envs others (known ++ linked envs known f ∷ []) (count + 1) f.mark total fs same h.2 m

pub frames_same : (envs others : List Env) (total : ℕ) (k : Frames) → SameBelow (outermost none) total envs others → mark_of k ≤ total → continuations others k ≡ continuations envs k
frames_same envs others total k same m = chains_same envs others ([] ∷ []) 0 0 total k.frames.items same k.fit m

fork_same : (envs others : List Env) (ks ls : List (List machine.Frame)) (count height : ℕ) → SameBelow (outermost none) count envs others → SameBelow [] height ks ls
    → (f : Fork) → f.scope.env < count → f.next < height → fork_in others ls f ≡ fork_in envs ks f
fork_same envs others ks ls count height same also f h k =
    ap (λ p. machine.fork (choice_in f.choice p) (cell_of f.cell) (get_or ls f.next [])) (scope_same count envs others same f.scope h)
    ∙ ap (machine.fork (choice_in f.choice (scope_in envs f.scope)) (cell_of f.cell)) (also f.next k)

-- ---- fork points that fit

pub forks_low : (frames envs : ℕ) (fs : List Frame) (height count : ℕ) (forks : List Fork) → ForksFit frames envs fs height count forks → (frames ≤ height) × (envs ≤ count)
forks_low frames envs fs height count [] h = h
forks_low frames envs fs height count (f ∷ forks) h = let l = forks_low f.frames f.envs fs height count forks h.3 in (omega (arith, h.0, l.0), omega (arith, h.1, l.1))

pub forks_same : (envs others : List Env) (ks ls : List (List machine.Frame)) (low_frames low_envs : ℕ) (fs : List Frame) (height count : ℕ) (forks : List Fork)
    → SameBelow (outermost none) count envs others → SameBelow [] (height + 1) ks ls → ForksFit low_frames low_envs fs height count forks
    → map (fork_in others ls) forks ≡ map (fork_in envs ks) forks
forks_same envs others ks ls low_frames low_envs fs height count [] same also h = refl
forks_same envs others ks ls low_frames low_envs fs height count (f ∷ forks) same also h =
    let l = forks_low f.frames f.envs fs height count forks h.3 in
    let a : f.scope.env < count = omega (arith, h.2.1, l.1) in
    let b : f.next < height + 1 = omega (arith, h.2.0, l.0) in
    ap (λ x. x ∷ map (fork_in others ls) forks) (fork_same envs others ks ls count (height + 1) same also f a b)
    ∙ ap (λ l. fork_in envs ks f ∷ l) (forks_same envs others ks ls f.frames f.envs fs height count forks same also h.3)

pub forks_raise : (frames envs : ℕ) (fs : List Frame) (height count more : ℕ) (forks : List Fork) → ForksFit frames envs fs height count forks → count ≤ more → ForksFit frames envs fs height more forks
forks_raise frames envs fs height count more [] h l = (h.0, omega (arith, h.1, l))
forks_raise frames envs fs height count more (f ∷ forks) h l = (h.0, h.1, h.2, forks_raise f.frames f.envs fs height count more forks h.3 l)

pub forks_over : (frames envs : ℕ) (fs gs : List Frame) (height more count : ℕ) (forks : List Fork) → ForksFit frames envs fs height count forks → height ≤ length fs → height ≤ more
    → ForksFit frames envs (fs ++ gs) more count forks
forks_over frames envs fs gs height more count [] h l m = (omega (arith, h.0, m), h.1)
forks_over frames envs fs gs height more count (f ∷ forks) h l m =
    let low = forks_low f.frames f.envs fs height count forks h.3 in
    let k : f.frames ≤ length fs = omega (arith, low.0, l) in
    (h.0, h.1, (h.2.0, h.2.1, subst (λ xs. last_mark 0 xs ≤ f.envs) (sym (take-append-le f.frames fs gs k)) h.2.2), forks_over f.frames f.envs fs gs height more count forks h.3 l m)

pub forks_add : (frames envs : ℕ) (fs : List Frame) (height count : ℕ) (forks : List Fork) (f : Fork) → ForksFit frames envs fs height count forks → ForkFits fs f → f.frames ≡ height → f.envs ≡ count
    → ForksFit frames envs fs height count (forks ++ f ∷ [])
forks_add frames envs fs height count [] f h g p q = (omega (arith, h.0, p), omega (arith, h.1, q), g, (omega (arith, p), omega (arith, q)))
forks_add frames envs fs height count (x ∷ forks) f h g p q = (h.0, h.1, h.2, forks_add x.frames x.envs fs height count forks f h.3 g p q)

-- ---- the newest fork point is the first

pub newest_first : {A : Type 0} (read : Fork → A) (forks : List Fork) (f : Fork) → reverse (map read (forks ++ f ∷ [])) ≡ read f ∷ reverse (map read forks)
newest_first read forks f = ap reverse (map-append read forks (f ∷ [])) ∙ reverse-append (map read forks) (read f ∷ [])

-- ---- additions at the end

pub same_after : {A : Type 0} (d : A) (count : ℕ) (xs ys : List A) (y : A) → count ≡ length xs → ys ≡ xs ++ y ∷ [] → SameBelow d count xs ys
same_after d count xs ys y p q i h = let l : i < length xs = omega (arith, h, p) in ap (λ zs. get_or zs i d) q ∙ get_or_append_left xs (y ∷ []) d i l

pub last_added : {A : Type 0} (xs ys : List A) (y d : A) (i : ℕ) → i ≡ length xs → ys ≡ xs ++ y ∷ [] → get_or ys i d ≡ y
last_added xs ys y d i p q = ap (λ zs. get_or zs i d) q ∙ ap (λ j. get_or (xs ++ y ∷ []) j d) p ∙ get_or-append_seam xs y [] d

pub continuations-length : (envs : List Env) (k : Frames) → length (continuations envs k) ≡ height_of k + 1
continuations-length envs k = let h = builds-length (linked envs) ([] ∷ []) k.frames.items in omega (arith, h)

-- ---- a binding is added

pub fits_added : (b a : Nodes) (k : Frames) (forks : List Fork) (top : ℕ) → first_count a ≡ first_count b → count_of b ≤ count_of a → Fits b k forks top → Fits a k forks top
fits_added b a k forks top p m h =
    (h.0, omega (arith, h.1, m), subst (λ n. ForksFit 0 n k.frames.items (height_of k) (count_of a) forks) (sym p) (forks_raise 0 (first_count b) k.frames.items (height_of k) (count_of b) (count_of a) forks h.2 m))

-- ---- a frame is pushed

pub fits_pushed : (ns : Nodes) (b a : Frames) (forks : List Fork) (top new_top : ℕ) (f : Frame) → a.frames.items ≡ b.frames.items ++ f ∷ [] → f.mark ≡ count_of ns → new_top ≤ height_of b + 1
    → Fits ns b forks top → Fits ns a forks new_top
fits_pushed ns b a forks top new_top f e m t h =
    let n : height_of a ≡ height_of b + 1 = ap length e ∙ length-append b.frames.items (f ∷ []) in
    let mark : mark_of a ≡ count_of ns = ap (last_mark 0) e ∙ last_mark-push 0 b.frames.items f ∙ m in
    let up : height_of b ≤ height_of a = omega (arith, n) in
    let same : height_of b ≤ length b.frames.items = omega arith in
    (omega (arith, n, t), omega (arith, mark), subst (λ fs. ForksFit 0 (first_count ns) fs (height_of a) (count_of ns) forks) (sym e) (forks_over 0 (first_count ns) b.frames.items (f ∷ []) (height_of b) (height_of a) (count_of ns) forks h.2 same up))

-- ---- a fork point is made

pub fits_forked : (ok : Bool) (ns : Nodes) (k : Frames) (b a : List Fork) (top : ℕ) (f : Fork) → a ≡ (if ok then b ++ f ∷ [] else b) → f.next ≡ top → f.frames ≡ height_of k → f.envs ≡ count_of ns
    → f.scope.env < count_of ns → Fits ns k b top → Fits ns k a top
fits_forked true ns k b a top f e n p q s h =
    let fs = k.frames.items in
    let all : take f.frames fs ≡ fs = ap (λ i. take i fs) p ∙ take-length fs in
    let marks : last_mark 0 (take f.frames fs) ≤ f.envs = let m : last_mark 0 (take f.frames fs) ≡ last_mark 0 fs = ap (last_mark 0) all in omega (arith, m, h.1, q) in
    let fits : ForkFits fs f = (omega (arith, n, p, h.0), omega (arith, s, q), marks) in
    (h.0, h.1, subst (ForksFit 0 (first_count ns) fs (height_of k) (count_of ns)) (sym e) (forks_add 0 (first_count ns) fs (height_of k) (count_of ns) b f h.2 fits p q))
fits_forked false ns k b a top f e n p q s h = (h.0, h.1, subst (ForksFit 0 (first_count ns) k.frames.items (height_of k) (count_of ns)) (sym e) h.2)

-- ---- the newest fork point is removed

pub record LastFits (low_frames low_envs : ℕ) (fs : List Frame) (height count : ℕ) (forks : List Fork) (f : Fork) : Type 0 where
  pub fits : ForkFits fs f
  pub in_frames : f.frames ≤ height
  pub in_envs : f.envs ≤ count
  pub low : low_envs ≤ f.envs
  pub others : ForksFit low_frames low_envs fs f.frames f.envs forks

pub forks_last : (low_frames low_envs : ℕ) (fs : List Frame) (height count : ℕ) (forks : List Fork) (f : Fork) → ForksFit low_frames low_envs fs height count (forks ++ f ∷ [])
    → LastFits low_frames low_envs fs height count forks f
forks_last low_frames low_envs fs height count [] f h = record { fits = h.2; in_frames = h.3.0; in_envs = h.3.1; low = h.1; others = (h.0, h.1) }
forks_last low_frames low_envs fs height count (x ∷ forks) f h =
    let r = forks_last x.frames x.envs fs height count forks f h.3 in
    record { fits = r.fits; in_frames = r.in_frames; in_envs = r.in_envs; low = omega (arith, h.1, r.low); others = (h.0, h.1, h.2, r.others) }

pub forks_under : (low_frames low_envs : ℕ) (fs : List Frame) (height count k : ℕ) (forks : List Fork) → height ≤ k → ForksFit low_frames low_envs fs height count forks → ForksFit low_frames low_envs (take k fs) height count forks
forks_under low_frames low_envs fs height count k [] l h = h
forks_under low_frames low_envs fs height count k (f ∷ forks) l h =
    let low = forks_low f.frames f.envs fs height count forks h.3 in
    let m : f.frames ≤ k = omega (arith, low.0, l) in
    (h.0, h.1, (h.2.0, h.2.1, subst (λ xs. last_mark 0 xs ≤ f.envs) (sym (take-take f.frames k fs m)) h.2.2), forks_under f.frames f.envs fs height count k forks l h.3)

pub last_of : (ns : Nodes) (k : Frames) (forks rest : List Fork) (top : ℕ) (f : Fork) → forks ≡ rest ++ f ∷ [] → Fits ns k forks top → LastFits 0 (first_count ns) k.frames.items (height_of k) (count_of ns) rest f
last_of ns k forks rest top f e h = forks_last 0 (first_count ns) k.frames.items (height_of k) (count_of ns) rest f (subst (ForksFit 0 (first_count ns) k.frames.items (height_of k) (count_of ns)) e h.2)

pub fits_back : (ns ms : Nodes) (k j : Frames) (rest : List Fork) (f : Fork) → LastFits 0 (first_count ns) k.frames.items (height_of k) (count_of ns) rest f
    → j.frames.items ≡ take f.frames k.frames.items → height_of j ≡ f.frames → first_count ms ≡ first_count ns → count_of ms ≡ f.envs → Fits ms j rest f.next
fits_back ns ms k j rest f l e n p q =
    let same : f.frames ≤ f.frames = omega arith in
    let a = forks_under 0 (first_count ns) k.frames.items f.frames f.envs f.frames rest same l.others in
    let mark : mark_of j ≡ last_mark 0 (take f.frames k.frames.items) = ap (last_mark 0) e in
    let P : ℕ → ℕ → ℕ → List Frame → Type 0 = λ first height count fs. ForksFit 0 first fs height count rest in (
      omega (arith, n, l.fits.0),
      omega (arith, mark, l.fits.2, q),
      subst (λ first. P first (height_of j) (count_of ms) j.frames.items) (sym p) (subst (λ height. P (first_count ns) height (count_of ms) j.frames.items) (sym n)
          (subst (λ count. P (first_count ns) f.frames count j.frames.items) (sym q) (subst (P (first_count ns) f.frames f.envs) (sym e) a))),
    )

pub gone_back : (envs less : List Env) (k j : Frames) (low : ℕ) (forks rest : List Fork) (f : Fork) → forks ≡ rest ++ f ∷ [] → less ≡ take f.envs envs
    → continuations envs j ≡ take (f.frames + 1) (continuations envs k) → mark_of j ≤ f.envs → ForkFits k.frames.items f → ForksFit 0 low k.frames.items f.frames f.envs rest
    → reverse (map (fork_in envs (continuations envs k)) forks)
    ≡ machine.fork (choice_in f.choice (scope_in less f.scope)) (cell_of f.cell) (frames_at less j f.next) ∷ reverse (map (fork_in less (continuations less j)) rest)
gone_back envs less k j low forks rest f e t cut m fits others =
    let ks = continuations envs k in
    let ls = continuations less j in
    let same : SameBelow (outermost none) f.envs envs less = λ i h. ap (λ l. get_or l i (outermost none)) t ∙ get_or-take f.envs envs i (outermost none) h in
    let chain : ls ≡ take (f.frames + 1) ks = frames_same envs less f.envs j same m ∙ cut in
    let also : SameBelow [] (f.frames + 1) ks ls = λ i h. ap (λ l. get_or l i []) chain ∙ get_or-take (f.frames + 1) ks i [] h in
    let next : f.next < f.frames + 1 = omega (arith, fits.0) in
    let newest : fork_in less ls f ≡ fork_in envs ks f = fork_same envs less ks ls f.envs (f.frames + 1) same also f fits.1 next in
    let older : map (fork_in less ls) rest ≡ map (fork_in envs ks) rest = forks_same envs less ks ls 0 low k.frames.items f.frames f.envs rest same also others in
    ap (λ fs. reverse (map (fork_in envs ks) fs)) e ∙ newest_first (fork_in envs ks) rest f
    ∙ ap (λ x. x ∷ reverse (map (fork_in envs ks) rest)) (sym newest) ∙ ap (λ l. fork_in less ls f ∷ reverse l) (sym older)

-- ---- the frame that gets the next item is taken

pub last_frames-at : (low : ℕ) (forks : List Fork) (d : Fork) (i : ℕ) → length forks ≡ i + 1 → (get_or forks i d).frames ≡ last_frames low forks
last_frames-at low [] d i h = absurd (omega (arith, h))
last_frames-at low (f ∷ []) d zero h = refl
last_frames-at low (f ∷ g ∷ forks) d zero h = absurd (omega (arith, h))
last_frames-at low (f ∷ forks) d (suc i) h = let p : length forks ≡ i + 1 = omega (arith, h) in last_frames-at f.frames forks d i p

pub forks_lower : (frames envs : ℕ) (fs : List Frame) (height count k : ℕ) (forks : List Fork) → last_frames frames forks ≤ k → ForksFit frames envs fs height count forks → ForksFit frames envs fs k count forks
forks_lower frames envs fs height count k [] l h = (l, h.1)
forks_lower frames envs fs height count k (f ∷ forks) l h = (h.0, h.1, h.2, forks_lower f.frames f.envs fs height count k forks l h.3)

pub forks_off : (frames envs : ℕ) (fs gs : List Frame) (height count : ℕ) (forks : List Fork) → height ≤ length fs → ForksFit frames envs (fs ++ gs) height count forks → ForksFit frames envs fs height count forks
forks_off frames envs fs gs height count [] l h = h
forks_off frames envs fs gs height count (f ∷ forks) l h =
    let low = forks_low f.frames f.envs (fs ++ gs) height count forks h.3 in
    let k : f.frames ≤ length fs = omega (arith, low.0, l) in
    (h.0, h.1, (h.2.0, h.2.1, subst (λ xs. last_mark 0 xs ≤ f.envs) (take-append-le f.frames fs gs k) h.2.2), forks_off f.frames f.envs fs gs height count forks l h.3)

forks_taken : (ns : Nodes) (b : Frames) (fs : List Frame) (forks : List Fork) (f : Frame) → Popped b.frames.items f fs → last_frames 0 forks ≤ length fs
    → ForksFit 0 (first_count ns) b.frames.items (height_of b) (count_of ns) forks → ForksFit 0 (first_count ns) fs (length fs) (count_of ns) forks
forks_taken ns b fs forks f p l h =
    let same : length fs ≤ length fs = omega arith in
    let low = forks_lower 0 (first_count ns) b.frames.items (height_of b) (count_of ns) (length fs) forks l h in
    forks_off 0 (first_count ns) fs (f ∷ []) (length fs) (count_of ns) forks same (subst (λ xs. ForksFit 0 (first_count ns) xs (length fs) (count_of ns) forks) p.items low)

pub fits_taken : (ns : Nodes) (b a : Frames) (forks : List Fork) (top : ℕ) (f : Frame) → Popped b.frames.items f a.frames.items → last_frames 0 forks < height_of b → Fits ns b forks top → Fits ns a forks f.next
fits_taken ns b a forks top f p l h =
    let m : last_frames 0 forks ≤ height_of a = omega (arith, l, p.count) in
    (p.fits.0, omega (arith, p.rising, p.mark, h.1), forks_taken ns b a.frames.items forks f p m h.2)

pub frames_taken : (envs : List Env) (b a : Frames) (top : ℕ) (f : Frame) → Popped b.frames.items f a.frames.items → top ≡ height_of b → frames_at envs b top ≡ frame_in envs f ∷ frames_at envs a f.next
frames_taken envs b a top f p t =
    let before : f.next < height_of b = omega (arith, p.fits.0, p.count) in
    let rest : frames_at envs a f.next ≡ frames_at envs b f.next = ap (λ ks. get_or ks f.next []) (p.others envs) ∙ get_or-take (height_of b) (continuations envs b) f.next [] before in
    ap (frames_at envs b) t ∙ p.newest envs ∙ ap (λ k. frame_in envs f ∷ k) (sym rest)

pub forks_after : (envs : List Env) (ns : Nodes) (b a : Frames) (forks : List Fork) (top : ℕ) (f : Frame) → Popped b.frames.items f a.frames.items → last_frames 0 forks < height_of b
    → Fits ns b forks top → reverse (map (fork_in envs (continuations envs a)) forks) ≡ reverse (map (fork_in envs (continuations envs b)) forks)
forks_after envs ns b a forks top f p l h =
    let m : last_frames 0 forks ≤ height_of a = omega (arith, l, p.count) in
    let low = forks_lower 0 (first_count ns) b.frames.items (height_of b) (count_of ns) (height_of a) forks m h.2 in
    ap reverse (forks_same envs envs (continuations envs b) (continuations envs a) 0 (first_count ns) b.frames.items (height_of a) (count_of ns) forks (λ i h. refl)
    (λ i h. let k : i < height_of b = omega (arith, h, p.count) in ap (λ ks. get_or ks i []) (p.others envs) ∙ get_or-take (height_of b) (continuations envs b) i [] k) low)

pub frames_end : (envs : List Env) (k : Frames) → frames_at envs k 0 ≡ []
frames_end envs k =
    let first : 0 < 0 + 1 = omega arith in
    let within : 0 ≤ height_of k = omega arith in
    sym (get_or-take (0 + 1) (continuations envs k) 0 [] first) ∙ ap (λ ks. get_or ks 0 []) (sym (frames_cut envs k.frames.items 0 within))
