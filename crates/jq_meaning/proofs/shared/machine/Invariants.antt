-- Frames and fork points that fit represent sound behaviours.
use Rattle.std.proofs.Common.{◌≡◌, ℕ, suc, ◌<◌, ◌≤◌, List, [], ◌∷◌, length, refl, sym, ap, subst, arith}
use Rattle.jq_meaning.specs.Runs.{Item, Run, one}
use Rattle.jq_meaning.specs.Env.{Env}
use Rattle.jq_meaning.specs.machine.State.{Scope, Fold, reducing, extracting, Cell, body, fold_step, Frame, operation, pipe_into, target_key, slice_start, slice_end, right_operand, conjunct, disjunct, test, entry_value, entry_key, own_entry, hole, argument, source, pattern_key, fold_start, fold_update, collect, left_side, try_body, label_body, Choice, other, remaining, collected, last_state, no_more, right_side, check_update, ForkPoint}
use Rattle.jq_meaning.specs.machine.Heights.{FrameFits, floor, Fits, ChoiceFits, ForksFit}
use Rattle.jq_meaning.proofs.shared.machine.Flow.{Taken, FoldBehaviour}
use Rattle.jq_meaning.proofs.shared.machine.Behaviours.{through, guard, turn, fold_source}
use Rattle.jq_meaning.proofs.shared.machine.Events.{Event, visit}
use Rattle.jq_meaning.proofs.shared.machine.Marks.{FoldPasses}
use Rattle.jq_meaning.proofs.shared.machine.RestLaws as rests
use Rattle.jq_meaning.proofs.shared.machine.Soundness.{Sound, WaitingSound}
use Rattle.jq_meaning.proofs.shared.machine.Reading.{Behaviours, fold_at, behaviours, waiting_run, waiting}

-- ---- frames that fit a stack fit a higher one

abbrev FrameHigher : ℕ → ℕ → Frame → List Frame → Type 0
FrameHigher n m f k = (FrameFits n f → FrameFits m f) × (Fits (floor n f) k → Fits (floor m f) k)

abbrev higher : (n m : ℕ) (f : Frame) (k : List Frame) → n ≤ m → (Fits n k → Fits m k) → FrameHigher n m f k
higher n m (source q (fold_step h f) p) k low up = ((λ x. omega arith), (λ x. x))
higher n m (source q (body t x) p) k low up = ((λ x. tt), up)
higher n m (pattern_key q ps v ts (fold_step h f) p) k low up = ((λ x. omega arith), (λ x. x))
higher n m (pattern_key q ps v ts (body t x) p) k low up = ((λ x. tt), up)
higher n m (fold_update h f p) k low up = ((λ x. omega arith), (λ x. x))
higher n m (collect h) k low up = ((λ x. omega arith), (λ x. x))
higher n m (left_side h) k low up = ((λ x. omega arith), (λ x. x))
higher n m (try_body h g p x) k low up = ((λ x. omega arith), (λ x. x))
higher n m (label_body h level) k low up = ((λ x. omega arith), (λ x. x))
higher n m f k low up = ((λ x. tt), up)

pub fits_higher : (n m : ℕ) (k : List Frame) → n ≤ m → Fits n k → Fits m k
fits_higher n m [] low p = tt
fits_higher n m (f ∷ k) low p =
    let u = higher n m f k low (fits_higher n m k low) in (u.0 p.0, u.1 p.1)

-- and so do those outside of the first
pub outer : (n : ℕ) (f : Frame) (k : List Frame) → Fits n (f ∷ k) → Fits n k
outer n (source q (fold_step h f) p) k u = fits_higher h n k (omega (arith, u.0)) u.1
outer n (pattern_key q ps v ts (fold_step h f) p) k u = fits_higher h n k (omega (arith, u.0)) u.1
outer n (source q (body t x) p) k u = u.1
outer n (pattern_key q ps v ts (body t x) p) k u = u.1
outer n (fold_update h f p) k u = fits_higher h n k (omega (arith, u.0)) u.1
outer n (collect h) k u = fits_higher h n k (omega (arith, u.0)) u.1
outer n (left_side h) k u = fits_higher h n k (omega (arith, u.0)) u.1
outer n (try_body h g p x) k u = fits_higher h n k u.0 u.1
outer n (label_body h level) k u = fits_higher h n k u.0 u.1
outer n f k u = u.1

-- ---- what they represent is sound

pub fold-passes : (f : Fold) (p : Scope) → FoldPasses (fold_at f p)
fold-passes (reducing update) p = record { begins = λ c. refl; updates = λ c. refl; stores = λ c. refl; extracts = refl; checks = λ c d. refl }
fold-passes (extracting update extract) p = record { begins = λ c. refl; updates = λ c. refl; stores = λ c. refl; extracts = refl; checks = λ c d. refl }

through_sound : (n : ℕ) (g : Event Item → Run (Event Item)) (K : Behaviours) → g visit ≡ one visit → Sound n K → Sound n (through g ∷ K)
through_sound n g K p q = record { fits = (tt, q.fits); ordered = q.ordered; passes = (p, q.passes) }

turn_sound : (n h : ℕ) (store : Event Item → Cell → Cell) (extract : Event Item → Run (Event Item)) (K : Behaviours) → h < n → ((c : Cell) → store visit c ≡ c) → extract visit ≡ one visit → Sound h K → Sound n (turn h store extract ∷ K)
turn_sound n h store extract K p q r k =
    record { fits = (p, rests.fits_higher h n K (omega arith) k.fits); ordered = (k.fits, k.ordered); passes = ((q, r), k.passes) }

guard_sound : (n h : ℕ) (take : Taken (Event Item)) (K : Behaviours) → h ≤ n → Sound h K → Sound n (guard h take ∷ K)
guard_sound n h take K p k = record { fits = (p, rests.fits_higher h n K p k.fits); ordered = (k.fits, k.ordered); passes = (tt, k.passes) }

source_sound : (n h : ℕ) (pattern : Event Item → Run (Event Env)) (f : FoldBehaviour (Event Env) (Event Item) (Event Item)) (K : Behaviours) → h < n → pattern visit ≡ one visit → FoldPasses f → Sound h K → Sound n (fold_source h pattern f ∷ K)
source_sound n h pattern f K p q r k =
    record { fits = (p, rests.fits_higher h n K (omega arith) k.fits); ordered = (k.fits, k.ordered); passes = ((q, r), k.passes) }

silence_sound : (n h : ℕ) (take : Taken (Event Item)) (store : Event Item → Cell → Cell) (extract : Event Item → Run (Event Item)) (K : Behaviours) → h < n → ((c : Cell) → store visit c ≡ c) → extract visit ≡ one visit → Sound h K → Sound n (guard (suc h) take ∷ turn h store extract ∷ K)
silence_sound n h take store extract K p q r k = guard_sound n (suc h) take (turn h store extract ∷ K) (omega arith) (turn_sound (suc h) h store extract K (omega arith) q r k)

pub sound_frames : (n : ℕ) (k : List Frame) → Fits n k → Sound n (behaviours k)
sound_frames n [] p = record { fits = tt; ordered = tt; passes = tt }
sound_frames n (operation o ∷ k) p = through_sound n _ (behaviours k) refl (sound_frames n k p.1)
sound_frames n (pipe_into g s ∷ k) p = through_sound n _ (behaviours k) refl (sound_frames n k p.1)
sound_frames n (target_key t guarded s x ∷ k) p = through_sound n _ (behaviours k) refl (sound_frames n k p.1)
sound_frames n (slice_start t to guarded s x ∷ k) p = through_sound n _ (behaviours k) refl (sound_frames n k p.1)
sound_frames n (slice_end t start guarded s x ∷ k) p = through_sound n _ (behaviours k) refl (sound_frames n k p.1)
sound_frames n (right_operand op f s x ∷ k) p = through_sound n _ (behaviours k) refl (sound_frames n k p.1)
sound_frames n (conjunct g s x ∷ k) p = through_sound n _ (behaviours k) refl (sound_frames n k p.1)
sound_frames n (disjunct g s x ∷ k) p = through_sound n _ (behaviours k) refl (sound_frames n k p.1)
sound_frames n (test f g s x ∷ k) p = through_sound n _ (behaviours k) refl (sound_frames n k p.1)
sound_frames n (entry_value key es made s v ∷ k) p = through_sound n _ (behaviours k) refl (sound_frames n k p.1)
sound_frames n (entry_key f es made s v ∷ k) p = through_sound n _ (behaviours k) refl (sound_frames n k p.1)
sound_frames n (own_entry es made s v ∷ k) p = through_sound n _ (behaviours k) refl (sound_frames n k p.1)
sound_frames n (hole format front back hs s x ∷ k) p = through_sound n _ (behaviours k) refl (sound_frames n k p.1)
sound_frames n (argument b ts vs s x ∷ k) p = through_sound n _ (behaviours k) refl (sound_frames n k p.1)
sound_frames n (source q (body t x) s ∷ k) p = through_sound n _ (behaviours k) refl (sound_frames n k p.1)
sound_frames n (source q (fold_step h f) s ∷ k) p = source_sound n h _ (fold_at f s) (behaviours k) p.0 refl (fold-passes f s) (sound_frames h k p.1)
sound_frames n (pattern_key q ps v ts (body t x) s ∷ k) p = through_sound n _ (behaviours k) refl (sound_frames n k p.1)
sound_frames n (pattern_key q ps v ts (fold_step h f) s ∷ k) p = source_sound n h _ (fold_at f s) (behaviours k) p.0 refl (fold-passes f s) (sound_frames h k p.1)
sound_frames n (fold_start t q f s x ∷ k) p = through_sound n _ (behaviours k) refl (sound_frames n k p.1)
sound_frames n (fold_update h f s ∷ k) p = turn_sound n h _ _ (behaviours k) p.0 (λ c. refl) refl (sound_frames h k p.1)
sound_frames n (collect h ∷ k) p = turn_sound n h _ _ (behaviours k) p.0 (λ c. refl) refl (sound_frames h k p.1)
sound_frames n (left_side h ∷ k) p = silence_sound n h _ _ _ (behaviours k) p.0 (λ c. refl) refl (sound_frames h k p.1)
sound_frames n (try_body h g s x ∷ k) p = through_sound n _ (guard h _ ∷ behaviours k) refl (guard_sound n h _ (behaviours k) p.0 (sound_frames h k p.1))
sound_frames n (label_body h level ∷ k) p = through_sound n _ (guard h _ ∷ behaviours k) refl (guard_sound n h _ (behaviours k) p.0 (sound_frames h k p.1))

-- ---- and so are the fork points

pub waiting-length : (fs : List ForkPoint) → length (waiting fs) ≡ length fs
waiting-length [] = refl
waiting-length (f ∷ fs) = ap suc (waiting-length fs)

looks_low : (n : ℕ) (c : Choice) (K : Behaviours) → ChoiceFits n c → (waiting_run n c K).looks_at ≤ n
looks_low n (other g p x) K q = omega arith
looks_low n (remaining r) K q = omega arith
looks_low n collected K q = omega arith
looks_low n last_state K q = omega arith
looks_low n no_more K q = omega arith
looks_low n (right_side g p x) K q = omega arith
looks_low n (check_update h) K q = omega arith

goes_through : (n : ℕ) (c : Choice) (K : Behaviours) → (waiting_run n c K).frames ≡ K
goes_through n (other g p x) K = refl
goes_through n (remaining r) K = refl
goes_through n collected K = refl
goes_through n last_state K = refl
goes_through n no_more K = refl
goes_through n (right_side g p x) K = refl
goes_through n (check_update h) K = refl

pub sound_forks : (fs : List ForkPoint) → ForksFit fs → WaitingSound (waiting fs)
sound_forks [] p = tt
sound_forks (f ∷ fs) p =
    let e = sym (waiting-length fs) in (
      subst (λ (n : ℕ). (waiting_run (length fs) f.choice (behaviours f.frames)).looks_at ≤ n) e (looks_low (length fs) f.choice (behaviours f.frames) p.0),
      subst (λ (n : ℕ). Sound n (waiting_run (length fs) f.choice (behaviours f.frames)).frames) e
          (subst (λ (K : Behaviours). Sound (length fs) K) (sym (goes_through (length fs) f.choice (behaviours f.frames))) (sound_frames (length fs) f.frames p.1)),
      sound_forks fs p.2,
    )
