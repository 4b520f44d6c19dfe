-- Frames by index: pushing, reading, taking and cutting frames.
use Rattle.std.proofs.Common.{◌≡◌, ℕ, zero, suc, ◌+◌, ◌-◌, ◌<◌, ◌≤◌, List, [], ◌∷◌, ◌++◌, length, get_or, take, refl, sym, ap, subst, ◌∙◌, arith, length-append, Bool, true, false, if◌then◌else◌, Option, Some, None, MatchOption, option_to_list}
use Rattle.std.proofs.lemmas.List.{get_or-take, append-nil}
use Rattle.std.proofs.Math.Seq.{take-append_seam, get_or-append_seam}
use Rattle.jq_meaning.specs.Env.{Env}
use Rattle.jq_state.specs.Builds.{builds}
use Rattle.jq_state.specs.Links.{frame_in, FrameFits, FramesFit, last_mark}
use Rattle.jq_state.specs.Chains.{linked, continuations_of, Popped}
use Rattle.jq_state.specs.declared.frames.Frame.{Frame}
use Rattle.jq_state.proofs.Chains.{builds-append, builds-length, builds-take, builds-read}

-- ---- which indexes frames name

pub frames_fit-push : (count mark : ℕ) (fs : List Frame) (f : Frame) (n : ℕ) → n ≡ count + length fs → FramesFit count mark fs → FrameFits n f → last_mark mark fs ≤ f.mark → FramesFit count mark (fs ++ f ∷ [])
frames_fit-push count mark [] f n e h g m = let p : n ≡ count = omega (arith, e) in (subst (λ k. FrameFits k f) p g, m, tt)
frames_fit-push count mark (x ∷ fs) f n e h g m = let p : n ≡ (count + 1) + length fs = omega (arith, e) in (h.0, h.1, frames_fit-push (count + 1) x.mark fs f n p h.2 g m)

pub frames_fit-take : (count mark : ℕ) (fs : List Frame) (k : ℕ) → FramesFit count mark fs → FramesFit count mark (take k fs)
frames_fit-take count mark fs zero h = tt
frames_fit-take count mark [] (suc k) h = tt
frames_fit-take count mark (f ∷ fs) (suc k) h = (h.0, h.1, frames_fit-take (count + 1) f.mark fs k h.2)

pub frames_fit-at : (count mark : ℕ) (fs : List Frame) (k i : ℕ) (d : Frame) → k < length fs → i ≡ count + k → FramesFit count mark fs → FrameFits i (get_or fs k d)
frames_fit-at count mark [] k i d l e h = absurd (omega (arith, l))
frames_fit-at count mark (f ∷ fs) zero i d l e h = let p : count ≡ i = omega (arith, e) in subst (λ j. FrameFits j f) p h.0
frames_fit-at count mark (f ∷ fs) (suc k) i d l e h =
    let p : i ≡ (count + 1) + k = omega (arith, e) in let q : k < length fs = omega (arith, l) in frames_fit-at (count + 1) f.mark fs k i d q p h.2

pub frames_fit-front : (count mark : ℕ) (fs : List Frame) (f : Frame) → FramesFit count mark (fs ++ f ∷ []) → FramesFit count mark fs
frames_fit-front count mark [] f h = tt
frames_fit-front count mark (x ∷ fs) f h = (h.0, h.1, frames_fit-front (count + 1) x.mark fs f h.2)

frames_fit-last : (count mark : ℕ) (fs : List Frame) (f : Frame) (n : ℕ) → n ≡ count + length fs → FramesFit count mark (fs ++ f ∷ []) → FrameFits n f
frames_fit-last count mark [] f n e h = let p : count ≡ n = omega (arith, e) in subst (λ j. FrameFits j f) p h.0
frames_fit-last count mark (x ∷ fs) f n e h = let p : n ≡ (count + 1) + length fs = omega (arith, e) in frames_fit-last (count + 1) x.mark fs f n p h.2

-- ---- marks

pub last_mark-push : (mark : ℕ) (fs : List Frame) (f : Frame) → last_mark mark (fs ++ f ∷ []) ≡ f.mark
last_mark-push mark [] f = refl
last_mark-push mark (x ∷ fs) f = last_mark-push x.mark fs f

pub rising : (count mark : ℕ) (fs : List Frame) → FramesFit count mark fs → mark ≤ last_mark mark fs
rising count mark [] h = omega arith
rising count mark (f ∷ fs) h = let l = rising (count + 1) f.mark fs h.2 in omega (arith, l, h.1)

pub last_mark-take : (count mark : ℕ) (fs : List Frame) (k : ℕ) → FramesFit count mark fs → last_mark mark (take k fs) ≤ last_mark mark fs
last_mark-take count mark fs zero h = rising count mark fs h
last_mark-take count mark [] (suc k) h = omega arith
last_mark-take count mark (f ∷ fs) (suc k) h = last_mark-take (count + 1) f.mark fs k h.2

pub mark-at : (count mark : ℕ) (fs : List Frame) (k : ℕ) (d : Frame) → k < length fs → FramesFit count mark fs → (get_or fs k d).mark ≤ last_mark mark fs
mark-at count mark [] k d l h = absurd (omega (arith, l))
mark-at count mark (f ∷ fs) zero d l h = rising (count + 1) f.mark fs h.2
mark-at count mark (f ∷ fs) (suc k) d l h = let q : k < length fs = omega (arith, l) in mark-at (count + 1) f.mark fs k d q h.2

mark-front : (count mark : ℕ) (fs : List Frame) (f : Frame) → FramesFit count mark (fs ++ f ∷ []) → last_mark mark fs ≤ f.mark
mark-front count mark [] f h = h.1
mark-front count mark (x ∷ fs) f h = mark-front (count + 1) x.mark fs f h.2

-- ---- a push that may fail

pub frames_fit_after : (b : Bool) (fs gs : List Frame) (f : Frame) → gs ≡ (if b then fs ++ f ∷ [] else fs) → FramesFit 0 0 fs → FrameFits (length fs) f → last_mark 0 fs ≤ f.mark → FramesFit 0 0 gs
frames_fit_after true fs gs f e h g m = let p : length fs ≡ 0 + length fs = omega arith in subst (FramesFit 0 0) (sym e) (frames_fit-push 0 0 fs f (length fs) p h g m)
frames_fit_after false fs gs f e h g m = subst (FramesFit 0 0) (sym e) h

-- ---- the continuations at indexes

pub frame_pushed : (envs : List Env) (fs : List Frame) (f : Frame)
    → builds (linked envs) ([] ∷ []) (fs ++ f ∷ []) ≡ builds (linked envs) ([] ∷ []) fs ++ linked envs (builds (linked envs) ([] ∷ []) fs) f ∷ []
frame_pushed envs fs f = builds-append (linked envs) ([] ∷ []) fs (f ∷ [])

pub frames_cut : (envs : List Env) (fs : List Frame) (k : ℕ) → k ≤ length fs → builds (linked envs) ([] ∷ []) (take k fs) ≡ take (k + 1) (builds (linked envs) ([] ∷ []) fs)
frames_cut envs fs k h = let p : k + 1 ≡ 1 + k = omega arith in builds-take (linked envs) ([] ∷ []) fs k (k + 1) h p

pub frame_read : (envs : List Env) (fs : List Frame) (i : ℕ) (d : Frame) → FramesFit 0 0 fs → 0 < i → i ≤ length fs
    → get_or (continuations_of envs fs) i [] ≡ frame_in envs (get_or fs (i - 1) d) ∷ get_or (continuations_of envs fs) (get_or fs (i - 1) d).next []
frame_read envs fs i d fit l h =
    let f = get_or fs (i - 1) d in
    let all = continuations_of envs fs in
    let within : i - 1 < length fs = omega (arith, l, h) in
    let place : i ≡ 1 + (i - 1) = omega (arith, l) in
    let from_zero : i - 1 ≡ 0 + (i - 1) = omega arith in
    let fits = frames_fit-at 0 0 fs (i - 1) (i - 1) d within from_zero fit in
    let before : f.next < i = omega (arith, fits.0, l) in
    builds-read (linked envs) ([] ∷ []) fs (i - 1) i [] d within place ∙ ap (λ rest. frame_in envs f ∷ rest) (get_or-take i all f.next [] before)

-- ---- the newest frame

pub fits_popped : (o : Option Frame) (gs fs : List Frame) → gs ≡ fs ++ option_to_list o → FramesFit 0 0 gs → length gs < 4294967295 → FramesFit 0 0 fs × (length fs < 4294967295)
fits_popped None gs fs e h l = let q = e ∙ append-nil fs in let p : length gs ≡ length fs = ap length q in (subst (FramesFit 0 0) q h, omega (arith, p, l))
fits_popped (Some f) gs fs e h l = let p : length gs ≡ length (fs ++ f ∷ []) = ap length e in let q = length-append fs (f ∷ []) in (frames_fit-front 0 0 fs f (subst (FramesFit 0 0) e h), omega (arith, p, q, l))

popped_frame : (gs fs : List Frame) (f : Frame) → gs ≡ fs ++ f ∷ [] → FramesFit 0 0 gs → Popped gs f fs
popped_frame gs fs f e fit =
    let h : length gs ≡ length fs + 1 = ap length e ∙ length-append fs (f ∷ []) in
    let parts = subst (FramesFit 0 0) e fit in
    let n : length fs ≡ 0 + length fs = omega arith in
    let l : 0 < length gs = omega (arith, h) in
    let same : length gs ≤ length gs = omega arith in
    let top : length gs - 1 ≡ length fs = omega (arith, h) in
    let found : get_or gs (length gs - 1) f ≡ f = ap (λ i. get_or gs i f) top ∙ ap (λ xs. get_or xs (length fs) f) e ∙ get_or-append_seam fs f [] f in
    record {
      items = e;
      count = h;
      fits = frames_fit-last 0 0 fs f (length fs) n parts;
      mark = ap (last_mark 0) e ∙ last_mark-push 0 fs f;
      rising = mark-front 0 0 fs f parts;
      others = λ envs.
          let all = continuations_of envs fs in
          let long : length gs ≡ length all = let q = builds-length (linked envs) ([] ∷ []) fs in omega (arith, q, h) in
          sym (ap (λ m. take m (continuations_of envs gs)) long ∙ ap (λ xs. take (length all) (continuations_of envs xs)) e ∙ ap (take (length all)) (frame_pushed envs fs f) ∙ take-append_seam all (linked envs all f ∷ []));
      newest = λ envs. frame_read envs gs (length gs) f fit l same ∙ ap (λ g. frame_in envs g ∷ get_or (continuations_of envs gs) g.next []) found;
    }

pub popped : (o : Option Frame) (gs fs : List Frame) (n m : ℕ) → gs ≡ fs ++ option_to_list o → FramesFit 0 0 gs → n ≡ length gs → m ≡ length fs
    → MatchOption o ((n ≡ 0) × (m ≡ 0)) (λ f. m + 1 ≡ n) → MatchOption o ((length gs ≡ 0) × (length fs ≡ 0)) (λ f. Popped gs f fs)
popped None gs fs n m e fit p q h = (sym p ∙ h.0, sym q ∙ h.1)
popped (Some f) gs fs n m e fit p q h = popped_frame gs fs f e fit
