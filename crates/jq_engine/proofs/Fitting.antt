-- That the heights of a state are in range has one proof.
use Rattle.std.specs.Prelude.{ℕ, List, [], ◌∷◌, length}
use Rattle.std.proofs.Props.{props}
use Rattle.jq_meaning.specs.machine.Heights.{FrameFits, floor, Fits, ChoiceFits, ForksFit, BinderFits, NextFits, Fit}
use Rattle.jq_meaning.specs.machine.State.{Binder, body, fold_step, Frame, operation, pipe_into, target_key, slice_start, slice_end, right_operand, conjunct, disjunct, test, entry_value, entry_key, own_entry, hole, argument, source, pattern_key, fold_start, fold_update, collect, left_side, try_body, label_body, Next, evaluate, give, matching, matched, go_back, raise, leave, quit, Choice, other, remaining, collected, last_state, no_more, right_side, check_update, ForkPoint, State}

FrameFits-prop : (n : ℕ) (f : Frame) → IsProp (FrameFits n f)
FrameFits-prop n (operation o) = hlevel
FrameFits-prop n (pipe_into g p) = hlevel
FrameFits-prop n (target_key t guarded p x) = hlevel
FrameFits-prop n (slice_start t to guarded p x) = hlevel
FrameFits-prop n (slice_end t v guarded p x) = hlevel
FrameFits-prop n (right_operand op f p x) = hlevel
FrameFits-prop n (conjunct g p x) = hlevel
FrameFits-prop n (disjunct g p x) = hlevel
FrameFits-prop n (test f g p x) = hlevel
FrameFits-prop n (entry_value key es made p v) = hlevel
FrameFits-prop n (entry_key f es made p v) = hlevel
FrameFits-prop n (own_entry es made p v) = hlevel
FrameFits-prop n (hole format front back hs p x) = hlevel
FrameFits-prop n (argument b ts vs p x) = hlevel
FrameFits-prop n (source q (body t x) p) = hlevel
FrameFits-prop n (source q (fold_step h f) p) = hlevel props
FrameFits-prop n (pattern_key q ps v ts (body t x) p) = hlevel
FrameFits-prop n (pattern_key q ps v ts (fold_step h f) p) = hlevel props
FrameFits-prop n (fold_start t q f p x) = hlevel
FrameFits-prop n (fold_update h f p) = hlevel props
FrameFits-prop n (collect h) = hlevel props
FrameFits-prop n (left_side h) = hlevel props
FrameFits-prop n (try_body h g p x) = hlevel props
FrameFits-prop n (label_body h level) = hlevel props

Fits-prop : (n : ℕ) (k : List Frame) → IsProp (Fits n k)
Fits-prop n [] = hlevel
Fits-prop n (f ∷ k) = hlevel (FrameFits-prop n f, Fits-prop (floor n f) k)

ChoiceFits-prop : (n : ℕ) (c : Choice) → IsProp (ChoiceFits n c)
ChoiceFits-prop n (other g p x) = hlevel
ChoiceFits-prop n (remaining r) = hlevel
ChoiceFits-prop n collected = hlevel
ChoiceFits-prop n last_state = hlevel
ChoiceFits-prop n no_more = hlevel
ChoiceFits-prop n (right_side g p x) = hlevel
ChoiceFits-prop n (check_update h) = hlevel props

ForksFit-prop : (fs : List ForkPoint) → IsProp (ForksFit fs)
ForksFit-prop [] = hlevel
ForksFit-prop (f ∷ fs) = hlevel (ChoiceFits-prop (length fs) f.choice, Fits-prop (length fs) f.frames, ForksFit-prop fs)

BinderFits-prop : (n : ℕ) (b : Binder) (k : List Frame) → IsProp (BinderFits n b k)
BinderFits-prop n (body t x) k = Fits-prop n k
BinderFits-prop n (fold_step h f) k = hlevel (props, Fits-prop h k)

NextFits-prop : (n : ℕ) (next : Next) (k : List Frame) → IsProp (NextFits n next k)
NextFits-prop n (evaluate t p x) k = Fits-prop n k
NextFits-prop n (give x) k = Fits-prop n k
NextFits-prop n (matching q v ts b p) k = BinderFits-prop n b k
NextFits-prop n (matched ts b p) k = BinderFits-prop n b k
NextFits-prop n go_back k = Fits-prop n k
NextFits-prop n (raise v) k = Fits-prop n k
NextFits-prop n (leave level) k = Fits-prop n k
NextFits-prop n (quit s) k = Fits-prop n k

pub Fit-prop : (s : State) → IsProp (Fit s)
Fit-prop s a b = λ i. record { frames = NextFits-prop (length s.forks) s.next s.frames a.frames b.frames i; forks = ForksFit-prop s.forks a.forks b.forks i }
