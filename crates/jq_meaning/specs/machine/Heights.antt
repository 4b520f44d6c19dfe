-- An invariant of all states: each height in a frame is that of an existing fork point, and
-- heights fall from the innermost frame outwards.
use Rattle.std.specs.Prelude.{ℕ, ◌<◌, ◌≤◌, List, [], ◌∷◌, length}
use Rattle.jq_meaning.specs.machine.State.{Binder, body, fold_step, Frame, source, pattern_key, fold_update, collect, left_side, try_body, label_body, Next, matching, matched, Choice, check_update, ForkPoint, State}

-- the height in a frame, if it has one, is within a stack of n fork points
abbrev pub FrameFits : ℕ → Frame → Type 0
FrameFits n (source q (fold_step h f) p) = h < n
FrameFits n (pattern_key q ps v ts (fold_step h f) p) = h < n
FrameFits n (fold_update h f p) = h < n
FrameFits n (collect h) = h < n
FrameFits n (left_side h) = h < n
FrameFits n (try_body h g p x) = h ≤ n
FrameFits n (label_body h level) = h ≤ n
FrameFits n f = Unit {0}

-- the number of fork points that the frames outside of a frame may name, in a stack of n
abbrev pub floor : ℕ → Frame → ℕ
floor n (source q (fold_step h f) p) = h
floor n (pattern_key q ps v ts (fold_step h f) p) = h
floor n (fold_update h f p) = h
floor n (collect h) = h
floor n (left_side h) = h
floor n (try_body h g p x) = h
floor n (label_body h level) = h
floor n f = n

-- a continuation fits a stack of n fork points
abbrev pub Fits : ℕ → List Frame → Type 0
Fits n [] = Unit {0}
Fits n (f ∷ k) = FrameFits n f × Fits (floor n f) k

-- a fork point with n others below it names only a height below its own
abbrev pub ChoiceFits : ℕ → Choice → Type 0
ChoiceFits n (check_update h) = h < n
ChoiceFits n c = Unit {0}

-- the frames of each fork point fit the stack below it
abbrev pub ForksFit : List ForkPoint → Type 0
ForksFit [] = Unit {0}
ForksFit (f ∷ fs) = ChoiceFits (length fs) f.choice × Fits (length fs) f.frames × ForksFit fs

-- (the frames outside of a fold's step fit the stack below the fold's height)
abbrev pub BinderFits : ℕ → Binder → List Frame → Type 0
BinderFits n (body t x) k = Fits n k
BinderFits n (fold_step h f) k = (h < n) × Fits h k

-- the same for what is done next, with its frames
abbrev pub NextFits : ℕ → Next → List Frame → Type 0
NextFits n (matching q v ts b p) k = BinderFits n b k
NextFits n (matched ts b p) k = BinderFits n b k
NextFits n next k = Fits n k

-- A state whose heights are in range.
pub record Fit (s : State) : Type 0 where
  pub frames : NextFits (length s.forks) s.next s.frames
  pub forks : ForksFit s.forks
