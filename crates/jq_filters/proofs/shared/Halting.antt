-- Runs up to the first one that halts.
use Rattle.std.proofs.Common.{◌≡◌, ◌≤◌, ◌+◌, ℕ, Bool, List, [], ◌∷◌, ◌++◌, length, Option, Some, None, sym, ap, ◌∙◌, refl, append-nil, length-append, arith}
use Rattle.std.specs.Option.{option_or}
use Rattle.std.specs.Prelude.{unwrap_or}
use Rattle.jv_text.specs.declared.printing.Style.{Style}
use Rattle.jq_meaning.specs.Runs.{Run, Item}
use Rattle.jq_filters.specs.Outcomes.{Outcome, runs_printed, runs_reported, any_failure, last_output, halt_status, unless_halted, up_to_halt, first_halt, end_status, runs_outcome}
use Rattle.jq_filters.specs.private.Made.{MayBeMade, EndsInHalt}

-- ---- a single run

pub nothing_more : {A : Type 0} (o : Option ℕ) → unless_halted {A = A} o [] ≡ []
nothing_more None = refl
nothing_more (Some status) = refl

pub one_made : (r : Run Item) → MayBeMade (r ∷ [])
one_made r = ap (λ rs. r ∷ rs) (nothing_more (halt_status r.ending))

or_none : (o : Option ℕ) → option_or o None ≡ o
or_none None = refl
or_none (Some status) = refl

pub one_halt : (r : Run Item) → first_halt (r ∷ []) ≡ halt_status r.ending
one_halt r = or_none (halt_status r.ending)

-- ---- runs that do not halt, and then others

-- the others are made up to the first of them that halts
abbrev Follows : List (Run Item) → List (Run Item) → Type 0
Follows rs ss = (up_to_halt (rs ++ ss) ≡ rs ++ up_to_halt ss) × (first_halt (rs ++ ss) ≡ first_halt ss)

one_before : (o : Option ℕ) (r : Run Item) (rs ss : List (Run Item)) → (first_halt rs ≡ None → Follows rs ss) → option_or o (first_halt rs) ≡ None
    → (r ∷ unless_halted o (up_to_halt (rs ++ ss)) ≡ r ∷ (rs ++ up_to_halt ss)) × (option_or o (first_halt (rs ++ ss)) ≡ first_halt ss)
one_before None r rs ss h e = let f = h e in (ap (λ l. r ∷ l) f.0, f.1)
one_before (Some status) r rs ss h e = cc

follows : (rs ss : List (Run Item)) → first_halt rs ≡ None → Follows rs ss
follows [] ss e = (refl, refl)
follows (r ∷ rs) ss e = one_before (halt_status r.ending) r rs ss (follows rs ss) e

pub none_halts : (rs : List (Run Item)) → first_halt rs ≡ None → MayBeMade rs
none_halts rs e = let f = follows rs [] e in ap up_to_halt (sym (append-nil rs)) ∙ f.0 ∙ append-nil rs

pub still_unhalted : (rs ss : List (Run Item)) → first_halt rs ≡ None → first_halt ss ≡ None → first_halt (rs ++ ss) ≡ None
still_unhalted rs ss e f = let g = follows rs ss e in g.1 ∙ f

pub made_after : (rs ss : List (Run Item)) → first_halt rs ≡ None → MayBeMade ss → MayBeMade (rs ++ ss)
made_after rs ss e made = let f = follows rs ss e in f.0 ∙ ap (λ l. rs ++ l) made

pub halts_after : (rs ss : List (Run Item)) (status : ℕ) → first_halt rs ≡ None → EndsInHalt status ss → EndsInHalt status (rs ++ ss)
halts_after rs ss status e h = let f = follows rs ss e in record { made = made_after rs ss e h.made; halts = f.1 ∙ h.halts }

-- all of the first are made
pub made_before : (rs ss : List (Run Item)) → first_halt rs ≡ None → length rs ≤ length (up_to_halt (rs ++ ss))
made_before rs ss e =
    let f = follows rs ss e in
    let made : length (up_to_halt (rs ++ ss)) ≡ length (rs ++ up_to_halt ss) = ap length f.0 in
    let both = length-append rs (up_to_halt ss) in
    omega (arith, made, both)

-- the first of the others is made
pub one_further : (rs : List (Run Item)) (r : Run Item) (ss : List (Run Item)) → first_halt rs ≡ None → length rs + 1 ≤ length (up_to_halt (rs ++ r ∷ ss))
one_further rs r ss e =
    let f = follows rs (r ∷ ss) e in
    let made : length (up_to_halt (rs ++ r ∷ ss)) ≡ length (rs ++ up_to_halt (r ∷ ss)) = ap length f.0 in
    let both = length-append rs (up_to_halt (r ∷ ss)) in
    omega (arith, made, both)

-- ---- runs of which the last one halts, and then others

nothing_after_one : (o : Option ℕ) (r : Run Item) (rs ss : List (Run Item)) (status : ℕ) → (first_halt rs ≡ Some status → up_to_halt (rs ++ ss) ≡ up_to_halt rs)
    → option_or o (first_halt rs) ≡ Some status → r ∷ unless_halted o (up_to_halt (rs ++ ss)) ≡ r ∷ unless_halted o (up_to_halt rs)
nothing_after_one None r rs ss status h e = ap (λ l. r ∷ l) (h e)
nothing_after_one (Some s) r rs ss status h e = refl

nothing_after : (rs ss : List (Run Item)) (status : ℕ) → first_halt rs ≡ Some status → up_to_halt (rs ++ ss) ≡ up_to_halt rs
nothing_after [] ss status e = cc
nothing_after (r ∷ rs) ss status e = nothing_after_one (halt_status r.ending) r rs ss status (nothing_after rs ss status) e

-- the others are not made
pub cut_after : (rs ss : List (Run Item)) (status : ℕ) → EndsInHalt status rs → up_to_halt (rs ++ ss) ≡ rs
cut_after rs ss status h = nothing_after rs ss status h.halts ∙ h.made

halts_first : (o : Option ℕ) (rs ss : List (Run Item)) (status : ℕ) → (first_halt rs ≡ Some status → first_halt (rs ++ ss) ≡ Some status) → option_or o (first_halt rs) ≡ Some status
    → option_or o (first_halt (rs ++ ss)) ≡ Some status
halts_first None rs ss status h e = h e
halts_first (Some s) rs ss status h e = e

pub halts_still : (rs ss : List (Run Item)) (status : ℕ) → first_halt rs ≡ Some status → first_halt (rs ++ ss) ≡ Some status
halts_still [] ss status e = cc
halts_still (r ∷ rs) ss status e = halts_first (halt_status r.ending) rs ss status (halts_still rs ss status) e

-- ---- runs that may be made, and then others

abbrev later : List (Run Item) → List (Run Item)
later [] = []
later (r ∷ rs) = rs

-- These are the first of all that are made.
abbrev pub MadeFirst : List (Run Item) → List (Run Item) → Type 0
MadeFirst rs ss = (more : List (Run Item)) × (up_to_halt (rs ++ ss) ≡ rs ++ more)

one_made_first : (o : Option ℕ) (r : Run Item) (rs ss : List (Run Item)) → (MayBeMade rs → MadeFirst rs ss) → r ∷ unless_halted o (up_to_halt rs) ≡ r ∷ rs
    → (more : List (Run Item)) × (r ∷ unless_halted o (up_to_halt (rs ++ ss)) ≡ r ∷ (rs ++ more))
one_made_first None r rs ss h e = let m = h (ap later e) in (m.0, ap (λ l. r ∷ l) m.1)
one_made_first (Some status) r rs ss h e = let last : [] ≡ rs = ap later e in ([], ap (λ l. r ∷ l) (last ∙ sym (append-nil rs)))

pub made_first : (rs ss : List (Run Item)) → MayBeMade rs → MadeFirst rs ss
made_first [] ss e = (up_to_halt ss, refl)
made_first (r ∷ rs) ss e = one_made_first (halt_status r.ending) r rs ss (made_first rs ss) e

-- no more runs are made than there are

no_more_than : (o : Option ℕ) (r : Run Item) (rs : List (Run Item)) → length (up_to_halt rs) ≤ length rs → length (r ∷ unless_halted o (up_to_halt rs)) ≤ length (r ∷ rs)
no_more_than None r rs h = omega (arith, h)
no_more_than (Some status) r rs h = omega arith

pub no_more_runs : (rs : List (Run Item)) → length (up_to_halt rs) ≤ length rs
no_more_runs [] = omega arith
no_more_runs (r ∷ rs) = no_more_than (halt_status r.ending) r rs (no_more_runs rs)

-- ---- the halt of the runs that are made is that of all

same_halt_after : (o : Option ℕ) (rs : List (Run Item)) → first_halt (up_to_halt rs) ≡ first_halt rs → option_or o (first_halt (unless_halted o (up_to_halt rs))) ≡ option_or o (first_halt rs)
same_halt_after None rs e = e
same_halt_after (Some status) rs e = refl

pub same_halt : (rs : List (Run Item)) → first_halt (up_to_halt rs) ≡ first_halt rs
same_halt [] = refl
same_halt (r ∷ rs) = same_halt_after (halt_status r.ending) rs (same_halt rs)

-- ---- the outcome

-- what these runs write, of which the last one halts with this status, or none
abbrev pub made_outcome : Style → (exit : Bool) → Option ℕ → List (Run Item) → (report : List ℕ) → (after : ℕ → ℕ) → Outcome
made_outcome style exit halt rs report after = record {
  output = runs_printed style rs;
  errors = runs_reported rs ++ unless_halted halt report;
  status = unwrap_or halt (after (end_status exit (any_failure rs) (last_output rs)));
}

pub outcome_made : (style : Style) (exit : Bool) (runs : List (Run Item)) (report : List ℕ) (after : ℕ → ℕ) (halt : Option ℕ) (rs : List (Run Item)) → up_to_halt runs ≡ rs → first_halt rs ≡ halt
    → runs_outcome style exit runs report after ≡ made_outcome style exit halt rs report after
outcome_made style exit runs report after halt rs e f =
    ap (λ l. made_outcome style exit (first_halt l) l report after) e ∙ ap (λ h. made_outcome style exit h rs report after) f
