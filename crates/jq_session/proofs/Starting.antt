-- How often an edit starts the filter.
use Rattle.std.proofs.Common.{◌≡◌, ℕ, Ok, sym, subst}
use Rattle.std.specs.Prelude.{MatchResult}
use Rattle.jq_pages.specs.Edits.{Edit}
use Rattle.jq_pages.specs.Folds.{Rises}
use Rattle.jq_filters.specs.Present.{run_count}
use Rattle.jq_session.specs.Starts.{AllowedStarts, IsStarted}
use Rattle.jq_session.specs.States.{State, after, whole}

-- an accepted edit that makes all runs again
pub whole_started : (edit : Edit) (old next : State) (a b : ℕ) → old.plan ≡ whole → after edit old ≡ Ok next → Rises a b (run_count next.mode next.job next.inputs) → IsStarted edit old a b
whole_started edit old next a b plan is h =
    subst (λ r. MatchResult r (λ new. AllowedStarts old.plan edit old new a b) (λ reason. b ≡ a)) (sym is)
    (subst (λ p. AllowedStarts p edit old next a b) (sym plan) h)
