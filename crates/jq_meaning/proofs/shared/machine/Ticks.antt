-- Runs that begin with marks.
use Rattle.std.proofs.Common.{◌≡◌, ℕ, zero, suc, ap}
use Rattle.jq_meaning.specs.Runs.{Run, one, bind}
use Rattle.jq_meaning.proofs.shared.machine.RunLaws.{then_run-none}
use Rattle.jq_meaning.proofs.shared.machine.Events.{Event, output, tick, on_output}

abbrev pub ticks : {A : Type 0} → ℕ → Run (Event A) → Run (Event A)
ticks zero r = r
ticks (suc n) r = tick (ticks n r)

-- a filter with one output in front of another filter
pub bind-ticks : {A B : Type 0} (n : ℕ) (x : A) (g : A → Run (Event B)) → bind (ticks n (one (output x))) (on_output g) ≡ ticks n (tick (g x))
bind-ticks zero x g = then_run-none (tick (g x))
bind-ticks (suc n) x g = ap tick (bind-ticks n x g)
