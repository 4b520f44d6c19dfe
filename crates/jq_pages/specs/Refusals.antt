-- When a call is refused.
use Rattle.std.specs.Prelude.{◌≡◌, ℕ, ◌<◌, ◌≤◌, Result, Err, IsOk}
use Rattle.jq_pages.specs.Edits.{Reason, no_place, full, most_inputs}
use Rattle.jq_pages.specs.Folds.{Folded}
use Rattle.jq_pages.specs.declared.refusals.Refusal.{Refusal}
use Rattle.jq_pages.specs.declared.refusals.Refusal.TheVariants as refusal

-- An edit is refused for the reason that the definition gives, and with `NoMemory` only if the definition accepts it.
abbrev pub IsRefusal : {S : Type 0} → Refusal → Result (Folded S) Reason → Type 0
IsRefusal refusal.NoPlace after = after ≡ Err no_place
IsRefusal refusal.Full after = after ≡ Err full
IsRefusal refusal.NoMemory after = IsOk after

-- A start is refused if there are more inputs than allowed, and with `NoMemory` only if there are not.
abbrev pub IsStartRefusal : Refusal → ℕ → Type 0
IsStartRefusal refusal.NoPlace count = ⊥
IsStartRefusal refusal.Full count = most_inputs < count
IsStartRefusal refusal.NoMemory count = count ≤ most_inputs
