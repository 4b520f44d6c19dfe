-- Standard error with notes, and without them.
use Rattle.std.proofs.Common.{◌≡◌, ◌||◌, ℕ, List, [], ◌∷◌, Option, Bool, String, Global, true, false, map, string_bytes, refl, sym, ap, subst}
use Rattle.std.specs.List.{list_any}
use Rattle.clap.specs.Words.{Text}
use Rattle.jq_devices.specs.Notes.{IsNoted}
use Rattle.jq_stream.specs.Failures.{StreamFailures}
use Rattle.jq_stream.specs.Streams.{streams}
use Rattle.jq_stream.specs.Views.{StreamsView}
use Rattle.jq_app.specs.Blaming.{Failures, failures}
use Rattle.jq_app.specs.Explained.{IsShown, asks_for_notes, is_explain}
use Rattle.jq_app.specs.Stages.{Files, stage}
use Rattle.jq_app.specs.Stopped.{CommandResult}

-- the words by their bytes
pub mapped : (words : List (String Global)) → list_any (λ w. is_explain (string_bytes w)) words ≡ asks_for_notes (map string_bytes words)
mapped [] = refl
mapped (w ∷ ws) = ap (λ b. is_explain (string_bytes w) || b) (mapped ws)

pub shown_plain : (asks failed : Bool) (on : Option (List ℕ)) → asks ≡ false → IsShown asks failed on on
shown_plain asks failed on is = subst (λ b. IsShown b failed on on) (sym is) refl

pub shown_noted : (asks failed : Bool) (reported shown : Option (List ℕ)) → asks ≡ true → IsNoted failed reported shown → IsShown asks failed reported shown
shown_noted asks failed reported shown is noted = subst (λ b. IsShown b failed reported shown) (sym is) noted

abbrev counted_by : (files : ℕ) → StreamFailures → Failures
counted_by files f = record { files = files; input = f.input; outputs = f.outputs }

-- the result of a command is the same by standard error that takes notes and by that within it
pub noted_result : {I J : Type 0} (fs : Files) (words : List Text) (n : ℕ) (old noted : StreamsView I) (after new : StreamsView J) (starts starts_new status : ℕ)
    → noted.bytes ≡ old.bytes → noted.failures ≡ old.failures → new.bytes.remaining ≡ after.bytes.remaining → new.bytes.outputs.output ≡ after.bytes.outputs.output → new.failures ≡ after.failures
    → CommandResult fs words (failures 0 noted) (failures n after) (stage noted.bytes starts) (stage after.bytes starts_new) status
    → CommandResult fs words (failures 0 old) (failures n new) (stage old.bytes starts) (stage (streams new.bytes.remaining new.bytes.outputs.output after.bytes.outputs.errors) starts_new) status
noted_result fs words n old noted after new starts starts_new status same_bytes same_failures remaining output counted h =
    let by_failures = subst (λ f. CommandResult fs words (counted_by 0 f) (failures n after) (stage noted.bytes starts) (stage after.bytes starts_new) status) same_failures h in
    let by_bytes = subst (λ b. CommandResult fs words (failures 0 old) (failures n after) (stage b starts) (stage after.bytes starts_new) status) same_bytes by_failures in
    let by_counts = subst (λ f. CommandResult fs words (failures 0 old) (counted_by n f) (stage old.bytes starts) (stage after.bytes starts_new) status) (sym counted) by_bytes in
    let by_remaining = subst (λ r. CommandResult fs words (failures 0 old) (failures n new) (stage old.bytes starts) (stage (streams r after.bytes.outputs.output after.bytes.outputs.errors) starts_new) status) (sym remaining) by_counts in
    subst (λ o. CommandResult fs words (failures 0 old) (failures n new) (stage old.bytes starts) (stage (streams new.bytes.remaining o after.bytes.outputs.errors) starts_new) status) (sym output) by_remaining
