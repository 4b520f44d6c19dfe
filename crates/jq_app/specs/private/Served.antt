-- A session that was served, and its counts of starts.
use Rattle.std.specs.Prelude.{◌≡◌, ℕ, List, Bool, Option}
use Rattle.jq_devices.specs.Watched.{device_of}
use Rattle.jq_devices.specs.declared.faults.StreamFault.{StreamFault}
use Rattle.jq_devices.specs.declared.watched.Watched.{Watched}
use Rattle.jq_script.specs.Script.{Point}
use Rattle.jq_script.specs.Serving.{Serving, IsServed, IsStopped, IsOnePass, point_of, serving}
use Rattle.jq_script.specs.declared.host.Host.{Host}
use Rattle.jq_app.specs.Stages.{started_in}
use Rattle.jq_app.specs.declared.counts.Counts.{Counts}

-- The script was answered, and the status is 0; the session came to a point with so many starts.
abbrev pub IsAnswered : (follow : Bool) → (status : ℕ) → Serving → (remaining output : Option (List ℕ)) → (starts : ℕ) → Type 0
IsAnswered follow status old remaining output starts = (status ≡ 0) × (last : Point) × (last.starts ≡ starts) × IsServed follow old (serving remaining output last)

-- A fault stopped the answers at a point with so many starts.
abbrev pub IsCutOff : (follow : Bool) → StreamFault → Serving → (remaining output : Option (List ℕ)) → (starts : ℕ) → Type 0
IsCutOff follow fault old remaining output starts =
    (last : Point) × (last.starts ≡ starts) × IsStopped follow fault old (serving remaining output last) × IsOnePass follow old (serving remaining output last)

-- This relation holds between a session with its reader and its writer before it is served, and what the reader has left, what was
-- written and how often the filters were started after it.
abbrev pub OnServing : {R O : Type 0} → (left : R → Option (List ℕ)) → (printed : O → Option (List ℕ)) → Host → Watched R → Watched O → Counts → Watched R → Watched O
    → (relation : Serving → (remaining output : Option (List ℕ)) → (starts : ℕ) → Type 0) → Type 0
OnServing left printed host input_old output_old counts input_new output_new relation =
    relation (serving (left (device_of input_old)) (printed (device_of output_old)) (point_of host)) (left (device_of input_new)) (printed (device_of output_new)) (started_in counts)
