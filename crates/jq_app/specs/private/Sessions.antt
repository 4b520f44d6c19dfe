-- What the calls that serve a session did, each by what it takes: between a status or a fault and the stages before and after it.
use Rattle.std.specs.Prelude.{◌≡◌, ℕ, List, Bool, Option, map}
use Rattle.std.specs.Str.{chars}
use Rattle.jv_data.specs.View.{view}
use Rattle.jq_devices.specs.Watched.{device_of}
use Rattle.jq_devices.specs.declared.faults.StreamFault.{StreamFault}
use Rattle.jq_devices.specs.declared.watched.Watched.{Watched}
use Rattle.jq_filters.specs.Filters.{IsFilterOf}
use Rattle.jq_filters.specs.declared.filters.Filter.{Filter}
use Rattle.jq_stream.specs.declared.gathering.InputTexts.{InputTexts}
use Rattle.jq_syntax.specs.Chosen.{Chosen, chosen}
use Rattle.jq_syntax.specs.declared.options.Options.{Options}
use Rattle.jq_app.specs.Sessions.{IsSessionDone, IsSessionStopped}
use Rattle.jq_app.specs.Stages.{Stage}
use Rattle.jq_app.specs.private.Texts.{HaveTexts}

-- ---- the filter with these bytes as its text

-- The session of the filter over what the files have left is done, or none started.
abbrev pub IsTextSessionDone : {I : Type 0} → (left : I → Option (List ℕ)) → Watched I → (follow : Bool) → Options → (bytes : List ℕ) → (status : ℕ) → (old new : Stage) → Type 0
IsTextSessionDone left files follow options bytes status old new = IsSessionDone (left (device_of files)) follow (chosen options) (chars bytes) old new status

-- A fault stopped the session, or the report of why none starts.
abbrev pub IsTextSessionStopped : {I : Type 0} → (left : I → Option (List ℕ)) → Watched I → (follow : Bool) → Options → (bytes : List ℕ) → StreamFault → (old new : Stage) → Type 0
IsTextSessionStopped left files follow options bytes fault old new = IsSessionStopped fault (left (device_of files)) follow (chosen options) (chars bytes) old new

-- ---- a compiled filter, for each text that these options accept as this filter

-- Its session over what the files have left is done, or none started.
abbrev pub IsFilterSessionDone : {I : Type 0} → (left : I → Option (List ℕ)) → Watched I → (follow : Bool) → Options → Filter → (status : ℕ) → (old new : Stage) → Type 0
IsFilterSessionDone left files follow options filter status old new =
    (o : Chosen) (text : List ℕ) → IsFilterOf o text filter → chosen options ≡ o → IsSessionDone (left (device_of files)) follow o text old new status

-- A fault stopped the session, or the report of why none starts.
abbrev pub IsFilterSessionStopped : {I : Type 0} → (left : I → Option (List ℕ)) → Watched I → (follow : Bool) → Options → Filter → StreamFault → (old new : Stage) → Type 0
IsFilterSessionStopped left files follow options filter fault old new =
    (o : Chosen) (text : List ℕ) → IsFilterOf o text filter → chosen options ≡ o → IsSessionStopped fault (left (device_of files)) follow o text old new

-- ---- the same over texts that were read, for all files that have these texts

-- Its session over the texts is done, or none started.
abbrev pub IsSessionOverTextsDone : InputTexts → (follow : Bool) → Options → Filter → (status : ℕ) → (old new : Stage) → Type 0
IsSessionOverTextsDone texts follow options filter status old new =
    (files : Option (List ℕ)) (o : Chosen) (text : List ℕ) → HaveTexts files (map view texts.values.items) texts.fault → IsFilterOf o text filter → chosen options ≡ o
    → IsSessionDone files follow o text old new status

-- A fault stopped the session, or the report of why none starts.
abbrev pub IsSessionOverTextsStopped : InputTexts → (follow : Bool) → Options → Filter → StreamFault → (old new : Stage) → Type 0
IsSessionOverTextsStopped texts follow options filter fault old new =
    (files : Option (List ℕ)) (o : Chosen) (text : List ℕ) → HaveTexts files (map view texts.values.items) texts.fault → IsFilterOf o text filter → chosen options ≡ o
    → IsSessionStopped fault files follow o text old new
