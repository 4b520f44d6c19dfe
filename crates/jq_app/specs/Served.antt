-- What the command writes for its words and its input, and with which status it ends (manual of jq 1.7, "Invoking jq").
use Rattle.std.specs.Prelude.{◌≡◌, ◌≢◌, ◌⊎◌, ℕ, List, [], ◌++◌, codes, true, false}
use Rattle.std.specs.Str.{chars}
use Rattle.clap.specs.Words.{Text}
use Rattle.jq_cli.specs.Answers.{Asks, AsksForHelp, AsksForVersion, IsMisused}
use Rattle.jq_cli.specs.Answers as cli
use Rattle.jq_cli.specs.Configuration.{Configuration}
use Rattle.jq_cli.specs.declared.help.TheConstants.{HELP_TEXT, VERSION_TEXT}
use Rattle.jq_devices.specs.Faults.{error_start}
use Rattle.jq_devices.specs.Files.{contents}
use Rattle.jq_filters.specs.Outcomes.{Outcome}
use Rattle.jq_stream.specs.Streams.{Streams}
use Rattle.jq_run.specs.Filters.{FilterNeedsInput, IsAnswered, IsFilterDone, refusal}
use Rattle.jq_app.specs.Sessions.{IsAccepted, IsSessionDone}
use Rattle.jq_app.specs.Stages.{Files, Stage}

-- ---- a configuration

-- If the configuration names files, they are the input, and nothing is read from the standard input.
abbrev pub HasInput : Files → Configuration → (old new from to : Streams) → Type 0
HasInput files c old new from to =
    ((c.files ≡ []) × (from ≡ old) × (to ≡ new))
    ⊎ ((c.files ≢ []) × (old.remaining ≡ new.remaining) × (from ≡ record { remaining = contents files.content c.files; outputs = old.outputs })
    × (to ≡ record { remaining = files.left; outputs = new.outputs }))

-- The filter was run over the input, or a session was served, or the filter was refused.
abbrev pub IsConfigurationDone : Files → Configuration → (old new : Stage) → ℕ → Type 0
IsConfigurationDone files c old new answer =
    ((c.live ≡ false) × (from : Streams) × (to : Streams) × HasInput files c old.streams new.streams from to × IsFilterDone c.options (chars c.filter) from to answer)
    ⊎ ((c.live ≡ true) × IsSessionDone (contents files.content c.files) c.follow c.options (chars c.filter) old new answer)

-- The configuration reads the standard input: as inputs, or as the script of a session.
abbrev pub ReadsInput : Configuration → Type 0
ReadsInput c =
    ((c.live ≡ false) × (c.files ≡ []) × FilterNeedsInput c.options (chars c.filter)) ⊎ ((c.live ≡ true) × IsAccepted c.options (chars c.filter))

-- ---- the words

abbrev pub help : Outcome
help = record { output = HELP_TEXT.now; errors = []; status = 0 }

abbrev pub version : Outcome
version = record { output = VERSION_TEXT.now; errors = []; status = 0 }

abbrev pub usage : Outcome
usage = refusal (error_start ++ codes "usage") 2

-- What is written in place of a run: the help text or the version, if the words ask for it; or why the words are refused, by
-- the rules of the command or by `clap`, whose text is written in this case.
pub data IsReply (words : List Text) : Outcome → Type 0 where
  helped : AsksForHelp words → IsReply words help
  versioned : AsksForVersion words → IsReply words version
  misused : IsMisused words → IsReply words usage
  by_clap : (text : List ℕ) → cli.IsRefused words → IsReply words (record { output = []; errors = text; status = 2 })

-- The command did what its words ask for, or wrote the reply in place of a run and started nothing; the answer is the status.
abbrev pub IsServed : Files → List Text → (old new : Stage) → ℕ → Type 0
IsServed files words old new answer =
    ((c : Configuration) × Asks words c × IsConfigurationDone files c old new answer)
    ⊎ ((outcome : Outcome) × IsReply words outcome × IsAnswered outcome old.streams.outputs new.streams.outputs answer × (old.starts ≡ new.starts))

-- The words ask for a configuration that reads the standard input.
abbrev pub WordsNeedInput : List Text → Type 0
WordsNeedInput words = (c : Configuration) × Asks words c × ReadsInput c

-- The same as a type of its own, which `main` can name without its parts.
pub record ReadsTheStandardInput (words : List Text) : Type 0 where
  pub needs : WordsNeedInput words
