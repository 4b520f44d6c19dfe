-- The answers of the calls on words.
use Rattle.std.specs.Prelude.{◌≡◌, ◌≢◌, ◌∷◌, ◌⊎◌, ◌&&◌, ◌||◌, Bool, not, List, [], Result, Ok, Err, String, Vec, map, string_bytes, true, false}
use Rattle.std.specs.declared.alloc.Global.{Global}
use Rattle.clap.specs.Words.{Text}
use Rattle.clap.specs.declared.error.kind.ErrorKind.TheVariants.{DisplayHelp, DisplayVersion}
use Rattle.jv_data.specs.declared.values.Val.{Val}
use Rattle.jq_syntax.specs.Chosen.{variables_of}
use Rattle.jq_cli.specs.Command.{entries, faults}
use Rattle.jq_cli.specs.Configuration.{Configuration, configured, shown}
use Rattle.jq_cli.specs.Pieces.{IsTaken, Variable}
use Rattle.jq_cli.specs.declared.configuring.Config.{Config}
use Rattle.jq_cli.specs.declared.faults.UsageFault.{UsageFault}
use Rattle.jq_cli.specs.declared.faults.UsageFault.TheVariants.{Usage, Help, Version, Line, NoMemory}

-- the variables cannot be taken out of the words
abbrev pub CannotBeTaken : List Text → Type 0
CannotBeTaken words = (left : List Text) (vars : List Variable) → ¬ IsTaken words left vars

-- With enough memory: the remaining words and the variables, or `Usage` if they cannot be taken out.
abbrev pub Takes : List Text → Result (Vec (String Global) Global × Vec (String Global × Val) Global) UsageFault → Type 0
Takes words (Ok r) = IsTaken words (map string_bytes r.0.items) (variables_of r.1.items)
Takes words (Err Usage) = CannotBeTaken words
Takes words (Err Help) = ⊥
Takes words (Err Version) = ⊥
Takes words (Err (Line text)) = ⊥
Takes words (Err NoMemory) = Unit {0}

-- `clap` accepts the remaining words, and their configuration is c
pub record IsParsedAs (words : List Text) (c : Configuration) : Type 0 where
  pub left : List Text
  pub vars : List Variable
  pub taken : IsTaken words left vars
  pub accepted : faults left ≡ []
  pub asks : c ≡ configured (entries left) vars

-- `clap` finds `-h` or `--help` among the remaining words, before anything that is wrong with them
pub record AsksForHelp (words : List Text) : Type 0 where
  pub left : List Text
  pub vars : List Variable
  pub taken : IsTaken words left vars
  pub met : faults left ≡ DisplayHelp ∷ []

-- `clap` finds `-V` or `--version` among the remaining words, before anything that is wrong with them
pub record AsksForVersion (words : List Text) : Type 0 where
  pub left : List Text
  pub vars : List Variable
  pub taken : IsTaken words left vars
  pub met : faults left ≡ DisplayVersion ∷ []

-- `clap` refuses the remaining words
pub record IsRefused (words : List Text) : Type 0 where
  pub left : List Text
  pub vars : List Variable
  pub taken : IsTaken words left vars
  pub refused : faults left ≢ []
  pub no_help : faults left ≢ DisplayHelp ∷ []
  pub no_version : faults left ≢ DisplayVersion ∷ []

-- one run on null and one run on the array of all inputs exclude each other, and edits are followed only in a session
abbrev pub options_clash : Configuration → Bool
options_clash c = (c.options.null && c.options.slurp) || (c.follow && not c.live)

-- The words ask for this configuration.
abbrev pub Asks : List Text → Configuration → Type 0
Asks words c = IsParsedAs words c × (options_clash c ≡ false)

-- the variables cannot be taken out of the words, or the words have `--null-input` with `--slurp`, or `--follow` without `--live`
abbrev pub IsMisused : List Text → Type 0
IsMisused words = CannotBeTaken words ⊎ ((c : Configuration) × IsParsedAs words c × (options_clash c ≡ true))

-- With enough memory: what the words ask for, or their fault, or that they ask for help or for the version.
abbrev pub Configures : List Text → Result Config UsageFault → Type 0
Configures words (Ok c) = Asks words (shown c)
Configures words (Err Usage) = IsMisused words
Configures words (Err Help) = AsksForHelp words
Configures words (Err Version) = AsksForVersion words
Configures words (Err (Line text)) = IsRefused words
Configures words (Err NoMemory) = Unit {0}
