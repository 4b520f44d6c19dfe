-- The command line without `--arg` and `--argjson`, as defined for `clap`, and what `clap` makes of words
-- (manual of jq 1.7, "Invoking jq").
use Rattle.std.specs.Prelude.{ℕ, List, [], ◌∷◌, codes, true, Some, pos}
use Rattle.clap.specs.Kinds.{Kinds}
use Rattle.clap.specs.Simple.{new_shape}
use Rattle.clap.specs.Words.{App, Row, Rule, Text, fault_of, matches_of, new_rule}
use Rattle.clap.specs.declared.builder.ArgAction.TheVariants.{Append, Count, Set}
use Rattle.clap.specs.declared.builder.value_parser.ValueParser.TheVariants as parser

-- a flag that counts its uses
abbrev pub long_flag : Text → Rule
long_flag name = record (new_rule name) { long = Some name; action = Some Count }

abbrev pub flag : (short : ℕ) → Text → Rule
flag short name = record (long_flag name) { short = Some short }

-- a whole number from 1 to 100,000; 10,000 if it is not given
abbrev pub depth : Rule
depth = record (new_rule (codes "depth")) {
  long = Some (codes "depth");
  action = Some Set;
  value_names = 1;
  parser = Some (parser.Signed (pos 1) (pos 100000));
  defaults = codes "10000" ∷ [];
}

abbrev pub filter : Rule
filter = record (new_rule (codes "FILTER")) { required = true; action = Some Set }

abbrev pub file : Rule
file = record (new_rule (codes "FILE")) { action = Some Append }

abbrev pub rules : List Rule
rules =
    flag 99 (codes "compact-output")
    ∷ flag 114 (codes "raw-output")
    ∷ flag 106 (codes "join-output")
    ∷ flag 110 (codes "null-input")
    ∷ flag 115 (codes "slurp")
    ∷ flag 101 (codes "exit-status")
    ∷ flag 83 (codes "sort-keys")
    ∷ flag 77 (codes "monochrome-output")
    ∷ long_flag (codes "live")
    ∷ long_flag (codes "follow")
    ∷ long_flag (codes "explain")
    ∷ depth
    ∷ filter
    ∷ file
    ∷ []

-- The program's own name is not one of the words. `clap` adds the flags `-h` and `--help`, and for a command that has a version
-- `-V` and `--version`.
unfoldable pub app : App
app = record {
  top = record (new_shape (codes "jql")) { rules = rules; no_binary_name = true; has_version = true };
  subs = [];
}

-- The kind of the first fault that `clap` finds in words, or none if it accepts them. It reads the words one after the other,
-- and `-h` or `--help` is a fault of the kind `DisplayHelp`, `-V` or `--version` one of the kind `DisplayVersion`: what follows it
-- does not matter, nor that there is no filter.
unfoldable pub faults : List Text → Kinds
faults words = fault_of app words

-- the entries that `clap` makes of words that it accepts
unfoldable pub entries : List Text → List Row
entries words = matches_of app words
