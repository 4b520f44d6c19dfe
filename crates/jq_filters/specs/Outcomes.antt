-- What the runs of a filter on a stream of texts write, and with which status they end (manual of jq 1.7, "Invoking jq").
use Rattle.std.specs.Prelude.{ℕ, List, [], ◌∷◌, ◌++◌, Bool, true, false, Option, Some, None, unwrap_or, if◌then◌else◌, codes, map}
use Rattle.std.specs.List.{flat_map, list_any}
use Rattle.std.specs.Option.{option_or}
use Rattle.jv_data.specs.Value.{Value, null, string, array, items_of}
use Rattle.jv_text.specs.FaultWords.{fault_text}
use Rattle.jv_text.specs.Printed.{printed, raw}
use Rattle.jv_text.specs.Stream.{StreamEnd, clean, open_text, fault, Values}
use Rattle.jv_text.specs.declared.faults.Fault.{Fault}
use Rattle.jv_text.specs.declared.printing.Style.{Style}
use Rattle.jq_natives.specs.Answers.{is_true}
use Rattle.jq_meaning.specs.Runs.{Run, Item, value_in, none}
use Rattle.jq_meaning.specs.Runs as runs
use Rattle.jq_devices.specs.Faults.{line, error_start}

-- the bytes on standard output and on standard error, and the status of the process
pub record Outcome : Type 0 where
  pub output : List ℕ
  pub errors : List ℕ
  pub status : ℕ

-- ---- what one run writes

-- the beginning of the line of an uncaught error; it depends on whether a string was raised
abbrev pub error_prefix : Value → List ℕ
error_prefix (string text) = error_start
error_prefix v = codes "jq: error (not a string): "

-- the line of an uncaught error: a string as it is, and another value as its text
abbrev pub error_line : Value → List ℕ
error_line v = error_prefix v ++ line (raw v)

-- the line of a run in which calls nested too deep
abbrev pub deep_line : List ℕ
deep_line = line (error_start ++ codes "call depth limit reached")

-- what one run prints: its items, one after the other
abbrev pub printed_of : Style → Run Item → List ℕ
printed_of style r = flat_map (λ x. printed style (value_in x)) r.items

-- what a stop reports: the line of the depth limit, or the bytes of a halt as they are
abbrev pub stop_report : runs.Stop → List ℕ
stop_report runs.deep = deep_line
stop_report (runs.halted status bytes) = bytes

-- what one run reports on standard error, by its ending (no accepted filter ends in a break)
abbrev pub ending_report : runs.Ending → List ℕ
ending_report runs.Done = []
ending_report (runs.Raised v) = error_line v
ending_report (runs.Broken level) = []
ending_report (runs.Stopped stop) = stop_report stop

-- the run ended in an uncaught error, or its calls nested too deep
abbrev pub is_failure : runs.Ending → Bool
is_failure runs.Done = false
is_failure (runs.Raised v) = true
is_failure (runs.Broken level) = false
is_failure (runs.Stopped runs.deep) = true
is_failure (runs.Stopped (runs.halted status bytes)) = false

-- the status of a halt, if the run ended in one
abbrev pub halt_status : runs.Ending → Option ℕ
halt_status runs.Done = None
halt_status (runs.Raised v) = None
halt_status (runs.Broken level) = None
halt_status (runs.Stopped runs.deep) = None
halt_status (runs.Stopped (runs.halted status bytes)) = Some status

-- ---- several runs, one after the other: a failure ends only its own run

abbrev pub runs_printed : Style → List (Run Item) → List ℕ
runs_printed style rs = flat_map (printed_of style) rs

abbrev pub runs_reported : List (Run Item) → List ℕ
runs_reported rs = flat_map (λ r. ending_report r.ending) rs

abbrev pub any_failure : List (Run Item) → Bool
any_failure rs = list_any (λ r. is_failure r.ending) rs

-- ---- a run that halts is the last one

-- nothing after a halt, and these otherwise
abbrev pub unless_halted : {A : Type 0} → Option ℕ → List A → List A
unless_halted (Some status) xs = []
unless_halted None xs = xs

-- the runs up to the first one that halts, with this one
abbrev pub up_to_halt : List (Run Item) → List (Run Item)
up_to_halt [] = []
up_to_halt (r ∷ rs) = r ∷ unless_halted (halt_status r.ending) (up_to_halt rs)

-- the status of the first run that halts
abbrev pub first_halt : List (Run Item) → Option ℕ
first_halt [] = None
first_halt (r ∷ rs) = option_or (halt_status r.ending) (first_halt rs)

-- The last output, as far as `--exit-status` needs it.
pub data Last : Type 0 where
  nothing : Last
  falsy : Last  -- null or false
  truthy : Last

abbrev pub last_by : Bool → Last
last_by true = truthy
last_by false = falsy

-- the last of these items
abbrev pub last_item : List Item → Last
last_item [] = nothing
last_item (x ∷ []) = last_by (is_true (value_in x))
last_item (x ∷ y ∷ ys) = last_item (y ∷ ys)

-- the last output of the runs
abbrev pub last_output : List (Run Item) → Last
last_output rs = last_item (flat_map (λ r. r.items) rs)

-- ---- the report of a text that can't be read

abbrev pub text_line : Fault → List ℕ
text_line f = line (error_start ++ fault_text f)

-- ---- which runs a command makes

-- One run on each input, one on null, or one on the array of all inputs.
pub data Mode : Type 0 where
  on_each : Mode
  on_null : (reads : Bool) → Mode  -- whether the filter has `inputs`
  on_all : Mode

-- What a filter does with a value, given the values that `inputs` returns; how its outputs are printed, and whether the status
-- depends on the last output.
pub record Job : Type 0 where
  pub style : Style
  pub exit : Bool
  pub run : (inputs : Run Value) → Value → Run Item

-- the error that `inputs` raises after the last value
abbrev pub inputs_ending : StreamEnd → runs.Ending
inputs_ending clean = runs.Done
inputs_ending open_text = runs.Done
inputs_ending (fault f) = runs.Raised (string (fault_text f))

abbrev pub inputs_in : Values → Run Value
inputs_in found = record { items = found.values; ending = inputs_ending found.end }

-- one run on the array of all inputs, and no run if a text can't be read
abbrev pub run_on_all : Job → List Value → StreamEnd → List (Run Item)
run_on_all job values clean = job.run none (array (items_of values)) ∷ []
run_on_all job values open_text = job.run none (array (items_of values)) ∷ []
run_on_all job values (fault f) = []

abbrev pub runs_in : Mode → Job → Values → List (Run Item)
runs_in on_each job found = map (job.run none) found.values
runs_in (on_null true) job found = job.run (inputs_in found) null ∷ []
runs_in (on_null false) job found = job.run none null ∷ []
runs_in on_all job found = run_on_all job found.values found.end

-- A fault at the end of the stream is reported, except in runs on null: there it is an error of `inputs`.
abbrev pub end_reported : StreamEnd → List ℕ
end_reported clean = []
end_reported open_text = []
end_reported (fault f) = text_line f

abbrev pub fault_reported : Mode → StreamEnd → List ℕ
fault_reported on_each e = end_reported e
fault_reported (on_null reads) e = []
fault_reported on_all e = end_reported e

-- ---- the status

abbrev pub last_status : Last → ℕ
last_status nothing = 4
last_status falsy = 1
last_status truthy = 0

-- depends on whether a run failed, and on the last output if the command asks for it
abbrev pub end_status : (exit failed : Bool) → Last → ℕ
end_status exit failed last = if failed then 5 else (if exit then last_status last else 0)

abbrev pub status_after : StreamEnd → ℕ → ℕ
status_after clean status = status
status_after open_text status = status
status_after (fault f) status = 2

abbrev pub status_of : Mode → StreamEnd → ℕ → ℕ
status_of on_each e status = status_after e status
status_of (on_null reads) e status = status
status_of on_all e status = status_after e status

-- ---- the outcome

-- What runs write up to the first one that halts, and the status of this halt. If none halts: then this report, and the status that
-- `after` makes of the status of all runs.
abbrev pub runs_outcome : Style → (exit : Bool) → List (Run Item) → (report : List ℕ) → (after : ℕ → ℕ) → Outcome
runs_outcome style exit runs report after =
    let rs = up_to_halt runs in
    record {
      output = runs_printed style rs;
      errors = runs_reported rs ++ unless_halted (first_halt rs) report;
      status = unwrap_or (first_halt rs) (after (end_status exit (any_failure rs) (last_output rs)));
    }

-- The runs on a stream of texts, and then the report of the fault that ends the stream, if there is one.
abbrev pub stream_outcome : Mode → Job → Values → Outcome
stream_outcome mode job found = runs_outcome job.style job.exit (runs_in mode job found) (fault_reported mode found.end) (status_of mode found.end)
