-- The runs that the outputs of an operation represent.
use Rattle.std.specs.Prelude.{◌≡◌, ℕ, List, ◌++◌, map, reverse, Ok, Err}
use Rattle.jv_data.specs.Shared.{text_in}
use Rattle.jv_data.specs.View.{view}
use Rattle.jv_text.specs.Formats.{Text}
use Rattle.jq_meaning.specs.Runs.{Run, Done, Stopped, ended, none, one, fail}
use Rattle.jq_meaning.specs.Runs as runs
use Rattle.jq_meaning.specs.Builtins.{numbers_up_to}
use Rattle.jq_state.specs.Items.{item_of}
use Rattle.jq_state.specs.Nexts.{stop_of}
use Rattle.jq_operations.specs.declared.outputs.Outputs.{Outputs}
use Rattle.jq_operations.specs.declared.outputs.Outputs.TheVariants as outputs
use Rattle.jq_operations.specs.declared.texts.Inserted.{Inserted}
use Rattle.jq_operations.specs.declared.texts.Inserted.TheVariants as inserted

abbrev pub outputs_of : Outputs → Run runs.Item
outputs_of outputs.Nothing = none
outputs_of (outputs.One x) = one (item_of x)
outputs_of (outputs.Several xs) = record { items = reverse (map item_of xs.items); ending = Done }
outputs_of (outputs.Numbers next end step) = numbers_up_to next end step
outputs_of (outputs.Error v) = fail (view v)
outputs_of (outputs.Stopped s) = ended (Stopped (stop_of s))

-- a text between two others, or its error
abbrev pub Inserts : (front : List ℕ) → Text → (back : List ℕ) → Inserted → Type 0
Inserts front text back (inserted.Text t) = (s : List ℕ) × (text ≡ Ok s) × (text_in t ≡ front ++ (s ++ back))
Inserts front text back (inserted.Error v) = text ≡ Err (view v)
