-- What `inputs` returns, as a run.
use Rattle.std.specs.Prelude.{map, Option, Some, None}
use Rattle.jv_data.specs.Value.{Value}
use Rattle.jv_data.specs.View.{view}
use Rattle.jv_data.specs.declared.values.Val.{Val}
use Rattle.jq_meaning.specs.Runs.{Run, Ending, Done, Raised}
use Rattle.jq_state.specs.declared.inputs.Inputs.{Inputs}

abbrev pub fault_ending : Option Val → Ending
fault_ending None = Done
fault_ending (Some v) = Raised (view v)

abbrev pub inputs_of : Inputs → Run Value
inputs_of i = record { items = map view i.values.items; ending = fault_ending i.fault }
