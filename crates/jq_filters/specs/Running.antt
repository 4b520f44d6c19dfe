-- The run of a runner's filter.
use Rattle.jv_data.specs.Value.{Value}
use Rattle.jq_meaning.specs.Runs.{Run, Item}
use Rattle.jq_state.specs.Listed.{items_in}
use Rattle.jq_filters.specs.Runner.{run_in}
use Rattle.jq_filters.specs.declared.runner.Runner.{Runner}

abbrev pub run_on : Runner → (inputs : Run Value) → Value → Run Item
run_on r inputs v = run_in r.depth r.tree.now (items_in r.bindings.now) inputs v
