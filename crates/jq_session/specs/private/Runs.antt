-- How many runs a filter makes.
use Rattle.std.specs.Prelude.{ℕ, List}
use Rattle.jv_data.specs.Value.{Value}
use Rattle.jq_filters.specs.Filters.{filter_job, filter_mode}
use Rattle.jq_filters.specs.Present.{run_count}
use Rattle.jq_filters.specs.declared.filters.Filter.{Filter}

-- the number of runs over these inputs
abbrev pub runs_over : Filter → List Value → ℕ
runs_over filter inputs = run_count (filter_mode filter) (filter_job filter) inputs
