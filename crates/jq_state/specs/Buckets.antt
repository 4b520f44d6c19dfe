-- The buckets in which the program's bindings are found: all bindings with one name and one count are in one bucket.
use Rattle.std.specs.Prelude.{ℕ, ◌+◌, ◌-◌, ◌*◌, ◌%◌, List, length, slice_index_or, string_bytes}
use Rattle.jq_state.specs.declared.environments.ProgramBinding.{ProgramBinding}
use Rattle.jq_state.specs.declared.environments.ProgramBinding.TheVariants as program

-- computed from a name's bytes and a count of parameters
abbrev pub bucket : List ℕ → (count : ℕ) → ℕ
bucket name count = (31 * (length name % 128) + 2 * slice_index_or name 0 0 + 11 * slice_index_or name (length name - 1) 0 + 16 * (count % 8)) % 128

abbrev pub bucket_of : ProgramBinding → ℕ
bucket_of (program.Value name value) = bucket (string_bytes name) 7
bucket_of (program.Function f) = bucket (string_bytes f.name) (length f.parameters.items)
