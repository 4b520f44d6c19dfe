use Rattle.std.proofs.Common.{◌≡◌, ◌≢◌, ◌++◌, ℕ, List}
use Rattle.std.specs.List.{All}
use Rattle.jq_devices.specs.Notes.{note_start}
use Rattle.jq_devices.proofs.notes.note_line.Given as goal

-- the text up to here
abbrev pub invariant-loop-byte : goal.invariant-loop-byte
invariant-loop-byte l = (text : List ℕ) × (l.line.items ≡ note_start ++ text) × All (λ c. c ≢ 10) text
