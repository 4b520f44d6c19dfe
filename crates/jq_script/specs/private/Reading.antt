-- The requests that the code's types represent, and the line that is being read.
use Rattle.std.specs.Prelude.{◌≡◌, ◌≢◌, ℕ, List, ◌∷◌, ◌++◌, Option, Some, None, MatchOption, All}
use Rattle.std.specs.Borrow.{Bor}
use Rattle.jq_script.specs.Requests as requests
use Rattle.jq_script.specs.declared.requests.Change.{Change}
use Rattle.jq_script.specs.declared.requests.Change.TheVariants as change
use Rattle.jq_script.specs.declared.requests.Instruction.{Instruction}
use Rattle.jq_script.specs.declared.requests.Instruction.TheVariants as instruction
use Rattle.jq_script.specs.declared.requests.Request.{Request}
use Rattle.jq_script.specs.declared.requests.Request.TheVariants as request

abbrev pub change_in : Change → requests.Change
change_in (change.Insert k) = requests.insert k
change_in (change.Replace k) = requests.replace k
change_in change.Append = requests.append

abbrev pub request_in : Request → requests.Request
request_in (request.Change c text) = requests.change (change_in c) text.now
request_in (request.Remove k) = requests.remove k
request_in (request.Move k l) = requests.move k l
request_in request.Show = requests.show
request_in request.Errors = requests.errors
request_in request.Status = requests.status
request_in request.Unknown = requests.unknown

abbrev pub instruction_in : Instruction → requests.Instruction
instruction_in (instruction.Request r) = requests.request (request_in r)
instruction_in (instruction.Filter text) = requests.filter text.now

-- the bytes before and after the first occurrence of a byte
abbrev pub IsAround : ℕ → List ℕ → Option (Bor (List ℕ) × Bor (List ℕ)) → Type 0
IsAround byte bytes r = MatchOption r (All (λ b. b ≢ byte) bytes) (λ p. (bytes ≡ p.0.now ++ byte ∷ p.1.now) × All (λ b. b ≢ byte) p.0.now)

-- the request for an edit with the number and the text that were read, if they could be read
abbrev pub changing : (ℕ → requests.Change) → Option (ℕ × Bor (List ℕ)) → requests.Request
changing edit None = requests.unknown
changing edit (Some p) = requests.change (edit p.0) p.1.now

-- the request for a move with the numbers that were read, if they could be read
abbrev pub moving : Option (ℕ × ℕ) → requests.Request
moving None = requests.unknown
moving (Some p) = requests.move p.0 p.1
