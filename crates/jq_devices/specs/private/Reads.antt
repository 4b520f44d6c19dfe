-- What a read takes from the bytes that are left, and which file is opened next.
use Rattle.std.specs.Prelude.{◌≡◌, ℕ, List, [], ◌∷◌, Bool, true, false, take, Option, Result, MatchResult}
use Rattle.std.specs.Io.KnownBytes.{Consumes, Keeps}
use Rattle.jq_devices.specs.Files.{unopened}
use Rattle.jq_devices.specs.declared.reader.FileReader.{FileReader}

-- The bytes that were read into the buffer are no longer left; after an error all bytes are left.
abbrev pub Gives : {E : Type 0} → (old new : Option (List ℕ)) → Result ℕ E → (buf : List ℕ) → Type 0
Gives old new r buf = MatchResult r (λ len. Consumes old new (take len buf)) (λ _. Keeps old new)

-- The next file was opened, or there is none.
abbrev pub IsNext : {O F : Type 0} → (is_there : Bool) → (old new : FileReader O F) → Type 0
IsNext true old new = (name : List ℕ) × (unopened old ≡ name ∷ unopened new)
IsNext false old new = (unopened old ≡ []) × (new ≡ old)
