-- Where the notes are in the bytes on a writer that takes notes.
use Rattle.std.specs.Prelude.{◌-◌, ℕ, List, [], ◌∷◌, ◌++◌, Option, length, take, drop}
use Rattle.std.specs.Option.{option_map}
use Rattle.jq_devices.specs.declared.notes.NotePlace.{NotePlace}

-- the bytes without the notes at these places, the last note first, if `after` bytes come after it
abbrev pub without : (after : ℕ) → List NotePlace → List ℕ → List ℕ
without after [] bytes = bytes
without after (p ∷ ps) bytes = without p.before ps (take (length bytes - after - p.len) bytes) ++ drop (length bytes - after) bytes

abbrev pub plain_of : (after : ℕ) → List NotePlace → Option (List ℕ) → Option (List ℕ)
plain_of after places noted = option_map (without after places) noted
