-- Notes: lines that a writer puts between the lines that are written to it, and that are none of its contents.
use Rattle.std.specs.Prelude.{◌≡◌, ◌≢◌, ◌⊎◌, ℕ, List, [], ◌∷◌, ◌++◌, Bool, true, false, Option, codes}
use Rattle.std.specs.List.{All}
use Rattle.std.specs.Io.KnownBytes.{Appends, Keeps}
use Rattle.jq_devices.specs.Faults.{line}

-- the beginning of a note
abbrev pub note_start : List ℕ
note_start = codes "jq: note: "

-- A line that begins so, with no newline inside.
pub record IsNote (bytes : List ℕ) : Type 0 where
  pub text : List ℕ
  pub one_line : All (λ c. c ≢ 10) text
  pub is : bytes ≡ line (note_start ++ text)

-- the last of these bytes, if `last` comes before them
abbrev pub last_byte : ℕ → List ℕ → ℕ
last_byte last [] = last
last_byte last (x ∷ xs) = last_byte x xs

-- Two texts that begin as the same text. Then bytes were added to both, and notes to the second one alone, each of them after a newline.
-- `last` is the last byte that was added, or 0.
pub data AreNoted : (last : ℕ) → (plain noted : Option (List ℕ)) → Type 0 where
  start : (text : Option (List ℕ)) → AreNoted 0 text text
  bytes_added : (last : ℕ) (plain noted plain_new noted_new : Option (List ℕ)) (added : List ℕ) → AreNoted last plain noted
      → Appends plain plain_new added → Appends noted noted_new added → AreNoted (last_byte last added) plain_new noted_new
  note_added : (plain noted plain_new noted_new : Option (List ℕ)) (added : List ℕ) → AreNoted 10 plain noted → IsNote added
      → Keeps plain plain_new → Appends noted noted_new added → AreNoted 10 plain_new noted_new

-- Two such texts, and then the first bytes of a note in the second one.
pub record AreCutOff (plain noted : Option (List ℕ)) : Type 0 where
  pub before : Option (List ℕ)
  pub before_noted : Option (List ℕ)
  pub whole : AreNoted 10 before before_noted
  pub front : List ℕ
  pub back : List ℕ
  pub is_note : IsNote (front ++ back)
  pub kept : Keeps before plain
  pub added : Appends before_noted noted front

-- The contents of a writer, and the bytes on it: the same with notes. If the writer failed, the last note may be cut off.
abbrev pub IsNoted : (failed : Bool) → (plain noted : Option (List ℕ)) → Type 0
IsNoted failed plain noted = ∥ ((last : ℕ) × AreNoted last plain noted) ⊎ ((failed ≡ true) × AreCutOff plain noted) ∥₁

-- What a writer that takes notes keeps: its last note is whole, or it was cut off when the writer failed.
abbrev pub IsKept : (is_cut : Bool) → (last : ℕ) → (failed : Bool) → (plain noted : Option (List ℕ)) → Type 0
IsKept false last failed plain noted = AreNoted last plain noted
IsKept true last failed plain noted = (failed ≡ true) × AreCutOff plain noted
