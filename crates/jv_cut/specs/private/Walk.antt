-- How the bytes of a block are looked at. For private contracts.
use Rattle.std.specs.Prelude.{◌≡◌, ℕ, ◌+◌, ◌<◌, ◌≤◌, List, get_or, Bool, false}
use Rattle.std.specs.Int.{bit_at}
use Rattle.jv_cut.specs.Bytes.{is_quote, is_backslash, opens, closes}
use Rattle.jv_cut.specs.private.Scan.{Scanned, Finds}
use Rattle.jv_cut.specs.declared.nesting.Quote.{Quote}
use Rattle.jv_cut.specs.declared.nesting.Quote.TheVariants.{Outside, Inside, Escaped}
use Rattle.jv_cut.specs.declared.scanning.Scan.TheVariants.{Nested}
use Rattle.jv_cut.specs.declared.scanning.Walked.{Walked}
use Rattle.jv_cut.specs.declared.scanning.Walked.TheVariants.{Stopped, Open}

-- no quote, backslash or bracket
pub record IsUnmarked (x : ℕ) : Type 0 where
  pub quote : is_quote x ≡ false
  pub backslash : is_backslash x ≡ false
  pub opening : opens x ≡ false
  pub closing : closes x ≡ false

-- a byte of the block whose bit is not set is unmarked
pub record AreMarked (bits : ℕ) (bytes : List ℕ) (at : ℕ) : Type 0 where
  pub unmarked : (k : ℕ) → k < 64 → bit_at bits k ≡ 0 → IsUnmarked (get_or bytes (at + k) 0)

abbrev pub IsUnescaped : Quote → Type 0
IsUnescaped Outside = Unit {0}
IsUnescaped Inside = Unit {0}
IsUnescaped Escaped = ⊥

-- the bits of the bytes between two places are not set, and none of these bytes is escaped
pub record ArePassed (bits : ℕ) (quote : Quote) (from to : ℕ) : Type 0 where
  pub passed : (k : ℕ) → from ≤ k → k < to → (bit_at bits k ≡ 0) × IsUnescaped quote

-- what the block at a position led to
abbrev pub Walks : Walked → List ℕ → ℕ → Type 0
Walks (Stopped found) bytes at = (ended : Bool) → Finds found bytes ended
Walks (Open nest) bytes at = Scanned (Nested (at + 64) nest) bytes
