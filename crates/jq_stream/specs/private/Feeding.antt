-- What a cutter was fed of an input.
use Rattle.std.specs.Prelude.{◌≡◌, ◌≢◌, ◌≤◌, ◌+◌, ℕ, Bool, true, false, List, ◌++◌, length, Option}
use Rattle.std.specs.Io.KnownBytes.{Consumes, Keeps, IsAtEnd}
use Rattle.jv_data.specs.Value.{Value}
use Rattle.jv_text.specs.Cutting.{HasGiven, is_finished, fed_count}
use Rattle.jv_text.specs.declared.cutting.Cutter.{Cutter}
use Rattle.jq_devices.specs.Watched.{HasFailed}
use Rattle.jq_devices.specs.declared.faults.StreamFault.{StreamFault}
use Rattle.jq_devices.specs.declared.faults.StreamFault.TheVariants.{Read, Write}

-- The next bytes that the input had left, at most so many, were fed to the cutter, or the input has ended.
pub record IsFed (ended : Bool) (room : ℕ) (remaining_old remaining_new : Option (List ℕ)) (old new : Cutter) : Type 0 where
  pub given : (given : List Value) (fed : List ℕ) → HasGiven old given fed
      → (bytes : List ℕ) × Consumes remaining_old remaining_new bytes × HasGiven new given (fed ++ bytes) × (length bytes ≤ room)
  pub finished : is_finished new ≡ ended
  pub at_end : ended ≡ true → IsAtEnd remaining_new
  pub count : ended ≡ false → fed_count new ≤ fed_count old + room

-- The next bytes, at most so many, were perhaps read and not fed. After a read fault none was read, and the reader has failed. There is
-- no write fault.
pub record IsUnfed (fault : StreamFault) (room : ℕ) (remaining_old remaining_new : Option (List ℕ)) (failures_old failures_new : ℕ) : Type 0 where
  pub lost : (bytes : List ℕ) × Consumes remaining_old remaining_new bytes × (length bytes ≤ room)
  pub unread : fault ≡ Read → Keeps remaining_old remaining_new
  pub failed : fault ≡ Read → HasFailed failures_old failures_new
  pub unwritten : fault ≢ Write
