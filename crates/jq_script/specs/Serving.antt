-- What a script reads and writes, and the session that it serves. `follow` says whether `--follow` was given.
use Rattle.std.specs.Prelude.{◌≡◌, ◌⊎◌, ◌≤◌, ℕ, List, ◌+◌, ◌++◌, length, Bool, Option, Some, None}
use Rattle.std.specs.Io.KnownBytes.{Appends, Consumes, IsAtEnd}
use Rattle.jq_devices.specs.Watched.{device_of}
use Rattle.jq_devices.specs.Writing.{AppendsFirst, AppendsMore}
use Rattle.jq_devices.specs.declared.faults.StreamFault.{StreamFault}
use Rattle.jq_devices.specs.declared.faults.StreamFault.TheVariants.{Read, Write, NoMemory}
use Rattle.jq_devices.specs.Reading.{IsWhole}
use Rattle.jq_devices.specs.declared.watched.Watched.{Watched}
use Rattle.jq_starts.specs.Starts.{starts_in}
use Rattle.jq_starts.specs.declared.starts.Starts.{Starts}
use Rattle.jq_session.specs.Sessions.{options_of, starts_of, state_of}
use Rattle.jq_script.specs.Lines.{lines, whole_lines}
use Rattle.jq_script.specs.Script.{AreAnswers, Point, point}
use Rattle.jq_script.specs.declared.host.Host.{Host}

-- the count of starts for the next filter
abbrev pub spare_starts : Option Starts → ℕ
spare_starts (Some starts) = starts_in starts
spare_starts None = 0

-- The point of a session and a spare count. Another filter counts in the spare one, and that of the old filter becomes the spare one;
-- so the starts of all filters are the sum of both.
abbrev pub point_of : Host → Point
point_of s = point (options_of s.session) (state_of s.session) (starts_of s.session + spare_starts s.spare)

-- the bytes on the output, if the writer's bytes are known, and the point of the session
pub record Progress : Type 0 where
  pub output : Option (List ℕ)
  pub point : Point

-- the bytes that the input has left, if they are known, and how far the answers are
pub record Serving : Type 0 where
  pub remaining : Option (List ℕ)
  pub progress : Progress

abbrev pub progress : Option (List ℕ) → Point → Progress
progress output p = record { output = output; point = p }

abbrev pub serving : Option (List ℕ) → Option (List ℕ) → Point → Serving
serving remaining output p = record { remaining = remaining; progress = progress output p }

-- the same for a reader and a writer, by what each has
abbrev pub serving_of : {R W : Type 0} → (left : R → Option (List ℕ)) → (written : W → Option (List ℕ)) → Watched R → Watched W → Host → Serving
serving_of left written input output host = serving (left (device_of input)) (written (device_of output)) (point_of host)

-- The answers to these lines were written, and the session is at the point after them.
pub record Answers (follow : Bool) (lines : List (List ℕ)) (old new : Progress) : Type 0 where
  pub answers : List ℕ
  pub are_answers : AreAnswers follow lines old.point answers new.point
  pub written : Appends old.output new.output answers

-- The same, but only the first bytes of the answers were written.
pub record AnswersFirst (follow : Bool) (lines : List (List ℕ)) (old new : Progress) : Type 0 where
  pub answers : List ℕ
  pub are_answers : AreAnswers follow lines old.point answers new.point
  pub written : AppendsFirst old.output new.output answers

-- The whole script was read and answered.
pub record IsServed (follow : Bool) (old new : Serving) : Type 0 where
  pub script : List ℕ
  pub whole : IsWhole script old.remaining
  pub ended : IsAtEnd new.remaining
  pub answered : Answers follow (lines script) old.progress new.progress

-- ---- the end by a fault

-- The lines that ended with a newline before a read fault were answered.
pub record IsReadStopped (follow : Bool) (old new : Serving) : Type 0 where
  pub read : List ℕ
  pub consumed : Consumes old.remaining new.remaining read
  pub answered : Answers follow (whole_lines read) old.progress new.progress

-- the lines of the whole script, or the complete lines of what was read of it
abbrev pub AreFound : List (List ℕ) → (old new : Serving) → Type 0
AreFound found old new =
    ((script : List ℕ) × IsWhole script old.remaining × (found ≡ lines script))
    ⊎ ((read : List ℕ) × Consumes old.remaining new.remaining read × (found ≡ whole_lines read))

-- The first of these lines were answered, and the first bytes of their answers were written.
pub record IsWriteStopped (follow : Bool) (old new : Serving) : Type 0 where
  pub served : List (List ℕ)
  pub others : List (List ℕ)
  pub found : AreFound (served ++ others) old new
  pub answered : AnswersFirst follow served old.progress new.progress

-- The bytes that were read are `before` and a last piece of at most 65,536 bytes. The answers to the lines that end in `before`
-- were written; more may follow them. So the lines that end in a piece are answered before the next piece is read.
pub record IsOnePass (follow : Bool) (old new : Serving) : Type 0 where
  pub before : List ℕ
  pub piece : List ℕ
  pub consumed : Consumes old.remaining new.remaining (before ++ piece)
  pub small : length piece ≤ 65536
  pub answers : List ℕ
  pub between : Point
  pub are_answers : AreAnswers follow (whole_lines before) old.progress.point answers between
  pub written : AppendsMore old.progress.output new.progress.output answers

-- what holds after each fault
abbrev pub IsStopped : (follow : Bool) → StreamFault → (old new : Serving) → Type 0
IsStopped follow Read old new = IsReadStopped follow old new
IsStopped follow Write old new = IsWriteStopped follow old new
IsStopped follow NoMemory old new = IsWriteStopped follow old new
