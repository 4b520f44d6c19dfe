-- What is answered of a piece of a script.
use Rattle.std.specs.Prelude.{ℕ, List, ◌++◌, Bool, Option}
use Rattle.jq_devices.specs.Watched.{device_of}
use Rattle.jq_devices.specs.declared.watched.Watched.{Watched}
use Rattle.jq_script.specs.Serving.{Answers, AnswersFirst, Progress, point_of, progress}
use Rattle.jq_script.specs.private.Lines.{AreLines, AreLinesFirst, HasNoNewline, HasRead}
use Rattle.jq_script.specs.declared.host.Host.{Host}
use Rattle.jq_script.specs.declared.lines.Line.{Line}

-- how far the answers are on a writer, by what it has
abbrev pub progress_of : {W : Type 0} → (written : W → Option (List ℕ)) → Watched W → Host → Progress
progress_of written output host = progress (written (device_of output)) (point_of host)

-- The lines that end in these bytes were answered, and the bytes after them begin the next line.
abbrev pub AnswersBytes : (follow : Bool) → (bytes : List ℕ) → (line_old line_new : Line) → (old new : Progress) → Type 0
AnswersBytes follow bytes line_old line_new old new =
    (begun : List ℕ) → HasNoNewline begun → HasRead line_old begun
    → (whole : List (List ℕ)) × (last : List ℕ) × AreLines (begun ++ bytes) whole last × HasRead line_new last × Answers follow whole old new

-- The first of the lines that end in these bytes were answered, and the first bytes of their answers were written.
abbrev pub AnswersBytesFirst : (follow : Bool) → (bytes : List ℕ) → (line : Line) → (old new : Progress) → Type 0
AnswersBytesFirst follow bytes line old new =
    (begun : List ℕ) → HasNoNewline begun → HasRead line begun
    → (served : List (List ℕ)) × AreLinesFirst (begun ++ bytes) served × AnswersFirst follow served old new
