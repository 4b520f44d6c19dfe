-- A client that keeps the output and the errors of a session by the answers that it reads (`--follow`).
use Rattle.std.specs.Prelude.{◌≡◌, ◌==◌, ◌||◌, ◌<◌, ◌+◌, ◌^◌, ℕ, zero, suc, List, [], ◌∷◌, ◌++◌, codes, drop, length, take, true, Ok, if◌then◌else◌}
use Rattle.std.specs.List.{replace_range}
use Rattle.std.specs.Str.{bytes_eq}
use Rattle.std.specs.Str.Parse.{digits_value}
use Rattle.jq_pages.specs.Edits.{remove}
use Rattle.jq_session.specs.States.{State, after, outcome}
use Rattle.jq_script.specs.Requests.{Instruction, request, move, instruction_of}
use Rattle.jq_script.specs.Script.{AreAnswers, Point}

-- ---- the parts of an answer

-- the bytes before the first such byte, and those after it
abbrev pub up_to : ℕ → List ℕ → List ℕ
up_to b [] = []
up_to b (x ∷ xs) = if x == b then [] else x ∷ up_to b xs

abbrev pub past : ℕ → List ℕ → List ℕ
past b [] = []
past b (x ∷ xs) = if x == b then xs else past b xs

-- the number before the first such byte
abbrev pub number : ℕ → List ℕ → ℕ
number b bytes = digits_value 10 (up_to b bytes)

-- a place, how many bytes go from there, how many come, and these: those that come, and the bytes after them
abbrev pub come : List ℕ → List ℕ
come told = let count = past 32 (past 32 told) in take (number 10 count) (past 10 count)

abbrev pub after_splice : List ℕ → List ℕ
after_splice told = let count = past 32 (past 32 told) in drop (number 10 count) (past 10 count)

-- the old bytes with this change
abbrev pub changed : (told old : List ℕ) → List ℕ
changed told old = replace_range old (number 32 told) (number 32 told + number 32 (past 32 told)) (come told)

-- ---- the client

pub record Client : Type 0 where
  pub output : List ℕ
  pub errors : List ℕ

-- what the client keeps after a splice of the output and one of the errors, each with a word before it, and the bytes after them
abbrev pub heard_pair : (told : List ℕ) → Client → Client
heard_pair told c = let out = past 32 told in record { output = changed out c.output; errors = changed (past 32 (after_splice out)) c.errors }

abbrev pub after_pair : List ℕ → List ℕ
after_pair told = after_splice (past 32 (after_splice (past 32 told)))

-- How many such pairs come after a line `ok S`: a move is told as its removal and its insertion.
abbrev pub pairs : Instruction → ℕ
pairs (request (move k l)) = 2
pairs _ = 1

abbrev pub heard_pairs : (count : ℕ) → (told : List ℕ) → Client → Client
heard_pairs zero told c = c
heard_pairs (suc n) told c = heard_pairs n (after_pair told) (heard_pair told c)

abbrev pub after_pairs : (count : ℕ) → (told : List ℕ) → List ℕ
after_pairs zero told = told
after_pairs (suc n) told = after_pairs n (after_pair told)

-- What the client keeps after an answer, by its first word and the bytes after that.
abbrev pub heard_by : (count : ℕ) → (word told : List ℕ) → Client → Client
heard_by n word told c = if bytes_eq word (codes "ok") then heard_pairs n (past 10 told) c else c

-- the bytes after the answer
abbrev pub unheard_by : (count : ℕ) → (word told : List ℕ) → List ℕ
unheard_by n word told =
    if bytes_eq word (codes "ok") then after_pairs n (past 10 told)
    else (if bytes_eq word (codes "out") || bytes_eq word (codes "err") then drop (number 10 told) (past 10 told) else past 10 told)

abbrev pub heard : (count : ℕ) → List ℕ → Client → Client
heard n answers c = heard_by n (up_to 32 answers) (past 32 answers) c

abbrev pub unheard : (count : ℕ) → List ℕ → List ℕ
unheard n answers = unheard_by n (up_to 32 answers) (past 32 answers)

-- one answer for each line
abbrev pub hears : (lines : List (List ℕ)) → (answers : List ℕ) → Client → Client
hears [] answers c = c
hears (line ∷ lines) answers c = let n = pairs (instruction_of line) in hears lines (unheard n answers) (heard n answers c)

-- the output and the errors of runs from scratch
abbrev pub client_at : State → Client
client_at s = record { output = (outcome s).output; errors = (outcome s).errors }

-- The numbers of answers in this state have at most 64 digits.
pub record IsShort (s : State) : Type 0 where
  pub output : length (outcome s).output < 10 ^ 64
  pub errors : length (outcome s).errors < 10 ^ 64
  pub status : (outcome s).status < 10 ^ 64

-- the same after the removal of any input, with which a move begins
abbrev pub IsShortWithout : State → Type 0
IsShortWithout s = (k : ℕ) (t : State) → after (remove k) s ≡ Ok t → IsShort t

-- the same for all states to which the first of these lines lead
abbrev pub AreShort : (lines : List (List ℕ)) → Point → Type 0
AreShort lines first =
    (some others : List (List ℕ)) (answers : List ℕ) (p : Point) → some ++ others ≡ lines → AreAnswers true some first answers p → IsShort p.state × IsShortWithout p.state

-- A client that has the output and the errors of runs from scratch on the first inputs has those of the present inputs after the
-- answers to any lines.
abbrev pub KeepsUp : Type 0
KeepsUp = (lines : List (List ℕ)) (first last : Point) (answers : List ℕ) → AreAnswers true lines first answers last → AreShort lines first
    → hears lines answers (client_at first.state) ≡ client_at last.state
