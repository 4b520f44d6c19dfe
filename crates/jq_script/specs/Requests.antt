-- What a line of a script asks for.
use Rattle.std.specs.Prelude.{ℕ, List, [], ◌∷◌, Bool, ◌==◌, ◌&&◌, nat_le, nat_lt, length, codes, if◌then◌else◌, Option, Some, None}
use Rattle.std.specs.List.{list_all}
use Rattle.std.specs.Char.{is_ascii_digit}
use Rattle.std.specs.Str.{bytes_eq}
use Rattle.std.specs.Str.Parse.{digits_value}

-- An edit with an input. Inputs are numbered from 0.
pub data Change : Type 0 where
  insert : ℕ → Change  -- in front of the input with this number, or after the last one
  replace : ℕ → Change
  append : Change

-- What is requested of a session with its present filter.
pub data Request : Type 0 where
  change : Change → (text : List ℕ) → Request
  remove : ℕ → Request
  move : (k l : ℕ) → Request  -- input `k` is removed and inserted at place `l` of the shorter list
  show : Request
  errors : Request
  status : Request
  unknown : Request

-- The instruction of a line: such a request, or another filter.
pub data Instruction : Type 0 where
  request : Request → Instruction
  filter : (text : List ℕ) → Instruction

-- ---- the parts of a line

-- the bytes before and after a text's first space
pub record Parts : Type 0 where
  pub word : List ℕ
  pub rest : List ℕ

abbrev pub with_byte : ℕ → Option Parts → Option Parts
with_byte b None = None
with_byte b (Some parts) = Some (record { word = b ∷ parts.word; rest = parts.rest })

abbrev pub around_space : List ℕ → Option Parts
around_space [] = None
around_space (b ∷ bs) = if b == 32 then Some (record { word = []; rest = bs }) else with_byte b (around_space bs)

-- 1 to 19 digits
abbrev pub is_place : List ℕ → Bool
is_place part = nat_le 1 (length part) && nat_le (length part) 19 && list_all is_ascii_digit part

-- the number of an input that a part of a line is
abbrev pub place_of : List ℕ → Option ℕ
place_of part = if is_place part then Some (digits_value 10 part) else None

-- ---- the requests

abbrev pub remove_at : Option ℕ → Request
remove_at (Some k) = remove k
remove_at None = unknown

abbrev pub change_at : (ℕ → Change) → Option ℕ → (text : List ℕ) → Request
change_at edit (Some k) text = change (edit k) text
change_at edit None text = unknown

-- a number, exactly one space, and a text
abbrev pub change_by : (ℕ → Change) → Option Parts → Request
change_by edit (Some parts) = change_at edit (place_of parts.word) parts.rest
change_by edit None = unknown

abbrev pub move_at : (k l : Option ℕ) → Request
move_at (Some k) (Some l) = move k l
move_at (Some k) None = unknown
move_at None l = unknown

-- a number, exactly one space, and a number
abbrev pub move_by : Option Parts → Request
move_by (Some parts) = move_at (place_of parts.word) (place_of parts.rest)
move_by None = unknown

-- a word, exactly one space, and the rest
abbrev pub command : (word rest : List ℕ) → Request
command word rest =
    if bytes_eq word (codes "insert") then change_by insert (around_space rest)
    else (if bytes_eq word (codes "replace") then change_by replace (around_space rest)
    else (if bytes_eq word (codes "remove") then remove_at (place_of rest)
    else (if bytes_eq word (codes "move") then move_by (around_space rest)
    else (if bytes_eq word (codes "append") then change append rest
    else unknown))))

abbrev pub word_alone : List ℕ → Request
word_alone word =
    if bytes_eq word (codes "show") then show
    else (if bytes_eq word (codes "errors") then errors
    else (if bytes_eq word (codes "status") then status
    else unknown))

-- ---- the instruction

-- a word, exactly one space, and the rest
abbrev pub instruction_with : (word rest : List ℕ) → Instruction
instruction_with word rest = if bytes_eq word (codes "filter") then filter rest else request (command word rest)

-- the instruction of a line by its parts around the first space, if it has a space
abbrev pub instruction_by : List ℕ → Option Parts → Instruction
instruction_by line (Some parts) = instruction_with parts.word parts.rest
instruction_by line None = request (word_alone line)

-- the most bytes of a line, its newline not counted
abbrev pub line_limit : ℕ
line_limit = 16777216

abbrev pub instruction_of : List ℕ → Instruction
instruction_of line = if nat_lt line_limit (length line) then request unknown else instruction_by line (around_space line)
