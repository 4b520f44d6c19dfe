-- The bytes of answers.
use Rattle.std.specs.Prelude.{ℕ, List, [], ◌∷◌, ◌++◌, length, codes}
use Rattle.std.specs.Fmt.{decimal}
use Rattle.jq_pages.specs.declared.splices.Splice.{Splice}
use Rattle.jq_session.specs.declared.splices.Follow.{Follow}

-- a word, a number and a newline
abbrev pub answer_line : (word : List ℕ) → ℕ → List ℕ
answer_line word n = word ++ (32 ∷ []) ++ decimal n ++ (10 ∷ [])

-- an edit was made, and this is the status after it
abbrev pub ok_answer : ℕ → List ℕ
ok_answer status = answer_line (codes "ok") status

abbrev pub refused_answer : ℕ → List ℕ
refused_answer refusal = answer_line (codes "refused") refusal

abbrev pub status_answer : ℕ → List ℕ
status_answer status = answer_line (codes "status") status

-- the number of bytes, and the bytes; nothing is added after them
abbrev pub out_answer : List ℕ → List ℕ
out_answer bytes = answer_line (codes "out") (length bytes) ++ bytes

abbrev pub err_answer : List ℕ → List ℕ
err_answer bytes = answer_line (codes "err") (length bytes) ++ bytes

-- ---- what an edit changed

abbrev pub spaced : ℕ → List ℕ
spaced n = 32 ∷ decimal n

-- a word, a place, how many bytes go from there, how many come, and these bytes; nothing is added after them
abbrev pub splice_answer : (word : List ℕ) → Splice → List ℕ
splice_answer word s = word ++ spaced s.at ++ spaced s.cut ++ spaced (length s.put.items) ++ (10 ∷ []) ++ s.put.items

-- the splice of the output, and the one of the errors
abbrev pub changes : Follow → List ℕ
changes f = splice_answer (codes "out") f.out ++ splice_answer (codes "err") f.err
