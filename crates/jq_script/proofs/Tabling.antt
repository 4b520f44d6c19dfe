-- The table of a script's lines.
use Rattle.std.proofs.Common.{◌≡◌, ◌≢◌, ◌⊎◌, ◌==◌, ◌≤◌, cond, not, nat_lt, ℕ, Bool, true, false, List, [], ◌∷◌, length, Option, Some, None, inl, inr, refl, sym, ap, ◌∙◌, subst}
use Rattle.std.specs.Prelude.{codes}
use Rattle.std.specs.Char.{is_ascii_digit}
use Rattle.std.specs.List.{list_all}
use Rattle.std.specs.Str.{bytes_eq}
use Rattle.std.specs.Str.Parse.{digits_value}
use Rattle.std.proofs.lemmas.Bool.{and_parts, eqb-true, eq-eqb, both_ways, not-true, false≢true}
use Rattle.std.proofs.lemmas.List.Sums.{AllPass-from_list_all}
use Rattle.std.proofs.lemmas.Slice.Eq.{bytes_eq-Decides}
use Rattle.jq_script.specs.Requests.{Parts, Request, Change, change, remove, move, show, errors, status, unknown, insert, replace, append, Instruction, request, filter, place_of, is_place, line_limit, instruction_of, instruction_by, instruction_with, around_space, with_byte, command, word_alone, change_by, change_at, move_by, move_at, remove_at}
use Rattle.jq_script.specs.laws.Table.{AsksFor, Gives, Writes, parted}
use Rattle.jq_script.proofs.Asking.{HasNoSpace, asked, asked_alone, changing_by, moving_by}

-- ---- the bytes before and after a space

abbrev IsAt : List ℕ → Option Parts → Type 0
IsAt line None = Unit {0}
IsAt line (Some p) = line ≡ parted p.word p.rest

at_byte : (b : ℕ) (bs : List ℕ) (found : Option Parts) → IsAt bs found → IsAt (b ∷ bs) (with_byte b found)
at_byte b bs None h = tt
at_byte b bs (Some p) h = ap (λ l. b ∷ l) h

at_either : (t : Bool) (b : ℕ) (bs : List ℕ) (found : Option Parts) → (t ≡ true → b ≡ 32) → IsAt bs found
    → IsAt (b ∷ bs) (cond t (Some (record { word = []; rest = bs })) (with_byte b found))
at_either true b bs found is h = ap (λ x. x ∷ bs) (is refl)
at_either false b bs found is h = at_byte b bs found h

parts_at : (line : List ℕ) → IsAt line (around_space line)
parts_at [] = tt
parts_at (b ∷ bs) = at_either (b == 32) b bs (around_space bs) (eqb-true b 32) (parts_at bs)

-- ---- a line that is a request is in the table

abbrev IsTold : Request → List ℕ → Type 0
IsTold r line = (r ≡ unknown) ⊎ AsksFor r line

tested : (t : Bool) (a b : Request) (line : List ℕ) → (t ≡ true → IsTold a line) → IsTold b line → IsTold (cond t a b) line
tested true a b line here later = here refl
tested false a b line here later = later

told_alone : (word : List ℕ) → IsTold (word_alone word) word
told_alone word =
    tested (bytes_eq word (codes "show")) show _ word (λ e. inr ((bytes_eq-Decides word (codes "show")).0 e))
    (tested (bytes_eq word (codes "errors")) errors _ word (λ e. inr ((bytes_eq-Decides word (codes "errors")).0 e))
    (tested (bytes_eq word (codes "status")) status unknown word (λ e. inr ((bytes_eq-Decides word (codes "status")).0 e)) (inl refl)))

removing : (digits line : List ℕ) (k : Option ℕ) → k ≡ place_of digits → line ≡ parted (codes "remove") digits → IsTold (remove_at k) line
removing digits line None e is = inl refl
removing digits line (Some k) e is = inr (digits, sym e, is)

inserting_at : (digits text line : List ℕ) (k : Option ℕ) → k ≡ place_of digits → line ≡ parted (codes "insert") (parted digits text) → IsTold (change_at insert k text) line
inserting_at digits text line None e is = inl refl
inserting_at digits text line (Some k) e is = inr (digits, sym e, is)

inserting : (rest line : List ℕ) (found : Option Parts) → IsAt rest found → line ≡ parted (codes "insert") rest → IsTold (change_by insert found) line
inserting rest line None at is = inl refl
inserting rest line (Some p) at is = inserting_at p.word p.rest line (place_of p.word) refl (is ∙ ap (parted (codes "insert")) at)

replacing_at : (digits text line : List ℕ) (k : Option ℕ) → k ≡ place_of digits → line ≡ parted (codes "replace") (parted digits text) → IsTold (change_at replace k text) line
replacing_at digits text line None e is = inl refl
replacing_at digits text line (Some k) e is = inr (digits, sym e, is)

replacing : (rest line : List ℕ) (found : Option Parts) → IsAt rest found → line ≡ parted (codes "replace") rest → IsTold (change_by replace found) line
replacing rest line None at is = inl refl
replacing rest line (Some p) at is = replacing_at p.word p.rest line (place_of p.word) refl (is ∙ ap (parted (codes "replace")) at)

moving_at : (from to line : List ℕ) (k l : Option ℕ) → k ≡ place_of from → l ≡ place_of to → line ≡ parted (codes "move") (parted from to) → IsTold (move_at k l) line
moving_at from to line None l e f is = inl refl
moving_at from to line (Some k) None e f is = inl refl
moving_at from to line (Some k) (Some l) e f is = inr (from, to, sym e, sym f, is)

moving : (rest line : List ℕ) (found : Option Parts) → IsAt rest found → line ≡ parted (codes "move") rest → IsTold (move_by found) line
moving rest line None at is = inl refl
moving rest line (Some p) at is = moving_at p.word p.rest line (place_of p.word) (place_of p.rest) refl refl (is ∙ ap (parted (codes "move")) at)

begun : (line word rest text : List ℕ) → line ≡ parted word rest → bytes_eq word text ≡ true → line ≡ parted text rest
begun line word rest text is e = is ∙ ap (λ w. parted w rest) ((bytes_eq-Decides word text).0 e)

told_command : (line word rest : List ℕ) → line ≡ parted word rest → IsTold (command word rest) line
told_command line word rest is =
    tested (bytes_eq word (codes "insert")) (change_by insert (around_space rest)) _ line
    (λ e. inserting rest line (around_space rest) (parts_at rest) (begun line word rest (codes "insert") is e))
    (tested (bytes_eq word (codes "replace")) (change_by replace (around_space rest)) _ line
    (λ e. replacing rest line (around_space rest) (parts_at rest) (begun line word rest (codes "replace") is e))
    (tested (bytes_eq word (codes "remove")) (remove_at (place_of rest)) _ line
    (λ e. removing rest line (place_of rest) refl (begun line word rest (codes "remove") is e))
    (tested (bytes_eq word (codes "move")) (move_by (around_space rest)) _ line
    (λ e. moving rest line (around_space rest) (parts_at rest) (begun line word rest (codes "move") is e))
    (tested (bytes_eq word (codes "append")) (change append rest) unknown line (λ e. inr (begun line word rest (codes "append") is e)) (inl refl)))))

-- ---- a line that gives an instruction is in the table

abbrev IsGiven : Instruction → List ℕ → Type 0
IsGiven i line = (i ≡ request unknown) ⊎ Gives i line

given_either : (t : Bool) (a b : Instruction) (line : List ℕ) → (t ≡ true → IsGiven a line) → IsGiven b line → IsGiven (cond t a b) line
given_either true a b line here later = here refl
given_either false a b line here later = later

given_request : (r : Request) (line : List ℕ) → IsTold r line → IsGiven (request r) line
given_request r line (inl e) = inl (ap request e)
given_request r line (inr h) = inr h

given_with : (line word rest : List ℕ) → line ≡ parted word rest → IsGiven (instruction_with word rest) line
given_with line word rest is =
    given_either (bytes_eq word (codes "filter")) (filter rest) (request (command word rest)) line (λ e. inr (begun line word rest (codes "filter") is e))
    (given_request (command word rest) line (told_command line word rest is))

given_in : (line : List ℕ) (found : Option Parts) → IsAt line found → IsGiven (instruction_by line found) line
given_in line None at = given_request (word_alone line) line (told_alone line)
given_in line (Some p) at = given_with line p.word p.rest at

given : (line : List ℕ) → length line ≤ line_limit → IsGiven (instruction_of line) line
given line small =
    given_either (nat_lt line_limit (length line)) (request unknown) (instruction_by line (around_space line)) line (λ e. inl refl) (given_in line (around_space line) (parts_at line))

known : (line : List ℕ) (i : Instruction) → i ≢ request unknown → IsGiven i line → Gives i line
known line i other (inl e) = absurd (other e)
known line i other (inr h) = h

pub asks : (line : List ℕ) (i : Instruction) → length line ≤ line_limit → i ≢ request unknown → instruction_of line ≡ i → Gives i line
asks line i small other e = known line i other (subst (λ x. IsGiven x line) e (given line small))

-- ---- a line in the table is this request

spaceless : (bytes : List ℕ) → list_all (λ b. not (b == 32)) bytes ≡ true → HasNoSpace bytes
spaceless bytes e = λ k d i is. both_ways _ (not-true _ (AllPass-from_list_all (λ b. not (b == 32)) bytes e k d i)) (eq-eqb _ 32 is)

-- a digit is not a space
no_space_digit : (b : ℕ) → is_ascii_digit b ≡ true → b ≢ 32
no_space_digit b e is = false≢true (ap is_ascii_digit (sym is) ∙ e)

digits_spaceless : (ds : List ℕ) → list_all is_ascii_digit ds ≡ true → HasNoSpace ds
digits_spaceless ds e = λ k d i. no_space_digit _ (AllPass-from_list_all is_ascii_digit ds e k d i)

some_place : (t : Bool) (n k : ℕ) → cond t (Some n) None ≡ Some k → t ≡ true
some_place true n k e = refl
some_place false n k e = cc

place_spaceless : (digits : List ℕ) (k : ℕ) → Writes digits k → HasNoSpace digits
place_spaceless digits k e =
    let is = some_place (is_place digits) (digits_value 10 digits) k e in
    digits_spaceless digits (and_parts _ _ is).1

changing_at : (edit : ℕ → Change) (digits text : List ℕ) (k : ℕ) → Writes digits k → change_by edit (around_space (parted digits text)) ≡ change (edit k) text
changing_at edit digits text k e = changing_by (parted digits text) digits text (Some k) refl (place_spaceless digits k e) (sym e) edit

moving_between : (from to : List ℕ) (k l : ℕ) → Writes from k → Writes to l → move_by (around_space (parted from to)) ≡ move k l
moving_between from to k l e f = moving_by (parted from to) from to (Some k) (Some l) refl (place_spaceless from k e) (sym e) (sym f)

alone : (line word : List ℕ) → length line ≤ line_limit → line ≡ word → HasNoSpace word → instruction_of line ≡ request (word_alone word)
alone line word small is clean = asked_alone line small (subst HasNoSpace (sym is) clean) ∙ ap (λ w. request (word_alone w)) is

requested : (line : List ℕ) (r : Request) → length line ≤ line_limit → AsksFor r line → instruction_of line ≡ request r
requested line (change (insert k) text) small h =
    asked line (codes "insert") (parted h.0 text) small h.2 (spaceless (codes "insert") refl) ∙ ap request (changing_at insert h.0 text k h.1)
requested line (change (replace k) text) small h =
    asked line (codes "replace") (parted h.0 text) small h.2 (spaceless (codes "replace") refl) ∙ ap request (changing_at replace h.0 text k h.1)
requested line (change append text) small h = asked line (codes "append") text small h (spaceless (codes "append") refl)
requested line (remove k) small h = asked line (codes "remove") h.0 small h.2 (spaceless (codes "remove") refl) ∙ ap (λ o. request (remove_at o)) h.1
requested line (move k l) small h =
    asked line (codes "move") (parted h.0 h.1) small h.4 (spaceless (codes "move") refl) ∙ ap request (moving_between h.0 h.1 k l h.2 h.3)
requested line show small h = alone line (codes "show") small h (spaceless (codes "show") refl)
requested line errors small h = alone line (codes "errors") small h (spaceless (codes "errors") refl)
requested line status small h = alone line (codes "status") small h (spaceless (codes "status") refl)
requested line unknown small h = absurd h

pub asked_for : (line : List ℕ) (i : Instruction) → length line ≤ line_limit → Gives i line → instruction_of line ≡ i
asked_for line (request r) small h = requested line r small h
asked_for line (filter text) small h = asked line (codes "filter") text small h (spaceless (codes "filter") refl)
