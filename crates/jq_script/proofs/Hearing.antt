-- A client that reads answers.
use Rattle.std.proofs.Common.{◌≡◌, ◌==◌, ◌<◌, ◌≤◌, ◌+◌, ◌^◌, cond, ℕ, Bool, true, false, List, [], ◌∷◌, ◌++◌, length, take, drop, codes, Result, Ok, Err, refl, sym, ap, ap₂, ◌∙◌, subst, inl, inr, lit<, lit≤, append_assoc, append-nil, arith}
use Rattle.std.proofs.Math.Seq.{take-append_seam, drop-append_seam}
use Rattle.std.proofs.lemmas.Bool.{eq-eqb, ne_eqb}
use Rattle.std.proofs.lemmas.Fmt.{decimal_is_IsNumeral_wide}
use Rattle.std.proofs.lemmas.List.{length-append}
use Rattle.std.specs.Char.{digit_value}
use Rattle.std.specs.Fmt.{decimal}
use Rattle.std.specs.List.{replace_range}
use Rattle.std.specs.Str.Parse.{AllDigits, digits_value}
use Rattle.jv_data.specs.Value.{Value}
use Rattle.jv_text.specs.declared.faults.Fault.{Fault}
use Rattle.jq_pages.specs.Edits.{Edit, Reason, full, no_place}
use Rattle.jq_pages.specs.Edits as edits
use Rattle.jq_pages.specs.Splices.{IsSplice}
use Rattle.jq_pages.specs.declared.splices.Splice.{Splice}
use Rattle.jq_syntax.specs.Chosen.{Chosen}
use Rattle.jq_syntax.specs.declared.faults.CompileFault.{CompileFault}
use Rattle.jq_syntax.specs.declared.faults.CompileFault.TheVariants as fault
use Rattle.jq_filters.specs.declared.filters.Filter.{Filter}
use Rattle.jq_session.specs.States.{State, after, after_move, outcome, refiltered}
use Rattle.jq_session.specs.declared.splices.Follow.{Follow}
use Rattle.jq_script.specs.Answers.{answer_line, changes, ok_answer, refused_answer, spaced, splice_answer}
use Rattle.jq_script.specs.Requests.{Change, Request, change, remove, move, show, errors, status, unknown, Instruction, request, filter, instruction_of}
use Rattle.jq_script.specs.Script.{AreAnswers, IsAnswer, IsFilterTurn, IsTurn, IsTurnOf, Point, Turn, bad_text, bad_token, change_turn, edit_of, edit_turn, fault_number, faulty, filter_turn, if_null_fits, made_turn, moved, no_memory, no_text, number_of, point, refused, taken, text_value, told, turn, value_turn, without_memory}
use Rattle.jq_script.specs.laws.Clients.{AreShort, Client, IsShort, IsShortWithout, after_pair, after_pairs, after_splice, changed, client_at, come, heard, heard_by, heard_pair, heard_pairs, hears, number, pairs, past, unheard, unheard_by, up_to}

-- ---- bytes up to a byte

abbrev Lacks : ℕ → List ℕ → Type 0
Lacks b [] = Unit {0}
Lacks b (x ∷ xs) = ((x == b) ≡ false) × Lacks b xs

cond_true : {A : Type 0} (t : Bool) (x y : A) → t ≡ true → cond t x y ≡ x
cond_true true x y e = refl
cond_true false x y e = cc

cond_false : {A : Type 0} (t : Bool) (x y : A) → t ≡ false → cond t x y ≡ y
cond_false false x y e = refl
cond_false true x y e = cc

up_to_of : (b : ℕ) (word others : List ℕ) → Lacks b word → up_to b (word ++ b ∷ others) ≡ word
up_to_of b [] others h = cond_true (b == b) [] (b ∷ up_to b others) (eq-eqb b b refl)
up_to_of b (x ∷ xs) others h = cond_false (x == b) [] (x ∷ up_to b (xs ++ b ∷ others)) h.0 ∙ ap (λ l. x ∷ l) (up_to_of b xs others h.1)

past_of : (b : ℕ) (word others : List ℕ) → Lacks b word → past b (word ++ b ∷ others) ≡ others
past_of b [] others h = cond_true (b == b) others (past b others) (eq-eqb b b refl)
past_of b (x ∷ xs) others h = cond_false (x == b) (xs ++ b ∷ others) (past b (xs ++ b ∷ others)) h.0 ∙ past_of b xs others h.1

-- ---- numbers

digits_lack : (b : ℕ) (ds : List ℕ) → 10 ≤ digit_value b → AllDigits 10 ds → Lacks b ds
digits_lack b [] big h = tt
digits_lack b (d ∷ ds) big h =
    (ne_eqb d b (λ e. let small : digit_value b < 10 = subst (λ x. digit_value x < 10) e h.0 in omega (arith, big, small)), digits_lack b ds big h.1)

decimal_lacks : (b n : ℕ) → 10 ≤ digit_value b → n < 10 ^ 64 → Lacks b (decimal n)
decimal_lacks b n big small = digits_lack b (decimal n) big (decimal_is_IsNumeral_wide n small).0.1

number_of_decimal : (b n : ℕ) (others : List ℕ) → 10 ≤ digit_value b → n < 10 ^ 64 → number b (decimal n ++ b ∷ others) ≡ n
number_of_decimal b n others big small = ap (digits_value 10) (up_to_of b (decimal n) others (decimal_lacks b n big small)) ∙ (decimal_is_IsNumeral_wide n small).1

past_decimal : (b n : ℕ) (others : List ℕ) → 10 ≤ digit_value b → n < 10 ^ 64 → past b (decimal n ++ b ∷ others) ≡ others
past_decimal b n others big small = past_of b (decimal n) others (decimal_lacks b n big small)

space : 10 ≤ digit_value 32
space = lit≤ tt

newline : 10 ≤ digit_value 10
newline = lit≤ tt

-- ---- the parts of an answer

line_parts : (word : List ℕ) (n : ℕ) (others : List ℕ) → answer_line word n ++ others ≡ word ++ 32 ∷ (decimal n ++ 10 ∷ others)
line_parts word n others = simp append_assoc

-- the bytes of a splice after its word
abbrev told_splice : Splice → List ℕ → List ℕ
told_splice s others = decimal s.at ++ 32 ∷ (decimal s.cut ++ 32 ∷ (decimal (length s.put.items) ++ 10 ∷ (s.put.items ++ others)))

regrouped : (w a b c d e others : List ℕ) → w ++ a ++ b ++ c ++ d ++ e ++ others ≡ w ++ (a ++ (b ++ (c ++ (d ++ (e ++ others)))))
regrouped w a b c d e others = simp append_assoc

splice_parts : (word : List ℕ) (s : Splice) (others : List ℕ) → splice_answer word s ++ others ≡ word ++ 32 ∷ told_splice s others
splice_parts word s others = regrouped word (spaced s.at) (spaced s.cut) (spaced (length s.put.items)) (10 ∷ []) s.put.items others

-- the numbers of a splice have at most 64 digits
record Small (s : Splice) : Type 0 where
  at : s.at < 10 ^ 64
  cut : s.cut < 10 ^ 64
  put : length s.put.items < 10 ^ 64

count_of : (s : Splice) (others : List ℕ) → Small s → past 32 (past 32 (told_splice s others)) ≡ decimal (length s.put.items) ++ 10 ∷ (s.put.items ++ others)
count_of s others small = ap (past 32) (past_decimal 32 s.at _ space small.at) ∙ past_decimal 32 s.cut _ space small.cut

come_of : (s : Splice) (others : List ℕ) → Small s → come (told_splice s others) ≡ s.put.items
come_of s others small =
    ap (λ count. take (number 10 count) (past 10 count)) (count_of s others small)
    ∙ ap₂ take (number_of_decimal 10 (length s.put.items) _ newline small.put) (past_decimal 10 (length s.put.items) _ newline small.put)
    ∙ take-append_seam s.put.items others

after_splice_of : (s : Splice) (others : List ℕ) → Small s → after_splice (told_splice s others) ≡ others
after_splice_of s others small =
    ap (λ count. drop (number 10 count) (past 10 count)) (count_of s others small)
    ∙ ap₂ drop (number_of_decimal 10 (length s.put.items) _ newline small.put) (past_decimal 10 (length s.put.items) _ newline small.put)
    ∙ drop-append_seam s.put.items others

changed_of : (s : Splice) (old others : List ℕ) → Small s → changed (told_splice s others) old ≡ replace_range old s.at (s.at + s.cut) s.put.items
changed_of s old others small =
    let at = number_of_decimal 32 s.at (decimal s.cut ++ 32 ∷ (decimal (length s.put.items) ++ 10 ∷ (s.put.items ++ others))) space small.at in
    let cut = ap (number 32) (past_decimal 32 s.at (decimal s.cut ++ 32 ∷ (decimal (length s.put.items) ++ 10 ∷ (s.put.items ++ others))) space small.at)
    ∙ number_of_decimal 32 s.cut _ space small.cut in
    ap (λ put. replace_range old (number 32 (told_splice s others)) (number 32 (told_splice s others) + number 32 (past 32 (told_splice s others))) put) (come_of s others small)
    ∙ ap₂ (λ a c. replace_range old a (a + c) s.put.items) at cut

-- ---- a splice between short lists

put_fits : (old put new : List ℕ) (i j : ℕ) → replace_range old i j put ≡ new → length put ≤ length new
put_fits old put new i j e =
    let whole = ap length (sym e) ∙ length-append (take i old ++ put) (drop j old) in
    let front = length-append (take i old) put in
    omega (arith, whole, front)

small_splice : (s : Splice) (old new : List ℕ) → IsSplice s old new → length old < 10 ^ 64 → length new < 10 ^ 64 → Small s
small_splice s old new is a b =
    let fits = put_fits old s.put.items new s.at (s.at + s.cut) is.turns in
    let within = is.within in
    record { at = omega (arith, within, a); cut = omega (arith, within, a); put = omega (arith, fits, b) }

-- ---- one answer

-- The client reads this answer, which tells so many pairs of splices, whatever follows it, and has what the state has to which it
-- leads.
abbrev Reads : (count : ℕ) → (old new : State) → (bytes : List ℕ) → Type 0
Reads n old new bytes = (others : List ℕ) → (heard n (bytes ++ others) (client_at old) ≡ client_at new) × (unheard n (bytes ++ others) ≡ others)

heard_parts : (n : ℕ) (answers word told : List ℕ) (c : Client) → answers ≡ word ++ 32 ∷ told → Lacks 32 word → heard n answers c ≡ heard_by n word told c
heard_parts n answers word told c e h =
    ap (λ l. heard n l c) e ∙ ap₂ (λ w t. heard_by n w t c) (up_to_of 32 word told h) (past_of 32 word told h)

unheard_parts : (n : ℕ) (answers word told : List ℕ) → answers ≡ word ++ 32 ∷ told → Lacks 32 word → unheard n answers ≡ unheard_by n word told
unheard_parts n answers word told e h = ap (unheard n) e ∙ ap₂ (unheard_by n) (up_to_of 32 word told h) (past_of 32 word told h)

-- a line that changes nothing
reads_line : (count : ℕ) (s : State) (word : List ℕ) (n : ℕ) → Lacks 32 word → n < 10 ^ 64 → ((t : List ℕ) → heard_by count word t (client_at s) ≡ client_at s)
    → ((t : List ℕ) → unheard_by count word t ≡ past 10 t) → Reads count s s (answer_line word n)
reads_line count s word n clean small kept left = λ others.
    let parts = line_parts word n others in (
      heard_parts count (answer_line word n ++ others) word (decimal n ++ 10 ∷ others) (client_at s) parts clean ∙ kept (decimal n ++ 10 ∷ others),
      unheard_parts count (answer_line word n ++ others) word (decimal n ++ 10 ∷ others) parts clean
          ∙ left (decimal n ++ 10 ∷ others)
          ∙ past_decimal 10 n others newline small,
    )

-- a count of bytes, and these bytes
reads_bytes : (count : ℕ) (s : State) (word bytes : List ℕ) → Lacks 32 word → length bytes < 10 ^ 64 → ((t : List ℕ) → heard_by count word t (client_at s) ≡ client_at s)
    → ((t : List ℕ) → unheard_by count word t ≡ drop (number 10 t) (past 10 t)) → Reads count s s (answer_line word (length bytes) ++ bytes)
reads_bytes count s word bytes clean small kept left = λ others.
    let t = decimal (length bytes) ++ 10 ∷ (bytes ++ others) in
    let parts = append_assoc (answer_line word (length bytes)) bytes others ∙ line_parts word (length bytes) (bytes ++ others) in (
      heard_parts count ((answer_line word (length bytes) ++ bytes) ++ others) word t (client_at s) parts clean ∙ kept t,
      unheard_parts count ((answer_line word (length bytes) ++ bytes) ++ others) word t parts clean
          ∙ left t
          ∙ ap₂ drop (number_of_decimal 10 (length bytes) (bytes ++ others) newline small) (past_decimal 10 (length bytes) (bytes ++ others) newline small)
          ∙ drop-append_seam bytes others,
    )

-- ---- pairs of splices

abbrev having : (out err : List ℕ) → Client
having out err = record { output = out; errors = err }

-- both splices of what was made, which led from one state to another
record IsPair (f : Follow) (old new : State) : Type 0 where
  out : IsSplice f.out (outcome old).output (outcome new).output
  err : IsSplice f.err (outcome old).errors (outcome new).errors

-- The client reads these splices, whatever follows them, and has what the state has to which they lead.
abbrev ReadsPairs : (count : ℕ) → (old new : State) → (bytes : List ℕ) → Type 0
ReadsPairs n old new bytes = (others : List ℕ) → (heard_pairs n (bytes ++ others) (client_at old) ≡ client_at new) × (after_pairs n (bytes ++ others) ≡ others)

reads_pair : (f : Follow) (old new : State) → IsPair f old new → IsShort old → IsShort new → ReadsPairs 1 old new (changes f)
reads_pair f old new is a b = λ others.
    let out = small_splice f.out (outcome old).output (outcome new).output is.out a.output b.output in
    let err = small_splice f.err (outcome old).errors (outcome new).errors is.err a.errors b.errors in
    let second = splice_answer (codes "err") f.err ++ others in
    let parts : changes f ++ others ≡ codes "out" ++ 32 ∷ told_splice f.out second =
    append_assoc (splice_answer (codes "out") f.out) (splice_answer (codes "err") f.err) others ∙ splice_parts (codes "out") f.out second in
    let at_out : past 32 (changes f ++ others) ≡ told_splice f.out second =
    ap (past 32) parts ∙ past_of 32 (codes "out") (told_splice f.out second) (refl, (refl, (refl, tt))) in
    let at_err : past 32 (after_splice (past 32 (changes f ++ others))) ≡ told_splice f.err others =
    ap (λ l. past 32 (after_splice l)) at_out
    ∙ ap (past 32) (after_splice_of f.out second out ∙ splice_parts (codes "err") f.err others)
    ∙ past_of 32 (codes "err") (told_splice f.err others) (refl, (refl, (refl, tt))) in (
      ap₂ (λ l m. having (changed l (outcome old).output) (changed m (outcome old).errors)) at_out at_err
          ∙ ap₂ having (changed_of f.out (outcome old).output second out ∙ is.out.turns) (changed_of f.err (outcome old).errors others err ∙ is.err.turns),
      ap after_splice at_err ∙ after_splice_of f.err others err,
    )

reads_two : (f g : Follow) (old middle new : State) → IsPair f old middle → IsPair g middle new → IsShort old → IsShort middle → IsShort new
    → ReadsPairs 2 old new (changes f ++ changes g)
reads_two f g old middle new first second a m b = λ others.
    let rest = changes g ++ others in
    let joined : (changes f ++ changes g) ++ others ≡ changes f ++ rest = append_assoc (changes f) (changes g) others in
    let one = reads_pair f old middle first a m rest in
    let two = reads_pair g middle new second m b others in (
      ap (λ l. heard_pairs 2 l (client_at old)) joined ∙ ap₂ (λ l c. heard_pair l c) one.1 one.0 ∙ two.0,
      ap (after_pairs 2) joined ∙ ap after_pair one.1 ∙ two.1,
    )

-- the line of what was made, and its splices
reads_ok : (count : ℕ) (old new : State) (n : ℕ) (told : List ℕ) → n < 10 ^ 64 → ReadsPairs count old new told → Reads count old new (ok_answer n ++ told)
reads_ok count old new n told small reads = λ others.
    let ok = codes "ok" in
    let bytes = ok_answer n ++ told in
    let after_word = decimal n ++ 10 ∷ (told ++ others) in
    let parts : bytes ++ others ≡ ok ++ 32 ∷ after_word = append_assoc (ok_answer n) told others ∙ line_parts ok n (told ++ others) in
    let at : past 10 after_word ≡ told ++ others = past_decimal 10 n (told ++ others) newline small in (
      heard_parts count (bytes ++ others) ok after_word (client_at old) parts (refl, (refl, tt)) ∙ ap (λ l. heard_pairs count l (client_at old)) at ∙ (reads others).0,
      unheard_parts count (bytes ++ others) ok after_word parts (refl, (refl, tt)) ∙ ap (after_pairs count) at ∙ (reads others).1,
    )

-- ---- the answer to a request

reads_refusal : (count : ℕ) (s : State) (n : ℕ) → n < 10 ^ 64 → Reads count s s (refused_answer n)
reads_refusal count s n small = reads_line count s (codes "refused") n (refl, (refl, (refl, (refl, (refl, (refl, (refl, tt))))))) small (λ t. refl) (λ t. refl)

same_bytes : (count : ℕ) (old new : State) (a b : List ℕ) → b ≡ a → Reads count old new a → Reads count old new b
same_bytes count old new a b e = subst (Reads count old new) (sym e)

small_reason : (reason : Reason) → number_of reason < 10 ^ 64
small_reason no_place = lit< tt
small_reason full = lit< tt

reads_made : (count : ℕ) (old new : State) (bytes told more : List ℕ) → bytes ≡ ok_answer (outcome new).status ++ more → more ≡ told → IsShort new → ReadsPairs count old new told
    → Reads count old new bytes
reads_made count old new bytes told more e is b reads =
    same_bytes count old new (ok_answer (outcome new).status ++ told) bytes (e ∙ ap (λ l. ok_answer (outcome new).status ++ l) is)
    (reads_ok count old new (outcome new).status told b.status reads)

after_edit : (s : State) (edit : Edit) (r : Result State Reason) (bytes : List ℕ) → IsAnswer true s (edit_turn s edit r) bytes → IsShort s → IsShort (edit_turn s edit r).state
    → Reads 1 s (edit_turn s edit r).state bytes
after_edit s edit (Ok new) bytes h a b =
    let told = h.1 in
    let is : IsPair told.0 s new = record { out = told.1.out; err = told.1.err } in
    reads_made 1 s new bytes (changes told.0) h.0 h.2 told.2 b (reads_pair told.0 s new is a b)
after_edit s edit (Err reason) bytes h a b = same_bytes 1 s s (refused_answer (number_of reason)) bytes h (reads_refusal 1 s (number_of reason) (small_reason reason))

after_text : (s : State) (c : Change) (r : Result Value Fault) (bytes : List ℕ) → IsAnswer true s (value_turn s c r) bytes → IsShort s → IsShort (value_turn s c r).state
    → Reads 1 s (value_turn s c r).state bytes
after_text s c (Ok v) bytes h a b = after_edit s (edit_of c s v) (after (edit_of c s v) s) bytes h a b
after_text s c (Err fault) bytes h a b = same_bytes 1 s s (refused_answer bad_text) bytes h (reads_refusal 1 s bad_text (lit< tt))

after_change : (s : State) (c : Change) (r : Result State Reason) (text bytes : List ℕ) → IsAnswer true s (change_turn s c r text) bytes → IsShort s → IsShort (change_turn s c r text).state
    → Reads 1 s (change_turn s c r text).state bytes
after_change s c (Ok fits) text bytes h a b = after_text s c (text_value text) bytes h a b
after_change s c (Err reason) text bytes h a b = same_bytes 1 s s (refused_answer (number_of reason)) bytes h (reads_refusal 1 s (number_of reason) (small_reason reason))

after_moving : (s : State) (k l : ℕ) (r : Result State Reason) (bytes : List ℕ) → IsAnswer true s (made_turn s (moved k l) r) bytes → IsShort s → IsShortWithout s
    → IsShort (made_turn s (moved k l) r).state → Reads 2 s (made_turn s (moved k l) r).state bytes
after_moving s k l (Ok new) bytes h a without b =
    let told = h.1 in
    let halves = told.2.halves in
    let removal = told.2.removal in
    let insertion = told.2.insertion in
    let middle = halves.middle in
    let first : IsPair told.0 s middle = record { out = removal.out; err = removal.err } in
    let second : IsPair told.1 middle new = record { out = insertion.out; err = insertion.err } in
    reads_made 2 s new bytes (changes told.0 ++ changes told.1) h.0 h.2 told.3 b
    (reads_two told.0 told.1 s middle new first second a (without k middle halves.removed) b)
after_moving s k l (Err reason) bytes h a without b =
    same_bytes 2 s s (refused_answer (number_of reason)) bytes h (reads_refusal 2 s (number_of reason) (small_reason reason))

after_request : (r : Request) (s : State) (bytes : List ℕ) → IsAnswer true s (turn r s) bytes → IsShort s → IsShortWithout s → IsShort (turn r s).state
    → Reads (pairs (request r)) s (turn r s).state bytes
after_request (change c text) s bytes h a without b = after_change s c (if_null_fits c s) text bytes h a b
after_request (remove k) s bytes h a without b = after_edit s (edits.remove k) (after (edits.remove k) s) bytes h a b
after_request (move k l) s bytes h a without b = after_moving s k l (after_move k l s) bytes h a without b
after_request show s bytes h a without b =
    same_bytes 1 s s (turn show s).answer bytes h (reads_bytes 1 s (codes "out") (outcome s).output (refl, (refl, (refl, tt))) a.output (λ t. refl) (λ t. refl))
after_request errors s bytes h a without b =
    same_bytes 1 s s (turn errors s).answer bytes h (reads_bytes 1 s (codes "err") (outcome s).errors (refl, (refl, (refl, tt))) a.errors (λ t. refl) (λ t. refl))
after_request status s bytes h a without b =
    same_bytes 1 s s (turn status s).answer bytes h
    (reads_line 1 s (codes "status") (outcome s).status (refl, (refl, (refl, (refl, (refl, (refl, tt)))))) a.status (λ t. refl) (λ t. refl))
after_request unknown s bytes h a without b = same_bytes 1 s s (refused_answer 0) bytes h (reads_refusal 1 s 0 (lit< tt))

-- what changes nothing is refused with a small number
after_refusal : (count : ℕ) (s : State) (t : Turn) (n : ℕ) (bytes : List ℕ) → n < 10 ^ 64 → t ≡ refused s n → IsAnswer true s t bytes → Reads count s t.state bytes
after_refusal count s t n bytes small e h =
    subst (λ u. IsAnswer true s u bytes → Reads count s u.state bytes) (sym e) (λ h. same_bytes count s s (refused_answer n) bytes h (reads_refusal count s n small)) h

after_turn : (r : Request) (s : State) (t : Turn) (bytes : List ℕ) → IsTurn r s t → IsAnswer true s t bytes → IsShort s → IsShortWithout s → IsShort t.state
    → Reads (pairs (request r)) s t.state bytes
after_turn r s t bytes (inl e) h a without b =
    subst (λ u. IsAnswer true s u bytes → IsShort u.state → Reads (pairs (request r)) s u.state bytes) (sym e) (λ h b. after_request r s bytes h a without b) h b
after_turn r s t bytes (inr e) h a without b = after_refusal (pairs (request r)) s t no_memory bytes (lit< tt) e.1 h

-- ---- the answer to another filter

small_fault : (f : CompileFault) → fault_number f < 10 ^ 64
small_fault (fault.Lex at) = lit< tt
small_fault fault.Syntax = lit< tt
small_fault fault.TooManyTokens = lit< tt
small_fault fault.TooNested = lit< tt
small_fault (fault.Undefined name) = lit< tt
small_fault fault.InputsPlace = lit< tt
small_fault fault.InputsNeedNull = lit< tt
small_fault fault.NoMemory = lit< tt

after_taking : (s : State) (f : Filter) (bytes : List ℕ) → IsAnswer true s (filter_turn s f) bytes → IsShort s → IsShort (refiltered f s) → Reads 1 s (refiltered f s) bytes
after_taking s f bytes h a b =
    let told = h.1 in
    let is : IsPair told.0 s (refiltered f s) = record { out = told.1.out.splice; err = told.1.err.splice } in
    reads_made 1 s (refiltered f s) bytes (changes told.0) h.0 h.2 told.2 b (reads_pair told.0 s (refiltered f s) is a b)

after_filter : (o : Chosen) (text : List ℕ) (s : State) (t : Turn) (m n : ℕ) (bytes : List ℕ) → IsFilterTurn o text s t m n → IsAnswer true s t bytes → IsShort s → IsShort t.state
    → Reads 1 s t.state bytes
after_filter o text s t m n bytes (taken f is e first) h a b =
    subst (λ u. IsAnswer true s u bytes → IsShort u.state → Reads 1 s u.state bytes) (sym e) (λ h b. after_taking s f bytes h a b) h b
after_filter o text s t m n bytes (without_memory f is e first) h a b = after_refusal 1 s t no_memory bytes (lit< tt) e h
after_filter o text s t m n bytes (faulty f is refusal e same) h a b = after_refusal 1 s t (fault_number f) bytes (small_fault f) e h
after_filter o text s t m n bytes (no_text not e same) h a b = after_refusal 1 s t bad_token bytes (lit< tt) e h

after_instruction : (o : Chosen) (i : Instruction) (s : State) (t : Turn) (m n : ℕ) (bytes : List ℕ) → IsTurnOf o i s t m n → IsAnswer true s t bytes → IsShort s → IsShortWithout s
    → IsShort t.state → Reads (pairs i) s t.state bytes
after_instruction o (request r) s t m n bytes turns h a without b = after_turn r s t bytes turns.0 h a without b
after_instruction o (filter text) s t m n bytes turns h a without b = after_filter o text s t m n bytes turns h a b

-- ---- all answers

pub keeps_up : (lines : List (List ℕ)) (first last : Point) (answers : List ℕ) → AreAnswers true lines first answers last → AreShort lines first
    → hears lines answers (client_at first.state) ≡ client_at last.state
keeps_up [] first last answers h short = ap (λ p. client_at p.state) (sym h.1)
keeps_up (line ∷ lines) first last answers h short =
    let t = h.0 in
    let n = h.1 in
    let bytes = h.2 in
    let others = h.3 in
    let step = h.4 in
    let count = pairs (instruction_of line) in
    let mid = point first.options t.state n in
    let here = short [] (line ∷ lines) [] first refl (refl, refl) in
    let there = short (line ∷ []) lines bytes mid refl (t, n, bytes, [], step, sym (append-nil bytes), (refl, refl)) in
    let one = after_instruction first.options (instruction_of line) first.state t first.starts n bytes step.turns step.answers here.0 here.1 there.0 others in
    ap₂ (hears lines) (ap (unheard count) h.5 ∙ one.1) (ap (λ l. heard count l (client_at first.state)) h.5 ∙ one.0)
    ∙ keeps_up lines mid last others h.6
    (λ some rest part p e a. short (line ∷ some) rest (bytes ++ part) p (ap (λ l. line ∷ l) e) (t, n, bytes, part, step, refl, a))
