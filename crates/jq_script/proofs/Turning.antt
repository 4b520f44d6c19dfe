-- Answers to lines, one after the other.
use Rattle.std.proofs.Common.{◌≡◌, ℕ, Bool, List, [], ◌∷◌, ◌++◌, length, Option, refl, sym, ap, ◌∙◌, subst, append_assoc, append-nil}
use Rattle.std.specs.Io.KnownBytes.{Appends}
use Rattle.std.proofs.KnownBytes.{Appends-nil, Appends-trans}
use Rattle.jq_devices.proofs.shared.Writing.{first_after, first_longer, first_whole}
use Rattle.jq_devices.specs.Writing.{AppendsFirst}
use Rattle.jq_script.specs.Answers.{answer_line}
use Rattle.jq_script.specs.Requests.{Instruction, request, filter, instruction_of}
use Rattle.jq_script.specs.Script.{Turn, IsStep, AreAnswers, Point, point}
use Rattle.jq_script.specs.Serving.{Progress, Answers, AnswersFirst}
use Rattle.jq_script.specs.private.Replies.{IsCarriedOut, answer_of}
use Rattle.jq_script.specs.declared.replies.Reply.{Reply}

-- ---- lines

one_answer : (follow : Bool) (line : List ℕ) (p : Point) (t : Turn) (n : ℕ) (bytes : List ℕ) → IsStep follow (instruction_of line) p t n bytes
    → AreAnswers follow (line ∷ []) p bytes (point p.options t.state n)
one_answer follow line p t n bytes step = (t, n, bytes, [], step, sym (append-nil bytes), (refl, refl))

pub answers_joined : (follow : Bool) (ls ms : List (List ℕ)) (s m e : Point) (a b : List ℕ) → AreAnswers follow ls s a m → AreAnswers follow ms m b e → AreAnswers follow (ls ++ ms) s (a ++ b) e
answers_joined follow [] ms s m e a b p q =
    let same : AreAnswers follow ms s b e = subst (λ x. AreAnswers follow ms x b e) p.1 q in
    subst (λ x. AreAnswers follow ms s (x ++ b) e) (sym p.0) same
answers_joined follow (l ∷ ls) ms s m e a b p q = (
  p.0,
  p.1,
  p.2,
  p.3 ++ b,
  p.4,
  ap (λ x. x ++ b) p.5 ∙ append_assoc p.2 p.3 b,
  answers_joined follow ls ms (point s.options p.0.state p.1) m e p.3 b p.6 q,
)

pub answered_none : {follow : Bool} → (s : Progress) → Answers follow [] s s
answered_none s = record { answers = []; are_answers = (refl, refl); written = Appends-nil s.output }

pub answered_more : {follow : Bool} → (ls ms : List (List ℕ)) (r s t : Progress) → Answers follow ls r s → Answers follow ms s t → Answers follow (ls ++ ms) r t
answered_more {follow} ls ms r s t p q = record {
  answers = p.answers ++ q.answers;
  are_answers = answers_joined follow ls ms r.point s.point t.point p.answers q.answers p.are_answers q.are_answers;
  written = Appends-trans r.output s.output t.output p.answers q.answers p.written q.written;
}

pub answered_first : {follow : Bool} → (ls ms : List (List ℕ)) (r s t : Progress) → Answers follow ls r s → AnswersFirst follow ms s t → AnswersFirst follow (ls ++ ms) r t
answered_first {follow} ls ms r s t p q = record {
  answers = p.answers ++ q.answers;
  are_answers = answers_joined follow ls ms r.point s.point t.point p.answers q.answers p.are_answers q.are_answers;
  written = first_after r.output s.output t.output p.answers q.answers p.written q.written;
}

pub first_of_answered : {follow : Bool} → (ls : List (List ℕ)) (r s : Progress) → Answers follow ls r s → AnswersFirst follow ls r s
first_of_answered ls r s p = record { answers = p.answers; are_answers = p.are_answers; written = first_whole r.output s.output p.answers p.written }

-- ---- the answer to one line

-- what is known of a reply, as a step
record Stepped (follow : Bool) (i : Instruction) (old new : Point) (bytes : List ℕ) : Type 0 where
  turn : Turn
  leads : turn.state ≡ new.state
  step : IsStep follow i old turn new.starts bytes

stepped : (follow : Bool) (i : Instruction) (old new : Point) (r : Reply) → IsCarriedOut i old new r → Stepped follow i old new (answer_of follow r new.state)
stepped follow (request q) old new r h = record { turn = h.0.turn; leads = h.0.leads; step = record { turns = (h.0.turns, h.1); answers = h.0.answers follow } }
stepped follow (filter text) old new r h = record { turn = h.turn; leads = h.leads; step = record { turns = h.turns; answers = h.answers follow } }

reply_answers : (follow : Bool) (line : List ℕ) (i : Instruction) (old new : Point) (r : Reply) → i ≡ instruction_of line → new.options ≡ old.options
    → IsCarriedOut i old new r → AreAnswers follow (line ∷ []) old (answer_of follow r new.state) new
reply_answers follow line i old new r e same carried =
    let bytes = answer_of follow r new.state in
    let s = stepped follow i old new r carried in
    let step : IsStep follow (instruction_of line) old s.turn new.starts bytes = subst (λ x. IsStep follow x old s.turn new.starts bytes) e s.step in
    let led : AreAnswers follow (line ∷ []) old bytes (point old.options new.state new.starts) =
    subst (λ x. AreAnswers follow (line ∷ []) old bytes (point old.options x new.starts)) s.leads (one_answer follow line old s.turn new.starts bytes step) in
    subst (λ o. AreAnswers follow (line ∷ []) old bytes (point o new.state new.starts)) (sym same) led

pub line_answered : {follow : Bool} → (line : List ℕ) (i : Instruction) (old new : Progress) (r : Reply) → i ≡ instruction_of line → new.point.options ≡ old.point.options
    → IsCarriedOut i old.point new.point r → Appends old.output new.output (answer_of follow r new.point.state) → Answers follow (line ∷ []) old new
line_answered {follow} line i old new r e same carried w = record {
  answers = answer_of follow r new.point.state;
  are_answers = reply_answers follow line i old.point new.point r e same carried;
  written = w;
}

pub line_first : {follow : Bool} → (line : List ℕ) (i : Instruction) (old new : Progress) (r : Reply) → i ≡ instruction_of line → new.point.options ≡ old.point.options
    → IsCarriedOut i old.point new.point r → AppendsFirst old.output new.output (answer_of follow r new.point.state) → AnswersFirst follow (line ∷ []) old new
line_first {follow} line i old new r e same carried w = record {
  answers = answer_of follow r new.point.state;
  are_answers = reply_answers follow line i old.point new.point r e same carried;
  written = w;
}

-- ---- a number and bytes

pub number_first : (r s : Option (List ℕ)) (word : List ℕ) (n : ℕ) (bytes : List ℕ) → n ≡ length bytes → AppendsFirst r s (answer_line word n)
    → AppendsFirst r s (answer_line word (length bytes) ++ bytes)
number_first r s word n bytes e p = first_longer r s (answer_line word (length bytes)) bytes (subst (λ x. AppendsFirst r s (answer_line word x)) e p)

pub bytes_first : (r s t : Option (List ℕ)) (word : List ℕ) (n : ℕ) (bytes : List ℕ) → n ≡ length bytes → Appends r s (answer_line word n) → AppendsFirst s t bytes
    → AppendsFirst r t (answer_line word (length bytes) ++ bytes)
bytes_first r s t word n bytes e p q = first_after r s t (answer_line word (length bytes)) bytes (subst (λ x. Appends r s (answer_line word x)) e p) q
