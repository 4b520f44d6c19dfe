-- A script that is being read and answered.
use Rattle.std.proofs.Common.{◌≡◌, ◌≢◌, ◌≤◌, ℕ, Bool, List, [], ◌∷◌, ◌++◌, zero, suc, length, take, arith, Option, Result, IfErr, OnErr, inl, inr, refl, sym, ap, ◌∙◌, subst, append_assoc, append-nil}
use Rattle.std.specs.Io.KnownBytes.{Appends, Consumes, Keeps, IsAtEnd}
use Rattle.std.proofs.KnownBytes.{Appends-nil, Appends-trans, Consumes-nil, Consumes-trans, Consumes-kept}
use Rattle.jv_data.proofs.shared.Results.{if_err_both}
use Rattle.jq_devices.proofs.shared.Reading.{whole_read}
use Rattle.jq_devices.specs.declared.faults.StreamFault.{StreamFault}
use Rattle.jq_devices.specs.declared.faults.StreamFault.TheVariants.{Read, Write, NoMemory}
use Rattle.jq_script.specs.Script.{AreAnswers}
use Rattle.jq_script.specs.Serving.{Progress, Serving, Answers, AnswersFirst, IsOnePass, IsServed, IsReadStopped, IsWriteStopped, IsStopped}
use Rattle.jq_script.specs.private.Lines.{ended, HasNoNewline, HasRead, AreLines, AreLinesFirst, last_line}
use Rattle.jq_script.specs.declared.lines.Line.{Line}
use Rattle.jq_script.proofs.Splitting.{are_lines, are_whole_lines, first_lines, first_joined, line_ended, line_grown, lines_first, lines_joined, no_bytes}
use Rattle.jq_script.proofs.Turning.{answered_first, answered_more, answered_none, first_of_answered}

-- ---- some bytes, which come after the beginning of a line

-- The lines that end in the bytes before the rest were answered.
pub record IsAmid (follow : Bool) (begun bytes rest : List ℕ) (l : Line) (old new : Progress) : Type 0 where
  pub front : List ℕ
  pub served : List (List ℕ)
  pub last : List ℕ
  pub parts : bytes ≡ front ++ rest
  pub are_lines : AreLines (begun ++ front) served last
  pub has : HasRead l last
  pub answered : Answers follow served old new

pub amid_begun : {follow : Bool} → (begun bytes : List ℕ) (l : Line) (p : Progress) → HasNoNewline begun → HasRead l begun → IsAmid follow begun bytes bytes l p p
amid_begun begun bytes l p clean has = record {
  front = [];
  served = [];
  last = begun;
  parts = refl;
  are_lines = record { parts = append-nil begun; clean = tt; open_line = clean };
  has = has;
  answered = answered_none p;
}

-- one line more ended
ended_more : (begun front end : List ℕ) (served : List (List ℕ)) (last : List ℕ) → AreLines (begun ++ front) served last → HasNoNewline end
    → AreLines (begun ++ (front ++ ended end)) (served ++ (last ++ end) ∷ []) []
ended_more begun front end served last p clean =
    subst (λ l. AreLines l (served ++ (last ++ end) ∷ []) []) (append_assoc begun front (ended end))
    (lines_joined (begun ++ front) (ended end) served last ((last ++ end) ∷ []) [] p (line_ended last end p.open_line clean))

ended_parts : (bytes front rest end others : List ℕ) → bytes ≡ front ++ rest → rest ≡ end ++ 10 ∷ others → bytes ≡ (front ++ ended end) ++ others
ended_parts bytes front rest end others p e =
    p
    ∙ ap (λ l. front ++ l) (e ∙ sym (append_assoc end (10 ∷ []) others))
    ∙ sym (append_assoc front (ended end) others)

pub amid_line : {follow : Bool} → (begun bytes rest end others : List ℕ) (l m n : Line) (old mid new : Progress) → IsAmid follow begun bytes rest l old mid → rest ≡ end ++ 10 ∷ others → HasNoNewline end
    → ((line : List ℕ) → HasRead l line → HasRead m (line ++ end)) → ((line : List ℕ) → HasRead m line → Answers follow (line ∷ []) mid new) → HasRead n []
    → IsAmid follow begun bytes others n old new
amid_line begun bytes rest end others l m n old mid new a e clean added answers cleared = record {
  front = a.front ++ ended end;
  served = a.served ++ (a.last ++ end) ∷ [];
  last = [];
  parts = ended_parts bytes a.front rest end others a.parts e;
  are_lines = ended_more begun a.front end a.served a.last a.are_lines clean;
  has = cleared;
  answered = answered_more a.served ((a.last ++ end) ∷ []) old mid new a.answered (answers (a.last ++ end) (added a.last a.has));
}

-- what holds after a fault: the first lines of all these bytes were answered
abbrev pub AreServedFirst : Bool → List ℕ → (old new : Progress) → Type 0
AreServedFirst follow bytes old new = (served : List (List ℕ)) × AreLinesFirst bytes served × AnswersFirst follow served old new

first_of : (begun bytes front rest : List ℕ) (served : List (List ℕ)) (last : List ℕ) → bytes ≡ front ++ rest → AreLines (begun ++ front) served last → AreLinesFirst (begun ++ bytes) served
first_of begun bytes front rest served last e p =
    subst (λ l. AreLinesFirst l served) (append_assoc begun front rest ∙ ap (λ l. begun ++ l) (sym e)) (lines_first (begun ++ front) rest served last p)

pub amid_stopped : {follow : Bool} → (begun bytes rest : List ℕ) (l : Line) (old new : Progress) → IsAmid follow begun bytes rest l old new → AreServedFirst follow (begun ++ bytes) old new
amid_stopped begun bytes rest l old new a =
    (a.served, first_of begun bytes a.front rest a.served a.last a.parts a.are_lines, first_of_answered a.served old new a.answered)

pub line_stopped : {follow : Bool} → (begun bytes rest end others : List ℕ) (l m : Line) (old mid new : Progress) → IsAmid follow begun bytes rest l old mid → rest ≡ end ++ 10 ∷ others → HasNoNewline end
    → ((line : List ℕ) → HasRead l line → HasRead m (line ++ end)) → ((line : List ℕ) → HasRead m line → AnswersFirst follow (line ∷ []) mid new) → AreServedFirst follow (begun ++ bytes) old new
line_stopped begun bytes rest end others l m old mid new a e clean added answers = (
  a.served ++ (a.last ++ end) ∷ [],
  first_of begun bytes (a.front ++ ended end) others (a.served ++ (a.last ++ end) ∷ []) [] (ended_parts bytes a.front rest end others a.parts e)
      (ended_more begun a.front end a.served a.last a.are_lines clean),
  answered_first a.served ((a.last ++ end) ∷ []) old mid new a.answered (answers (a.last ++ end) (added a.last a.has)),
)

-- all the bytes
abbrev pub AreServed : Bool → List ℕ → Line → (old new : Progress) → Type 0
AreServed follow bytes l old new = (whole : List (List ℕ)) × (last : List ℕ) × AreLines bytes whole last × HasRead l last × Answers follow whole old new

pub amid_ended : {follow : Bool} → (begun bytes rest : List ℕ) (l m : Line) (old new : Progress) → IsAmid follow begun bytes rest l old new → HasNoNewline rest
    → ((line : List ℕ) → HasRead l line → HasRead m (line ++ rest)) → AreServed follow (begun ++ bytes) m old new
amid_ended begun bytes rest l m old new a clean added = (
  a.served,
  a.last ++ rest,
  subst (λ x. AreLines x a.served (a.last ++ rest)) (append_assoc begun a.front rest ∙ ap (λ x. begun ++ x) (sym a.parts)) (line_grown (begun ++ a.front) rest a.served a.last a.are_lines clean),
  added a.last a.has,
  a.answered,
)

-- ---- a script

-- These bytes were read, and the lines that end in them were answered.
pub record Going (follow : Bool) (old new : Serving) (l : Line) : Type 0 where
  pub read : List ℕ
  pub whole : List (List ℕ)
  pub last : List ℕ
  pub consumed : Consumes old.remaining new.remaining read
  pub are_lines : AreLines read whole last
  pub has : HasRead l last
  pub answered : Answers follow whole old.progress new.progress

pub going_begun : {follow : Bool} → (s : Serving) (l : Line) → HasRead l [] → Going follow s s l
going_begun s l has = record {
  read = [];
  whole = [];
  last = [];
  consumed = Consumes-nil s.remaining;
  are_lines = no_bytes;
  has = has;
  answered = answered_none s.progress;
}

-- a piece was read, and its lines were answered
pub going_on : {follow : Bool} → (old mid new : Serving) (l m : Line) (piece : List ℕ) → Going follow old mid l
    → ((begun : List ℕ) → HasNoNewline begun → HasRead l begun → AreServed follow (begun ++ piece) m mid.progress new.progress) → Consumes mid.remaining new.remaining piece → Going follow old new m
going_on old mid new l m piece g serves consumed =
    let served = serves g.last g.are_lines.open_line g.has in
    record {
      read = g.read ++ piece;
      whole = g.whole ++ served.0;
      last = served.1;
      consumed = Consumes-trans old.remaining mid.remaining new.remaining g.read piece g.consumed consumed;
      are_lines = lines_joined g.read piece g.whole g.last served.0 served.1 g.are_lines served.2;
      has = served.3;
      answered = answered_more g.whole served.0 old.progress mid.progress new.progress g.answered served.4;
    }

ended_read : (a b c : Option (List ℕ)) (read : List ℕ) → Consumes a b read → Consumes b c [] → Consumes a c read
ended_read a b c read p q = subst (Consumes a c) (append-nil read) (Consumes-trans a b c read [] p q)

-- the input ended, and the last line was answered
pub going_served : {follow : Bool} → (old mid new : Serving) (l : Line) → Going follow old mid l → Consumes mid.remaining new.remaining [] → IsAtEnd new.remaining
    → ((last : List ℕ) → HasRead l last → Answers follow (last_line last) mid.progress new.progress) → IsServed follow old new
going_served {follow} old mid new l g consumed at_end answers = record {
  script = g.read;
  whole = whole_read old.remaining new.remaining g.read (ended_read old.remaining mid.remaining new.remaining g.read g.consumed consumed) at_end;
  ended = at_end;
  answered =
      subst (λ ls. Answers follow ls old.progress new.progress) (sym (are_lines g.read g.whole g.last g.are_lines))
      (answered_more g.whole (last_line g.last) old.progress mid.progress new.progress g.answered (answers g.last g.has));
}

-- ---- the end by a fault

-- nothing was read
pub unbegun : {follow : Bool} → (s : Serving) → IsWriteStopped follow s s
unbegun s = record {
  served = [];
  others = [];
  found = inr ([], Consumes-nil s.remaining, refl);
  answered = first_of_answered [] s.progress s.progress (answered_none s.progress);
}

-- the last line's answer was not written completely
pub last_stopped : {follow : Bool} → (old mid new : Serving) (l : Line) → Going follow old mid l → Consumes mid.remaining new.remaining [] → IsAtEnd new.remaining
    → ((last : List ℕ) → HasRead l last → AnswersFirst follow (last_line last) mid.progress new.progress) → IsWriteStopped follow old new
last_stopped old mid new l g consumed at_end answers = record {
  served = g.whole ++ last_line g.last;
  others = [];
  found = inl (
    g.read,
    whole_read old.remaining new.remaining g.read (ended_read old.remaining mid.remaining new.remaining g.read g.consumed consumed) at_end,
    append-nil (g.whole ++ last_line g.last) ∙ sym (are_lines g.read g.whole g.last g.are_lines),
  );
  answered = answered_first g.whole (last_line g.last) old.progress mid.progress new.progress g.answered (answers g.last g.has);
}

-- a line of a piece was not answered completely
pub piece_stopped : {follow : Bool} → (old mid new : Serving) (l : Line) (piece : List ℕ) → Going follow old mid l
    → ((begun : List ℕ) → HasNoNewline begun → HasRead l begun → AreServedFirst follow (begun ++ piece) mid.progress new.progress) → Consumes mid.remaining new.remaining piece → IsWriteStopped follow old new
piece_stopped old mid new l piece g stops consumed =
    let stopped = stops g.last g.are_lines.open_line g.has in
    let first = first_lines (g.read ++ piece) (g.whole ++ stopped.0) (first_joined g.read piece g.whole g.last stopped.0 g.are_lines stopped.1) in
    record {
      served = g.whole ++ stopped.0;
      others = first.0;
      found = inr (g.read ++ piece, Consumes-trans old.remaining mid.remaining new.remaining g.read piece g.consumed consumed, first.1);
      answered = answered_first g.whole stopped.0 old.progress mid.progress new.progress g.answered stopped.2;
    }

going_kept : {follow : Bool} → (old mid new : Serving) (l : Line) → Going follow old mid l → Keeps mid.remaining new.remaining → mid.progress ≡ new.progress → Going follow old new l
going_kept {follow} old mid new l g kept same = record {
  read = g.read;
  whole = g.whole;
  last = g.last;
  consumed = Consumes-kept old.remaining mid.remaining new.remaining g.read g.consumed kept;
  are_lines = g.are_lines;
  has = g.has;
  answered = subst (λ p. Answers follow g.whole old.progress p) same g.answered;
}

read_ended : {follow : Bool} → (old new : Serving) (l : Line) → Going follow old new l → IsReadStopped follow old new
read_ended {follow} old new l g = record {
  read = g.read;
  consumed = g.consumed;
  answered = subst (λ ls. Answers follow ls old.progress new.progress) (sym (are_whole_lines g.read g.whole g.last g.are_lines)) g.answered;
}

memory_ended : {follow : Bool} → (old new : Serving) (l : Line) → Going follow old new l → IsWriteStopped follow old new
memory_ended old new l g = record {
  served = g.whole;
  others = [];
  found = inr (g.read, g.consumed, append-nil g.whole ∙ sym (are_whole_lines g.read g.whole g.last g.are_lines));
  answered = first_of_answered g.whole old.progress new.progress g.answered;
}

-- between two lines
going_stopped : {follow : Bool} → (f : StreamFault) (old new : Serving) (l : Line) → Going follow old new l → f ≢ Write → IsStopped follow f old new
going_stopped Read old new l g other = read_ended old new l g
going_stopped Write old new l g other = absurd (other refl)
going_stopped NoMemory old new l g other = memory_ended old new l g

pub read_stopped : {follow : Bool} → (f : StreamFault) (old mid new : Serving) (l : Line) → Going follow old mid l → Keeps mid.remaining new.remaining → mid.progress ≡ new.progress → f ≢ Write → IsStopped follow f old new
read_stopped f old mid new l g kept same other = going_stopped f old new l (going_kept old mid new l g kept same) other

-- by a fault other than a read fault
pub stopped_by : {follow : Bool} → (f : StreamFault) (old new : Serving) → f ≢ Read → IsWriteStopped follow old new → IsStopped follow f old new
stopped_by Read old new other stopped = absurd (other refl)
stopped_by Write old new other stopped = stopped
stopped_by NoMemory old new other stopped = stopped

pub result_stopped : {follow : Bool} → {A : Type 0} (r : Result A StreamFault) (old new : Serving) {P : Type 0} → IfErr r (λ f. f ≢ Read) → OnErr r P → (P → IsWriteStopped follow old new) → IfErr r (λ f. IsStopped follow f old new)
result_stopped r old new fault err stops = if_err_both r fault err (λ f other err. stopped_by f old new other (stops err))

-- ---- one pass

-- nothing was read
pub one_pass_begun : {follow : Bool} → (s : Serving) → IsOnePass follow s s
one_pass_begun {follow} s = record {
  before = [];
  piece = [];
  consumed = Consumes-nil s.remaining;
  small = omega arith;
  answers = [];
  between = s.progress.point;
  are_answers = subst (λ ls. AreAnswers follow ls s.progress.point [] s.progress.point) (sym (are_whole_lines [] [] [] no_bytes)) (refl, refl);
  written = ([], Appends-nil s.progress.output);
}

-- the answers to the lines before the last piece were written, and then these bytes
one_pass : {follow : Bool} → (old mid new : Serving) (l : Line) (piece more : List ℕ) → Going follow old mid l → Consumes mid.remaining new.remaining piece → length piece ≤ 65536
    → Appends mid.progress.output new.progress.output more → IsOnePass follow old new
one_pass {follow} old mid new l piece more g consumed small written = record {
  before = g.read;
  piece = piece;
  consumed = Consumes-trans old.remaining mid.remaining new.remaining g.read piece g.consumed consumed;
  small = small;
  answers = g.answered.answers;
  between = mid.progress.point;
  are_answers =
      subst (λ ls. AreAnswers follow ls old.progress.point g.answered.answers mid.progress.point) (sym (are_whole_lines g.read g.whole g.last g.are_lines)) g.answered.are_answers;
  written = (more, Appends-trans old.progress.output mid.progress.output new.progress.output g.answered.answers more g.answered.written written);
}

-- the last line's answer was not written completely
pub one_pass_last : {follow : Bool} → (old mid new : Serving) (l : Line) → Going follow old mid l → Consumes mid.remaining new.remaining []
    → ((last : List ℕ) → HasRead l last → AnswersFirst follow (last_line last) mid.progress new.progress) → IsOnePass follow old new
one_pass_last old mid new l g consumed answers =
    let first = (answers g.last g.has).written in
    one_pass old mid new l [] first.0 g consumed (omega arith) first.3

-- a line of a piece was not answered completely
pub one_pass_piece : {follow : Bool} → (old mid new : Serving) (l : Line) (piece : List ℕ) → Going follow old mid l
    → ((begun : List ℕ) → HasNoNewline begun → HasRead l begun → AreServedFirst follow (begun ++ piece) mid.progress new.progress) → Consumes mid.remaining new.remaining piece → length piece ≤ 65536
    → IsOnePass follow old new
one_pass_piece old mid new l piece g stops consumed small =
    let first = (stops g.last g.are_lines.open_line g.has).2.written in
    one_pass old mid new l piece first.0 g consumed small first.3

-- a read failed
pub one_pass_read : {follow : Bool} → (old mid new : Serving) (l : Line) → Going follow old mid l → Keeps mid.remaining new.remaining → mid.progress ≡ new.progress → IsOnePass follow old new
one_pass_read old mid new l g kept same =
    one_pass old new new l [] [] (going_kept old mid new l g kept same) (Consumes-nil new.remaining) (omega arith) (Appends-nil new.progress.output)

-- ---- a read

short_take : (n : ℕ) (xs : List ℕ) → length (take n xs) ≤ length xs
short_take zero xs = omega arith
short_take (suc n) [] = omega arith
short_take (suc n) (x ∷ xs) = let h : length (take n xs) ≤ length xs = short_take n xs in omega arith

pub short_piece : (n : ℕ) (buf bytes : List ℕ) → bytes ≡ take n buf → length buf ≤ 65536 → length bytes ≤ 65536
short_piece n buf bytes e whole = let h : length (take n buf) ≤ length buf = short_take n buf in subst (λ l. length l ≤ 65536) (sym e) (omega (arith, h, whole))

pub nothing_read : (a b : Option (List ℕ)) (n : ℕ) (buf : List ℕ) → n ≡ 0 → Consumes a b (take n buf) → Consumes a b []
nothing_read a b n buf e p = subst (λ k. Consumes a b (take k buf)) e p

pub consumed_bytes : (a b : Option (List ℕ)) (n : ℕ) (buf bytes : List ℕ) → bytes ≡ take n buf → Consumes a b (take n buf) → Consumes a b bytes
consumed_bytes a b n buf bytes e p = subst (Consumes a b) (sym e) p
