-- Bytes in a buffer and bytes that were written, one write after the other.
use Rattle.std.proofs.Common.{◌≡◌, ℕ, List, [], ◌++◌, Option, sym, ap, ◌∙◌, subst, append-nil, append_assoc}
use Rattle.std.specs.Io.KnownBytes.{Appends}
use Rattle.std.proofs.KnownBytes.{Appends-nil, Appends-trans}
use Rattle.jq_devices.proofs.shared.Writing.{first_after, first_longer}
use Rattle.jq_devices.specs.Writing.{AppendsFirst}
use Rattle.jq_stream.specs.private.Sending.{IsSent, IsSentFirst}

pub sent_none : (w : List ℕ) (s : Option (List ℕ)) → IsSent w w s s []
sent_none w s = record { front = []; parts = append-nil w; written = Appends-nil s }

-- bytes were added to the buffer
pub sent_added : (w v bytes : List ℕ) (s : Option (List ℕ)) → v ≡ w ++ bytes → IsSent w v s s bytes
sent_added w v bytes s e = record { front = []; parts = sym e; written = Appends-nil s }

regrouped : (w a b front v : List ℕ) (tail : List ℕ) → w ++ a ≡ front ++ v → v ++ b ≡ tail → w ++ (a ++ b) ≡ front ++ tail
regrouped w a b front v tail e f = sym (append_assoc w a b) ∙ ap (λ l. l ++ b) e ∙ append_assoc front v b ∙ ap (λ l. front ++ l) f

pub sent_more : (u v w : List ℕ) (r s t : Option (List ℕ)) (a b : List ℕ) → IsSent u v r s a → IsSent v w s t b → IsSent u w r t (a ++ b)
sent_more u v w r s t a b p q = record {
  front = p.front ++ q.front;
  parts = regrouped u a b p.front v (q.front ++ w) p.parts q.parts ∙ sym (append_assoc p.front q.front w);
  written = Appends-trans r s t p.front q.front p.written q.written;
}

pub sent_then_first : (u v w : List ℕ) (r s t : Option (List ℕ)) (a b : List ℕ) → IsSent u v r s a → IsSentFirst v w s t b → IsSentFirst u w r t (a ++ b)
sent_then_first u v w r s t a b p q = record {
  front = p.front ++ q.front;
  back = q.back;
  parts =
      regrouped u a b p.front v ((q.front ++ w) ++ q.back) p.parts q.parts
      ∙ sym (append_assoc p.front (q.front ++ w) q.back)
      ∙ ap (λ l. l ++ q.back) (sym (append_assoc p.front q.front w));
  written = Appends-trans r s t p.front q.front p.written q.written;
}

pub sent_longer : (u v : List ℕ) (r s : Option (List ℕ)) (a b : List ℕ) → IsSentFirst u v r s a → IsSentFirst u v r s (a ++ b)
sent_longer u v r s a b p = record {
  front = p.front;
  back = p.back ++ b;
  parts = sym (append_assoc u a b) ∙ ap (λ l. l ++ b) p.parts ∙ append_assoc (p.front ++ v) p.back b;
  written = p.written;
}

pub first_of_sent : (u v : List ℕ) (r s : Option (List ℕ)) (a : List ℕ) → IsSent u v r s a → IsSentFirst u v r s a
first_of_sent u v r s a p = record { front = p.front; back = []; parts = p.parts ∙ sym (append-nil (p.front ++ v)); written = p.written }

-- the first of some bytes were sent, and more of them follow
pub first_sent : (u v : List ℕ) (r s : Option (List ℕ)) (a b : List ℕ) → IsSent u v r s a → IsSentFirst u v r s (a ++ b)
first_sent u v r s a b p = sent_longer u v r s a b (first_of_sent u v r s a p)

-- the bytes under another name
pub sent_as : (u v : List ℕ) (r s : Option (List ℕ)) (a b : List ℕ) → a ≡ b → IsSent u v r s a → IsSent u v r s b
sent_as u v r s a b is p = subst (IsSent u v r s) is p

pub first_as : (u v : List ℕ) (r s : Option (List ℕ)) (a b : List ℕ) → a ≡ b → IsSentFirst u v r s a → IsSentFirst u v r s b
first_as u v r s a b is p = subst (IsSentFirst u v r s) is p

-- ---- to the bytes that were written

-- if the buffer was empty, what was sent is what was written, followed by what is in the buffer then
pub all_written : (u v : List ℕ) (r s t : Option (List ℕ)) (a : List ℕ) → u ≡ [] → IsSent u v r s a → Appends s t v → Appends r t a
all_written u v r s t a none p q =
    let whole : a ≡ p.front ++ v = ap (λ l. l ++ a) (sym none) ∙ p.parts in
    subst (Appends r t) (sym whole) (Appends-trans r s t p.front v p.written q)

pub first_written : (u v : List ℕ) (r s t : Option (List ℕ)) (a : List ℕ) → u ≡ [] → IsSentFirst u v r s a → AppendsFirst s t v → AppendsFirst r t a
first_written u v r s t a none p q =
    let whole : a ≡ (p.front ++ v) ++ p.back = ap (λ l. l ++ a) (sym none) ∙ p.parts in
    subst (AppendsFirst r t) (sym whole) (first_longer r t (p.front ++ v) p.back (first_after r s t p.front v p.written q))

-- bytes were added to the buffer, the first of all these were written, and the buffer is empty then
pub first_flushed : (u w v bytes : List ℕ) (r s : Option (List ℕ)) → w ≡ u ++ bytes → v ≡ [] → AppendsFirst r s w → IsSentFirst u v r s bytes
first_flushed u w v bytes r s added none first = record {
  front = first.0;
  back = first.1;
  parts = sym added ∙ first.2 ∙ ap (λ l. l ++ first.1) (sym (append-nil first.0) ∙ ap (λ l. first.0 ++ l) (sym none));
  written = first.3;
}

-- bytes were added to the buffer, and then the buffer was perhaps written
pub added_sent : (u w v bytes : List ℕ) (r s : Option (List ℕ)) → w ≡ u ++ bytes → IsSent w v r s [] → IsSent u v r s bytes
added_sent u w v bytes r s added sent = record {
  front = sent.front;
  parts = sym added ∙ sym (append-nil w) ∙ sent.parts;
  written = sent.written;
}

pub added_first : (u w v bytes : List ℕ) (r s : Option (List ℕ)) → w ≡ u ++ bytes → IsSentFirst w v r s [] → IsSentFirst u v r s bytes
added_first u w v bytes r s added sent = record {
  front = sent.front;
  back = sent.back;
  parts = sym added ∙ sym (append-nil w) ∙ sent.parts;
  written = sent.written;
}
