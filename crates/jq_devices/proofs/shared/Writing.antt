-- Known bytes to which the first of some bytes were appended.
use Rattle.std.proofs.Common.{ℕ, List, [], ◌++◌, Option, Result, Ok, Err, OnOk, OnErr, refl, sym, ap, ◌∙◌, append_assoc, append-nil}
use Rattle.std.specs.Io.KnownBytes.{Appends}
use Rattle.std.proofs.KnownBytes.{Appends-nil, Appends-trans}
use Rattle.jq_devices.specs.Writing.{AppendsFirst}

pub first_nothing : (r : Option (List ℕ)) (bytes : List ℕ) → AppendsFirst r r bytes
first_nothing r bytes = ([], bytes, refl, Appends-nil r)

pub first_whole : (r s : Option (List ℕ)) (bytes : List ℕ) → Appends r s bytes → AppendsFirst r s bytes
first_whole r s bytes p = (bytes, [], sym (append-nil bytes), p)

pub first_longer : (r s : Option (List ℕ)) (a b : List ℕ) → AppendsFirst r s a → AppendsFirst r s (a ++ b)
first_longer r s a b p = (p.0, p.1 ++ b, ap (λ l. l ++ b) p.2 ∙ append_assoc p.0 p.1 b, p.3)

pub first_after : (r s t : Option (List ℕ)) (a b : List ℕ) → Appends r s a → AppendsFirst s t b → AppendsFirst r t (a ++ b)
first_after r s t a b p q = (a ++ q.0, q.1, ap (λ l. a ++ l) q.2 ∙ sym (append_assoc a q.0 q.1), Appends-trans r s t a q.0 p q.3)

pub first_result : {A E : Type 0} (result : Result A E) (r s : Option (List ℕ)) (bytes : List ℕ) → OnOk result (Appends r s bytes) → OnErr result (AppendsFirst r s bytes) → AppendsFirst r s bytes
first_result (Ok a) r s bytes ok err = first_whole r s bytes ok
first_result (Err e) r s bytes ok err = err
