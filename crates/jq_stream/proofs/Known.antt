-- The bytes of an input, if they are known.
use Rattle.std.proofs.Common.{◌≡◌, ℕ, true, false, List, [], ◌++◌, Option, Some, None, inl, inr, sym, ap, ◌∙◌, refl, append-nil}
use Rattle.std.specs.Io.KnownBytes.{Consumes, IsAtEnd}
use Rattle.jv_data.specs.Value.{Value}
use Rattle.jv_cut.specs.Rest.{Rest, MayFollow}
use Rattle.jv_text.specs.Stream.{clean, open_text, fault, stream, left, after_values}
use Rattle.jv_text.specs.Cutting.{HasGiven, AllGiven, fault_of, rest_of, is_finished}
use Rattle.jv_text.specs.declared.faults.Fault.{Fault}
use Rattle.jv_text.specs.declared.cutting.Cutter.{Cutter}
use Rattle.jq_stream.specs.Stopped.{IsPart}
use Rattle.jq_devices.specs.Reading.{IsWhole}

-- the bytes if they are known, else no bytes
abbrev pub known : Option (List ℕ) → List ℕ
known None = []
known (Some bytes) = bytes

pub whole_known : (remaining : Option (List ℕ)) → IsWhole (known remaining) remaining
whole_known None = tt
whole_known (Some bytes) = refl

known_end : (b : Option (List ℕ)) → IsAtEnd b → known b ≡ []
known_end None e = refl
known_end (Some bytes) e = e

pub consumed_whole : (a b : Option (List ℕ)) (fed : List ℕ) → Consumes a b fed → IsWhole (fed ++ known b) a
consumed_whole None b fed e = tt
consumed_whole (Some xs) None fed e = absurd e
consumed_whole (Some xs) (Some ys) fed e = sym e

-- ---- the values of the whole input

-- those that were given, and those that remain
pub whole_input : (cutter : Cutter) (given : List Value) (fed : List ℕ) (rn : Option (List ℕ)) → HasGiven cutter given fed → (is_finished cutter ≡ true → IsAtEnd rn)
    → stream true (fed ++ known rn) ≡ after_values given (left (fault_of cutter) (rest_of cutter) (known rn) true)
whole_input cutter given fed rn has end =
    let follows : MayFollow (is_finished cutter) (known rn) true = record { none = λ t. (known_end rn (end t), refl) } in
    has.goes true (known rn) follows

fault_left : (met : Option Fault) (f : Fault) (rest : Rest) (more : List ℕ) (given : List Value) → met ≡ Some f
    → after_values given (left met rest more true) ≡ record { values = given; end = fault f }
fault_left met f rest more given e = ap (λ m. after_values given (left m rest more true)) e ∙ ap (λ vs. record { values = vs; end = fault f }) (append-nil given)

-- if a fault was met, the bytes that were not read change nothing
pub faulted_input : (cutter : Cutter) (given : List Value) (fed : List ℕ) (rn : Option (List ℕ)) (f : Fault) → HasGiven cutter given fed → (is_finished cutter ≡ true → IsAtEnd rn) → fault_of cutter ≡ Some f
    → stream true (fed ++ known rn) ≡ record { values = given; end = fault f }
faulted_input cutter given fed rn f has end met = whole_input cutter given fed rn has end ∙ fault_left (fault_of cutter) f (rest_of cutter) (known rn) given met

-- ---- a part of the input that has no fault

pub part_read : (given : List Value) (fed : List ℕ) (ro rn : Option (List ℕ)) → Consumes ro rn fed → AllGiven false given fed → IsPart fed ro rn
part_read given fed ro rn consumed all = elim all [
  | inl e ↦ record { consumed = consumed; no_fault = λ f h. let both : clean ≡ fault f = ap (λ vs. vs.end) (sym e) ∙ h in cc }
  | inr e ↦ record { consumed = consumed; no_fault = λ f h. let both : open_text ≡ fault f = ap (λ vs. vs.end) (sym e) ∙ h in cc }
]

pub part_values : (given : List Value) (fed : List ℕ) → AllGiven false given fed → (stream false fed).values ≡ given
part_values given fed all = elim all [ inl e ↦ ap (λ vs. vs.values) e | inr e ↦ ap (λ vs. vs.values) e ]
