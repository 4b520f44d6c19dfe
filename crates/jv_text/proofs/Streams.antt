-- A stream after some of its values were returned.
use Rattle.std.proofs.Common.{◌≡◌, inl, inr, ℕ, List, [], ◌++◌, take, Option, Some, None, Err, refl, sym, ap, ◌∙◌, subst, append-nil}
use Rattle.jv_cut.specs.Cut as cut
use Rattle.jv_cut.specs.Finds.{IsFirst, NoneLeft, IsFault}
use Rattle.jv_cut.specs.Rest.{Rest, cut_of, cut_with, without, MayFollow, SameTexts}
use Rattle.jv_cut.specs.declared.splitting.CutFault.{CutFault}
use Rattle.jv_data.specs.Value.{Value}
use Rattle.jv_text.specs.Reading.{reading, fault_at, FaultIs}
use Rattle.jv_text.specs.Stream.{clean, open_text, fault, after_text, values_of, stream, after_values, left, Stands}
use Rattle.jv_text.specs.Cutting.{AllGiven, EndsIn, IsMet}
use Rattle.jv_text.specs.private.Met.{met_by}
use Rattle.jv_text.specs.declared.faults.Fault.{Fault}
use Rattle.jv_text.specs.declared.faults.Fault.TheVariants.{Malformed, Unfinished, NotWhole, TooDeep, TooLong, NoMemory}

-- the bytes before the first text were skipped
pub stands_passed : (r s : Rest) (given : List Value) (fed : List ℕ) → SameTexts r s → Stands None r given fed → Stands None s given fed
stands_passed r s given fed same h = record {
  goes = λ later more m.
      let n : MayFollow r.ended more later = record { none = λ t. m.none (same.ended ∙ t) } in
      h.goes later more n ∙ ap (λ c. after_values given (values_of c)) (same.cut later more n);
}

-- the text's fault was found
pub stands_fault : (r : Rest) (given : List Value) (fed : List ℕ) (n : ℕ) (f : Fault) → IsFirst r n → reading r.place (take n r.unread) ≡ Err f → Stands None r given fed → Stands (Some f) r given fed
stands_fault r given fed n f first e h = record {
  goes = λ later more m.
      h.goes later more m ∙ ap (λ c. after_values given (values_of c)) (first.cut later more m) ∙ ap (λ a. after_values given (after_text a (values_of (cut_with (without r n) more later)))) e;
}

pub stands_problem : (r : Rest) (given : List Value) (fed : List ℕ) (p : CutFault) → IsFault r p → Stands None r given fed → Stands (Some (fault_at p r.place)) r given fed
stands_problem r given fed p stop h = record { goes = λ later more m. h.goes later more m ∙ ap (λ c. after_values given (values_of c)) (stop.cut later more m) }

as_it_is : (r : Rest) → MayFollow r.ended [] r.ended
as_it_is r = record { none = λ t. (refl, t) }

-- the stream of the bytes that were fed ends with the fault
pub ends_here : (f : Fault) (r : Rest) (given : List Value) (fed : List ℕ) → Stands (Some f) r given fed → stream r.ended fed ≡ record { values = given; end = fault f }
ends_here f r given fed s = ap (stream r.ended) (sym (append-nil fed)) ∙ s.goes r.ended [] (as_it_is r) ∙ ap (λ vs. record { values = vs; end = fault f }) (append-nil given)

all_of : (r : Rest) (given : List Value) (fed : List ℕ) (c : cut.Cut) → Stands None r given fed → cut_of r ≡ c → stream r.ended fed ≡ after_values given (values_of c)
all_of r given fed c s e =
    ap (stream r.ended) (sym (append-nil fed)) ∙ s.goes r.ended [] (as_it_is r) ∙ ap (λ bs. after_values given (values_of (cut.cut r.ended r.place bs))) (append-nil r.unread) ∙ ap (λ d. after_values given (values_of d)) e

pub all_given : (r : Rest) (given : List Value) (fed : List ℕ) → Stands None r given fed → NoneLeft r → AllGiven r.ended given fed
all_given r given fed s none =
    elim none.cut [
      | inl c ↦ inl (all_of r given fed _ s c ∙ ap (λ vs. record { values = vs; end = clean }) (append-nil given))
      | inr c ↦ inr (all_of r given fed _ s c ∙ ap (λ vs. record { values = vs; end = open_text }) (append-nil given))
    ]

pub met_some : (f : Fault) → (f ≡ NoMemory → ⊥) → Some f ≡ met_by f
met_some (Malformed at) h = refl
met_some (Unfinished at) h = refl
met_some (NotWhole at) h = refl
met_some (TooDeep at) h = refl
met_some (TooLong at) h = refl
met_some NoMemory h = absurd (h refl)

met : (f : Fault) (m : Option Fault) (r : Rest) (given : List Value) (fed : List ℕ) → m ≡ Some f → Stands m r given fed → IsMet f m r.ended given fed
met f m r given fed e s = (ends_here f r given fed (subst (λ o. Stands o r given fed) e s), e)

-- a fault that was found stays
pub ends_in : (f : Fault) (m : Option Fault) (r : Rest) (given : List Value) (fed : List ℕ) → m ≡ Some f → Stands m r given fed → EndsIn f m r.ended given fed
ends_in (Malformed at) m r given fed e s = met (Malformed at) m r given fed e s
ends_in (Unfinished at) m r given fed e s = met (Unfinished at) m r given fed e s
ends_in (NotWhole at) m r given fed e s = met (NotWhole at) m r given fed e s
ends_in (TooDeep at) m r given fed e s = met (TooDeep at) m r given fed e s
ends_in (TooLong at) m r given fed e s = met (TooLong at) m r given fed e s
ends_in NoMemory m r given fed e s = tt

pub record Stopped (f : Fault) (m : Option Fault) (r : Rest) (given : List Value) (fed : List ℕ) : Type 0 where
  pub stands : Stands m r given fed
  pub ends : EndsIn f m r.ended given fed

stopped : (f : Fault) (m : Option Fault) (r : Rest) (given : List Value) (fed : List ℕ) → m ≡ Some f → Stands (Some f) r given fed → Stopped f m r given fed
stopped f m r given fed e s = let t = subst (λ o. Stands o r given fed) (sym e) s in record { stands = t; ends = ends_in f m r given fed e t }

-- the first text has no value
pub fails_first : (f : Fault) (r : Rest) (given : List Value) (fed : List ℕ) (n : ℕ) → IsFirst r n → FaultIs f (reading r.place (take n r.unread)) → Stands None r given fed → Stopped f (met_by f) r given fed
fails_first (Malformed at) r given fed n i e s = stopped (Malformed at) _ r given fed refl (stands_fault r given fed n (Malformed at) i e s)
fails_first (Unfinished at) r given fed n i e s = stopped (Unfinished at) _ r given fed refl (stands_fault r given fed n (Unfinished at) i e s)
fails_first (NotWhole at) r given fed n i e s = stopped (NotWhole at) _ r given fed refl (stands_fault r given fed n (NotWhole at) i e s)
fails_first (TooDeep at) r given fed n i e s = stopped (TooDeep at) _ r given fed refl (stands_fault r given fed n (TooDeep at) i e s)
fails_first (TooLong at) r given fed n i e s = stopped (TooLong at) _ r given fed refl (stands_fault r given fed n (TooLong at) i e s)
fails_first NoMemory r given fed n i e s = record { stands = s; ends = tt }

-- no text can be read here
pub stops_here : (f : Fault) (r : Rest) (given : List Value) (fed : List ℕ) (p : CutFault) → f ≡ fault_at p r.place → IsFault r p → Stands None r given fed → Stopped f (Some f) r given fed
stops_here f r given fed p e i s = stopped f (Some f) r given fed refl (subst (λ g. Stands (Some g) r given fed) (sym e) (stands_problem r given fed p i s))

pub given_first : (m : Option Fault) (r : Rest) (given : List Value) (fed : List ℕ) → Stands m r given fed → (rest : List Value) × ((stream r.ended fed).values ≡ given ++ rest)
given_first m r given fed s = ((left m r [] r.ended).values, ap (λ t. t.values) (ap (stream r.ended) (sym (append-nil fed)) ∙ s.goes r.ended [] (as_it_is r)))
