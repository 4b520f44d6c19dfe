-- The values that a cutter returns.
use Rattle.std.proofs.Common.{◌≡◌, ℕ, ◌<◌, Bool, false, List, [], ◌∷◌, ◌++◌, length, Option, Some, inl, sym, ap, ◌∙◌, refl, subst, length-append, arith}
use Rattle.jv_data.specs.Value.{Value}
use Rattle.jv_cut.specs.Cut.{cut, cut_from}
use Rattle.jv_text.specs.Stream.{stream, left}
use Rattle.jv_text.specs.Cutting.{HasGiven, AllGiven, EndsIn, fault_of, rest_of, is_finished}
use Rattle.jv_text.specs.declared.faults.Fault.{Fault}
use Rattle.jv_text.specs.declared.faults.Fault.TheVariants.{Malformed, Unfinished, NotWhole, TooDeep, TooLong, NoMemory}
use Rattle.jv_text.specs.declared.cutting.Cutter.{Cutter}

-- ---- the remaining values of what was fed

abbrev pub values_left : Cutter → List Value
values_left c = (left (fault_of c) (rest_of c) [] (is_finished c)).values

left_of_given : (c : Cutter) (given : List Value) (fed : List ℕ) → HasGiven c given fed → (stream (is_finished c) (fed ++ [])).values ≡ given ++ values_left c
left_of_given c given fed s = ap (λ vs. vs.values) (s.goes (is_finished c) [] (record { none = λ t. (refl, t) }))

shorter : (given left_old left_new : List Value) (v : Value) → given ++ left_old ≡ (given ++ v ∷ []) ++ left_new → length left_new < length left_old
shorter given left_old left_new v e =
    let lengths : length (given ++ left_old) ≡ length ((given ++ v ∷ []) ++ left_new) = ap length e in
    let old = length-append given left_old in
    let new = length-append (given ++ v ∷ []) left_new in
    let one = length-append given (v ∷ []) in
    omega arith

-- fewer values remain after each
pub fewer_left : (c d : Cutter) (given : List Value) (fed : List ℕ) (v : Value) → is_finished d ≡ is_finished c → HasGiven c given fed → HasGiven d (given ++ v ∷ []) fed → length (values_left d) < length (values_left c)
fewer_left c d given fed v same before after =
    let one = left_of_given c given fed before in
    let other = left_of_given d (given ++ v ∷ []) fed after in
    let both : given ++ values_left c ≡ (given ++ v ∷ []) ++ values_left d = sym one ∙ ap (λ e. (stream e (fed ++ [])).values) (sym same) ∙ other in
    shorter given (values_left c) (values_left d) v both

-- ---- faults

-- every fault but out of memory is kept by the cutter that met it
pub met_fault : (f : Fault) (met : Option Fault) (ended : Bool) (given : List Value) (fed : List ℕ) → (f ≡ NoMemory → ⊥) → EndsIn f met ended given fed → met ≡ Some f
met_fault (Malformed at) met ended given fed some e = e.1
met_fault (Unfinished at) met ended given fed some e = e.1
met_fault (NotWhole at) met ended given fed some e = e.1
met_fault (TooDeep at) met ended given fed some e = e.1
met_fault (TooLong at) met ended given fed some e = e.1
met_fault NoMemory met ended given fed some e = absurd (some refl)

-- ---- how much was given

-- without bytes there is no value
pub nothing_given : AllGiven false [] []
unfolding cut cut_from
nothing_given = inl refl

pub all_unended : (ended : Bool) (given : List Value) (fed : List ℕ) → ended ≡ false → AllGiven ended given fed → AllGiven false given fed
all_unended ended given fed e all = subst (λ b. AllGiven b given fed) e all
