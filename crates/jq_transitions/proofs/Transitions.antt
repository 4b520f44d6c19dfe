-- What the machine's step comes to, by what the parts of a state are.
use Rattle.std.proofs.Common.{◌≡◌, ◌∙◌, ◌∷◌, List, [], Bool, true, false, refl, sym, ap, codes}
use Rattle.jv_data.specs.Value.{Value, string}
use Rattle.jq_meaning.specs.machine.Machine.{resume_deliver}
use Rattle.jq_meaning.specs.machine.State.{Cell, Frame, ForkPoint, state, go_back, raise}
use Rattle.jq_state.specs.Views.{is_empty}

-- an update that gave no state, and one that did
pub no_state : (c : Cell) (k : List Frame) (fs : List ForkPoint) (b : Bool) (v : Value) → b ≡ is_empty c → b ≡ true → v ≡ string (codes "Invalid path expression") → state (raise v) k fs ≡ resume_deliver c k fs
no_state [] k fs b v e f g = ap (λ w. state (raise w) k fs) g
no_state (x ∷ c) k fs b v e f g = absurd (cc)

pub some_state : (c : Cell) (k : List Frame) (fs : List ForkPoint) (b : Bool) → b ≡ is_empty c → b ≡ false → state go_back k fs ≡ resume_deliver c k fs
some_state [] k fs b e f = absurd (cc)
some_state (x ∷ c) k fs b e f = refl

-- the run goes back
pub goes_back : {k l : List Frame} {fs gs : List ForkPoint} → l ≡ k → gs ≡ fs → state go_back k fs ≡ state go_back l gs
goes_back {k} {l} {fs} {gs} f g = ap (λ m. state go_back m fs) (sym f) ∙ ap (λ hs. state go_back l hs) (sym g)
