-- What the machine's step comes to, by what the parts of a state are.
use Rattle.std.proofs.Common.{◌≡◌, ◌∙◌, ◌∷◌, List, [], sym, ap}
use Rattle.jq_meaning.specs.Runs.{Item}
use Rattle.jq_meaning.specs.machine.Giving.{receive}
use Rattle.jq_meaning.specs.machine.Machine.{step_of}
use Rattle.jq_meaning.specs.machine.State.{Frame, ForkPoint, state, give, go_back, moves, outputs}
use Rattle.jq_meaning.specs.machine.State as machine

-- an item that comes to a frame
pub gives : (x : Item) {k l : List Frame} {fs gs : List ForkPoint} {f : Frame} {s : machine.State} → k ≡ f ∷ l → gs ≡ fs → s ≡ receive f x l gs → step_of (give x) k fs ≡ moves s
gives x {k} {l} {fs} {gs} {f} {s} e g h = ap (λ m. step_of (give x) m fs) e ∙ ap (λ hs. moves (receive f x l hs)) (sym g) ∙ ap moves (sym h)

-- an item that is an output
pub hands_out : (x : Item) {k l : List Frame} {fs gs : List ForkPoint} → k ≡ [] → l ≡ [] → gs ≡ fs → step_of (give x) k fs ≡ outputs x (state go_back l gs)
hands_out x {k} {l} {fs} {gs} e h g =
    ap (λ m. step_of (give x) m fs) e ∙ ap (λ m. outputs x (state go_back m fs)) (sym h) ∙ ap (λ hs. outputs x (state go_back l hs)) (sym g)
