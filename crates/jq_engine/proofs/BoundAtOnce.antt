-- A variable is bound to the output of a simple filter.
use Rattle.std.proofs.Common.{◌≡◌, ◌∷◌, [], List, refl, ap}
use Rattle.jv_data.specs.Value.{Value}
use Rattle.jq_tree.specs.Tree.{Name, Tree, bind_as, whole}
use Rattle.jq_meaning.specs.Env.{bound, value_of}
use Rattle.jq_meaning.specs.Runs.{Item, plain, as_value}
use Rattle.jq_meaning.specs.machine.State.{Scope, with_env, Frame, ForkPoint, body, source, state, evaluate, give, matched, moves}
use Rattle.jq_engine.specs.private.Leading.{Advances, here, by_transition}
use Rattle.jq_engine.specs.private.Tails.{Arrives}
use Rattle.jq_engine.proofs.Leading.{and_then}

-- the filter after the `|` is evaluated in its binding
pub binds : (p : Scope) (t f : Tree) (n : Name) (x : Item) (v w : Value) (k : List Frame) (fs : List ForkPoint) → as_value x ≡ plain v
    → ((l : List Frame) → Advances (state (evaluate t p (plain v)) l fs) (state (give (plain w)) l fs))
    → Arrives (state (evaluate (bind_as t (whole n) f) p x) k fs) (state (evaluate f (with_env (bound (value_of n w) p.env) p) x) k fs)
binds p t f n x v w k fs e g =
    let waits = source (whole n) (body f x) p ∷ k in
    record {
      from = state (matched [] (body f x) (with_env (bound (value_of n w) p.env) p)) k fs;
      advances = by_transition (ap (λ y. moves (state (evaluate t p y) waits fs)) e) (and_then (g waits) (by_transition refl (by_transition refl here)));
      steps = refl;
    }
