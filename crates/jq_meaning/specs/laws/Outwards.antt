-- Environments without their innermost bindings.
use Rattle.std.specs.Prelude.{ℕ, zero, suc}
use Rattle.jq_meaning.specs.Env.{Env, outermost, bound}

-- The environment without its `i` innermost bindings: its first binding is the one at place `i`.
abbrev pub from_place : (i : ℕ) → Env → Env
from_place zero e = e
from_place (suc i) (outermost inputs) = outermost inputs
from_place (suc i) (bound b e) = from_place i e
