-- Unions that wait for one another.
use Rattle.std.proofs.Common.{◌≡◌, List, [], ◌∷◌, ◌++◌, refl, ap}
use Rattle.jv_data.specs.Value.{Members}
use Rattle.jv_arith.specs.private.Uniting.{after}
use Rattle.jv_arith.specs.declared.objects.Open.{Open}

-- the members of the first union of several, each of which waits for the next one, if the last one waits for ms
abbrev pub after_all : List Open → Members → Members
after_all [] ms = ms
after_all (o ∷ os) ms = after o (after_all os ms)

pub after_all-last : (os : List Open) (o : Open) (ms : Members) → after_all (os ++ o ∷ []) ms ≡ after_all os (after o ms)
after_all-last [] o ms = refl
after_all-last (p ∷ os) o ms = ap (after p) (after_all-last os o ms)
