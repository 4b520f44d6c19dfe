-- Known bytes that remain.
use Rattle.std.proofs.Common.{◌≡◌, ℕ, List, Option, None, Some, ◌++◌, take, sym, subst}
use Rattle.std.specs.Io.KnownBytes.{Consumes, Keeps}

pub Keeps-none_read : (a b : Option (List ℕ)) (n : ℕ) (buf : List ℕ) → n ≡ 0 → Consumes a b (take n buf) → Keeps a b
Keeps-none_read None b n buf none_read consumed = tt
Keeps-none_read (Some x) None n buf none_read consumed = absurd consumed
Keeps-none_read (Some x) (Some y) n buf none_read consumed = sym (subst (λ k. x ≡ take k buf ++ y) none_read consumed)
