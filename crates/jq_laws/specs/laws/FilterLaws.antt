-- When two filters have the same meaning.
use Rattle.std.specs.Prelude.{◌≡◌, ℕ}
use Rattle.jq_tree.specs.Tree.{Tree}
use Rattle.jq_meaning.specs.Env.{Env}
use Rattle.jq_meaning.specs.Runs.{Item}
use Rattle.jq_meaning.specs.Meaning.{meaning}

-- Two filters mean the same: at each call depth, in all bindings, on each input, inside `path(f)` too.
pub record MeanTheSame (f g : Tree) : Type 0 where
  pub run : (depth : ℕ) (e : Env) (level : ℕ) (x : Item) → meaning depth f e level x ≡ meaning depth g e level x
