-- The laws of updates.
use Rattle.std.specs.Prelude.{◌≡◌, ℕ}
use Rattle.jq_tree.specs.Tree.{Tree}
use Rattle.jq_tree.specs.WrittenOut.{modify}
use Rattle.jq_meaning.specs.Env.{Env, Binding, bound}
use Rattle.jq_meaning.specs.Meaning.{meaning}
use Rattle.jq_meaning.specs.Runs.{Item}
use Rattle.jq_meaning.specs.updates.Known.{HasModify}
use Rattle.jq_meaning.specs.laws.Updating.{update_run}

-- `f |= g` is its turns: at each call depth, in all bindings with the prelude's `_modify`, on each input, inside `path(f)` too.
abbrev pub UpdatesAreTurns : Type 0
UpdatesAreTurns = (depth : ℕ) (f g : Tree) (e : Env) (level : ℕ) (x : Item) → HasModify e → meaning depth (modify f g) e level x ≡ update_run depth f g e level x

-- Further bindings leave the prelude's `_modify` alone.
abbrev pub ModifyStays : Type 0
ModifyStays = (b : Binding) (e : Env) → HasModify e → HasModify (bound b e)
