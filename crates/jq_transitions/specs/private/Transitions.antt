-- The machine's transitions from the state that a run's state represents.
use Rattle.std.specs.Prelude.{◌<◌, ℕ, List, map, reverse}
use Rattle.jv_data.specs.Value.{Value}
use Rattle.jv_text.specs.Formats.{Text}
use Rattle.jq_natives.specs.Answers.{Answer}
use Rattle.jq_tree.specs.Tree.{Name, parts_of, patterns_of}
use Rattle.jq_meaning.specs.Env.{bound, value_of}
use Rattle.jq_ast.specs.Named.{name_of, named, named_as_part, named_as_pattern}
use Rattle.jq_ast.specs.declared.names.Name as ast
use Rattle.jq_ast.specs.declared.tree.Member.{Member}
use Rattle.jq_ast.specs.declared.tree.Pattern.{Pattern}
use Rattle.jq_ast.specs.declared.tree.Piece.{Piece}
use Rattle.jq_ast.specs.declared.tree.Tree.{Tree}
use Rattle.jq_meaning.specs.machine.Giving.{fill_hole, receive}
use Rattle.jq_meaning.specs.machine.Matching.{match_part}
use Rattle.jq_meaning.specs.machine.State.{with_env}
use Rattle.jq_meaning.specs.Runs.{Item}
use Rattle.jq_meaning.specs.machine.State as machine
use Rattle.jq_state.specs.Environments.{count_of}
use Rattle.jq_state.specs.Nexts.{ComesTo, Transition, on_remaining, transition}
use Rattle.jq_state.specs.Steps.{fold_of, hole_of}
use Rattle.jq_state.specs.declared.frames.Scope.{Scope}
use Rattle.jq_state.specs.declared.next.Next.{Next}
use Rattle.jq_state.specs.declared.next.Remaining.{Remaining}
use Rattle.jq_state.specs.declared.states.State.{State}
use Rattle.jq_state.specs.declared.steps.Fold.{Fold}

-- What a transition does that changes nothing in a state, for each state in which the scope exists.
abbrev pub ComesAnywhere : Scope → Transition → Next → Type 0
ComesAnywhere p go n = (s : State) → p.env < count_of s.nodes → ComesTo (transition s p go) s n

-- a scope in which a name is also bound to a value
abbrev pub binding : Name → Value → machine.Scope → machine.Scope
binding n v p = with_env (bound (value_of n v) p.env) p

-- the frame of a fold's start, made for an input, gets an item
abbrev pub fold_begun : Tree → Pattern → Fold → (input item : Item) → Transition
fold_begun t q f x y p = receive (machine.fold_start (named t) (named_as_pattern q) (fold_of f) p x) y

-- ---- matching

abbrev pub items_left : List Pattern → ℕ → Value → machine.Task
items_left qs at v = machine.items_from (patterns_of (map named_as_pattern qs)) at v

abbrev pub members_left : List Member → Value → machine.Task
members_left ms v = machine.members_of (parts_of (map named_as_part ms)) v

-- a part is matched in a scope that depends on it
abbrev pub part_matched : Remaining → Answer → Pattern → (Value → machine.Scope → machine.Scope) → Transition
part_matched r a q bind p = on_remaining r (match_part a (named_as_pattern q) (λ w. bind w p))

-- ---- strings

-- the text of a filter in a string is known, with the text in front of it and after it
abbrev pub filled : Text → (front back : List ℕ) → ast.Name → List (Piece Tree) → Item → Transition
filled t front back f ps x p = fill_hole t (name_of f) front back (reverse (map hole_of ps)) p x
