-- The paths of a run, output by output.
use Rattle.std.proofs.Common.{◌≡◌, ◌∙◌, List, [], ◌∷◌, ◌++◌, map, refl, ap, sym}
use Rattle.std.proofs.lemmas.List.{append-nil, append_assoc}
use Rattle.jv_data.specs.Value.{Value}
use Rattle.jq_meaning.specs.Runs.{Item, Run, path_array, paths_in, value_in}
use Rattle.jq_meaning.specs.machine.Machine.{Produces}
use Rattle.jq_state.specs.Items.{item_of}
use Rattle.jq_state.specs.Nexts.{stands}
use Rattle.jq_state.specs.declared.next.Next.{Next}
use Rattle.jq_state.specs.declared.states.State.{State}
use Rattle.jq_state.specs.declared.next.Next.TheVariants as next
use Rattle.jq_state.specs.declared.items.Item as items
use Rattle.jq_transitions.specs.Outcomes.{ending_of}
use Rattle.jq_transitions.specs.declared.backtracking.outcomes.Ending as ends
use Rattle.jq_engine.specs.private.Reaching.{HasReached}
use Rattle.jq_engine.specs.private.Updates.{BeginsWith}
use Rattle.jq_engine.specs.declared.running.Reached.{Reached}
use Rattle.jq_engine.specs.declared.running.Reached.TheVariants as reached

abbrev pub path_values : Run Item → List Value
path_values r = map value_in (paths_in r).items

-- A run is still to come whose paths, after those that are known, are all paths of another run, and its ending is the other's.
pub record PathsLeft (inputs : Run Value) (s : State) (n : Next) (all : Run Item) (known : List Value) : Type 0 where
  pub rest : Run Item
  pub produces : Produces (stands inputs s n) rest
  pub paths : map value_in all.items ≡ known ++ path_values rest
  pub ending : all.ending ≡ rest.ending

module _ {inputs : Run Value} {s : State} {n : Next} {all : Run Item} {known : List Value} where
  pub none_yet : Produces (stands inputs s n) all → known ≡ [] → PathsLeft inputs s n (paths_in all) known
  none_yet p e = record { rest = all; produces = p; paths = ap (λ vs. vs ++ path_values all) (sym e); ending = refl }

  pub one_more : PathsLeft inputs s n all known → (t : State) (x : items.Item) (more : List Value) → ((rest : Run Item) → Produces (stands inputs s n) rest → HasReached inputs rest t (reached.Output x)) → more ≡ known ++ value_in (path_array (item_of x)) ∷ [] → PathsLeft inputs t next.GoBack all more
  one_more left t x more run e =
      let h = run left.rest left.produces in
      let w = value_in (path_array (item_of x)) in
      record {
        rest = h.0;
        produces = h.2;
        paths = left.paths ∙ ap (λ (r : Run Item). known ++ path_values r) h.1 ∙ sym (append_assoc known (w ∷ []) (path_values h.0)) ∙ ap (λ vs. vs ++ path_values h.0) (sym e);
        ending = left.ending ∙ ap (λ (r : Run Item). r.ending) h.1;
      }

  pub all_found : PathsLeft inputs s n all known → (t : State) (e : ends.Ending) → ((rest : Run Item) → Produces (stands inputs s n) rest → HasReached inputs rest t (reached.End e)) → (map value_in all.items ≡ known) × (all.ending ≡ ending_of e)
  all_found left t e run =
      let h = run left.rest left.produces in
      (left.paths ∙ ap (λ (r : Run Item). known ++ path_values r) h ∙ append-nil known, left.ending ∙ ap (λ (r : Run Item). r.ending) h)

-- what a run comes to begins it
pub begins : (inputs : Run Value) (r : Run Item) (s : State) (a : Reached) → HasReached inputs r s a → BeginsWith r a
begins inputs r s (reached.Output x) h = (h.0, h.1)
begins inputs r s (reached.End e) h = h
