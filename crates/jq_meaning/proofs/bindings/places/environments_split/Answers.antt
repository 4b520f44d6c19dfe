use Rattle.jq_meaning.proofs.environments.Parts.{inner_places, inner_walks, last_is_innermost, outer_places, outer_places_from_outside, outer_binders}
use Rattle.jq_meaning.proofs.environments.Walks.{counts_add, with_append}
use Rattle.jq_meaning.proofs.bindings.places.environments_split.Goals as goal

pub returns : goal.returns
returns c = record {
  lists = with_append;
  last = last_is_innermost;
  count = counts_add;
  inner = inner_places;
  walk = inner_walks;
  outer = outer_places;
  from_outside = outer_places_from_outside;
  binders = outer_binders;
}
