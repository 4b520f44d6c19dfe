use Rattle.std.proofs.Common.{◌≡◌, length, map}
use Rattle.jq_state.specs.Buckets.{bucket_of}
use Rattle.jq_state.specs.Chained.{Latest, Earlier}
use Rattle.jq_state.proofs.programs.ProgramBindings.with_modify.Given as goal

abbrev pub invariant-loop-item : goal.invariant-loop-item
invariant-loop-item l = record {
  buckets : length l.latest.items ≡ 128;
  places : length l.earlier.items ≡ l.item-index;
  chains : Latest (map bucket_of l.item-items) l.item-index l.latest.items;
  links : Earlier (map bucket_of l.item-items) l.earlier.items;
}
