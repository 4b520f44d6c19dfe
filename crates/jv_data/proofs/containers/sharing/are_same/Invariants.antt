use Rattle.std.proofs.Common.{◌≡◌, drop, map, string_bytes}
use Rattle.std.specs.Slice.Iter.{iter_rest}
use Rattle.jv_data.proofs.containers.sharing.are_same.Given as goal

-- the lists are the same if what is left of them is
abbrev pub invariant-loop-text : goal.invariant-loop-text
invariant-loop-text l = map string_bytes (drop l.text-index l.left) ≡ map string_bytes (iter_rest l.others) → map string_bytes l.left ≡ map string_bytes l.right
