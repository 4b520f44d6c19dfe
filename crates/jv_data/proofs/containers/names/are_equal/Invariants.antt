use Rattle.std.proofs.Common.{◌≡◌, drop}
use Rattle.std.specs.Slice.Iter.{iter_rest}
use Rattle.jv_data.proofs.containers.names.are_equal.Given as goal

-- the lists are the same if what is left of them is
abbrev pub invariant-loop-byte : goal.invariant-loop-byte
invariant-loop-byte l = drop l.byte-index l.left ≡ iter_rest l.others → l.left ≡ l.right
