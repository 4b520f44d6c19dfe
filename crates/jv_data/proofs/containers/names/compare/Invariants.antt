use Rattle.std.proofs.Common.{◌≡◌, drop}
use Rattle.std.specs.Cmp.Lexicographic.{slice_cmp}
use Rattle.std.specs.Ordering.{nat_cmp}
use Rattle.std.specs.Slice.Iter.{iter_rest}
use Rattle.jv_data.proofs.containers.names.compare.Given as goal

-- the result depends on the remaining bytes
abbrev pub invariant-loop-byte : goal.invariant-loop-byte
invariant-loop-byte l = slice_cmp nat_cmp l.left l.right ≡ slice_cmp nat_cmp (drop l.byte-index l.left) (iter_rest l.others)
