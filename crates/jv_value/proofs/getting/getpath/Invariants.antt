use Rattle.std.proofs.Common.{◌≡◌, map, drop}
use Rattle.jv_data.specs.View.{view}
use Rattle.jv_value.specs.GetPath.{getpath_of}
use Rattle.jv_value.proofs.getting.getpath.Given as goal

-- the remaining path, from the part that was reached
abbrev pub invariant-loop-key : goal.invariant-loop-key
invariant-loop-key l = getpath_of (view l.fn.value) (map view l.path) ≡ getpath_of (view l.part) (map view (drop l.key-index l.path))
