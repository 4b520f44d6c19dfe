use Rattle.std.proofs.Common.{◌≡◌, map, drop}
use Rattle.jv_data.specs.View.{view}
use Rattle.jv_value.specs.Results.{and_then}
use Rattle.jv_value.specs.SetPath.{setpath_of}
use Rattle.jv_value.specs.private.Frames.{put_into_all}
use Rattle.jv_value.proofs.setting.setpath.Given as goal

-- the new value at the rest of the path in the part, put back into the frames, is the result
abbrev pub invariant-loop-key : goal.invariant-loop-key
invariant-loop-key l = and_then (setpath_of (view l.part) (map view (drop l.key-index l.path)) (view l.new)) (put_into_all l.frames.items) ≡ setpath_of (view l.fn.value) (map view l.path) (view l.new)
