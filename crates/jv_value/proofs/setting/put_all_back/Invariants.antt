use Rattle.std.proofs.Common.{◌≡◌, length}
use Rattle.jv_data.specs.View.{view}
use Rattle.jv_value.specs.private.Frames.{put_into_all}
use Rattle.jv_value.proofs.setting.put_all_back.Given as goal

abbrev pub invariant-loop-frame : goal.invariant-loop-frame
invariant-loop-frame l = put_into_all l.frames.items (view l.part) ≡ put_into_all l.fn.frames.items (view l.fn.part)

abbrev pub decreases-loop-frame : goal.decreases-loop-frame
decreases-loop-frame l = length l.frames.items
