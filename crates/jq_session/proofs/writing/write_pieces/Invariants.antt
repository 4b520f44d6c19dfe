use Rattle.std.proofs.Common.{◌≡◌, ◌++◌, [], take}
use Rattle.jq_devices.specs.Watched.{device_of, failures_of}
use Rattle.jq_pages.specs.Contents.{folded_of, paged_in}
use Rattle.jq_pages.specs.Folds.{head}
use Rattle.jq_session.specs.private.Parts.{part_in}
use Rattle.jq_session.specs.private.Writing.{IsPassed}
use Rattle.jq_session.proofs.Passing.{joined_pages}
use Rattle.jq_session.proofs.writing.write_pieces.Given as goal

abbrev pub invariant-loop-j : goal.invariant-loop-j
invariant-loop-j g l = record {
  passed : IsPassed [] l.gathered.bytes.items (g.W.Write.contents (device_of l.fn.writer)) (g.W.Write.contents (device_of l.writer))
      (part_in l.part (head (folded_of l.pages)) ++ joined_pages (part_in l.part) (take l.j (paged_in l.pages)));
  unfailed : failures_of l.writer ≡ failures_of l.fn.writer;
}
