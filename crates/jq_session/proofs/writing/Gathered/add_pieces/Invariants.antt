use Rattle.std.proofs.Common.{◌≡◌, map, take}
use Rattle.std.specs.List.{flat_map}
use Rattle.jq_devices.specs.Watched.{device_of, failures_of}
use Rattle.jq_pages.specs.Pieces.{piece_view}
use Rattle.jq_session.specs.private.Parts.{part_in}
use Rattle.jq_session.specs.private.Writing.{IsPassed}
use Rattle.jq_session.proofs.writing.Gathered.add_pieces.Given as goal

abbrev pub invariant-loop-piece : goal.invariant-loop-piece
invariant-loop-piece g l = record {
  passed : IsPassed l.fn.self.bytes.items l.self.bytes.items (g.W.Write.contents (device_of l.fn.writer)) (g.W.Write.contents (device_of l.writer))
      (flat_map (part_in l.part) (map piece_view (take l.piece-index l.pieces)));
  unfailed : failures_of l.writer ≡ failures_of l.fn.writer;
}
