-- The invariant of a splitter's fields.
use Rattle.std.specs.Prelude.{◌+◌, ◌^◌, ◌<◌, ◌≤◌, length, drop}
use Rattle.jv_cut.specs.private.Scan.{Scanned}
use Rattle.jv_cut.specs.declared.splitting.Splitter.TheInside.{Inside}

pub record IsSplitter (s : Inside) : Type 0 where
  pub within : s.start ≤ length s.buffer.items
  pub counted : s.place + length (drop s.start s.buffer.items) < 2 ^ 64
  pub scanned : Scanned s.scan (drop s.start s.buffer.items)
