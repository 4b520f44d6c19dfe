use Rattle.std.proofs.Common.{sym}
use Rattle.jq_devices.proofs.Noting.{last_byte-at}
use Rattle.jq_devices.proofs.notes.last_byte.Goals as goal

pub returns-in-Some : goal.returns-in-Some
returns-in-Some c = last_byte-at c.args.last c.args.bytes.now c.in-Some.byte.now (sym c.in-Some.ensures.value)
