use Rattle.std.proofs.Math.Logic.{∥∥₁_map}
use Rattle.jq_devices.proofs.Noting.{noted}
use Rattle.jq_devices.proofs.notes.Noted.into_device.Goals as goal

pub returns : goal.returns
returns g c = ∥∥₁_map c.args.self.kept (λ h. noted c.args.self.is_cut c.args.self.last _ _ _ h)
