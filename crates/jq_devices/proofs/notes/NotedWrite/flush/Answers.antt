use Rattle.std.proofs.Math.Logic.{∥∥₁_map}
use Rattle.std.proofs.Common.{◌∷◌}
use Rattle.jq_devices.proofs.Noting.{kept_kept}
use Rattle.jq_devices.proofs.notes.NotedWrite.flush.Goals as goal

pub invariant_of-self : goal.invariant_of-self
invariant_of-self g c =
    let w = c.args.self.now in
    record { kept = ∥∥₁_map w.kept (λ h. kept_kept w.is_cut w.last w.after (w.newest ∷ w.older.items) _ _ _ _ c.if-self.false c.flush.ensures.bytes h) }
