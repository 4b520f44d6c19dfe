use Rattle.std.proofs.Math.Logic.{∥∥₁_map}
use Rattle.std.proofs.Common.{◌≡◌, ◌+◌, ◌∷◌, subst, take, length}
use Rattle.std.proofs.lemmas.List.{length-take-le}
use Rattle.std.specs.Io.KnownBytes.{Appends}
use Rattle.jq_devices.specs.Places.{plain_of}
use Rattle.jq_devices.proofs.Noting.{kept_added_at, kept_kept, plain_added}
use Rattle.jq_devices.proofs.notes.NotedWrite.write.Goals as goal

pub invariant_of-self : goal.invariant_of-self
invariant_of-self g c =
    let w = c.args.self.now in
    record { kept = ∥∥₁_map w.kept (λ h. kept_kept w.is_cut w.last w.after (w.newest ∷ w.older.items) _ _ _ _ c.if-self.false c.in_err-len.ensures.bytes h) }

pub invariant_of-self-2 : goal.invariant_of-self-2
invariant_of-self-2 g c =
    let w = c.args.self.now in
    let len = c.in_ok-len.len in
    record {
      kept = ∥∥₁_map w.kept (λ h.
          kept_added_at w.is_cut w.last c.last_byte-self.result w.after len w.newest w.older.items _ _ _ _ (take len c.args.buf.now) c.if-self.false
          (length-take-le len c.args.buf.now c.in_ok-len.ensures.bound) c.last_byte-self.ensures c.in_ok-len.ensures.bytes h);
    }

pub returns-clause-bytes : goal.returns-clause-bytes
returns-clause-bytes g c =
    let w = c.args.self.now in
    let len = c.in_ok-len.len in
    let count : length (take len c.args.buf.now) ≡ len = length-take-le len c.args.buf.now c.in_ok-len.ensures.bound in
    subst (λ n. Appends (plain_of w.after (w.newest ∷ w.older.items) (g.W.Write.contents w.device)) (plain_of (w.after + n) (w.newest ∷ w.older.items) (g.W.Write.contents c.write.new.self)) (take len c.args.buf.now))
    count (plain_added w.after w.newest w.older.items _ _ _ c.in_ok-len.ensures.bytes)
