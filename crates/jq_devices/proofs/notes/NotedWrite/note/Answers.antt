use Rattle.std.proofs.Math.Logic.{∥∥₁_map}
use Rattle.std.proofs.Common.{rules, ◌≡◌, ◌∷◌, length, nat_lt, refl, sym, subst}
use Rattle.jq_devices.specs.Notes.{IsNote}
use Rattle.jq_devices.proofs.Noting.{kept_kept, kept_noted_at}
use Rattle.jq_devices.proofs.notes.NotedWrite.note.Goals as goal

pub invariant_of-self-then-self-2 : goal.invariant_of-self-then-self-2
invariant_of-self-then-self-2 g c =
    let w = c.args.self.now in
    let bytes = c.as_slice-bytes.result.now in
    let len = c.write_first-len.result in
    let is : IsNote bytes = subst IsNote (sym c.as_slice-bytes.ensures.value) c.in-Ok.ensures in
    let pushed : c.push_front.new.self.items ≡ w.newest ∷ w.older.items = search rules in
    record {
      kept = ∥∥₁_map w.kept (λ h.
          kept_noted_at w.is_cut _ w.last w.after len w.newest w.older.items _ _ _ _ _ bytes c.if-self.false c.if-self-ne10.false pushed is c.write_first-len.ensures.bound refl
          c.write_first-len.ensures.failed c.write_first-len.ensures.bytes h);
    }

pub invariant_of-self-2 : goal.invariant_of-self-2
invariant_of-self-2 g c =
    let w = c.args.self.now in
    let bytes = c.as_slice-bytes.result.now in
    let len = c.write_first-len.result in
    let is : IsNote bytes = subst IsNote (sym c.as_slice-bytes.ensures.value) c.in-Ok.ensures in
    let pushed : c.push_front.new.self.items ≡ w.newest ∷ w.older.items = search rules in
    record {
      kept = ∥∥₁_map w.kept (λ h.
          kept_kept (nat_lt len (length bytes)) w.last 0 (record { before = w.after; len = len } ∷ c.push_front.new.self.items) (g.W.Write.has_failed c.write_first-len.new.writer) _ _ _ c.if-self-2.false c.flush.ensures.bytes
          (kept_noted_at w.is_cut _ w.last w.after len w.newest w.older.items _ _ _ _ _ bytes c.if-self.false c.if-self-ne10.false pushed is c.write_first-len.ensures.bound refl
          c.write_first-len.ensures.failed c.write_first-len.ensures.bytes h));
    }
