use Rattle.std.proofs.Common.{◌∷◌, false, refl, sym, subst}
use Rattle.jq_devices.specs.Places.{plain_of}
use Rattle.jq_devices.specs.Notes.{IsKept}
use Rattle.jq_devices.specs.declared.notes.NotePlace.{NotePlace}
use Rattle.jq_devices.proofs.Noting.{kept_start}
use Rattle.jq_devices.proofs.notes.Noted.new.Goals as goal

pub invariant_of-result : goal.invariant_of-result
invariant_of-result g c =
    let p : NotePlace = record { before = 0; len = 0 } in
    let on = g.W.Write.contents c.args.device in
    record {
      kept = subst (λ ps. ∥ IsKept false 0 (g.W.Write.has_failed c.args.device) (plain_of 0 (p ∷ ps) on) on ∥₁) (sym c.new-older.ensures.items) ∣ kept_start p (g.W.Write.has_failed c.args.device) on refl ∣₁;
    }
