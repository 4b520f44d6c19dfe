use Rattle.std.proofs.Common.{IsUtf8, subst, sym}
use Rattle.std.proofs.Math.Logic.{∥∥₁_map}
use Rattle.std.proofs.lemmas.Str.{IsUtf8-append}
use Rattle.jv_data.proofs.containers.short.ShortText.with.Goals as goal

pub invariant_of-result : goal.invariant_of-result
invariant_of-result c =
    record { utf8 = ∥∥₁_map c.args.self.now.utf8 (λ h. subst IsUtf8 (sym c.in-Ok.ensures.ok) (IsUtf8-append c.args.self.now.text.bytes c.args.more.now h c.utf8.more)) }
