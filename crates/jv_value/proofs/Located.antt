-- The value at an index of a list or at a name.
use Rattle.std.proofs.Common.{◌≡◌, Option, Some, None, option_map, unwrap_or, Bor, codes, refl, sym}
use Rattle.std.specs.Str.{chars}
use Rattle.jv_data.specs.Value.{Value, null}
use Rattle.jv_data.specs.View.{view}
use Rattle.jv_data.specs.declared.values.Val.{Val}

-- the part that was found, or null
pub part_or_missing : (r : Option (Bor Val)) (missing : Bor Val) (o : Option Value) → option_map (λ v. view v.now) r ≡ o → view missing.now ≡ null → view (unwrap_or r missing).now ≡ unwrap_or o null
part_or_missing None missing o e f = rw (sym e) f
part_or_missing (Some x) missing o e f = rw (sym e) refl

pub start_spelt : chars (codes "start") ≡ codes "start"
unfolding chars
start_spelt = refl

pub end_spelt : chars (codes "end") ≡ codes "end"
unfolding chars
end_spelt = refl
