-- The characters of the name `_modify`.
use Rattle.std.proofs.Common.{◌≡◌, codes, refl}
use Rattle.std.specs.Str.{chars}

pub modify_characters : chars (codes "_modify") ≡ codes "_modify"
unfolding chars
modify_characters = refl
