-- The names of natives, by their bytes and by their code points.
use Rattle.std.proofs.Common.{◌≡◌, ◌∙◌, ℕ, List, [], ◌∷◌, Bool, true, if◌then◌else◌, Some, ap, refl, nat_eq}
use Rattle.std.proofs.lemmas.Bool.{and_parts}
use Rattle.std.specs.Char.{is_ascii}
use Rattle.std.specs.List.{list_all}
use Rattle.std.specs.Prelude.{◌&&◌}
use Rattle.std.specs.Str.{IsUtf8, bytes_eq, chars}
use Rattle.jv_data.proofs.shared.Ascii.{same_as_ascii}
use Rattle.jq_natives.specs.Entries.{NativeEntry}
use Rattle.jq_natives.specs.Natives.{native_in, native_named, table}

abbrev are_ascii : List NativeEntry → Bool
are_ascii [] = true
are_ascii (r ∷ rs) = list_all is_ascii r.name && are_ascii rs

same_in : (bs : List ℕ) (a : ℕ) (rs : List NativeEntry) → IsUtf8 bs → are_ascii rs ≡ true → native_in rs bs a ≡ native_in rs (chars bs) a
same_in bs a [] u e = refl
same_in bs a (r ∷ rs) u e =
    let p = and_parts (list_all is_ascii r.name) (are_ascii rs) e in
    ap (λ b. if b && nat_eq a r.arguments then Some r.means else native_in rs bs a) (same_as_ascii bs r.name u p.0)
    ∙ ap (λ o. if bytes_eq (chars bs) r.name && nat_eq a r.arguments then Some r.means else o) (same_in bs a rs u p.1)

pub native_same : (bs : List ℕ) (a : ℕ) → IsUtf8 bs → native_named bs a ≡ native_named (chars bs) a
native_same bs a u = same_in bs a table u refl
