-- The names of core functions, by their bytes and by their code points.
use Rattle.std.proofs.Common.{◌≡◌, ℕ, List, true, codes, refl}
use Rattle.std.specs.Char.{is_ascii}
use Rattle.std.specs.List.{list_all}
use Rattle.std.specs.Str.{IsUtf8, chars}
use Rattle.jv_data.proofs.shared.Ascii.{same_as_ascii}
use Rattle.jq_ast.specs.CoreNames.{core_named}

pub core_same : (bs : List ℕ) (a : ℕ) → IsUtf8 bs → core_named bs a ≡ core_named (chars bs) a
core_same bs a u =
    let e = λ (name : List ℕ) (h : list_all is_ascii name ≡ true). same_as_ascii bs name u h in
    rw (e (codes "empty") refl, e (codes "path") refl, e (codes "range") refl, e (codes "inputs") refl, e (codes "halt") refl, e (codes "halt_error") refl) refl
