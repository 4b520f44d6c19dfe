-- The names of formats, by their bytes and by their code points.
use Rattle.std.proofs.Common.{◌≡◌, ℕ, List, true, codes, refl}
use Rattle.std.specs.Char.{is_ascii}
use Rattle.std.specs.List.{list_all}
use Rattle.std.specs.Str.{IsUtf8, chars}
use Rattle.jv_data.proofs.shared.Ascii.{same_as_ascii}
use Rattle.jv_text.specs.Formats.{format_named}

pub format_same : (bs : List ℕ) → IsUtf8 bs → format_named bs ≡ format_named (chars bs)
format_same bs u =
    let e = λ (name : List ℕ) (h : list_all is_ascii name ≡ true). same_as_ascii bs name u h in
    rw (e (codes "text") refl, e (codes "json") refl, e (codes "csv") refl, e (codes "tsv") refl, e (codes "html") refl, e (codes "uri") refl, e (codes "sh") refl, e (codes "base64") refl) refl
