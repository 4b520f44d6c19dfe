-- The names of files.
use Rattle.std.proofs.Common.{◌≡◌, ◌≢◌, true, false, List, [], ◌∷◌, String, length, map, string_bytes, eqb, sym, ap, subst, ◌∙◌}
use Rattle.std.proofs.lemmas.Bool.{eqb-true}
use Rattle.std.proofs.lemmas.List.{nil_from_length}
use Rattle.std.specs.declared.alloc.Global.{Global}

-- if there are no names, there are no files
pub no_names : (names files : List (String Global)) → names ≡ files → true ≡ eqb (length names) 0 → map string_bytes files ≡ []
no_names names files is h = ap (map string_bytes) (sym is ∙ nil_from_length names (eqb-true (length names) 0 (sym h)))

some_of : (names : List (String Global)) → false ≡ eqb (length names) 0 → map string_bytes names ≢ []
some_of [] h = λ e. cc
some_of (name ∷ names) h = λ e. cc

pub some_names : (names files : List (String Global)) → names ≡ files → false ≡ eqb (length names) 0 → map string_bytes files ≢ []
some_names names files is h = subst (λ ns. map string_bytes ns ≢ []) is (some_of names h)
