-- The code points of a list of numbers.
use Rattle.std.proofs.Common.{◌≡◌, ℕ, List, [], ◌∷◌, true, map, refl}
use Rattle.std.proofs.lemmas.Bool.{and_parts}
use Rattle.std.specs.Prelude.{Some}
use Rattle.std.specs.List.{list_all}
use Rattle.jv_data.specs.Value.{items_of}
use Rattle.jq_natives.specs.Answers.{count}
use Rattle.jq_natives.specs.Texts.{is_code_point, code_points}

pub code_points-counts : (s : List ℕ) → list_all is_code_point s ≡ true → code_points (items_of (map count s)) ≡ Some s
code_points-counts [] h = refl
code_points-counts (c ∷ cs) h =
    let both = and_parts (is_code_point c) (list_all is_code_point cs) h in
    let rest : code_points (items_of (map count cs)) ≡ Some cs = code_points-counts cs both.1 in
    rw (both.0, rest) refl
