-- Options: lists after what was made before, and numbers.
use Rattle.std.proofs.Common.{◌≡◌, ℕ, ℤ, List, [], ◌∷◌, ◌++◌, Bool, true, false, Option, Some, None, Ok, option_map, refl, sym, ap, pos}
use Rattle.std.specs.Prelude.{if◌then◌else◌}
use Rattle.jv_data.specs.Value.{Value, number, Items, no_items, item}
use Rattle.std.specs.Option.{option_map_or}
use Rattle.jq_natives.specs.Answers.{Answer}
use Rattle.jq_natives.specs.Texts.{is_code_point, code_points}

-- nothing was made before
pub after_nothing : {A : Type 0} (t : List A) (o : Option (List A)) → t ≡ [] → o ≡ option_map (λ cs. t ++ cs) o
after_nothing t None e = refl
after_nothing t (Some cs) e = rw e refl

-- a number that is a code point is the first item
pub code_point_first : (v : Value) (d : ℕ) (vs : Items) → Some (d ∷ []) ≡ code_points (item v no_items) → code_points (item v vs) ≡ option_map (λ cs. d ∷ cs) (code_points vs)
code_point_first (number (pos c)) d vs e = go (is_code_point c) e
  where
    go : (b : Bool) → Some (d ∷ []) ≡ (if b then Some (c ∷ []) else None) → (if b then option_map (λ cs. c ∷ cs) (code_points vs) else None) ≡ option_map (λ cs. d ∷ cs) (code_points vs)
    go true f = let same : c ≡ d = cc in ap (λ k. option_map (λ cs. k ∷ cs) (code_points vs)) same
    go false f = cc
code_point_first v d vs e = cc

-- ---- a number or another answer

pub number_or : (o : Option ℤ) (v : Value) (otherwise : Answer) → Some v ≡ option_map number o → option_map_or (λ n. Ok (number n)) o otherwise ≡ Ok v
number_or None v otherwise e = cc
number_or (Some n) v otherwise e = let same : v ≡ number n = cc in ap Ok (sym same)

pub no_number_or : (o : Option ℤ) (otherwise : Answer) → None ≡ option_map number o → option_map_or (λ n. Ok (number n)) o otherwise ≡ otherwise
no_number_or None otherwise e = refl
no_number_or (Some n) otherwise e = cc
