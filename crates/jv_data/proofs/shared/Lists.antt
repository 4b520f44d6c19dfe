-- Lists of items of any type that are made one item after the other.
use Rattle.std.proofs.Common.{◌≡◌, List, [], ◌∷◌, ◌++◌, Option, Some, None, option_map, refl, sym, ap, append_assoc}

-- one more item was made before the rest
pub after_one_more : {A : Type 0} (t : List A) (d : A) (o : Option (List A)) → option_map (λ cs. t ++ cs) (option_map (λ cs. d ∷ cs) o) ≡ option_map (λ cs. (t ++ d ∷ []) ++ cs) o
after_one_more t d None = refl
after_one_more t d (Some cs) = ap Some (sym (append_assoc t (d ∷ []) cs))
