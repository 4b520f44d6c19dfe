-- References are the same exactly if their test says so.
use Rattle.std.proofs.Common.{◌≡◌, true, nat_eq, refl, ap}
use Rattle.std.specs.Prelude.{bytes_eq}
use Rattle.std.proofs.lemmas.Bool.{and_parts, and_from}
use Rattle.std.proofs.lemmas.Bool.Decides.{Decides-eqb}
use Rattle.std.proofs.lemmas.Slice.Eq.{bytes_eq-Decides}
use Rattle.jq_tree.specs.Names.{Reference, to_function, to_variable, to_label, to_format, same_reference}

pub same_is : (r b : Reference) → same_reference r b ≡ true → r ≡ b
same_is (to_function m a) (to_function n b) e = let h = and_parts (bytes_eq m n) (nat_eq a b) e in
    let k : m ≡ n = (bytes_eq-Decides m n).0 h.0 in let l : a ≡ b = (Decides-eqb a b).0 h.1 in cc (k, l)
same_is (to_variable m) (to_variable n) e = ap to_variable ((bytes_eq-Decides m n).0 e)
same_is (to_label m) (to_label n) e = ap to_label ((bytes_eq-Decides m n).0 e)
same_is (to_format m) (to_format n) e = ap to_format ((bytes_eq-Decides m n).0 e)
same_is _ _ e = absurd (cc e)

pub same_self : (r : Reference) → same_reference r r ≡ true
same_self (to_function n a) = and_from (bytes_eq n n) (nat_eq a a) ((bytes_eq-Decides n n).1 refl) ((Decides-eqb a a).1 refl)
same_self (to_variable n) = (bytes_eq-Decides n n).1 refl
same_self (to_label n) = (bytes_eq-Decides n n).1 refl
same_self (to_format n) = (bytes_eq-Decides n n).1 refl
