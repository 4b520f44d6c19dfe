-- Values of one kind have one rank.
use Rattle.std.proofs.Common.{◌≡◌, ◌∙◌, ℕ, zero, suc, refl, sym, ap, rules}
use Rattle.std.proofs.lemmas.Bool.{eq-eqb, eqb-true}
use Rattle.std.proofs.lemmas.Bool.Decides.{same_from_decides}
use Rattle.std.specs.Bool.{nat_eq, Decides}
use Rattle.jv_data.specs.Kind.{kind_of}
use Rattle.jv_data.specs.Value.{Value, null, boolean, number, string, array, object, rank}
use Rattle.jv_data.specs.contracts.kinds.Kind.{the_type}
use Rattle.jv_data.specs.declared.kinds.Kind.{Kind}
use Rattle.jv_data.specs.declared.kinds.Kind.TheVariants.{Null, Boolean, Number, String, Array, Object}
use denote.Enum.Bare.{sameb, same_true, true_same}

abbrev rank_of_kind : Kind → ℕ
rank_of_kind Null = 0
rank_of_kind Boolean = 1
rank_of_kind Number = 2
rank_of_kind String = 3
rank_of_kind Array = 4
rank_of_kind Object = 5

abbrev kind_at : ℕ → Kind
kind_at zero = Null
kind_at (suc zero) = Boolean
kind_at (suc (suc zero)) = Number
kind_at (suc (suc (suc zero))) = String
kind_at (suc (suc (suc (suc zero)))) = Array
kind_at n = Object

rank_by_kind : (v : Value) → rank v ≡ rank_of_kind (kind_of v)
rank_by_kind null = refl
rank_by_kind (boolean b) = refl
rank_by_kind (number n) = refl
rank_by_kind (string s) = refl
rank_by_kind (array vs) = refl
rank_by_kind (object ms) = refl

kind_by_rank : (v : Value) → kind_of v ≡ kind_at (rank v)
kind_by_rank null = refl
kind_by_rank (boolean b) = refl
kind_by_rank (number n) = refl
kind_by_rank (string s) = refl
kind_by_rank (array vs) = refl
kind_by_rank (object ms) = refl

by_rank : (v w : Value) → Decides (nat_eq (rank v) (rank w)) (kind_of v ≡ kind_of w)
by_rank v w = (
  λ e. kind_by_rank v ∙ ap kind_at (eqb-true (rank v) (rank w) e) ∙ sym (kind_by_rank w),
  λ e. eq-eqb (rank v) (rank w) (rank_by_kind v ∙ ap rank_of_kind e ∙ sym (rank_by_kind w)),
)

by_kind : (v w : Value) → Decides (sameb the_type (kind_of v) (kind_of w)) (kind_of v ≡ kind_of w)
by_kind v w = (same_true the_type (search rules) (kind_of v) (kind_of w), true_same the_type (kind_of v) (kind_of w))

pub one_kind : (v w : Value) → sameb the_type (kind_of v) (kind_of w) ≡ nat_eq (rank v) (rank w)
one_kind v w = same_from_decides _ _ (by_kind v w) (by_rank v w)
