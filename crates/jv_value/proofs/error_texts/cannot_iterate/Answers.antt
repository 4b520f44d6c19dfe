use Rattle.std.proofs.Common.{◌++◌, codes, subst}
use Rattle.std.proofs.lemmas.List.{append-nil}
use Rattle.jv_data.specs.Fails.{FailsAs, raised}
use Rattle.jv_data.specs.Kind.{kind_name}
use Rattle.jv_data.specs.View.{view}
use Rattle.jv_value.specs.ErrorTexts.{cannot_iterate}
use Rattle.jv_value.proofs.error_texts.cannot_iterate.Goals as goal

pub returns : goal.returns
unfolding cannot_iterate
returns c = subst (λ name. FailsAs c.raise_with_kind.result (raised (codes "Cannot iterate over " ++ name))) (append-nil (kind_name (view c.args.value.now))) c.raise_with_kind.ensures
