use Rattle.std.proofs.Common.{◌++◌, codes, subst}
use Rattle.std.proofs.lemmas.List.{append-nil}
use Rattle.jv_data.specs.Fails.{FailsAs, raised}
use Rattle.jv_data.specs.Kind.{kind_name}
use Rattle.jv_data.specs.View.{view}
use Rattle.jv_value.specs.ErrorTexts.{cannot_index}
use Rattle.jv_value.proofs.error_texts.cannot_index_by_kind.Goals as goal

pub returns : goal.returns
unfolding cannot_index
returns c =
    let first = kind_name (view c.args.value.now) in
    subst (λ name. FailsAs c.raise_with_kinds.result (raised (codes "Cannot index " ++ (first ++ (codes " with " ++ name))))) (append-nil (kind_name (view c.args.key.now))) c.raise_with_kinds.ensures
