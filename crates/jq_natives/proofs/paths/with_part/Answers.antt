use Rattle.std.proofs.Common.{◌∙◌, ap, sym, subst}
use Rattle.jv_data.specs.Fails.{AnswersAs}
use Rattle.jv_data.specs.View.{view}
use Rattle.jv_value.specs.SetPath.{setpath_of}
use Rattle.jq_natives.specs.PathNatives.{setpath_native_of}
use Rattle.jv_data.proofs.shared.Levels.{view-List}
use Rattle.jv_data.proofs.shared.Views.{values-List}
use Rattle.jq_natives.proofs.paths.with_part.Goals as goal

pub returns-in-List : goal.returns-in-List
returns-in-List c =
    let v = view c.args.value in
    let w = view c.args.new in
    let a = c.in-List.keys in
    let answer = rw c.as_slice.ensures at c.setpath.ensures in
    subst (AnswersAs c.setpath.result) (sym (ap (λ p. setpath_native_of v p w) (ap view c.in-List.is ∙ view-List a) ∙ ap (λ ks. setpath_of v ks w) (values-List a))) answer
