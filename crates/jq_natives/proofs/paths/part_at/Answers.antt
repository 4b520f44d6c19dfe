use Rattle.std.proofs.Common.{◌∙◌, ap, sym, subst}
use Rattle.jv_data.specs.Fails.{AnswersAs}
use Rattle.jv_data.specs.View.{view}
use Rattle.jv_value.specs.GetPath.{getpath_of}
use Rattle.jq_natives.specs.PathNatives.{getpath_native_of}
use Rattle.jv_data.proofs.shared.Levels.{view-List}
use Rattle.jv_data.proofs.shared.Views.{values-List}
use Rattle.jq_natives.proofs.paths.part_at.Goals as goal

pub returns-in-List : goal.returns-in-List
returns-in-List c =
    let v = view c.args.value.now in
    let a = c.in-List.keys in
    let answer = rw c.as_slice.ensures at c.getpath.ensures in
    subst (AnswersAs c.getpath.result) (sym (ap (getpath_native_of v) (ap view c.in-List.is ∙ view-List a) ∙ ap (getpath_of v) (values-List a))) answer
