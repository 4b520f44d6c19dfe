use Rattle.std.proofs.Common.{◌∙◌, ap, sym, Ok}
use Rattle.jv_data.specs.View.{view}
use Rattle.jq_natives.specs.Answers.{count}
use Rattle.jq_natives.specs.Sizes.{length_of}
use Rattle.jv_data.proofs.shared.Levels.{members_held, view-List, view-Table}
use Rattle.jv_data.specs.Value.{object}
use Rattle.jv_data.proofs.shared.Views.{length-List, length-Table}
use Rattle.jq_natives.proofs.sizes.length.Goals as goal

pub returns-in_ok-count-in-List : goal.returns-in_ok-count-in-List
returns-in_ok-count-in-List c =
    let a = c.in-List.items in
    ap length_of (ap view c.in-List.is ∙ view-List a) ∙ ap (λ n. Ok (count n)) (length-List a ∙ sym c.len.ensures) ∙ ap Ok (sym c.in_ok-count-in-List.ensures.value)

pub returns-in_ok-count-in-Table : goal.returns-in_ok-count-in-Table
returns-in_ok-count-in-Table c =
    let o = c.in-Table.members in
    ap length_of (ap view c.in-Table.is ∙ view-Table o ∙ ap object (members_held o)) ∙ ap (λ n. Ok (count n)) (length-Table o ∙ sym c.len-in-Table.ensures.len) ∙ ap Ok (sym c.in_ok-count-in-Table.ensures.value)
