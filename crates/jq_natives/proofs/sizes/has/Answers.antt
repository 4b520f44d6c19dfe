use Rattle.std.proofs.Common.{◌≡◌, ◌∙◌, ap, sym, length, Ok, pos}
use Rattle.std.specs.Prelude.{◌&&◌, int_le, int_lt}
use Rattle.jv_data.specs.Shared.{items_in}
use Rattle.jv_data.specs.Value.{boolean, values_of}
use Rattle.jv_data.specs.View.{items_view, view}
use Rattle.jq_natives.specs.Sizes.{has_of}
use Rattle.jv_data.proofs.shared.Levels.{view-Bool, view-List, view-Num}
use Rattle.jv_data.proofs.shared.Views.{length-List}
use Rattle.jq_natives.proofs.sizes.has.Goals as goal

pub returns-in-List-Num : goal.returns-in-List-Num
returns-in-List-Num c =
    let a = c.in-List-Num.items in
    let n = c.in-List-Num.place in
    let seen : has_of (view c.args.value.now) (view c.args.key.now) ≡ Ok (boolean (int_le (pos 0) n && int_lt n (pos (length (values_of (items_view (items_in a))))))) =
    rw (c.in-List-Num.is-0, c.in-List-Num.is-1, view-List a, view-Num n) in
    let size : length (values_of (items_view (items_in a))) ≡ c.len.result = length-List a ∙ sym c.len.ensures in
    seen ∙ ap (λ k. Ok (boolean (int_le (pos 0) n && int_lt n (pos k)))) size ∙ ap (λ b. Ok (boolean b)) (sym c.is_place.ensures) ∙ ap Ok (sym (view-Bool c.is_place.result))
