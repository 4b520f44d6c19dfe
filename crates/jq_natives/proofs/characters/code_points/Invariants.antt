use Rattle.std.proofs.Common.{◌≡◌, ◌++◌, drop}
use Rattle.std.specs.Prelude.{option_map}
use Rattle.jv_data.specs.Text.{text_of}
use Rattle.jv_data.specs.View.{items_view}
use Rattle.jq_natives.specs.Texts.{code_points}
use Rattle.jq_natives.proofs.characters.code_points.Given as goal

-- the result depends only on what is left
abbrev pub invariant-loop-item : goal.invariant-loop-item
invariant-loop-item l = code_points (items_view l.items) ≡ option_map (λ cs. text_of l.text ++ cs) (code_points (items_view (drop l.item-index l.items)))
