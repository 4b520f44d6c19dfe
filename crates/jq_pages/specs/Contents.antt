-- What `Pages` represents: a fold over the inputs that are present.
use Rattle.std.specs.Prelude.{ℕ, List, map}
use Rattle.std.specs.List.{flat_map}
use Rattle.jv_data.specs.Value.{Value}
use Rattle.jv_data.specs.View.{view}
use Rattle.jq_pages.specs.Folds.{Fold, Folded}
use Rattle.jq_pages.specs.Pieces.{PieceView, piece_view}
use Rattle.jq_pages.specs.declared.pages.Pages.{Pages}
use Rattle.jq_pages.specs.declared.steps.Steps.{Ghosts}

abbrev pub folded_in : {S : Type 0} → Fold S → List Value → Folded S
folded_in f vs = record { fold = f; inputs = vs }

abbrev pub folded_of : {S T : Type 0} {own : Ghosts S T} → Pages S T own → Folded own.Seen
folded_of {S} {T} {own} p = folded_in (own.fold p.kept.steps) (flat_map (λ page. map view page.inputs.items) p.kept.pages.items)

-- how often its steps started the filter
abbrev pub starts_of : {S T : Type 0} {own : Ghosts S T} → Pages S T own → ℕ
starts_of {S} {T} {own} p = own.starts p.kept.steps

-- the pieces of its pages
abbrev pub paged_in : {S T : Type 0} {own : Ghosts S T} → Pages S T own → List (List PieceView)
paged_in p = map (λ page. map piece_view page.pieces.items.items) p.kept.pages.items

-- the inputs of its pages
abbrev pub inputs_paged_in : {S T : Type 0} {own : Ghosts S T} → Pages S T own → List (List Value)
inputs_paged_in p = map (λ page. map view page.inputs.items) p.kept.pages.items
