-- The last output of runs that come one after the other.
use Rattle.std.proofs.Common.{◌≡◌, List, [], ◌∷◌, ◌++◌, sym, ◌∙◌, refl}
use Rattle.std.specs.List.{flat_map}
use Rattle.jq_natives.specs.Answers.{is_true}
use Rattle.jq_meaning.specs.Runs.{Run, Item, value_in}
use Rattle.jq_filters.specs.Outcomes.{Last, last_by, last_item, last_output, nothing}
use Rattle.jq_stream.specs.private.Answering.{last_after, last_after_items}

-- what came before some items does not matter
some_items : (last : Last) (x : Item) (xs : List Item) → last_after_items last (x ∷ xs) ≡ last_item (x ∷ xs)
some_items last x [] = refl
some_items last x (y ∷ ys) = some_items (last_by (is_true (value_in x))) y ys

first_items : (xs : List Item) → last_after_items nothing xs ≡ last_item xs
first_items [] = refl
first_items (x ∷ xs) = some_items nothing x xs

items_both : (last : Last) (xs ys : List Item) → last_after_items last (xs ++ ys) ≡ last_after_items (last_after_items last xs) ys
items_both last [] ys = refl
items_both last (x ∷ xs) ys = items_both (last_by (is_true (value_in x))) xs ys

all_items : (last : Last) (rs : List (Run Item)) → last_after last rs ≡ last_after_items last (flat_map (λ r. r.items) rs)
all_items last [] = refl
all_items last (r ∷ rs) = all_items (last_after_items last r.items) rs ∙ sym (items_both last r.items (flat_map (λ r. r.items) rs))

-- where no run came before
pub last_from_none : (rs : List (Run Item)) → last_after nothing rs ≡ last_output rs
last_from_none rs = all_items nothing rs ∙ first_items (flat_map (λ r. r.items) rs)
