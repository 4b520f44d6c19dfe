-- Sums over groups of 128 pages.
use Rattle.std.specs.Prelude.{◌≡◌, ℕ, ◌*◌, ◌<◌, ◌≤◌, ◌⊎◌, List, take, drop, get_or, length}
use Rattle.jq_pages.specs.Totals.{totals}
use Rattle.jq_pages.specs.private.Bounds.{IsBounded}
use Rattle.jq_pages.specs.private.Pages.{all_pieces}
use Rattle.jq_pages.specs.private.Reruns.{count_in}
use Rattle.jq_pages.specs.declared.grouping.Group.{Group}
use Rattle.jq_pages.specs.declared.page.Page.{Page}

-- the pages of group `g`
abbrev pub group_pages : {T : Type 0} → ℕ → List (Page T) → List (Page T)
group_pages g ps = take 128 (drop (128 * g) ps)

-- These are the number of inputs of these pages and the totals of their pieces.
pub record IsGroup {T : Type 0} (x : Group) (ps : List (Page T)) : Type 0 where
  pub count : x.count ≡ count_in ps
  pub sum : x.sum ≡ totals (all_pieces ps)
  pub bounded : IsBounded x.sum (length (all_pieces ps))

-- These are groups of the first pages.
pub record IsIndex {T : Type 0} (gs : List Group) (ps : List (Page T)) : Type 0 where
  pub within : 128 * length gs ≤ length ps
  pub groups : (g : ℕ) → g < length gs → (d : Group) → IsGroup (get_or gs g d) (group_pages g ps)

-- The same, but the groups from `a` up to `b` may be those of other pages.
pub record IsIndexBut {T : Type 0} (gs : List Group) (ps : List (Page T)) (a b : ℕ) : Type 0 where
  pub within : 128 * length gs ≤ length ps
  pub groups : (g : ℕ) → g < length gs → (g < a) ⊎ (b ≤ g) → (d : Group) → IsGroup (get_or gs g d) (group_pages g ps)

-- The numbers of their inputs and pieces can be added up.
pub record IsFew {T : Type 0} (ps : List (Page T)) : Type 0 where
  pub inputs : count_in ps < 4294967296
  pub pieces : length (all_pieces ps) < 4294967296

-- The groups are those of these pages, whose inputs can be counted.
pub record IsSummed {T : Type 0} (gs : List Group) (ps : List (Page T)) : Type 0 where
  pub index : IsIndex gs ps
  pub few : count_in ps < 4294967296
