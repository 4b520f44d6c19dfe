-- A law of the outcome of a filter's text.
use Rattle.std.specs.Prelude.{◌≡◌, ℕ, List}
use Rattle.jq_tree.specs.Filter.{Setting, Outcome, Becomes}

-- A text has at most one outcome: it is accepted with one tree, or refused for one fault.
abbrev pub OneOutcome : Type 0
OneOutcome = (setting : Setting) (text : List ℕ) (o q : Outcome) → Becomes setting text o → Becomes setting text q → o ≡ q
