-- Worked examples: filters that are run at a call depth of 0.
use Rattle.std.specs.Prelude.{ℕ, pos, List, [], ◌∷◌, codes, map}
use Rattle.jv_data.specs.Value.{Value, null}
use Rattle.jv_data.specs.Value as value
use Rattle.jq_tree.specs.Tree.{Tree, no_trees}
use Rattle.jq_tree.specs.Tree as tree
use Rattle.jq_meaning.specs.Runs.{Item, plain, Run, Done, Stopped, deep, none}
use Rattle.jq_meaning.specs.Meaning.{run_of}

-- ---- values and runs

abbrev pub number : ℕ → Value
number n = value.number (pos n)

-- these outputs, and done; or too deep
abbrev pub gives : List Value → Run Item
gives vs = record { items = map plain vs; ending = Done }

abbrev pub gives_then_too_deep : List Value → Run Item
gives_then_too_deep vs = record { items = map plain vs; ending = Stopped deep }

-- the run of a filter on null, at a call depth of 0, without `inputs`
abbrev pub run_without_depth : Tree → Run Item
run_without_depth t = run_of 0 [] none t null

-- ---- filters

abbrev literal : ℕ → Tree
literal n = tree.literal (tree.number (pos n))

-- length, empty
abbrev pub length_alone : Tree
length_alone = tree.comma (tree.call (codes "length") no_trees) (tree.call (codes "empty") no_trees)

-- def f: 1; f
abbrev pub one_call : Tree
one_call = tree.define (codes "f") [] (literal 1) (tree.call (codes "f") no_trees)

-- 7, (def f: 1; f)
abbrev pub number_then_call : Tree
number_then_call = tree.comma (literal 7) one_call
