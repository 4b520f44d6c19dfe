-- The laws of the grammar, by the turns: the turns end with the tree of the tokens exactly if there is one.
use Rattle.std.proofs.Common.{◌≡◌, ℕ, zero, suc, [], Some, ◌⊎◌, inl, inr, subst, arith}
use Rattle.jq_tree.specs.Tree.{Tree}
use Rattle.jq_tree.specs.Grammar.{Main}
use Rattle.jq_parser.specs.laws.OneTree.{OnePipe, OneTree, TreeOrNone}
use Rattle.jq_parser.specs.laws.Parsed.{parsed, ParsedIsTheTree}
use Rattle.jq_parser.specs.laws.Machine.{Next, go, done, stop, turn, want_main, run, turns}
use Rattle.jq_parser.proofs.Ends.{Ends, at_end, by_turn}
use Rattle.jq_parser.proofs.TurnedTerms.{whole_pipe}
use Rattle.jq_parser.proofs.TurnedAll.{pipe_turns, turns_end}
use Rattle.jq_parser.proofs.KeptC.{turns_sound}
use Rattle.jq_parser.proofs.Weights.{weight, Refused, told, not_both, one_end}

pub one_tree : OneTree
one_tree ts a b d e = one_end (turns_end d) (turns_end e)

pub one_pipe : OnePipe
unfolding turns
one_pipe ts a b d e = one_end (whole_pipe ts a (pipe_turns d) [] a (by_turn at_end)) (whole_pipe ts b (pipe_turns e) [] b (by_turn at_end))

pub tree_or_none : TreeOrNone
tree_or_none ts = decided (told (suc (weight want_main [] ts)) (go want_main [] ts) (omega arith))
  where
    decided : ((t : Tree) × Ends (go want_main [] ts) t) ⊎ Refused (go want_main [] ts) → ((t : Tree) × Main ts t) ⊎ ((t : Tree) → ¬ Main ts t)
    decided (inl e) = inl (e.0, turns_sound ts e.0 e.1)
    decided (inr r) = inr (λ t d. not_both (turns_end d) r)

-- ---- the computed tree

run_ends : (n : ℕ) (x : Next) (t : Tree) → run n x ≡ Some t → Ends x t
unfolding run
run_ends zero (done u) t e = let f : u ≡ t = cc e in subst (Ends (done u)) f at_end
run_ends zero stop t e = absurd (cc e)
run_ends zero (go m fs i) t e = absurd (cc e)
run_ends (suc n) (done u) t e = let f : u ≡ t = cc e in subst (Ends (done u)) f at_end
run_ends (suc n) stop t e = absurd (cc e)
run_ends (suc n) (go m fs i) t e = by_turn (run_ends n (turn m fs i) t e)

pub parsed_is_the_tree : ParsedIsTheTree
unfolding parsed
parsed_is_the_tree n ts t e = turns_sound ts t (run_ends n (go want_main [] ts) t e)
