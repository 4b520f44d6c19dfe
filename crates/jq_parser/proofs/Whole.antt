-- From the turns to the grammar: what the loop over the turns keeps.
use Rattle.std.proofs.Common.{◌≡◌, ℕ, suc, ◌<◌, List, [], refl, sym, arith, subst}
use Rattle.jq_tree.specs.Tree.{Tree}
use Rattle.jq_tree.specs.Token.{Token}
use Rattle.jq_tree.specs.Grammar.{Main}
use Rattle.jq_builders.specs.Views.{tree_in}
use Rattle.jq_parser.specs.laws.Machine.{Mode, Frame, Next, go, done, stop, want_main, turn}
use Rattle.jq_parser.proofs.Ends.{Ends, at_end, by_turn}
use Rattle.jq_parser.specs.declared.forms.Mode.{Mode as CodeMode}
use Rattle.jq_parser.specs.declared.forms.Mode.TheVariants as mode
use Rattle.jq_parser.specs.private.Parsing.{next_of}
use Rattle.std.proofs.Common.{Box, Global}
use Rattle.jq_ast.specs.declared.tree.Tree as ast
use Rattle.jq_parser.specs.private.Parsing.{turned}
use Rattle.jq_parser.proofs.TurnedAll.{turns_end}
use Rattle.jq_parser.proofs.KeptC.{turns_sound}
use Rattle.jq_parser.proofs.Weights.{weight, Less, turn_less, Refused, at_stop, turn_refused, not_both}

abbrev pub begun : List Token → Next
begun ts = go want_main [] ts

-- If the turns end from there with a tree or a refusal, they end with the same from the start.
abbrev pub Leads : Next → Next → Type 0
Leads start x = ((t : Tree) → Ends x t → Ends start t) × (Refused x → Refused start)

pub leads_start : (x : Next) → Leads x x
leads_start x = ((λ t e. e), (λ r. r))

pub leads_turn : (start x : Next) → Leads start x → Leads start (turned x)
unfolding turned
leads_turn start (go mode fs i) h = ((λ t e. h.0 t (by_turn e)), (λ r. h.1 (turn_refused r)))
leads_turn start (done t) h = h
leads_turn start stop h = h

abbrev pub left : Next → ℕ
left (go mode fs i) = suc (weight mode fs i)
left (done t) = 0
left stop = 0

under : (x : Next) (w : ℕ) → Less w x → left x < suc w
under (go mode fs i) w l = omega (arith, l)
under (done t) w l = omega arith
under stop w l = omega arith

pub turn_falls : (mode : Mode) (fs : List Frame) (i : List Token) → left (turned (go mode fs i)) < left (go mode fs i)
unfolding turned
turn_falls mode fs i = under (turn mode fs i) (weight mode fs i) (turn_less mode fs i)

pub whole_tree : (ts : List Token) (t : Tree) (x : Next) → Leads (begun ts) x → x ≡ done t → Main ts t
whole_tree ts t x h e = turns_sound ts t (h.0 t (subst (λ y. Ends y t) (sym e) at_end))

pub no_tree : (ts : List Token) (x : Next) → Leads (begun ts) x → turned x ≡ stop → (t : Tree) → ¬ Main ts t
no_tree ts x h e t d = not_both (turns_end d) ((leads_turn (begun ts) x h).1 (subst Refused (sym e) at_stop))

pub leads_main : (ts : List Token) (fs : List Frame) (i : List Token) → fs ≡ [] → i ≡ ts → Leads (begun ts) (next_of mode.WantMain fs i)
unfolding next_of
leads_main ts fs i f e = rw (f, e) (leads_start (begun ts))

pub leads_next : (start x y : Next) → Leads start x → y ≡ turned x → Leads start y
leads_next start x y h e = subst (Leads start) (sym e) (leads_turn start x h)

-- Every mode but the last has a turn.
pub falls : (d : CodeMode) (fs : List Frame) (i : List Token) (y : Next) → ((t : Box ast.Tree Global) → d ≡ mode.Done t → ⊥) → y ≡ turned (next_of d fs i) → left y < left (next_of d fs i)
unfolding next_of
falls mode.WantMain fs i y n e = rw e (turn_falls _ fs i)
falls (mode.WantPipe before) fs i y n e = rw e (turn_falls _ fs i)
falls (mode.WantLevel l) fs i y n e = rw e (turn_falls _ fs i)
falls mode.WantUnary fs i y n e = rw e (turn_falls _ fs i)
falls mode.WantBody fs i y n e = rw e (turn_falls _ fs i)
falls mode.WantPostfix fs i y n e = rw e (turn_falls _ fs i)
falls mode.WantValue fs i y n e = rw e (turn_falls _ fs i)
falls (mode.Have t) fs i y n e = rw e (turn_falls _ fs i)
falls (mode.Suffix last a) fs i y n e = rw e (turn_falls _ fs i)
falls (mode.Bracket a) fs i y n e = rw e (turn_falls _ fs i)
falls (mode.Operators a from upto) fs i y n e = rw e (turn_falls _ fs i)
falls (mode.Listed t) fs i y n e = rw e (turn_falls _ fs i)
falls (mode.Text u ps) fs i y n e = rw e (turn_falls _ fs i)
falls (mode.TextDone u t) fs i y n e = rw e (turn_falls _ fs i)
falls (mode.Entry es) fs i y n e = rw e (turn_falls _ fs i)
falls (mode.AfterEntry es) fs i y n e = rw e (turn_falls _ fs i)
falls mode.WantPattern fs i y n e = rw e (turn_falls _ fs i)
falls (mode.HavePattern x) fs i y n e = rw e (turn_falls _ fs i)
falls (mode.Member ps) fs i y n e = rw e (turn_falls _ fs i)
falls (mode.AfterMember ps) fs i y n e = rw e (turn_falls _ fs i)
falls (mode.WantDefinition d) fs i y n e = rw e (turn_falls _ fs i)
falls (mode.AfterDefinition d x) fs i y n e = rw e (turn_falls _ fs i)
falls (mode.Done t) fs i y n e = absurd (n t refl)

pub done_is : (t : Box ast.Tree Global) (fs : List Frame) (i : List Token) → next_of (mode.Done t) fs i ≡ done (tree_in t)
unfolding next_of
done_is t fs i = refl
