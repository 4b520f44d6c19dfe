-- The forms with a list of parts, in a machine: strings, objects and arguments.
use Rattle.std.proofs.Common.{◌≡◌, ℕ, List, [], ◌∷◌, ◌++◌, length, refl, sym, ap, ◌∙◌, append_assoc}
use Rattle.std.proofs.lemmas.List.{append-nil}
use Rattle.jv_data.specs.Value.{Value, string, object, Members}
use Rattle.jq_tree.specs.Tree.{Name, Tree, Trees, no_trees, more_trees, Pieces, Entries}
use Rattle.jq_tree.specs.Tree as tree
use Rattle.jq_meaning.specs.Runs.{Item, plain, value_in, Run, one, bind}
use Rattle.jq_meaning.specs.Continuations.{on_inserted}
use Rattle.jq_meaning.specs.Meaning.{below, arguments_with}
use Rattle.jq_meaning.specs.Builtins.{Builtin}
use Rattle.jq_meaning.proofs.shared.machine.RunLaws.{bind-bind, bind-one}
use Rattle.jq_meaning.specs.machine.State.{Scope, Hole, Frame, entry_value, entry_key, own_entry, hole, argument, evaluate, give, ForkPoint}
use Rattle.jq_meaning.specs.machine.Operations.{applied}
use Rattle.jq_meaning.specs.machine.Evaluating.{next_entry, next_hole, enter_pieces, next_argument}
use Rattle.jq_meaning.proofs.shared.machine.RestLaws.{rest-bind}
use Rattle.jq_meaning.proofs.shared.machine.Events.{Event, visit, output, on_output}
use Rattle.jq_meaning.proofs.shared.machine.Traced.{spread, t_spread}
use Rattle.jq_meaning.proofs.shared.machine.TracedMeaning.{traced_below, traced_arguments, traced_pieces, t_each_choice, t_on_back, t_on_entry, t_on_entry_key, t_on_own_key}
use Rattle.jq_meaning.proofs.shared.machine.Reading.{run_at, traced_at, traced_entries_at, filled, holes_at, arguments_at, behaviours, waiting, cells}
use Rattle.jq_meaning.specs.machine.Heights.{Fits, ForksFit}
use Rattle.jq_meaning.proofs.shared.machine.Comings.{Comes, stays, comes-tick, comes-same, deliver-comes}

-- ---- one run inside another

output-then : {A B C : Type 0} (g : A → Run (Event B)) (h : B → Run (Event C)) (y : Event A) → bind (on_output g y) (on_output h) ≡ on_output (λ x. bind (g x) (on_output h)) y
output-then g h visit = refl
output-then g h (output x) = refl

pub bind-outputs : {A B C : Type 0} (r : Run (Event A)) (g : A → Run (Event B)) (h : B → Run (Event C)) → bind (bind r (on_output g)) (on_output h) ≡ bind r (on_output (λ x. bind (g x) (on_output h)))
bind-outputs r g h = bind-bind r (on_output g) (on_output h) ∙ ap (bind r) (λ i y. output-then g h y i)

-- ---- strings

back-run : (format : Name) (front back : List ℕ) (f : Tree) (p : Scope) (x : Item) → (t_on_back format front back (traced_at f p x)).trace ≡ bind (run_at f p x) (on_output (λ y. spread (on_inserted format front back y)))
unfolding t_on_back
back-run format front back f p x = refl

-- the filter of a hole, and then the earlier ones
hole-run : (format : Name) (front : List ℕ) (f : Tree) (hs : List Hole) (p : Scope) (x : Item) (back : List ℕ)
    → bind (t_on_back format front back (traced_at f p x)).trace (on_output (holes_at format hs p x)) ≡ holes_at format (record { front = front; filter = f } ∷ hs) p x back
hole-run format front f hs p x back =
    ap (λ (r : Run (Event (List ℕ))). bind r (on_output (holes_at format hs p x))) (back-run format front back f p x)
    ∙ bind-outputs (run_at f p x) (λ y. spread (on_inserted format front back y)) (holes_at format hs p x)

module _ (k : List Frame) (fs : List ForkPoint) (fit : Fits (length fs) k) (forks : ForksFit fs) where
  pub next_hole-comes : (format : Name) (back : List ℕ) (hs : List Hole) (p : Scope) (x : Item) → Comes (holes_at format hs p x back) k fs (next_hole format back hs p x k fs)
  next_hole-comes format back [] p x = stays k fs fit forks (one (output (plain (string back)))) (give (plain (string back))) k refl fit
  next_hole-comes format back (h ∷ hs) p x =
      let g = on_output (filled format h.front back (holes_at format hs p x)) in
      stays k fs fit forks (bind (run_at h.filter p x) g) (evaluate h.filter p x) (hole format h.front back hs p x ∷ k)
      (ap (λ a. a (cells fs)) (rest-bind (run_at h.filter p x) g (behaviours k) (waiting fs))) (tt, fit)

  pub pieces-comes : (ps : Pieces) (format : Name) (hs : List Hole) (p : Scope) (x : Item)
      → Comes (bind (traced_pieces (below p.depth) (traced_below p.depth) ps format p.env p.level x).trace (on_output (holes_at format hs p x))) k fs (enter_pieces format ps hs p x k fs)
  pieces-comes (tree.last_piece s) format hs p x =
      comes-same k fs fit forks (bind-one (output s) (on_output (holes_at format hs p x))) (comes-tick k fs fit forks (next_hole-comes format s hs p x))
  pieces-comes (tree.more_pieces s f ps) format hs p x =
      let r = (traced_pieces (below p.depth) (traced_below p.depth) ps format p.env p.level x).trace in
      comes-same k fs fit forks
      (bind-outputs r (λ back. (t_on_back format s back (traced_at f p x)).trace) (holes_at format hs p x)
      ∙ ap (λ (g : List ℕ → Run (Event Item)). bind r (on_output g)) (λ i back. hole-run format s f hs p x back i))
      (pieces-comes ps format (record { front = s; filter = f } ∷ hs) p x)

  -- ---- objects

  pub next_entry-comes : (es : Entries) (made : Members) (p : Scope) (v : Value) → Comes (traced_entries_at es p v made).trace k fs (next_entry es made p v k fs)
  next_entry-comes tree.no_entries made p v = stays k fs fit forks (one (output (plain (object made)))) (give (plain (object made))) k refl fit
  next_entry-comes (tree.more_entries (tree.named key f) es) made p v =
      let g = on_output (λ (y : Item). (t_on_entry made key y (traced_entries_at es p v)).trace) in
      stays k fs fit forks (bind (run_at f p (plain v)) g) (evaluate f p (plain v)) (entry_value key es made p v ∷ k)
      (ap (λ a. a (cells fs)) (rest-bind (run_at f p (plain v)) g (behaviours k) (waiting fs))) (tt, fit)
  next_entry-comes (tree.more_entries (tree.computed key f) es) made p v =
      let g = on_output (λ (y : Item). (t_on_entry_key made y (traced_at f p (plain v)) (traced_entries_at es p v)).trace) in
      stays k fs fit forks (bind (run_at key p (plain v)) g) (evaluate key p (plain v)) (entry_key f es made p v ∷ k)
      (ap (λ a. a (cells fs)) (rest-bind (run_at key p (plain v)) g (behaviours k) (waiting fs))) (tt, fit)
  next_entry-comes (tree.more_entries (tree.own key) es) made p v =
      let g = on_output (λ (y : Item). (t_on_own_key v made y (traced_entries_at es p v)).trace) in
      stays k fs fit forks (bind (run_at key p (plain v)) g) (evaluate key p (plain v)) (own_entry es made p v ∷ k)
      (ap (λ a. a (cells fs)) (rest-bind (run_at key p (plain v)) g (behaviours k) (waiting fs))) (tt, fit)

  -- ---- arguments

  pub next_argument-comes : (b : Builtin) (ts : Trees) (vs : List Value) (p : Scope) (x : Item) → Comes (arguments_at b ts p x vs) k fs (next_argument b ts vs p x k fs)
  next_argument-comes b no_trees vs p x = deliver-comes k fs fit forks (applied b x vs)
  next_argument-comes b (more_trees t ts) vs p x =
      let g = on_output (λ (v : Item). arguments_at b ts p x (vs ++ value_in v ∷ [])) in
      stays k fs fit forks (bind (run_at t p (plain (value_in x))) g) (evaluate t p (plain (value_in x))) (argument b ts vs p x ∷ k)
      (ap (λ a. a (cells fs)) (rest-bind (run_at t p (plain (value_in x))) g (behaviours k) (waiting fs))) (tt, fit)

-- the choices of arguments, where f adds the first values to those that follow
abbrev choice_run : Builtin → Trees → Scope → Item → (List Value → List Value) → Run (Event Item)
choice_run b ts p x f =
    (t_each_choice (arguments_with (below p.depth) ts p.env p.level (plain (value_in x))) (traced_arguments (below p.depth) (traced_below p.depth) ts p.env p.level (plain (value_in x))) (λ ws. t_spread (applied b x (f ws)))).trace

-- the known values are in front
later-choices : (b : Builtin) (ts : Trees) (p : Scope) (x v : Item) (vs : List Value) → choice_run b ts p x (λ ws. (vs ++ value_in v ∷ []) ++ ws) ≡ arguments_at b ts p x (vs ++ value_in v ∷ [])
    → choice_run b ts p x (λ ws. vs ++ (value_in v ∷ ws)) ≡ arguments_at b ts p x (vs ++ value_in v ∷ [])
later-choices b ts p x v vs h = ap (choice_run b ts p x) (λ i ws. sym (append_assoc vs (value_in v ∷ []) ws) i) ∙ h

pub choices-run : (b : Builtin) (ts : Trees) (p : Scope) (x : Item) (vs : List Value) → choice_run b ts p x (λ ws. vs ++ ws) ≡ arguments_at b ts p x vs
choices-run b no_trees p x vs = ap (λ ws. spread (applied b x ws)) (append-nil vs)
choices-run b (more_trees t ts) p x vs =
    ap (λ (g : Item → Run (Event Item)). bind (run_at t p (plain (value_in x))) (on_output g)) (λ i v. later-choices b ts p x v vs (choices-run b ts p x (vs ++ value_in v ∷ [])) i)
