-- The states in which the machine begins the pieces of a fold.
use Rattle.std.specs.Prelude.{List, [], ◌∷◌, Option, Some, None}
use Rattle.jv_data.specs.Value.{Value}
use Rattle.jq_tree.specs.Tree.{Tree}
use Rattle.jq_meaning.specs.Runs.{Item, plain}
use Rattle.jq_meaning.specs.machine.State.{Scope, reducing, extracting, fold_step, Frame, source, pipe_into, evaluate, give, last_state, fork, State, state}
use Rattle.jq_meaning.specs.machine.State as machine
use Rattle.jq_folds.specs.Folding.{Fold, closing_tree}

abbrev pub stepping : Tree → Option Tree → machine.Fold
stepping update None = reducing update
stepping update (Some extract) = extracting update extract

-- the outputs of `foreach` go on to the filter after it
abbrev pub closing_frames : Option Tree → Option Tree → Scope → List Frame
closing_frames None o p = []
closing_frames (Some extract) None p = []
closing_frames (Some extract) (Some g) p = pipe_into g p ∷ []

-- The start is evaluated.
abbrev pub begin_state : Fold → Scope → Item → State
begin_state f p x = state (evaluate f.start p x) [] []

-- An input comes from the source of the fold, and the only fork point has the fold's state. At the end this state is given past
-- all frames.
abbrev pub step_state : Fold → Scope → Item → Value → State
step_state f p s v =
    state (give (plain v)) (source f.pattern (fold_step 0 (stepping f.update f.extract)) p ∷ closing_frames f.extract f.closing p)
    (fork last_state (s ∷ []) [] ∷ [])

-- The filter after a `reduce` is evaluated on the last state.
abbrev pub close_state : Fold → Scope → Item → State
close_state f p s = state (evaluate (closing_tree f.closing) p s) [] []
