-- What an edit changed, as splices of the output and of the errors.
use Rattle.std.specs.Prelude.{◌≡◌, ℕ, List, [], length}
use Rattle.std.specs.List.{flat_map}
use Rattle.jq_meaning.specs.Runs.{Run, Item, none}
use Rattle.jq_pages.specs.Changes.{IsChange}
use Rattle.jq_pages.specs.Contents.{folded_in}
use Rattle.jq_pages.specs.Edits.{Edit, insert, replace, remove}
use Rattle.jq_pages.specs.Folds.{Folded}
use Rattle.jq_pages.specs.Pieces.{PieceView}
use Rattle.jq_pages.specs.Splices.{IsSplice, came}
use Rattle.jq_pages.specs.declared.changes.Change.{Change}
use Rattle.jq_pages.specs.declared.splices.Splice.{Splice}
use Rattle.jq_filters.specs.Outcomes.{Job, printed_of, ending_report}
use Rattle.jq_session.specs.Halting.{halting_fold}
use Rattle.jq_session.specs.States.{Plan, each, fold, until_halt, whole, State, Halves, outcome}
use Rattle.jq_session.specs.declared.splices.Follow.{Follow}

-- what the run on the value that an edit puts in writes, by what a run writes; a removal puts nothing in
abbrev pub written_for : (Run Item → List ℕ) → Job → Edit → List ℕ
written_for part job (insert k v) = part (job.run none v)
written_for part job (replace k v) = part (job.run none v)
written_for part job (remove k) = []

-- the bytes that the splices put in
pub record Puts (f : Follow) (output errors : List ℕ) : Type 0 where
  pub out : f.out.put.items ≡ output
  pub err : f.err.put.items ≡ errors

-- They are those of these pieces, one after the other.
abbrev pub PutsPieces : Follow → List PieceView → Type 0
PutsPieces f ps = Puts f (flat_map (λ p. p.out) ps) (flat_map (λ p. p.err) ps)

-- An edit of a fold changes its pieces from at most 64 inputs before the edit to at most 64 after each place where the fold goes on
-- as it did, and the piece after the last input only if it goes to the end. The splices put in what the new ones write.
pub record PutsChange {S : Type 0} (f : Follow) (edit : Edit) (old new : Folded S) : Type 0 where
  pub change : Change
  pub is_change : IsChange change edit old new
  pub pieces : PutsPieces f (came change new)

-- On each input by itself the splices put in what the run on the edited input writes. In a fold, and on each input up to the first one
-- whose run halts, they put in the pieces of such a change. Else they put in all that the run from scratch writes.
abbrev pub IsPut : Plan → Edit → Follow → (old new : State) → Type 0
IsPut each edit f old new = Puts f (written_for (printed_of new.job.style) new.job edit) (written_for (λ r. ending_report r.ending) new.job edit)
IsPut (fold x) edit f old new = ∥ PutsChange f edit (folded_in x old.inputs) (folded_in x new.inputs) ∥₁
IsPut until_halt edit f old new = ∥ PutsChange f edit (folded_in (halting_fold old.job) old.inputs) (folded_in (halting_fold old.job) new.inputs) ∥₁
IsPut whole edit f old new = Puts f (outcome new).output (outcome new).errors

-- The answer to an edit that changed one state into another.
pub record Follows (f : Follow) (edit : Edit) (old new : State) : Type 0 where
  pub out : IsSplice f.out (outcome old).output (outcome new).output
  pub err : IsSplice f.err (outcome old).errors (outcome new).errors
  pub put : IsPut old.plan edit f old new
  pub status : f.status ≡ (outcome new).status

-- The answers to a move: that to the removal and that to the insertion.
pub record FollowsMove (first second : Follow) (k l : ℕ) (old new : State) : Type 0 where
  pub halves : Halves k l old new
  pub removal : Follows first (remove k) old halves.middle
  pub insertion : Follows second (insert l halves.value) halves.middle new

-- The splice replaces all old bytes by all new ones.
pub record ReplacesAll (s : Splice) (old new : List ℕ) : Type 0 where
  pub splice : IsSplice s old new
  pub at : s.at ≡ 0
  pub cut : s.cut ≡ length old
  pub put : s.put.items ≡ new

-- The answer to another filter, which writes everything again.
pub record FollowsFilter (f : Follow) (old new : State) : Type 0 where
  pub out : ReplacesAll f.out (outcome old).output (outcome new).output
  pub err : ReplacesAll f.err (outcome old).errors (outcome new).errors
  pub status : f.status ≡ (outcome new).status
