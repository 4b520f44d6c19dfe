-- What is run for an edit of a page.
use Rattle.std.specs.Prelude.{◌≡◌, ℕ, ◌+◌, ◌≤◌, List, length, take, None, IfSome}
use Rattle.jv_data.specs.declared.values.Val.{Val}
use Rattle.jq_pages.specs.Folds.{Fold, Rises, state_after}
use Rattle.jq_pages.specs.Pieces.{piece_view}
use Rattle.jq_pages.specs.private.Placed.{put_at}
use Rattle.jq_pages.specs.private.Reruns.{IsRunOf, RunsOver, AtMeetings, count_in, exit_of, kept_of, size_at}
use Rattle.jq_pages.specs.declared.editing.Made.{Made}
use Rattle.jq_pages.specs.declared.page.Page.{Page}

-- The edited page was run from state `s`, and the pages after it up to the first meeting. If there is none, `close` was run again.
pub record IsMade {T S : Type 0} (seen : T → S) (r : Fold S) (s : S) (page : Page T) (after : List (Page T)) (i : ℕ) (put : List Val) (cut : ℕ) (m : Made T) : Type 0 where
  pub run : IsRunOf seen r s (put_at page.inputs.items i put cut) m.run
  pub runs : RunsOver seen r (seen m.run.exit) after m.runs.items
  pub fit : length m.runs.items ≤ length after
  pub met : m.tail ≡ None → exit_of seen (seen m.run.exit) m.runs.items ≡ kept_of seen (seen page.exit) (take (length m.runs.items) after)
  pub closed : IfSome m.tail (λ t. (length m.runs.items ≡ length after) × (piece_view t ≡ r.close (exit_of seen (seen m.run.exit) m.runs.items)))
  pub short : AtMeetings seen r (seen m.run.exit) (seen page.exit) after (λ t. length m.runs.items ≤ t)

-- The runs start the filter at most once for each input of the edited page and of the pages after it, up to each meeting, and once more.
pub record IsMadeStart {T S : Type 0} (seen : T → S) (r : Fold S) (s : S) (page : Page T) (after : List (Page T)) (i : ℕ) (put : List Val) (cut old new : ℕ) : Type 0 where
  pub rises : Rises old new (size_at page.inputs.items i (length put) cut + count_in after + 1)
  pub rises_to : AtMeetings seen r (state_after r s (put_at page.inputs.items i put cut)) (seen page.exit) after (λ t. Rises old new (size_at page.inputs.items i (length put) cut + count_in (take t after) + 1))
