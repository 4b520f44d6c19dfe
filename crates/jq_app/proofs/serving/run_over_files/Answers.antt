use Rattle.std.proofs.Common.{ap}
use Rattle.jq_app.proofs.serving.run_over_files.Goals as goal

pub returns-clause-done : goal.returns-clause-done
returns-clause-done g c = rw (← c.streams.view_is) (rw (← c.over_files.view_is) at c.run_filter-result.ensures.done)

pub returns-clause-stopped : goal.returns-clause-stopped
returns-clause-stopped g c = rw (← c.streams.view_is) (rw (← c.over_files.view_is) at c.run_filter-result.ensures.stopped)

pub returns-clause-read_failed : goal.returns-clause-read_failed
returns-clause-read_failed g c = rw (← c.over_files.view_is) at c.run_filter-result.ensures.read_failed

pub returns-clause-write_failed : goal.returns-clause-write_failed
returns-clause-write_failed g c = rw (← c.streams.view_is) (rw (← c.over_files.view_is) at c.run_filter-result.ensures.write_failed)

pub returns-clause-remaining : goal.returns-clause-remaining
returns-clause-remaining g c = ap (λ s. s.bytes.remaining) c.streams.view_is
