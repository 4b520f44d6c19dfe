use Rattle.jq_app.proofs.Keeping.{written_kept}
use Rattle.jq_app.proofs.words.report_noted.Goals as goal

pub returns-clause-reported : goal.returns-clause-reported
returns-clause-reported g c = written_kept _ _ _ _ _ _ _ c.report-status.ensures.reported c.put_note.ensures.kept c.put_note.ensures.rising
