use Rattle.jq_stream.proofs.streams.Streams+R+O+Noted+E.into_noted.Goals as goal

pub returns-clause-noted : goal.returns-clause-noted
returns-clause-noted g c = rw (← c.self.view_is, ← c.outputs.view_is) c.into_noted-errors.ensures.noted
