use Rattle.jq_engine.proofs.tails.begin.Goals as goal

pub returns-in-Filter : goal.returns-in-Filter
returns-in-Filter c =
    let h = rw c.in-Filter.is at c.in_ok-later.ensures in record { from = h.1.from; advances = h.1.advances; steps = λ f. (h.0, h.1.steps) }
