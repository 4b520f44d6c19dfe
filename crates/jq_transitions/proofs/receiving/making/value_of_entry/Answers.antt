use Rattle.jq_transitions.proofs.receiving.making.value_of_entry.Goals as goal

pub returns : goal.returns
returns c =
    let h = rw (c.plain-item.ensures, c.in_ok-copy.ensures) at c.run_part.ensures in
    rw c.into_text.ensures h
