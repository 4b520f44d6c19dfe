use Rattle.std.proofs.Common.{◌≡◌, [], rules}
use Rattle.jv_data.specs.View.{view}
use Rattle.jv_text.proofs.Taken.{all_read}
use Rattle.jv_text.proofs.TokenRuns.{took_all}
use Rattle.jv_text.proofs.tokens.read_all.Goals as goal

pub returns-clause-value : goal.returns-clause-value
returns-clause-value c =
    let none : c.read_value.new.reader ≡ [] = search rules in
    all_read c.args.text.now c.in_ok-reader.reader c.read_value.new.reader (view c.in_ok-value.value) c.in_ok-reader.ensures.ok none c.utf8.text c.in_ok-value.ensures.ok

pub returns-clause-plain : goal.returns-clause-plain
returns-clause-plain c =
    let none : c.read_value.new.reader ≡ [] = search rules in
    took_all c.args.text.now c.in_ok-reader.reader c.read_value.new.reader c.in_ok-reader.ensures.ok none c.in_ok-value.ensures.plain
