-- What a survey says of a filter, and of the entries of an object.
use Rattle.std.specs.Prelude.{Bool, ◌&&◌, ◌||◌}
use Rattle.jq_inputs.specs.declared.surveys.Survey.{Survey}
use Rattle.jq_inputs.specs.private.Counts.{plus, is_zero}

abbrev pub is_single : Survey → Bool
is_single s = s.at_most_one && is_zero s.count

-- Entries, and one more after them.
abbrev pub beside : Survey → Survey → Survey
beside s e = record {
  count = plus s.count e.count;
  at_most_one = s.at_most_one && e.at_most_one;
  once = (s.once && is_single e) || (is_single s && e.once);
}
