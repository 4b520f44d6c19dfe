-- Counts that distinguish none, one and more.
use Rattle.std.specs.Prelude.{Bool, true, false}
use Rattle.jq_inputs.specs.declared.surveys.Count.{Count}
use Rattle.jq_inputs.specs.declared.surveys.Count.TheVariants.{Zero, One, More}

abbrev pub plus : Count → Count → Count
plus Zero n = n
plus One Zero = One
plus One One = More
plus One More = More
plus More n = More

abbrev pub is_zero : Count → Bool
is_zero Zero = true
is_zero One = false
is_zero More = false
