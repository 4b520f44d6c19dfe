-- The answer of a search for the part at a key.
use Rattle.std.specs.Prelude.{Ok, Err}
use Rattle.jv_data.specs.View.{view}
use Rattle.jq_natives.specs.Answers.{Answer}
use Rattle.jq_transitions.specs.declared.receiving.parts.Part.{Part}
use Rattle.jq_transitions.specs.declared.receiving.parts.Part.TheVariants as part

abbrev pub answer_of : Part → Answer
answer_of (part.Value v) = Ok (view v)
answer_of (part.Error e) = Err (view e)
