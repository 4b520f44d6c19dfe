-- The formats of strings as natives (manual of jq 1.7, "Format strings and escaping").
use Rattle.jv_data.specs.Value.{Value, string}
use Rattle.jv_text.specs.Formats.{text_in}
use Rattle.jv_text.specs.declared.formats.names.Format.{Format}
use Rattle.jv_value.specs.Results.{map_ok}
use Rattle.jq_natives.specs.Answers.{Answer}

-- a value's text in a format as an answer
abbrev pub formatted : Format → Value → Answer
formatted f v = map_ok string (text_in f v)
