-- The words of the error message for a JSON text that cannot be read.
use Rattle.std.specs.Prelude.{ℕ, List, ◌++◌, Option, Some, None, codes}
use Rattle.std.specs.Fmt.{decimal}
use Rattle.jv_text.specs.declared.faults.Fault.{Fault}
use Rattle.jv_text.specs.declared.faults.Fault.TheVariants.{Malformed, Unfinished, NotWhole, TooDeep, TooLong, NoMemory}

abbrev pub fault_words : Fault → List ℕ
fault_words (Malformed at) = codes "malformed text"
fault_words (Unfinished at) = codes "unfinished text"
fault_words (NotWhole at) = codes "number is not a 64-bit whole number"
fault_words (TooDeep at) = codes "nested too deep"
fault_words (TooLong at) = codes "text too long"
fault_words NoMemory = codes "out of memory"

-- the position of the text's first byte in the stream
abbrev pub fault_place : Fault → Option ℕ
fault_place (Malformed at) = Some at
fault_place (Unfinished at) = Some at
fault_place (NotWhole at) = Some at
fault_place (TooDeep at) = Some at
fault_place (TooLong at) = Some at
fault_place NoMemory = None

-- words, after the place that they are about
abbrev pub placed : Option ℕ → List ℕ → List ℕ
placed (Some at) words = codes "input at byte " ++ (decimal at ++ (codes ": " ++ words))
placed None words = words

-- where the text begins, and what is wrong with it
abbrev pub fault_text : Fault → List ℕ
fault_text f = placed (fault_place f) (fault_words f)
