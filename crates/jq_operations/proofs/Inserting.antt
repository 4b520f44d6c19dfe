-- The text of a value in a named format.
use Rattle.std.proofs.Common.{◌≡◌, ℕ, List, Some, None, Err, ap}
use Rattle.jv_data.specs.Value.{Value, null}
use Rattle.jv_text.specs.Formats.{format_named, text_in}
use Rattle.jv_text.specs.declared.formats.names.Format.{Format}
use Rattle.jq_meaning.specs.Continuations.{format_of, text_by}

pub known_format : (n : List ℕ) (f : Format) (v : Value) → Some f ≡ format_named n → text_in f v ≡ format_of n v
known_format n f v e = ap (λ o. text_by o v) e

pub no_format : (n : List ℕ) (v : Value) → None ≡ format_named n → Err null ≡ format_of n v
no_format n v e = ap (λ o. text_by o v) e
