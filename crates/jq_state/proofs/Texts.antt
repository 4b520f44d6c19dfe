-- Equal names, and their buckets.
use Rattle.std.proofs.Common.{◌≡◌, ◌∙◌, ℕ, true, ap, sym, length, map, nat_eq, String, string_bytes}
use Rattle.std.specs.Str.{bytes_eq}
use Rattle.std.specs.declared.alloc.Global.{Global}
use Rattle.std.proofs.lemmas.Bool.{and_parts}
use Rattle.std.proofs.lemmas.Bool.Decides.{Decides-eqb}
use Rattle.std.proofs.lemmas.List.{length-map}
use Rattle.std.proofs.lemmas.Slice.Eq.{bytes_eq-Decides}
use Rattle.std.proofs.lemmas.Str.{IsUtf8-string_bytes}
use Rattle.jv_data.proofs.shared.Texts.{same_characters}
use Rattle.jv_data.specs.Text.{text_of}
use Rattle.jq_state.specs.Listed.{is_called, is_variable}
use Rattle.jq_state.specs.Nodes.{program_binding}
use Rattle.jq_state.specs.declared.environments.ProgramBinding.{ProgramBinding}
use Rattle.jq_state.specs.declared.environments.ProgramBinding.TheVariants as program
use Rattle.jq_state.specs.Buckets.{bucket, bucket_of}

-- ---- equal names are in one bucket

same_texts : (s t : String Global) → bytes_eq (text_of s) (text_of t) ≡ true → string_bytes t ≡ string_bytes s
same_texts s t e = sym ((bytes_eq-Decides (string_bytes s) (string_bytes t)).0 (same_characters (string_bytes s) (string_bytes t) (IsUtf8-string_bytes s) (IsUtf8-string_bytes t) ∙ e))

pub called_bucket : (name : String Global) (count : ℕ) (b : ProgramBinding) → is_called (text_of name) count (program_binding b) ≡ true → bucket_of b ≡ bucket (string_bytes name) count
called_bucket name count (program.Value m v) e = absurd (cc)
called_bucket name count (program.Function f) e =
    let h = and_parts (bytes_eq (text_of name) (text_of f.name)) (nat_eq count (length (map text_of f.parameters.items))) e in
    let n : count ≡ length (map text_of f.parameters.items) = (Decides-eqb count (length (map text_of f.parameters.items))).0 h.1 in
    ap (λ bytes. bucket bytes (length f.parameters.items)) (same_texts name f.name h.0)
    ∙ ap (bucket (string_bytes name)) (sym (n ∙ length-map f.parameters.items text_of))

pub variable_bucket : (name : String Global) (b : ProgramBinding) → is_variable (text_of name) (program_binding b) ≡ true → bucket_of b ≡ bucket (string_bytes name) 7
variable_bucket name (program.Value m v) e = ap (λ bytes. bucket bytes 7) (same_texts name m e)
variable_bucket name (program.Function f) e = absurd (cc)
