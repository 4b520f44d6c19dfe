-- The texts of fields, one after the other.
use Rattle.std.proofs.Common.{◌≡◌, ◌∙◌, ◌<◌, ℕ, ℤ, pos, negsuc, List, [], ◌∷◌, ◌++◌, Bool, Ok, Err, arith, length, refl, sym, ap, append_assoc}
use Rattle.std.proofs.lemmas.List.{append-nil}
use Rattle.std.specs.Fmt.{signed_decimal}
use Rattle.std.specs.Str.{chars}
use Rattle.jv_data.specs.Fails.{FailsAs}
use Rattle.jv_data.specs.Value.{Value, null, boolean, number, string, Items, no_items, item}
use Rattle.jv_data.specs.View.{items_view, view}
use Rattle.jv_data.specs.declared.values.Val.{Val}
use Rattle.jv_data.specs.declared.failures.Fail.{Fail}
use Rattle.jv_data.specs.declared.failures.Fail.TheVariants.{Raised, NoMemory}
use Rattle.jv_text.specs.Formats.{Text, fields, joined}
use Rattle.jv_text.specs.private.Appending.{appended}
use Rattle.jv_text.specs.Printed.{json_text}
use Rattle.jv_text.specs.private.Rows.{between, field_in, later_fields, null_in, quoted_in}
use Rattle.jv_text.specs.declared.formats.rows.RowFormat.{RowFormat}
use Rattle.jv_text.specs.declared.formats.rows.RowFormat.TheVariants.{Csv, Tsv, Sh}

-- ---- the fields of a row

joined-after : (b : List ℕ) (t r : Text) → joined b t r ≡ joined [] t (joined [] (Ok b) r)
joined-after b (Err e) r = refl
joined-after b (Ok s) (Err e) = refl
joined-after b (Ok s) (Ok r) = refl

joined-nothing : (t : Text) → t ≡ joined [] t (Ok [])
joined-nothing (Err e) = refl
joined-nothing (Ok s) = ap Ok (sym (append-nil s))

-- the first field, and those after a separator
pub fields-first : (row : RowFormat) (v : Value) (vs : Items) → fields (field_in row) (between row) (item v vs) ≡ joined [] (field_in row v) (later_fields row vs)
fields-first row v no_items = joined-nothing (field_in row v)
fields-first row v (item w vs) = ap (joined (between row) (field_in row v)) (fields-first row w vs) ∙ joined-after (between row) (field_in row v) (joined [] (field_in row w) (later_fields row vs))

pub fields-none : (row : RowFormat) (vs : List Val) → length vs < 1 → fields (field_in row) (between row) (items_view vs) ≡ Ok []
fields-none row [] h = refl
fields-none row (v ∷ vs) h = absurd (omega arith)

-- ---- text that is appended

pub appended-text : (old : List ℕ) (t : Text) (s new : List ℕ) → t ≡ Ok s → new ≡ old ++ s → appended old t ≡ Ok new
appended-text old t s new e f = ap (appended old) e ∙ ap Ok (sym f)

-- nothing came before
pub appended-nothing : (t : Text) → appended [] t ≡ t
appended-nothing (Err e) = refl
appended-nothing (Ok s) = refl

-- a first text was appended
pub appended-first : (made next : List ℕ) (t r : Text) → appended made t ≡ Ok next → appended made (joined [] t r) ≡ appended next r
appended-first made next (Err e) r h = cc
appended-first made next (Ok s) (Err e) h = refl
appended-first made next (Ok s) (Ok r) h = let same : made ++ s ≡ next = cc in ap Ok (sym (append_assoc made s r) ∙ ap (λ x. x ++ r) same)

-- a text was appended after a separator
pub appended-field : (made b next : List ℕ) (t r : Text) → appended (made ++ b) t ≡ Ok next → appended made (joined [] (Ok b) (joined [] t r)) ≡ appended next r
appended-field made b next (Err e) r h = cc
appended-field made b next (Ok s) (Err e) h = refl
appended-field made b next (Ok s) (Ok r) h = let same : (made ++ b) ++ s ≡ next = cc in ap Ok (sym (append_assoc made b (s ++ r)) ∙ sym (append_assoc (made ++ b) s r) ∙ ap (λ x. x ++ r) same)

appended-error : (made : List ℕ) (t : Text) (e : Value) → appended made t ≡ Err e → t ≡ Err e
appended-error made (Err d) e h = h
appended-error made (Ok s) e h = cc

-- what follows the first text is an error
pub fails-later : (f : Fail) (made next : List ℕ) (t r : Text) → appended made t ≡ Ok next → FailsAs f r → FailsAs f (joined [] t r)
fails-later (Raised v) made next t r e h = appended-error made (joined [] t r) (view v) (appended-first made next t r e ∙ ap (appended next) h)
fails-later NoMemory made next t r e h = tt

-- ---- one field

pub field-null : (row : RowFormat) → field_in row null ≡ Ok (null_in row)
unfolding chars
field-null Csv = refl
field-null Tsv = refl
field-null Sh = refl

pub field-boolean : (row : RowFormat) (b : Bool) → field_in row (boolean b) ≡ Ok (json_text (boolean b))
field-boolean Csv b = refl
field-boolean Tsv b = refl
field-boolean Sh b = refl

json_text-number : (n : ℤ) → json_text (number n) ≡ chars (signed_decimal n)
json_text-number (pos n) = refl
json_text-number (negsuc n) = refl

pub field-number : (row : RowFormat) (n : ℤ) → field_in row (number n) ≡ Ok (chars (signed_decimal n))
field-number Csv n = ap Ok (json_text-number n)
field-number Tsv n = ap Ok (json_text-number n)
field-number Sh n = ap Ok (json_text-number n)

pub field-string : (row : RowFormat) (s : List ℕ) → field_in row (string s) ≡ Ok (quoted_in row s)
field-string Csv s = refl
field-string Tsv s = ap Ok (sym (append-nil _))
field-string Sh s = refl
