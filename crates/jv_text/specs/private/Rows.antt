-- How the formats of rows differ. For private contracts.
use Rattle.std.specs.Prelude.{ℕ, List, [], ◌++◌, codes, flat_map, Ok}
use Rattle.jv_data.specs.Value.{Value, Items, no_items, item}
use Rattle.jv_text.specs.private.Escapes.{written_in}
use Rattle.jv_text.specs.Formats.{Text, csv_field, csv_quote, csv_separator, joined, no_csv_field, no_shell_word, no_tsv_field, shell_quote, shell_separator, shell_word, tsv_field, tsv_separator}
use Rattle.jv_text.specs.declared.formats.escapes.Escapes.{Escapes}
use Rattle.jv_text.specs.declared.formats.escapes.Escapes.TheVariants as escapes
use Rattle.jv_text.specs.declared.formats.rows.RowFormat.{RowFormat}
use Rattle.jv_text.specs.declared.formats.rows.RowFormat.TheVariants.{Csv, Tsv, Sh}

abbrev pub field_in : RowFormat → Value → Text
field_in Csv = csv_field
field_in Tsv = tsv_field
field_in Sh = shell_word

-- the separator between two fields
abbrev pub between : RowFormat → List ℕ
between Csv = csv_separator
between Tsv = tsv_separator
between Sh = shell_separator

-- the quote around a string
abbrev pub quote : RowFormat → List ℕ
quote Csv = csv_quote
quote Tsv = []
quote Sh = shell_quote

abbrev pub escapes_of : RowFormat → Escapes
escapes_of Csv = escapes.Csv
escapes_of Tsv = escapes.Tsv
escapes_of Sh = escapes.Sh

abbrev pub quoted_in : RowFormat → List ℕ → List ℕ
quoted_in row s = quote row ++ (flat_map (written_in (escapes_of row)) s ++ quote row)

abbrev pub null_in : RowFormat → List ℕ
null_in Csv = []
null_in Tsv = []
null_in Sh = codes "null"

-- why an array or an object is no field
abbrev pub field_error : RowFormat → List ℕ
field_error Csv = no_csv_field
field_error Tsv = no_tsv_field
field_error Sh = no_shell_word

-- the fields, each after a separator
abbrev pub later_fields : RowFormat → Items → Text
later_fields row no_items = Ok []
later_fields row (item v vs) = joined [] (Ok (between row)) (joined [] (field_in row v) (later_fields row vs))
