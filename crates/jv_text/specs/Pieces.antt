-- What a printer of pieces has not printed yet.
use Rattle.std.specs.Prelude.{ℕ, List, [], ◌∷◌, ◌++◌, Bool, if◌then◌else◌}
use Rattle.json.specs.Layout.{is_value, pretty_from}
use Rattle.json.specs.Print.{print_from}
use Rattle.json.specs.Token.{Token}
use Rattle.jv_text.specs.Printed.{line_feed}
use Rattle.jv_text.specs.Places.{place_of}
use Rattle.jv_text.specs.PrintedTokens.{open_tokens}
use Rattle.jv_text.specs.declared.pieces.Printer.TheInside.{Inside}
use Rattle.jv_text.specs.declared.places.Place.{Place}

-- the text of these tokens from a place on
abbrev pub text_from : (compact : Bool) → Place → List Token → List ℕ
text_from compact place ts = if compact then print_from (is_value (place_of place).0) ts else pretty_from (place_of place) ts

-- the newline after an output
abbrev pub line_end : Bool → List ℕ
line_end join = if join then [] else line_feed ∷ []

-- the rest of the text, with the newline after it
abbrev pub rest_of : Inside → List ℕ
rest_of p = text_from p.style.compact p.place (open_tokens p.opened.items []) ++ line_end p.style.join
