-- A stream of JSON texts, one after the other (manual of jq 1.7, "Invoking jq"). There may be white space around texts, and a
-- byte order mark at the start of the stream.
use Rattle.std.specs.Prelude.{ℕ, suc, zero, ◌+◌, ◌-◌, List, [], ◌∷◌, take, drop, Bool, ◌==◌, ◌&&◌, if◌then◌else◌}
use Rattle.jv_cut.specs.Bytes.{is_space, begins_with_mark}
use Rattle.jv_cut.specs.Text.{End, ends, unended, too_deep, too_long, misplaced, text_end}
use Rattle.jv_cut.specs.declared.splitting.CutFault.{CutFault}
use Rattle.jv_cut.specs.declared.splitting.CutFault.TheVariants.{Misplaced, Unfinished, TooDeep, TooLong}

-- how the texts of a stream end
pub data CutEnd : Type 0 where
  -- all bytes were read
  clean : CutEnd
  -- the bytes end inside a text, and more may follow
  open_text : CutEnd
  -- no text can be read at this position
  fault : CutFault → ℕ → CutEnd

-- the texts, each with its position in the stream
pub record Cut : Type 0 where
  pub texts : List (ℕ × List ℕ)
  pub end : CutEnd

abbrev pub with_text : ℕ → List ℕ → Cut → Cut
with_text place text cut = record { texts = (place, text) ∷ cut.texts; end = cut.end }

abbrev pub no_text : CutEnd → Cut
no_text end = record { texts = []; end = end }

-- a text begins here; `rest` cuts what follows it, given the text's length
abbrev pub text_at : Bool → ℕ → List ℕ → End → (ℕ → Cut) → Cut
text_at ended place bytes (ends n) rest = with_text place (take n bytes) (rest n)
text_at ended place bytes unended rest = no_text (if ended then fault Unfinished place else open_text)
text_at ended place bytes too_deep rest = no_text (fault TooDeep place)
text_at ended place bytes too_long rest = no_text (fault TooLong place)
text_at ended place bytes misplaced rest = no_text (fault Misplaced place)

-- The bytes from a position on; the first `skip` of them belong to the text before.
unfoldable pub cut_from : ℕ → Bool → ℕ → List ℕ → Cut
cut_from skip ended place [] = no_text clean
cut_from (suc skip) ended place (x ∷ xs) = cut_from skip ended (place + 1) xs
cut_from zero ended place (x ∷ xs) =
    if is_space x then cut_from zero ended (place + 1) xs else text_at ended place (x ∷ xs) (text_end ended (x ∷ xs)) (λ n. cut_from (n - 1) ended (place + 1) xs)

-- The bytes of a stream from a position on. `ended` says that no more bytes follow.
unfoldable pub cut : Bool → ℕ → List ℕ → Cut
cut ended place bytes = if (place == 0) && begins_with_mark bytes then cut_from 0 ended 3 (drop 3 bytes) else cut_from 0 ended place bytes
