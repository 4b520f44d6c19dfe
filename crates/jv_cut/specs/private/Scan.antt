-- How far the first text of the unread bytes was read. For private contracts.
use Rattle.std.specs.Prelude.{◌≡◌, ℕ, ◌<◌, ◌≤◌, List, ◌++◌, length, take, Bool, true, false, Option, Some, None, Result, Ok, Err}
use Rattle.jv_cut.specs.Text.{End, ends, unended, too_deep, too_long, misplaced, max_text, max_nesting, is_level, nested, bare, text_end}
use Rattle.jv_cut.specs.Rest.{Rest, MayFollow}
use Rattle.jv_cut.specs.declared.scanning.Scan.{Scan}
use Rattle.jv_cut.specs.declared.scanning.Scan.TheVariants.{Fresh, Bare, Nested}
use Rattle.jv_cut.specs.declared.scanning.Found.{Found}
use Rattle.jv_cut.specs.declared.scanning.Found.TheVariants.{Text, More, Fault}
use Rattle.jv_cut.specs.declared.splitting.CutFault.{CutFault}
use Rattle.jv_cut.specs.declared.splitting.CutFault.TheVariants.{Misplaced, Unfinished, TooDeep, TooLong}

-- the end of the text is what `rest` finds after the first n bytes
pub record Leads (bytes : List ℕ) (n : ℕ) (rest : Bool → List ℕ → End) : Type 0 where
  pub some : 0 < n
  pub within : n ≤ length bytes
  pub short : n ≤ max_text
  pub goes : (later : Bool) (more : List ℕ) → text_end later (take n bytes ++ more) ≡ rest later more

abbrev pub Scanned : Scan → List ℕ → Type 0
Scanned Fresh bytes = Unit {0}
Scanned (Bare n) bytes = Leads bytes n (λ later more. bare n later more)
Scanned (Nested n nest) bytes = (is_level nest ≡ false) × (nest.depth ≤ max_nesting) × Leads bytes n (λ later more. nested n nest more)

abbrev pub end_of : CutFault → End
end_of Misplaced = misplaced
end_of Unfinished = unended
end_of TooDeep = too_deep
end_of TooLong = too_long

-- A text is unfinished only in a stream that has ended.
abbrev pub Stops : CutFault → Bool → Type 0
Stops Misplaced ended = Unit {0}
Stops Unfinished ended = ended ≡ true
Stops TooDeep ended = Unit {0}
Stops TooLong ended = Unit {0}

abbrev pub Finds : Found → List ℕ → Bool → Type 0
Finds (Text n) bytes ended = (0 < n) × (n ≤ length bytes) × ((later : Bool) (more : List ℕ) → MayFollow ended more later → text_end later (bytes ++ more) ≡ ends n)
Finds (More scan) bytes ended = Scanned scan bytes × (length bytes ≤ max_text) × (text_end ended bytes ≡ unended)
Finds (Fault p) bytes ended = Stops p ended × ((later : Bool) (more : List ℕ) → MayFollow ended more later → text_end later (bytes ++ more) ≡ end_of p)

-- what was found; None asks for more bytes
abbrev pub ScansTo : Result (Option ℕ) CutFault → Rest → Type 0
ScansTo (Ok (Some n)) r = (0 < n) × (n ≤ length r.unread) × ((later : Bool) (more : List ℕ) → MayFollow r.ended more later → text_end later (r.unread ++ more) ≡ ends n)
ScansTo (Ok None) r = (r.ended ≡ false) × (length r.unread ≤ max_text) × (text_end false r.unread ≡ unended)
ScansTo (Err p) r = Stops p r.ended × ((later : Bool) (more : List ℕ) → MayFollow r.ended more later → text_end later (r.unread ++ more) ≡ end_of p)
