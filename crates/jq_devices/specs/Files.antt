-- Files that are read one after the other.
use Rattle.std.specs.Prelude.{◌≡◌, ℕ, List, [], ◌∷◌, Bool, false, not, map, string_bytes, is_some, Option, None, Some}
use Rattle.std.specs.Fmt.{option_append}
use Rattle.jq_devices.specs.declared.reader.FileReader.{FileReader}
use Rattle.jq_devices.specs.declared.reader.UnnamedFiles.{UnnamedFiles}

-- the bytes of the files with these names, one file after the other, if the bytes of each are known
abbrev pub contents : (content : List ℕ → Option (List ℕ)) → (names : List (List ℕ)) → Option (List ℕ)
contents content [] = Some []
contents content (name ∷ names) = option_append (content name) (contents content names)

-- the opener of files that are not named yet
abbrev pub opener_of : {O : Type 0} → UnnamedFiles O → O
opener_of files = files.opener.now

-- the names of the files that a reader has not opened
abbrev pub unopened : {O F : Type 0} → FileReader O F → List (List ℕ)
unopened r = map string_bytes r.names.items

-- a file is open
abbrev pub is_open : {O F : Type 0} → FileReader O F → Bool
is_open r = is_some r.file

-- a read or an opening returned an error
abbrev pub has_failed : {O F : Type 0} → FileReader O F → Bool
has_failed r = r.has_failed

-- the bytes that the open file has left, if there is an open file
abbrev pub file_left : {F : Type 0} → (F → Option (List ℕ)) → Option F → Option (List ℕ)
file_left remaining None = Some []
file_left remaining (Some file) = remaining file

-- the bytes that reads will return: those that the open file has left, and then those of the unopened files, if all are known
abbrev pub bytes_left : {O F : Type 0} → (O → List ℕ → Option (List ℕ)) → (F → Option (List ℕ)) → FileReader O F → Option (List ℕ)
bytes_left content remaining r = option_append (file_left remaining r.file) (contents (content r.opener.now) (unopened r))

-- the first of these files cannot be opened
abbrev pub cannot_begin : (can_open : List ℕ → Bool) → (names : List (List ℕ)) → Bool
cannot_begin can_open [] = false
cannot_begin can_open (name ∷ names) = not (can_open name)

-- the open file has failed; or no file is open, and the next one cannot be opened
abbrev pub has_cause : {F : Type 0} → (can_open : List ℕ → Bool) → (failed : F → Bool) → Option F → (names : List (List ℕ)) → Bool
has_cause can_open failed None names = cannot_begin can_open names
has_cause can_open failed (Some file) names = failed file

-- the same of a reader
abbrev pub a_part_failed : {O F : Type 0} → (can_open : O → List ℕ → Bool) → (failed : F → Bool) → FileReader O F → Bool
a_part_failed can_open failed r = has_cause (can_open r.opener.now) failed r.file (unopened r)

-- The last file was read to its end.
pub record IsDone {O F : Type 0} (r : FileReader O F) : Type 0 where
  pub unopened : unopened r ≡ []
  pub closed : is_open r ≡ false
  pub sound : has_failed r ≡ false
