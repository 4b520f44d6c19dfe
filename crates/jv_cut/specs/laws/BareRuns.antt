-- A law of `text_end`, not used to define it: a text that is no array, object or string is the longest prefix of bare bytes
-- (manual of jq 1.7, "Invoking jq").
use Rattle.std.specs.Prelude.{ℕ, List, length, Bool, ◌==◌, ◌&&◌, not, nat_lt, if◌then◌else◌}
use Rattle.std.specs.List.{prefix_len}
use Rattle.jv_cut.specs.Bytes.{is_bare}
use Rattle.jv_cut.specs.Text.{End, ends, unended, too_long, max_text}

-- the length of the longest prefix of bytes that are none of white space, `{ } [ ] , : "`
abbrev pub bare_len : List ℕ → ℕ
bare_len bytes = prefix_len is_bare bytes

-- That prefix is the text. If it is all of the bytes, it may go on, unless the stream has ended.
abbrev pub bare_end : Bool → List ℕ → End
bare_end ended bytes = if nat_lt max_text (bare_len bytes) then too_long else (if (bare_len bytes == length bytes) && not ended then unended else ends (bare_len bytes))
