-- Strings under `*` and `/`.
use Rattle.std.specs.Prelude.{ℕ, zero, suc, ◌-◌, ◌*◌, List, [], ◌∷◌, ◌++◌, cond, nat_lt, nat_eq, ℤ, pos, negsuc, length, map, encode_utf8_all, Result, Ok}
use Rattle.std.specs.List.{starts_with}
use Rattle.jv_data.specs.Fails.{raised}
use Rattle.jv_data.specs.Value.{Value, null, string}
use Rattle.jv_arith.specs.Errors.{repeat_too_long}

abbrev pub copies : ℕ → List ℕ → List ℕ
copies zero s = []
copies (suc n) s = s ++ copies n s

-- the greatest length in bytes of a string that `*` returns
abbrev pub repeat_limit : ℕ
repeat_limit = 268435456

-- s repeated n times; null for less than once
abbrev pub repeated : List ℕ → ℤ → Result Value Value
repeated s (negsuc n) = Ok null
repeated s (pos zero) = Ok null
repeated s (pos (suc n)) = cond (nat_lt repeat_limit (suc n * length (encode_utf8_all s))) (raised repeat_too_long) (Ok (string (copies (suc n) s)))

-- the parts of cs with c put in front of the first
abbrev pub with_first : ℕ → List (List ℕ) → List (List ℕ)
with_first c [] = (c ∷ []) ∷ []
with_first c (p ∷ ps) = (c ∷ p) ∷ ps

-- the parts of a string between the occurrences of `sep`, left to right; the first `skip` code points belong to the `sep`
-- before them
abbrev pub parts_after : List ℕ → ℕ → List ℕ → List (List ℕ)
parts_after sep skip [] = [] ∷ []
parts_after sep (suc skip) (c ∷ cs) = parts_after sep skip cs
parts_after sep zero (c ∷ cs) = cond (starts_with nat_eq (c ∷ cs) sep) ([] ∷ parts_after sep (length sep - 1) cs) (with_first c (parts_after sep zero cs))

abbrev pub single : ℕ → List ℕ
single c = c ∷ []

-- the parts between the occurrences of a separator; an empty string has no parts, and with an empty separator each code point
-- is a part
abbrev pub split_of : List ℕ → List ℕ → List (List ℕ)
split_of [] sep = []
split_of (c ∷ cs) [] = map single (c ∷ cs)
split_of (c ∷ cs) (d ∷ sep) = parts_after (d ∷ sep) zero (c ∷ cs)
