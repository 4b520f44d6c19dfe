-- Three folds: the sums of the inputs so far, each input by itself, and the largest input so far. A piece is the last digit of a
-- number.
use Rattle.std.specs.Prelude.{ℕ, ◌+◌, ◌%◌, pos, negsuc, [], ◌∷◌, true, false, if◌then◌else◌, nat_lt, None, Some}
use Rattle.jv_data.specs.Value.{Value, number}
use Rattle.jq_pages.specs.Folds.{Fold}
use Rattle.jq_pages.specs.Pieces.{PieceView}
use Rattle.jq_pages.specs.declared.pieces.Last.TheVariants as last

-- a number from 0 on; 0 for any other value
abbrev pub amount : Value → ℕ
amount (number (pos n)) = n
amount v = 0

abbrev pub no_output : PieceView
no_output = record { out = []; err = []; last = last.Nothing; failed = false; halt = None }

abbrev pub digit : ℕ → PieceView
digit n = record { out = (48 + n % 10) ∷ []; err = []; last = last.Truthy; failed = false; halt = None }

-- a halt, with a status of one byte
abbrev pub halted : ℕ → PieceView
halted n = record { out = []; err = []; last = last.Nothing; failed = false; halt = Some (n % 256) }

-- what a value by itself writes: the last digit of a number from 0 to 99; a larger one halts
abbrev pub written : Value → PieceView
written (number (pos n)) = if nat_lt n 100 then digit n else halted n
written v = no_output

-- the sum of 64 bits, which wraps
abbrev pub added : ℕ → ℕ → ℕ
added s n = (s + n) % 18446744073709551616

-- what `begin` writes for the largest input so far: a left bracket
abbrev pub opening : PieceView
opening = record { out = 91 ∷ []; err = []; last = last.Falsy; failed = false; halt = None }

-- a line of errors and no output
abbrev pub failure : PieceView
failure = record { out = []; err = 33 ∷ 10 ∷ []; last = last.Nothing; failed = true; halt = None }

abbrev pub larger : ℕ → ℕ → ℕ
larger s n = if nat_lt s n then n else s

-- the largest so far; a negative number fails
abbrev pub compared : ℕ → Value → PieceView
compared s (number (pos n)) = digit (larger s n)
compared s (number (negsuc n)) = failure
compared s v = digit s

abbrev pub sums : Fold ℕ
sums = record { begin = (no_output, 0); step = λ s v. (digit (added s (amount v)), added s (amount v)); close = λ s. no_output; plain = false }

abbrev pub digits : Fold (Unit {0})
digits = record { begin = (no_output, tt); step = λ s v. (written v, tt); close = λ s. no_output; plain = true }

abbrev pub largest : Fold ℕ
largest = record { begin = (opening, 0); step = λ s v. (compared s v, larger s (amount v)); close = λ s. digit s; plain = false }
