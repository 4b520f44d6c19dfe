-- The first text of bytes after which no more follow.
use Rattle.std.specs.Prelude.{◌≡◌, ℕ, ◌+◌, ◌-◌, ◌≤◌, ◌<◌, List, length, take, drop, true, Option, Some, None, Result, Ok, Err}
use Rattle.jv_cut.specs.Cut.{with_text, no_text, clean, fault, cut_from}
use Rattle.jv_cut.specs.declared.splitting.CutFault.{CutFault}

-- A text from p.0 up to p.1, for any position of the bytes in a stream.
abbrev pub FindsAll : Result (Option (ℕ × ℕ)) (CutFault × ℕ) → List ℕ → Type 0
FindsAll (Ok (Some p)) bytes =
    (p.0 < p.1) × (p.1 ≤ length bytes) × ((place : ℕ) → cut_from 0 true place bytes ≡ with_text (place + p.0) (take (p.1 - p.0) (drop p.0 bytes)) (cut_from 0 true (place + p.1) (drop p.1 bytes)))
FindsAll (Ok None) bytes = (place : ℕ) → cut_from 0 true place bytes ≡ no_text clean
FindsAll (Err p) bytes = (p.1 < length bytes) × ((place : ℕ) → cut_from 0 true place bytes ≡ no_text (fault p.0 (place + p.1)))
