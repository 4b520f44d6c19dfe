use Rattle.std.proofs.Common.{◌≡◌, ◌<◌, ◌^◌, take}
use Rattle.std.specs.Str.Parse.{digits_value}
use Rattle.jq_script.proofs.requests.number.Given as goal

-- the number with the digits so far
abbrev pub invariant-loop-digit : goal.invariant-loop-digit
invariant-loop-digit l = record {
  number : l.number ≡ digits_value 10 (take l.digit-index l.digits);
  small : l.number < 10 ^ l.digit-index;
}
