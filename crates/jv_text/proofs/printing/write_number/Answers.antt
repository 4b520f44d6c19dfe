use Rattle.std.proofs.Common.{rules}
use Rattle.json.proofs.Printed.Decimals.{IsNumber-signed_decimal}
use Rattle.jv_text.proofs.printing.write_number.Goals as goal

pub token-requires : goal.token-requires
token-requires g c = search (rules, IsNumber-signed_decimal)
