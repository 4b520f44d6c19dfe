use Rattle.std.proofs.Common.{rules}
use Rattle.jq_ast.proofs.shared.Forms.{named-Object}
use Rattle.jq_inputs.proofs.Levels.{halts-Text, halts-Call, halts-PreludeCall, halts-Update}
use Rattle.jq_inputs.proofs.halting.+halting.Goals as goal

pub halts-returns-in-Text : goal.halts-returns-in-Text
halts-returns-in-Text t c = rw (c.in-Text.is, halts-Text c.args.hidden c.in-Text.field-0 c.in-Text.pieces c.in-Text.field-2) (search rules)

pub halts-returns-in-Object : goal.halts-returns-in-Object
halts-returns-in-Object t c = rw (c.in-Object.is, named-Object c.in-Object.entries) (search rules)

pub halts-returns-then-is_halt : goal.halts-returns-then-is_halt
halts-returns-then-is_halt t c = rw (c.in-Call.is, halts-Call c.args.hidden c.in-Call.name c.in-Call.arguments) (search rules)

pub halts-returns-else-is_halt : goal.halts-returns-else-is_halt
halts-returns-else-is_halt t c = rw (c.in-Call.is, halts-Call c.args.hidden c.in-Call.name c.in-Call.arguments) (search rules)

pub halts-returns-then-is_halt-2 : goal.halts-returns-then-is_halt-2
halts-returns-then-is_halt-2 t c = rw (c.in-PreludeCall.is, halts-PreludeCall c.args.hidden c.in-PreludeCall.name c.in-PreludeCall.arguments) (search rules)

pub halts-returns-else-is_halt-2 : goal.halts-returns-else-is_halt-2
halts-returns-else-is_halt-2 t c = rw (c.in-PreludeCall.is, halts-PreludeCall c.args.hidden c.in-PreludeCall.name c.in-PreludeCall.arguments) (search rules)

pub halts-returns-in-Update : goal.halts-returns-in-Update
halts-returns-in-Update t c = rw (c.in-Update.is, halts-Update c.args.hidden c.in-Update.field-0 c.in-Update.parts) (search rules)
