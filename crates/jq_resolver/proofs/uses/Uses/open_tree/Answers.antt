use Rattle.std.proofs.Common.{rules}
use Rattle.jq_resolver.proofs.Walking.{call_used, object_stepped, object_used, prelude_call_used, text_stepped, text_used, update_used}
use Rattle.jq_resolver.proofs.uses.Uses.open_tree.Goals as goal

pub returns-in_ok-push-in-Text-clause-uses : goal.returns-in_ok-push-in-Text-clause-uses
returns-in_ok-push-in-Text-clause-uses c = rw (c.in-Text.is, text_used c.in-Text.format c.in-Text.pieces c.in-Text.field-2 c.args.around) (search rules)

pub returns-in_ok-push-in-Text-clause-fewer : goal.returns-in_ok-push-in-Text-clause-fewer
returns-in_ok-push-in-Text-clause-fewer c = rw (c.in-Text.is, text_stepped c.in-Text.format c.in-Text.pieces c.in-Text.field-2 c.args.around) (search rules)

pub returns-in-Object-clause-uses : goal.returns-in-Object-clause-uses
returns-in-Object-clause-uses c = rw (c.in-Object.is, object_used c.in-Object.entries c.args.around) (search rules)

pub returns-in-Object-clause-fewer : goal.returns-in-Object-clause-fewer
returns-in-Object-clause-fewer c = rw (c.in-Object.is, object_stepped c.in-Object.entries c.args.around) (search rules)

pub returns-in-Call-clause-uses : goal.returns-in-Call-clause-uses
returns-in-Call-clause-uses c = rw (c.in-Call.is, call_used c.in-Call.name c.in-Call.arguments c.args.around) (search rules)

pub returns-in-PreludeCall-clause-uses : goal.returns-in-PreludeCall-clause-uses
returns-in-PreludeCall-clause-uses c = rw (c.in-PreludeCall.is, prelude_call_used c.in-PreludeCall.name c.in-PreludeCall.arguments c.args.around) (search rules)

pub returns-in-Update-clause-uses : goal.returns-in-Update-clause-uses
returns-in-Update-clause-uses c = rw (c.in-Update.is, update_used c.in-Update.modify c.in-Update.parts c.args.around) (search rules)
