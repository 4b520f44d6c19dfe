use Rattle.std.proofs.Common.{map, refl, string_bytes}
use Rattle.jq_cli.specs.Configuration.{shown}
use Rattle.jq_cli.specs.declared.help.TheConstants.{HELP_TEXT, VERSION_TEXT}
use Rattle.jq_app.specs.Served.{IsReply, by_clap, help, helped, misused, usage, version, versioned}
use Rattle.jq_app.proofs.Blaming.{blamed_by_print, blamed_by_report}
use Rattle.jq_app.proofs.Outcomes.{served_configuration, served_reply, stopped_configuration, stopped_reply}
use Rattle.jq_run.proofs.shared.Reporting.{print_answered, print_stopped, report_answered, report_stopped, reported}
use Rattle.jq_app.proofs.commands.run_command.Goals as goal

pub returns-in-Ok-clause-served : goal.returns-in-Ok-clause-served
returns-in-Ok-clause-served g c = served_configuration c.run_config.result.result _ _ (shown c.in-Ok.config) _ _ c.in-Ok.ensures c.run_config.ensures.done

pub returns-in-Ok-clause-stopped : goal.returns-in-Ok-clause-stopped
returns-in-Ok-clause-stopped g c = stopped_configuration c.run_config.result.result _ _ (shown c.in-Ok.config) _ _ c.in-Ok.ensures c.run_config.ensures.stopped

pub returns-in-Err-Help-clause-served : goal.returns-in-Err-Help-clause-served
returns-in-Err-Help-clause-served g c =
    let words = map string_bytes c.args.words.items in
    let why : IsReply words help = helped (rw c.in-Err-Help.field-0-is at c.in-Err-Help.ensures) in
    rw (← c.streams.view_is, ← c.streams-inside.view_is) (served_reply c.write_text.result _ words help _ _ why refl (print_answered c.write_text.result HELP_TEXT.now 0 _ _ _ c.write_text.ensures.report))

pub returns-in-Err-Help-clause-stopped : goal.returns-in-Err-Help-clause-stopped
returns-in-Err-Help-clause-stopped g c =
    let words = map string_bytes c.args.words.items in
    let why : IsReply words help = helped (rw c.in-Err-Help.field-0-is at c.in-Err-Help.ensures) in
    rw (← c.streams.view_is, ← c.streams-inside.view_is) (stopped_reply c.write_text.result _ words help _ _ why refl (print_stopped c.write_text.result HELP_TEXT.now 0 _ _ _ _ c.write_text.ensures.report))

pub returns-in-Err-Version-clause-served : goal.returns-in-Err-Version-clause-served
returns-in-Err-Version-clause-served g c =
    let words = map string_bytes c.args.words.items in
    let why : IsReply words version = versioned (rw c.in-Err-Version.field-0-is at c.in-Err-Version.ensures) in
    rw (← c.streams-in-Err-Version.view_is, ← c.streams-inside-in-Err-Version.view_is) (served_reply c.write_text-in-Err-Version.result _ words version _ _ why refl (print_answered c.write_text-in-Err-Version.result VERSION_TEXT.now 0 _ _ _ c.write_text-in-Err-Version.ensures.report))

pub returns-in-Err-Version-clause-stopped : goal.returns-in-Err-Version-clause-stopped
returns-in-Err-Version-clause-stopped g c =
    let words = map string_bytes c.args.words.items in
    let why : IsReply words version = versioned (rw c.in-Err-Version.field-0-is at c.in-Err-Version.ensures) in
    rw (← c.streams-in-Err-Version.view_is, ← c.streams-inside-in-Err-Version.view_is) (stopped_reply c.write_text-in-Err-Version.result _ words version _ _ why refl (print_stopped c.write_text-in-Err-Version.result VERSION_TEXT.now 0 _ _ _ _ c.write_text-in-Err-Version.ensures.report))

pub returns-in-Err-Usage-clause-served : goal.returns-in-Err-Usage-clause-served
returns-in-Err-Usage-clause-served g c =
    let words = map string_bytes c.args.words.items in
    let why : IsReply words usage = misused (rw c.in-Err-Usage.field-0-is at c.in-Err-Usage.ensures) in
    rw (← c.streams-in-Err-Usage.view_is, ← c.streams-inside-in-Err-Usage.view_is) (served_reply c.refuse_words.result _ words usage _ _ why refl (report_answered c.refuse_words.result usage.errors 2 _ _ _ c.refuse_words.ensures.report))

pub returns-in-Err-Usage-clause-stopped : goal.returns-in-Err-Usage-clause-stopped
returns-in-Err-Usage-clause-stopped g c =
    let words = map string_bytes c.args.words.items in
    let why : IsReply words usage = misused (rw c.in-Err-Usage.field-0-is at c.in-Err-Usage.ensures) in
    rw (← c.streams-in-Err-Usage.view_is, ← c.streams-inside-in-Err-Usage.view_is) (stopped_reply c.refuse_words.result _ words usage _ _ why refl (report_stopped c.refuse_words.result usage.errors 2 _ _ _ _ c.refuse_words.ensures.report))

pub returns-in-Err-Line-clause-served : goal.returns-in-Err-Line-clause-served
returns-in-Err-Line-clause-served g c =
    let words = map string_bytes c.args.words.items in
    let bytes = c.as_bytes.result.now in
    let why : IsReply words (reported bytes 2) = by_clap bytes (rw c.in-Err-Line.field-0-is at c.in-Err-Line.ensures) in
    rw (← c.streams-in-Err-Line.view_is, ← c.streams-inside-in-Err-Line.view_is) (served_reply c.refuse.result _ words (reported bytes 2) _ _ why refl (report_answered c.refuse.result bytes 2 _ _ _ c.refuse.ensures.report))

pub returns-in-Err-Line-clause-stopped : goal.returns-in-Err-Line-clause-stopped
returns-in-Err-Line-clause-stopped g c =
    let words = map string_bytes c.args.words.items in
    let bytes = c.as_bytes.result.now in
    let why : IsReply words (reported bytes 2) = by_clap bytes (rw c.in-Err-Line.field-0-is at c.in-Err-Line.ensures) in
    rw (← c.streams-in-Err-Line.view_is, ← c.streams-inside-in-Err-Line.view_is) (stopped_reply c.refuse.result _ words (reported bytes 2) _ _ why refl (report_stopped c.refuse.result bytes 2 _ _ _ _ c.refuse.ensures.report))

pub returns-in-Err-Help-clause-blamed : goal.returns-in-Err-Help-clause-blamed
returns-in-Err-Help-clause-blamed g c = rw (← c.streams.view_is, ← c.streams-inside.view_is) (blamed_by_print c.write_text.result _ _ c.write_text.ensures.fault c.write_text.ensures.failed)

pub returns-in-Err-Version-clause-blamed : goal.returns-in-Err-Version-clause-blamed
returns-in-Err-Version-clause-blamed g c = rw (← c.streams-in-Err-Version.view_is, ← c.streams-inside-in-Err-Version.view_is) (blamed_by_print c.write_text-in-Err-Version.result _ _ c.write_text-in-Err-Version.ensures.fault c.write_text-in-Err-Version.ensures.failed)

pub returns-in-Err-Usage-clause-blamed : goal.returns-in-Err-Usage-clause-blamed
returns-in-Err-Usage-clause-blamed g c = rw (← c.streams-in-Err-Usage.view_is, ← c.streams-inside-in-Err-Usage.view_is) (blamed_by_report c.refuse_words.result _ _ c.refuse_words.ensures.fault c.refuse_words.ensures.failed)

pub returns-in-Err-Line-clause-blamed : goal.returns-in-Err-Line-clause-blamed
returns-in-Err-Line-clause-blamed g c = rw (← c.streams-in-Err-Line.view_is, ← c.streams-inside-in-Err-Line.view_is) (blamed_by_report c.refuse.result _ _ c.refuse.ensures.fault c.refuse.ensures.failed)
