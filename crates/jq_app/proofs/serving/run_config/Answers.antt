use Rattle.std.proofs.Common.{◌≡◌, ◌≢◌, ◌∙◌, ◌+◌, [], inl, inr, sym, ap, subst}
use Rattle.std.specs.Str.{chars}
use Rattle.jq_cli.specs.Configuration.{shown}
use Rattle.jq_devices.specs.Files.{bytes_left}
use Rattle.jq_devices.specs.Watched.{device_of}
use Rattle.jq_starts.specs.Starts.{starts_in}
use Rattle.jq_syntax.specs.Chosen.{chosen}
use Rattle.jq_run.specs.Filters.{FilterNeedsInput}
use Rattle.jq_app.specs.Sessions.{IsAccepted}
use Rattle.jq_app.specs.Stages.{stage, stage_of}
use Rattle.jq_app.proofs.Blaming.{blamed_by_files, blamed_by_input, blamed_from, failed_from}
use Rattle.jq_app.proofs.Names.{no_names, some_names}
use Rattle.jq_app.proofs.Outcomes.{stopped_by_files, stopped_here, stopped_session, done_by_files, done_here, done_session}
use Rattle.jq_app.proofs.serving.run_config.Goals as goal

-- ---- a session

pub returns-then-live-clause-done : goal.returns-then-live-clause-done
returns-then-live-clause-done g c =
    let left = bytes_left g.F.Opener.content g.F.File.Read.remaining in
    done_session c.run_session-result.result.0 _ _ (shown c.args.config) c.as_str-text.result.now (left (device_of c.new-files.result)) _ _ c.if-live.true c.as_str-text.ensures.value
    (ap left c.new-files.ensures.device ∙ c.named.ensures.whole) c.run_session-result.ensures.done

pub returns-then-live-clause-stopped : goal.returns-then-live-clause-stopped
returns-then-live-clause-stopped g c =
    let left = bytes_left g.F.Opener.content g.F.File.Read.remaining in
    stopped_session c.run_session-result.result.0 _ _ (shown c.args.config) c.as_str-text.result.now (left (device_of c.new-files.result)) _ _ c.if-live.true c.as_str-text.ensures.value
    (ap left c.new-files.ensures.device ∙ c.named.ensures.whole) c.run_session-result.ensures.stopped

pub returns-then-live-clause-blamed : goal.returns-then-live-clause-blamed
returns-then-live-clause-blamed g c = blamed_from c.run_session-result.result.0 0 _ _ _ _ _ c.new-files.ensures.failures c.run_session-result.ensures.blamed

pub returns-then-live-clause-unread : goal.returns-then-live-clause-unread
returns-then-live-clause-unread g c = λ none.
    c.run_session-result.ensures.unread (λ accepted. none (inr (c.if-live.true, subst (λ t. IsAccepted (chosen c.args.config.options) (chars t)) c.as_str-text.ensures.value accepted)))

-- ---- the standard input

pub returns-then-no_file-clause-done : goal.returns-then-no_file-clause-done
returns-then-no_file-clause-done g c =
    let none : (shown c.args.config).files ≡ [] = no_names c.as_slice.result.now c.args.config.files.items c.as_slice.ensures.value (sym c.if-no_file.true ∙ c.is_empty-no_file.ensures) in
    done_here c.run_filter-result.result _ (shown c.args.config) c.as_str-text.result.now (stage_of c.args.streams c.args.counts)
    (stage c.run_filter-result.new.streams.bytes (starts_in c.run_filter-result.new.starts + starts_in c.args.counts.spare))
    c.if-live.false none c.as_str-text.ensures.value c.run_filter-result.ensures.done

pub returns-then-no_file-clause-stopped : goal.returns-then-no_file-clause-stopped
returns-then-no_file-clause-stopped g c =
    let none : (shown c.args.config).files ≡ [] = no_names c.as_slice.result.now c.args.config.files.items c.as_slice.ensures.value (sym c.if-no_file.true ∙ c.is_empty-no_file.ensures) in
    stopped_here c.run_filter-result.result _ (shown c.args.config) c.as_str-text.result.now (stage_of c.args.streams c.args.counts)
    (stage c.run_filter-result.new.streams.bytes (starts_in c.run_filter-result.new.starts + starts_in c.args.counts.spare))
    c.if-live.false none c.as_str-text.ensures.value c.run_filter-result.ensures.stopped

pub returns-then-no_file-clause-blamed : goal.returns-then-no_file-clause-blamed
returns-then-no_file-clause-blamed g c = blamed_by_input c.run_filter-result.result _ _ c.run_filter-result.ensures.read_failed c.run_filter-result.ensures.write_failed

pub returns-then-no_file-clause-unread : goal.returns-then-no_file-clause-unread
returns-then-no_file-clause-unread g c = λ reads_none.
    let none : (shown c.args.config).files ≡ [] = no_names c.as_slice.result.now c.args.config.files.items c.as_slice.ensures.value (sym c.if-no_file.true ∙ c.is_empty-no_file.ensures) in
    c.run_filter-result.ensures.unread
    (λ needs. reads_none (inl (c.if-live.false, none, subst (λ t. FilterNeedsInput (chosen c.args.config.options) (chars t)) c.as_str-text.ensures.value needs)))

-- ---- the files

pub returns-clause-done : goal.returns-clause-done
returns-clause-done g c =
    let left = bytes_left g.F.Opener.content g.F.File.Read.remaining in
    let ended = c.run_over_files.result in
    let some : (shown c.args.config).files ≢ [] = some_names c.as_slice.result.now c.args.config.files.items c.as_slice.ensures.value (sym c.if-no_file.false ∙ c.is_empty-no_file.ensures) in
    done_by_files ended.result _ (shown c.args.config) c.as_str-text.result.now (left (device_of c.new-files.result)) (left (device_of ended.files))
    (stage_of c.args.streams c.args.counts) (stage_of ended.streams ended.counts)
    c.if-live.false some c.as_str-text.ensures.value (ap left c.new-files.ensures.device ∙ c.named.ensures.whole) (sym c.run_over_files.ensures.remaining) c.run_over_files.ensures.done

pub returns-clause-stopped : goal.returns-clause-stopped
returns-clause-stopped g c =
    let left = bytes_left g.F.Opener.content g.F.File.Read.remaining in
    let ended = c.run_over_files.result in
    let some : (shown c.args.config).files ≢ [] = some_names c.as_slice.result.now c.args.config.files.items c.as_slice.ensures.value (sym c.if-no_file.false ∙ c.is_empty-no_file.ensures) in
    stopped_by_files ended.result _ (shown c.args.config) c.as_str-text.result.now (left (device_of c.new-files.result)) (left (device_of ended.files))
    (stage_of c.args.streams c.args.counts) (stage_of ended.streams ended.counts)
    c.if-live.false some c.as_str-text.ensures.value (ap left c.new-files.ensures.device ∙ c.named.ensures.whole) (sym c.run_over_files.ensures.remaining) c.run_over_files.ensures.stopped

pub returns-clause-blamed : goal.returns-clause-blamed
returns-clause-blamed g c =
    let result = c.run_over_files.result.result in
    blamed_by_files result _ _ (failed_from result 0 _ _ c.new-files.ensures.failures c.run_over_files.ensures.read_failed) c.run_over_files.ensures.write_failed
