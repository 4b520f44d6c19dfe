-- What the command did with a filter, a configuration and its words.
use Rattle.std.proofs.Common.{◌≡◌, ◌≢◌, inl, inr, ℕ, List, [], Option, Result, Ok, Err, IfOk, IfErr, true, false, refl, subst}
use Rattle.std.specs.Str.{chars}
use Rattle.clap.specs.Words.{Text}
use Rattle.jq_cli.specs.Answers.{Asks}
use Rattle.jq_cli.specs.Configuration.{Configuration}
use Rattle.jq_devices.specs.Files.{contents}
use Rattle.jv_data.proofs.shared.Results.{if_err_map, if_ok_map}
use Rattle.jq_devices.specs.declared.faults.StreamFault.{StreamFault}
use Rattle.jq_filters.specs.Outcomes.{Outcome}
use Rattle.jq_stream.specs.Streams.{Streams}
use Rattle.jq_run.specs.Filters.{IsAnswered, IsFilterDone, IsFilterStopped, IsWritingStopped}
use Rattle.jq_app.specs.Served.{IsConfigurationDone, IsReply, IsServed}
use Rattle.jq_app.specs.Sessions.{IsSessionDone, IsSessionStopped}
use Rattle.jq_app.specs.Stages.{Content, Files, Stage, files_of}
use Rattle.jq_app.specs.Stopped.{IsConfigurationStopped, IsStopped}

-- ---- clauses on a result that is known

pub ok_at : {A E : Type 0} (r : Result A E) (a : A) (P : A → Type 0) → r ≡ Ok a → IfOk r P → P a
ok_at r a P is h = subst (λ q. IfOk q P) is h

pub err_at : {A E : Type 0} (r : Result A E) (e : E) (P : E → Type 0) → r ≡ Err e → IfErr r P → P e
err_at r e P is h = subst (λ q. IfErr q P) is h

-- ---- a configuration

pub done_here : {E : Type 0} (r : Result ℕ E) (fs : Files) (c : Configuration) (filter : List ℕ) (old new : Stage) → c.live ≡ false → c.files ≡ [] → filter ≡ c.filter
    → IfOk r (λ answer. IsFilterDone c.options (chars filter) old.streams new.streams answer) → IfOk r (λ answer. IsConfigurationDone fs c old new answer)
done_here r fs c filter old new live none is h =
    if_ok_map r h (λ answer done. inl (live, old.streams, new.streams, inl (none, refl, refl), subst (λ t. IsFilterDone c.options (chars t) old.streams new.streams answer) is done))

pub stopped_here : (r : Result ℕ StreamFault) (fs : Files) (c : Configuration) (filter : List ℕ) (old new : Stage) → c.live ≡ false → c.files ≡ [] → filter ≡ c.filter
    → IfErr r (λ f. IsFilterStopped f c.options (chars filter) old.streams new.streams) → IfErr r (λ f. IsConfigurationStopped f fs c old new)
stopped_here r fs c filter old new live none is h =
    if_err_map r h (λ f stopped. inl (live, old.streams, new.streams, inl (none, refl, refl), subst (λ t. IsFilterStopped f c.options (chars t) old.streams new.streams) is stopped))

-- the outputs of a command, and these bytes as the input
abbrev pub over : Option (List ℕ) → Stage → Streams
over bytes s = record { remaining = bytes; outputs = s.streams.outputs }

-- the files were read, and nothing of the standard input
pub done_by_files : {E : Type 0} (r : Result ℕ E) (content : Content) (c : Configuration) (filter : List ℕ) (before left : Option (List ℕ)) (old new : Stage)
    → c.live ≡ false → c.files ≢ [] → filter ≡ c.filter → before ≡ contents content c.files → old.streams.remaining ≡ new.streams.remaining
    → IfOk r (λ answer. IsFilterDone c.options (chars filter) (over before old) (over left new) answer)
    → IfOk r (λ answer. IsConfigurationDone (files_of content left) c old new answer)
done_by_files r content c filter before left old new live some is are unread h = if_ok_map r h (λ answer done.
    let by_text = subst (λ t. IsFilterDone c.options (chars t) (over before old) (over left new) answer) is done in
    let by_names = subst (λ b. IsFilterDone c.options (chars c.filter) (over b old) (over left new) answer) are by_text in
    inl (live, over (contents content c.files) old, over left new, inr (some, unread, refl, refl), by_names))

pub stopped_by_files : (r : Result ℕ StreamFault) (content : Content) (c : Configuration) (filter : List ℕ) (before left : Option (List ℕ)) (old new : Stage)
    → c.live ≡ false → c.files ≢ [] → filter ≡ c.filter → before ≡ contents content c.files → old.streams.remaining ≡ new.streams.remaining
    → IfErr r (λ f. IsFilterStopped f c.options (chars filter) (over before old) (over left new))
    → IfErr r (λ f. IsConfigurationStopped f (files_of content left) c old new)
stopped_by_files r content c filter before left old new live some is are unread h = if_err_map r h (λ f stopped.
    let by_text = subst (λ t. IsFilterStopped f c.options (chars t) (over before old) (over left new)) is stopped in
    let by_names = subst (λ b. IsFilterStopped f c.options (chars c.filter) (over b old) (over left new)) are by_text in
    inl (live, over (contents content c.files) old, over left new, inr (some, unread, refl, refl), by_names))

pub done_session : {E : Type 0} (r : Result ℕ E) (content : Content) (left : Option (List ℕ)) (c : Configuration) (filter : List ℕ) (before : Option (List ℕ)) (old new : Stage)
    → c.live ≡ true → filter ≡ c.filter → before ≡ contents content c.files
    → IfOk r (λ answer. IsSessionDone before c.follow c.options (chars filter) old new answer) → IfOk r (λ answer. IsConfigurationDone (files_of content left) c old new answer)
done_session r content left c filter before old new live is are h = if_ok_map r h (λ answer done.
    let by_text = subst (λ t. IsSessionDone before c.follow c.options (chars t) old new answer) is done in
    inr (live, subst (λ b. IsSessionDone b c.follow c.options (chars c.filter) old new answer) are by_text))

pub stopped_session : (r : Result ℕ StreamFault) (content : Content) (left : Option (List ℕ)) (c : Configuration) (filter : List ℕ) (before : Option (List ℕ)) (old new : Stage)
    → c.live ≡ true → filter ≡ c.filter → before ≡ contents content c.files
    → IfErr r (λ f. IsSessionStopped f before c.follow c.options (chars filter) old new) → IfErr r (λ f. IsConfigurationStopped f (files_of content left) c old new)
stopped_session r content left c filter before old new live is are h = if_err_map r h (λ f stopped.
    let by_text = subst (λ t. IsSessionStopped f before c.follow c.options (chars t) old new) is stopped in
    inr (live, subst (λ b. IsSessionStopped f b c.follow c.options (chars c.filter) old new) are by_text))

-- ---- the words

pub served_reply : {E : Type 0} (r : Result ℕ E) (fs : Files) (words : List Text) (outcome : Outcome) (old new : Stage) → IsReply words outcome → old.starts ≡ new.starts
    → IfOk r (λ answer. IsAnswered outcome old.streams.outputs new.streams.outputs answer) → IfOk r (λ answer. IsServed fs words old new answer)
served_reply r fs words outcome old new is same h = if_ok_map r h (λ answer answered. inr (outcome, is, answered, same))

pub served_configuration : {E : Type 0} (r : Result ℕ E) (fs : Files) (words : List Text) (c : Configuration) (old new : Stage) → Asks words c → IfOk r (λ answer. IsConfigurationDone fs c old new answer)
    → IfOk r (λ answer. IsServed fs words old new answer)
served_configuration r fs words c old new asks h = if_ok_map r h (λ answer done. inl (c, asks, done))

pub stopped_reply : (r : Result ℕ StreamFault) (fs : Files) (words : List Text) (outcome : Outcome) (old new : Stage) → IsReply words outcome → old.starts ≡ new.starts
    → IfErr r (λ f. IsWritingStopped f outcome old.streams new.streams) → IfErr r (λ f. IsStopped f fs words old new)
stopped_reply r fs words outcome old new is same h = if_err_map r h (λ f stopped. inr (inl (outcome, is, stopped, same)))

pub stopped_configuration : (r : Result ℕ StreamFault) (fs : Files) (words : List Text) (c : Configuration) (old new : Stage) → Asks words c → IfErr r (λ f. IsConfigurationStopped f fs c old new)
    → IfErr r (λ f. IsStopped f fs words old new)
stopped_configuration r fs words c old new asks h = if_err_map r h (λ f stopped. inl (c, asks, stopped))
