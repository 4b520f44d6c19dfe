use Rattle.std.proofs.Common.{◌≡◌, ◌+◌, sym, ap, ◌∙◌, subst}
use Rattle.jq_starts.specs.Starts.{starts_in}
use Rattle.jq_session.specs.Sessions.{starts_of, state_of}
use Rattle.jq_session.specs.Starts.{IsFirstRun}
use Rattle.jq_session.specs.States.{refiltered}
use Rattle.jq_script.specs.Serving.{spare_starts}
use Rattle.jq_script.proofs.Hosting.{exchanged, returned}
use Rattle.jq_script.proofs.host.Host.refilter.Goals as goal

pub returns-in-Ok-clause-started : goal.returns-in-Ok-clause-started
returns-in-Ok-clause-started c =
    let old = c.args.self.now in
    let first = refiltered c.args.filter (state_of old.session) in
    let mine = starts_of old.session in
    let given = starts_in c.unwrap-spare.result in
    let fresh = starts_of c.refilter.new.self in
    let back = starts_in c.in-Ok.old in
    let spare : spare_starts old.spare ≡ given = ap spare_starts (sym c.take.ensures.value ∙ c.unwrap-spare.ensures) in
    subst (λ n. IsFirstRun first (mine + n) (fresh + back)) (sym spare)
    (exchanged first mine given fresh back (subst (λ s. IsFirstRun s given fresh) c.in-Ok.ensures.taken c.in-Ok.ensures.started) c.in-Ok.ensures.returned)

pub returns-in-Err-clause-started : goal.returns-in-Err-clause-started
returns-in-Err-clause-started c =
    let old = c.args.self.now in
    let first = refiltered c.args.filter (state_of old.session) in
    let mine = starts_of old.session in
    let given = starts_in c.unwrap-spare.result in
    let still = starts_of c.refilter.new.self in
    let left = starts_in c.in-Err.refused.starts in
    let spare : spare_starts old.spare ≡ given = ap spare_starts (sym c.take.ensures.value ∙ c.unwrap-spare.ensures) in
    subst (λ n. IsFirstRun first (mine + n) (still + left)) (sym spare)
    (returned first mine given left still c.in-Err.ensures.refused.1 (ap (λ p. p.starts) c.in-Err.ensures.unchanged))
