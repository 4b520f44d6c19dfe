use Rattle.std.proofs.Common.{refl, sym}
use Rattle.jq_script.specs.Serving.{point_of}
use Rattle.jq_app.proofs.Live.{cut_off, err_status, ok_status}
use Rattle.jq_app.proofs.sessions.serve_host.Goals as goal

pub returns-clause-served : goal.returns-clause-served
returns-clause-served g c =
    ok_status c.serve-served.result c.status_of.result _ _ c.status_of.ensures.ok c.status_of.ensures.err c.serve-served.ensures.served
    (λ served. (refl, point_of c.serve-served.new.host, sym c.into_starts.ensures, served))

pub returns-clause-stopped : goal.returns-clause-stopped
returns-clause-stopped g c =
    err_status c.serve-served.result c.status_of.result _ c.status_of.ensures.ok c.status_of.ensures.err
    (cut_off c.serve-served.result _ _ _ c.serve-served.ensures.stopped c.serve-served.ensures.one_pass
    (λ f stopped one_pass. (point_of c.serve-served.new.host, sym c.into_starts.ensures, stopped, one_pass)))

pub returns-clause-read_failed : goal.returns-clause-read_failed
returns-clause-read_failed g c = err_status c.serve-served.result c.status_of.result _ c.status_of.ensures.ok c.status_of.ensures.err c.serve-served.ensures.read_failed

pub returns-clause-write_failed : goal.returns-clause-write_failed
returns-clause-write_failed g c = err_status c.serve-served.result c.status_of.result _ c.status_of.ensures.ok c.status_of.ensures.err c.serve-served.ensures.write_failed
