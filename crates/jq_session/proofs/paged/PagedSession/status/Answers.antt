use Rattle.std.proofs.Common.{◌≡◌, ◌∙◌, ap, arith, rules}
use Rattle.std.proofs.lemmas.Grind.{common_steps}
use Rattle.jq_pages.specs.Contents.{folded_of}
use Rattle.jq_filters.specs.Pieces.{status_in}
use Rattle.jq_session.proofs.OnPages.{status_paged}
use Rattle.jq_session.proofs.paged.PagedSession.status.Goals as goal

pub returns : goal.returns
returns g c =
    let f = c.args.self.now.filter.value in
    let same : c.settings.result ≡ f.settings = first_of (search rules, grind (arith, common_steps)) in
    c.status_of.ensures ∙ ap (λ s. status_in s.exit c.totals.result) same ∙ ap (status_in f.settings.exit) c.totals.ensures
    ∙ status_paged f (folded_of c.args.self.now.pages) c.args.self.now.serves
