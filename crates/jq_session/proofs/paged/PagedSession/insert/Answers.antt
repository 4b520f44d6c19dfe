use Rattle.std.proofs.Common.{◌+◌, ◌∙◌, ap, subst, sym}
use Rattle.jv_data.specs.View.{view}
use Rattle.jq_pages.specs.Contents.{folded_of}
use Rattle.jq_pages.specs.Edits.{insert}
use Rattle.jq_session.specs.Sessions.{IsRefusal}
use Rattle.jq_session.specs.States.{after, state_in}
use Rattle.jq_session.proofs.OnPages.{after_paged, follows_paged, refused_paged, served_after, started_low, started_paged}
use Rattle.jq_session.proofs.paged.PagedSession.insert.Goals as goal

pub invariant_of-self : goal.invariant_of-self
invariant_of-self g c =
    let f = c.args.self.now.filter.value in
    let x = folded_of c.args.self.now.pages in
    let y = folded_of c.insert.new.self in
    record { serves = served_after c.insert.result f (insert c.args.k (view c.args.value)) x y c.insert.ensures.edited c.insert.ensures.unchanged c.args.self.now.serves }

pub followed-requires : goal.followed-requires
followed-requires g c = started_low (insert c.args.k (view c.args.value)) (folded_of c.args.self.now.pages) _ _ _ c.starts-before.ensures c.insert.ensures.started

pub returns-in-Ok-clause-edited : goal.returns-in-Ok-clause-edited
returns-in-Ok-clause-edited g c =
    after_paged c.args.self.now.filter.value (insert c.args.k (view c.args.value)) (folded_of c.args.self.now.pages) (folded_of c.insert.new.self) c.in-Ok.ensures.edited

pub returns-in-Ok-clause-follow : goal.returns-in-Ok-clause-follow
returns-in-Ok-clause-follow g c =
    let a = c.followed.ensures in
    follows_paged c.args.self.now.filter.value (insert c.args.k (view c.args.value)) (folded_of c.args.self.now.pages) (folded_of c.insert.new.self) c.in-Ok.edited c.followed.result
    c.args.self.now.serves c.in-Ok.ensures.edited c.in-Ok.ensures.change c.in-Ok.ensures.spliced a.out a.err a.status

pub returns-in-Ok-clause-runs : goal.returns-in-Ok-clause-runs
returns-in-Ok-clause-runs g c = c.followed.ensures.runs ∙ ap (λ n. n + c.followed.result.runs) c.starts-before.ensures

pub returns-in-Ok-clause-started : goal.returns-in-Ok-clause-started
returns-in-Ok-clause-started g c =
    started_paged c.args.self.now.filter.value (insert c.args.k (view c.args.value)) (folded_of c.args.self.now.pages) _ _ c.args.self.now.serves c.insert.ensures.started

pub returns-in-Err-clause-refused : goal.returns-in-Err-clause-refused
returns-in-Err-clause-refused g c =
    let f = c.args.self.now.filter.value in
    let x = folded_of c.args.self.now.pages in
    subst (λ r. IsRefusal r (after (insert c.args.k (view c.args.value)) (state_in f x.inputs))) (sym c.refusal_of.ensures) (refused_paged f (insert c.args.k (view c.args.value)) x c.in-Err.refusal c.in-Err.ensures.refused)

pub returns-in-Err-clause-unchanged : goal.returns-in-Err-clause-unchanged
returns-in-Err-clause-unchanged g c = ap (λ z. state_in c.args.self.now.filter.value z.inputs) c.in-Err.ensures.unchanged

pub returns-in-Err-clause-started : goal.returns-in-Err-clause-started
returns-in-Err-clause-started g c =
    started_paged c.args.self.now.filter.value (insert c.args.k (view c.args.value)) (folded_of c.args.self.now.pages) _ _ c.args.self.now.serves c.insert.ensures.started
