use Rattle.std.proofs.Common.{◌≡◌, ◌-◌, ◌∙◌, ap, refl, subst, sym, arith, rules}
use Rattle.std.proofs.lemmas.Grind.{common_steps}
use Rattle.jq_pages.specs.Contents.{folded_of}
use Rattle.jq_filters.specs.Pieces.{status_in}
use Rattle.jq_session.specs.Sessions.{IsMoveRefusal}
use Rattle.jq_session.specs.States.{after_move, state_in}
use Rattle.jq_session.specs.declared.splices.Follow.{Follow}
use Rattle.jq_session.proofs.OnPages.{follows_move, move_refused, move_started, moved_paged, served_moved}
use Rattle.jq_session.proofs.paged.PagedSession.shift.Goals as goal

pub invariant_of-self : goal.invariant_of-self
invariant_of-self g c =
    let f = c.args.self.now.filter.value in
    let x = folded_of c.args.self.now.pages in
    let y = folded_of c.shift.new.self in
    record { serves = served_moved c.shift.result f c.args.k c.args.l x y c.shift.ensures.moved c.shift.ensures.unchanged c.args.self.now.serves }

pub returns-in-Ok-clause-moved : goal.returns-in-Ok-clause-moved
returns-in-Ok-clause-moved g c =
    moved_paged c.args.self.now.filter.value c.args.k c.args.l (folded_of c.args.self.now.pages) (folded_of c.shift.new.self) c.in-Ok.ensures.moved

pub returns-in-Ok-clause-follow : goal.returns-in-Ok-clause-follow
returns-in-Ok-clause-follow g c =
    let a = c.followed-second.ensures in
    let f = c.args.self.now.filter.value in
    let same : c.settings.result ≡ f.settings = first_of (search rules, grind (arith, common_steps)) in
    let status = c.status_of.ensures ∙ ap (λ s. status_in s.exit c.in-Ok.moved.between) same in
    let m = c.in-Ok.moved in
    let first : Follow = record { out = m.removal.out; err = m.removal.err; status = c.status_of.result; runs = m.starts - c.starts-before.result } in
    follows_move f c.args.k c.args.l (folded_of c.args.self.now.pages) (folded_of c.shift.new.self) m first c.followed-second.result
    c.args.self.now.serves c.in-Ok.ensures.halves refl refl status a.out a.err a.status

pub returns-in-Ok-clause-started : goal.returns-in-Ok-clause-started
returns-in-Ok-clause-started g c =
    move_started c.args.self.now.filter.value c.args.k c.args.l (folded_of c.args.self.now.pages) _ _ c.args.self.now.serves c.shift.ensures.started

pub returns-in-Err-clause-refused : goal.returns-in-Err-clause-refused
returns-in-Err-clause-refused g c =
    let f = c.args.self.now.filter.value in
    let x = folded_of c.args.self.now.pages in
    subst (λ r. IsMoveRefusal r (after_move c.args.k c.args.l (state_in f x.inputs))) (sym c.refusal_of.ensures) (move_refused f c.args.k c.args.l x c.in-Err.refusal c.in-Err.ensures.refused)

pub returns-in-Err-clause-unchanged : goal.returns-in-Err-clause-unchanged
returns-in-Err-clause-unchanged g c = ap (λ z. state_in c.args.self.now.filter.value z.inputs) c.in-Err.ensures.unchanged

pub returns-in-Err-clause-started : goal.returns-in-Err-clause-started
returns-in-Err-clause-started g c =
    move_started c.args.self.now.filter.value c.args.k c.args.l (folded_of c.args.self.now.pages) _ _ c.args.self.now.serves c.shift.ensures.started
