use Rattle.std.proofs.Common.{◌≡◌, ◌∙◌, ◌∷◌, [], false, ap, rules, sym}
use Rattle.jq_tree.specs.Binders.{without_binder}
use Rattle.jq_resolver.specs.private.Waiting.{is_somewhere, names_left, use_of}
use Rattle.jq_resolver.proofs.Referred.{unbound_first}
use Rattle.jq_resolver.proofs.unbound.first_undefined.Goals as goal

pub returns-then-not-is_bound : goal.returns-then-not-is_bound
returns-then-not-is_bound c =
    let name = c.in-Some.name in
    let later = names_left c.next.new.self in
    let first : names_left c.loop-uses.uses ≡ use_of name ∷ later = search rules in
    let nowhere : is_somewhere (use_of name).1 ≡ false = sym c.is_bound.ensures ∙ c.if-not-is_bound.true in (
      without_binder later,
      c.loop-uses.invariant ∙ ap without_binder first ∙ unbound_first (use_of name).0 (use_of name).1 later nowhere
          ∙ ap (λ r. r ∷ without_binder later) (sym c.in_ok-refused.ensures),
    )

pub returns : goal.returns
returns c =
    let none : names_left c.loop-uses.uses ≡ [] = search rules in
    c.loop-uses.invariant ∙ ap without_binder none
