use Rattle.std.proofs.Common.{◌≡◌, ◌∙◌, ◌<◌, ◌++◌, ◌∷◌, [], set, ap, sym, subst, rules}
use Rattle.jq_resolver.specs.private.Buckets.{bucket_in, bucket_of, AreLinked}
use Rattle.jq_resolver.proofs.Buckets.{linked_less}
use Rattle.jq_resolver.proofs.bindings.Bindings.leave.Goals as goal

pub invariant_of-self : goal.invariant_of-self
invariant_of-self c =
    let xs = c.self.inside.binders.items in
    let ys = c.pop.new.self.items in
    let table = c.self.inside.latest.items in
    let x = c.in-Some.bound in
    let all : xs ≡ ys ++ x ∷ [] = search rules in
    let own : c.bucket_of-bucket.result ≡ bucket_in x = c.bucket_of-bucket.ensures.value ∙ ap (bucket_of x.kind) c.as_str.ensures.value in
    let below : bucket_in x < 1024 = subst (λ z. z < 1024) own c.bucket_of-bucket.ensures.within in
    subst (λ z. AreLinked ys (set table z x.before)) (sym own) (linked_less ys table x (subst (λ zs. AreLinked zs table) all c.self.invariant) below)
