use Rattle.std.proofs.Common.{◌≡◌, ◌∙◌, ◌<◌, ◌++◌, ◌∷◌, [], suc, get_or, set, length, ap, sym, subst, rules, arith}
use Rattle.std.proofs.lemmas.Grind.{get_or_default_zero}
use Rattle.jq_resolver.specs.private.Buckets.{bucket_in, bucket_of, AreLinked}
use Rattle.jq_resolver.specs.declared.bindings.Bound.{Bound}
use Rattle.jq_resolver.proofs.Buckets.{linked_more}
use Rattle.jq_resolver.proofs.bindings.Bindings.enter.Goals as goal

pub invariant_of-self-2 : goal.invariant_of-self-2
invariant_of-self-2 c =
    let xs = c.self.inside.binders.items in
    let table = c.self.inside.latest.items in
    let b = c.bucket_of-bucket.result in
    let x : Bound = record { kind = c.args.kind; name = c.in_ok-name.name; before = c.index-before.result.now } in
    let own : b ≡ bucket_in x = c.bucket_of-bucket.ensures.value ∙ ap (bucket_of c.args.kind) (sym c.in_ok-name.ensures.ok) in
    let below : bucket_in x < 1024 = subst (λ z. z < 1024) own c.bucket_of-bucket.ensures.within in
    let inside : b < length table = omega (arith, c.bucket_of-bucket.ensures.within, c.self.invariant.size) in
    let before : x.before ≡ get_or table (bucket_in x) 0 = c.index-before.ensures ∙ get_or_default_zero table b x.before inside ∙ ap (λ z. get_or table z 0) own in
    let pushed : c.push.new.self.items ≡ xs ++ x ∷ [] = search rules in
    let count : c.len.result ≡ suc (length xs) = search rules in
    subst (λ zs. AreLinked zs (set table b c.len.result)) (sym pushed)
    (subst (λ n. AreLinked (xs ++ x ∷ []) (set table b n)) (sym count)
    (subst (λ z. AreLinked (xs ++ x ∷ []) (set table z (suc (length xs)))) (sym own) (linked_more xs table x c.self.invariant below before)))
