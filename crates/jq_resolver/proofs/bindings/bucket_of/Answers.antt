use Rattle.std.proofs.Common.{◌≡◌, ◌∙◌, ◌+◌, ◌*◌, ◌%◌, ◌++◌, ◌∷◌, [], get_or, take, ap, sym, rules, arith}
use Rattle.std.proofs.lemmas.List.{take_more}
use Rattle.std.proofs.Math.Nat.{mod-lt}
use Rattle.jq_resolver.specs.private.Buckets.{hashed, seed_of}
use Rattle.jq_resolver.proofs.Buckets.{hashed_more}
use Rattle.jq_resolver.proofs.bindings.bucket_of.Goals as goal

pub loop-byte-preserved : goal.loop-byte-preserved
loop-byte-preserved c =
    let bs = c.as_bytes-byte-items.result.now in
    let i = c.loop-byte.byte-index in
    let byte = c.from.result in
    let seed = seed_of c.args.kind in
    let read : byte ≡ get_or bs i 0 = search rules in
    let more : take (i + 1) bs ≡ take i bs ++ byte ∷ [] = take_more bs i 0 c.loop-byte-test.true ∙ ap (λ z. take i bs ++ z ∷ []) (sym read) in
    record {
      within = mod-lt _ (omega arith);
      value = ap (λ h. (h * 37 + byte) % 1024) c.loop-byte.invariant.value ∙ sym (ap (hashed seed) more ∙ hashed_more (take i bs) (byte ∷ []) seed);
    }
