use Rattle.std.proofs.Common.{◌≡◌, ◌<◌, take}
use Rattle.jq_resolver.specs.private.Buckets.{hashed, seed_of}
use Rattle.jq_resolver.proofs.bindings.bucket_of.Given as goal

abbrev pub invariant-loop-byte : goal.invariant-loop-byte
invariant-loop-byte l = record {
  within : l.hash < 1024;
  value : l.hash ≡ hashed (seed_of l.fn.kind) (take l.byte-index l.byte-items);
}
