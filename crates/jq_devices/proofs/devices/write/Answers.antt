use Rattle.std.proofs.Common.{rules, ◌++◌, take, drop, sym, ap, ◌∙◌, append_assoc, take-append-drop}
use Rattle.std.proofs.KnownBytes.{Appends-trans}
use Rattle.jq_devices.proofs.devices.write.Goals as goal

pub loop-rest-preserved : goal.loop-rest-preserved
loop-rest-preserved g c =
    let before = c.loop-rest.invariant.written in
    let rest = c.loop-rest.rest.now in
    let written = take c.in-Ok.len rest in
    let parts = before.1 ∙ ap (λ l. before.0 ++ l) (sym (take-append-drop c.in-Ok.len rest)) ∙ sym (append_assoc before.0 written (drop c.in-Ok.len rest))
    ∙ ap (λ l. (before.0 ++ written) ++ l) (sym c.split_at.ensures.back) in
    record {
      written = (before.0 ++ written, parts, Appends-trans _ _ _ before.0 written before.2 c.in-Ok.ensures.bytes);
      unfailed = c.in-Ok.ensures.unfailed (search rules) ∙ c.loop-rest.invariant.unfailed;
    }
