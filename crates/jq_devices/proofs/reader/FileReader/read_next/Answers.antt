use Rattle.std.proofs.Common.{rules, ◌≡◌, ◌++◌, ◌∷◌, [], sym, ap, subst, ◌∙◌, append_assoc, arith}
use Rattle.std.proofs.KnownBytes.{Keeps-trans}
use Rattle.jq_devices.specs.Files.{unopened}
use Rattle.jq_devices.specs.private.Reads.{IsNext}
use Rattle.jq_devices.proofs.Bytes.{Keeps-none_read}
use Rattle.jq_devices.proofs.reader.FileReader.read_next.Goals as goal

pub loop-len-preserved : goal.loop-len-preserved
loop-len-preserved g c =
    let none_read : c.in_ok-len.len ≡ 0 = omega (arith, c.if-len-gt0.false) in
    let closed = Keeps-none_read _ _ _ _ none_read c.in_ok-len.ensures.bytes in
    let before = c.loop-len.invariant in
    let next = subst (λ b. IsNext b c.read_open.new.self c.open_next.new.self) c.if-not-branch.false c.in_ok-open_next.ensures.next in
    let passed = sym c.in_ok-len.ensures.unopened ∙ next.1 in
    record {
      bytes = Keeps-trans _ _ _ before.bytes (Keeps-trans _ _ _ closed c.in_ok-open_next.ensures.bytes);
      opened = (before.opened.0 ++ (next.0 ∷ []), before.opened.1 ∙ ap (λ l. before.opened.0 ++ l) passed ∙ sym (append_assoc before.opened.0 (next.0 ∷ []) (unopened c.open_next.new.self)));
      ended = λ none shut. absurd (search (rules, passed, before.ended none shut, none));
      failed = search rules;
      room = search rules;
    }
