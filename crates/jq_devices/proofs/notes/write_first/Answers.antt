use Rattle.std.proofs.Common.{◌≡◌, ◌-◌, sym, subst, take, drop, length, length-drop, arith}
use Rattle.std.proofs.Math.Seq.{take-add}
use Rattle.std.proofs.lemmas.List.{take_all}
use Rattle.std.proofs.KnownBytes.{Appends-trans}
use Rattle.std.specs.Io.KnownBytes.{Appends}
use Rattle.jq_devices.proofs.notes.write_first.Goals as goal

pub loop-count-preserved : goal.loop-count-preserved
loop-count-preserved g c =
    let bytes = c.args.bytes.now in
    let count = c.loop-count.count in
    let rest : take (length bytes - count) (drop count bytes) ≡ drop count bytes = take_all _ (drop count bytes) (omega (arith, length-drop count bytes)) in
    let now = subst (λ l. Appends (g.W.Write.contents c.loop-count.writer) (g.W.Write.contents c.write.new.self) (take c.in-Ok.len l)) rest c.in-Ok.ensures.bytes in
    let more = Appends-trans _ _ _ (take count bytes) (take c.in-Ok.len (drop count bytes)) c.loop-count.invariant.written now in
    record {
      bound = omega (arith, length-drop count bytes, c.loop-count.invariant.bound, c.in-Ok.ensures.bound);
      written = subst (λ l. Appends (g.W.Write.contents c.args.writer.now) (g.W.Write.contents c.write.new.self) l) (sym (take-add count c.in-Ok.len bytes)) more;
    }
