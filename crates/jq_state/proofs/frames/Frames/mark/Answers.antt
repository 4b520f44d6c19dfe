use Rattle.std.proofs.Common.{◌≡◌, ◌+◌, ◌-◌, length, ap, ◌∙◌, arith}
use Rattle.jq_state.proofs.Trimming.{last_mark-at}
use Rattle.jq_state.proofs.frames.Frames.mark.Goals as goal

pub returns : goal.returns
returns c =
    let frames = c.args.self.now.frames in
    let i = c.len-count.result - 1 in
    let p : length frames.items ≡ i + 1 = omega (arith, c.len-count.ensures, frames.ok.0, c.if-count-eq0.false) in
    ap (λ f. f.mark) c.index.ensures ∙ last_mark-at 0 frames.items c.index.result.now i p
