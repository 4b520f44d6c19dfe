use Rattle.std.proofs.Common.{◌≡◌, ◌∙◌, [], ◌++◌, ap, sym, drop, length}
use Rattle.json.specs.Layout.{is_value}
use Rattle.json.specs.Print.{print, print_from}
use Rattle.jv_text.specs.Places.{place_of, replayed}
use Rattle.jv_text.specs.PrintedTokens.{open_tokens}
use Rattle.jv_text.proofs.Resumed.{after_front, line_resumed}
use Rattle.jv_text.proofs.pieces.append_line.Goals as goal

pub returns-clause-ok : goal.returns-clause-ok
returns-clause-ok c =
    let place = c.args.place in
    let all = open_tokens c.args.opened.now.items [] in
    let left = open_tokens c.write_some.new.opened.items [] in
    let written = c.write_some.new.out in
    let resumed : written ++ left ≡ replayed place ++ all =
    c.in_ok-write_some.ensures ∙ ap (λ ts. ts ++ all) (c.in_ok-replay-2.ensures.ok ∙ ap (λ ts. ts ++ replayed place) c.in_ok-line.ensures) in
    let front = c.finish-replayed.ensures.text ∙ ap print (c.in_ok-replay.ensures.ok ∙ ap (λ ts. ts ++ replayed place) c.in_ok-before.ensures) in
    let len = ap length (c.as_slice-skipped.ensures.value ∙ front) in
    let after = print_from (is_value (place_of c.finish-text.result.1).0) left in
    let rest = print_from (is_value (place_of place).0) all in
    let same =
    ap (λ t. t ++ after) (c.as_slice.ensures.value ∙ c.finish-text.ensures.text)
    ∙ ap (λ b. print written ++ print_from b left) c.finish-text.ensures.place ∙ line_resumed place written left all resumed in
    let done = c.in_ok-append_after.ensures.ok in
    let text = c.as_slice.result.now in
    let skipped = length c.as_slice-skipped.result.now in
    (drop skipped text, done.1, after_front text (print (replayed place)) after rest skipped done.0 (sym len) same)
