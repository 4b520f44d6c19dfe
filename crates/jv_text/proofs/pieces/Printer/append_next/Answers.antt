use Rattle.std.proofs.Common.{◌≡◌, ◌∙◌, [], ◌++◌, ap, sym, append_assoc, length, arith}
use Rattle.jv_text.specs.Pieces.{line_end, text_from}
use Rattle.jv_text.specs.PrintedTokens.{open_tokens}
use Rattle.jv_text.proofs.Resumed.{last_piece, opened_none, text_none}
use Rattle.jv_text.proofs.pieces.Printer.append_next.Goals as goal

pub returns-clause-ok : goal.returns-clause-ok
returns-clause-ok c =
    let done = c.in_ok-self-inside.ensures.ok in
    let end = line_end c.self.inside.style.join in
    let opened = c.append_piece.new.opened.items in
    let none : length opened ≡ 0 = omega arith in
    let left = text_from c.self.inside.style.compact c.in_ok-self-inside.field-0 (open_tokens opened []) in
    let nothing : left ≡ [] = ap (text_from c.self.inside.style.compact c.in_ok-self-inside.field-0) (opened_none opened none) ∙ text_none c.self.inside.style.compact c.in_ok-self-inside.field-0 in (
      done.0 ++ end,
      c.in_ok-end_line.ensures.ok ∙ ap (λ l. l ++ end) done.1 ∙ append_assoc c.args.out.now.items done.0 end,
      sym c.self.view_is ∙ ap (λ l. l ++ end) done.2 ∙ last_piece done.0 left end nothing,
    )
