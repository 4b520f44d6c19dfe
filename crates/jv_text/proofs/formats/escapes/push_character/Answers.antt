use Rattle.std.proofs.Common.{◌∙◌, ◌++◌, ap, sym, rules}
use Rattle.jv_data.specs.Text.{text_of}
use Rattle.jv_data.proofs.shared.Texts.{written_more}
use Rattle.jv_text.proofs.formats.escapes.push_character.Goals as goal

pub returns-in_ok-push-in-None : goal.returns-in_ok-push-in-None
returns-in_ok-push-in-None c = written_more c.args.out.now c.push.new.self c.args.c (search rules) ∙ ap (λ xs. text_of c.args.out.now ++ xs) (sym c.in-None.ensures)
