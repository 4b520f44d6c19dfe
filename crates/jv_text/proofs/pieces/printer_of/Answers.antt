use Rattle.std.proofs.Common.{◌≡◌, ◌∙◌, [], ◌∷◌, ◌++◌, ap, refl, rules}
use Rattle.jv_data.specs.View.{view}
use Rattle.jv_text.specs.Pieces.{line_end, text_from}
use Rattle.jv_text.specs.PrintedTokens.{open_tokens}
use Rattle.jv_text.specs.declared.nested.Open.TheVariants.{Whole}
use Rattle.jv_text.specs.declared.places.Place.TheVariants.{Nothing}
use Rattle.jv_text.proofs.Resumed.{text_whole}
use Rattle.jv_text.proofs.pieces.printer_of.Goals as goal

pub returns : goal.returns
returns c =
    let style = c.args.style in
    let opened : c.push.new.self.items ≡ Whole c.args.value ∷ [] = search (rules, c.in_ok-push.ensures.items) in
    ap (λ os. text_from style.compact Nothing (open_tokens os []) ++ line_end style.join) opened
    ∙ ap (λ l. l ++ line_end style.join) (text_whole style.compact style (view c.args.value.now) refl)
