use Rattle.std.proofs.Common.{MatchOption, map, subst}
use Rattle.std.specs.Str.{chars}
use Rattle.jq_lexer.specs.Views.{token_of}
use Rattle.jq_tree.specs.Filter.{Within}
use Rattle.jq_parser.specs.Refusals.{HasTree, IsRefusedAt}
use Rattle.jq_syntax.specs.SyntaxPlaces.{IsSyntaxError}
use Rattle.jq_syntax.proofs.Refused.{not_refused}
use Rattle.jq_syntax.proofs.syntax_places.place_of_syntax_error.Goals as goal

pub returns-in_default-2 : goal.returns-in_default-2
returns-in_default-2 c =
    let text = chars c.args.text.now in
    let ts = map token_of c.in-Some.tokens.items in
    let within : Within text ts = subst (λ o. MatchOption o (¬ IsSyntaxError text) (λ v. Within text (map token_of v.items))) c.in-Some.is c.in_ok-tokens.ensures in
    let tree : HasTree ts = subst (λ o. MatchOption o (HasTree ts) (IsRefusedAt ts)) c.in_default-2.is c.in_ok-taken.ensures in
    not_refused c.one_reading.ensures.tokens text ts within tree
