use Rattle.std.proofs.Common.{◌∙◌, [], ◌∷◌, ◌++◌, sym, ap, append_assoc}
use Rattle.std.proofs.lemmas.Result.{on_ok_weaker}
use Rattle.json.specs.Token.{Token}
use Rattle.jv_data.proofs.shared.Levels.{view-List}
use Rattle.jv_data.specs.View.{view, items_view}
use Rattle.jv_text.specs.Printed.{tokens_of}
use Rattle.jv_text.specs.PrintedTokens.{open_tokens, rest_tokens, tokens_of_items, tokens_of_members}
use Rattle.jv_text.specs.declared.nested.Open.TheVariants.{Array, Object}
use Rattle.jv_text.proofs.OpenTokens.{open_tokens-last}
use Rattle.jv_text.proofs.Spelt.{tokens_of-Text, tokens_of-Table}
use Rattle.jv_text.proofs.nested.begin.Goals as goal

pub returns-in-Text-clause-ok : goal.returns-in-Text-clause-ok
returns-in-Text-clause-ok g c =
    let old = g.W.Tokens.written c.args.out.now in
    let opens = open_tokens c.args.opened.now.items [] in
    let seen = ap (λ v. tokens_of (view v)) c.in-Text.is ∙ tokens_of-Text c.in-Text.text in
    on_ok_weaker c.token-in-Text.result (λ e.
    ap (λ ts. ts ++ opens) (e ∙ ap (λ ts. old ++ ts) (ap (λ s. Token.string s ∷ []) c.as_str.ensures ∙ sym seen))
    ∙ append_assoc old (tokens_of (view c.args.value.now)) opens) c.token-in-Text.ensures.ok

pub returns-in_ok-push-in-List-clause-ok : goal.returns-in_ok-push-in-List-clause-ok
returns-in_ok-push-in-List-clause-ok g c =
    let old = g.W.Tokens.written c.args.out.now in
    let opened = c.args.opened.now.items in
    let rest = Array c.as_slice.result in
    let bracket = Token.begin_array ∷ [] in
    let seen = ap (λ v. tokens_of (view v)) c.in-List.is ∙ ap tokens_of (view-List c.in-List.items) in
    ap (λ ts. ts ++ open_tokens c.push.new.self.items []) c.in_ok-token-in-List.ensures.ok
    ∙ ap (λ os. (old ++ bracket) ++ open_tokens os []) c.in_ok-push-in-List.ensures.items
    ∙ ap (λ ts. (old ++ bracket) ++ ts) (open_tokens-last opened rest [])
    ∙ append_assoc old bracket (rest_tokens rest ++ open_tokens opened [])
    ∙ ap (λ ts. old ++ (ts ++ open_tokens opened [])) (ap (λ vs. Token.begin_array ∷ tokens_of_items (items_view vs)) c.as_slice.ensures ∙ sym seen)

pub returns-in_ok-push-in-Table-clause-ok : goal.returns-in_ok-push-in-Table-clause-ok
returns-in_ok-push-in-Table-clause-ok g c =
    let old = g.W.Tokens.written c.args.out.now in
    let opened = c.args.opened.now.items in
    let rest = Object c.iter.result in
    let bracket = Token.begin_object ∷ [] in
    let seen = ap (λ v. tokens_of (view v)) c.in-Table.is ∙ tokens_of-Table c.in-Table.members in
    ap (λ ts. ts ++ open_tokens c.push-in-Table.new.self.items []) c.in_ok-token-in-Table.ensures.ok
    ∙ ap (λ os. (old ++ bracket) ++ open_tokens os []) c.in_ok-push-in-Table.ensures.items
    ∙ ap (λ ts. (old ++ bracket) ++ ts) (open_tokens-last opened rest [])
    ∙ append_assoc old bracket (rest_tokens rest ++ open_tokens opened [])
    ∙ ap (λ ts. old ++ (ts ++ open_tokens opened [])) (ap (λ ms. Token.begin_object ∷ tokens_of_members ms) c.iter.ensures.members ∙ sym seen)
