use Rattle.std.proofs.Common.{◌∙◌, [], ◌∷◌, ◌++◌, sym, ap, append_assoc}
use Rattle.json.specs.Token.{Token}
use Rattle.jv_data.specs.View.{view, items_view, members_view}
use Rattle.jv_text.specs.Printed.{tokens_of}
use Rattle.jv_text.specs.PrintedTokens.{open_tokens, rest_tokens, tokens_of_items, tokens_of_members}
use Rattle.jv_text.specs.declared.nested.Open.TheVariants.{Array, Object}
use Rattle.jv_text.proofs.OpenTokens.{open_tokens-last}
use Rattle.jv_text.proofs.Spelt.{spelt}
use Rattle.jv_text.proofs.nested.next_value.Goals as goal

pub returns-in_ok-push-in-Some-clause-ok : goal.returns-in_ok-push-in-Some-clause-ok
returns-in_ok-push-in-Some-clause-ok g c =
    let old = g.W.Tokens.written c.args.out.now in
    let opened = c.args.opened.now.items in
    let value = tokens_of (view c.in-Some.item.now) in
    let rest = Array c.in-Some.rest in
    let whole = ap rest_tokens c.in-Array.is ∙ ap (λ vs. tokens_of_items (items_view vs)) c.in-Some.ensures.cases.0 in
    ap (λ os. old ++ (value ++ open_tokens os [])) c.in_ok-push-in-Some.ensures.items
    ∙ ap (λ ts. old ++ (value ++ ts)) (open_tokens-last opened rest [])
    ∙ ap (λ ts. old ++ ts) (sym (append_assoc value (rest_tokens rest) (open_tokens opened [])))
    ∙ ap (λ ts. old ++ (ts ++ open_tokens opened [])) (sym whole)

pub returns-in_ok-push-in-Some-next-clause-ok : goal.returns-in_ok-push-in-Some-next-clause-ok
returns-in_ok-push-in-Some-next-clause-ok g c =
    let old = g.W.Tokens.written c.args.out.now in
    let opened = c.args.opened.now.items in
    let value = tokens_of (view c.in-Some-next.member.now) in
    let rest = Object c.next.new.self in
    let key = Token.key c.as_str.result.now ∷ [] in
    let named = ap (λ n. Token.key n ∷ (value ++ rest_tokens rest)) (c.as_str.ensures.value ∙ sym (spelt c.in-Some-next.key.now)) in
    let whole = ap rest_tokens c.in-Object.is ∙ ap (λ es. tokens_of_members (members_view es)) c.in-Some-next.ensures.steps in
    ap (λ ts. ts ++ (value ++ open_tokens c.push-in-Some-next.new.self.items [])) c.in_ok-token-in-Some-next.ensures.ok
    ∙ ap (λ os. (old ++ key) ++ (value ++ open_tokens os [])) c.in_ok-push-in-Some-next.ensures.items
    ∙ ap (λ ts. (old ++ key) ++ (value ++ ts)) (open_tokens-last opened rest [])
    ∙ ap (λ ts. (old ++ key) ++ ts) (sym (append_assoc value (rest_tokens rest) (open_tokens opened [])))
    ∙ append_assoc old key ((value ++ rest_tokens rest) ++ open_tokens opened [])
    ∙ ap (λ ts. old ++ (ts ++ open_tokens opened [])) (named ∙ sym whole)
