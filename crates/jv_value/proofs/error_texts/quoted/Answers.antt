use Rattle.std.proofs.Common.{◌≡◌, ◌∙◌, [], ◌∷◌, ◌++◌, ap, sym, string_bytes}
use Rattle.std.proofs.lemmas.List.{append-nil}
use Rattle.json.specs.Print.{print, print_from, quoted}
use Rattle.json.specs.Token.{Token}
use Rattle.jv_value.proofs.Quoted.{quoted_bytes}
use Rattle.jv_value.proofs.error_texts.quoted.Goals as goal

pub returns : goal.returns
unfolding print_from
returns c =
    let name = c.args.name.now in
    let bytes : string_bytes c.unwrap.result ≡ c.into_inner.result.items = ap (λ b. b.items) (rw c.unwrap.ensures at c.from_utf8.ensures.ok) in
    let before = c.string.ensures.room.0 ∙ c.new-writer.ensures.before ∙ c.new.ensures.items in
    let tokens = c.in_ok-string.ensures.ok ∙ ap (λ ts. ts ++ Token.string name ∷ []) c.new-writer.ensures.tokens in
    bytes
    ∙ c.into_inner.ensures.items
    ∙ ap (λ b. b ++ print c.string.new.self.tokens) before
    ∙ ap print tokens
    ∙ append-nil (quoted name)
    ∙ sym (quoted_bytes name c.utf8.name)
