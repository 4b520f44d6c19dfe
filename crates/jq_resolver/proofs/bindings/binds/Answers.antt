use Rattle.std.proofs.Common.{◌≡◌, ◌∙◌, ap, sym, rules, string_bytes}
use Rattle.std.specs.Str.{bytes_eq}
use Rattle.std.proofs.lemmas.Str.{IsUtf8-string_bytes}
use Rattle.jq_tree.specs.Names.{same_reference}
use Rattle.jq_resolver.specs.private.Bindings.{referred}
use Rattle.jq_resolver.proofs.Finding.{binds_same}
use Rattle.jq_resolver.proofs.bindings.binds.Goals as goal

pub returns-then-eq : goal.returns-then-eq
returns-then-eq c =
    let b = c.args.bound.now in
    let n = c.args.name.now in
    let k : b.kind ≡ c.args.kind = search rules in
    c.eq-then-eq.ensures ∙ ap (λ z. bytes_eq z n) c.as_str.ensures.value ∙ sym (binds_same c.args.kind n (string_bytes b.name) c.utf8.name (IsUtf8-string_bytes b.name))
    ∙ ap (λ z. same_reference (referred c.args.kind n) (referred z (string_bytes b.name))) (sym k)
