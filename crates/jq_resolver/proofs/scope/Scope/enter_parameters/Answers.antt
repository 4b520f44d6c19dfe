use Rattle.std.proofs.Common.{◌≡◌, ◌∙◌, ◌+◌, ◌∷◌, ◌++◌, [], map, take, get_or, ap, sym, rules}
use Rattle.std.proofs.lemmas.List.{map-append, take_more}
use Rattle.std.specs.Str.{chars}
use Rattle.jv_data.specs.Text.{text_of}
use Rattle.jq_tree.specs.Names.{to_function, with_parameters}
use Rattle.jq_resolver.specs.private.Scopes.{bound_names}
use Rattle.jq_resolver.proofs.Scopes.{parameters_more}
use Rattle.jq_resolver.proofs.scope.Scope.enter_parameters.Goals as goal

pub loop-name-preserved : goal.loop-name-preserved
loop-name-preserved c =
    let ns = c.args.names.now in
    let i = c.loop-name.name-index in
    let n = c.name-item.result in
    let start = bound_names c.args.self.now in
    let read : n ≡ get_or ns i n = search rules in
    let more : take (i + 1) ns ≡ take i ns ++ n ∷ [] = take_more ns i n (search rules) ∙ ap (λ z. take i ns ++ z ∷ []) (sym read) in
    let all : map text_of (take (i + 1) ns) ≡ map text_of (take i ns) ++ text_of n ∷ [] = ap (map text_of) more ∙ map-append text_of (take i ns) (n ∷ []) in
    let entered : bound_names c.enter.new.self ≡ to_function (chars c.as_str.result.now) 0 ∷ bound_names c.loop-name.self = search rules in
    entered ∙ ap (λ z. to_function (chars z) 0 ∷ bound_names c.loop-name.self) c.as_str.ensures.value ∙ ap (λ z. to_function (text_of n) 0 ∷ z) c.loop-name.invariant
    ∙ sym (ap (λ z. with_parameters z start) all ∙ parameters_more (map text_of (take i ns)) (text_of n) start)
