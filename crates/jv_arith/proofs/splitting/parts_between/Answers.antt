use Rattle.std.proofs.Common.{◌≡◌, ◌∙◌, ◌++◌, ◌∷◌, [], ap, sym, map, zero, append_assoc, None}
use Rattle.std.proofs.lemmas.List.{map-append}
use Rattle.std.specs.Str.{chars}
use Rattle.std.specs.Str.Pattern.{FindsText, SplitsAroundMatch}
use Rattle.jv_data.specs.Value.{string}
use Rattle.jv_data.specs.View.{view}
use Rattle.jv_arith.specs.Strings.{parts_after}
use Rattle.jv_arith.proofs.Parts.{around, nowhere}
use Rattle.jv_arith.proofs.splitting.parts_between.Goals as goal

pub loop-part-preserved : goal.loop-part-preserved
loop-part-preserved c =
    let sep = c.args.separator.now in
    let old = map view c.loop-part.parts.items in
    let v = c.in_ok-from_text.field-0 in
    let splits : SplitsAroundMatch (FindsText sep) c.loop-part.rest.now c.in-Some.part.now c.in-Some.after.now = rw (sym c.in-Some.part-is, sym c.in-Some.after-is) at c.in-Some.ensures.cases in
    let found = around sep c.loop-part.rest.now c.in-Some.part.now c.in-Some.after.now c.utf8.separator c.loop-part.invariant.0 c.requires splits in
    let pushed : map view c.push.new.self.items ≡ old ++ view v ∷ [] = ap (map view) c.in_ok-push.ensures.items ∙ map-append view c.loop-part.parts.items (v ∷ []) in
    let rest = map string (parts_after (chars sep) zero (chars c.in-Some.after.now)) in
    (found.1, c.loop-part.invariant.1 ∙ ap (λ ps. old ++ map string ps) found.0 ∙ ap (λ w. old ++ w ∷ rest) (sym c.in_ok-from_text.ensures) ∙ sym (append_assoc old (view v ∷ []) rest) ∙ ap (λ vs. vs ++ rest) (sym pushed))

pub returns : goal.returns
returns c =
    let sep = c.args.separator.now in
    let old = map view c.loop-part.parts.items in
    let v = c.in_ok-from_text-2.field-0 in
    let lacks : FindsText sep c.loop-part.rest.now None = c.in_default.ensures.cases in
    let found = nowhere sep c.loop-part.rest.now c.utf8.separator c.loop-part.invariant.0 c.requires lacks in
    let pushed : map view c.push-2.new.self.items ≡ old ++ view v ∷ [] = ap (map view) c.in_ok-push-2.ensures.items ∙ map-append view c.loop-part.parts.items (v ∷ []) in
    pushed ∙ ap (λ w. old ++ w ∷ []) c.in_ok-from_text-2.ensures ∙ sym (c.loop-part.invariant.1 ∙ ap (λ ps. old ++ map string ps) found)
