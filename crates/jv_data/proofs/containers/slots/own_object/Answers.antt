use Rattle.std.proofs.Common.{◌≡◌, ◌∙◌, ◌+◌, ◌<◌, ◌∷◌, [], ◌++◌, Some, None, length, drop, get_or, sym, ap, append_assoc, arith, rules}
use Rattle.std.proofs.lemmas.Grind.{common_steps}
use Rattle.jv_data.proofs.Drafts.{present_before, present_nil, present_none}
use Rattle.jv_data.specs.Drafts.{present}
use Rattle.jv_data.specs.View.{view, members_view}
use Rattle.jv_data.specs.Members.{put}
use Rattle.jv_data.specs.Text.{text_of}
use Rattle.jv_data.proofs.containers.slots.own_object.Goals as goal

pub loop-slot-init : goal.loop-slot-init
loop-slot-init c =
    let names = drop (length c.args.values.now.items) c.args.names.now.texts.items in
    ([], grind (arith, common_steps), c.in_ok-object.ensures ∙ sym (ap members_view (present_nil names)))

pub loop-slot-preserved-in_ok-insert : goal.loop-slot-preserved-in_ok-insert
loop-slot-preserved-in_ok-insert c =
    let l = c.loop-slot in
    let done = l.invariant.0 in
    let names = c.args.names.now.texts.items in
    let left = c.pop.new.self.items in
    let value = c.in-Some-slot.value in
    let name = c.in-Some-get.name.now in
    let popped = c.in-Some.ensures.items ∙ ap (λ s. left ++ s ∷ []) c.in-Some-slot.is in
    let here : c.len.result ≡ length left = search rules in
    let count : length l.values.items ≡ length left + 1 = grind (arith, common_steps, ap length popped) in
    let within : length left < length names = search rules in
    let is : name ≡ get_or names (length left) name = rw (here, c.as_slice.ensures.texts) at c.in-Some-get.ensures.lookup.1 in
    let known = l.invariant.2 ∙ ap (λ i. members_view (present (drop i names) done)) count in (
      Some value ∷ done,
      l.invariant.1 ∙ ap (λ xs. xs ++ done) popped ∙ append_assoc left (Some value ∷ []) done,
      c.in_ok-insert.ensures.ok ∙ ap (put (text_of c.in_ok-clone.field-0) (view value)) known
          ∙ present_before names (length left) name c.in_ok-clone.field-0 value done c.args.names.now.rising within is c.in_ok-clone.ensures.cases,
    )

pub loop-slot-preserved : goal.loop-slot-preserved
loop-slot-preserved c =
    let l = c.loop-slot in
    let done = l.invariant.0 in
    let names = c.args.names.now.texts.items in
    let left = c.pop.new.self.items in
    let popped = c.in-Some.ensures.items ∙ ap (λ s. left ++ s ∷ []) c.in_default-slot.is in
    let count : length l.values.items ≡ length left + 1 = grind (arith, common_steps, ap length popped) in (
      None ∷ done,
      l.invariant.1 ∙ ap (λ xs. xs ++ done) popped ∙ append_assoc left (None ∷ []) done,
      l.invariant.2 ∙ ap (λ i. members_view (present (drop i names) done)) count ∙ ap members_view (present_none names (length left) done),
    )
