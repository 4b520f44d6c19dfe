use Rattle.std.proofs.Common.{length, arith, ◌≡◌, rules, chars, refl, map}
use Rattle.std.proofs.lemmas.List.{length-map}
use Rattle.std.proofs.lemmas.Grind.{common_steps}
use Rattle.jv_data.specs.Text.{text_of}
use Rattle.jq_tree.specs.Names.{to_function}
use Rattle.jq_tree.specs.Tree.{entries_of}
use Rattle.jq_inputs.specs.private.Hidden.{hiding}
use Rattle.jq_ast.specs.Named.{named, named_entry}
use Rattle.jq_inputs.proofs.Beside.{goes-start, IsOf}
use Rattle.jq_inputs.proofs.EntryLists.{goes_after, goes_all}
use Rattle.jq_ast.proofs.shared.Forms.{named-Define, named-Object}
use Rattle.jq_inputs.proofs.Levels.{count-Text, once-Define}
use Rattle.jq_inputs.proofs.Lists.{one_item, two_items, many_counted, many_often}
use Rattle.jq_inputs.proofs.walking.+walk.Goals as goal
use Rattle.jq_inputs.proofs.walking.+walk.Goals.{survey_entries-in-Named, survey_entries-in-Computed, survey_entries-in-Own}

pub survey-returns-in-Text-clause-count : goal.survey-returns-in-Text-clause-count
survey-returns-in-Text-clause-count t c = rw (c.in-Text.is, count-Text c.args.hidden c.in-Text.field-0 c.in-Text.pieces c.in-Text.field-2) (search rules)

pub survey-returns-in-Object-clause-count : goal.survey-returns-in-Object-clause-count
survey-returns-in-Object-clause-count t c = rw (c.in-Object.is, named-Object c.in-Object.entries) (search rules)

pub survey-returns-in-Object-clause-at_most_one : goal.survey-returns-in-Object-clause-at_most_one
survey-returns-in-Object-clause-at_most_one t c = rw (c.in-Object.is, named-Object c.in-Object.entries) (search rules)

pub survey-returns-in-Object-clause-once : goal.survey-returns-in-Object-clause-once
survey-returns-in-Object-clause-once t c = rw (c.in-Object.is, named-Object c.in-Object.entries) (search rules)

pub survey-returns-in-Define-clause-count : goal.survey-returns-in-Define-clause-count
survey-returns-in-Define-clause-count t c = rw (c.in-Define.is, named-Define c.in-Define.function c.in-Define.rest, length-map) (search rules)

pub survey-returns-in-Define-clause-once : goal.survey-returns-in-Define-clause-once
survey-returns-in-Define-clause-once t c =
    let outside : c.with-outside.result ≡ hiding (to_function (text_of c.in-Define.function.value.name) (length c.in-Define.function.value.parameters.items)) c.args.hidden =
    first_of (search rules, cc, grind (arith, common_steps)) in
    rw (c.in-Define.is, once-Define c.args.hidden c.in-Define.function c.in-Define.rest, c.with-in-Define.ensures, ← outside)
    (first_of (search rules, cc c.survey-in-Define.ensures.once, search (rules, c.survey-in-Define.ensures.once)))

pub survey_call-returns-in-len1-clause-once : goal.survey_call-returns-in-len1-clause-once
survey_call-returns-in-len1-clause-once t c =
    rw (one_item c.args.arguments.now c.only-item.result c.in-len1.len_at_least c.in-len1.len_below c.only-item.is) (search rules)

pub survey_call-returns-in-len2-clause-once : goal.survey_call-returns-in-len2-clause-once
survey_call-returns-in-len2-clause-once t c =
    rw (two_items c.args.arguments.now c.first-item.result c.second-item.result c.in-len2.len_at_least c.in-len2.len_below c.first-item.is c.second-item.is) (search rules)

pub survey_call-returns-in_default-clause-count : goal.survey_call-returns-in_default-clause-count
survey_call-returns-in_default-clause-count t c = rw (many_counted c.args.hidden (chars c.args.name.now) named c.args.arguments.now c.in_default.len_at_least) (search rules)

pub survey_call-returns-in_default-clause-once : goal.survey_call-returns-in_default-clause-once
survey_call-returns-in_default-clause-once t c = rw (many_often c.args.hidden (chars c.args.name.now) named c.args.arguments.now c.in_default.len_at_least) (search rules)

pub survey_entries-loop-entry-init : goal.survey_entries-loop-entry-init
survey_entries-loop-entry-init t c = rw c.leaf-found.ensures (goes-start c.args.hidden (entries_of (map named_entry c.args.entries.now)))

pub survey_entries-returns-clause-count : goal.survey_entries-returns-clause-count
survey_entries-returns-clause-count t c = (goes_all c.args.entries.now c.loop-entry.entry-index c.loop-entry-test.false c.loop-entry.invariant).counted

pub survey_entries-returns-clause-at_most_one : goal.survey_entries-returns-clause-at_most_one
survey_entries-returns-clause-at_most_one t c = (goes_all c.args.entries.now c.loop-entry.entry-index c.loop-entry-test.false c.loop-entry.invariant).formed

pub survey_entries-returns-clause-once : goal.survey_entries-returns-clause-once
survey_entries-returns-clause-once t c = (goes_all c.args.entries.now c.loop-entry.entry-index c.loop-entry-test.false c.loop-entry.invariant).placed

pub survey_entries-loop-entry-preserved : goal.survey_entries-loop-entry-preserved
survey_entries-loop-entry-preserved t c =
    let found : IsOf c.args.hidden (named_entry c.entry-item.result) c.match-entry.next = elim c.match-entry.branch [
      | survey_entries-in-Named w ↦ rw (w.in-Named.is, w.next-is) (record { counted = w.survey-next.ensures.count; formed = w.survey-next.ensures.at_most_one; placed = w.survey-next.ensures.once })
      | survey_entries-in-Computed w ↦ rw (w.in-Computed.is, w.next-is, w.often-next.ensures) (record { counted = search rules; formed = refl; placed = refl })
      | survey_entries-in-Own w ↦ rw (w.in-Own.is, w.next-is, w.often-next-in-Own.ensures) (record { counted = w.survey-in-Own.ensures.count; formed = refl; placed = refl })
    ] in
    rw c.beside-found.ensures (goes_after c.args.entries.now c.loop-entry.entry-index c.entry-item.result c.loop-entry-test.true c.entry-item.is found c.loop-entry.invariant)
