use Rattle.std.proofs.Common.{rules, List, Ok, [], suc, ◌≡◌, ◌≤◌, ◌∷◌, ◌∙◌, ◌-◌, arith, drop, get_or, length, refl, sym, ap, subst, take}
use Rattle.std.proofs.lemmas.List.{drop_more, take_rest}
use Rattle.jv_data.proofs.shared.Levels.{view-Text}
use Rattle.jv_data.specs.Value.{string}
use Rattle.jv_data.specs.Text.{text_of}
use Rattle.jv_data.specs.View.{view}
use Rattle.jq_ast.specs.Leaves.{key_of}
use Rattle.jq_ast.specs.Named.{named, named_as_pattern}
use Rattle.jq_ast.proofs.shared.Forms.{named-Field, named-Iterate, named-Object, named-Text, named-Whole}
use Rattle.jq_tree.specs.Tree as form
use Rattle.jq_tree.specs.Tree.{Tree, whole}
use Rattle.jq_meaning.specs.Builtins.{range_of}
use Rattle.jq_meaning.specs.Folds.{reduced}
use Rattle.jq_meaning.specs.Meaning.{below, bindings_with, meaning}
use Rattle.jq_meaning.specs.Continuations.{text_item, on_source, on_state, on_target, on_back, on_inserted, on_entry_key, on_test, on_left, on_right}
use Rattle.jq_meaning.specs.Runs.{Run, Item, plain, located, as_value, none, one, bind}
use Rattle.jq_single.specs.private.Scopes.{scope_env}
use Rattle.jq_meaning.proofs.shared.machine.RunLaws.{bind-bind, bind-then_run}
use Rattle.jq_single.specs.private.Gathering.{Gathers, made, rest_run, supplied, turn}
use Rattle.jq_single.specs.private.Making.{entries_in}
use Rattle.jq_state.specs.Items.{item_of}
use Rattle.jq_state.proofs.shared.Items.{absent, value_of_item}
use Rattle.jq_single.specs.private.Updates.{part_run}
use Rattle.jq_single.specs.private.Parts.{run}
use Rattle.jq_single.specs.Single.{Changed, Ends}
use Rattle.jq_single.proofs.Binding.{part_stops, bind-known, comes-bind, ends-bind, gathers_stops, known_runs, stops, with_variable, gathers-then, gathers_all, gives_first, stops_first, stops-then, items-same, bound_rest, fold_value, turned, fold_all, single_fold}
use Rattle.jq_single.proofs.UpdateTurns.{changed-first, getpath_keys, takes_turns}
use Rattle.jq_single.proofs.Calls.{paths-rest, body_runs, named-Identity, text_is, native_plain, one_value, two_chosen}
use Rattle.jq_single.proofs.contexts.Context.+single.Goals as goal

-- ---- forms

-- a first piece, and those after it
split : {A : Type 0} (ps : List A) (p : A) → 1 ≤ length ps → p ≡ get_or ps 0 p → ps ≡ p ∷ take (length ps - 1) (drop 1 ps)
split ps p h e = drop_more ps 0 p (omega arith) ∙ ap (λ q. q ∷ drop 1 ps) (sym e) ∙ ap (λ qs. p ∷ qs) (sym (take_rest ps 1))

pub get_made-returns-in_ok-text-in-Text : goal.get_made-returns-in_ok-text-in-Text
get_made-returns-in_ok-text-in-Text t c = λ inputs level.
    rw (ap named c.in-Text.is ∙ named-Text c.in-Text.format c.in-Text.pieces c.in-Text.last, ← c.as_slice.ensures.value, view-Text) (ap (λ q. bind q text_item) (c.in_ok-text-in-Text.ensures inputs level))

pub get_made-returns-in_err-text-in-Text : goal.get_made-returns-in_err-text-in-Text
get_made-returns-in_err-text-in-Text t c = λ inputs level.
    rw (ap named c.in-Text.is ∙ named-Text c.in-Text.format c.in-Text.pieces c.in-Text.last, ← c.as_slice.ensures.value) (part_stops _ _ _ _ text_item c.from_residual-in_err-text-in-Text.ensures.1 (c.in_err-text-in-Text.ensures inputs level))

pub get_made-returns-in-Field : goal.get_made-returns-in-Field
get_made-returns-in-Field t c = λ inputs level.
    let target : c.in-Field.target.value ≡ c.deref.result.now = search rules in
    let key : view c.value.result.now ≡ string (key_of c.in-Field.key) = ap view c.value.ensures.same ∙ text_is (view c.in-Field.key.value) c.in-Field.key.text in
    rw (ap named c.in-Field.is ∙ named-Field c.in-Field.target c.in-Field.key c.in-Field.guarded, target, ← key) (c.field.ensures inputs level)

pub get_made-returns-in-Object : goal.get_made-returns-in-Object
get_made-returns-in-Object t c = λ inputs level. rw (ap named c.in-Object.is ∙ named-Object c.in-Object.entries, ← c.as_slice-in-Object.ensures.value) (c.object.ensures inputs level)

pub pieces-returns-in_ok-found-in-len1-up : goal.pieces-returns-in_ok-found-in-len1-up
unfolding on_back on_inserted
pieces-returns-in_ok-found-in-len1-up t c = λ inputs level.
    rw (split c.args.pieces.now c.piece-item.result c.in-len1-up.len_at_least c.piece-item.is)
    (comes-bind _ _ _ _ _ (c.in_ok-back-in-len1-up.ensures inputs level)
    (comes-bind _ _ _ _ _ (c.in_ok-found-in-len1-up.ensures inputs level) (rw (c.as_str-in-len1-up.ensures.value, c.as_str-in-len1-up-2.ensures) at c.text_between.ensures)))

pub with_entry-returns-in-Text : goal.with_entry-returns-in-Text
unfolding on_entry_key
with_entry-returns-in-Text t c = λ inputs level es.
    rw c.in-Computed.is (comes-bind _ _ _ _ _ (c.in_ok-found-in-Computed.ensures inputs level) (rw c.into_text.ensures (c.member-in-Computed.ensures inputs level (entries_in c.args.self.now inputs level es (view c.args.value.now)))))

pub binary-returns : goal.binary-returns
unfolding on_left on_right
binary-returns t c = λ inputs level.
    comes-bind _ _ _ _ _ (c.in_ok-second.ensures inputs level) (comes-bind _ _ _ _ _ (c.in_ok-first.ensures inputs level) (c.answer.ensures.runs _ c.operated.ensures))

pub change_builtin-returns-in-Native-clause-runs : goal.change_builtin-returns-in-Native-clause-runs
change_builtin-returns-in-Native-clause-runs t c = λ inputs level. rw (c.in-Native.is, native_plain) (c.change_native.ensures.runs inputs level)

pub change_binding-returns-in_ok-found-in-Whole-clause-runs : goal.change_binding-returns-in_ok-found-in-Whole-clause-runs
change_binding-returns-in_ok-found-in-Whole-clause-runs t c = λ inputs level.
    let p = c.args.self.now in
    let x = plain (view c.args.value.now) in
    let same = with_variable (below p.depth) (run p inputs level (named c.args.source.now) x) (text_of c.in-Whole.name) (view c.in_ok-found-in-Whole.found) (scope_env inputs p.scope.now) level (meaning p.depth (named c.args.body.now)) x (c.in_ok-found-in-Whole.ensures inputs level) in
    rw (ap named_as_pattern c.in-Whole.is ∙ named-Whole c.in-Whole.name, same) (c.change.ensures.runs inputs level)

-- ---- several outputs

pub gather-returns-in-Iterate : goal.gather-returns-in-Iterate
gather-returns-in-Iterate t c = grind (arith, bind-bind, named-Iterate)

pub gather-returns-in-Field : goal.gather-returns-in-Field
gather-returns-in-Field t c = λ inputs level.
    let go : Tree → Run Item = λ u. run c.args.self.now inputs level u (item_of c.args.item.now) in
    let later : Item → Run Item = rest_run inputs level c.args.rest.now in
    let target : c.in-Field.target.value ≡ c.deref-in-Field.result.now = search rules in
    let key : view c.value.result.now ≡ string (key_of c.in-Field.key) = ap view c.value.ensures.same ∙ text_is (view c.in-Field.key.value) c.in-Field.key.text in
    let field = ap named c.in-Field.is ∙ named-Field c.in-Field.target c.in-Field.key c.in-Field.guarded ∙ ap (λ u. form.field (named u) (key_of c.in-Field.key) c.in-Field.guarded) target in
    subst (Gathers (made inputs level c.args.rest.now) c.gather_step-in-Field.result c.args.into.now.items c.gather_step-in-Field.new.into.items)
    (sym (ap (λ u. bind (go u) later) field ∙ ap (λ k. bind (bind (go (named c.deref-in-Field.result.now)) (on_target c.in-Field.guarded k)) later) (sym key) ∙ bind-bind (go (named c.deref-in-Field.result.now)) (on_target c.in-Field.guarded (view c.value.result.now)) later))
    (c.gather_step-in-Field.ensures inputs level)

pub gather_pipe-returns : goal.gather_pipe-returns
gather_pipe-returns t c = λ inputs level.
    let p = c.args.self.now in
    let go : Item → Run Item = run p inputs level (named c.args.second.now) in
    let later : Item → Run Item = rest_run inputs level c.args.rest.now in
    let first = run p inputs level (named c.args.first.now) (item_of c.args.item.now) in
    subst (Gathers (made inputs level c.args.rest.now) c.gather.result c.args.into.now.items c.gather.new.into.items)
    (sym (bind-bind first go later ∙ items-same first.items first.ending _ _ (λ x. ap (λ r. bind r later) (c.entered-depth.ensures inputs level x)))) (c.gather.ensures inputs level)

pub gather_index-returns-in-Err : goal.gather_index-returns-in-Err
gather_index-returns-in-Err t c = λ inputs level.
    c.ended.ensures inputs level c.args.rest.now _ c.args.into.now.items (ends-bind _ _ _ (ends-bind _ _ _ (rw (← value_of_item c.args.item.now) at (c.in-Err.ensures inputs level))))

pub gather_one-returns-in-Err : goal.gather_one-returns-in-Err
gather_one-returns-in-Err t c = λ inputs level. c.ended.ensures inputs level c.args.rest.now _ c.args.into.now.items (ends-bind _ _ _ (rw (← absent c.args.item.now (sym c.is_present.ensures ∙ c.if-is_present.false)) at (c.in-Err.ensures inputs level)))

pub gather_comma-returns : goal.gather_comma-returns
gather_comma-returns t c = λ inputs level.
    rw bind-then_run (gathers-then (made inputs level c.args.rest.now) (tt {0}) c.gather-2.result c.args.into.now.items c.gather.new.into.items c.gather-2.new.into.items _ _ (c.in_ok-gather.ensures inputs level) (c.gather-2.ensures inputs level))

pub gather_comma-returns-in_err-gather : goal.gather_comma-returns-in_err-gather
gather_comma-returns-in_err-gather t c = λ inputs level.
    rw bind-then_run (gathers_stops (made inputs level c.args.rest.now) c.from_residual.result c.in_err-gather.field-0.0 c.args.into.now.items _ _ c.from_residual.ensures.1 (stops-then (made inputs level c.args.rest.now) _ _ _ _ (c.in_err-gather.ensures inputs level)))

pub gather_choice-returns-then-truth : goal.gather_choice-returns-then-truth
unfolding on_test
gather_choice-returns-then-truth t c = grind (arith, known_runs)

pub gather_choice-returns-in-Ok : goal.gather_choice-returns-in-Ok
unfolding on_test
gather_choice-returns-in-Ok t c = grind (arith, known_runs)

pub gather_choice-returns : goal.gather_choice-returns
gather_choice-returns t c = λ inputs level.
    c.ended.ensures inputs level c.args.rest.now _ c.args.into.now.items (ends-bind _ _ _ (ends-bind _ _ _ (rw (← value_of_item c.args.item.now) at (c.in-Err.ensures inputs level))))

pub gather_binding-returns-in_ok-copy-in-Whole : goal.gather_binding-returns-in_ok-copy-in-Whole
gather_binding-returns-in_ok-copy-in-Whole t c = λ inputs level.
    let p = c.args.self.now in
    let x = item_of c.args.item.now in
    let input : item_of c.plain-input.result ≡ as_value x = c.plain-input.ensures ∙ ap plain (c.in_ok-copy-in-Whole.ensures ∙ sym (value_of_item c.args.item.now)) in
    let same = bound_rest (below p.depth) (run p inputs level (named c.args.source.now) (as_value x)) (text_of c.in-Whole.name) (scope_env inputs p.scope.now) level (meaning p.depth (named c.args.body.now)) x (rest_run inputs level c.args.rest.now) in
    rw (ap named_as_pattern c.in-Whole.is ∙ named-Whole c.in-Whole.name, same) (rw input at (c.gather.ensures inputs level))

pub gather_call-returns-else-self-eq0 : goal.gather_call-returns-else-self-eq0
gather_call-returns-else-self-eq0 t c = λ inputs level.
    let p = c.args.self.now in
    let x = item_of c.args.item.now in
    let body = body_runs (scope_env inputs c.scope_of_call-scope.result) p.depth (p.depth - 1) level (named c.in-Body.body.now) x (omega arith) in
    rw ((rw c.in-Body.is at c.called.ensures) inputs level x, ← c.scope_of_call-scope.ensures inputs, ← body) (c.gather.ensures inputs level)

pub gather_builtin-returns-in-NoOutputs : goal.gather_builtin-returns-in-NoOutputs
gather_builtin-returns-in-NoOutputs t c = λ inputs level. rw c.in-NoOutputs.is (λ q. refl)

pub gather_builtin-returns-in-len1 : goal.gather_builtin-returns-in-len1
gather_builtin-returns-in-len1 t c = λ inputs level.
    let only : length c.args.arguments.now ≡ 1 = omega (arith, c.in-len1.len_at_least, c.in-len1.len_below) in
    rw (c.in-Paths.is, one_value c.args.arguments.now c.argument-item.result only c.argument-item.is, absent c.args.item.now (sym c.is_present.ensures ∙ c.if-is_present.false)) (c.gather_paths.ensures inputs level)

pub gather_builtin-returns-in-Err : goal.gather_builtin-returns-in-Err
gather_builtin-returns-in-Err t c = λ inputs level. c.ended.ensures inputs level c.args.rest.now _ c.args.into.now.items (ends-bind _ _ _ (rw (c.in_ok-found-in_default-builtin.ensures, ← absent c.args.item.now (sym c.is_present.ensures ∙ c.if-is_present.false)) at (c.in-Err.ensures.runs inputs level)))

pub gather_paths-returns : goal.gather_paths-returns
gather_paths-returns t c = λ inputs level.
    let start = c.start-start.ensures ∙ ap (λ v. located v []) c.in_ok-copy.ensures in
    let go : Item → Run Item = run c.args.self.now inputs level (named c.args.tree.now) in
    rw (paths-rest (go (located (view c.args.value.now) [])) (rest_run inputs level c.args.rest.now), ← start) (c.gather_step.ensures inputs level)

pub give_all-returns : goal.give_all-returns
give_all-returns t c = λ inputs level.
    let none_left : supplied c.loop-item.supply ≡ none = search rules in
    c.loop-item.invariant inputs level (Ok (tt {0})) c.loop-item.into.items (rw none_left (λ q. refl))

pub give_all-returns-in_err-give : goal.give_all-returns-in_err-give
give_all-returns-in_err-give t c = λ inputs level.
    c.loop-item.invariant inputs level c.from_residual.result _
    (gathers_stops (made inputs level c.args.rest.now) c.from_residual.result c.in_err-give.field-0.0 c.loop-item.into.items _ _ c.from_residual.ensures.1
    (stops_first (made inputs level c.args.rest.now) _ c.loop-item.into.items _ _ (item_of c.in-Some.item) (rest_run inputs level c.args.rest.now) c.in-Some.ensures (c.in_err-give.ensures inputs level)))

pub give_all-loop-item-preserved : goal.give_all-loop-item-preserved
give_all-loop-item-preserved t c = λ inputs level a ys h.
    c.loop-item.invariant inputs level a ys
    (gives_first (made inputs level c.args.rest.now) (tt {0}) a c.loop-item.into.items c.give.new.into.items ys _ _ (item_of c.in-Some.item) (rest_run inputs level c.args.rest.now) c.in-Some.ensures (c.in_ok-give.ensures inputs level) h)

pub give-returns-in-Fold : goal.give-returns-in-Fold
give-returns-in-Fold t c = λ inputs level.
    rw c.in-Fold.is (fold_value c.in-Fold.context.now inputs level (text_of c.in-Fold.name.now) (named c.in-Fold.update.now) c.turn.result c.args.into.now.items c.turn.new.states.items (item_of c.args.item) (view c.args.item.value) (value_of_item c.args.item) (c.turn.ensures inputs level))

pub gather_range-returns-in-Some : goal.gather_range-returns-in-Some
gather_range-returns-in-Some t c = λ inputs level.
    let same = two_chosen c.args.self.now inputs level range_of c.args.arguments.now c.start-item.result c.end-item.result (view c.args.value.now) (omega (arith, c.in-len2.len_at_least, c.in-len2.len_below)) c.start-item.is c.end-item.is in
    rw (same ∙ bind-known _ _ _ (c.in-Ok.ensures inputs level) ∙ bind-known _ _ _ (c.in-Ok-get.ensures inputs level)) (rw (c.in-Some.ensures) at (c.give_all.ensures inputs level))

pub gather_range-returns-in-Ok : goal.gather_range-returns-in-Ok
gather_range-returns-in-Ok t c = λ inputs level.
    let same = two_chosen c.args.self.now inputs level range_of c.args.arguments.now c.start-item.result c.end-item.result (view c.args.value.now) (omega (arith, c.in-len2.len_at_least, c.in-len2.len_below)) c.start-item.is c.end-item.is in
    rw (same ∙ bind-known _ _ _ (c.in-Ok.ensures inputs level)) (c.ended.ensures inputs level c.args.rest.now _ c.args.into.now.items (ends-bind _ _ _ (ends-bind _ _ _ (c.in-Err-get.ensures inputs level))))

pub gather_range-returns-in-len2 : goal.gather_range-returns-in-len2
gather_range-returns-in-len2 t c = λ inputs level.
    let same = two_chosen c.args.self.now inputs level range_of c.args.arguments.now c.start-item.result c.end-item.result (view c.args.value.now) (omega (arith, c.in-len2.len_at_least, c.in-len2.len_below)) c.start-item.is c.end-item.is in
    rw same (c.ended-in-Err.ensures inputs level c.args.rest.now _ c.args.into.now.items (ends-bind _ _ _ (ends-bind _ _ _ (c.in-Err.ensures inputs level))))

pub give_step-returns-in-Err : goal.give_step-returns-in-Err
give_step-returns-in-Err t c = λ inputs level.
    c.ended.ensures inputs level c.args.later.now _ c.args.into.now.items (ends-bind _ _ (rest_run inputs level c.args.later.now) c.in-Err.ensures)

-- ---- folds

pub change_from-returns-clause-runs : goal.change_from-returns-clause-runs
change_from-returns-clause-runs t c = λ inputs level.
    let p = c.args.self.now in
    let x : Item = plain (view c.args.value.now) in
    let sources = bind (run p inputs level (named c.args.source.now) x) (on_source (bindings_with (below p.depth) (whole (text_of c.args.name.now)) level) (scope_env inputs p.scope.now)) in
    bind-known (run p inputs level (named c.args.start.now) x) (plain (view c.in_ok-state.state)) (reduced (on_state (meaning p.depth (named c.args.update.now)) level) sources.items sources.ending) (c.in_ok-state.ensures inputs level)
    ∙ fold_all p inputs level (named c.args.source.now) (text_of c.args.name.now) (named c.args.update.now) c.keep.new.states.items (view c.in_ok-state.state) (view c.args.value.now) (item_of c.plain-input.result)
    c.in_ok-keep.ensures (c.plain-input.ensures ∙ ap plain c.in_ok-copy.ensures) ∙ c.in_ok-gather.ensures inputs level none ∙ ap one c.in-Some.ensures

pub change_from-returns-in_err-gather-clause-runs : goal.change_from-returns-in_err-gather-clause-runs
change_from-returns-in_err-gather-clause-runs t c = λ inputs level.
    comes-bind _ _ _ _ _ (c.in_ok-state.ensures inputs level)
    (stops _ _ _ _ c.from_residual-in_err-gather.ensures.1 (subst (Ends c.in_err-gather.field-0.0) (sym (fold_all c.args.self.now inputs level (named c.args.source.now) (text_of c.args.name.now) (named c.args.update.now) c.keep.new.states.items (view c.in_ok-state.state) (view c.args.value.now) (item_of c.plain-input.result)
    c.in_ok-keep.ensures (c.plain-input.ensures ∙ ap plain c.in_ok-copy.ensures))) (c.in_err-gather.ensures inputs level none)))

pub collect-returns : goal.collect-returns
collect-returns t c =
    gathers_all c.args.self.now (named c.args.tree.now) (view c.args.value.now) c.args.most c.gather.result c.args.into.now.items c.gather.new.into.items (item_of c.plain-input.result)
    (c.plain-input.ensures ∙ ap plain c.in_ok-copy.ensures) c.requires c.gather.ensures

pub change_reduce-returns-in-len1-clause-runs : goal.change_reduce-returns-in-len1-clause-runs
change_reduce-returns-in-len1-clause-runs t c = λ inputs level.
    let p = c.args.self.now in
    let x : Item = plain (view c.args.value.now) in
    let r = run p inputs level (named c.args.source.now) x in
    let u = meaning p.depth (named c.args.update.now) in
    let n = text_of c.in-Whole.name in
    let sources = bind r (on_source (bindings_with (below p.depth) (whole n) level) (scope_env inputs p.scope.now)) in
    let only : length c.as_slice.result.now ≡ 1 = omega (arith, c.in-len1.len_at_least, c.in-len1.len_below) in
    let values = sym c.as_slice.ensures.value ∙ one_value c.as_slice.result.now c.single-item.result only c.single-item.is in
    let same = single_fold (below p.depth) level n (scope_env inputs p.scope.now) u r.items r.ending (view c.single-item.result) x (rw (c.if-are_all.ensures, values) at (c.collect.ensures inputs level)) in
    rw (ap named_as_pattern c.in-Whole.is ∙ named-Whole c.in-Whole.name, ap named c.in-Identity.is ∙ named-Identity)
    (comes-bind _ c.step.result (one x) x (reduced (on_state u level) sources.items sources.ending) refl
    (subst (Changed c.step.result (view c.step.new.state)) (sym same) (c.step.ensures.runs inputs level one)))

pub change_reduce-returns-in_default-start : goal.change_reduce-returns-in_default-start
change_reduce-returns-in_default-start t c =
    let same = ap named_as_pattern c.in-Whole.is ∙ named-Whole c.in-Whole.name in
    record { runs = λ inputs level. rw same (c.change_from.ensures.runs inputs level); keeps = c.change_from.ensures.keeps }

pub change_reduce-returns-then-is_cheap-clause-runs : goal.change_reduce-returns-then-is_cheap-clause-runs
change_reduce-returns-then-is_cheap-clause-runs t c = λ inputs level. rw (ap named_as_pattern c.in-Whole.is ∙ named-Whole c.in-Whole.name) (c.change_from-then-is_cheap.ensures.runs inputs level)

pub change_reduce-returns-in_default-as_slice-clause-runs : goal.change_reduce-returns-in_default-as_slice-clause-runs
change_reduce-returns-in_default-as_slice-clause-runs t c = λ inputs level. rw (ap named_as_pattern c.in-Whole.is ∙ named-Whole c.in-Whole.name) (c.change_from-in_default-as_slice.ensures.runs inputs level)

pub turn-returns : goal.turn-returns
turn-returns t c = λ inputs level.
    turned (Ok (tt {0})) (turn c.args.context.now inputs level (text_of c.args.name.now) (named c.args.update.now)) (plain (view c.args.value.now)) c.args.states.now.items c.keep.new.states.items
    (λ go. rw c.in-Some.ensures (c.in_ok-step.ensures.runs inputs level go ∙ ap go (sym c.in_ok-keep.ensures)))

pub turn-returns-in_err-step : goal.turn-returns-in_err-step
turn-returns-in_err-step t c = λ inputs level.
    turned c.from_residual.result (turn c.args.context.now inputs level (text_of c.args.name.now) (named c.args.update.now)) (plain (view c.args.value.now)) c.args.states.now.items _
    (λ go. stops _ _ _ _ c.from_residual.ensures.1 (rw c.in-Some.ensures (c.in_err-step.ensures.runs inputs level go)))

-- ---- updates

pub change_first-returns-in_default-clause-runs : goal.change_first-returns-in_default-clause-runs
change_first-returns-in_default-clause-runs t c = λ inputs level. changed-first _ _ _ (c.change.ensures.runs inputs level)

pub change_update-returns-then-not-self-clause-runs : goal.change_update-returns-then-not-self-clause-runs
change_update-returns-then-not-self-clause-runs t c =
    takes_turns c.an_update_is_its_turns.ensures c.args.self.now (c.args.self.now.depth - 2) (named c.args.tree.now) (named c.in-Some.paths.now) (named c.in-Some.update.now) (view c.args.value.now) 1048576 (tt {0}) c.new-found.result.items c.gather_paths.new.into.items c.in-Some.ensures (omega arith) c.new-found.ensures.items (c.has_modify.ensures (search rules)) c.in-Ok.ensures c.change_each.result (view c.change_each.new.value) (rw (← c.as_slice-found.ensures.value) (c.change_each.ensures.runs))

pub change_update-returns-in_err-change_each-clause-runs : goal.change_update-returns-in_err-change_each-clause-runs
change_update-returns-in_err-change_each-clause-runs t c =
    takes_turns c.an_update_is_its_turns.ensures c.args.self.now (c.args.self.now.depth - 2) (named c.args.tree.now) (named c.in-Some.paths.now) (named c.in-Some.update.now) (view c.args.value.now) 1048576 (tt {0}) c.new-found.result.items c.gather_paths.new.into.items c.in-Some.ensures (omega arith) c.new-found.ensures.items (c.has_modify.ensures (search rules)) c.in-Ok.ensures c.from_residual-in_err-change_each.result (view c.args.value.now)
    (λ inputs level. stops _ _ _ _ c.from_residual-in_err-change_each.ensures.1 (rw (← c.as_slice-found.ensures.value, ← c.in_ok-changed.ensures) (c.in_err-change_each.ensures.runs inputs level)))

pub change_update-returns-clause-runs : goal.change_update-returns-clause-runs
change_update-returns-clause-runs t c =
    takes_turns c.an_update_is_its_turns.ensures c.args.self.now (c.args.self.now.depth - 2) (named c.args.tree.now) (named c.in-Some.paths.now) (named c.in-Some.update.now) (view c.args.value.now) 1048576 (tt {0}) c.new-found.result.items c.gather_paths.new.into.items c.in-Some.ensures (omega arith) c.new-found.ensures.items (c.has_modify.ensures (search rules)) c.in-Ok.ensures
    (Ok (tt {0})) (view c.change_each-2.new.value) (λ inputs level. rw (← c.as_slice-found.ensures.value, ← c.in_ok-changed.ensures) (c.in_ok-change_each.ensures.runs inputs level))

pub change_first_of_two-returns-then-branch-clause-runs : goal.change_first_of_two-returns-then-branch-clause-runs
change_first_of_two-returns-then-branch-clause-runs t c = λ inputs level.
    let go : Tree → Run Item = λ u. run c.args.self.now inputs level u (plain (view c.args.value.now)) in
    rw c.if-branch.true at c.in_ok-has_output.ensures (view c.change_first.new.value) (go (named c.args.left.now)) (go (named c.args.right.now)) (rw c.in_ok-output.ensures at c.change_first.ensures.runs inputs level)

pub change_first_of_two-returns-else-branch-clause-runs : goal.change_first_of_two-returns-else-branch-clause-runs
change_first_of_two-returns-else-branch-clause-runs t c = λ inputs level.
    let go : Tree → Run Item = λ u. run c.args.self.now inputs level u (plain (view c.args.value.now)) in
    let same = rw c.if-branch.false at c.in_ok-has_output.ensures (view c.change_first.new.value) (go (named c.args.left.now)) (go (named c.args.right.now)) (rw c.in_ok-output.ensures at c.change_first.ensures.runs inputs level) in
    subst (Changed c.change_first-else-branch.result (view c.change_first-else-branch.new.value)) (sym same) (c.change_first-else-branch.ensures.runs inputs level)

pub change_part-returns-clause-turn : goal.change_part-returns-clause-turn
change_part-returns-clause-turn t c = λ inputs level go.
    let got = getpath_keys (view c.args.value.now) c.args.path.now c.in-List.keys c.as_slice.result.now c.in-List.is c.as_slice.ensures ∙ c.in-Ok.ensures in
    c.placed.ensures.turn level (part_run c.args.self.now inputs level (named c.args.update.now)) (view c.in-Ok.part) go got (c.change_first-done.ensures.runs inputs (suc level))

pub step-returns-clause-runs : goal.step-returns-clause-runs
step-returns-clause-runs t c = λ inputs level go.
    c.settled.ensures.runs (view c.args.state.now) (turn c.args.self.now inputs level (text_of c.args.name.now) (named c.args.update.now) (plain (view c.args.single.now)) (plain (view c.args.state.now))) go (c.change-done.ensures.runs inputs level)
