use Rattle.std.proofs.Common.{◌≡◌, ◌∙◌, ◌+◌, ◌-◌, [], ◌∷◌, ◌++◌, arith, ap, sym, subst, take, drop, get_or, length, length-drop, append_assoc, option_map}
use Rattle.std.proofs.lemmas.List.{take_all}
use Rattle.std.proofs.lemmas.Result.{err_from_is_err_and}
use Rattle.jv_cut.specs.declared.nesting.Quote.TheVariants.{Outside}
use Rattle.jv_text.specs.Numbers.{run_text, whole_numbers}
use Rattle.jv_text.proofs.Runs.{Writing, part, writing_on, writing_run, writing_fails, written_all, pushed}
use Rattle.jv_text.proofs.RunTexts.{fails_at}
use Rattle.jv_text.proofs.numbers.whole_numbers.Goals as goal
use Rattle.jv_text.proofs.numbers.whole_numbers.Goals.{then-not-is_in_run+in_ok-push_run+in_ok-push, else-not-is_in_run}

pub returns-in_err-push_run : goal.returns-in_err-push_run
returns-in_err-push_run c =
    let text = c.args.text.now in
    let p = err_from_is_err_and c.from_residual-in_err-push_run.result c.from_residual-in_err-push_run.ensures.1 in
    rw (p.1, p.2) (fails_at c.in_err-push_run.field-0.0 c.loop-i.out.items (run_text (part text c.loop-i.start c.loop-i.i)) (whole_numbers Outside [] text) c.in_err-push_run.ensures
    (λ n. writing_fails text c.loop-i.out.items c.loop-i.quote c.loop-i.start c.loop-i.i (omega arith) (sym c.is_in_run.ensures ∙ c.if-not-is_in_run.true) n c.loop-i.invariant.1))

pub loop-i-preserved : goal.loop-i-preserved
loop-i-preserved c =
    let text = c.args.text.now in
    let i = c.loop-i.i in
    let start = c.loop-i.start in
    let out = c.loop-i.out.items in
    let x = get_or text i 0 in
    let inv = c.loop-i.invariant in
    elim c.if-not-is_in_run.branch [
      | then-not-is_in_run+in_ok-push_run+in_ok-push w ↦
          let run = pushed out w.push_run.new.out.items (run_text (part text start i)) w.in_ok-push_run.ensures in
          let next = writing_run text out run.run c.loop-i.quote w.next-quote.result start i (omega arith) (sym c.is_in_run.ensures ∙ w.if-not-is_in_run.true) w.next-quote.ensures run.is inv.1 in
          let all = sym (append_assoc out run.run (x ∷ [])) ∙ ap (λ l. l ++ x ∷ []) run.out_is ∙ sym w.in_ok-push.ensures.items ∙ ap (λ v. v.items) (sym w.out-is) in
          let at_out = subst (λ f. Writing text f w.next-quote.result (i + 1) (i + 1)) all next in
          let at_start = subst (λ s. Writing text c.if-not-is_in_run.out.items w.next-quote.result s (i + 1)) (sym w.start-is) at_out in
          (omega (arith, w.start-is), subst (λ q. Writing text c.if-not-is_in_run.out.items q c.if-not-is_in_run.start (i + 1)) (sym w.quote-is) at_start)
      | else-not-is_in_run w ↦
          let next = writing_on text out c.loop-i.quote start i inv.0 (omega arith) (sym c.is_in_run.ensures ∙ w.if-not-is_in_run.false) inv.1 in
          let at_out = subst (λ v. Writing text v.items c.loop-i.quote start (i + 1)) (sym w.out-is) next in
          let at_start = subst (λ s. Writing text c.if-not-is_in_run.out.items c.loop-i.quote s (i + 1)) (sym w.start-is) at_out in
          (omega (arith, w.start-is), subst (λ q. Writing text c.if-not-is_in_run.out.items q c.if-not-is_in_run.start (i + 1)) (sym w.quote-is) at_start)
    ]

pub returns-in_err-push_run-2 : goal.returns-in_err-push_run-2
returns-in_err-push_run-2 c =
    let text = c.args.text.now in
    let start = c.loop-i.start in
    let out = c.loop-i.out.items in
    let last : take (length text - start) (drop start text) ≡ drop start text = take_all (length text - start) (drop start text) (omega (arith, length-drop start text)) in
    let p = err_from_is_err_and c.from_residual-in_err-push_run-2.result c.from_residual-in_err-push_run-2.ensures.1 in
    rw (p.1, p.2) (fails_at c.in_err-push_run-2.field-0.0 out (run_text (take (length text - start) (drop start text))) (whole_numbers Outside [] text) c.in_err-push_run-2.ensures
    (λ n. written_all text out c.loop-i.quote start c.loop-i.i (omega arith) c.loop-i.invariant.1 ∙ ap (λ r. option_map (λ t. out ++ t) (run_text r)) (sym last) ∙ ap (option_map (λ t. out ++ t)) n))

pub returns : goal.returns
returns c =
    let text = c.args.text.now in
    let start = c.loop-i.start in
    let out = c.loop-i.out.items in
    let last : take (length text - start) (drop start text) ≡ drop start text = take_all (length text - start) (drop start text) (omega (arith, length-drop start text)) in
    written_all text out c.loop-i.quote start c.loop-i.i (omega arith) c.loop-i.invariant.1 ∙ ap (λ r. option_map (λ t. out ++ t) (run_text r)) (sym last) ∙ c.in_ok-push_run-2.ensures
