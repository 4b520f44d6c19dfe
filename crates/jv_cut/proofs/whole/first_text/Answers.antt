use Rattle.std.proofs.Common.{◌≡◌, ℕ, List, ◌-◌, arith, length, take, drop, subst, true, length-drop}
use Rattle.std.proofs.lemmas.List.{take_all}
use Rattle.jv_cut.specs.private.Scan.{Finds}
use Rattle.jv_cut.specs.Text.{text_end, unended}
use Rattle.jv_cut.specs.declared.scanning.Found.TheVariants.{Text, Fault}
use Rattle.jv_cut.proofs.All.{finds_nothing, finds_text, finds_fault, finds_unended}
use Rattle.jv_cut.proofs.whole.first_text.Goals as goal

-- the slice from a position on
after : (bytes : List ℕ) (start : ℕ) → take (length bytes - start) (drop start bytes) ≡ drop start bytes
after bytes start = take_all (length bytes - start) (drop start bytes) (omega (arith, length-drop start bytes))

pub returns-then-start-bytes : goal.returns-then-start-bytes
returns-then-start-bytes c = finds_nothing c.args.bytes.now c.count_spaces-start.result c.count_spaces-start.ensures (omega arith)

pub returns-in-Text : goal.returns-in-Text
returns-in-Text c =
    let bytes = c.args.bytes.now in
    let start = c.count_spaces-start.result in
    finds_text bytes start c.in-Text.len c.count_spaces-start.ensures (omega arith) (subst (λ u. Finds (Text c.in-Text.len) u true) (after bytes start) c.in-Text.ensures)

pub returns-in-Fault : goal.returns-in-Fault
returns-in-Fault c =
    let bytes = c.args.bytes.now in
    let start = c.count_spaces-start.result in
    finds_fault bytes start c.in-Fault.fault c.count_spaces-start.ensures (omega arith) (subst (λ u. Finds (Fault c.in-Fault.fault) u true) (after bytes start) c.in-Fault.ensures)

pub returns-in-More : goal.returns-in-More
returns-in-More c =
    let bytes = c.args.bytes.now in
    let start = c.count_spaces-start.result in
    finds_unended bytes start c.count_spaces-start.ensures (omega arith) (subst (λ u. text_end true u ≡ unended) (after bytes start) c.in-More.ensures.2)
