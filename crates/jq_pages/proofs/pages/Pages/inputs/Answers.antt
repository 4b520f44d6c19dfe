use Rattle.std.proofs.Common.{◌<◌, ◌≤◌, ◌∙◌, List, ap, length, subst, sym}
use Rattle.std.proofs.Math.Logic.{∥∥₁_elim}
use Rattle.std.proofs.Props.{props}
use Rattle.jv_data.specs.declared.values.Val.{Val}
use Rattle.jq_pages.proofs.Edits.{map_length}
use Rattle.jq_pages.proofs.Public.{inputs_size}
use Rattle.jq_pages.proofs.pages.Pages.inputs.Goals as goal

pub returns-clause-size : goal.returns-clause-size
returns-clause-size g c =
    let s = c.args.self.now.kept in
    let l = subst (λ n. c.args.j < n) (map_length _ s.pages.items) c.requires in
    ∥∥₁_elim s.held (hlevel props) (λ h. ∥∥₁_elim s.filled (hlevel props) (λ f.
    subst (λ n. (1 ≤ n) × (n ≤ 64)) (sym (ap (λ (z : List Val). length z) (c.deref.ensures.value ∙ ap (λ z. z.inputs.items) c.index.ensures)))
    (inputs_size s.pages.items c.args.j c.index.result.now l h.sized f)))
