use Rattle.std.proofs.Common.{◌∙◌, ap}
use Rattle.jv_data.specs.Held.{members_in}
use Rattle.jv_data.specs.Members.{member_at}
use Rattle.jv_data.specs.View.{view}
use Rattle.jv_value.proofs.Located.{part_or_missing, start_spelt, end_spelt}
use Rattle.jv_value.proofs.indexing.bounds_in.Goals as goal

pub returns-clause-start : goal.returns-clause-start
returns-clause-start c =
    ap (λ r. view r.now) c.unwrap_or-start.ensures ∙ part_or_missing c.get.result c.args.missing _ (c.get.ensures ∙ ap (λ k. member_at k (members_in c.args.members.now)) start_spelt) c.requires

pub returns-clause-end : goal.returns-clause-end
returns-clause-end c =
    ap (λ r. view r.now) c.unwrap_or-end.ensures ∙ part_or_missing c.get-2.result c.args.missing _ (c.get-2.ensures ∙ ap (λ k. member_at k (members_in c.args.members.now)) end_spelt) c.requires
