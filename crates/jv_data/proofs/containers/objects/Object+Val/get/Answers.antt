use Rattle.std.proofs.Common.{◌∙◌, ap, sym, option_map}
use Rattle.std.specs.Str.{chars}
use Rattle.jv_data.proofs.shared.Levels.{members_held}
use Rattle.jv_data.specs.Members.{member_at}
use Rattle.jv_data.proofs.Places.{view_of_copied, member_found}
use Rattle.jv_data.specs.Shared.{entries_in}
use Rattle.jv_data.specs.View.{view}
use Rattle.jv_data.proofs.containers.objects.Object+Val.get.Goals as goal

pub returns : goal.returns
returns c = view_of_copied c.get.result ∙ ap (option_map view) (rw c.deref.ensures at c.get.ensures) ∙ member_found c.args.key.now c.utf8.key (entries_in c.args.self.now)
    ∙ ap (member_at (chars c.args.key.now)) (sym (members_held c.args.self.now))
