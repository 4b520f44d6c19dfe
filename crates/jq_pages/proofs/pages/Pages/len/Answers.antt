use Rattle.std.proofs.Common.{◌∙◌, sym}
use Rattle.jq_pages.proofs.Edits.{inputs_count}
use Rattle.jq_pages.proofs.pages.Pages.len.Goals as goal

pub returns-clause-count : goal.returns-clause-count
returns-clause-count g c = c.args.self.now.kept.counted ∙ sym (inputs_count c.args.self.now.kept.pages.items)
