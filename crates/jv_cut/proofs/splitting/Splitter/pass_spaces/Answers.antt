use Rattle.std.proofs.Common.{◌∙◌, arith, ap}
use Rattle.std.proofs.lemmas.List.Sums.{prefix_len-le-length}
use Rattle.std.specs.List.{prefix_len}
use Rattle.jv_cut.specs.Bytes.{is_space}
use Rattle.jv_cut.proofs.Cuts.{past_spaces}
use Rattle.jv_cut.proofs.splitting.Splitter.pass_spaces.Goals as goal

pub take-requires : goal.take-requires
take-requires c = let e = c.count_spaces-spaces.ensures ∙ ap (prefix_len is_space) c.unread.ensures in omega (arith, e, prefix_len-le-length is_space c.args.self.now.unread)

pub returns-clause-passed : goal.returns-clause-passed
returns-clause-passed c = rw c.take.ensures (past_spaces c.args.self.now c.count_spaces-spaces.result c.requires (c.count_spaces-spaces.ensures ∙ ap (prefix_len is_space) c.unread.ensures)).same

pub returns-clause-mark : goal.returns-clause-mark
returns-clause-mark c = rw c.take.ensures (past_spaces c.args.self.now c.count_spaces-spaces.result c.requires (c.count_spaces-spaces.ensures ∙ ap (prefix_len is_space) c.unread.ensures)).mark

pub returns-clause-space : goal.returns-clause-space
returns-clause-space c = rw c.take.ensures (past_spaces c.args.self.now c.count_spaces-spaces.result c.requires (c.count_spaces-spaces.ensures ∙ ap (prefix_len is_space) c.unread.ensures)).space
