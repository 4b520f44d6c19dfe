use Rattle.std.proofs.Common.{ℕ, ◌+◌, ◌*◌, ◌≤◌, length}
use Rattle.json.specs.Json.{items, members, value}
use Rattle.jv_data.specs.Drafts.{drafted}
use Rattle.jv_text.specs.private.PlainTokens.{KeepsPlain}
use Rattle.jv_text.proofs.Taken.{ItemsGoOn, MembersGoOn}
use Rattle.jv_text.proofs.tokens.+taking.Given as goal

abbrev pub decreases-read_value : goal.decreases-read_value
decreases-read_value l = 2 * l.depth

abbrev pub decreases-read_items : goal.decreases-read_items
decreases-read_items l = 2 * l.depth + 1

abbrev pub decreases-read_members : goal.decreases-read_members
decreases-read_members l = 2 * l.depth + 1

abbrev pub invariant-read_items-items : goal.invariant-read_items-items
invariant-read_items-items l =
    (n : ℕ) × (length l.reader ≤ n)
    × ItemsGoOn (items (value l.depth) (length l.initial.reader) l.initial.reader) l.found.items (items (value l.depth) n l.reader)
    × (length l.reader ≤ length l.initial.reader)
    × KeepsPlain l.initial.reader l.reader

abbrev pub decreases-read_items-items : goal.decreases-read_items-items
decreases-read_items-items l = length l.reader

abbrev pub invariant-read_members-members : goal.invariant-read_members-members
invariant-read_members-members l =
    (n : ℕ) × (length l.reader ≤ n)
    × MembersGoOn (members (value l.depth) (length l.initial.reader) l.initial.reader) (drafted l.found) (members (value l.depth) n l.reader)
    × (length l.reader ≤ length l.initial.reader)
    × KeepsPlain l.initial.reader l.reader

abbrev pub decreases-read_members-members : goal.decreases-read_members-members
decreases-read_members-members l = length l.reader
