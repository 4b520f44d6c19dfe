-- The prelude's text is ASCII, so its bytes are its characters; and it has one list of tokens, with a tree.
use Rattle.std.proofs.Common.{◌≡◌, ℕ, List, refl, subst}
use Rattle.std.specs.Str.{chars}
use Rattle.jq_tree.specs.Tree.{Tree}
use Rattle.jq_tree.specs.Token.{Token}
use Rattle.jq_tree.specs.Lexing.{Lexes, BadToken}
use Rattle.jq_tree.specs.Grammar.{Main}
use Rattle.jq_tree.specs.laws.OneReading.{OneTokenList, TokensOrBadToken}
use Rattle.jq_tree.specs.Prelude.{IsPrelude}
use Rattle.jq_tree.specs.declared.prelude.TheConstants.{PRELUDE}

pub characters-of-prelude : chars PRELUDE.now ≡ PRELUDE.now
unfolding chars
characters-of-prelude = refl

pub no_bad_token : {p : Tree} → IsPrelude p → TokensOrBadToken → (at : ℕ) → BadToken (chars PRELUDE.now) at → ⊥
no_bad_token h not_both at bad = not_both PRELUDE.now h.tokens at h.lexes (subst (λ text. BadToken text at) characters-of-prelude bad)

pub has_tree : {p : Tree} → IsPrelude p → OneTokenList → (ts : List Token) → Lexes (chars PRELUDE.now) ts → ((t : Tree) → ¬ Main ts t) → ⊥
has_tree {p = p} h one ts lexes none =
    none p (subst (λ us. Main us p) (one PRELUDE.now h.tokens ts h.lexes (subst (λ text. Lexes text ts) characters-of-prelude lexes)) h.tree)

pub is_prelude : (ts : List Token) (p : Tree) → Lexes (chars PRELUDE.now) ts → Main ts p → IsPrelude p
is_prelude ts p lexes tree = record { tokens = ts; lexes = subst (λ text. Lexes text ts) characters-of-prelude lexes; tree = tree }
