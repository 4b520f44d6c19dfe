-- Laws of the prelude.
use Rattle.std.specs.Prelude.{◌≡◌, ◌⊎◌, ℕ, ◌+◌, ◌<◌, List, [], ◌∷◌, ◌++◌, false, length, codes}
use Rattle.jq_tree.specs.Tree.{Name, Tree}
use Rattle.jq_tree.specs.Tree as tree
use Rattle.jq_tree.specs.Token.{Token}
use Rattle.jq_tree.specs.Lexing.{Lexes}
use Rattle.jq_tree.specs.Grammar.{Main}
use Rattle.jq_tree.specs.declared.prelude.TheConstants.{PRELUDE}
use Rattle.jq_tree.specs.Prelude.{IsPrelude, followed_by}
use Rattle.jq_tree.specs.Inputs.{inputs, count}
use Rattle.jq_tree.specs.Names.{to_function, Scope, is_bound, variables_of}
use Rattle.jq_tree.specs.BoundTree.{bound_at}
use Rattle.jq_tree.specs.Binders.{prelude_binder, Closed}
use Rattle.jq_inputs.specs.Halting.{CallsNoHalt}
use Rattle.jq_syntax.specs.laws.Computed.{prelude}

-- Its text has no other tree.
abbrev pub OneTree : Type 0
OneTree = (p : Tree) → IsPrelude p → p ≡ prelude

-- A filter is read as if the prelude's text came before it: the tokens of both have the tree of both.
abbrev pub StandsBefore : Type 0
StandsBefore = (ps ts : List Token) (t : Tree) → Lexes PRELUDE.now ps → Main ts t → Main (ps ++ ts) (followed_by prelude t)

-- After its definitions comes `.`.
abbrev pub OnlyDefinitions : Type 0
OnlyDefinitions = followed_by prelude tree.identity ≡ prelude

-- The prelude needs only parts of the language.
abbrev pub AllNamesBound : Type 0
AllNamesBound = Closed [] prelude

-- The scope after the definitions that a tree begins with.
abbrev pub after_definitions : Scope → Tree → Scope
after_definitions s (tree.define n ps f g) = after_definitions (to_function n (length ps) ∷ s) g
after_definitions s t = s

-- ---- `inputs`

-- No function of the prelude calls `inputs`.
abbrev pub CallsNoInputs : Type 0
CallsNoInputs = count [] prelude ≡ 0

-- None has that name.
abbrev pub DefinesNoInputs : Type 0
DefinesNoInputs = is_bound (to_function inputs 0) (after_definitions [] prelude) ≡ false

-- ---- the prelude's own functions

-- The scope after the prelude, if the command binds these variables.
abbrev pub after_prelude : (variables : List Name) → Scope
after_prelude variables = after_definitions (variables_of variables) prelude

-- Whatever the filter binds, this function is one of the prelude's.
abbrev pub IsThePreludes : Name → (arity : ℕ) → Type 0
IsThePreludes name arity = (inner : Scope) (variables : List Name)
    → (place : ℕ) × (place < length (after_prelude [])) × (prelude_binder (inner ++ after_prelude variables) (to_function name arity) ≡ bound_at (length inner + place))

abbrev pub RecurseIsThePreludes : Type 0
RecurseIsThePreludes = IsThePreludes (codes "recurse") 0

abbrev pub AssignIsThePreludes : Type 0
AssignIsThePreludes = IsThePreludes (codes "_assign") 2

abbrev pub ModifyIsThePreludes : Type 0
ModifyIsThePreludes = IsThePreludes (codes "_modify") 2

-- ---- its functions that halt

-- Each definition that a tree begins with, as a filter of its own, calls no function that halts, or it defines `halt_error`.
abbrev pub DefinitionsCallNoHalt : Tree → Type 0
DefinitionsCallNoHalt (tree.define n ps f g) =
    (CallsNoHalt (tree.define n ps f tree.identity) ⊎ (to_function n (length ps) ≡ to_function (codes "halt_error") 0)) × DefinitionsCallNoHalt g
DefinitionsCallNoHalt t = Unit {0}

abbrev pub OnlyHaltErrorHalts : Type 0
OnlyHaltErrorHalts = DefinitionsCallNoHalt prelude
