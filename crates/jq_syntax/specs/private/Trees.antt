-- Why a list of tokens has no tree.
use Rattle.std.specs.Prelude.{List}
use Rattle.jq_tree.specs.Tree.{Tree}
use Rattle.jq_tree.specs.Token.{Token}
use Rattle.jq_tree.specs.Grammar.{Main}
use Rattle.jq_syntax.specs.declared.faults.CompileFault.{CompileFault}
use Rattle.jq_syntax.specs.declared.faults.CompileFault.TheVariants as fault

abbrev pub IsNoTree : List Token → CompileFault → Type 0
IsNoTree ts fault.Syntax = (t : Tree) → ¬ Main ts t
IsNoTree ts fault.NoMemory = Unit {0}
IsNoTree ts f = ⊥
