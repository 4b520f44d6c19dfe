-- The binders of a program's names, and the checks of a filter's tree.
use Rattle.std.specs.Prelude.{◌≡◌, ◌⊎◌, List, [], ◌∷◌, Bool, true, false}
use Rattle.jq_tree.specs.Tree.{Tree}
use Rattle.jq_tree.specs.Names.{Reference}
use Rattle.jq_tree.specs.BoundTree.{BoundTree}
use Rattle.jq_tree.specs.Binders.{bound_filter, uses, without_binder}
use Rattle.jq_tree.specs.Inputs.{InputsInPlace}
use Rattle.jq_tree.specs.Filter.{reads}
use Rattle.jq_ast.specs.declared.tree.Function.{Function}
use Rattle.jq_ast.specs.declared.tree.Tree as ast
use Rattle.jq_resolver.specs.Programs.{named_program, variable_names}
use Rattle.jq_resolver.specs.Undefined.{reference_of}
use Rattle.jq_syntax.specs.declared.faults.CompileFault.{CompileFault}
use Rattle.jq_syntax.specs.declared.faults.CompileFault.TheVariants as fault
use Rattle.jq_syntax.specs.declared.options.Options.{Options}

-- The functions and the tree as one filter with the binder of each name, inside the variables of the options.
abbrev pub bound_under : Options → List (Function ast.Tree) → ast.Tree → BoundTree
bound_under o fs t = bound_filter (variable_names o.vars.items) (named_program fs t)

-- The fault names the first of these names, which nothing binds.
abbrev pub IsUnbound : List Reference → CompileFault → Type 0
IsUnbound rs (fault.Undefined name) = (others : List Reference) × (rs ≡ reference_of name ∷ others)
IsUnbound rs fault.NoMemory = Unit {0}
IsUnbound rs f = ⊥

pub record IsFitForInputs (null : Bool) (t : Tree) : Type 0 where
  pub in_place : InputsInPlace t
  pub allowed : reads t ≡ true → null ≡ true

-- The tree must not call `inputs` as it does, for this fault.
abbrev pub IsMisread : (null : Bool) → Tree → CompileFault → Type 0
IsMisread null t fault.InputsPlace = ¬ InputsInPlace t
IsMisread null t fault.InputsNeedNull = InputsInPlace t × (reads t ≡ true) × (null ≡ false)
IsMisread null t f = ⊥

-- A name of the whole program is unbound; or all are bound, and `inputs` is misplaced or lacks `-n`.
abbrev pub IsUnfit : (null : Bool) → BoundTree → Tree → CompileFault → Type 0
IsUnfit null b t f = IsUnbound (without_binder (uses b)) f ⊎ ((without_binder (uses b) ≡ []) × IsMisread null t f)
