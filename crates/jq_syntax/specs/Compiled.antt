-- The result of compiling a text: the program of an accepted filter, or the fault that it is refused for.
use Rattle.std.specs.Prelude.{◌≡◌, ◌↔◌, ℕ, List, false, length}
use Rattle.jq_tree.specs.Tree as tree
use Rattle.jq_tree.specs.Prelude.{IsPrelude, followed_by}
use Rattle.jq_tree.specs.Filter as filter
use Rattle.jq_tree.specs.Filter.{Setting, BecomesAfter, Becomes, HasPlan, runs_as}
use Rattle.jq_ast.specs.Named.{named}
use Rattle.jq_inputs.specs.Halting.{CallsNoHalt}
use Rattle.jq_inputs.specs.Plans.{view_of}
use Rattle.jq_syntax.specs.Chosen.{setting_of}
use Rattle.jq_syntax.specs.declared.options.Options.{Options}
use Rattle.jq_resolver.specs.Programs.{bound_program, named_program}
use Rattle.jq_resolver.specs.Undefined.{reference_of}
use Rattle.jq_syntax.specs.declared.faults.CompileFault.{CompileFault}
use Rattle.jq_syntax.specs.declared.faults.CompileFault.TheVariants as fault
use Rattle.jq_syntax.specs.declared.program.Program.{Program}

-- The text is accepted with the program's tree. The functions and then the tree are the prelude and then the filter, with the
-- binders that it runs with.
pub record IsProgramOf (text : List ℕ) (options : Options) (p : Program) : Type 0 where
  pub prelude : tree.Tree
  pub is_prelude : IsPrelude prelude
  pub accepted : BecomesAfter prelude (setting_of options) text (filter.accepted (named p.tree.value))
  pub definitions : named_program p.functions.items p.tree.value ≡ followed_by prelude (named p.tree.value)
  pub binders : bound_program p.functions.items p.tree.value (length options.vars.items) ≡ runs_as prelude (setting_of options) (named p.tree.value)
  pub plan : HasPlan options.null options.slurp (named p.tree.value) (view_of p.plan)
  pub reads : p.reads ≡ filter.reads (named p.tree.value)
  pub halts : (p.halts ≡ false) ↔ CallsNoHalt (named p.tree.value)

-- The text is refused for this fault. (Memory may run out for any text.)
abbrev pub IsRefusal : List ℕ → Setting → CompileFault → Type 0
IsRefusal text s (fault.Lex at) = Becomes s text (filter.bad_token at)
IsRefusal text s fault.TooManyTokens = Becomes s text filter.too_many_tokens
IsRefusal text s fault.TooNested = Becomes s text filter.too_nested
IsRefusal text s fault.Syntax = Becomes s text filter.syntax_error
IsRefusal text s (fault.Undefined name) = Becomes s text (filter.undefined (reference_of name))
IsRefusal text s fault.InputsPlace = Becomes s text filter.inputs_misplaced
IsRefusal text s fault.InputsNeedNull = Becomes s text filter.inputs_without_null
IsRefusal text s fault.NoMemory = Unit {0}
