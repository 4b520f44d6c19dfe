-- The options of a command.
use Rattle.std.specs.Prelude.{ℕ, List, Bool, String, map}
use Rattle.std.specs.declared.alloc.Global.{Global}
use Rattle.jq_tree.specs.Filter as filter
use Rattle.jq_tree.specs.Filter.{Setting}
use Rattle.jq_tree.specs.Tree.{Name}
use Rattle.jv_data.specs.Value.{Value}
use Rattle.jv_data.specs.Text.{text_of}
use Rattle.jv_data.specs.View.{view}
use Rattle.jv_data.specs.declared.values.Val.{Val}
use Rattle.jv_text.specs.declared.printing.Style.{Style}
use Rattle.jq_syntax.specs.declared.options.Options.{Options}

-- a variable of the command line: its name as code points, and its value
abbrev pub variable_of : String Global × Val → Name × Value
variable_of v = (text_of v.0, view v.1)

abbrev pub variables_of : List (String Global × Val) → List (Name × Value)
variables_of = map variable_of

-- The options as values, without capacities and addresses.
pub record Chosen : Type 0 where
  pub null : Bool
  pub slurp : Bool
  pub exit : Bool
  pub style : Style
  pub depth : ℕ
  pub variables : List (Name × Value)

abbrev pub chosen : Options → Chosen
chosen o = record { null = o.null; slurp = o.slurp; exit = o.exit; style = o.style; depth = o.depth; variables = variables_of o.vars.items }

-- the options under which a filter is compiled
abbrev pub setting : Chosen → Setting
setting o = filter.setting_of o.null o.variables

abbrev pub setting_of : Options → Setting
setting_of o = setting (chosen o)
