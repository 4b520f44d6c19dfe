-- What an engine stands for.
use Rattle.std.specs.Prelude.{◌≡◌, ℕ, [], ◌∷◌, length, map}
use Rattle.jv_data.specs.Value.{Value}
use Rattle.jv_data.specs.View.{view}
use Rattle.jq_ast.specs.Named.{named}
use Rattle.jq_ast.specs.declared.tree.Tree.{Tree}
use Rattle.jq_meaning.specs.Programs.{program_env}
use Rattle.jq_meaning.specs.Meaning.{meaning}
use Rattle.jq_meaning.specs.Runs.{Run, Item, value_in, before, ended, plain}
use Rattle.jq_meaning.specs.machine.Machine.{Produces}
use Rattle.jq_state.specs.Inputs.{inputs_of}
use Rattle.jq_state.specs.Listed.{items_in}
use Rattle.jq_state.specs.Nexts.{stands}
use Rattle.jq_state.specs.Nodes.{program_binding}
use Rattle.jq_state.specs.declared.programs.ProgramBindings.{ProgramBindings}
use Rattle.jq_transitions.specs.Outcomes.{IsBare, ending_of}
use Rattle.jq_engine.specs.declared.doing.Doing.{Doing}
use Rattle.jq_engine.specs.declared.doing.Doing.TheVariants as doing
use Rattle.jq_engine.specs.declared.engines.Engine.{Engine}
use Rattle.jq_engine.specs.declared.turns.Turn.{Turn}
use Rattle.jq_engine.specs.declared.turns.Turn.TheVariants as turn

-- The run of a filter's tree on a value, in the program's own bindings, up to a depth of calls.
abbrev pub program_run : (depth : ℕ) → Tree → ProgramBindings → (inputs : Run Value) → Value → Run Item
program_run depth t program inputs v = meaning depth (named t) (program_env (map program_binding (items_in program)) (length (items_in program)) inputs) 0 (plain v)

abbrev pub RestOf : Engine → Doing → Run Item → Type 0
RestOf e (doing.Running n) rest = Produces (stands (inputs_of e.inputs) e.state n) rest
RestOf e (doing.Ended end) rest = rest ≡ ended (ending_of end)
RestOf e doing.Failed rest = ⊥

-- This run is still to come.
abbrev pub IsRest : Engine → Run Item → Type 0
IsRest e rest = RestOf e e.doing rest

-- Memory ran out.
abbrev pub IsFailed : Engine → Type 0
IsFailed e = e.doing ≡ doing.Failed

-- What an engine answers, where this run was to come: its first output, with the rest to come, or its ending.
abbrev pub Turns : (rest : Run Item) → (later : Engine) → Turn → Type 0
Turns rest later (turn.Output v) = (x : Item) × (q : Run Item) × (rest ≡ before (x ∷ []) q) × (value_in x ≡ view v) × IsRest later q
Turns rest later (turn.End e) = (rest ≡ ended (ending_of e)) × IsRest later rest
Turns rest later turn.NoMemory = IsFailed later

abbrev pub IsBareEnd : Doing → Type 0
IsBareEnd (doing.Running n) = ⊥
IsBareEnd (doing.Ended end) = IsBare (ending_of end)
IsBareEnd doing.Failed = ⊥

-- The run has ended in a way that is told again without memory.
abbrev pub HasEnded : Engine → Type 0
HasEnded e = IsBareEnd e.doing

-- The answer is such an ending.
abbrev pub TellsEnd : Turn → Type 0
TellsEnd (turn.Output v) = ⊥
TellsEnd (turn.End e) = IsBare (ending_of e)
TellsEnd turn.NoMemory = ⊥
