-- From the run of a program to the meaning of its filter.
use Rattle.std.proofs.Common.{◌≡◌, ℕ, Bool, false, List, map, ap, sym, subst, ◌∙◌}
use Rattle.jv_data.specs.Value.{Value}
use Rattle.jq_tree.specs.Prelude.{followed_by}
use Rattle.jq_inputs.specs.declared.plans.Plan.{Plan}
use Rattle.jq_ast.specs.Named.{named}
use Rattle.jq_ast.specs.declared.tree.Tree.{Tree}
use Rattle.jq_meaning.specs.Env.{outermost, with_variables}
use Rattle.jq_meaning.specs.Meaning.{meaning}
use Rattle.jq_meaning.specs.Runs.{Run, plain}
use Rattle.jq_resolver.specs.Programs.{named_program}
use Rattle.jq_state.specs.Nodes.{program_binding}
use Rattle.jq_state.specs.declared.environments.ProgramBinding.{ProgramBinding}
use Rattle.jq_syntax.specs.Chosen.{chosen, variables_of}
use Rattle.jq_syntax.specs.Compiled.{IsProgramOf}
use Rattle.jq_syntax.specs.declared.options.Options.{Options}
use Rattle.jq_syntax.specs.declared.program.Program.{Program}
use Rattle.jq_inputs.specs.Plans.{view_of}
use Rattle.jq_state.specs.Listed.{items_in}
use Rattle.jq_tree.specs.Filter.{HasPlan}
use Rattle.jq_filters.specs.Accepted.{Accepts, mode_in}
use Rattle.jq_filters.specs.Compiled.{IsFilter}
use Rattle.jq_filters.specs.Unhalted.{NeverHalts}
use Rattle.jq_filters.specs.laws.Unhalted.{NeverHaltsInItsBindings}
use Rattle.jq_filters.specs.Programs.{bindings_of}
use Rattle.jq_filters.specs.Runner.{mode_of, job_in, run_in}
use Rattle.jq_filters.specs.declared.settings.Settings.{Settings}

-- the settings, the depth, the filter's tree and its bindings are those of this program under these options
pub record Fits (o : Options) (p : Program) (s : Settings) (d : ℕ) (t : Tree) (bs : List ProgramBinding) : Type 0 where
  pub mode : mode_of s.mode ≡ mode_in (chosen o) p.reads
  pub style : s.style ≡ o.style
  pub exit : s.exit ≡ o.exit
  pub tree : t ≡ p.tree.value
  pub bindings : map program_binding bs ≡ bindings_of (variables_of o.vars.items) p.functions.items
  pub depth : d ≡ o.depth

-- what a filter does with a value in its bindings is the meaning of its program
abbrev pub Law : Options → Program → (depth : ℕ) → Tree → List ProgramBinding → Type 0
Law o p depth tree bs = (inputs : Run Value) (v : Value)
    → run_in depth tree bs inputs v ≡ meaning depth (named_program p.functions.items tree) (with_variables (variables_of o.vars.items) (outermost inputs)) 0 (plain v)

-- a filter in its program's bindings has the same meaning as after the prelude
pub accepts : (text : List ℕ) (o : Options) (p : Program) (s : Settings) (depth : ℕ) (tree : Tree) (bs : List ProgramBinding) → Fits o p s depth tree bs
    → Law o p depth tree bs → IsProgramOf text o p → Accepts (chosen o) text (mode_of s.mode) (job_in s depth tree bs)
accepts text o p s depth tree bs f law h = record {
  prelude = h.prelude;
  is_prelude = h.is_prelude;
  tree = named p.tree.value;
  accepted = h.accepted;
  in_mode = f.mode ∙ ap (mode_in (chosen o)) h.reads;
  in_style = f.style;
  with_exit = f.exit;
  runs = λ inputs v.
      let vs = variables_of o.vars.items in
      law inputs v
      ∙ ap (λ w. meaning depth w (with_variables vs (outermost inputs)) 0 (plain v)) (ap (named_program p.functions.items) f.tree ∙ h.definitions)
      ∙ ap (λ n. meaning n (followed_by h.prelude (named p.tree.value)) (with_variables vs (outermost inputs)) 0 (plain v)) f.depth;
}

-- what is known of a program's filter
pub filter_of : (text : List ℕ) (o : Options) (p : Program) (s : Settings) (depth : ℕ) (t : Tree) (bs : List ProgramBinding) (plan : Plan) (halts : Bool) → Fits o p s depth t bs → Law o p depth t bs
    → IsProgramOf text o p → halts ≡ p.halts → plan ≡ p.plan → IsFilter (chosen o) text s depth t bs (view_of plan) halts
unfolding accepts
filter_of text o p s depth t bs plan halts fits law h same_halts same_plan = record {
  accepted = record {
    accepts = accepts text o p s depth t bs fits law h;
    planned = subst (λ x. HasPlan o.null o.slurp (named p.tree.value) (view_of x)) (sym same_plan) h.plan;
    halting = (λ e. h.halts.0 (sym same_halts ∙ e), λ c. same_halts ∙ h.halts.1 c);
  };
  compiled = record {
    functions = p.functions.items;
    is_tree = ap named fits.tree;
    definitions = ap (named_program p.functions.items) fits.tree ∙ h.definitions;
    bound = fits.bindings;
    in_depth = fits.depth;
  };
}

-- a filter that calls no function that halts never halts
pub unhalted : (text : List ℕ) (o : Options) (p : Program) (s : Settings) (depth : ℕ) (t : Tree) (bs : List ProgramBinding) (halts : Bool) → Fits o p s depth t bs
    → NeverHaltsInItsBindings
    → IsProgramOf text o p → halts ≡ p.halts → halts ≡ false → NeverHalts (run_in depth t bs)
unhalted text o p s depth t bs halts fits law h same e =
    let is : t ≡ p.tree.value = fits.tree in
    subst (λ u. NeverHalts (run_in depth u bs)) (sym is)
    (law h.prelude depth (variables_of o.vars.items) p.functions.items p.tree.value bs h.is_prelude h.definitions fits.bindings (h.halts.0 (sym same ∙ e)))
