-- From the run of a compiled filter to the meaning of its text.
use Rattle.std.proofs.Common.{◌≡◌, inl, ℕ, List, true, false, Result, IfOk, IfErr, refl, sym, subst, ap, ◌∙◌}
use Rattle.jq_ast.specs.declared.tree.Tree.{Tree}
use Rattle.jq_state.specs.Listed.{items_in}
use Rattle.jq_state.specs.declared.programs.ProgramBindings.{ProgramBindings}
use Rattle.jv_data.proofs.shared.Results.{if_err_map, if_ok_map}
use Rattle.jq_devices.specs.declared.faults.StreamFault.{StreamFault}
use Rattle.jq_filters.specs.Accepted.{Accepts}
use Rattle.jq_filters.specs.Filters.{IsFilterOf, filter_job, filter_mode}
use Rattle.jq_filters.specs.Outcomes.{Job, on_each}
use Rattle.jq_filters.specs.Runner.{mode_of, job_in}
use Rattle.jq_stream.specs.Streams.{Streams, IsStreamRun}
use Rattle.jq_stream.specs.Stopped.{IsStreamStopped, IsOnePass}
use Rattle.jq_filters.specs.declared.filters.Filter.{Filter}
use Rattle.jq_filters.specs.declared.settings.Mode.{Mode}
use Rattle.jq_filters.specs.declared.settings.Mode.TheVariants as mode
use Rattle.jq_filters.specs.declared.settings.Settings.{Settings}
use Rattle.jq_syntax.specs.Chosen.{Chosen}
use Rattle.jq_run.specs.Filters.{HasRun, HasStopped, FilterNeedsInput}

-- the settings and the job are those of the filter
pub record Runs (p : Filter) (m : Mode) (j : Job) : Type 0 where
  pub mode : mode_of m ≡ filter_mode p
  pub job : j ≡ filter_job p

pub runs : (p : Filter) (s : Settings) (depth : ℕ) (tree : Tree) (bindings : ProgramBindings) → s ≡ p.settings → depth ≡ p.depth → tree ≡ p.tree.value → bindings ≡ p.bindings
    → Runs p s.mode (job_in s depth tree (items_in bindings))
runs p s depth tree bindings set deep is bound = record {
  mode = ap (λ s. mode_of s.mode) set;
  job = ap (λ s. job_in s depth tree (items_in bindings)) set ∙ ap (λ d. job_in p.settings d tree (items_in bindings)) deep
      ∙ ap (λ t. job_in p.settings p.depth t (items_in bindings)) is ∙ ap (λ b. job_in p.settings p.depth p.tree.value (items_in b)) bound;
}

accepts : (p : Filter) (m : Mode) (j : Job) (o : Chosen) (text : List ℕ) → Runs p m j → IsFilterOf o text p → Accepts o text (mode_of m) j
accepts p m j o text r h = subst (λ k. Accepts o text (mode_of m) k) (sym r.job) (subst (λ k. Accepts o text k (filter_job p)) (sym r.mode) h.accepted.accepts)

each_is : (m : Mode) → mode_of m ≡ on_each → m ≡ mode.OnEach
each_is mode.OnEach e = refl
each_is (mode.OnNull reads) e = cc
each_is mode.OnAll e = cc

pub has_run : {E : Type 0} (r : Result ℕ E) (p : Filter) (m : Mode) (j : Job) (old new : Streams) → Runs p m j → IfOk r (λ status. IsStreamRun (mode_of m) j old new status) → (m ≡ mode.OnEach → IsOnePass j old new)
    → IfOk r (λ status. (o : Chosen) (text : List ℕ) → IsFilterOf o text p → HasRun o text old new status)
has_run r p m j old new is run pass = if_ok_map r run (λ status run o text h. (mode_of m, j, accepts p m j o text is h, run, λ each. pass (each_is m each)))

pub has_stopped : (r : Result ℕ StreamFault) (p : Filter) (m : Mode) (j : Job) (old new : Streams) → Runs p m j → IfErr r (λ f. IsStreamStopped f (mode_of m) j old new) → (m ≡ mode.OnEach → IsOnePass j old new)
    → IfErr r (λ f. (o : Chosen) (text : List ℕ) → IsFilterOf o text p → HasStopped f o text old new)
has_stopped r p m j old new is stop pass = if_err_map r stop (λ f stop o text h. inl (mode_of m, j, accepts p m j o text is h, stop, λ each. pass (each_is m each)))

-- a filter that needs no input runs only on null
needs_none_by : (o : Chosen) (text : List ℕ) (m : Mode) (j : Job) → Accepts o text (mode_of m) j → ¬ (FilterNeedsInput o text) → m ≡ mode.OnNull false
needs_none_by o text mode.OnEach j acc none = absurd (none (mode_of mode.OnEach, j, acc, λ e. cc))
needs_none_by o text (mode.OnNull true) j acc none = absurd (none (mode_of (mode.OnNull true), j, acc, λ e. cc))
needs_none_by o text (mode.OnNull false) j acc none = refl
needs_none_by o text mode.OnAll j acc none = absurd (none (mode_of mode.OnAll, j, acc, λ e. cc))

pub needs_none : (p : Filter) (m : Mode) (j : Job) (o : Chosen) (text : List ℕ) → Runs p m j → IsFilterOf o text p → ¬ (FilterNeedsInput o text) → m ≡ mode.OnNull false
needs_none p m j o text is h none = needs_none_by o text m j (accepts p m j o text is h) none
