-- The facts that a type keeps are propositions: two proofs of one are equal. The type's `by` names the proof.
use Rattle.std.specs.Prelude.{ℕ, ◌+◌, List, [], ◌∷◌}
use Rattle.std.proofs.Props.{props}
use Rattle.jq_state.specs.Forks.{ForksFit}
use Rattle.jq_state.specs.Links.{FramesFit}
use Rattle.jq_state.specs.Nodes.{BindingFits, NodesFit}
use Rattle.jq_state.specs.declared.environments.Binding.{Binding}
use Rattle.jq_state.specs.declared.environments.Binding.TheVariants as binding
use Rattle.jq_state.specs.declared.environments.Node.{Node}
use Rattle.jq_state.specs.declared.forks.Fork.{Fork}
use Rattle.jq_state.specs.declared.frames.Frame.{Frame}

BindingFits-prop : (count : ℕ) (b : Binding) → IsProp (BindingFits count b)
BindingFits-prop count (binding.Value name value) = hlevel
BindingFits-prop count (binding.Function f) = hlevel
BindingFits-prop count (binding.Closure name tree own) = hlevel props
BindingFits-prop count (binding.Label name level) = hlevel

pub NodesFit-prop : (count : ℕ) (ns : List Node) → IsProp (NodesFit count ns)
NodesFit-prop count [] = hlevel
NodesFit-prop count (n ∷ ns) = hlevel (props, BindingFits-prop count n.binding, NodesFit-prop (count + 1) ns)

pub FramesFit-prop : (count mark : ℕ) (fs : List Frame) → IsProp (FramesFit count mark fs)
FramesFit-prop count mark [] = hlevel
FramesFit-prop count mark (f ∷ fs) = hlevel (props, FramesFit-prop (count + 1) f.mark fs)

pub ForksFit-prop : (frames envs : ℕ) (fs : List Frame) (height count : ℕ) (forks : List Fork) → IsProp (ForksFit frames envs fs height count forks)
ForksFit-prop frames envs fs height count [] = hlevel props
ForksFit-prop frames envs fs height count (f ∷ forks) = hlevel (props, ForksFit-prop f.frames f.envs fs height count forks)
