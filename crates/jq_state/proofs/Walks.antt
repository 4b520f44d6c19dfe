-- Environments by index: pushing, cutting and reading nodes, and the program's own environments.
use Rattle.std.proofs.Common.{◌≡◌, ℕ, zero, suc, ◌+◌, ◌<◌, ◌≤◌, List, [], ◌∷◌, ◌++◌, length, get_or, take, refl, sym, ap, subst, ◌∙◌, arith, length-append, Bool, true, false, if◌then◌else◌}
use Rattle.std.proofs.lemmas.List.{get_or-take, length-map}
use Rattle.jv_data.specs.Value.{Value}
use Rattle.jv_data.specs.Text.{text_of}
use Rattle.jq_ast.specs.Named.{named}
use Rattle.jq_meaning.specs.Env.{Env, outermost, bound, find_inputs}
use Rattle.jq_meaning.specs.Env as env
use Rattle.jq_meaning.specs.Runs.{Run, none}
use Rattle.jq_meaning.specs.Programs.{program_env, with_bindings}
use Rattle.jq_state.specs.Builds.{builds}
use Rattle.jq_state.specs.Nodes.{program_binding, program_envs, env_at, binding_in, node_in, BindingFits, NodeFits, NodesFit}
use Rattle.jq_state.specs.Environments.{envs_of, count_of, program_of}
use Rattle.jq_state.specs.declared.environments.Node.{Node}
use Rattle.jq_state.specs.declared.environments.Nodes.{Nodes}
use Rattle.jq_state.specs.declared.environments.Binding.{Binding}
use Rattle.jq_state.specs.declared.environments.Binding.TheVariants as binding
use Rattle.jq_state.proofs.Chains.{builds-append, builds-length, builds-take, builds-read}

-- ---- which indexes nodes name

pub nodes_fit-push : (count : ℕ) (ns : List Node) (n : Node) (m : ℕ) → m ≡ count + length ns → NodesFit count ns → NodeFits m n → NodesFit count (ns ++ n ∷ [])
nodes_fit-push count [] n m e h f = let p : m ≡ count = omega (arith, e) in (subst (λ k. NodeFits k n) p f, tt)
nodes_fit-push count (x ∷ ns) n m e h f = let p : m ≡ (count + 1) + length ns = omega (arith, e) in (h.0, nodes_fit-push (count + 1) ns n m p h.1 f)

pub nodes_fit-take : (count : ℕ) (ns : List Node) (k : ℕ) → NodesFit count ns → NodesFit count (take k ns)
nodes_fit-take count ns zero h = tt
nodes_fit-take count [] (suc k) h = tt
nodes_fit-take count (n ∷ ns) (suc k) h = (h.0, nodes_fit-take (count + 1) ns k h.1)

pub nodes_fit-at : (count : ℕ) (ns : List Node) (k i : ℕ) (d : Node) → k < length ns → i ≡ count + k → NodesFit count ns → NodeFits i (get_or ns k d)
nodes_fit-at count [] k i d l e h = absurd (omega (arith, l))
nodes_fit-at count (n ∷ ns) zero i d l e h = let p : count ≡ i = omega (arith, e) in subst (λ j. NodeFits j n) p h.0
nodes_fit-at count (n ∷ ns) (suc k) i d l e h =
    let p : i ≡ (count + 1) + k = omega (arith, e) in let q : k < length ns = omega (arith, l) in nodes_fit-at (count + 1) ns k i d q p h.1

pub fits_after : (b : Bool) (count m : ℕ) (ns ms : List Node) (n : Node) → ms ≡ (if b then ns ++ n ∷ [] else ns) → m ≡ count + length ns → NodesFit count ns → NodeFits m n → NodesFit count ms
fits_after true count m ns ms n e p h f = subst (NodesFit count) (sym e) (nodes_fit-push count ns n m p h f)
fits_after false count m ns ms n e p h f = subst (NodesFit count) (sym e) h

-- ---- a node is computed from the nodes before it

same_binding : (envs : List Env) (i : ℕ) (b : Binding) → BindingFits i b → binding_in (take i envs) b ≡ binding_in envs b
same_binding envs i (binding.Value name value) h = refl
same_binding envs i (binding.Function f) h = refl
same_binding envs i (binding.Closure name tree own) h = ap (env.closure (text_of name.now) (named tree.now)) (get_or-take i envs own (outermost none) h)
same_binding envs i (binding.Label name level) h = refl

same_node : (envs : List Env) (i : ℕ) (n : Node) → NodeFits i n → node_in (take i envs) n ≡ node_in envs n
same_node envs i n h = ap (λ b. bound b (env_at (take i envs) n.outer)) (same_binding envs i n.binding h.1) ∙ ap (bound (binding_in envs n.binding)) (get_or-take i envs n.outer (outermost none) h.0)

-- ---- the program's own

pub program_envs-length : (bs : List env.Binding) (e : Env) → length (program_envs bs e) ≡ length bs + 1
program_envs-length [] e = omega arith
program_envs-length (b ∷ bs) e = let h = program_envs-length bs (bound b e) in omega (arith, h)

program_envs-at : (bs : List env.Binding) (e : Env) (j : ℕ) (d : Env) → j ≤ length bs → get_or (program_envs bs e) j d ≡ with_bindings (take j bs) e
program_envs-at [] e zero d h = refl
program_envs-at [] e (suc j) d h = absurd (omega (arith, h))
program_envs-at (b ∷ bs) e zero d h = refl
program_envs-at (b ∷ bs) e (suc j) d h = let l : j ≤ length bs = omega (arith, h) in program_envs-at bs (bound b e) j d l

own_count : (ns : Nodes) (inputs : Run Value) → length (program_envs (program_of ns) (outermost inputs)) ≡ length ns.program.now.items.items + 1
own_count ns inputs = let a = program_envs-length (program_of ns) (outermost inputs) in let b = length-map ns.program.now.items.items program_binding in omega (arith, a, b)

-- ---- all environments

pub envs-length : (ns : Nodes) (inputs : Run Value) → length (envs_of inputs ns) ≡ count_of ns
envs-length ns inputs =
    let a = builds-length node_in (program_envs (program_of ns) (outermost inputs)) ns.nodes.items in let b = own_count ns inputs in omega (arith, a, b)

pub pushed : (inputs : Run Value) (known : List Env) (ns : List Node) (n : Node) → builds node_in known (ns ++ n ∷ []) ≡ builds node_in known ns ++ node_in (builds node_in known ns) n ∷ []
pushed inputs known ns n = builds-append node_in known ns (n ∷ [])

pub cut_off : (ns : Nodes) (inputs : Run Value) (k count : ℕ) → k ≤ length ns.nodes.items → count ≡ length ns.program.now.items.items + 1 + k
    → builds node_in (program_envs (program_of ns) (outermost inputs)) (take k ns.nodes.items) ≡ take count (envs_of inputs ns)
cut_off ns inputs k count h e =
    let known = program_envs (program_of ns) (outermost inputs) in
    let p : count ≡ length known + k = let b = own_count ns inputs in omega (arith, b, e) in
    builds-take node_in known ns.nodes.items k count h p

pub node_read : (ns : Nodes) (inputs : Run Value) (k i : ℕ) (d : Node) → k < length ns.nodes.items → i ≡ length ns.program.now.items.items + 1 + k
    → env_at (envs_of inputs ns) i ≡ node_in (envs_of inputs ns) (get_or ns.nodes.items k d)
node_read ns inputs k i d h e =
    let known = program_envs (program_of ns) (outermost inputs) in
    let p : i ≡ length known + k = let b = own_count ns inputs in omega (arith, b, e) in
    builds-read node_in known ns.nodes.items k i (outermost none) d h p
    ∙ same_node (envs_of inputs ns) i (get_or ns.nodes.items k d) (nodes_fit-at (length ns.program.now.items.items + 1) ns.nodes.items k i d h e ns.fit)

pub program_read : (ns : Nodes) (inputs : Run Value) (j : ℕ) → j ≤ length (program_of ns) → env_at (envs_of inputs ns) j ≡ program_env (program_of ns) j inputs
program_read ns inputs j h =
    let known = program_envs (program_of ns) (outermost inputs) in
    let none_kept : known ≡ take (length known) (envs_of inputs ns) = let p : length known ≡ length known + 0 = omega arith in builds-take node_in known ns.nodes.items 0 (length known) (omega arith) p in
    let l : j < length known = let b = program_envs-length (program_of ns) (outermost inputs) in omega (arith, b, h) in
    sym (get_or-take (length known) (envs_of inputs ns) j (outermost none) l) ∙ ap (λ es. get_or es j (outermost none)) (sym none_kept)
    ∙ program_envs-at (program_of ns) (outermost inputs) j (outermost none) h

-- ---- the inputs are at the end of each environment

abbrev EndIn : (inputs : Run Value) → List Env → Type 0
EndIn inputs envs = (i : ℕ) → i < length envs → find_inputs (env_at envs i) ≡ inputs

program_ends : (inputs : Run Value) (bs : List env.Binding) (e : Env) → find_inputs e ≡ inputs → EndIn inputs (program_envs bs e)
program_ends inputs [] e p zero l = p
program_ends inputs [] e p (suc i) l = absurd (omega (arith, l))
program_ends inputs (b ∷ bs) e p zero l = p
program_ends inputs (b ∷ bs) e p (suc i) l = let m : i < length (program_envs bs (bound b e)) = omega (arith, l) in program_ends inputs bs (bound b e) p i m

end_pushed : (inputs : Run Value) (envs : List Env) (e : Env) → EndIn inputs envs → find_inputs e ≡ inputs → EndIn inputs (envs ++ e ∷ [])
end_pushed inputs [] e h p zero l = p
end_pushed inputs [] e h p (suc i) l = absurd (omega (arith, l))
end_pushed inputs (x ∷ envs) e h p zero l = h zero (omega arith)
end_pushed inputs (x ∷ envs) e h p (suc i) l =
    let m : i < length (envs ++ e ∷ []) = omega (arith, l) in
    end_pushed inputs envs e (λ j k. h (suc j) (omega (arith, k))) p i m

nodes_end : (inputs : Run Value) (count : ℕ) (known : List Env) (ns : List Node) → count ≡ length known → NodesFit count ns → EndIn inputs known → EndIn inputs (builds node_in known ns)
nodes_end inputs count known [] e h p = p
nodes_end inputs count known (n ∷ ns) e h p =
    let l : n.outer < length known = omega (arith, h.0.0, e) in
    let m : count + 1 ≡ length (known ++ node_in known n ∷ []) = let q = length-append known (node_in known n ∷ []) in omega (arith, q, e) in
    nodes_end inputs (count + 1) (known ++ node_in known n ∷ []) ns m h.1 (end_pushed inputs known (node_in known n) p (p n.outer l))

pub inputs_end : (ns : Nodes) (inputs : Run Value) (i : ℕ) → i < count_of ns → find_inputs (env_at (envs_of inputs ns) i) ≡ inputs
inputs_end ns inputs i h =
    let known = program_envs (program_of ns) (outermost inputs) in
    let e : length ns.program.now.items.items + 1 ≡ length known = sym (own_count ns inputs) in
    let l : i < length (envs_of inputs ns) = let n = envs-length ns inputs in omega (arith, n, h) in
    nodes_end inputs (length ns.program.now.items.items + 1) known ns.nodes.items e ns.fit (program_ends inputs (program_of ns) (outermost inputs) refl) i l
