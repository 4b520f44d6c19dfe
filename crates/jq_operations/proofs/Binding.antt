-- The arguments of a call, bound one after the other.
use Rattle.std.proofs.Common.{◌≡◌, ◌∙◌, List, [], ◌∷◌, map, ◌⊎◌, inl, inr, String, Global, ap, sym, refl}
use Rattle.jv_data.specs.Text.{text_of}
use Rattle.jq_ast.specs.Named.{named}
use Rattle.jq_ast.specs.declared.tree.Tree.{Tree}
use Rattle.jq_tree.specs.Tree.{Name, no_trees, trees_of}
use Rattle.jq_meaning.specs.Env.{Env, bound, closure, with_arguments}

pub bound_more : (ps qs : List (String Global)) (ts us : List Tree) (p : String Global) (t : Tree) (caller own more goal : Env) → ps ≡ p ∷ qs → ts ≡ t ∷ us
    → more ≡ bound (closure (text_of p) (named t) caller) own
    → with_arguments (map text_of ps) (trees_of (map named ts)) caller own ≡ goal
    → with_arguments (map text_of qs) (trees_of (map named us)) caller more ≡ goal
bound_more ps qs ts us p t caller own more goal a b e h =
    ap (with_arguments (map text_of qs) (trees_of (map named us)) caller) e
    ∙ sym (ap (λ z. with_arguments (map text_of z) (trees_of (map named ts)) caller own) a ∙ ap (λ z. with_arguments (map text_of (p ∷ qs)) (trees_of (map named z)) caller own) b)
    ∙ h

no_more : (ps : List Name) (caller own : Env) → with_arguments ps no_trees caller own ≡ own
no_more [] caller own = refl
no_more (p ∷ ps) caller own = refl

pub bound_all : (ps : List (String Global)) (ts : List Tree) (caller own goal : Env) → (ps ≡ []) ⊎ (ts ≡ [])
    → with_arguments (map text_of ps) (trees_of (map named ts)) caller own ≡ goal → own ≡ goal
bound_all ps ts caller own goal (inl e) h = ap (λ z. with_arguments (map text_of z) (trees_of (map named ts)) caller own) (sym e) ∙ h
bound_all ps ts caller own goal (inr e) h =
    sym (ap (λ z. with_arguments (map text_of ps) (trees_of (map named z)) caller own) e ∙ no_more (map text_of ps) caller own) ∙ h
