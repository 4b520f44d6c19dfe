use Rattle.std.proofs.Common.{◌≡◌, ◌≤◌, ◌<◌, ◌∙◌, List, [], ◌∷◌, length, get_or, map, refl, ap, sym, subst, arith}
use Rattle.std.specs.Str.{chars}
use Rattle.jq_ast.specs.Named.{name_of, named}
use Rattle.jq_ast.specs.declared.tree.Tree as code
use Rattle.jq_tree.specs.Tree.{no_trees, more_trees, trees_of, call}
use Rattle.jq_meaning.specs.Builtins.{builtin_named, range}
use Rattle.jq_meaning.specs.Runs.{plain}
use Rattle.jq_meaning.specs.machine.Evaluating.{enter, enter_builtin, enter_callee, next_argument}
use Rattle.jq_state.specs.Environments.{envs_of}
use Rattle.jq_state.specs.Links.{scope_in}
use Rattle.jq_engine.proofs.ranges.bounds_of.Goals as goal

two_items : {A : Type 0} (xs : List A) (x y : A) → 2 ≤ length xs → length xs < 3 → x ≡ get_or xs 0 x → y ≡ get_or xs 1 y → xs ≡ x ∷ (y ∷ [])
two_items [] x y a b e f = absurd (omega arith)
two_items (v ∷ []) x y a b e f = absurd (omega arith)
two_items (v ∷ (w ∷ [])) x y a b e f = rw (e, f) refl
two_items (v ∷ (w ∷ (u ∷ us))) x y a b e f = absurd (omega arith)

pub returns-in-Range : goal.returns-in-Range
returns-in-Range c inputs v k fs =
    let q = scope_in (envs_of inputs c.args.nodes.now) c.args.scope in
    let n = name_of c.args.name.now in
    let start = c.start-item.result in
    let end = c.end-item.result in
    let ts = more_trees (named start) (more_trees (named end) no_trees) in
    let items = two_items c.args.arguments.now start end c.in-len2.len_at_least c.in-len2.len_below c.start-item.is c.end-item.is in
    subst (λ (us : List code.Tree). enter (call n (trees_of (map named us))) q (plain v) k fs ≡ next_argument range ts [] q (plain v) k fs) (sym items)
    (ap (λ z. enter_callee z ts q (plain v) k fs (enter_builtin (builtin_named n 2) n ts q (plain v) k fs)) (sym (c.in-NoCallee.ensures.callee inputs))
    ∙ ap (λ b. enter_builtin b n ts q (plain v) k fs) (sym (c.in-Range.ensures ∙ ap (λ bs. builtin_named (chars bs) 2) c.as_str.ensures.value)))
