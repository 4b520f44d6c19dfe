-- Bindings after definitions.
use Rattle.std.proofs.Common.{◌≡◌, List, [], ◌∷◌, refl, arith, length}
use Rattle.jv_data.specs.Value.{Value}
use Rattle.jq_tree.specs.Tree.{Name, Tree}
use Rattle.jq_tree.specs.Tree as tree
use Rattle.jq_tree.specs.Names.{Scope, to_function, with_parameters}
use Rattle.jq_tree.specs.Inputs.{inputs, count}
use Rattle.jq_meaning.specs.Runs.{Run}
use Rattle.jq_meaning.specs.Env.{Env, outermost, bound, function, no_callee, find_callee, with_variables}
use Rattle.jq_folds.specs.laws.Programs.{within, scope_within, DefinitionsLeaveInputsAlone}
use Rattle.jq_folds.specs.laws.Reading.{Hides, NoneReads}
use Rattle.jq_folds.proofs.Hiding.{hides-function}
use Rattle.jq_folds.proofs.Shape.{Opens, opens-function}

silent-within : (p : Tree) (s : Scope) (e : Env) → count s p ≡ 0 → Hides s e → NoneReads e → NoneReads (within p e)
silent-within (tree.define n ps f g) s e c h l =
    let inner = to_function n (length ps) ∷ s in
    let c1 : count (with_parameters ps inner) f ≡ 0 = omega (arith, c) in
    let c2 : count inner g ≡ 0 = omega (arith, c) in
    silent-within g inner (bound (function n ps f) e) c2 (hides-function n ps f s e h) (l, s, c1, h)
silent-within t s e c h l = l

opens-within : (p : Tree) (s : Scope) (e : Env) → Opens s e → Opens (scope_within p s) (within p e)
opens-within (tree.define n ps f g) s e o = opens-within g (to_function n (length ps) ∷ s) (bound (function n ps f) e) (opens-function n ps f s e o)
opens-within t s e o = o

silent-variables : (vs : List (Name × Value)) (q : Run Value) → NoneReads (with_variables vs (outermost q))
silent-variables [] q = tt
silent-variables (v ∷ vs) q = silent-variables vs q

open-variables : (vs : List (Name × Value)) (q : Run Value) → find_callee inputs 0 (with_variables vs (outermost q)) ≡ no_callee
open-variables [] q = refl
open-variables (v ∷ vs) q = open-variables vs q

pub left_alone : DefinitionsLeaveInputsAlone
left_alone p vs i h =
    let base = with_variables vs (outermost i) in
    record {
      calls = silent-within p [] base h.calls (λ q. absurd (cc)) (silent-variables vs i);
      names = opens-within p [] base (λ q. open-variables vs i) h.names;
    }
