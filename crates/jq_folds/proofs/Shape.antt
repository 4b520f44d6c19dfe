-- A filter of the Fold shape has parts, which do not call `inputs`.
use Rattle.std.proofs.Common.{◌≡◌, ℕ, ◌+◌, ◌≤◌, List, ◌∷◌, Bool, true, false, Some, None, refl, arith, length}
use Rattle.std.specs.Prelude.{not, if◌then◌else◌, ◌||◌}
use Rattle.jq_tree.specs.Tree.{Name, Tree, no_trees, Pattern}
use Rattle.jq_tree.specs.Tree as tree
use Rattle.jq_tree.specs.Names.{Scope, to_function, is_bound, with_parameters}
use Rattle.jq_tree.specs.Inputs.{inputs, count, count_pattern, by_reduce, by_foreach, FoldShape, fold_alone, fold_piped, fold_after}
use Rattle.jq_meaning.specs.Env.{Env, bound, function, Callee, found_function, no_callee, is_named, find_callee}
use Rattle.jq_folds.specs.Folding.{a_reduce, a_foreach}
use Rattle.jq_folds.specs.laws.Reading.{Hides, NoneReads}
use Rattle.jq_folds.proofs.Parts.{reduce_alone, reduce_piped, foreach_alone, foreach_piped, after_definition, Placed}
use Rattle.jq_folds.proofs.Hiding.{hides-function}

-- what a scope does not bind is not found
abbrev pub Opens : Scope → Env → Type 0
Opens s e = is_bound (to_function inputs 0) s ≡ false → find_callee inputs 0 e ≡ no_callee

opened : (b c : Bool) (f d : Callee) → (c ≡ false → d ≡ no_callee) → (b || c) ≡ false → (if b then f else d) ≡ no_callee
opened true c f d h e = absurd (cc)
opened false c f d h e = h e

pub opens-function : (n : Name) (ps : List Name) (body : Tree) (s : Scope) (e : Env) → Opens s e → Opens (to_function n (length ps) ∷ s) (bound (function n ps body) e)
opens-function n ps body s e h =
    opened (is_named inputs 0 n (length ps)) (is_bound (to_function inputs 0) s) (found_function ps body (bound (function n ps body) e)) (find_callee inputs 0 e) h

-- the source is the only call of `inputs`
others : (b : Bool) (a c d : ℕ) → b ≡ false → (((if not b then 1 else 0) + 0) + a) + c + d ≡ 1 → (a ≡ 0) × (c ≡ 0) × (d ≡ 0)
others true a c d p q = absurd (cc)
others false a c d p q = (omega (arith, q), omega (arith, q), omega (arith, q))

five : (b : Bool) (a c d f : ℕ) → b ≡ false → (((if not b then 1 else 0) + 0) + a) + c + d + f ≡ 1 → (a ≡ 0) × (c ≡ 0) × (d ≡ 0) × (f ≡ 0)
five true a c d f p q = absurd (cc)
five false a c d f p q = (omega (arith, q), omega (arith, q), omega (arith, q), omega (arith, q))

piped : (b : Bool) (a c d g : ℕ) → b ≡ false → ((((if not b then 1 else 0) + 0) + a) + c + d) + g ≡ 1 → (a ≡ 0) × (c ≡ 0) × (d ≡ 0) × (g ≡ 0)
piped true a c d g p q = absurd (cc)
piped false a c d g p q = (omega (arith, q), omega (arith, q), omega (arith, q), omega (arith, q))

piped_five : (b : Bool) (a c d f g : ℕ) → b ≡ false → ((((if not b then 1 else 0) + 0) + a) + c + d + f) + g ≡ 1 → (a ≡ 0) × (c ≡ 0) × (d ≡ 0) × (f ≡ 0) × (g ≡ 0)
piped_five true a c d f g p q = absurd (cc)
piped_five false a c d f g p q = (omega (arith, q), omega (arith, q), omega (arith, q), omega (arith, q), omega (arith, q))

least : (b : Bool) (a : ℕ) → b ≡ false → 1 ≤ ((if not b then 1 else 0) + 0) + a
least true a p = absurd (cc)
least false a p = omega arith

-- a filter of this shape calls `inputs`
pub at_least : {s : Scope} {t : Tree} → FoldShape s t → 1 ≤ count s t
at_least {s = s} (fold_alone (by_reduce {p = p} {start = start} {update = update} outer one)) =
    let z = least (is_bound (to_function inputs 0) s) (count_pattern s p) outer in omega (arith, z)
at_least {s = s} (fold_alone (by_foreach {p = p} {start = start} {update = update} {extract = extract} outer one)) =
    let z = least (is_bound (to_function inputs 0) s) (count_pattern s p) outer in omega (arith, z)
at_least {s = s} (fold_piped {g = g} (by_reduce {p = p} {start = start} {update = update} outer one)) =
    let z = least (is_bound (to_function inputs 0) s) (count_pattern s p) outer in omega (arith, z)
at_least {s = s} (fold_piped {g = g} (by_foreach {p = p} {start = start} {update = update} {extract = extract} outer one)) =
    let z = least (is_bound (to_function inputs 0) s) (count_pattern s p) outer in omega (arith, z)
at_least {s = s} (fold_after {n = n} {ps = ps} {f = f} {g = g} q) = let z = at_least q in omega (arith, z)

placed-after : (n : Name) (ps : List Name) (f g : Tree) (e : Env) → Placed g (bound (function n ps f) e) → Placed (tree.define n ps f g) e
placed-after n ps f g e p =
    record { fold = p.fold; own = p.own; parts = after_definition p.parts; outer = p.outer; single = p.single; scope = p.scope; none_reads = p.none_reads; inputs = p.inputs }

pub takes_apart : {s : Scope} {t : Tree} → FoldShape s t → (e : Env) → Opens s e → Hides s e → NoneReads e → count s t ≡ 1 → Placed t e
takes_apart {s = s} (fold_alone (by_reduce {p = p} {start = start} {update = update} outer one)) e o h l c =
    let b = is_bound (to_function inputs 0) s in
    let z = others b (count_pattern s p) (count s start) (count s update) outer c in
    record { fold = a_reduce p start update None; own = e; parts = reduce_alone; outer = o outer; single = one.0; scope = s; none_reads = record { pattern = z.0; start = z.1; update = z.2; extract = refl; closing = refl; hides = h; silent = l }; inputs = refl }
takes_apart {s = s} (fold_alone (by_foreach {p = p} {start = start} {update = update} {extract = extract} outer one)) e o h l c =
    let b = is_bound (to_function inputs 0) s in
    let z = five b (count_pattern s p) (count s start) (count s update) (count s extract) outer c in
    record { fold = a_foreach p start update extract None; own = e; parts = foreach_alone; outer = o outer; single = one.0; scope = s; none_reads = record { pattern = z.0; start = z.1; update = z.2; extract = z.3; closing = refl; hides = h; silent = l }; inputs = refl }
takes_apart {s = s} (fold_piped {g = g} (by_reduce {p = p} {start = start} {update = update} outer one)) e o h l c =
    let b = is_bound (to_function inputs 0) s in
    let z = piped b (count_pattern s p) (count s start) (count s update) (count s g) outer c in
    record { fold = a_reduce p start update (Some g); own = e; parts = reduce_piped; outer = o outer; single = one.0; scope = s; none_reads = record { pattern = z.0; start = z.1; update = z.2; extract = refl; closing = z.3; hides = h; silent = l }; inputs = refl }
takes_apart {s = s} (fold_piped {g = g} (by_foreach {p = p} {start = start} {update = update} {extract = extract} outer one)) e o h l c =
    let b = is_bound (to_function inputs 0) s in
    let z = piped_five b (count_pattern s p) (count s start) (count s update) (count s extract) (count s g) outer c in
    record { fold = a_foreach p start update extract (Some g); own = e; parts = foreach_piped; outer = o outer; single = one.0; scope = s; none_reads = record { pattern = z.0; start = z.1; update = z.2; extract = z.3; closing = z.4; hides = h; silent = l }; inputs = refl }
takes_apart {s = s} (fold_after {n = n} {ps = ps} {f = f} {g = g} q) e o h l c =
    let inner = to_function n (length ps) ∷ s in
    let low : 1 ≤ count inner g = at_least q in
    let c1 : count (with_parameters ps inner) f ≡ 0 = omega (arith, c, low) in
    let c2 : count inner g ≡ 1 = omega (arith, c, low) in
    placed-after n ps f g e (takes_apart q (bound (function n ps f) e) (opens-function n ps f s e o) (hides-function n ps f s e h) (l, s, c1, h) c2)
