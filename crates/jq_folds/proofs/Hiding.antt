-- What a search in bindings finds, where they have other inputs.
use Rattle.std.proofs.Common.{◌≡◌, ℕ, List, [], ◌∷◌, Bool, true, false, refl, ap, ◌∙◌, nat_eq, arith, length}
use Rattle.std.specs.Prelude.{⊤, ◌&&◌, ◌||◌, Option, Some, bytes_eq, if◌then◌else◌}
use Rattle.jv_data.specs.Value.{Value}
use Rattle.jq_tree.specs.Tree.{Name, Tree, Trees, no_trees, more_trees, trees_count}
use Rattle.jq_tree.specs.Names.{Scope, to_function, is_bound, with_parameters}
use Rattle.jq_tree.specs.Inputs.{inputs, count, count_trees}
use Rattle.jq_meaning.specs.Runs.{Run}
use Rattle.jq_meaning.specs.Env.{Env, outermost, bound, value_of, function, closure, label_of, Callee, found_function, found_closure, no_callee, find_value, find_level, is_named, find_callee, callee_or, find_in_prelude, with_arguments}
use Rattle.jq_folds.specs.laws.Reading.{with_inputs, IsFound, Hides, NoneReads}

-- ---- the same search

pub find_value-same : (r : Run Value) (n : Name) (e : Env) → find_value n e ≡ find_value n (with_inputs r e)
find_value-same r n (outermost i) = refl
find_value-same r n (bound (value_of m v) e) = ap (λ (w : Value). if bytes_eq n m then v else w) (find_value-same r n e)
find_value-same r n (bound (function m ps body) e) = find_value-same r n e
find_value-same r n (bound (closure m body own) e) = find_value-same r n e
find_value-same r n (bound (label_of m k) e) = find_value-same r n e

pub find_level-same : (r : Run Value) (n : Name) (e : Env) → find_level n e ≡ find_level n (with_inputs r e)
find_level-same r n (outermost i) = refl
find_level-same r n (bound (value_of m v) e) = find_level-same r n e
find_level-same r n (bound (function m ps body) e) = find_level-same r n e
find_level-same r n (bound (closure m body own) e) = find_level-same r n e
find_level-same r n (bound (label_of m k) e) = ap (λ (o : Option ℕ). if bytes_eq n m then Some k else o) (find_level-same r n e)

abbrev pub callee_with : Run Value → Callee → Callee
callee_with r (found_function ps body own) = found_function ps body (with_inputs r own)
callee_with r (found_closure body own) = found_closure body (with_inputs r own)
callee_with r no_callee = no_callee

callee-if : (r : Run Value) (b : Bool) (c d : Callee) → callee_with r (if b then c else d) ≡ (if b then callee_with r c else callee_with r d)
callee-if r true c d = refl
callee-if r false c d = refl

pub find_callee-same : (r : Run Value) (n : Name) (count : ℕ) (e : Env) → callee_with r (find_callee n count e) ≡ find_callee n count (with_inputs r e)
find_callee-same r n count (outermost i) = refl
find_callee-same r n count (bound (value_of m v) e) = find_callee-same r n count e
find_callee-same r n count (bound (function m ps body) e) =
    let b = is_named n count m (length ps) in
    let f : Callee = found_function ps body (bound (function m ps body) e) in
    callee-if r b f (find_callee n count e) ∙ ap (λ (c : Callee). if b then callee_with r f else c) (find_callee-same r n count e)
find_callee-same r n count (bound (closure m body own) e) =
    let b = is_named n count m 0 in
    let f : Callee = found_closure body own in
    callee-if r b f (find_callee n count e) ∙ ap (λ (c : Callee). if b then callee_with r f else c) (find_callee-same r n count e)
find_callee-same r n count (bound (label_of m k) e) = find_callee-same r n count e

callee-or : (r : Run Value) (c d : Callee) → callee_with r (callee_or c d) ≡ callee_or (callee_with r c) (callee_with r d)
callee-or r (found_function ps body own) d = refl
callee-or r (found_closure body own) d = refl
callee-or r no_callee d = refl

pub find_in_prelude-same : (r : Run Value) (n : Name) (count : ℕ) (e : Env) → callee_with r (find_in_prelude n count e) ≡ find_in_prelude n count (with_inputs r e)
find_in_prelude-same r n count (outermost i) = refl
find_in_prelude-same r n count (bound (value_of m v) e) = find_in_prelude-same r n count e
find_in_prelude-same r n count (bound (function m ps body) e) =
    let b = is_named n count m (length ps) in
    let f : Callee = found_function ps body (bound (function m ps body) e) in
    callee-or r (find_in_prelude n count e) (if b then f else no_callee)
    ∙ ap (λ (c : Callee). callee_or c (callee_with r (if b then f else no_callee))) (find_in_prelude-same r n count e)
    ∙ ap (λ (c : Callee). callee_or (find_in_prelude n count (with_inputs r e)) c) (callee-if r b f no_callee)
find_in_prelude-same r n count (bound (closure m body own) e) = find_in_prelude-same r n count e
find_in_prelude-same r n count (bound (label_of m k) e) = find_in_prelude-same r n count e

pub with_arguments-same : (r : Run Value) (ps : List Name) (ts : Trees) (caller own : Env) → with_inputs r (with_arguments ps ts caller own) ≡ with_arguments ps ts (with_inputs r caller) (with_inputs r own)
with_arguments-same r [] ts caller own = refl
with_arguments-same r (p ∷ ps) no_trees caller own = refl
with_arguments-same r (p ∷ ps) (more_trees t ts) caller own = with_arguments-same r ps ts caller (bound (closure p t caller) own)

-- ---- what the bindings hide

found-or : (b c : Bool) (f d : Callee) → IsFound f → (c ≡ true → IsFound d) → (b || c) ≡ true → IsFound (if b then f else d)
found-or true c f d h i e = h
found-or false c f d h i e = i e

hides-closure : (p : Name) (t : Tree) (own : Env) (s : Scope) (e : Env) → Hides s e → Hides (to_function p 0 ∷ s) (bound (closure p t own) e)
hides-closure p t own s e h = found-or (is_named inputs 0 p 0) (is_bound (to_function inputs 0) s) (found_closure t own) (find_callee inputs 0 e) tt h

pub hides-function : (n : Name) (ps : List Name) (body : Tree) (s : Scope) (e : Env) → Hides s e → Hides (to_function n (length ps) ∷ s) (bound (function n ps body) e)
hides-function n ps body s e h =
    found-or (is_named inputs 0 n (length ps)) (is_bound (to_function inputs 0) s) (found_function ps body (bound (function n ps body) e)) (find_callee inputs 0 e) tt h

pub hides-arguments : (ps : List Name) (ts : Trees) (caller own : Env) (s : Scope) → length ps ≡ trees_count ts → Hides s own → Hides (with_parameters ps s) (with_arguments ps ts caller own)
hides-arguments [] ts caller own s c h = h
hides-arguments (p ∷ ps) no_trees caller own s c h = absurd (omega (arith, c))
hides-arguments (p ∷ ps) (more_trees t ts) caller own s c h =
    hides-arguments ps ts caller (bound (closure p t caller) own) (to_function p 0 ∷ s) (omega (arith, c)) (hides-closure p t caller s own h)

pub silent-arguments : (ps : List Name) (ts : Trees) (caller own : Env) (s : Scope) → count_trees s ts ≡ 0 → Hides s caller → NoneReads caller → NoneReads own → NoneReads (with_arguments ps ts caller own)
silent-arguments [] ts caller own s c h l m = m
silent-arguments (p ∷ ps) no_trees caller own s c h l m = m
silent-arguments (p ∷ ps) (more_trees t ts) caller own s c h l m =
    let first : count s t ≡ 0 = omega (arith, c) in
    let later : count_trees s ts ≡ 0 = omega (arith, c) in
    silent-arguments ps ts caller (bound (closure p t caller) own) s later h l (m, l, s, first, h)

-- ---- what is found

-- a callee with this number of arguments, which does not call `inputs`
abbrev pub SilentCallee : ℕ → Callee → Type 0
SilentCallee n (found_function ps body own) = (length ps ≡ n) × NoneReads own × (s : Scope) × (count (with_parameters ps s) body ≡ 0) × Hides s own
SilentCallee n (found_closure body own) = NoneReads own × (s : Scope) × (count s body ≡ 0) × Hides s own
SilentCallee n no_callee = ⊤

named-length : (n : Name) (c : ℕ) (m : Name) (a : ℕ) → is_named n c m a ≡ true → a ≡ c
named-length n c m a e = go (bytes_eq n m) (nat_eq c a) refl e
  where
    go : (b t : Bool) → nat_eq c a ≡ t → (b && t) ≡ true → a ≡ c
    go true true p q = grind (arith, p)
    go true false p q = absurd (cc)
    go false t p q = absurd (cc)

silent-if : (n : ℕ) (b : Bool) (f d : Callee) → (b ≡ true → SilentCallee n f) → SilentCallee n d → SilentCallee n (if b then f else d)
silent-if n true f d h i = h refl
silent-if n false f d h i = i

silent-function : (n : Name) (c : ℕ) (m : Name) (ps : List Name) (body : Tree) (e : Env) → NoneReads (bound (function m ps body) e) → is_named n c m (length ps) ≡ true → SilentCallee c (found_function ps body (bound (function m ps body) e))
silent-function n c m ps body e l p = (named-length n c m (length ps) p, l, to_function m (length ps) ∷ l.1, l.2, hides-function m ps body l.1 e l.3)

pub find_callee-silent : (n : Name) (c : ℕ) (e : Env) → NoneReads e → SilentCallee c (find_callee n c e)
find_callee-silent n c (outermost i) l = tt
find_callee-silent n c (bound (value_of m v) e) l = find_callee-silent n c e l
find_callee-silent n c (bound (function m ps body) e) l =
    silent-if c (is_named n c m (length ps)) (found_function ps body (bound (function m ps body) e)) (find_callee n c e) (silent-function n c m ps body e l) (find_callee-silent n c e l.0)
find_callee-silent n c (bound (closure m body own) e) l =
    silent-if c (is_named n c m 0) (found_closure body own) (find_callee n c e) (λ p. (l.1, l.2, l.3, l.4)) (find_callee-silent n c e l.0)
find_callee-silent n c (bound (label_of m k) e) l = find_callee-silent n c e l

silent-or : (n : ℕ) (f d : Callee) → SilentCallee n f → SilentCallee n d → SilentCallee n (callee_or f d)
silent-or n (found_function ps body own) d h i = h
silent-or n (found_closure body own) d h i = h
silent-or n no_callee d h i = i

pub find_in_prelude-silent : (n : Name) (c : ℕ) (e : Env) → NoneReads e → SilentCallee c (find_in_prelude n c e)
find_in_prelude-silent n c (outermost i) l = tt
find_in_prelude-silent n c (bound (value_of m v) e) l = find_in_prelude-silent n c e l
find_in_prelude-silent n c (bound (function m ps body) e) l =
    silent-or c (find_in_prelude n c e) (if is_named n c m (length ps) then found_function ps body (bound (function m ps body) e) else no_callee) (find_in_prelude-silent n c e l.0)
    (silent-if c (is_named n c m (length ps)) (found_function ps body (bound (function m ps body) e)) no_callee (silent-function n c m ps body e l) tt)
find_in_prelude-silent n c (bound (closure m body own) e) l = find_in_prelude-silent n c e l.0
find_in_prelude-silent n c (bound (label_of m k) e) l = find_in_prelude-silent n c e l
