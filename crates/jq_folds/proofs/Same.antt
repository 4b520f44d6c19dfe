-- The meaning of a filter that does not call `inputs` does not depend on the inputs.
use Rattle.std.proofs.Common.{◌≡◌, ℕ, zero, suc, ◌+◌, pos, List, ◌∷◌, Bool, true, false, refl, sym, ap, ◌∙◌, subst, arith, length, nat_eq}
use Rattle.std.specs.Prelude.{◌&&◌, not, codes, Option, Some, None, bytes_eq, if◌then◌else◌}
use Rattle.std.proofs.lemmas.Slice.Eq.{bytes_eq-Decides}
use Rattle.jv_data.specs.Value.{Value, number, string, Members, no_members}
use Rattle.jq_natives.specs.declared.native.Native.{Native}
use Rattle.jq_natives.specs.Natives.{native_named}
use Rattle.jq_tree.specs.Tree.{Name, Tree, Trees, no_trees, more_trees, trees_count, Pieces, Entries, Pattern, Patterns, Parts}
use Rattle.jq_tree.specs.Tree as tree
use Rattle.jq_tree.specs.Names.{Scope, to_function, is_bound, with_parameters}
use Rattle.jq_tree.specs.Inputs.{inputs, is_inputs, count, count_trees, count_pieces, count_entries, count_pattern, count_patterns, count_parts}
use Rattle.jq_meaning.specs.Builtins.{Builtin, no_outputs, paths, range, all_inputs, halts, native, unknown, native_or_unknown, builtin_named, builtin_run}
use Rattle.jq_meaning.specs.Env.{Env, bound, value_of, function, label_of, Callee, found_function, found_closure, no_callee, is_named, find_callee, find_in_prelude, find_inputs, with_arguments}
use Rattle.jq_meaning.specs.Continuations.{text_item, broken, part_at, on_target, on_key, on_end, on_start, on_left, on_right, on_conjunct, on_disjunct, negated, on_test, on_error, on_inserted, on_back, on_entry, on_entry_key, on_own_key, on_part, on_part_key, on_named_part, on_source, in_bindings, on_state}
use Rattle.jq_meaning.specs.Meaning.{Means, meaning_with, below, meaning, called, arguments_with, pieces_with, entries_with, bindings_with, items_with, members_with}
use Rattle.jq_meaning.specs.Runs.{Item, plain, value_in, as_value, Run, none, one, then_run, bind, without_path, gathered, catch, alternative, labelled}
use Rattle.jq_meaning.specs.Steps.{each_part}
use Rattle.jq_folds.specs.laws.Reading.{with_inputs, IsFound, Hides, NoneReads}
use Rattle.jq_folds.proofs.Hiding.{find_value-same, find_level-same, callee_with, find_callee-same, find_in_prelude-same, with_arguments-same, hides-function, hides-arguments, silent-arguments, SilentCallee, find_callee-silent, find_in_prelude-silent}
use Rattle.jq_folds.proofs.Moved.{moved-items, moved-bind, same-bind, same-reduced, same-each, Kept, MovedEnvs}

-- ---- calls

not_native : (o : Option Native) → native_or_unknown o ≡ all_inputs → ⊥
not_native (Some f) p = cc
not_native None p = cc

-- only `inputs` gives the inputs
named-inputs : (n : Name) (c : ℕ) → builtin_named n c ≡ all_inputs → is_named n c inputs 0 ≡ true
named-inputs n c p =
    go (is_named n c (codes "empty") 0) (is_named n c (codes "path") 1) (is_named n c (codes "range") 2) (is_named n c (codes "range") 3) (is_named n c inputs 0)
    (is_named n c (codes "halt") 0) (is_named n c (codes "halt_error") 1) p
  where
    go : (a b d e f g h : Bool)
        → (if a then no_outputs else if b then paths else if d then range else if e then range else if f then all_inputs else if g then halts else if h then halts else native_or_unknown (native_named n c)) ≡ all_inputs
        → f ≡ true
    go true b d e f g h q = absurd (cc)
    go false true d e f g h q = absurd (cc)
    go false false true e f g h q = absurd (cc)
    go false false false true f g h q = absurd (cc)
    go false false false false true g h q = refl
    go false false false false false true h q = absurd (cc)
    go false false false false false false true q = absurd (cc)
    go false false false false false false false q = absurd (not_native (native_named n c) q)

counted : (a b d : Bool) (m : ℕ) → (a && b) ≡ true → d ≡ false → (if a && b && not d then 1 else 0) + m ≡ 0 → ⊥
counted true true false m p q z = omega (arith, z)
counted true true true m p q z = cc
counted true false d m p q z = cc
counted false b d m p q z = cc

-- a call that does not count as `inputs`, in bindings that hide what the scope hides
not-inputs : (s : Scope) (e : Env) (n : Name) (c : ℕ) (m : ℕ) → (if is_inputs s n c then 1 else 0) + m ≡ 0 → Hides s e → find_callee n c e ≡ no_callee → is_named n c inputs 0 ≡ true → ⊥
not-inputs s e n c m z h f p = go (is_bound (to_function inputs 0) s) refl
  where
    split : (b t : Bool) → bytes_eq n inputs ≡ b → nat_eq c 0 ≡ t → (b && t) ≡ true → (bytes_eq n inputs ≡ true) × (c ≡ 0)
    split true true x y q = (x, grind (arith, y))
    split true false x y q = absurd (cc)
    split false t x y q = absurd (cc)

    names : (bytes_eq n inputs ≡ true) × (c ≡ 0)
    names = split (bytes_eq n inputs) (nat_eq c 0) refl refl p

    none_found : find_callee inputs 0 e ≡ no_callee
    none_found = ap (λ (a : ℕ). find_callee inputs a e) (sym names.1) ∙ ap (λ (m : Name). find_callee m c e) (sym ((bytes_eq-Decides n inputs).0 names.0)) ∙ f

    go : (b : Bool) → is_bound (to_function inputs 0) s ≡ b → ⊥
    go true q = subst (λ g. IsFound g) none_found (h q)
    go false q = counted (bytes_eq n inputs) (nat_eq c 0) (is_bound (to_function inputs 0) s) m p q z

builtin-same : (b : Builtin) (a a' : Item → List (Run Item)) (i i' : Run Value) (x : Item) → (b ≡ all_inputs → ⊥) → a ≡ a' → builtin_run b a i x ≡ builtin_run b a' i' x
builtin-same no_outputs a a' i i' x h p = refl
builtin-same paths a a' i i' x h p = ap (λ (f : Item → List (Run Item)). builtin_run paths f i x) p
builtin-same range a a' i i' x h p = ap (λ (f : Item → List (Run Item)). builtin_run range f i x) p
builtin-same all_inputs a a' i i' x h p = absurd (h refl)
builtin-same halts a a' i i' x h p = ap (λ (f : Item → List (Run Item)). builtin_run halts f i x) p
builtin-same (native f) a a' i i' x h p = ap (λ (g : Item → List (Run Item)). builtin_run (native f) g i x) p
builtin-same unknown a a' i i' x h p = refl

-- ---- trees

-- what a filter means does not depend on the inputs, if it does not call `inputs`
abbrev pub Deaf : Run Value → Means → Means → Type 0
Deaf r m m' = (t : Tree) (s : Scope) (e : Env) (k : ℕ) (x : Item) → count s t ≡ 0 → Hides s e → NoneReads e → m t e k x ≡ m' t (with_inputs r e) k x

-- the bindings that a source and a pattern make
abbrev pub sources_with : Means → Tree → Pattern → Env → ℕ → Item → Run Env
sources_with deeper f p e k x = bind (meaning_with deeper f e k (as_value x)) (on_source (bindings_with deeper p k) e)

module _ (r : Run Value) (deeper : Means) (deaf : Deaf r deeper deeper) where
  called-same : (c : Callee) (ts : Trees) (s : Scope) (e : Env) (k : ℕ) (x : Item) (o o' : Run Item) → SilentCallee (trees_count ts) c → count_trees s ts ≡ 0 → Hides s e → NoneReads e → (c ≡ no_callee → o ≡ o')
      → called deeper c ts e k x o ≡ called deeper (callee_with r c) ts (with_inputs r e) k x o'
  called-same (found_function ps body own) ts s e k x o o' g c h l p =
      deaf body (with_parameters ps g.2) (with_arguments ps ts e own) k x g.3 (hides-arguments ps ts e own g.2 g.0 g.4) (silent-arguments ps ts e own s c h l g.1)
      ∙ ap (λ (q : Env). deeper body q k x) (with_arguments-same r ps ts e own)
  called-same (found_closure body own) ts s e k x o o' g c h l p = deaf body g.1 own k x g.2 g.3 g.0
  called-same no_callee ts s e k x o o' g c h l p = p refl

  moved-sources : (f : Tree) (p : Pattern) (s : Scope) (e : Env) (k : ℕ) (x : Item) → meaning_with deeper f e k (as_value x) ≡ meaning_with deeper f (with_inputs r e) k (as_value x)
      → ((y : Item) → MovedEnvs r s (bindings_with deeper p k e (value_in y)) (bindings_with deeper p k (with_inputs r e) (value_in y)))
      → MovedEnvs r s (sources_with deeper f p e k x) (sources_with deeper f p (with_inputs r e) k x)
  unfolding on_source
  moved-sources f p s e k x m h =
      moved-items (with_inputs r) (Kept s) (meaning_with deeper f e k (as_value x)) (meaning_with deeper f (with_inputs r e) k (as_value x)) (on_source (bindings_with deeper p k) e) (on_source (bindings_with deeper p k) (with_inputs r e)) m h

  mutual
    unfolding on_target on_key on_end on_start on_left on_right on_error in_bindings on_state on_source on_back on_inserted on_entry on_entry_key on_own_key on_part on_part_key on_named_part

    pub tree_same : (t : Tree) (s : Scope) (e : Env) (k : ℕ) (x : Item) → count s t ≡ 0 → Hides s e → NoneReads e → meaning_with deeper t e k x ≡ meaning_with deeper t (with_inputs r e) k x
    tree_same tree.identity s e k x c h l = refl
    tree_same tree.empty s e k x c h l = refl
    tree_same (tree.literal v) s e k x c h l = refl
    tree_same (tree.text format ps) s e k x c h l = λ i. without_path x (bind (pieces_same ps format s e k (as_value x) c h l i) text_item)
    tree_same (tree.format n) s e k x c h l = refl
    tree_same (tree.variable n) s e k x c h l = ap (λ (v : Value). without_path x (one (plain v))) (find_value-same r n e)
    tree_same (tree.field t key guarded) s e k x c h l = λ i. bind (tree_same t s e k x c h l i) (on_target guarded (string key))
    tree_same (tree.index t key guarded) s e k x c h l =
        let c1 : count s t ≡ 0 = omega (arith, c) in
        let c2 : count s key ≡ 0 = omega (arith, c) in
        λ i. bind (tree_same key s e k (as_value x) c2 h l i) (on_key guarded (tree_same t s e k x c1 h l i))
    tree_same (tree.slice t from to guarded) s e k x c h l =
        let c1 : count s t ≡ 0 = omega (arith, c) in
        let c2 : count s from ≡ 0 = omega (arith, c) in
        let c3 : count s to ≡ 0 = omega (arith, c) in
        λ i. bind (tree_same from s e k (as_value x) c2 h l i) (on_start guarded (tree_same to s e k (as_value x) c3 h l i) (tree_same t s e k x c1 h l i))
    tree_same (tree.iterate t guarded) s e k x c h l = λ i. bind (tree_same t s e k x c h l i) (each_part guarded)
    tree_same (tree.pipe f g) s e k x c h l =
        let c1 : count s f ≡ 0 = omega (arith, c) in
        let c2 : count s g ≡ 0 = omega (arith, c) in
        λ i. bind (tree_same f s e k x c1 h l i) (λ y. tree_same g s e k y c2 h l i)
    tree_same (tree.comma f g) s e k x c h l =
        let c1 : count s f ≡ 0 = omega (arith, c) in
        let c2 : count s g ≡ 0 = omega (arith, c) in
        λ i. then_run (tree_same f s e k x c1 h l i) (tree_same g s e k x c2 h l i)
    tree_same (tree.binary op f g) s e k x c h l =
        let c1 : count s f ≡ 0 = omega (arith, c) in
        let c2 : count s g ≡ 0 = omega (arith, c) in
        λ i. without_path x (bind (tree_same g s e k (as_value x) c2 h l i) (on_right op (tree_same f s e k (as_value x) c1 h l i)))
    tree_same (tree.conjunction f g) s e k x c h l =
        let c1 : count s f ≡ 0 = omega (arith, c) in
        let c2 : count s g ≡ 0 = omega (arith, c) in
        λ i. without_path x (bind (tree_same f s e k (as_value x) c1 h l i) (on_conjunct (λ y. tree_same g s e k y c2 h l i) (as_value x)))
    tree_same (tree.disjunction f g) s e k x c h l =
        let c1 : count s f ≡ 0 = omega (arith, c) in
        let c2 : count s g ≡ 0 = omega (arith, c) in
        λ i. without_path x (bind (tree_same f s e k (as_value x) c1 h l i) (on_disjunct (λ y. tree_same g s e k y c2 h l i) (as_value x)))
    tree_same (tree.alternative f g) s e k x c h l =
        let c1 : count s f ≡ 0 = omega (arith, c) in
        let c2 : count s g ≡ 0 = omega (arith, c) in
        λ i. alternative (tree_same f s e k x c1 h l i) (λ y. tree_same g s e k y c2 h l i) x
    tree_same (tree.negation f) s e k x c h l = λ i. without_path x (bind (tree_same f s e k (as_value x) c h l i) negated)
    tree_same (tree.array f) s e k x c h l = λ i. without_path x (gathered (tree_same f s e k (as_value x) c h l i))
    tree_same (tree.object es) s e k x c h l = λ i. without_path x (entries_same es s e k (value_in x) no_members c h l i)
    tree_same (tree.choice f g t) s e k x c h l =
        let c1 : count s f ≡ 0 = omega (arith, c) in
        let c2 : count s g ≡ 0 = omega (arith, c) in
        let c3 : count s t ≡ 0 = omega (arith, c) in
        λ i. bind (tree_same f s e k (as_value x) c1 h l i) (on_test (λ y. tree_same g s e k y c2 h l i) (λ y. tree_same t s e k y c3 h l i) x)
    tree_same (tree.try_catch f g) s e k x c h l =
        let c1 : count s f ≡ 0 = omega (arith, c) in
        let c2 : count s g ≡ 0 = omega (arith, c) in
        λ i. catch (tree_same f s e k x c1 h l i) (on_error (λ y. tree_same g s e k y c2 h l i) x)
    tree_same (tree.label n f) s e k x c h l = λ i. labelled k (tree_same f s (bound (label_of n k) e) (suc k) x c h l i)
    tree_same (tree.break n) s e k x c h l = ap broken (find_level-same r n e)
    tree_same (tree.bind_as f p g) s e k x c h l =
        let c1 : count s f ≡ 0 = omega (arith, c) in
        let c2 : count_pattern s p ≡ 0 = omega (arith, c) in
        let c3 : count s g ≡ 0 = omega (arith, c) in
        same-bind (with_inputs r) (Kept s) (sources_with deeper f p e k x) (sources_with deeper f p (with_inputs r e) k x) (in_bindings (meaning_with deeper g) k x) (in_bindings (meaning_with deeper g) k x)
        (moved-sources f p s e k x (tree_same f s e k (as_value x) c1 h l) (λ y. bindings_same p s e k (value_in y) c2 h l)) (λ d m. tree_same g s d k x c3 m.0 m.1)
    tree_same (tree.reduce f p start update) s e k x c h l =
        let c1 : count s f ≡ 0 = omega (arith, c) in
        let c2 : count_pattern s p ≡ 0 = omega (arith, c) in
        let c3 : count s start ≡ 0 = omega (arith, c) in
        let c4 : count s update ≡ 0 = omega (arith, c) in
        let u = on_state (meaning_with deeper update) k in
        λ i. bind (tree_same start s e k x c3 h l i)
        (λ y. same-reduced (with_inputs r) (Kept s) (sources_with deeper f p e k x) (sources_with deeper f p (with_inputs r e) k x) u u (moved-sources f p s e k x (tree_same f s e k (as_value x) c1 h l) (λ y. bindings_same p s e k (value_in y) c2 h l)) (λ d m z. tree_same update s d k z c4 m.0 m.1) y i)
    tree_same (tree.foreach f p start update extract) s e k x c h l =
        let c1 : count s f ≡ 0 = omega (arith, c) in
        let c2 : count_pattern s p ≡ 0 = omega (arith, c) in
        let c3 : count s start ≡ 0 = omega (arith, c) in
        let c4 : count s update ≡ 0 = omega (arith, c) in
        let c5 : count s extract ≡ 0 = omega (arith, c) in
        let u = on_state (meaning_with deeper update) k in
        let t = on_state (meaning_with deeper extract) k in
        λ i. bind (tree_same start s e k x c3 h l i)
        (λ y. same-each (with_inputs r) (Kept s) (sources_with deeper f p e k x) (sources_with deeper f p (with_inputs r e) k x) u t u t (moved-sources f p s e k x (tree_same f s e k (as_value x) c1 h l) (λ y. bindings_same p s e k (value_in y) c2 h l)) (λ d m z. tree_same update s d k z c4 m.0 m.1) (λ d m z. tree_same extract s d k z c5 m.0 m.1) y i)
    tree_same (tree.define n ps f g) s e k x c h l =
        let c1 : count (with_parameters ps (to_function n (length ps) ∷ s)) f ≡ 0 = omega (arith, c) in
        let c2 : count (to_function n (length ps) ∷ s) g ≡ 0 = omega (arith, c) in
        tree_same g (to_function n (length ps) ∷ s) (bound (function n ps f) e) k x c2 (hides-function n ps f s e h) (l, s, c1, h)
    tree_same (tree.call n ts) s e k x c h l =
        let a = trees_count ts in
        let c1 : count_trees s ts ≡ 0 = omega (arith, c) in
        let b = builtin_named n a in
        let o = builtin_run b (arguments_with deeper ts e k) (find_inputs e) x in
        let o' = builtin_run b (arguments_with deeper ts (with_inputs r e) k) (find_inputs (with_inputs r e)) x in
        called-same (find_callee n a e) ts s e k x o o' (find_callee-silent n a e l) c1 h l
        (λ f. builtin-same b (arguments_with deeper ts e k) (arguments_with deeper ts (with_inputs r e) k) (find_inputs e) (find_inputs (with_inputs r e)) x
        (λ p. not-inputs s e n a (count_trees s ts) c h f (named-inputs n a p)) (λ i y. arguments_same ts s e k y c1 h l i))
        ∙ ap (λ (q : Callee). called deeper q ts (with_inputs r e) k x o') (find_callee-same r n a e)
    tree_same (tree.prelude_call n ts) s e k x c h l =
        let a = trees_count ts in
        called-same (find_in_prelude n a e) ts s e k x none none (find_in_prelude-silent n a e l) c h l (λ f. refl)
        ∙ ap (λ (q : Callee). called deeper q ts (with_inputs r e) k x none) (find_in_prelude-same r n a e)

    arguments_same : (ts : Trees) (s : Scope) (e : Env) (k : ℕ) (x : Item) → count_trees s ts ≡ 0 → Hides s e → NoneReads e → arguments_with deeper ts e k x ≡ arguments_with deeper ts (with_inputs r e) k x
    arguments_same no_trees s e k x c h l = refl
    arguments_same (more_trees t ts) s e k x c h l =
        let c1 : count s t ≡ 0 = omega (arith, c) in
        let c2 : count_trees s ts ≡ 0 = omega (arith, c) in
        λ i. tree_same t s e k x c1 h l i ∷ arguments_same ts s e k x c2 h l i

    pieces_same : (ps : Pieces) (format : Name) (s : Scope) (e : Env) (k : ℕ) (x : Item) → count_pieces s ps ≡ 0 → Hides s e → NoneReads e → pieces_with deeper ps format e k x ≡ pieces_with deeper ps format (with_inputs r e) k x
    pieces_same (tree.last_piece cs) format s e k x c h l = refl
    pieces_same (tree.more_pieces cs f ps) format s e k x c h l =
        let c1 : count s f ≡ 0 = omega (arith, c) in
        let c2 : count_pieces s ps ≡ 0 = omega (arith, c) in
        λ i. bind (pieces_same ps format s e k x c2 h l i) (on_back format cs (tree_same f s e k x c1 h l i))

    entries_same : (es : Entries) (s : Scope) (e : Env) (k : ℕ) (v : Value) (made : Members) → count_entries s es ≡ 0 → Hides s e → NoneReads e → entries_with deeper es e k v made ≡ entries_with deeper es (with_inputs r e) k v made
    entries_same tree.no_entries s e k v made c h l = refl
    entries_same (tree.more_entries (tree.named key f) es) s e k v made c h l =
        let c1 : count s f ≡ 0 = omega (arith, c) in
        let c2 : count_entries s es ≡ 0 = omega (arith, c) in
        λ i. bind (tree_same f s e k (plain v) c1 h l i) (on_entry (λ ms. entries_same es s e k v ms c2 h l i) made key)
    entries_same (tree.more_entries (tree.computed key f) es) s e k v made c h l =
        let c1 : count s key ≡ 0 = omega (arith, c) in
        let c2 : count s f ≡ 0 = omega (arith, c) in
        let c3 : count_entries s es ≡ 0 = omega (arith, c) in
        λ i. bind (tree_same key s e k (plain v) c1 h l i) (on_entry_key (tree_same f s e k (plain v) c2 h l i) (λ ms. entries_same es s e k v ms c3 h l i) made)
    entries_same (tree.more_entries (tree.own key) es) s e k v made c h l =
        let c1 : count s key ≡ 0 = omega (arith, c) in
        let c2 : count_entries s es ≡ 0 = omega (arith, c) in
        λ i. bind (tree_same key s e k (plain v) c1 h l i) (on_own_key v (λ ms. entries_same es s e k v ms c2 h l i) made)

    pub bindings_same : (p : Pattern) (s : Scope) (e : Env) (k : ℕ) (v : Value) → count_pattern s p ≡ 0 → Hides s e → NoneReads e → MovedEnvs r s (bindings_with deeper p k e v) (bindings_with deeper p k (with_inputs r e) v)
    bindings_same (tree.whole n) s e k v c h l = record { same = refl; each = ((h, l), tt) }
    bindings_same (tree.items ps) s e k v c h l = items_same ps 0 s e k v c h l
    bindings_same (tree.members ps) s e k v c h l = members_same ps s e k v c h l

    items_same : (ps : Patterns) (j : ℕ) (s : Scope) (e : Env) (k : ℕ) (v : Value) → count_patterns s ps ≡ 0 → Hides s e → NoneReads e → MovedEnvs r s (items_with deeper ps j k v e) (items_with deeper ps j k v (with_inputs r e))
    items_same tree.no_patterns j s e k v c h l = record { same = refl; each = ((h, l), tt) }
    items_same (tree.more_patterns p ps) j s e k v c h l =
        let c1 : count_pattern s p ≡ 0 = omega (arith, c) in
        let c2 : count_patterns s ps ≡ 0 = omega (arith, c) in
        let a = part_at v (number (pos j)) in
        let later = items_with deeper ps (suc j) k v in
        moved-items (with_inputs r) (Kept s) a a (on_part (bindings_with deeper p k) e later) (on_part (bindings_with deeper p k) (with_inputs r e) later) refl
        (λ y. moved-bind (with_inputs r) (Kept s) (bindings_with deeper p k e (value_in y)) (bindings_with deeper p k (with_inputs r e) (value_in y)) later later (bindings_same p s e k (value_in y) c1 h l)
        (λ d m. items_same ps (suc j) s d k v c2 m.0 m.1))

    members_same : (ps : Parts) (s : Scope) (e : Env) (k : ℕ) (v : Value) → count_parts s ps ≡ 0 → Hides s e → NoneReads e → MovedEnvs r s (members_with deeper ps k v e) (members_with deeper ps k v (with_inputs r e))
    members_same tree.no_parts s e k v c h l = record { same = refl; each = ((h, l), tt) }
    members_same (tree.more_parts (tree.keyed key p) ps) s e k v c h l =
        let c1 : count s key ≡ 0 = omega (arith, c) in
        let c2 : count_pattern s p ≡ 0 = omega (arith, c) in
        let c3 : count_parts s ps ≡ 0 = omega (arith, c) in
        let later = members_with deeper ps k v in
        moved-items (with_inputs r) (Kept s) (meaning_with deeper key e k (plain v)) (meaning_with deeper key (with_inputs r e) k (plain v))
        (on_part_key v (bindings_with deeper p k) e later) (on_part_key v (bindings_with deeper p k) (with_inputs r e) later) (tree_same key s e k (plain v) c1 h l)
        (λ name. let a = part_at v (value_in name) in
        moved-items (with_inputs r) (Kept s) a a (on_part (bindings_with deeper p k) e later) (on_part (bindings_with deeper p k) (with_inputs r e) later) refl
        (λ y. moved-bind (with_inputs r) (Kept s) (bindings_with deeper p k e (value_in y)) (bindings_with deeper p k (with_inputs r e) (value_in y)) later later (bindings_same p s e k (value_in y) c2 h l)
        (λ d m. members_same ps s d k v c3 m.0 m.1)))
    members_same (tree.more_parts (tree.keyed_variable n p) ps) s e k v c h l =
        let c1 : count_pattern s p ≡ 0 = omega (arith, c) in
        let c2 : count_parts s ps ≡ 0 = omega (arith, c) in
        let a = part_at v (string n) in
        let later = members_with deeper ps k v in
        moved-items (with_inputs r) (Kept s) a a (on_named_part n (bindings_with deeper p k) e later) (on_named_part n (bindings_with deeper p k) (with_inputs r e) later) refl
        (λ y. moved-bind (with_inputs r) (Kept s) (bindings_with deeper p k (bound (value_of n (value_in y)) e) (value_in y)) (bindings_with deeper p k (with_inputs r (bound (value_of n (value_in y)) e)) (value_in y)) later later
        (bindings_same p s (bound (value_of n (value_in y)) e) k (value_in y) c1 h l)
        (λ d m. members_same ps s d k v c2 m.0 m.1))

pub below_same : (r : Run Value) (depth : ℕ) → Deaf r (below depth) (below depth)
below_same r zero = λ t s e k x c h l. refl
below_same r (suc depth) = λ t s e k x c h l. tree_same r (below depth) (below_same r depth) t s e k x c h l

pub meaning_same : (r : Run Value) (depth : ℕ) → Deaf r (meaning depth) (meaning depth)
meaning_same r depth t s e k x c h l = tree_same r (below depth) (below_same r depth) t s e k x c h l
