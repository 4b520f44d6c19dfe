-- From the parts of a tree to the whole, for forms with names and binders.
use Rattle.std.proofs.Common.{◌≡◌, ◌∙◌, ◌+◌, ◌-◌, suc, List, [], ◌∷◌, length, map, drop, Vec, String, Global, Box, ap, sym, refl, subst}
use Rattle.std.proofs.lemmas.List.{length-map}
use Rattle.jv_data.specs.Text.{text_of}
use Rattle.jq_tree.specs.Tree as tree
use Rattle.jq_tree.specs.BoundTree as form
use Rattle.jq_tree.specs.Binders.{binder, prelude_binder, bound_in, trees_in, pattern_in, part_in}
use Rattle.jq_tree.specs.Names.{Scope, to_function, to_label, to_format, with_parameters, with_pattern, with_part}
use Rattle.jq_ast.specs.Named.{named, named_as_pattern, name_of, pieces_of, named_piece}
use Rattle.jq_ast.specs.Bound.{bound, bound_pieces, bound_trees, variables_in, format_at, function_at}
use Rattle.jq_resolver.specs.private.BoundParts.{bound_as_pattern}
use Rattle.jq_ast.specs.Leaves.{key_of}
use Rattle.jq_ast.specs.declared.leaves.Key.{Key}
use Rattle.jq_ast.specs.declared.names.Modify.{Modify}
use Rattle.jq_ast.specs.declared.names.Name.{Name}
use Rattle.jq_ast.specs.declared.tree.Entry.{Entry}
use Rattle.jq_ast.specs.declared.tree.Entry.TheVariants as entry
use Rattle.jq_ast.specs.declared.tree.Piece.{Piece}
use Rattle.jq_ast.specs.declared.tree.Function.{Function}
use Rattle.jq_ast.specs.declared.tree.Member.{Member}
use Rattle.jq_ast.specs.declared.tree.Member.TheVariants as member
use Rattle.jq_ast.specs.declared.tree.Pattern.{Pattern}
use Rattle.jq_ast.specs.declared.tree.Pattern.TheVariants as pattern
use Rattle.jq_ast.specs.declared.tree.Tree.{Tree}
use Rattle.jq_ast.specs.declared.tree.Tree.TheVariants as code
use Rattle.jq_ast.proofs.shared.Forms as ast
use Rattle.jq_resolver.proofs.Levels as level
use Rattle.jq_resolver.proofs.Levels.{bound_piece}
use Rattle.jq_resolver.proofs.Lists.{AreResolved, trees_resolved, ArePiecesResolved, pieces_resolved, AreEntriesResolved, entries_resolved, ArePatternsResolved, patterns_resolved, ArePartsResolved, parts_resolved}
use Rattle.jq_resolver.proofs.Scopes.{pattern_grows, parameters_grow, grown_length, left, left_one}
use Rattle.jq_resolver.specs.private.Resolved.{Chain, IsResolved, IsPieceResolved, IsEntryResolved, IsPatternResolved, IsPartResolved, IsDefinitionResolved, with_function, in_function}

pub in_Text : (s t : Scope) (f f' : Name) (ps ps' : Vec (Piece Tree) Global) (last : String Global) → name_of f' ≡ name_of f → format_at f' (length s) ≡ binder s (to_format (name_of f))
    → Chain IsPieceResolved s t ps.items ps'.items → IsResolved s t (code.Text f ps last) (code.Text f' ps' last)
in_Text s t f f' ps ps' last e b c =
    let r : ArePiecesResolved s t ps.items ps'.items last = pieces_resolved s t ps.items ps'.items last c in
    record {
      same = r.same;
      names = ast.named-Text f' ps' last ∙ ap (λ z. tree.text z (pieces_of (map named_piece ps'.items) last)) e ∙ ap (λ zs. tree.text (name_of f) zs) r.names ∙ sym (ast.named-Text f ps last);
      binders = level.bound-Text f' ps' last (length s) ∙ ap (λ z. form.text z (format_at f' (length s)) (bound_pieces (map bound_piece ps'.items) last (length s))) e
          ∙ ap (λ z. form.text (name_of f) z (bound_pieces (map bound_piece ps'.items) last (length s))) b ∙ ap (λ zs. form.text (name_of f) (binder s (to_format (name_of f))) zs) r.binders
          ∙ ap (bound_in s) (sym (ast.named-Text f ps last));
    }

pub in_Object : (s t : Scope) (es es' : Vec (Entry Tree) Global) → Chain IsEntryResolved s t es.items es'.items → IsResolved s t (code.Object es) (code.Object es')
in_Object s t es es' c =
    let r : AreEntriesResolved s t es.items es'.items = entries_resolved s t es.items es'.items c in
    record {
      same = r.same;
      names = ast.named-Object es' ∙ ap (λ zs. tree.object (tree.entries_of zs)) r.names ∙ sym (ast.named-Object es);
      binders = level.bound-Object es' (length s) ∙ ap form.object r.binders ∙ ap (bound_in s) (sym (ast.named-Object es));
    }

-- ---- calls

same_count : (ts ts' : List Tree) → map named ts' ≡ map named ts → length ts' ≡ length ts
same_count ts ts' e = sym (length-map ts' named) ∙ ap length e ∙ length-map ts named

count_of : (ts : List Tree) → tree.trees_count (tree.trees_of (map named ts)) ≡ length ts
count_of [] = refl
count_of (t ∷ ts) = ap suc (count_of ts)

pub in_Call : (s t : Scope) (x x' : Name) (ts ts' : Vec Tree Global) → name_of x' ≡ name_of x → function_at x' (length ts.items) (length s) ≡ binder s (to_function (name_of x) (length ts.items))
    → Chain IsResolved s t ts.items ts'.items → IsResolved s t (code.Call x ts) (code.Call x' ts')
in_Call s t x x' ts ts' e b c =
    let r : AreResolved s t ts.items ts'.items = trees_resolved s t ts.items ts'.items c in
    let n = length s in
    record {
      same = r.same;
      names = ast.named-Call x' ts' ∙ ap (λ z. tree.call z (tree.trees_of (map named ts'.items))) e ∙ ap (λ zs. tree.call (name_of x) (tree.trees_of zs)) r.names ∙ sym (ast.named-Call x ts);
      binders = level.bound-Call x' ts' n ∙ ap (λ z. form.call z (function_at x' (length ts'.items) n) (bound_trees (map bound ts'.items) n)) e
          ∙ ap (λ k. form.call (name_of x) (function_at x' k n) (bound_trees (map bound ts'.items) n)) (same_count ts.items ts'.items r.names)
          ∙ ap (λ z. form.call (name_of x) z (bound_trees (map bound ts'.items) n)) b ∙ ap (λ zs. form.call (name_of x) (binder s (to_function (name_of x) (length ts.items))) zs) r.binders
          ∙ ap (λ k. form.call (name_of x) (binder s (to_function (name_of x) k)) (trees_in s (tree.trees_of (map named ts.items)))) (sym (count_of ts.items))
          ∙ ap (bound_in s) (sym (ast.named-Call x ts));
    }

pub in_PreludeCall : (s t : Scope) (x x' : Name) (ts ts' : Vec Tree Global) → name_of x' ≡ name_of x → function_at x' (length ts.items) (length s) ≡ prelude_binder s (to_function (name_of x) (length ts.items))
    → Chain IsResolved s t ts.items ts'.items → IsResolved s t (code.PreludeCall x ts) (code.PreludeCall x' ts')
in_PreludeCall s t x x' ts ts' e b c =
    let r : AreResolved s t ts.items ts'.items = trees_resolved s t ts.items ts'.items c in
    let n = length s in
    record {
      same = r.same;
      names = ast.named-PreludeCall x' ts' ∙ ap (λ z. tree.prelude_call z (tree.trees_of (map named ts'.items))) e ∙ ap (λ zs. tree.prelude_call (name_of x) (tree.trees_of zs)) r.names ∙ sym (ast.named-PreludeCall x ts);
      binders = level.bound-PreludeCall x' ts' n ∙ ap (λ z. form.prelude_call z (function_at x' (length ts'.items) n) (bound_trees (map bound ts'.items) n)) e
          ∙ ap (λ k. form.prelude_call (name_of x) (function_at x' k n) (bound_trees (map bound ts'.items) n)) (same_count ts.items ts'.items r.names)
          ∙ ap (λ z. form.prelude_call (name_of x) z (bound_trees (map bound ts'.items) n)) b ∙ ap (λ zs. form.prelude_call (name_of x) (prelude_binder s (to_function (name_of x) (length ts.items))) zs) r.binders
          ∙ ap (λ k. form.prelude_call (name_of x) (prelude_binder s (to_function (name_of x) k)) (trees_in s (tree.trees_of (map named ts.items)))) (sym (count_of ts.items))
          ∙ ap (bound_in s) (sym (ast.named-PreludeCall x ts));
    }

pub in_Update : (s t : Scope) (m m' : Modify) (ts ts' : Box (List Tree) Global) → name_of m'.name ≡ name_of m.name
    → function_at m'.name (length ts.value) (length s) ≡ prelude_binder s (to_function (name_of m.name) (length ts.value)) → Chain IsResolved s t ts.value ts'.value
    → IsResolved s t (code.Update m ts) (code.Update m' ts')
in_Update s t m m' ts ts' e b c =
    let r : AreResolved s t ts.value ts'.value = trees_resolved s t ts.value ts'.value c in
    let n = length s in
    let x = m.name in
    let x' = m'.name in
    record {
      same = r.same;
      names = ast.named-Update m' ts' ∙ ap (λ z. tree.prelude_call z (tree.trees_of (map named ts'.value))) e ∙ ap (λ zs. tree.prelude_call (name_of x) (tree.trees_of zs)) r.names ∙ sym (ast.named-Update m ts);
      binders = level.bound-Update m' ts' n ∙ ap (λ z. form.prelude_call z (function_at x' (length ts'.value) n) (bound_trees (map bound ts'.value) n)) e
          ∙ ap (λ k. form.prelude_call (name_of x) (function_at x' k n) (bound_trees (map bound ts'.value) n)) (same_count ts.value ts'.value r.names)
          ∙ ap (λ z. form.prelude_call (name_of x) z (bound_trees (map bound ts'.value) n)) b ∙ ap (λ zs. form.prelude_call (name_of x) (prelude_binder s (to_function (name_of x) (length ts.value))) zs) r.binders
          ∙ ap (λ k. form.prelude_call (name_of x) (prelude_binder s (to_function (name_of x) k)) (trees_in s (tree.trees_of (map named ts.value)))) (sym (count_of ts.value))
          ∙ ap (bound_in s) (sym (ast.named-Update m ts));
    }

-- ---- binders: a scope is entered and left again

pub in_Label : (s s' t u : Scope) (x : String Global) (f g : Box Tree Global) → s' ≡ to_label (text_of x) ∷ s → IsResolved s' t f.value g.value → u ≡ drop (length t - length s) t
    → IsResolved s u (code.Label x f) (code.Label x g)
in_Label s s' t u x f g e r d =
    let q : IsResolved (to_label (text_of x) ∷ s) t f.value g.value = subst (λ v. IsResolved v t f.value g.value) e r in
    record {
      same = d ∙ ap (λ v. drop (length v - length s) v) q.same ∙ left_one s (to_label (text_of x));
      names = ast.named-Label x g ∙ ap (λ z. tree.label (text_of x) z) q.names ∙ sym (ast.named-Label x f);
      binders = level.bound-Label x g (length s) ∙ ap (λ z. form.label (text_of x) z) q.binders ∙ ap (bound_in s) (sym (ast.named-Label x f));
    }

-- a tree that sees the variables of a pattern
seen : (s t u : Scope) (p q : Pattern) (f g : Tree) → IsPatternResolved s t p q → IsResolved t u f g
    → bound g (length s + variables_in (bound_as_pattern q (length s))) ≡ bound_in (with_pattern (named_as_pattern p) s) (named f)
seen s t u p q f g a r =
    let b : IsResolved (with_pattern (named_as_pattern p) s) u f g = subst (λ v. IsResolved v u f g) a.same r in
    ap (λ z. bound g (length s + variables_in z)) a.binders ∙ ap (bound g) (sym (grown_length s (with_pattern (named_as_pattern p) s) _ (pattern_grows (named_as_pattern p) s))) ∙ b.binders

left_pattern : (s t u : Scope) (p : tree.Pattern) → t ≡ with_pattern p s → u ≡ drop (length t - length s) t → u ≡ s
left_pattern s t u p e d = d ∙ ap (λ v. drop (length v - length s) v) e ∙ left s (with_pattern p s) _ (pattern_grows p s)

pub in_BindAs : (s t1 t2 t3 u : Scope) (f f' : Box Tree Global) (p p' : Box Pattern Global) (g g' : Box Tree Global) → IsResolved s t1 f.value f'.value → IsPatternResolved t1 t2 p.value p'.value
    → IsResolved t2 t3 g.value g'.value → u ≡ drop (length t3 - length t1) t3 → IsResolved s u (code.BindAs f p g) (code.BindAs f' p' g')
in_BindAs s t1 t2 t3 u f f' p p' g g' r a0 q d =
    let a : IsPatternResolved s t2 p.value p'.value = subst (λ v. IsPatternResolved v t2 p.value p'.value) r.same a0 in
    let n = length s in
    let P = named_as_pattern p.value in
    record {
      same = left_pattern s t3 u P (q.same ∙ a.same) (d ∙ ap (λ v. drop (length t3 - length v) t3) r.same);
      names = ast.named-BindAs f' p' g' ∙ ap (λ z. tree.bind_as z (named_as_pattern p'.value) (named g'.value)) r.names ∙ ap (λ z. tree.bind_as (named f.value) z (named g'.value)) a.names
          ∙ ap (λ z. tree.bind_as (named f.value) P z) q.names ∙ sym (ast.named-BindAs f p g);
      binders = level.bound-BindAs f' p' g' n ∙ ap (λ z. form.bind_as z (bound_as_pattern p'.value n) (bound g'.value (n + variables_in (bound_as_pattern p'.value n)))) r.binders
          ∙ ap (λ z. form.bind_as (bound_in s (named f.value)) (bound_as_pattern p'.value n) z) (seen s t2 t3 p.value p'.value g.value g'.value a q)
          ∙ ap (λ z. form.bind_as (bound_in s (named f.value)) z (bound_in (with_pattern P s) (named g.value))) a.binders
          ∙ ap (bound_in s) (sym (ast.named-BindAs f p g));
    }

pub in_Reduce : (s t v w u : Scope) (f f' : Box Tree Global) (p p' : Box Pattern Global) (g g' h h' : Box Tree Global) → IsResolved s t f.value f'.value → IsResolved s t g.value g'.value
    → IsPatternResolved t v p.value p'.value → IsResolved v w h.value h'.value → u ≡ drop (length w - length t) w → IsResolved s u (code.Reduce f p g h) (code.Reduce f' p' g' h')
in_Reduce s t v w u f f' p p' g g' h h' r r1 a0 q d =
    let a : IsPatternResolved s v p.value p'.value = subst (λ z. IsPatternResolved z v p.value p'.value) r.same a0 in
    let n = length s in
    let P = named_as_pattern p.value in
    record {
      same = left_pattern s w u P (q.same ∙ a.same) (d ∙ ap (λ z. drop (length w - length z) w) r.same);
      names = ast.named-Reduce f' p' g' h' ∙ ap (λ z. tree.reduce z (named_as_pattern p'.value) (named g'.value) (named h'.value)) r.names ∙ ap (λ z. tree.reduce (named f.value) z (named g'.value) (named h'.value)) a.names
          ∙ ap (λ z. tree.reduce (named f.value) P z (named h'.value)) r1.names ∙ ap (λ z. tree.reduce (named f.value) P (named g.value) z) q.names ∙ sym (ast.named-Reduce f p g h);
      binders = level.bound-Reduce f' p' g' h' n ∙ ap (λ z. form.reduce z (bound_as_pattern p'.value n) (bound g'.value n) (bound h'.value (n + variables_in (bound_as_pattern p'.value n)))) r.binders
          ∙ ap (λ z. form.reduce (bound_in s (named f.value)) (bound_as_pattern p'.value n) (bound g'.value n) z) (seen s v w p.value p'.value h.value h'.value a q)
          ∙ ap (λ z. form.reduce (bound_in s (named f.value)) z (bound g'.value n) (bound_in (with_pattern P s) (named h.value))) a.binders
          ∙ ap (λ z. form.reduce (bound_in s (named f.value)) (pattern_in s P) z (bound_in (with_pattern P s) (named h.value))) r1.binders
          ∙ ap (bound_in s) (sym (ast.named-Reduce f p g h));
    }

pub in_Foreach : (s t v w u : Scope) (f f' : Box Tree Global) (p p' : Box Pattern Global) (g g' h h' i i' : Box Tree Global) → IsResolved s t f.value f'.value → IsResolved s t g.value g'.value
    → IsPatternResolved t v p.value p'.value → IsResolved v w h.value h'.value → IsResolved v w i.value i'.value → u ≡ drop (length w - length t) w → IsResolved s u (code.Foreach f p g h i) (code.Foreach f' p' g' h' i')
in_Foreach s t v w u f f' p p' g g' h h' i i' r r1 a0 q o d =
    let a : IsPatternResolved s v p.value p'.value = subst (λ z. IsPatternResolved z v p.value p'.value) r.same a0 in
    let n = length s in
    let P = named_as_pattern p.value in
    record {
      same = left_pattern s w u P (q.same ∙ a.same) (d ∙ ap (λ z. drop (length w - length z) w) r.same);
      names = ast.named-Foreach f' p' g' h' i' ∙ ap (λ z. tree.foreach z (named_as_pattern p'.value) (named g'.value) (named h'.value) (named i'.value)) r.names
          ∙ ap (λ z. tree.foreach (named f.value) z (named g'.value) (named h'.value) (named i'.value)) a.names ∙ ap (λ z. tree.foreach (named f.value) P z (named h'.value) (named i'.value)) r1.names
          ∙ ap (λ z. tree.foreach (named f.value) P (named g.value) z (named i'.value)) q.names ∙ ap (λ z. tree.foreach (named f.value) P (named g.value) (named h.value) z) o.names ∙ sym (ast.named-Foreach f p g h i);
      binders = level.bound-Foreach f' p' g' h' i' n
          ∙ ap (λ z. form.foreach z (bound_as_pattern p'.value n) (bound g'.value n) (bound h'.value (n + variables_in (bound_as_pattern p'.value n))) (bound i'.value (n + variables_in (bound_as_pattern p'.value n)))) r.binders
          ∙ ap (λ z. form.foreach (bound_in s (named f.value)) (bound_as_pattern p'.value n) (bound g'.value n) z (bound i'.value (n + variables_in (bound_as_pattern p'.value n)))) (seen s v w p.value p'.value h.value h'.value a q)
          ∙ ap (λ z. form.foreach (bound_in s (named f.value)) (bound_as_pattern p'.value n) (bound g'.value n) (bound_in (with_pattern P s) (named h.value)) z) (seen s v w p.value p'.value i.value i'.value a o)
          ∙ ap (λ z. form.foreach (bound_in s (named f.value)) z (bound g'.value n) (bound_in (with_pattern P s) (named h.value)) (bound_in (with_pattern P s) (named i.value))) a.binders
          ∙ ap (λ z. form.foreach (bound_in s (named f.value)) (pattern_in s P) z (bound_in (with_pattern P s) (named h.value)) (bound_in (with_pattern P s) (named i.value))) r1.binders
          ∙ ap (bound_in s) (sym (ast.named-Foreach f p g h i));
    }

-- ---- definitions

-- how many binders the body of a function sees
pub around_body : (f : Function Tree) (s : Scope) → length (in_function f s) ≡ suc (length s) + length f.parameters.items
around_body f s =
    grown_length (with_function f s) (in_function f s) _ (parameters_grow (map text_of f.parameters.items) (with_function f s)) ∙ ap (λ k. suc (length s) + k) (length-map f.parameters.items text_of)

pub same_parameters : (f g : Function Tree) → map text_of g.parameters.items ≡ map text_of f.parameters.items → length g.parameters.items ≡ length f.parameters.items
same_parameters f g e = sym (length-map g.parameters.items text_of) ∙ ap length e ∙ length-map f.parameters.items text_of

pub body_bound : (s t : Scope) (f g : Function Tree) → IsDefinitionResolved s t f g → bound g.body (suc (length s) + length g.parameters.items) ≡ bound_in (in_function f s) (named f.body)
body_bound s t f g r = ap (λ k. bound g.body (suc (length s) + k)) (same_parameters f g r.parameters) ∙ ap (bound g.body) (sym (around_body f s)) ∙ r.body.binders

pub in_Define : (s t1 t2 u : Scope) (f f' : Box (Function Tree) Global) (g g' : Box Tree Global) → IsDefinitionResolved s t1 f.value f'.value → IsResolved t1 t2 g.value g'.value
    → u ≡ drop (length t2 - length s) t2 → IsResolved s u (code.Define f g) (code.Define f' g')
in_Define s t1 t2 u f f' g g' r q0 d =
    let own = with_function f.value s in
    let q : IsResolved own t2 g.value g'.value = subst (λ v. IsResolved v t2 g.value g'.value) r.same q0 in
    let n = length s in
    let name = text_of f.value.name in
    let ps = map text_of f.value.parameters.items in
    let body' = bound f'.value.body (suc n + length f'.value.parameters.items) in
    record {
      same = d ∙ ap (λ v. drop (length v - length s) v) q.same ∙ left_one s (to_function name (length ps));
      names = ast.named-Define f' g' ∙ ap (λ z. tree.define z (map text_of f'.value.parameters.items) (named f'.value.body) (named g'.value)) r.own_name
          ∙ ap (λ z. tree.define name z (named f'.value.body) (named g'.value)) r.parameters ∙ ap (λ z. tree.define name ps z (named g'.value)) r.body.names ∙ ap (λ z. tree.define name ps (named f.value.body) z) q.names
          ∙ sym (ast.named-Define f g);
      binders = level.bound-Define f' g' n ∙ ap (λ z. form.define z (map text_of f'.value.parameters.items) body' (bound g'.value (suc n))) r.own_name
          ∙ ap (λ z. form.define name z body' (bound g'.value (suc n))) r.parameters ∙ ap (λ z. form.define name ps z (bound g'.value (suc n))) (body_bound s t1 f.value f'.value r)
          ∙ ap (λ z. form.define name ps (bound_in (in_function f.value s) (named f.value.body)) z) q.binders ∙ ap (bound_in s) (sym (ast.named-Define f g));
    }

pub definition_resolved : (s s1 s2 t u : Scope) (f g : Function Tree) → s1 ≡ to_function (text_of f.name) (length f.parameters.items) ∷ s → s2 ≡ with_parameters (map text_of f.parameters.items) s1
    → IsResolved s2 t f.body g.body → u ≡ drop (length t - length s1) t → text_of g.name ≡ text_of f.name → map text_of g.parameters.items ≡ map text_of f.parameters.items → IsDefinitionResolved s u f g
definition_resolved s s1 s2 t u f g e1 e2 r d name ps =
    let own : s1 ≡ with_function f s = e1 ∙ ap (λ k. to_function (text_of f.name) k ∷ s) (sym (length-map f.parameters.items text_of)) in
    let inside : s2 ≡ in_function f s = e2 ∙ ap (with_parameters (map text_of f.parameters.items)) own in
    let q : IsResolved (in_function f s) t f.body g.body = subst (λ v. IsResolved v t f.body g.body) inside r in
    record {
      same = d ∙ ap (λ v. drop (length t - length v) t) own ∙ ap (λ v. drop (length v - length (with_function f s)) v) q.same
          ∙ left (with_function f s) (in_function f s) _ (parameters_grow (map text_of f.parameters.items) (with_function f s));
      own_name = name;
      parameters = ps;
      body = subst (λ v. IsResolved (in_function f s) v f.body g.body) q.same q;
    }

-- ---- patterns

pub in_Items : (s t : Scope) (ps ps' : Vec Pattern Global) → Chain IsPatternResolved s t ps.items ps'.items → IsPatternResolved s t (pattern.Items ps) (pattern.Items ps')
in_Items s t ps ps' c =
    let r : ArePatternsResolved s t ps.items ps'.items = patterns_resolved s t ps.items ps'.items c in
    record {
      same = r.same ∙ ap (λ p. with_pattern p s) (sym (ast.named-Items ps));
      names = ast.named-Items ps' ∙ ap (λ zs. tree.items (tree.patterns_of zs)) r.names ∙ sym (ast.named-Items ps);
      binders = level.bound-Items ps' (length s) ∙ ap form.items r.binders ∙ ap (pattern_in s) (sym (ast.named-Items ps));
    }

pub in_Members : (s t : Scope) (ps ps' : Vec Member Global) → Chain IsPartResolved s t ps.items ps'.items → IsPatternResolved s t (pattern.Members ps) (pattern.Members ps')
in_Members s t ps ps' c =
    let r : ArePartsResolved s t ps.items ps'.items = parts_resolved s t ps.items ps'.items c in
    record {
      same = r.same ∙ ap (λ p. with_pattern p s) (sym (ast.named-Members ps));
      names = ast.named-Members ps' ∙ ap (λ zs. tree.members (tree.parts_of zs)) r.names ∙ sym (ast.named-Members ps);
      binders = level.bound-Members ps' (length s) ∙ ap form.members r.binders ∙ ap (pattern_in s) (sym (ast.named-Members ps));
    }

pub in_Keyed : (s t u : Scope) (f f' : Box Tree Global) (p p' : Pattern) → IsResolved s t f.value f'.value → IsPatternResolved t u p p' → IsPartResolved s u (member.Keyed f p) (member.Keyed f' p')
in_Keyed s t u f f' p p' r a0 =
    let a : IsPatternResolved s u p p' = subst (λ v. IsPatternResolved v u p p') r.same a0 in
    record {
      same = a.same ∙ ap (λ p. with_part p s) (sym (ast.named-Keyed f p));
      names = ast.named-Keyed f' p' ∙ ap (λ z. tree.keyed z (named_as_pattern p')) r.names ∙ ap (λ z. tree.keyed (named f.value) z) a.names ∙ sym (ast.named-Keyed f p);
      binders = level.bound-Keyed f' p' (length s) ∙ ap (λ z. form.keyed z (bound_as_pattern p' (length s))) r.binders ∙ ap (λ z. form.keyed (bound_in s (named f.value)) z) a.binders
          ∙ ap (part_in s) (sym (ast.named-Keyed f p));
    }

-- ---- entries

pub entry_Named : (s t : Scope) (k : Key) (f g : Tree) → IsResolved s t f g → IsEntryResolved s t (entry.Named k f) (entry.Named k g)
entry_Named s t k f g r = record {
  same = r.same;
  names = ap (λ z. tree.named (key_of k) z) r.names;
  binders = ap (λ z. form.named (key_of k) z) r.binders;
}

pub entry_Own : (s t : Scope) (f g : Tree) → IsResolved s t f g → IsEntryResolved s t (entry.Own f) (entry.Own g)
entry_Own s t f g r = record { same = r.same; names = ap tree.own r.names; binders = ap form.own r.binders }

pub entry_Computed : (s t u : Scope) (f f' g g' : Tree) → IsResolved s t f f' → IsResolved t u g g' → IsEntryResolved s u (entry.Computed f g) (entry.Computed f' g')
entry_Computed s t u f f' g g' r q0 =
    let q : IsResolved s u g g' = subst (λ v. IsResolved v u g g') r.same q0 in
    record {
      same = q.same;
      names = ap (λ z. tree.computed z (named g')) r.names ∙ ap (λ z. tree.computed (named f) z) q.names;
      binders = ap (λ z. form.computed z (bound g' (length s))) r.binders ∙ ap (λ z. form.computed (bound_in s (named f)) z) q.binders;
    }
