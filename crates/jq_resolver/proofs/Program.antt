-- From the parts of a program to the whole.
use Rattle.std.proofs.Common.{◌≡◌, ◌∙◌, ◌+◌, suc, List, [], ◌∷◌, ◌++◌, length, map, String, Global, ap, sym, subst, refl}
use Rattle.std.proofs.lemmas.List.{append-nil}
use Rattle.jv_data.specs.declared.values.Val.{Val}
use Rattle.jv_data.specs.Text.{text_of}
use Rattle.jq_tree.specs.Tree as tree
use Rattle.jq_tree.specs.BoundTree as form
use Rattle.jq_tree.specs.Binders.{bound_in}
use Rattle.jq_tree.specs.Names.{Scope, variables_of}
use Rattle.jq_ast.specs.Named.{named}
use Rattle.jq_ast.specs.Bound.{bound}
use Rattle.jq_ast.specs.declared.tree.Function.{Function}
use Rattle.jq_ast.specs.declared.tree.Tree.{Tree}
use Rattle.jq_resolver.proofs.Forms.{body_bound}
use Rattle.jq_resolver.specs.private.Resolved.{Chain, IsResolved, IsDefinitionResolved, with_function, in_function}
use Rattle.jq_resolver.specs.Programs.{named_program, bound_program, variable_names}

pub record IsProgramResolved (s : Scope) (fs gs : List (Function Tree)) (x y : Tree) : Type 0 where
  pub names : named_program gs y ≡ named_program fs x
  pub binders : bound_program gs y (length s) ≡ bound_in s (named_program fs x)

pub program_resolved : (s t u : Scope) (fs gs : List (Function Tree)) (x y : Tree) → Chain IsDefinitionResolved s t fs gs → IsResolved t u x y → IsProgramResolved s fs gs x y
program_resolved s t u [] [] x y c r =
    let q : IsResolved s u x y = subst (λ v. IsResolved v u x y) c r in
    record { names = q.names; binders = q.binders }
program_resolved s t u (f ∷ fs) (g ∷ gs) x y c r =
    let own = with_function f s in
    let d : IsDefinitionResolved s c.0 f g = c.1 in
    let rest : IsProgramResolved own fs gs x y = program_resolved own t u fs gs x y (subst (λ v. Chain IsDefinitionResolved v t fs gs) d.same c.2) r in
    let n = length s in
    let body' = bound g.body (suc n + length g.parameters.items) in
    let ps = map text_of f.parameters.items in
    record {
      names = ap (λ z. tree.define z (map text_of g.parameters.items) (named g.body) (named_program gs y)) d.own_name ∙ ap (λ z. tree.define (text_of f.name) z (named g.body) (named_program gs y)) d.parameters
          ∙ ap (λ z. tree.define (text_of f.name) ps z (named_program gs y)) d.body.names ∙ ap (λ z. tree.define (text_of f.name) ps (named f.body) z) rest.names;
      binders = ap (λ z. form.define z (map text_of g.parameters.items) body' (bound_program gs y (suc n))) d.own_name ∙ ap (λ z. form.define (text_of f.name) z body' (bound_program gs y (suc n))) d.parameters
          ∙ ap (λ z. form.define (text_of f.name) ps z (bound_program gs y (suc n))) (body_bound s c.0 f g d) ∙ ap (λ z. form.define (text_of f.name) ps (bound_in (in_function f s) (named f.body)) z) rest.binders;
    }
program_resolved s t u [] (g ∷ gs) x y c r = absurd c
program_resolved s t u (f ∷ fs) [] x y c r = absurd c

count_of : (vs : List (String Global × Val)) → length (variables_of (variable_names vs)) ≡ length vs
count_of [] = refl
count_of (v ∷ vs) = ap suc (count_of vs)

-- in the scope of the variables alone
pub outermost : (vs : List (String Global × Val)) (s none : Scope) (fs gs : List (Function Tree)) (x y : Tree) → s ≡ variables_of (variable_names vs) ++ none → none ≡ [] → IsProgramResolved s fs gs x y
    → bound_program gs y (length vs) ≡ bound_in (variables_of (variable_names vs)) (named_program fs x)
outermost vs s none fs gs x y e n r =
    let own = variables_of (variable_names vs) in
    let whole : s ≡ own = e ∙ ap (λ z. own ++ z) n ∙ append-nil own in
    ap (bound_program gs y) (sym (ap length whole ∙ count_of vs)) ∙ r.binders ∙ ap (λ z. bound_in z (named_program fs x)) whole
