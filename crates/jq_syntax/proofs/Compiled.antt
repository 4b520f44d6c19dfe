-- The outcome of a filter after the prelude, and its program.
use Rattle.std.proofs.Common.{◌≡◌, ◌∙◌, ℕ, List, [], ◌∷◌, inl, inr, map, refl, ap, sym, subst, String}
use Rattle.std.specs.declared.alloc.Global.{Global}
use Rattle.jv_data.specs.Text.{text_of}
use Rattle.jv_data.specs.declared.values.Val.{Val}
use Rattle.jq_tree.specs.Tree as tree
use Rattle.jq_tree.specs.BoundTree.{BoundTree}
use Rattle.jq_tree.specs.Binders.{bound_filter, uses, without_binder, Closed}
use Rattle.jq_tree.specs.Prelude.{IsPrelude, followed_by}
use Rattle.jq_tree.specs.Filter as filter
use Rattle.jq_tree.specs.Filter.{Setting, Spelt, BecomesAfter, by_token, by_count, by_nesting, by_grammar, by_name, by_place, by_option, as_tree, names_of, runs_as}
use Rattle.jq_ast.specs.Named.{named}
use Rattle.jq_ast.specs.declared.tree.Function.{Function}
use Rattle.jq_ast.specs.declared.tree.Tree.{Tree}
use Rattle.jq_syntax.specs.Chosen.{setting_of, variables_of}
use Rattle.jq_syntax.specs.declared.options.Options.{Options}
use Rattle.jq_resolver.specs.Programs.{named_program, variable_names}
use Rattle.jq_syntax.specs.declared.faults.CompileFault.{CompileFault}
use Rattle.jq_syntax.specs.declared.faults.CompileFault.TheVariants as fault
use Rattle.jq_syntax.specs.Compiled.{IsRefusal}
use Rattle.jq_syntax.specs.private.Checks.{IsUnbound, IsFitForInputs, IsMisread, IsUnfit}
use Rattle.jq_syntax.specs.private.Reading.{IsUnreadable, AreThePreludes, nested}

-- ---- the program's names

pub named_nested : (fs : List (Function Tree)) (t : Tree) → named_program fs t ≡ nested fs (named t)
named_nested [] t = refl
named_nested (f ∷ fs) t = ap (λ r. tree.define (text_of f.name) (map text_of f.parameters.items) (named f.body) r) (named_nested fs t)

same_names : (vs : List (String Global × Val)) → variable_names vs ≡ names_of (variables_of vs)
same_names [] = refl
same_names (v ∷ vs) = ap (λ ns. text_of v.0 ∷ ns) (same_names vs)

-- The tree of the text, the whole program with the prelude before it, and the binders of both.
pub record IsBound (text : List ℕ) (o : Options) (t : tree.Tree) (b : BoundTree) (whole : tree.Tree) : Type 0 where
  pub prelude : tree.Tree
  pub is_prelude : IsPrelude prelude
  pub after_prelude : whole ≡ followed_by prelude t
  pub spelt : Spelt text t
  pub binders : b ≡ runs_as prelude (setting_of o) t

-- The functions of the prelude and the tree of the text after resolution.
pub resolved : (text : List ℕ) (o : Options) (fs : List (Function Tree)) (t u : Tree) (b : BoundTree) → AreThePreludes fs → Spelt text (named t) → named u ≡ named t
    → b ≡ bound_filter (variable_names o.vars.items) (named_program fs t) → IsBound text o (named u) b (named_program fs t)
resolved text o fs t u b h spelt same e = record {
  prelude = h.prelude;
  is_prelude = h.is_prelude;
  after_prelude = named_nested fs t ∙ h.before (named t) ∙ ap (followed_by h.prelude) (sym same);
  spelt = subst (Spelt text) (sym same) spelt;
  binders = e ∙ ap (λ vs. bound_filter vs (named_program fs t)) (same_names o.vars.items)
      ∙ ap (bound_filter (names_of (variables_of o.vars.items))) (named_nested fs t ∙ h.before (named t) ∙ ap (followed_by h.prelude) (sym same));
}

-- ---- refusals

pub unreadable : (s : Setting) (text : List ℕ) (p : tree.Tree) → IsPrelude p → (f : CompileFault) → IsUnreadable text f → IsRefusal text s f
unreadable s text p h (fault.Lex at) bad = (p, h, by_token bad)
unreadable s text p h fault.Syntax bad = (p, h, by_grammar bad.0 bad.1 bad.2)
unreadable s text p h fault.TooManyTokens bad = (p, h, by_count bad.0 bad.1 bad.2)
unreadable s text p h fault.TooNested bad = (p, h, by_nesting bad.0 bad.1 bad.2 bad.3)
unreadable s text p h (fault.Undefined name) bad = absurd bad
unreadable s text p h fault.InputsPlace bad = absurd bad
unreadable s text p h fault.InputsNeedNull bad = absurd bad
unreadable s text p h fault.NoMemory bad = tt

unbound_name : (text : List ℕ) (o : Options) (t : tree.Tree) (b : BoundTree) {whole : tree.Tree} → IsBound text o t b whole → (f : CompileFault)
    → IsUnbound (without_binder (uses b)) f → IsRefusal text (setting_of o) f
unbound_name text o t b h (fault.Undefined name) u = (h.prelude, h.is_prelude, by_name t h.spelt (u.0, ap (λ c. without_binder (uses c)) (sym h.binders) ∙ u.1))
unbound_name text o t b h fault.NoMemory u = tt
unbound_name text o t b h (fault.Lex at) u = absurd u
unbound_name text o t b h fault.Syntax u = absurd u
unbound_name text o t b h fault.TooManyTokens u = absurd u
unbound_name text o t b h fault.TooNested u = absurd u
unbound_name text o t b h fault.InputsPlace u = absurd u
unbound_name text o t b h fault.InputsNeedNull u = absurd u

closed : (text : List ℕ) (o : Options) (t : tree.Tree) (b : BoundTree) {whole : tree.Tree} (h : IsBound text o t b whole) → without_binder (uses b) ≡ []
    → Closed (names_of (variables_of o.vars.items)) (followed_by h.prelude t)
closed text o t b h none = ap (λ c. without_binder (uses c)) (sym h.binders) ∙ none

misplaced : (text : List ℕ) (o : Options) (t : tree.Tree) (b : BoundTree) {whole : tree.Tree} → IsBound text o t b whole → without_binder (uses b) ≡ [] → (f : CompileFault)
    → IsMisread o.null t f → IsRefusal text (setting_of o) f
misplaced text o t b h none fault.InputsPlace m = (h.prelude, h.is_prelude, by_place t h.spelt (closed text o t b h none) m)
misplaced text o t b h none fault.InputsNeedNull m = (h.prelude, h.is_prelude, by_option t h.spelt (closed text o t b h none) m.0 m.1 m.2)
misplaced text o t b h none (fault.Undefined name) m = absurd m
misplaced text o t b h none fault.NoMemory m = absurd m
misplaced text o t b h none (fault.Lex at) m = absurd m
misplaced text o t b h none fault.Syntax m = absurd m
misplaced text o t b h none fault.TooManyTokens m = absurd m
misplaced text o t b h none fault.TooNested m = absurd m

pub unfit : (text : List ℕ) (o : Options) (t : tree.Tree) (b : BoundTree) {whole : tree.Tree} → IsBound text o t b whole → (f : CompileFault)
    → IsUnfit o.null b t f → IsRefusal text (setting_of o) f
unfit text o t b h f (inl u) = unbound_name text o t b h f u
unfit text o t b h f (inr (none, m)) = misplaced text o t b h none f m

-- ---- acceptance

pub runs : (text : List ℕ) (o : Options) (t : tree.Tree) (b : BoundTree) {whole : tree.Tree} (h : IsBound text o t b whole) → without_binder (uses b) ≡ [] → IsFitForInputs o.null t
    → BecomesAfter h.prelude (setting_of o) text (filter.accepted t)
runs text o t b h none fit = as_tree h.spelt (closed text o t b h none) fit.in_place fit.allowed
