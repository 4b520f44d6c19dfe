-- What the resolution of a part of a tree does: the names stay, each gets its binder, and the scope becomes that of the
-- definition. `s` is the scope before, `t` the scope after.
use Rattle.std.specs.Prelude.{◌≡◌, ℕ, List, [], ◌∷◌, length, map}
use Rattle.jv_data.specs.Text.{text_of}
use Rattle.jq_tree.specs.BoundTree as form
use Rattle.jq_tree.specs.Binders.{bound_in, entry_in, pattern_in, part_in, prelude_binder}
use Rattle.jq_tree.specs.Names.{Scope, to_function, with_parameters, with_pattern, with_part}
use Rattle.jq_ast.specs.Leaves.{key_of}
use Rattle.jq_ast.specs.Named.{name_of, named, named_as_part, named_as_pattern, named_entry}
use Rattle.jq_ast.specs.Bound.{bound, function_at}
use Rattle.jq_resolver.specs.private.BoundParts.{bound_as_part, bound_as_pattern}
use Rattle.jq_ast.specs.declared.names.Name.{Name}
use Rattle.jq_ast.specs.declared.tree.Entry.{Entry}
use Rattle.jq_ast.specs.declared.tree.Entry.TheVariants as entry
use Rattle.jq_ast.specs.declared.tree.Function.{Function}
use Rattle.jq_ast.specs.declared.tree.Member.{Member}
use Rattle.jq_ast.specs.declared.tree.Pattern.{Pattern}
use Rattle.jq_ast.specs.declared.tree.Piece.{Piece}
use Rattle.jq_ast.specs.declared.tree.Tree.{Tree}

pub record IsResolved (s t : Scope) (old new : Tree) : Type 0 where
  pub same : t ≡ s
  pub names : named new ≡ named old
  pub binders : bound new (length s) ≡ bound_in s (named old)

pub record IsPieceResolved (s t : Scope) (old new : Piece Tree) : Type 0 where
  pub before : text_of new.before ≡ text_of old.before
  pub tree : IsResolved s t old.tree new.tree

abbrev pub entry_at : Entry Tree → ℕ → form.BoundEntry
entry_at (entry.Named key value) n = form.named (key_of key) (bound value n)
entry_at (entry.Computed key value) n = form.computed (bound key n) (bound value n)
entry_at (entry.Own key) n = form.own (bound key n)

abbrev pub entries_at : List (Entry Tree) → ℕ → form.BoundEntries
entries_at [] n = form.no_entries
entries_at (e ∷ es) n = form.more_entries (entry_at e n) (entries_at es n)

pub record IsEntryResolved (s t : Scope) (old new : Entry Tree) : Type 0 where
  pub same : t ≡ s
  pub names : named_entry new ≡ named_entry old
  pub binders : entry_at new (length s) ≡ entry_in s (named_entry old)

pub record IsPatternResolved (s t : Scope) (old new : Pattern) : Type 0 where
  pub same : t ≡ with_pattern (named_as_pattern old) s
  pub names : named_as_pattern new ≡ named_as_pattern old
  pub binders : bound_as_pattern new (length s) ≡ pattern_in s (named_as_pattern old)

pub record IsPartResolved (s t : Scope) (old new : Member) : Type 0 where
  pub same : t ≡ with_part (named_as_part old) s
  pub names : named_as_part new ≡ named_as_part old
  pub binders : bound_as_part new (length s) ≡ part_in s (named_as_part old)

abbrev pub with_function : Function Tree → Scope → Scope
with_function f s = to_function (text_of f.name) (length (map text_of f.parameters.items)) ∷ s

abbrev pub in_function : Function Tree → Scope → Scope
in_function f s = with_parameters (map text_of f.parameters.items) (with_function f s)

pub record IsDefinitionResolved (s t : Scope) (old new : Function Tree) : Type 0 where
  pub same : t ≡ with_function old s
  pub own_name : text_of new.name ≡ text_of old.name
  pub parameters : map text_of new.parameters.items ≡ map text_of old.parameters.items
  pub body : IsResolved (in_function old s) (in_function old s) old.body new.body

-- The parts of a list in order, each in the scope after the one before it.
abbrev pub Chain : {A : Type 0} → (Scope → Scope → A → A → Type 0) → Scope → Scope → List A → List A → Type 0
Chain Does s t [] [] = t ≡ s
Chain Does s t (x ∷ xs) (y ∷ ys) = (u : Scope) × Does s u x y × Chain Does u t xs ys
Chain Does s t [] (y ∷ ys) = ⊥
Chain Does s t (x ∷ xs) [] = ⊥

-- The name of a function with this arity gets the binder that the prelude has for it.
abbrev pub IsInPrelude : Scope → (arity : ℕ) → (old new : Name) → Type 0
IsInPrelude s arity old new = function_at new arity (length s) ≡ prelude_binder s (to_function (name_of old) arity)
