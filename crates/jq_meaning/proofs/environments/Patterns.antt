-- The environments that a pattern makes.
use Rattle.std.proofs.Common.{◌≡◌, ℕ, suc, pos, List, [], ◌∷◌, ◌++◌, refl, sym, ap, ◌∙◌, subst}
use Rattle.std.specs.List.{AllByRecursion}
use Rattle.std.specs.Prelude.{⊤}
use Rattle.std.proofs.lemmas.List.Elements.{All-from_recursion}
use Rattle.jv_data.specs.Value.{Value, number, string}
use Rattle.jq_tree.specs.Names.{Scope, with_pattern, with_patterns, with_parts, to_variable}
use Rattle.jq_tree.specs.Tree.{Name, Pattern, Patterns, Parts}
use Rattle.jq_tree.specs.Tree as tree
use Rattle.jq_meaning.specs.Continuations.{part_at, on_part, on_part_key, on_named_part, on_source}
use Rattle.jq_meaning.specs.Env.{Env, bound, value_of}
use Rattle.jq_meaning.specs.Meaning.{Means, meaning_with, bindings_with, items_with, members_with}
use Rattle.jq_meaning.specs.Runs.{Item, plain, value_in, Run, Ending, Done, Raised, Broken, Stopped, bind, bind_items, go_on}
use Rattle.jq_meaning.specs.Programs.{with_bindings}
use Rattle.jq_meaning.specs.laws.Names.{scope_of}
use Rattle.jq_meaning.specs.laws.Scopes.{Extends, PatternsBindTheirNames, ItemPatternsBindTheirNames, MemberPatternsBindTheirNames, SourcesBindTheirNames}
use Rattle.jq_meaning.proofs.environments.Walks.{with_append}

-- ---- all items of a run

each_append : {A : Type 0} (P : A → Type 0) (xs ys : List A) → AllByRecursion P xs → AllByRecursion P ys → AllByRecursion P (xs ++ ys)
each_append P [] ys h i = i
each_append P (x ∷ xs) ys h i = (h.0, each_append P xs ys h.1 i)

each_go_on : {A : Type 0} (P : A → Type 0) (e : Ending) (r : Run A) → AllByRecursion P r.items → AllByRecursion P (go_on e r).items
each_go_on P Done r h = h
each_go_on P (Raised v) r h = tt
each_go_on P (Broken level) r h = tt
each_go_on P (Stopped stop) r h = tt

each_bind : {A B : Type 0} (P : A → Type 0) (Q : B → Type 0) (xs : List A) (e : Ending) (g : A → Run B) → AllByRecursion P xs
    → ((x : A) → P x → AllByRecursion Q (g x).items) → AllByRecursion Q (bind_items xs e g).items
each_bind P Q [] e g h i = tt
each_bind P Q (x ∷ xs) e g h i =
    each_append Q (g x).items (go_on (g x).ending (bind_items xs e g)).items (i x h.0)
    (each_go_on Q (g x).ending (bind_items xs e g) (each_bind P Q xs e g h.1 i))

each_trivial : {A : Type 0} (xs : List A) → AllByRecursion (λ x. ⊤) xs
each_trivial [] = tt
each_trivial (x ∷ xs) = (tt, each_trivial xs)

each_weaker : {A : Type 0} (P Q : A → Type 0) → ((x : A) → P x → Q x) → (xs : List A) → AllByRecursion P xs → AllByRecursion Q xs
each_weaker P Q f [] h = tt
each_weaker P Q f (x ∷ xs) h = (f x h.0, each_weaker P Q f xs h.1)

-- ---- one environment before another

itself : (e : Env) → Extends (scope_of e) e e
itself e = record { names = refl; added = []; is = refl; inputs = refl }

one_value : (n : Name) (v : Value) (e : Env) → Extends (to_variable n ∷ scope_of e) e (bound (value_of n v) e)
one_value n v e = record { names = refl; added = value_of n v ∷ []; is = refl; inputs = refl }

and_then : (s t : Scope) (e f g : Env) → Extends s e f → Extends t f g → Extends t e g
and_then s t e f g first second = record {
  names = second.names;
  added = first.added ++ second.added;
  is = second.is ∙ ap (λ (o : Env). with_bindings second.added o) first.is ∙ sym (with_append first.added second.added e);
  inputs = second.inputs ∙ first.inputs;
}

abbrev Each : Scope → Env → Run Env → Type 0
Each s e r = AllByRecursion (Extends s e) r.items

after : (s t : Scope) (e f : Env) (r : Run Env) → Extends s e f → Each t f r → Each t e r
after s t e f r h each = each_weaker (Extends t f) (Extends t e) (λ g k. and_then s t e f g h k) r.items each

over_items : (s : Scope) (e : Env) (r : Run Item) (g : Item → Run Env) → ((x : Item) → Each s e (g x)) → Each s e (bind r g)
over_items s e r g h = each_bind (λ x. ⊤) (Extends s e) r.items r.ending g (each_trivial r.items) (λ x i. h x)

over_environments : (s t : Scope) (e : Env) (r : Run Env) (g : Env → Run Env) → Each s e r → ((f : Env) → scope_of f ≡ s → Each t f (g f)) → Each t e (bind r g)
over_environments s t e r g h there =
    each_bind (Extends s e) (Extends t e) r.items r.ending g h (λ f k. after s t e f (g f) k (there f k.names))

-- ---- patterns

module _ (deeper : Means) where
  mutual
    unfolding on_part on_part_key on_named_part

    pattern_each : (p : Pattern) (level : ℕ) (e : Env) (v : Value) → Each (with_pattern p (scope_of e)) e (bindings_with deeper p level e v)
    pattern_each (tree.whole n) level e v = (one_value n v e, tt)
    pattern_each (tree.items ps) level e v = items_each ps 0 level v e
    pattern_each (tree.members ps) level e v = members_each ps level v e

    items_each : (ps : Patterns) (place level : ℕ) (v : Value) (e : Env) → Each (with_patterns ps (scope_of e)) e (items_with deeper ps place level v e)
    items_each tree.no_patterns place level v e = (itself e, tt)
    items_each (tree.more_patterns p ps) place level v e =
        over_items (with_patterns ps (with_pattern p (scope_of e))) e (part_at v (number (pos place))) (on_part (bindings_with deeper p level) e (items_with deeper ps (suc place) level v))
        (λ x. over_environments (with_pattern p (scope_of e)) (with_patterns ps (with_pattern p (scope_of e))) e (bindings_with deeper p level e (value_in x)) (items_with deeper ps (suc place) level v)
        (pattern_each p level e (value_in x))
        (λ f s. subst (λ (t : Scope). Each (with_patterns ps t) f (items_with deeper ps (suc place) level v f)) s (items_each ps (suc place) level v f)))

    members_each : (ps : Parts) (level : ℕ) (v : Value) (e : Env) → Each (with_parts ps (scope_of e)) e (members_with deeper ps level v e)
    members_each tree.no_parts level v e = (itself e, tt)
    members_each (tree.more_parts (tree.keyed key p) ps) level v e =
        over_items (with_parts ps (with_pattern p (scope_of e))) e (meaning_with deeper key e level (plain v)) (on_part_key v (bindings_with deeper p level) e (members_with deeper ps level v))
        (λ y. over_items (with_parts ps (with_pattern p (scope_of e))) e (part_at v (value_in y)) (on_part (bindings_with deeper p level) e (members_with deeper ps level v))
        (λ x. over_environments (with_pattern p (scope_of e)) (with_parts ps (with_pattern p (scope_of e))) e (bindings_with deeper p level e (value_in x)) (members_with deeper ps level v)
        (pattern_each p level e (value_in x))
        (λ f s. subst (λ (t : Scope). Each (with_parts ps t) f (members_with deeper ps level v f)) s (members_each ps level v f))))
    members_each (tree.more_parts (tree.keyed_variable n p) ps) level v e =
        over_items (with_parts ps (with_pattern p (to_variable n ∷ scope_of e))) e (part_at v (string n)) (on_named_part n (bindings_with deeper p level) e (members_with deeper ps level v))
        (λ x. over_environments (with_pattern p (to_variable n ∷ scope_of e)) (with_parts ps (with_pattern p (to_variable n ∷ scope_of e))) e
        (bindings_with deeper p level (bound (value_of n (value_in x)) e) (value_in x)) (members_with deeper ps level v)
        (after (to_variable n ∷ scope_of e) (with_pattern p (to_variable n ∷ scope_of e)) e (bound (value_of n (value_in x)) e)
        (bindings_with deeper p level (bound (value_of n (value_in x)) e) (value_in x)) (one_value n (value_in x) e)
        (pattern_each p level (bound (value_of n (value_in x)) e) (value_in x)))
        (λ f s. subst (λ (t : Scope). Each (with_parts ps t) f (members_with deeper ps level v f)) s (members_each ps level v f)))

  source_each : (p : Pattern) (level : ℕ) (e : Env) (source : Run Item) → Each (with_pattern p (scope_of e)) e (bind source (on_source (bindings_with deeper p level) e))
  unfolding on_source
  source_each p level e source =
      over_items (with_pattern p (scope_of e)) e source (on_source (bindings_with deeper p level) e) (λ x. pattern_each p level e (value_in x))

pub patterns_bind : PatternsBindTheirNames
patterns_bind deeper p level e v =
    All-from_recursion (Extends (with_pattern p (scope_of e)) e) (bindings_with deeper p level e v).items (pattern_each deeper p level e v)

pub item_patterns_bind : ItemPatternsBindTheirNames
item_patterns_bind deeper ps place level v e =
    All-from_recursion (Extends (with_patterns ps (scope_of e)) e) (items_with deeper ps place level v e).items (items_each deeper ps place level v e)

pub member_patterns_bind : MemberPatternsBindTheirNames
member_patterns_bind deeper ps level v e =
    All-from_recursion (Extends (with_parts ps (scope_of e)) e) (members_with deeper ps level v e).items (members_each deeper ps level v e)

pub sources_bind : SourcesBindTheirNames
sources_bind deeper p level e source =
    All-from_recursion (Extends (with_pattern p (scope_of e)) e) (bind source (on_source (bindings_with deeper p level) e)).items (source_each deeper p level e source)
