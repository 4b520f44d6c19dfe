-- A filter with at most one output, by its form, gives one output and Done, or none and another ending.
use Rattle.std.proofs.Common.{◌≡◌, ℕ, Bool, true, false, refl, sym, ap, ◌∙◌, subst}
use Rattle.std.specs.Prelude.{◌&&◌, Ok, Err}
use Rattle.jv_arith.specs.Arith.{neg_of}
use Rattle.jv_data.specs.Members.{put}
use Rattle.jv_data.specs.Value.{Value, string, Members, no_members}
use Rattle.jv_value.specs.Index.{index_of}
use Rattle.jq_natives.specs.Answers.{Answer}
use Rattle.jq_tree.specs.Tree.{Tree, Entries, no_entries, more_entries}
use Rattle.jq_tree.specs.Tree as tree
use Rattle.jq_tree.specs.Inputs.{at_most_one, at_most_one_each}
use Rattle.jq_meaning.specs.Runs.{Item, plain, value_in, Run, bind, answered, array_of_items}
use Rattle.jq_meaning.specs.Env.{Env}
use Rattle.jq_meaning.specs.Continuations.{on_target, on_left, on_right, negated, on_entry}
use Rattle.jq_meaning.specs.Steps.{step_answer, operator_of}
use Rattle.jq_meaning.specs.Meaning.{Means, meaning_with, entries_with}
use Rattle.jq_meaning.proofs.shared.machine.RunLaws.{bind-one}
use Rattle.jq_folds.proofs.Threading.{OneOrEnd, gives, ends, one_or_end}

bind-single : {A B : Type 0} (r : Run A) (g : A → Run B) → OneOrEnd r → ((x : A) → OneOrEnd (g x)) → OneOrEnd (bind r g)
bind-single {A = A} {B = B} r g (gives x p) h = subst (λ (q : Run B). OneOrEnd q) (sym (ap (λ (q : Run A). bind q g) p ∙ bind-one x g)) (h x)
bind-single {A = A} {B = B} r g (ends e n p) h = ends e n (ap (λ (q : Run A). bind q g) p)

answered-single : {A : Type 0} (f : Value → A) (a : Answer) → OneOrEnd (answered f a)
answered-single f (Ok v) = gives (f v) refl
answered-single f (Err e) = ends _ tt refl

step-single : (x : Item) (key : Value) (a : Answer) → OneOrEnd (step_answer false x key a)
step-single x key (Ok w) = gives _ refl
step-single x key (Err e) = ends _ tt refl

both : (a b : Bool) → (a && b) ≡ true → (a ≡ true) × (b ≡ true)
both true b h = (refl, h)
both false b h = absurd (cc)

module _ (deeper : Means) (e : Env) (k : ℕ) where
  mutual
    unfolding on_target on_left on_right negated on_entry

    pub single : (t : Tree) (v : Value) → at_most_one t ≡ true → OneOrEnd (meaning_with deeper t e k (plain v))
    single tree.identity v h = gives (plain v) refl
    single (tree.literal l) v h = gives _ refl
    single (tree.variable n) v h = gives _ refl
    single (tree.array f) v h = let r = meaning_with deeper f e k (plain v) in one_or_end r.ending (plain (array_of_items r.items))
    single (tree.negation f) v h = bind-single (meaning_with deeper f e k (plain v)) negated (single f v h) (λ y. answered-single plain (neg_of (value_in y)))
    single (tree.binary op f g) v h =
        let p = both (at_most_one f) (at_most_one g) h in
        bind-single (meaning_with deeper g e k (plain v)) (on_right op (meaning_with deeper f e k (plain v))) (single g v p.1)
        (λ b. bind-single (meaning_with deeper f e k (plain v)) (on_left op (value_in b)) (single f v p.0) (λ a. answered-single plain (operator_of op (value_in a) (value_in b))))
    single (tree.field f n false) v h =
        bind-single (meaning_with deeper f e k (plain v)) (on_target false (string n)) (single f v h) (λ y. step-single y (string n) (index_of (value_in y) (string n)))
    single (tree.object es) v h = single_each es v no_members h
    single t v h = absurd (cc)

    single_each : (es : Entries) (v : Value) (made : Members) → at_most_one_each es ≡ true → OneOrEnd (entries_with deeper es e k v made)
    single_each no_entries v made h = gives _ refl
    single_each (more_entries (tree.named key f) es) v made h =
        let p = both (at_most_one f) (at_most_one_each es) h in
        bind-single (meaning_with deeper f e k (plain v)) (on_entry (entries_with deeper es e k v) made key) (single f v p.0) (λ y. single_each es v (put key (value_in y) made) p.1)
    single_each (more_entries (tree.computed key f) es) v made h = absurd (cc)
    single_each (more_entries (tree.own key) es) v made h = absurd (cc)
