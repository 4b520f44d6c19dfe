-- Runs with a mark for each visit of the machine; the remaining marks count the machine's remaining work.
use Rattle.std.specs.Prelude.{List, [], ◌∷◌}
use Rattle.jq_meaning.specs.Runs.{Run, none, one, before}
use Rattle.jq_meaning.specs.machine.State.{Cell}
use Rattle.jq_meaning.proofs.shared.machine.Flow.{FoldBehaviour}

pub data Event (A : Type 0) : Type 0 where
  visit : Event A
  output : A → Event A

abbrev pub outputs : {A : Type 0} → List (Event A) → List A
outputs [] = []
outputs (visit ∷ es) = outputs es
outputs (output x ∷ es) = x ∷ outputs es

-- the run without its marks
abbrev pub erase : {A : Type 0} → Run (Event A) → Run A
erase r = record { items = outputs r.items; ending = r.ending }

abbrev pub tick : {A : Type 0} → Run (Event A) → Run (Event A)
tick r = before (visit ∷ []) r

-- each output makes a run, at the cost of a visit
abbrev pub on_output : {A B : Type 0} → (A → Run (Event B)) → Event A → Run (Event B)
on_output g visit = one visit
on_output g (output x) = tick (g x)

abbrev pub store_output : {A : Type 0} → (A → Cell → Cell) → Event A → Cell → Cell
store_output store visit c = c
store_output store (output x) c = store x c

-- a fold whose steps and outputs have marks between them
abbrev pub marked : {S A B : Type 0} → FoldBehaviour S (Event A) (Event B) → FoldBehaviour (Event S) (Event A) (Event B)
marked f =
    record {
      begin = store_output f.begin;
      update = λ s c. elim s [ visit ↦ one visit | output b ↦ f.update b c ];
      store = f.store;
      extract = λ s x. elim s [ visit ↦ one visit | output b ↦ f.extract b x ];
      check = λ s c d. elim s [ visit ↦ none | output b ↦ f.check b c d ];
    }
