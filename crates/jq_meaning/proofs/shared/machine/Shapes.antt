-- The forms of filters that have a fork point or a height, by their surroundings.
use Rattle.std.specs.Prelude.{ℕ, [], ◌∷◌, nat_eq, if◌then◌else◌, Some, None}
use Rattle.jv_data.specs.Value.{Value}
use Rattle.jq_natives.specs.Answers.{is_true}
use Rattle.jq_meaning.specs.Runs.{Item, plain, located, value_in, Done, Raised, Broken, Stopped, Run, none, one, path_error, array_of_items}
use Rattle.jq_meaning.specs.machine.State.{Cell}
use Rattle.jq_meaning.specs.machine.Operations.{state_in, replace_state}
use Rattle.jq_meaning.proofs.shared.machine.Flow.{Taken, FoldBehaviour}

-- try: an error goes to the handler
abbrev pub on_raised : {B : Type 0} → (Value → Run B) → Taken B
on_raised handler Done = None
on_raised handler (Raised v) = Some (handler v)
on_raised handler (Broken k) = None
on_raised handler (Stopped stop) = None

-- label: a break of this level ends here, and r follows
abbrev pub on_break : {B : Type 0} → Run B → ℕ → Taken B
on_break r level Done = None
on_break r level (Raised v) = None
on_break r level (Broken k) = if nat_eq k level then Some r else None
on_break r level (Stopped stop) = None

-- the left side of //: an error ends it, and r follows
abbrev pub on_silenced : {B : Type 0} → Run B → Taken B
on_silenced r Done = None
on_silenced r (Raised v) = Some r
on_silenced r (Broken k) = None
on_silenced r (Stopped stop) = None

abbrev pub nothing_of : Item → Run Item
nothing_of x = none

-- an array at its end
abbrev pub array_of : Cell → Run Item
array_of c = one (plain (array_of_items c))

abbrev pub if_true : Item → Run Item
if_true x = if is_true (value_in x) then one x else none

abbrev pub if_empty : {B : Type 0} → Run B → Cell → Run B
if_empty r [] = r
if_empty r (x ∷ c) = none

abbrev pub missing : {B : Type 0} → Item → Cell → Run B
missing (plain v) d = none
missing (located v p) [] = path_error
missing (located v p) (x ∷ d) = none

abbrev pub fold_of : {S : Type 0} → (S → Item → Run Item) → (S → Item → Run Item) → FoldBehaviour S Item Item
fold_of update extract =
    record { begin = λ b c. []; update = λ b c. update b (state_in c); store = replace_state; extract = extract; check = λ b c d. missing (state_in c) d }

abbrev pub give_state : Cell → Run Item
give_state c = one (state_in c)

abbrev pub give_nothing : Cell → Run Item
give_nothing c = none
