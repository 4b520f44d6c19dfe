-- What a filter does with an input: its outputs in order, and how it ends (manual of jq 1.7, "Basic filters").
use Rattle.std.specs.Prelude.{ℕ, List, [], ◌∷◌, ◌++◌, map, filter, nat_eq, codes, if◌then◌else◌, Ok, Err}
use Rattle.jv_data.specs.Value.{Value, string, array, items_of}
use Rattle.jq_natives.specs.Answers.{Answer, is_true}

-- what nothing catches: calls nested too deep, or a halt with an exit status and the bytes of its message
pub data Stop : Type 0 where
  deep : Stop
  halted : (status : ℕ) → (bytes : List ℕ) → Stop

-- done, an uncaught error, a break of the label at a level, or a stop
pub data Ending : Type 0 where
  Done : Ending
  Raised : Value → Ending
  Broken : (level : ℕ) → Ending
  Stopped : (stop : Stop) → Ending

pub record Run (A : Type 0) : Type 0 where
  pub items : List A
  pub ending : Ending

abbrev pub ended : {A : Type 0} → Ending → Run A
ended e = record { items = []; ending = e }

abbrev pub none : {A : Type 0} → Run A
none = ended Done

abbrev pub one : {A : Type 0} → A → Run A
one x = record { items = x ∷ []; ending = Done }

abbrev pub fail : {A : Type 0} → Value → Run A
fail v = ended (Raised v)

-- a run with these items in front
abbrev pub before : {A : Type 0} → List A → Run A → Run A
before xs r = record { items = xs ++ r.items; ending = r.ending }

-- the second run, if the first one ended with Done; else the first one's ending alone
abbrev pub go_on : {A : Type 0} → Ending → Run A → Run A
go_on Done r = r
go_on (Raised v) r = ended (Raised v)
go_on (Broken k) r = ended (Broken k)
go_on (Stopped stop) r = ended (Stopped stop)

-- one run after the other
abbrev pub then_run : {A : Type 0} → Run A → Run A → Run A
then_run r s = before r.items (go_on r.ending s)

abbrev pub bind_items : {A B : Type 0} → List A → Ending → (A → Run B) → Run B
bind_items [] e g = ended e
bind_items (x ∷ xs) e g = then_run (g x) (bind_items xs e g)

-- g on each item, in order, up to the first ending other than Done; after the last item the run's own ending
abbrev pub bind : {A B : Type 0} → Run A → (A → Run B) → Run B
bind r g = bind_items r.items r.ending g

-- the run of a native's answer
abbrev pub answered : {A : Type 0} → (Value → A) → Answer → Run A
answered f (Ok v) = one (f v)
answered f (Err e) = fail e

-- ---- items

-- An output: a value, or inside `path(f)` a value with its path.
pub data Item : Type 0 where
  plain : Value → Item
  located : Value → (path : List Value) → Item

abbrev pub value_in : Item → Value
value_in (plain v) = v
value_in (located v p) = v

-- the value alone
abbrev pub as_value : Item → Item
as_value x = plain (value_in x)

abbrev pub path_error : {A : Type 0} → Run A
path_error = fail (string (codes "Invalid path expression"))

-- inside `path(f)` an output of a form that has no paths is an error
abbrev pub no_item : Run Item → Run Item
no_item r = elim r.items [ [] ↦ r | x ∷ xs ↦ path_error ]

abbrev pub without_path : Item → Run Item → Run Item
without_path (plain v) r = r
without_path (located v p) r = no_item r

-- ---- arrays of outputs ("Array construction")

abbrev pub array_of_items : List Item → Value
array_of_items xs = array (items_of (map value_in xs))

abbrev pub gathered : Run Item → Run Item
gathered r = go_on r.ending (one (plain (array_of_items r.items)))

-- ---- errors ("try-catch")

-- the items up to an error, and then the handler's run on the error's value
abbrev pub catch : Run Item → (Value → Run Item) → Run Item
catch r handler = elim r.ending [ Done ↦ r | Raised v ↦ before r.items (handler v) | Broken k ↦ r | Stopped stop ↦ r ]

-- ---- alternatives ("Alternative operator")

-- the items that are neither null nor false
abbrev pub kept : List Item → List Item
kept xs = filter (λ x. is_true (value_in x)) xs

-- an error ends the left side without a report
abbrev pub silenced : Ending → Ending
silenced Done = Done
silenced (Raised v) = Done
silenced (Broken k) = Broken k
silenced (Stopped stop) = Stopped stop

-- the right side g of x is run if the left side kept no item and ended in neither a break nor a stop
abbrev pub alternative : Run Item → (Item → Run Item) → Item → Run Item
alternative r g x =
    elim (kept r.items) [ [] ↦ go_on (silenced r.ending) (g x) | y ∷ ys ↦ record { items = y ∷ ys; ending = silenced r.ending } ]

-- ---- labels ("Breaking out of control structures")

-- a break of this level ends its label, which is done then
abbrev pub stopped : ℕ → Ending → Ending
stopped level Done = Done
stopped level (Raised v) = Raised v
stopped level (Broken k) = if nat_eq k level then Done else Broken k
stopped level (Stopped stop) = Stopped stop

abbrev pub labelled : ℕ → Run Item → Run Item
labelled level r = record { items = r.items; ending = stopped level r.ending }

-- ---- paths ("path(path_expression)")

abbrev pub path_of : Item → List Value
path_of (plain v) = []
path_of (located v p) = p

-- an item's path, as an array
abbrev pub path_array : Item → Item
path_array x = plain (array (items_of (path_of x)))

-- the path of each item
abbrev pub paths_in : Run Item → Run Item
paths_in r = record { items = map path_array r.items; ending = r.ending }
