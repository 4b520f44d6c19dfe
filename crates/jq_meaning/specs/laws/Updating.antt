-- What `f |= g` does: each path of f, in order, gets the first output of g for the part there. The parts for which g has no output
-- are deleted at the end.
use Rattle.std.specs.Prelude.{ℕ, zero, suc, nat_eq, List, [], ◌∷◌, map, Ok, Err, if◌then◌else◌}
use Rattle.jv_arith.specs.Arith.{add_of}
use Rattle.jv_data.specs.Value.{Value, null, array, items_of}
use Rattle.jq_natives.specs.Answers.{Answer}
use Rattle.jq_natives.specs.PathNatives.{getpath_native_of, setpath_native_of, delpaths_native_of}
use Rattle.jq_tree.specs.Tree.{Tree}
use Rattle.jq_meaning.specs.Env.{Env}
use Rattle.jq_meaning.specs.Meaning.{below}
use Rattle.jq_meaning.specs.Runs.{Item, plain, located, value_in, Ending, Done, Raised, Broken, Stopped, deep, Run, ended, fail, go_on, answered, path_error, paths_in}

-- What is done with the value of an answer. An error ends the run.
abbrev pub with_answer : Answer → (Value → Run Item) → Run Item
with_answer (Ok v) go = go v
with_answer (Err e) go = fail e

-- The filter had no output for the part at a path: the path is put on the list. An error, a break or a stop ends the run.
-- A break of the level that the turn has for itself leaves null as the value and null as the list.
abbrev pub without_output : (level : ℕ) → (x listed path : Value) → Ending → (Value → Value → Run Item) → Run Item
without_output k x ds p Done go = with_answer (add_of ds (array (items_of (p ∷ [])))) (go x)
without_output k x ds p (Raised e) go = fail e
without_output k x ds p (Broken j) go = if nat_eq j k then go null null else ended (Broken j)
without_output k x ds p (Stopped stop) go = ended (Stopped stop)

-- The first output is set at the path, whatever comes after it.
abbrev pub on_outputs : (level : ℕ) → (x listed path : Value) → Run Item → (Value → Value → Run Item) → Run Item
on_outputs k x ds p r go =
    elim r.items [ [] ↦ without_output k x ds p r.ending go | w ∷ ws ↦ with_answer (setpath_native_of x p (value_in w)) (λ y. go y ds) ]

-- A turn: g's run for the part at the path.
abbrev pub turn_of : (level : ℕ) → (Value → Run Item) → (path x listed : Value) → (Value → Value → Run Item) → Run Item
turn_of k g p x ds go = with_answer (getpath_native_of x p) (λ part. on_outputs k x ds p (g part) go)

-- The turns of the paths, one after the other. If the paths end with Done, the parts at the listed paths are deleted then.
abbrev pub turns : (level : ℕ) → (Value → Run Item) → (paths : List Value) → Ending → (x listed : Value) → Run Item
turns k g [] e x ds = go_on e (answered plain (delpaths_native_of x ds))
turns k g (p ∷ ps) e x ds = turn_of k g p x ds (turns k g ps e)

-- An update of an item, from the run of the paths. Inside `path(f)` it is an error.
abbrev pub updated : (level : ℕ) → Run Item → (Value → Run Item) → Item → Run Item
updated k paths g (plain v) = turns k g (map value_in paths.items) paths.ending v (array (items_of []))
updated k paths g (located v p) = path_error

-- The run of `f |= g` where calls may be nested to a depth. The paths and the new parts are two calls deep, and g is inside of one more
-- label.
abbrev pub update_run : (depth : ℕ) → (f g : Tree) → Env → (level : ℕ) → Item → Run Item
update_run zero f g e k x = ended (Stopped deep)
update_run (suc d) f g e k x = updated k (paths_in (below d f e k (located (value_in x) []))) (λ v. below d g e (suc k) (plain v)) x
