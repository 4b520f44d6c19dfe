-- The run of a turn.
use Rattle.std.proofs.Common.{◌≡◌, ◌∙◌, ℕ, suc, List, [], ◌∷◌, Bool, true, false, nat_eq, Ok, Err, codes, refl, ap}
use Rattle.std.specs.Prelude.{if◌then◌else◌}
use Rattle.jv_arith.specs.Arith.{add_of}
use Rattle.jv_data.specs.Value.{Value, null, array, items_of}
use Rattle.jq_natives.specs.Answers.{Answer}
use Rattle.jq_natives.specs.PathNatives.{getpath_native_of, setpath_native_of}
use Rattle.jq_tree.specs.Tree.{Tree, variable, trees_of, pipe}
use Rattle.jq_meaning.specs.Runs.{Item, plain, value_in, Run, bind, Ending, Done, Raised, Broken, Stopped, ended, none, one, fail, go_on, then_run, answered, labelled}
use Rattle.jq_meaning.specs.Env.{Env, Callee, found_closure, no_callee, bound, value_of, label_of, find_callee, find_value, find_inputs}
use Rattle.jq_meaning.specs.Builtins.{builtin_named, builtin_run}
use Rattle.jq_meaning.specs.Continuations.{on_right, on_left}
use Rattle.jq_meaning.specs.Folds.{next_state}
use Rattle.jq_meaning.specs.Meaning.{Means, meaning_with, arguments_with, called}
use Rattle.jq_meaning.proofs.shared.machine.RunLaws.{then_run-none}
use Rattle.jq_tree.specs.ModifyBody.{old_part, update_call, set_part, set_on, new_part, changed, put_part, longer, without_part, choosing, turn}
use Rattle.jq_meaning.specs.laws.Updating.{with_answer}
use Rattle.jq_meaning.specs.laws.Updating.{without_output, on_outputs, turn_of}
use Rattle.jq_meaning.proofs.updating.Forms.{state, Reads, pipe-one, as-ended, as-first, pair-bound, called-none, labelled-broken, pair-one, pair-fails, pair-fails_after}

-- The names in a turn: two natives that no definition binds, the path, and a filter that was passed, with its own environment.
pub record Around (e : Env) (p : Value) (body : Tree) (own : Env) : Type 0 where
  pub gets : find_callee (codes "getpath") 1 e ≡ no_callee
  pub sets : find_callee (codes "setpath") 2 e ≡ no_callee
  pub path : find_value (codes "p") e ≡ p
  pub passed : find_callee (codes "u") 0 e ≡ found_closure body own

old-run : (deeper : Means) (e : Env) (k : ℕ) (x p : Value) → find_callee (codes "getpath") 1 e ≡ no_callee → find_value (codes "p") e ≡ p → meaning_with deeper old_part e k (plain x) ≡ answered plain (getpath_native_of x p)
old-run deeper e k x p h i =
    called-none deeper (find_callee (codes "getpath") 1 e) (trees_of (variable (codes "p") ∷ [])) e k (plain x)
    (builtin_run (builtin_named (codes "getpath") 1) (arguments_with deeper (trees_of (variable (codes "p") ∷ [])) e k) (find_inputs e) (plain x)) h
    ∙ ap (λ (q : Value). then_run (answered plain (getpath_native_of x q)) (ended {A = Item} Done)) i
    ∙ then_run-none (answered plain (getpath_native_of x p))

set-run : (deeper : Means) (e : Env) (k : ℕ) (x p w : Value) → find_callee (codes "setpath") 2 e ≡ no_callee → find_value (codes "p") e ≡ p → find_value (codes "v") e ≡ w → meaning_with deeper set_part e k (plain x) ≡ answered plain (setpath_native_of x p w)
set-run deeper e k x p w h i j =
    called-none deeper (find_callee (codes "setpath") 2 e) (trees_of (variable (codes "p") ∷ variable (codes "v") ∷ [])) e k (plain x)
    (builtin_run (builtin_named (codes "setpath") 2) (arguments_with deeper (trees_of (variable (codes "p") ∷ variable (codes "v") ∷ [])) e k) (find_inputs e) (plain x)) h
    ∙ ap (λ (q : Value). then_run (then_run (answered plain (setpath_native_of x q (find_value (codes "v") e))) (ended {A = Item} Done)) (ended {A = Item} Done)) i
    ∙ ap (λ (q : Value). then_run (then_run (answered plain (setpath_native_of x p q)) (ended {A = Item} Done)) (ended {A = Item} Done)) j
    ∙ then_run-none (then_run (answered plain (setpath_native_of x p w)) (ended {A = Item} Done))
    ∙ then_run-none (answered plain (setpath_native_of x p w))

-- one output, and then a break
abbrev leaving : ℕ → Value → Run Item
leaving k v = record { items = plain v ∷ []; ending = Broken k }

module _ (deeper : Means) (e : Env) (k : ℕ) (s x ds p : Value) (body : Tree) (own : Env) (around : Around e p body own) (reads : Reads s x ds) where
  -- the bindings inside the turn; below, those with the new part
  abbrev inside : Env
  inside = bound (label_of (codes "out") k) (bound (value_of (codes "d") ds) (bound (value_of (codes "x") x) e))

  abbrev within : Value → Env
  within w = bound (value_of (codes "v") w) inside

  abbrev filtered : Value → Run Item
  filtered part = deeper body own (suc k) (plain part)

  -- $x | getpath($p) | u
  u-run : (part : Value) (c : Callee) → c ≡ found_closure body own → called deeper c (trees_of []) inside (suc k) (plain part) (builtin_run (builtin_named (codes "u") 0) (arguments_with deeper (trees_of []) inside (suc k)) (find_inputs inside) (plain part)) ≡ filtered part
  u-run part c h = ap (λ d. called deeper d (trees_of []) inside (suc k) (plain part) (builtin_run (builtin_named (codes "u") 0) (arguments_with deeper (trees_of []) inside (suc k)) (find_inputs inside) (plain part))) h

  new-known : (part : Value) (r : Run Item) → getpath_native_of x p ≡ Ok part → filtered part ≡ r → meaning_with deeper new_part inside (suc k) (plain s) ≡ r
  new-known part r h i =
      pipe-one deeper (variable (codes "x")) (pipe old_part update_call) inside (suc k) (plain s) (plain x) r refl
      (pipe-one deeper old_part update_call inside (suc k) (plain x) (plain part) r
      (old-run deeper inside (suc k) x p around.gets around.path ∙ ap (answered plain) h)
      (u-run part (find_callee (codes "u") 0 inside) around.passed ∙ i))

  new-refused : (err : Value) → getpath_native_of x p ≡ Err err → meaning_with deeper new_part inside (suc k) (plain s) ≡ fail err
  new-refused err h =
      pipe-one deeper (variable (codes "x")) (pipe old_part update_call) inside (suc k) (plain s) (plain x) (fail err) refl
      (ap (λ q. bind q (meaning_with deeper update_call inside (suc k))) (old-run deeper inside (suc k) x p around.gets around.path ∙ ap (answered plain) h))

  -- $x | setpath($p; $v)
  set-known : (w : Value) → meaning_with deeper set_on (within w) (suc k) (plain s) ≡ answered plain (setpath_native_of x p w)
  set-known w = pipe-one deeper (variable (codes "x")) set_part (within w) (suc k) (plain s) (plain x) (answered plain (setpath_native_of x p w)) refl (set-run deeper (within w) (suc k) x p w around.sets around.path refl)

  -- ($x | getpath($p) | u) as $v | [($x | setpath($p; $v)), $d], break $out
  put-known : (w : Item) (ws : List Item) (f : Ending) (y : Value) → meaning_with deeper new_part inside (suc k) (plain s) ≡ record { items = w ∷ ws; ending = f }
      → setpath_native_of x p (value_in w) ≡ Ok y → meaning_with deeper put_part inside (suc k) (plain s) ≡ leaving k (state y ds)
  put-known w ws f y h i =
      as-first deeper new_part changed (codes "v") inside (suc k) s w ws f (leaving k (state y ds)) h
      (ap (λ (q : Run Item). then_run q (ended (Broken k)))
      (pair-one deeper set_on (variable (codes "d")) (within (value_in w)) (suc k) s y ds (set-known (value_in w) ∙ ap (answered plain) i) refl))
      (λ q. refl)

  put-refused : (w : Item) (ws : List Item) (f : Ending) (err : Value) → meaning_with deeper new_part inside (suc k) (plain s) ≡ record { items = w ∷ ws; ending = f }
      → setpath_native_of x p (value_in w) ≡ Err err → meaning_with deeper put_part inside (suc k) (plain s) ≡ fail err
  put-refused w ws f err h i =
      as-first deeper new_part changed (codes "v") inside (suc k) s w ws f (fail err) h
      (ap (λ (q : Run Item). then_run q (ended (Broken k)))
      (pair-fails deeper set_on (variable (codes "d")) (within (value_in w)) (suc k) s err (set-known (value_in w) ∙ ap (answered plain) i)))
      (λ q. refl)

  -- $d + [$p]
  longer-run : meaning_with deeper longer inside (suc k) (plain s) ≡ answered plain (add_of ds (array (items_of (p ∷ []))))
  unfolding on_right on_left
  longer-run =
      let sum = answered plain (add_of ds (array (items_of (p ∷ [])))) in
      ap (λ (q : Value). then_run (then_run (answered plain (add_of ds (array (items_of (q ∷ []))))) (ended {A = Item} Done)) (ended {A = Item} Done)) around.path
      ∙ then_run-none (then_run sum (ended {A = Item} Done)) ∙ then_run-none sum

  -- [$x, $d + [$p]]
  skipped-run : (more : Value) → add_of ds (array (items_of (p ∷ []))) ≡ Ok more → meaning_with deeper without_part inside (suc k) (plain s) ≡ one (plain (state x more))
  skipped-run more i = pair-one deeper (variable (codes "x")) longer inside (suc k) s x more refl (longer-run ∙ ap (answered plain) i)

  skipped-refused : (err : Value) → add_of ds (array (items_of (p ∷ []))) ≡ Err err → meaning_with deeper without_part inside (suc k) (plain s) ≡ fail err
  skipped-refused err i = pair-fails_after deeper (variable (codes "x")) longer inside (suc k) s x err refl (longer-run ∙ ap (answered plain) i)

  abbrev rest : Run Item
  rest = meaning_with deeper without_part inside (suc k) (plain s)

  -- the turn is that of the label inside
  opened : (r t : Run Item) → meaning_with deeper put_part inside (suc k) (plain s) ≡ r → labelled k (then_run r rest) ≡ t → meaning_with deeper turn e k (plain s) ≡ t
  opened r t h j = pair-bound deeper choosing (codes "x") (codes "d") e k s x ds t reads (ap (λ (q : Run Item). labelled k (then_run q rest)) h ∙ j)

  -- ---- what follows a turn

  module _ (go : Item → Run Item) (next : Value → Value → Run Item) (same : (y d : Value) → go (plain (state y d)) ≡ next y d) (lost : go (plain null) ≡ next null null) where
    abbrev after : Run Item → Run Item
    after r = next_state (plain s) r go

    by-added : (part : Value) (a : Answer) → add_of ds (array (items_of (p ∷ []))) ≡ a → meaning_with deeper put_part inside (suc k) (plain s) ≡ none
        → after (meaning_with deeper turn e k (plain s)) ≡ with_answer a (next x)
    by-added part (Ok more) h i =
        ap after (opened none (one (plain (state x more))) i (ap (λ (q : Run Item). labelled k (then_run none q)) (skipped-run more h))) ∙ same x more
    by-added part (Err err) h i =
        ap after (opened none (fail err) i (ap (λ (q : Run Item). labelled k (then_run none q)) (skipped-refused err h)))

    by-level : (j : ℕ) (b : Bool) → go_on (if b then Done else Broken j) (go (plain null)) ≡ (if b then next null null else ended (Broken j))
    by-level j true = lost
    by-level j false = refl

    by-ending : (part : Value) (f : Ending) → meaning_with deeper new_part inside (suc k) (plain s) ≡ ended f
        → after (meaning_with deeper turn e k (plain s)) ≡ without_output k x ds p f next
    by-ending part Done h = by-added part (add_of ds (array (items_of (p ∷ [])))) refl (as-ended deeper new_part changed (codes "v") inside (suc k) s Done h)
    by-ending part (Raised err) h = ap after (opened (fail err) (fail err) (as-ended deeper new_part changed (codes "v") inside (suc k) s (Raised err) h) refl)
    by-ending part (Broken j) h =
        ap after (opened (ended (Broken j)) (labelled k (ended (Broken j))) (as-ended deeper new_part changed (codes "v") inside (suc k) s (Broken j) h) refl)
        ∙ by-level j (nat_eq j k)
    by-ending part (Stopped stop) h = ap after (opened (ended (Stopped stop)) (ended (Stopped stop)) (as-ended deeper new_part changed (codes "v") inside (suc k) s (Stopped stop) h) refl)

    by-set : (w : Item) (ws : List Item) (f : Ending) (a : Answer) → meaning_with deeper new_part inside (suc k) (plain s) ≡ record { items = w ∷ ws; ending = f }
        → setpath_native_of x p (value_in w) ≡ a → after (meaning_with deeper turn e k (plain s)) ≡ with_answer a (λ y. next y ds)
    by-set w ws f (Ok y) h i =
        ap after (opened (leaving k (state y ds)) (one (plain (state y ds))) (put-known w ws f y h i) (labelled-broken k (plain (state y ds)) rest)) ∙ same y ds
    by-set w ws f (Err err) h i = ap after (opened (fail err) (fail err) (put-refused w ws f err h i) refl)

    by-outputs : (part : Value) (ys : List Item) (f : Ending) → meaning_with deeper new_part inside (suc k) (plain s) ≡ record { items = ys; ending = f }
        → after (meaning_with deeper turn e k (plain s)) ≡ on_outputs k x ds p (record { items = ys; ending = f }) next
    by-outputs part [] f h = by-ending part f h
    by-outputs part (w ∷ ws) f h = by-set w ws f (setpath_native_of x p (value_in w)) h refl

    by-got : (a : Answer) → getpath_native_of x p ≡ a → after (meaning_with deeper turn e k (plain s)) ≡ with_answer a (λ part. on_outputs k x ds p (filtered part) next)
    by-got (Ok part) h = by-outputs part (filtered part).items (filtered part).ending (new-known part (filtered part) h refl)
    by-got (Err err) h = ap after (opened (fail err) (fail err) (as-ended deeper new_part changed (codes "v") inside (suc k) s (Raised err) (new-refused err h)) refl)

    pub turn-run : after (meaning_with deeper turn e k (plain s)) ≡ turn_of k filtered p x ds next
    turn-run = by-got (getpath_native_of x p) refl
