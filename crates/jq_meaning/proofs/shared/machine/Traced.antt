-- Runs with their traces, form by form.
use Rattle.std.proofs.Common.{◌≡◌, ℕ, List, [], ◌∷◌, Bool, true, false, Some, None, nat_eq, if◌then◌else◌, refl, sym, ap, ◌∙◌}
use Rattle.jv_data.specs.Value.{Value}
use Rattle.jq_natives.specs.Answers.{is_true}
use Rattle.jq_meaning.specs.Runs.{Item, plain, located, value_in, Ending, Done, Raised, Broken, Stopped, Run, ended, none, one, then_run, bind, bind_items, path_error, without_path, gathered, catch, alternative, labelled, paths_in, array_of_items}
use Rattle.jq_meaning.specs.Folds.{reduced, each_of}
use Rattle.jq_meaning.proofs.shared.machine.RunLaws.{bind-one_right}
use Rattle.jq_meaning.specs.machine.State.{Cell}
use Rattle.jq_meaning.specs.machine.Operations.{collect_value, note_true, state_in, replace_state, path_item}
use Rattle.jq_meaning.proofs.shared.machine.Flow.{taken, guarded, stored, FoldBehaviour, folded}
use Rattle.jq_meaning.proofs.shared.machine.Shapes.{on_raised, on_break, on_silenced, nothing_of, array_of, if_true, if_empty, missing, fold_of, give_state, give_nothing}
use Rattle.jq_meaning.proofs.shared.machine.Events.{Event, output, erase, tick, on_output, store_output, marked}
use Rattle.jq_meaning.proofs.shared.machine.ShapeLaws.{catch-guarded, labelled-guarded, gathered-stored, alternative-stored, each-folded, reduced-folded, no_item-bind, paths-bind}
use Rattle.jq_meaning.proofs.shared.machine.EventLaws.{erase-then_run, Erases, erase-bind, erase-guarded, erase-stored, FoldErases, erase-folded}

pub record Traced {A : Type 0} (r : Run A) : Type 0 where
  pub trace : Run (Event A)
  pub same : erase trace ≡ r

abbrev pub t_ended : {A : Type 0} (e : Ending) → Traced (ended {A = A} e)
t_ended e = record { trace = ended e; same = refl }

abbrev pub t_one : {A : Type 0} (x : A) → Traced (one x)
t_one x = record { trace = one (output x); same = refl }

abbrev pub t_tick : {A : Type 0} {r : Run A} → Traced r → Traced r
t_tick t = record { trace = tick t.trace; same = t.same }

abbrev pub t_then : {A : Type 0} {r s : Run A} → Traced r → Traced s → Traced (then_run r s)
t_then {r = r} {s = s} t u =
    record { trace = then_run t.trace u.trace; same = erase-then_run t.trace u.trace ∙ ap (λ q. then_run q (erase u.trace)) t.same ∙ ap (then_run r) u.same }

pub erases : {A B : Type 0} (g : A → Run (Event B)) (h : A → Run B) → ((x : A) → erase (g x) ≡ h x) → Erases (on_output g) h
erases g h p = record { of_visit = refl; of_output = p }

abbrev pub t_bind : {A B : Type 0} {r : Run A} {g : A → Run B} → Traced r → ((x : A) → Traced (g x)) → Traced (bind r g)
t_bind {r = r} {g = g} t u =
    record { trace = bind t.trace (on_output (λ x. (u x).trace)); same = erase-bind (on_output (λ x. (u x).trace)) g (erases (λ x. (u x).trace) g (λ x. (u x).same)) t.trace ∙ ap (λ q. bind q g) t.same }

abbrev pub t_cast : {A : Type 0} {r s : Run A} → r ≡ s → Traced r → Traced s
t_cast p t = record { trace = t.trace; same = t.same ∙ p }

-- a mark before each item
abbrev pub spread : {A : Type 0} → Run A → Run (Event A)
spread r = bind r (λ x. tick (one (output x)))

pub spread-items : {A : Type 0} (xs : List A) (e : Ending) → erase (bind_items xs e (λ x. tick (one (output x)))) ≡ record { items = xs; ending = e }
spread-items [] e = refl
spread-items (x ∷ xs) e = ap (λ r. then_run (one x) r) (spread-items xs e)

abbrev pub t_spread : {A : Type 0} (r : Run A) → Traced r
t_spread r = record { trace = spread r; same = spread-items r.items r.ending }

-- a mark after the run of a pattern
abbrev pub t_bound : {A : Type 0} {r : Run A} → Traced r → Traced r
t_bound {r = r} t = t_cast (bind-one_right r) (t_bind t (λ x. t_tick (t_one x)))

-- ---- try, label, //

-- an item that passes costs a visit
abbrev pub pass : {A : Type 0} → Event A → Run (Event A)
pass = on_output (λ x. one (output x))

pub pass-same : {A : Type 0} (t : Run (Event A)) → erase (bind t pass) ≡ erase t
pass-same t = erase-bind pass one (erases (λ x. one (output x)) one (λ x. refl)) t ∙ bind-one_right (erase t)

pub raised-same : (g : Value → Run (Event Item)) (h : Value → Run Item) → ((v : Value) → erase (g v) ≡ h v) → (e : Ending) → erase (taken e (on_raised g e)) ≡ taken e (on_raised h e)
raised-same g h p Done = refl
raised-same g h p (Raised v) = p v
raised-same g h p (Broken k) = refl
raised-same g h p (Stopped stop) = refl

abbrev pub t_catch : {r : Run Item} {g : Value → Run Item} → Traced r → ((v : Value) → Traced (g v)) → Traced (catch r g)
t_catch {r = r} {g = g} t u =
    record {
      trace = guarded (on_raised (λ v. tick (u v).trace)) (bind t.trace pass);
      same = erase-guarded (on_raised (λ v. tick (u v).trace)) (on_raised g) (bind t.trace pass) (raised-same (λ v. tick (u v).trace) g (λ v. (u v).same)) ∙ ap (guarded (on_raised g)) (pass-same t.trace ∙ t.same) ∙ sym (catch-guarded r g);
    }

pub break-choose : (k : ℕ) (t : Bool) → erase (taken {B = Event Item} (Broken k) (if t then Some (tick none) else None)) ≡ taken (Broken k) (if t then Some none else None)
break-choose k true = refl
break-choose k false = refl

pub break-same : (level : ℕ) (e : Ending) → erase (taken {B = Event Item} e (on_break (tick none) level e)) ≡ taken e (on_break none level e)
break-same level Done = refl
break-same level (Raised v) = refl
break-same level (Broken k) = break-choose k (nat_eq k level)
break-same level (Stopped stop) = refl

abbrev pub t_labelled : {r : Run Item} (level : ℕ) → Traced r → Traced (labelled level r)
t_labelled {r = r} level t =
    record {
      trace = guarded (on_break (tick none) level) (bind t.trace pass);
      same = erase-guarded (on_break (tick none) level) (on_break none level) (bind t.trace pass) (break-same level) ∙ ap (guarded (on_break none level)) (pass-same t.trace ∙ t.same) ∙ sym (labelled-guarded level r);
    }

pub silenced-same : (e : Ending) → erase (taken {B = Event Item} e (on_silenced (tick none) e)) ≡ taken e (on_silenced none e)
silenced-same Done = refl
silenced-same (Raised v) = refl
silenced-same (Broken k) = refl
silenced-same (Stopped stop) = refl

abbrev pub true_output : Item → Run (Event Item)
true_output x = if is_true (value_in x) then one (output x) else none

pub true-choose : (t : Bool) (x : Item) → erase (if t then one (output x) else none) ≡ (if t then one x else none)
true-choose true x = refl
true-choose false x = refl

pub empty-same : (r : Run (Event Item)) (q : Run Item) → erase r ≡ q → (c : Cell) → erase (if_empty r c) ≡ if_empty q c
empty-same r q p [] = p
empty-same r q p (x ∷ c) = refl

abbrev pub t_alternative : {r : Run Item} (g : Item → Run Item) (x : Item) → Traced r → Traced (g x) → Traced (alternative r g x)
t_alternative {r = r} g x t u =
    record {
      trace = stored (store_output note_true) (on_output true_output) (if_empty u.trace) [] (guarded (on_silenced (tick none)) t.trace);
      same =
          erase-stored note_true (on_output true_output) if_true (if_empty u.trace) (if_empty (g x)) (erases true_output if_true (λ y. true-choose (is_true (value_in y)) y)) (empty-same u.trace (g x) u.same) [] (guarded (on_silenced (tick none)) t.trace)
          ∙ ap (stored note_true if_true (if_empty (g x)) []) (erase-guarded (on_silenced (tick none)) (on_silenced none) t.trace silenced-same ∙ ap (guarded (on_silenced none)) t.same)
          ∙ sym (alternative-stored r g x);
    }

-- ---- arrays and folds

abbrev pub t_gathered : {r : Run Item} → Traced r → Traced (gathered r)
t_gathered {r = r} t =
    record {
      trace = stored (store_output collect_value) (on_output (λ x. none)) (λ c. one (output (plain (array_of_items c)))) [] t.trace;
      same =
          erase-stored collect_value (on_output (λ x. none)) nothing_of (λ c. one (output (plain (array_of_items c)))) array_of (erases (λ x. none) nothing_of (λ x. refl)) (λ c. refl) [] t.trace
          ∙ ap (stored collect_value nothing_of array_of []) t.same ∙ sym (gathered-stored r);
    }

pub missing-same : (x : Item) (d : Cell) → erase (missing {B = Event Item} x d) ≡ missing x d
missing-same (plain v) d = refl
missing-same (located v p) [] = refl
missing-same (located v p) (y ∷ d) = refl

abbrev pub trace_fold : {S : Type 0} → (S → Item → Run (Event Item)) → (S → Item → Run (Event Item)) → FoldBehaviour S (Event Item) (Event Item)
trace_fold update extract =
    record { begin = λ b c. []; update = λ b c. update b (state_in c); store = store_output replace_state; extract = λ b. on_output (extract b); check = λ b c d. missing (state_in c) d }

pub fold-erases : {S : Type 0} (u x : S → Item → Run (Event Item)) (u' x' : S → Item → Run Item) → ((b : S) (y : Item) → erase (u b y) ≡ u' b y) → ((b : S) (y : Item) → erase (x b y) ≡ x' b y) → FoldErases (trace_fold u x) (fold_of u' x')
fold-erases u x u' x' p q =
    record { begins = λ b c. refl; updates = λ b c. p b (state_in c); stores = refl; extracts = λ b. erases (x b) (x' b) (q b); checks = λ b c d. missing-same (state_in c) d }

abbrev pub t_each : {S : Type 0} {update extract : S → Item → Run Item} {r : Run S} → Traced r → ((b : S) (y : Item) → Traced (update b y)) → ((b : S) (y : Item) → Traced (extract b y)) → (state : Item) → Traced (each_of update extract r.items r.ending state)
t_each {S = S} {update = update} {extract = extract} {r = r} t u x state =
    record {
      trace = folded (marked (trace_fold (λ b y. (u b y).trace) (λ b y. (x b y).trace))) (λ c. none) t.trace.items t.trace.ending (state ∷ []);
      same =
          erase-folded (trace_fold (λ b y. (u b y).trace) (λ b y. (x b y).trace)) (fold_of update extract) (λ c. none) give_nothing (fold-erases (λ b y. (u b y).trace) (λ b y. (x b y).trace) update extract (λ b y. (u b y).same) (λ b y. (x b y).same)) (λ c. refl) t.trace.items t.trace.ending (state ∷ [])
          ∙ ap (λ (q : Run S). folded (fold_of update extract) give_nothing q.items q.ending (state ∷ [])) t.same
          ∙ sym (each-folded update extract r.items r.ending (state ∷ []));
    }

abbrev pub t_reduced : {S : Type 0} {update : S → Item → Run Item} {r : Run S} → Traced r → ((b : S) (y : Item) → Traced (update b y)) → (state : Item) → Traced (reduced update r.items r.ending state)
t_reduced {S = S} {update = update} {r = r} t u state =
    record {
      trace = folded (marked (trace_fold (λ b y. (u b y).trace) (λ b y. none))) (λ c. one (output (state_in c))) t.trace.items t.trace.ending (state ∷ []);
      same =
          erase-folded (trace_fold (λ b y. (u b y).trace) (λ b y. none)) (fold_of update (λ b. nothing_of)) (λ c. one (output (state_in c))) give_state (fold-erases (λ b y. (u b y).trace) (λ b y. none) update (λ b. nothing_of) (λ b y. (u b y).same) (λ b y. refl)) (λ c. refl) t.trace.items t.trace.ending (state ∷ [])
          ∙ ap (λ (q : Run S). folded (fold_of update (λ b. nothing_of)) give_state q.items q.ending (state ∷ [])) t.same
          ∙ sym (reduced-folded update r.items r.ending (state ∷ []));
    }

-- ---- paths

abbrev pub t_without_path : {r : Run Item} (x : Item) → Traced r → Traced (without_path x r)
t_without_path (plain v) t = t
t_without_path {r = r} (located v p) t = t_cast (sym (no_item-bind r.items r.ending)) (t_bind (t_tick t) (λ x. t_spread path_error))

abbrev pub t_paths_in : {r : Run Item} → Traced r → Traced (paths_in r)
t_paths_in {r = r} t = t_cast (sym (paths-bind r)) (t_bind t (λ x. t_spread (path_item x)))
