-- How often a request starts the filter.
use Rattle.std.proofs.Common.{◌≡◌, ◌+◌, ℕ, List, Result, Ok, Err, refl, sym, ap, subst, arith}
use Rattle.std.specs.Prelude.{MatchResult}
use Rattle.jv_data.specs.Value.{Value}
use Rattle.jv_text.specs.declared.faults.Fault.{Fault}
use Rattle.jq_pages.specs.Edits.{Edit, Reason}
use Rattle.jq_pages.specs.Edits as edits
use Rattle.jq_pages.specs.Folds.{Rises}
use Rattle.jq_session.specs.Starts.{AllowedMove, AllowedStarts, IsStarted}
use Rattle.jq_session.specs.States.{Plan, State, after, after_move, each, fold, until_halt, whole}
use Rattle.jq_script.specs.Requests.{Change, Request, change, remove, move, show, errors, status, unknown}
use Rattle.jq_script.specs.Script.{MayStart, edit_of, text_value}

none_in : (p : Plan) (edit : Edit) (old new : State) (a : ℕ) → AllowedStarts p edit old new a a
none_in each edit old new a = record { low = omega arith; high = omega arith }
none_in (fold f) edit old new a = λ m goes_on. record { low = omega arith; high = omega arith }
none_in until_halt edit old new a = λ m goes_on. record { low = omega arith; high = omega arith }
none_in whole edit old new a = record { low = omega arith; high = omega arith }

none_by : (edit : Edit) (old : State) (r : Result State Reason) (a : ℕ) → MatchResult r (λ new. AllowedStarts old.plan edit old new a a) (λ reason. a ≡ a)
none_by edit old (Ok new) a = none_in old.plan edit old new a
none_by edit old (Err reason) a = refl

none_of : (c : Change) (s : State) (r : Result Value Fault) (a : ℕ) → MatchResult r (λ v. IsStarted (edit_of c s v) s a a) (λ fault. a ≡ a)
none_of c s (Ok v) a = none_by (edit_of c s v) s (after (edit_of c s v) s) a
none_of c s (Err fault) a = refl

none_in_move : (p : Plan) (k l : ℕ) (old new : State) (a : ℕ) → AllowedMove p k l old new a a
none_in_move each k l old new a = record { low = omega arith; high = omega arith }
none_in_move (fold f) k l old new a = λ halves m n first second. record { low = omega arith; high = omega arith }
none_in_move until_halt k l old new a = λ halves m n first second. record { low = omega arith; high = omega arith }
none_in_move whole k l old new a = λ halves. record { low = omega arith; high = omega arith }

none_by_move : (k l : ℕ) (old : State) (r : Result State Reason) (a : ℕ) → MatchResult r (λ new. AllowedMove old.plan k l old new a a) (λ reason. a ≡ a)
none_by_move k l old (Ok new) a = none_in_move old.plan k l old new a
none_by_move k l old (Err reason) a = refl

-- nothing was started
pub none_may : (request : Request) (s : State) (a : ℕ) → MayStart request s a a
none_may (change c text) s a = none_of c s (text_value text) a
none_may (remove k) s a = none_by (edits.remove k) s (after (edits.remove k) s) a
none_may (move k l) s a = none_by_move k l s (after_move k l s) a
none_may show s a = refl
none_may errors s a = refl
none_may status s a = refl
none_may unknown s a = refl

-- an edit with the value of a text
pub edit_may : (c : Change) (text : List ℕ) (s : State) (v : Value) (a b : ℕ) → text_value text ≡ Ok v → IsStarted (edit_of c s v) s a b → MayStart (change c text) s a b
edit_may c text s v a b e h = subst (λ r. MatchResult r (λ w. IsStarted (edit_of c s w) s a b) (λ fault. b ≡ a)) (sym e) h

-- ---- the same with as many more before and after

more_rises : (a b by n : ℕ) → Rises a b by → Rises (a + n) (b + n) by
more_rises a b by n h = let low = h.low in let high = h.high in record { low = omega (arith, low); high = omega (arith, high) }

more_in : (p : Plan) (edit : Edit) (old new : State) (a b n : ℕ) → AllowedStarts p edit old new a b → AllowedStarts p edit old new (a + n) (b + n)
more_in each edit old new a b n h = more_rises a b _ n h
more_in (fold f) edit old new a b n h = λ m goes_on. more_rises a b _ n (h m goes_on)
more_in until_halt edit old new a b n h = λ m goes_on. more_rises a b _ n (h m goes_on)
more_in whole edit old new a b n h = more_rises a b _ n h

more_by : (edit : Edit) (old : State) (r : Result State Reason) (a b n : ℕ) → MatchResult r (λ new. AllowedStarts old.plan edit old new a b) (λ reason. b ≡ a)
    → MatchResult r (λ new. AllowedStarts old.plan edit old new (a + n) (b + n)) (λ reason. b + n ≡ a + n)
more_by edit old (Ok new) a b n h = more_in old.plan edit old new a b n h
more_by edit old (Err reason) a b n h = ap (λ x. x + n) h

more_of : (c : Change) (s : State) (r : Result Value Fault) (a b n : ℕ) → MatchResult r (λ v. IsStarted (edit_of c s v) s a b) (λ fault. b ≡ a)
    → MatchResult r (λ v. IsStarted (edit_of c s v) s (a + n) (b + n)) (λ fault. b + n ≡ a + n)
more_of c s (Ok v) a b n h = more_by (edit_of c s v) s (after (edit_of c s v) s) a b n h
more_of c s (Err fault) a b n h = ap (λ x. x + n) h

more_in_move : (p : Plan) (k l : ℕ) (old new : State) (a b n : ℕ) → AllowedMove p k l old new a b → AllowedMove p k l old new (a + n) (b + n)
more_in_move each k l old new a b n h = more_rises a b _ n h
more_in_move (fold f) k l old new a b n h = λ halves p q first second. more_rises a b _ n (h halves p q first second)
more_in_move until_halt k l old new a b n h = λ halves p q first second. more_rises a b _ n (h halves p q first second)
more_in_move whole k l old new a b n h = λ halves. more_rises a b _ n (h halves)

more_by_move : (k l : ℕ) (old : State) (r : Result State Reason) (a b n : ℕ) → MatchResult r (λ new. AllowedMove old.plan k l old new a b) (λ reason. b ≡ a)
    → MatchResult r (λ new. AllowedMove old.plan k l old new (a + n) (b + n)) (λ reason. b + n ≡ a + n)
more_by_move k l old (Ok new) a b n h = more_in_move old.plan k l old new a b n h
more_by_move k l old (Err reason) a b n h = ap (λ x. x + n) h

pub more_may : (request : Request) (s : State) (a b n : ℕ) → MayStart request s a b → MayStart request s (a + n) (b + n)
more_may (change c text) s a b n h = more_of c s (text_value text) a b n h
more_may (remove k) s a b n h = more_by (edits.remove k) s (after (edits.remove k) s) a b n h
more_may (move k l) s a b n h = more_by_move k l s (after_move k l s) a b n h
more_may show s a b n h = ap (λ x. x + n) h
more_may errors s a b n h = ap (λ x. x + n) h
more_may status s a b n h = ap (λ x. x + n) h
more_may unknown s a b n h = ap (λ x. x + n) h
