-- Clauses on results.
use Rattle.std.proofs.Common.{◌≡◌, ◌≢◌, Result, Ok, Err, IfOk, IfErr, OnOk, OnErr, is_ok, IsErrAnd, sym, subst}
use Rattle.std.proofs.lemmas.Bool.{false≢true}
use Rattle.std.proofs.lemmas.Result.{IfErr-weaker, IfOk-weaker, on_err_weaker, on_ok_weaker}

pub on_err : {A E : Type 0} (r : Result A E) {P : Type 0} → P → OnErr r P
on_err (Ok a) h = tt
on_err (Err e) h = h

-- ---- weaker clauses: the clause comes before the function, so that the function's argument has a known type

pub on_ok_map : {A E : Type 0} (r : Result A E) {P Q : Type 0} → OnOk r P → (P → Q) → OnOk r Q
on_ok_map r h f = on_ok_weaker r f h

pub on_err_map : {A E : Type 0} (r : Result A E) {P Q : Type 0} → OnErr r P → (P → Q) → OnErr r Q
on_err_map r h f = on_err_weaker r f h

pub if_ok_map : {A E : Type 0} (r : Result A E) {P Q : A → Type 0} → IfOk r P → ((a : A) → P a → Q a) → IfOk r Q
if_ok_map r {P} {Q} h f = IfOk-weaker r P Q f h

pub if_err_map : {A E : Type 0} (r : Result A E) {P Q : E → Type 0} → IfErr r P → ((e : E) → P e → Q e) → IfErr r Q
if_err_map r {P} {Q} h f = IfErr-weaker r P Q f h

-- from two clauses on an error
pub if_err_both : {A E : Type 0} (r : Result A E) {P Q R : E → Type 0} → IfErr r P → IfErr r Q → ((e : E) → P e → Q e → R e) → IfErr r R
if_err_both (Ok a) h k f = tt
if_err_both (Err e) h k f = f e h k

-- an error that does not come
pub if_other : {A E : Type 0} (r : Result A E) (e : E) (P : Type 0) → IfErr r (λ x. x ≢ e) → IfErr r (λ x. x ≡ e → P)
if_other (Ok a) e P other = tt
if_other (Err x) e P other = λ is. absurd (other is)

-- an error is returned unchanged
pub error_returned : {A E : Type 0} (r : Result A E) (e : E) (P : E → Type 0) → IsErrAnd r (λ x. x ≡ e) → P e → IfErr r P
error_returned (Ok a) e P is h = tt
error_returned (Err x) e P is h = subst P (sym is) h

-- ---- a result whose error was mapped

pub err_mapped : {A D E : Type 0} (r : Result A D) (q : Result A E) {P Q : Type 0} → is_ok q ≡ is_ok r → OnErr r P → (P → Q) → OnErr q Q
err_mapped r (Ok b) same h f = tt
err_mapped (Ok a) (Err e) same h f = absurd (false≢true same)
err_mapped (Err d) (Err e) same h f = f h

pub ok_mapped : {A D E : Type 0} (r : Result A D) (q : Result A E) {P Q : Type 0} → is_ok q ≡ is_ok r → OnOk r P → (P → Q) → OnOk q Q
ok_mapped (Ok a) (Ok b) same h f = f h
ok_mapped (Err d) (Ok b) same h f = absurd (false≢true (sym same))
ok_mapped r (Err e) same h f = tt
