-- From a move of the pages to what `Pages::shift` says of it.
use Rattle.std.proofs.Common.{◌≡◌, ℕ, ◌+◌, ◌-◌, ◌<◌, ◌≤◌, inl, inr, List, [], ◌∷◌, ◌++◌, length, take, drop, refl, sym, ◌∙◌, ap, ap₂, subst, subst₂, arith, append-nil, add-one, IsTrue, Result, Ok, Err, IfOk, IsOk, MatchResult, OnErr, Some, slice_get}
use Rattle.std.proofs.lemmas.List.Edits.{length-remove}
use Rattle.std.proofs.lemmas.Option.{get_or_from_slice_get}
use Rattle.std.proofs.Math.Logic.{∥∥₁_elim}
use Rattle.std.proofs.Props.{props}
use Rattle.std.specs.List as list
use Rattle.std.specs.List.{replace_range}
use Rattle.jv_data.specs.Value.{Value}
use Rattle.jv_data.specs.View.{view}
use Rattle.jv_data.specs.declared.values.Val.{Val}
use Rattle.jq_pages.specs.Changes.{IsChange, IsMeeting}
use Rattle.jq_pages.specs.Contents.{folded_in}
use Rattle.jq_pages.specs.Edits.{Edit, insert, remove, place, taken, added, edited, after, with_inputs}
use Rattle.jq_pages.specs.Folds.{Fold, Folded, Rises, all}
use Rattle.jq_pages.specs.Moves.{Halves, IsMove, IsMoveStarted, IsRerunTwice, after_move, moved_input}
use Rattle.jq_pages.specs.Pieces.{piece_view}
use Rattle.jq_pages.specs.Splices.{IsSpliced}
use Rattle.jq_pages.specs.Totals.{totals}
use Rattle.jq_pages.specs.private.Moves.{IsShift, IsShiftStart, MayRise}
use Rattle.jq_pages.specs.private.Pages.{all_inputs, IsHeld}
use Rattle.jq_pages.specs.private.Reruns.{count_in}
use Rattle.jq_pages.specs.declared.changes.Moved.{Moved}
use Rattle.jq_pages.specs.declared.kept.Kept.{Kept}
use Rattle.jq_pages.specs.declared.page.Page.{Page}
use Rattle.jq_pages.specs.declared.pieces.Piece.{Piece}
use Rattle.jq_pages.specs.declared.steps.Steps.{Ghosts}
use Rattle.jq_pages.proofs.Edits.{inputs_count}
use Rattle.jq_pages.proofs.Filled.{same_count}
use Rattle.jq_pages.proofs.Public.{Accepts, accepted, accepts_insert, accepts_remove, after_edit, all_of, change_of, count_made, far_enough, folded_kept, made, meets, same_folded, spliced_of}
use Rattle.jq_pages.proofs.Reruns.{rises_within}
use Rattle.jq_pages.proofs.Sets.{sets}
use Rattle.jq_pages.proofs.Shifts.{an_input}

-- the inputs without this one
abbrev pub less : ℕ → List Value → List Value
less k vs = made (remove k) [] vs

less_is : (k : ℕ) (vs : List Value) → list.remove vs k ≡ less k vs
less_is k vs = ap (λ n. take k vs ++ drop n vs) (sym (add-one k)) ∙ ap (λ z. z ++ drop (k + 1) vs) (sym (append-nil (take k vs)))

less_count : (k : ℕ) (vs : List Value) → k < length vs → length (less k vs) + 1 ≡ length vs
less_count k vs l = ap (λ z. length z + 1) (sym (less_is k vs)) ∙ length-remove vs k l

-- an insertion into the shorter list
accepts_second : (k l : ℕ) (w : Val) (vs : List Value) → k < length vs → l < length vs → length vs ≤ 1000000 → Accepts (insert l (view w)) (w ∷ []) (less k vs)
accepts_second k l w vs a b c =
    let n : length (less k vs) + 1 ≡ length vs = less_count k vs a in
    let x : l ≤ length (less k vs) = omega arith in
    let y : length (less k vs) < 1000000 = omega arith in
    accepts_insert l w (less k vs) x y

-- ---- a move that the definition accepts

-- the inputs after the move of this one
abbrev pub moved_to : (k l : ℕ) → Val → List Value → List Value
moved_to k l w vs = made (insert l (view w)) (w ∷ []) (less k vs)

pub move_accepted : {S : Type 0} (r : Fold S) (k l : ℕ) (w : Val) (vs : List Value) → slice_get vs k ≡ Some (view w) → k < length vs → l < length vs → length vs ≤ 1000000 → after_move k l (folded_in r vs) ≡ Ok (folded_in r (moved_to k l w vs))
move_accepted r k l w vs there a b c =
    ap (λ o. with_inputs (folded_in r vs) (moved_input o k l vs)) there
    ∙ ap (λ z. with_inputs (folded_in r vs) (edited (insert l (view w)) z)) (less_is k vs)
    ∙ ap (with_inputs (folded_in r vs)) ((accepts_second k l w vs a b c).0)

-- ---- how often the filter is started

rise_of : {S : Type 0} (e : Edit) (put : List Val) (r : Fold S) (s : S) (vs : List Value) (b a q : ℕ) → length put ≡ added e → s ≡ r.begin.1 → MayRise r s vs (made e put vs) (place e) (length put) (taken e) 64 b a → IsMeeting e (folded_in r vs) (folded_in r (made e put vs)) q → Rises b a ((q - place e) + 129)
rise_of e put r s vs b a q n begin x m = elim m [
  | inl y ↦ rises_within _ _ _ _ (x.0 q (meets e put r s vs q n begin y)) (far_enough _)
  | inr y ↦ subst (λ z. Rises b a ((z - place e) + 129)) (sym y) (rises_within _ _ _ _ x.1 (far_enough _))
]

rises_both : (a b c n m : ℕ) → Rises a b n → Rises b c m → Rises a c (n + m)
rises_both a b c n m x y =
    let xl : a ≤ b = x.low in
    let xh : b ≤ a + n = x.high in
    let yl : b ≤ c = y.low in
    let yh : c ≤ b + m = y.high in
    record { low = omega arith; high = omega arith }

abbrev ok_value : {A E : Type 0} → A → Result A E → A
ok_value d (Ok a) = a
ok_value d (Err e) = d

same_ok : {A E : Type 0} (x : Result A E) (a b : A) → x ≡ Ok a → x ≡ Ok b → a ≡ b
same_ok x a b p q = ap (ok_value a) (sym p ∙ q)

same_there : (vs : List Value) (k : ℕ) (v w : Value) → slice_get vs k ≡ Some v → slice_get vs k ≡ Some w → v ≡ w
same_there vs k v w p q = sym (get_or_from_slice_get vs k v v p) ∙ get_or_from_slice_get vs k w v q

twice : {S : Type 0} (r : Fold S) (s : S) (vs : List Value) (k l b a : ℕ) (w : Val) → slice_get vs k ≡ Some (view w) → k < length vs → s ≡ r.begin.1 → IsShiftStart r s vs k l 64 64 b a → (h : Halves k l (folded_in r vs) (folded_in r (moved_to k l w vs))) (q u : ℕ) → IsMeeting (remove k) (folded_in r vs) h.middle q → IsMeeting (insert l h.value) h.middle (folded_in r (moved_to k l w vs)) u → Rises b a (((q - k) + 129) + ((u - l) + 129))
twice {S} r s vs k l b a w there has begin x h q u m n =
    let mid : h.middle ≡ folded_in r (less k vs) = same_ok (after (remove k) (folded_in r vs)) h.middle (folded_in r (less k vs)) h.removed (accepted (remove k) [] r vs (accepts_remove k vs has)) in
    let value : h.value ≡ view w = same_there vs k h.value (view w) h.there there in
    let moves : view x.value ≡ view w = same_there vs k (view x.value) (view w) x.there there in
    let first : IsMeeting (remove k) (folded_in r vs) (folded_in r (less k vs)) q = subst (λ z. IsMeeting (remove k) (folded_in r vs) z q) mid m in
    let second : IsMeeting (insert l (view w)) (folded_in r (less k vs)) (folded_in r (moved_to k l w vs)) u = subst₂ (λ (v : Value) (z : Folded S). IsMeeting (insert l v) z (folded_in r (moved_to k l w vs)) u) value mid n in
    let rise : MayRise r s (less k vs) (moved_to k l w vs) l 1 0 64 x.between a = subst (λ (v : Value). MayRise r s (less k vs) (replace_range (less k vs) l (l + 0) (v ∷ [])) l 1 0 64 x.between a) moves x.insertion in
    rises_both _ _ _ _ _ (rise_of (remove k) [] r s vs b x.between q refl begin x.removal first) (rise_of (insert l (view w)) (w ∷ []) r s (less k vs) x.between a u refl begin rise second)

-- ---- the same of what `Pages` keeps: `steps`, `ps` and `end` are its steps, its pages and the piece of `close` after the move

abbrev pub ShiftOf : {S T : Type 0} {own : Ghosts S T} → Kept S T own → List (Page T) → Piece → (k l : ℕ) → Moved → Type 0
ShiftOf {S} {T} {own} old ps end k l m = ∥ IsShift own.seen (own.fold old.steps) (own.seen old.first) (piece_view old.head) old.pages.items ps old.tail end k l m ∥₁

pub kept_few : {S T : Type 0} {own : Ghosts S T} (x : Kept S T own) → length (folded_kept x).inputs ≤ 1000000
kept_few x =
    let n : length (all_inputs x.pages.items) ≡ count_in x.pages.items = inputs_count x.pages.items in
    let c : x.count ≡ count_in x.pages.items = x.counted in
    let m : x.count ≤ 1000000 = x.not_over_full in
    omega arith

pub kept_input : {S T : Type 0} {own : Ghosts S T} (x : Kept S T own) (k : ℕ) → k < length (folded_kept x).inputs → (w : Val) × (slice_get (folded_kept x).inputs k ≡ Some (view w))
kept_input x k l = an_input x.pages.items k (subst (λ n. k < n) (inputs_count x.pages.items) l)

module _ {S T : Type 0} {own : Ghosts S T} (old : Kept S T own) (steps : S) (ps : List (Page T)) (end : Piece) (k l : ℕ) (has : k < length (folded_kept old).inputs) (gap : l < length (folded_kept old).inputs) where
  pub accepted_move : IsOk (after_move k l (folded_kept old))
  accepted_move = let w = kept_input old k has in subst IsOk (sym (move_accepted (own.fold old.steps) k l w.0 (folded_kept old).inputs w.1 has gap (kept_few old))) refl

  inputs_moved : (m : Moved) (w : Val) → slice_get (folded_kept old).inputs k ≡ Some (view w) → ShiftOf old ps end k l m → all_inputs ps ≡ moved_to k l w (folded_kept old).inputs
  inputs_moved m w there x =
      let vs = (folded_kept old).inputs in
      ∥∥₁_elim x (hlevel sets) (λ y. y.insertion.inputs ∙ ap₂ (λ (v : Value) z. replace_range z l (l + 0) (v ∷ [])) (same_there vs k (view y.value) (view w) y.there there) y.removal.inputs)

  pub moved_after : (m : Moved) → own.fold steps ≡ own.fold old.steps → ShiftOf old ps end k l m → after_move k l (folded_kept old) ≡ Ok (folded_in (own.fold steps) (all_inputs ps))
  moved_after m same x =
      let vs = (folded_kept old).inputs in
      let w = kept_input old k has in
      move_accepted (own.fold old.steps) k l w.0 vs w.1 has gap (kept_few old) ∙ ap Ok (sym (same_folded (own.fold old.steps) (own.fold steps) (moved_to k l w.0 vs) (all_inputs ps) same (inputs_moved m w.0 w.1 x)))

  pub counted_moved : (m : Moved) → ShiftOf old ps end k l m → count_in ps ≡ count_in old.pages.items
  counted_moved m x =
      let vs = (folded_kept old).inputs in
      let w = kept_input old k has in
      let z = accepts_second k l w.0 vs has gap (kept_few old) in
      let n : length (less k vs) + 1 ≡ length vs = less_count k vs has in
      let o : length vs ≡ count_in old.pages.items = inputs_count old.pages.items in
      let p : length (all_inputs ps) ≡ count_in ps = inputs_count ps in
      let q : length (moved_to k l w.0 vs) + 0 ≡ length (less k vs) + 1 = count_made (less k vs) (view w.0 ∷ []) l 0 z.1 in
      let e : length (all_inputs ps) ≡ length (moved_to k l w.0 vs) = ap length (inputs_moved m w.0 w.1 x) in
      omega arith

  pub started_move : (b a : ℕ) → ∥ IsShiftStart (own.fold old.steps) (own.seen old.first) (folded_kept old).inputs k l 64 64 b a ∥₁ → (IsTrue (own.fold old.steps).plain → Rises b a 1) → IsMoveStarted k l (folded_kept old) b a
  started_move b a x plain =
      let r = own.fold old.steps in
      let vs = (folded_kept old).inputs in
      let w = kept_input old k has in
      subst (λ z. MatchResult z (λ new. IsRerunTwice k l (folded_kept old) new b a) (λ reason. a ≡ b)) (sym (move_accepted r k l w.0 vs w.1 has gap (kept_few old)))
      (record {
        rises = λ h q u m n. ∥∥₁_elim old.begun (hlevel props) (λ y. ∥∥₁_elim x (hlevel props) (λ z. twice r (own.seen old.first) vs k l b a w.0 w.1 has y.first z h q u m n));
        plain = plain;
      })

  pub halves_of : (m : Moved) → own.fold steps ≡ own.fold old.steps → ∥ IsHeld own.seen (own.fold steps) (own.seen old.first) ps end ∥₁ → ShiftOf old ps end k l m → IsMove k l m (folded_kept old) (folded_in (own.fold steps) (all_inputs ps))
  halves_of m same held x =
      let r = own.fold old.steps in
      let r' = own.fold steps in
      let s = own.seen in
      let vs = (folded_kept old).inputs in
      let w = kept_input old k has in
      let first = accepts_remove k vs has in
      let second = accepts_second k l w.0 vs has gap (kept_few old) in
      let later : (v : Val) (ws : List Value) → ws ≡ less k vs → Accepts (insert l (view v)) (v ∷ []) ws = λ v ws e. subst (λ z. Accepts (insert l (view v)) (v ∷ []) z) (sym e) (accepts_second k l v vs has gap (kept_few old)) in
      record {
        halves = record {
          value = view w.0;
          middle = folded_in r (less k vs);
          there = w.1;
          removed = accepted (remove k) [] r vs first;
          inserted = after_edit (insert l (view w.0)) (w.0 ∷ []) r r' (less k vs) (all_inputs ps) second same (inputs_moved m w.0 w.1 x);
        };
        removal = ∥∥₁_elim old.begun (hlevel sets) (λ b. ∥∥₁_elim old.held (hlevel sets) (λ y. ∥∥₁_elim x (hlevel sets) (λ z.
            subst (λ n. IsChange m.removal.change (remove k) (folded_kept old) (folded_in r n)) z.removal.inputs
            (change_of s (remove k) [] r r old.head old.tail z.close old.first old.pages.items z.middle z.before z.starts m.removal.change first refl b y z.held z.removal z.first_tail z.one_removal))));
        insertion = ∥∥₁_elim old.begun (hlevel sets) (λ b. ∥∥₁_elim held (hlevel sets) (λ y. ∥∥₁_elim x (hlevel sets) (λ z.
            subst₂ (λ (v : Value) n. IsChange m.insertion.change (insert l v) (folded_in r n) (folded_in r' (all_inputs ps))) (same_there vs k (view z.value) (view w.0) z.there w.1) z.removal.inputs
            (change_of s (insert l (view z.value)) (z.value ∷ []) r r' old.head z.close end old.first z.middle ps z.starts z.after m.insertion.change (later z.value (all_inputs z.middle) z.removal.inputs) same b z.held y z.insertion z.last_tail z.one_insertion))));
        cut = ∥∥₁_elim old.begun (hlevel sets) (λ b. ∥∥₁_elim old.held (hlevel sets) (λ y. ∥∥₁_elim x (hlevel sets) (λ z.
            subst (λ n. IsSpliced m.removal (folded_kept old) (folded_in r n)) z.removal.inputs
            (spliced_of s (remove k) [] r r old.head old.tail z.close old.first old.pages.items z.middle z.before z.starts m.removal refl b y z.held z.removal z.first_tail z.cut))));
        put = ∥∥₁_elim old.begun (hlevel sets) (λ b. ∥∥₁_elim held (hlevel sets) (λ y. ∥∥₁_elim x (hlevel sets) (λ z.
            subst (λ n. IsSpliced m.insertion (folded_in r n) (folded_in r' (all_inputs ps))) z.removal.inputs
            (spliced_of s (insert l (view z.value)) (z.value ∷ []) r r' old.head z.close end old.first z.middle ps z.starts z.after m.insertion same b z.held y z.insertion z.last_tail z.put))));
        between = ∥∥₁_elim old.begun (hlevel sets) (λ b. ∥∥₁_elim x (hlevel sets) (λ z.
            z.between ∙ ap totals (all_of s r old.head z.close old.first z.middle b z.held) ∙ ap (λ n. totals (all (folded_in r n))) z.removal.inputs));
      }

  pub counted_shift : {E : Type 0} (result : Result Moved E) → IfOk result (λ m. ShiftOf old ps end k l m) → OnErr result (all_inputs ps ≡ all_inputs old.pages.items) → count_in ps ≡ count_in old.pages.items
  counted_shift (Ok m) x e = counted_moved m x
  counted_shift (Err r) x e = same_count old.pages.items ps e
