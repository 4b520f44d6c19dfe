-- An edit of the pages, from what was run and what was put in place.
use Rattle.std.proofs.Common.{◌≡◌, ℕ, ◌+◌, ◌-◌, ◌<◌, ◌≤◌, ◌⊎◌, inl, inr, List, [], ◌∷◌, ◌++◌, length, take, drop, get_or, refl, sym, ◌∙◌, ap, ap₂, subst, subst₂, map, arith, append_assoc, length-append, length-drop, length-take-le, take-append-drop, IsTrue}
use Rattle.std.proofs.lemmas.Grind.{flat_map-append, take_at_read}
use Rattle.std.proofs.Math.Seq.{take-add}
use Rattle.std.specs.List.{replace_range}
use Rattle.jv_data.specs.Value.{Value}
use Rattle.jv_data.specs.View.{view}
use Rattle.jq_pages.specs.Pieces.{PieceView, piece_view}
use Rattle.jq_pages.specs.Folds.{Fold, Rises, state_after}
use Rattle.jq_pages.specs.private.Reruns.{IsRunOf, RunsOver, Holds, MeetsAt, exit_of, kept_of, count_in, renewed, inputs_in, pieces_in}
use Rattle.jq_pages.specs.private.Pages.{all_inputs, all_pieces, IsPlace, IsSized}
use Rattle.jq_pages.specs.private.Placed.{put_at}
use Rattle.jq_pages.specs.private.Edits.{Meets, IsListChange, changed}
use Rattle.jq_pages.specs.declared.page.Page.{Page}
use Rattle.jq_pages.specs.declared.page.Rerun.{Rerun}
use Rattle.jv_data.specs.declared.values.Val.{Val}
use Rattle.jq_pages.specs.declared.changes.Change.{Change}
use Rattle.jq_pages.specs.declared.changes.Edited.{Edited}
use Rattle.jq_pages.proofs.Reruns.{kept_append, count_append, count_take, count_more}
use Rattle.std.proofs.Math.Logic.{∥∥₁_elim}
use Rattle.std.proofs.Props.{props}
use Rattle.std.proofs.Common.{Result, Ok, Err, IsErr, Option, Some, None, IfSome, IsSome, MatchOption, drop_of_length-le}
use Rattle.jq_pages.specs.private.Placed.{Opened, Installed}
use Rattle.jq_pages.specs.private.Edits.{IsListEdit}
use Rattle.jq_pages.specs.declared.pieces.Piece.{Piece}
use Rattle.jq_pages.proofs.Edits.{around, sound_after, edited_within, meeting_end, inputs_count, renewed_inputs, renewed_rest, same_default, change_is, kept_met, kept_all, count_renewed, sized_append, sized_left, sized_right, sized_renewed, put_count, put_is, map_length, take_front}

-- the inputs of an edit, in parts
made_is : {T : Type 0} (as' bs : List (Page T)) (p : Page T) (put : List Val) (i cut : ℕ) → i + cut ≤ length p.inputs.items → replace_range (all_inputs (as' ++ (p ∷ bs))) (count_in as' + i) ((count_in as' + i) + cut) (map view put) ≡ all_inputs as' ++ (put_at p.inputs.items i put cut ++ all_inputs bs)
made_is as' bs p put i cut l =
    let x = all_inputs as' in
    let v = inputs_in p in
    let xn : length x ≡ count_in as' = inputs_count as' in
    let vn : length v ≡ length p.inputs.items = map_length view p.inputs.items in
    let lv : i + cut ≤ length v = omega arith in
    ap (λ z. replace_range z (count_in as' + i) ((count_in as' + i) + cut) (map view put)) (flat_map-append inputs_in as' (p ∷ bs))
    ∙ ap (λ z. replace_range (x ++ (v ++ all_inputs bs)) (z + i) ((z + i) + cut) (map view put)) (sym xn)
    ∙ edited_within x v (all_inputs bs) (map view put) i cut lv
    ∙ ap (λ z. x ++ (z ++ all_inputs bs)) (sym (put_is p.inputs.items put i cut))

made_count : {T : Type 0} (as' bs : List (Page T)) (p : Page T) (put : List Val) (i cut : ℕ) → i + cut ≤ length p.inputs.items → length (replace_range (all_inputs (as' ++ (p ∷ bs))) (count_in as' + i) ((count_in as' + i) + cut) (map view put)) ≡ (count_in as' + ((i + length put) + (length p.inputs.items - (i + cut)))) + count_in bs
made_count as' bs p put i cut l =
    let a : length (all_inputs as' ++ (put_at p.inputs.items i put cut ++ all_inputs bs)) ≡ length (all_inputs as') + length (put_at p.inputs.items i put cut ++ all_inputs bs) = length-append (all_inputs as') (put_at p.inputs.items i put cut ++ all_inputs bs) in
    let b : length (put_at p.inputs.items i put cut ++ all_inputs bs) ≡ length (put_at p.inputs.items i put cut) + length (all_inputs bs) = length-append (put_at p.inputs.items i put cut) (all_inputs bs) in
    let c : length (put_at p.inputs.items i put cut) ≡ (i + length put) + (length p.inputs.items - (i + cut)) = put_count p.inputs.items put i cut l in
    let d : length (all_inputs as') ≡ count_in as' = inputs_count as' in
    let e : length (all_inputs bs) ≡ count_in bs = inputs_count bs in
    ap length (made_is as' bs p put i cut l) ∙ omega arith

-- a page end near after a meeting place, at an edit
pub near_end : {T S : Type 0} (seen : T → S) (r : Fold S) (s : S) (as' bs : List (Page T)) (p : Page T) (put : List Val) (i cut q : ℕ) → Holds seen r s (as' ++ (p ∷ bs)) → IsSized bs → i + cut ≤ length p.inputs.items → length p.inputs.items + length put ≤ 64 + cut → (let o = all_inputs (as' ++ (p ∷ bs)) in Meets r s o (replace_range o (count_in as' + i) ((count_in as' + i) + cut) (map view put)) (count_in as' + i) (length put) cut q) → (t : ℕ) × (t ≤ length bs) × (MeetsAt seen r (state_after r (kept_of seen s as') (put_at p.inputs.items i put cut)) (seen p.exit) bs t) × (count_in (take t bs) + ((i + length put) + (length p.inputs.items - (i + cut))) + 1 ≤ (q - (count_in as' + i)) + i + 65)
near_end seen r s as' bs p put i cut q h z l few m =
    let o = all_inputs (as' ++ (p ∷ bs)) in
    let n : length (map view put) ≡ length put = map_length view put in
    let made = replace_range o (count_in as' + i) ((count_in as' + i) + cut) (map view put) in
    let m' : Meets r s o made (count_in as' + i) (length (map view put)) cut q = subst (λ k. Meets r s o made (count_in as' + i) k cut q) (sym n) m in
    let few' : length p.inputs.items + length (map view put) ≤ 64 + cut = omega arith in
    let base = (i + length put) + (length p.inputs.items - (i + cut)) in
    let e : base ≡ (i + length (map view put)) + (length p.inputs.items - (i + cut)) = omega arith in
    let w : q ≤ length made = m.within in
    let c : length made ≡ (count_in as' + base) + count_in bs = made_count as' bs p put i cut l in
    let far : q ≤ (count_in as' + base) + count_in bs = omega arith in
    let x = meeting_end seen r s as' bs p (map view put) i cut q base h z l few' e m' far in
    (x.0, x.1, subst (λ k. MeetsAt seen r (state_after r (kept_of seen s as') k) (seen p.exit) bs x.0) (sym (put_is p.inputs.items put i cut)) x.2, x.3)

-- the page of an edit, by its place
pub split_at : {T : Type 0} (old : List (Page T)) (j : ℕ) (p : Page T) → j < length old → p ≡ get_or old j p → old ≡ take j old ++ (p ∷ drop (j + 1) old)
split_at old j p l e = around old j p l ∙ ap (λ z. take j old ++ (z ∷ drop (j + 1) old)) (sym e)

-- the page of the place of an edit
pub here : {T : Type 0} {old : List (Page T)} {j i more cut : ℕ} → IsPlace old j i more cut → (p : Page T) × (p ≡ get_or old j p)
here {old = []} h = let l = h.page in absurd (omega arith)
here {old = p ∷ ps} {j = j} h = (get_or (p ∷ ps) j p, same_default (p ∷ ps) j p (get_or (p ∷ ps) j p) h.page)

-- where the runs of an edit may go on to
pub AnEnd : {T S : Type 0} → (T → S) → Fold S → (s e : S) → (old : List (Page T)) → (j i cut : ℕ) → (p : Page T) → List Val → ℕ → Type 0
AnEnd seen r s e old j i cut p put q =
    (t : ℕ) × (t ≤ length (drop (j + 1) old)) × (MeetsAt seen r (state_after r e (put_at p.inputs.items i put cut)) (seen p.exit) (drop (j + 1) old) t) × (count_in (take t (drop (j + 1) old)) + ((i + length put) + (length p.inputs.items - (i + cut))) + 1 ≤ (q - (count_in (take j old) + i)) + i + 65)

pub end_near : {T S : Type 0} (seen : T → S) (r : Fold S) (s e : S) (old : List (Page T)) (j i cut : ℕ) (p : Page T) (put : List Val) (q : ℕ) → j < length old → p ≡ get_or old j p → i + cut ≤ length p.inputs.items → length p.inputs.items + length put ≤ 64 + cut → Holds seen r s old → IsSized old → e ≡ kept_of seen s (take j old) → Meets r s (all_inputs old) (replace_range (all_inputs old) (count_in (take j old) + i) ((count_in (take j old) + i) + cut) (map view put)) (count_in (take j old) + i) (length put) cut q → AnEnd seen r s e old j i cut p put q
unfolding AnEnd
end_near seen r s e old j i cut p put q l h place few holds sized entry m =
    let a = take j old in
    let b = drop (j + 1) old in
    let o = split_at old j p l h in
    let k : Holds seen r s (a ++ (p ∷ b)) = subst (λ z. Holds seen r s z) o holds in
    let z : IsSized b = (sized_right a (p ∷ b) (subst (λ z. IsSized z) o sized)).1 in
    let m' = subst (λ z. Meets r s (all_inputs z) (replace_range (all_inputs z) (count_in a + i) ((count_in a + i) + cut) (map view put)) (count_in a + i) (length put) cut q) o m in
    let x = near_end seen r s a b p put i cut q k z place few m' in
    (x.0, x.1, subst (λ k. MeetsAt seen r (state_after r k (put_at p.inputs.items i put cut)) (seen p.exit) b x.0) (sym entry) x.2, x.3)

pub rises_near : {T S : Type 0} (seen : T → S) (r : Fold S) (s e : S) (old : List (Page T)) (j i cut : ℕ) (p : Page T) (put : List Val) (q before after : ℕ) → i + cut ≤ length p.inputs.items → AnEnd seen r s e old j i cut p put q → ((t : ℕ) → t ≤ length (drop (j + 1) old) → MeetsAt seen r (state_after r e (put_at p.inputs.items i put cut)) (seen p.exit) (drop (j + 1) old) t → Rises before after (((i + length put) + length (drop (i + cut) p.inputs.items)) + count_in (take t (drop (j + 1) old)) + 1)) → Rises before after ((q - (count_in (take j old) + i)) + i + 65)
unfolding AnEnd
rises_near seen r s e old j i cut p put q before after place x to =
    let rise = to x.0 x.1 x.2 in
    let d : length (drop (i + cut) p.inputs.items) ≡ length p.inputs.items - (i + cut) = length-drop (i + cut) p.inputs.items in
    let lo : before ≤ after = rise.low in
    let hi : after ≤ before + (((i + length put) + length (drop (i + cut) p.inputs.items)) + count_in (take x.0 (drop (j + 1) old)) + 1) = rise.high in
    let near : count_in (take x.0 (drop (j + 1) old)) + ((i + length put) + (length p.inputs.items - (i + cut))) + 1 ≤ (q - (count_in (take j old) + i)) + i + 65 = x.3 in
    record { low = lo; high = omega arith }

-- the runs of an edit do not go on past a page end at which they meet
pub far_near : {T S : Type 0} (seen : T → S) (r : Fold S) (s e : S) (old : List (Page T)) (j i cut : ℕ) (p : Page T) (put : List Val) (q k : ℕ) → count_in (take j old) + i ≤ q → AnEnd seen r s e old j i cut p put q → ((t : ℕ) → t ≤ length (drop (j + 1) old) → MeetsAt seen r (state_after r e (put_at p.inputs.items i put cut)) (seen p.exit) (drop (j + 1) old) t → k ≤ t) → (count_in (take j old) + ((i + length put) + (length p.inputs.items - (i + cut)))) + count_in (take k (drop (j + 1) old)) ≤ q + 64
unfolding AnEnd
far_near seen r s e old j i cut p put q k after x short =
    let kt : k ≤ x.0 = short x.0 x.1 x.2 in
    let c : count_in (take k (drop (j + 1) old)) ≤ count_in (take x.0 (drop (j + 1) old)) = count_take (drop (j + 1) old) k x.0 kt in
    let near : count_in (take x.0 (drop (j + 1) old)) + ((i + length put) + (length p.inputs.items - (i + cut))) + 1 ≤ (q - (count_in (take j old) + i)) + i + 65 = x.3 in
    omega arith

pub rises_end : {T S : Type 0} (seen : T → S) (old : List (Page T)) (j i cut : ℕ) (p : Page T) (put : List Val) (before after : ℕ) → j < length old → p ≡ get_or old j p → i + cut ≤ length p.inputs.items → Rises before after (((i + length put) + length (drop (i + cut) p.inputs.items)) + count_in (drop (j + 1) old) + 1) → Rises before after ((length (replace_range (all_inputs old) (count_in (take j old) + i) ((count_in (take j old) + i) + cut) (map view put)) - (count_in (take j old) + i)) + i + 65)
rises_end seen old j i cut p put before after l h place rise =
    let a = take j old in
    let b = drop (j + 1) old in
    let o = split_at old j p l h in
    let n = length (replace_range (all_inputs old) (count_in a + i) ((count_in a + i) + cut) (map view put)) in
    let c : n ≡ (count_in a + ((i + length put) + (length p.inputs.items - (i + cut)))) + count_in b =
    ap (λ z. length (replace_range (all_inputs z) (count_in a + i) ((count_in a + i) + cut) (map view put))) o ∙ made_count a b p put i cut place in
    let d : length (drop (i + cut) p.inputs.items) ≡ length p.inputs.items - (i + cut) = length-drop (i + cut) p.inputs.items in
    let lo : before ≤ after = rise.low in
    let hi : after ≤ before + (((i + length put) + length (drop (i + cut) p.inputs.items)) + count_in b + 1) = rise.high in
    record { low = lo; high = omega arith }

-- the inputs of the edited page
page_inputs : {T : Type 0} (old new : List (Page T)) (j i cut : ℕ) (p : Page T) (put : List Val) (a : Rerun T) (rs : List (Rerun T)) (x : Installed old new j i put cut a rs) → j < length old → p ≡ get_or old j p → inputs_in x.page ≡ put_at p.inputs.items i put cut
page_inputs old new j i cut p put a rs x l h = x.inputs ∙ ap (λ z. put_at z.inputs.items i put cut) (same_default old j x.page p l ∙ sym h)

pub done_holds : {T S : Type 0} (seen : T → S) (r : Fold S) (s e : S) (old new : List (Page T)) (j i cut : ℕ) (p : Page T) (put : List Val) (a : Rerun T) (rs : List (Rerun T)) (x : Installed old new j i put cut a rs) → j < length old → p ≡ get_or old j p → Holds seen r s old → e ≡ kept_of seen s (take j old) → IsRunOf seen r e (put_at p.inputs.items i put cut) a → RunsOver seen r (seen a.exit) (drop (j + 1) old) rs → (exit_of seen (seen a.exit) rs ≡ kept_of seen (seen p.exit) (take (length rs) (drop (j + 1) old))) ⊎ (length rs ≡ length (drop (j + 1) old)) → Holds seen r s new
done_holds seen r s e old new j i cut p put a rs x l h holds entry run over stop =
    let o = split_at old j p l h in
    subst (λ z. Holds seen r s z) (sym x.list)
    (sound_after seen r s (take j old) (drop (j + 1) old) p x.page a rs (put_at p.inputs.items i put cut)
    (subst (λ z. Holds seen r s z) o holds) (subst (λ z. IsRunOf seen r z (put_at p.inputs.items i put cut) a) entry run)
    (page_inputs old new j i cut p put a rs x l h) x.pieces x.exit over stop)

pub done_inputs : {T : Type 0} (old new : List (Page T)) (j i cut : ℕ) (p : Page T) (put : List Val) (a : Rerun T) (rs : List (Rerun T)) (x : Installed old new j i put cut a rs) → j < length old → p ≡ get_or old j p → i + cut ≤ length p.inputs.items → all_inputs new ≡ replace_range (all_inputs old) (count_in (take j old) + i) ((count_in (take j old) + i) + cut) (map view put)
done_inputs old new j i cut p put a rs x l h place =
    let as' = take j old in
    let bs = drop (j + 1) old in
    let o = split_at old j p l h in
    ap all_inputs x.list ∙ flat_map-append inputs_in as' (x.page ∷ renewed bs rs)
    ∙ ap₂ (λ y z. all_inputs as' ++ (y ++ z)) (page_inputs old new j i cut p put a rs x l h) (renewed_inputs bs rs)
    ∙ sym (ap (λ z. replace_range (all_inputs z) (count_in as' + i) ((count_in as' + i) + cut) (map view put)) o ∙ made_is as' bs p put i cut place)

pub done_sized : {T : Type 0} (old new : List (Page T)) (j i cut : ℕ) (p : Page T) (put : List Val) (a : Rerun T) (rs : List (Rerun T)) (x : Installed old new j i put cut a rs) → j < length old → p ≡ get_or old j p → i + cut ≤ length p.inputs.items → length p.inputs.items + length put ≤ 64 + cut → IsSized old → IsSized new
done_sized old new j i cut p put a rs x l h place few sized =
    let as' = take j old in
    let bs = drop (j + 1) old in
    let z = subst (λ z. IsSized z) (split_at old j p l h) sized in
    let n : length x.page.inputs.items ≡ (i + length put) + (length p.inputs.items - (i + cut)) =
    sym (map_length view x.page.inputs.items) ∙ ap length (page_inputs old new j i cut p put a rs x l h) ∙ put_count p.inputs.items put i cut place in
    let m : length x.page.inputs.items ≤ 64 = omega arith in
    subst (λ z. IsSized z) (sym x.list) (sized_append as' (x.page ∷ renewed bs rs) (sized_left as' (p ∷ bs) z) (m, sized_renewed bs rs (sized_right as' (p ∷ bs) z).1))

pub done_kept : {T S : Type 0} (seen : T → S) (s : S) (old new : List (Page T)) (j i cut : ℕ) (put : List Val) (a : Rerun T) (rs : List (Rerun T)) (x : Installed old new j i put cut a rs) → kept_of seen s new ≡ kept_of seen (seen a.exit) (renewed (drop (j + 1) old) rs)
done_kept seen s old new j i cut put a rs x =
    ap (kept_of seen s) x.list ∙ kept_append seen s (take j old) (x.page ∷ renewed (drop (j + 1) old) rs) ∙ ap (λ z. kept_of seen (seen z) (renewed (drop (j + 1) old) rs)) x.exit

-- the close after an edit
pub done_tail : {T S : Type 0} (seen : T → S) (r : Fold S) (s : S) (old new : List (Page T)) (j i cut : ℕ) (p : Page T) (put : List Val) (a : Rerun T) (rs : List (Rerun T)) (x : Installed old new j i put cut a rs) (closing : Option Piece) (tail tail' : Piece) → j < length old → p ≡ get_or old j p → length rs ≤ length (drop (j + 1) old) → (closing ≡ None → exit_of seen (seen a.exit) rs ≡ kept_of seen (seen p.exit) (take (length rs) (drop (j + 1) old))) → IfSome closing (λ t. (length rs ≡ length (drop (j + 1) old)) × (piece_view t ≡ r.close (exit_of seen (seen a.exit) rs))) → MatchOption closing (tail' ≡ tail) (λ t. tail' ≡ t) → piece_view tail ≡ r.close (kept_of seen s old) → piece_view tail' ≡ r.close (kept_of seen s new)
done_tail seen r s old new j i cut p put a rs x None tail tail' l h fit met closed put_there was =
    let bs = drop (j + 1) old in
    let o : kept_of seen s old ≡ kept_of seen (seen p.exit) bs = ap (kept_of seen s) (split_at old j p l h) ∙ kept_append seen s (take j old) (p ∷ bs) in
    ap piece_view put_there ∙ was ∙ ap r.close (o ∙ sym (done_kept seen s old new j i cut put a rs x ∙ kept_met seen (seen a.exit) (seen p.exit) bs rs fit (met refl)))
done_tail seen r s old new j i cut p put a rs x (Some t) tail tail' l h fit met closed put_there was =
    ap piece_view put_there ∙ closed.1 ∙ ap r.close (sym (done_kept seen s old new j i cut put a rs x ∙ kept_all seen (seen a.exit) (drop (j + 1) old) rs closed.0))

pub done_stop : {S : Type 0} (closing : Option Piece) (x y : S) (m n : ℕ) (P : Piece → Type 0) → (closing ≡ None → x ≡ y) → IfSome closing (λ t. (m ≡ n) × P t) → (x ≡ y) ⊎ (m ≡ n)
done_stop None x y m n P met closed = inl (met refl)
done_stop (Some t) x y m n P met closed = inr closed.0

done_last : {A : Type 0} (closing : Option Piece) (ds : List A) (m : ℕ) (P : Piece → Type 0) → IfSome closing (λ t. (m ≡ length ds) × P t) → IsSome closing → drop m ds ≡ []
done_last None ds m P closed u = cc
done_last (Some t) ds m P closed u = let e : length ds ≤ m = omega (arith, closed.0) in drop_of_length-le ds e

count_cancel : (x y a b : ℕ) → x ≡ a → x + y ≡ a + b → y ≡ b
count_cancel x y a b e f = omega arith

put_counts : (old put cut n k i n' k' : ℕ) → i + cut ≤ n → old ≡ n + k → n' ≡ (i + put) + (n - (i + cut)) → k' ≡ k → (old + put) - cut ≡ n' + k'
put_counts old put cut n k i n' k' a b c d = omega arith

put_grown : (new old put cut n k i : ℕ) → i + cut ≤ n → new ≡ (old + put) - cut → old ≡ n + k → new + cut ≡ old + put
put_grown new old put cut n k i a b c = omega arith

-- the pages before and after an edit, in parts, and how many pieces go and come
pub done_counts : {T : Type 0} (old new : List (Page T)) (j i cut : ℕ) (p : Page T) (put : List Val) (a : Rerun T) (rs : List (Rerun T)) (x : Installed old new j i put cut a rs) (c : Change) → j < length old → p ≡ get_or old j p → i + cut ≤ length p.inputs.items → c.from ≡ count_in (take j old) → c.from + c.cut ≡ count_in (take ((j + 1) + length rs) old) → c.put ≡ (c.cut + length put) - cut
    → (old ≡ take j old ++ ((p ∷ take (length rs) (drop (j + 1) old)) ++ drop (length rs) (drop (j + 1) old))) × (new ≡ take j old ++ ((x.page ∷ take (length rs) (renewed (drop (j + 1) old) rs)) ++ drop (length rs) (drop (j + 1) old))) × (c.cut ≡ count_in (p ∷ take (length rs) (drop (j + 1) old))) × (c.put ≡ count_in (x.page ∷ take (length rs) (renewed (drop (j + 1) old) rs)))
done_counts old new j i cut p put a rs x c l h place from_is cut_is put_is' =
    let as' = take j old in
    let bs = drop (j + 1) old in
    let k = length rs in
    let gs = p ∷ take k bs in
    let fs = x.page ∷ take k (renewed bs rs) in
    let ds = drop k bs in
    let old_is : old ≡ as' ++ (gs ++ ds) = split_at old j p l h ∙ ap (λ z. as' ++ (p ∷ z)) (sym (take-append-drop k bs)) in
    let new_is : new ≡ as' ++ (fs ++ ds) = x.list ∙ ap (λ z. as' ++ (x.page ∷ z)) (sym (take-append-drop k (renewed bs rs)) ∙ ap (λ z. take k (renewed bs rs) ++ z) (renewed_rest bs rs)) in
    let n : length x.page.inputs.items ≡ (i + length put) + (length p.inputs.items - (i + cut)) =
    sym (map_length view x.page.inputs.items) ∙ ap length (page_inputs old new j i cut p put a rs x l h) ∙ put_count p.inputs.items put i cut place in
    let fr : count_in (take k (renewed bs rs)) ≡ count_in (take k bs) = count_renewed bs rs k in
    let tk : count_in (take ((j + 1) + k) old) ≡ count_in as' + (length p.inputs.items + count_in (take k bs)) =
    ap count_in (take-add (j + 1) k old ∙ ap (λ z. z ++ take k bs) ((take_at_read old j p l).1 ∙ ap (λ z. take j old ++ z ∷ []) (sym h)) ∙ append_assoc as' (p ∷ []) (take k bs)) ∙ count_append as' gs in
    let cg : c.cut ≡ count_in gs = count_cancel c.from c.cut (count_in as') (count_in gs) from_is (cut_is ∙ tk) in
    let cf : c.put ≡ count_in fs = put_is' ∙ put_counts c.cut (length put) cut (length p.inputs.items) (count_in (take k bs)) i (length x.page.inputs.items) (count_in (take k (renewed bs rs))) place cg n fr in
    (old_is, new_is, cg, cf)

-- what an edit changed
pub done_change : {T S : Type 0} (seen : T → S) (r : Fold S) (s : S) (old new : List (Page T)) (j i cut : ℕ) (p : Page T) (put : List Val) (a : Rerun T) (rs : List (Rerun T)) (x : Installed old new j i put cut a rs) (closing : Option Piece) (P : Piece → Type 0) (c : Change) → j < length old → p ≡ get_or old j p → i + cut ≤ length p.inputs.items → length p.inputs.items + length put ≤ 64 + cut → length p.inputs.items ≤ 64 → Holds seen r s old → Holds seen r s new → length rs ≤ length (drop (j + 1) old) → IfSome closing (λ t. (length rs ≡ length (drop (j + 1) old)) × P t) → (IsTrue c.closed → IsSome closing) → c.from ≡ count_in (take j old) → c.from + c.cut ≡ count_in (take ((j + 1) + length rs) old) → c.put ≡ (c.cut + length put) - cut → IsListChange c (all_pieces old) (all_pieces new) (count_in (take j old) + i) (length put) cut
done_change seen r s old new j i cut p put a rs x closing P c l h place few small ho hn fit closed shut from_is cut_is put_is' =
    let as' = take j old in
    let bs = drop (j + 1) old in
    let k = length rs in
    let gs = p ∷ take k bs in
    let fs = x.page ∷ take k (renewed bs rs) in
    let ds = drop k bs in
    let parts = done_counts old new j i cut p put a rs x c l h place from_is cut_is put_is' in
    let old_is = parts.0 in
    let new_is = parts.1 in
    let cg : c.cut ≡ count_in gs = parts.2 in
    let cf : c.put ≡ count_in fs = parts.3 in
    let grown : c.put + cut ≡ c.cut + length put = put_grown c.put c.cut (length put) cut (length p.inputs.items) (count_in (take k bs)) i place put_is' cg in
    let near : count_in as' + i ≤ c.from + 64 = omega arith in
    let before : c.from ≤ count_in as' + i = omega arith in
    subst₂ (λ y z. IsListChange c (all_pieces y) (all_pieces z) (count_in as' + i) (length put) cut) (sym old_is) (sym new_is)
    (change_is seen r s as' gs fs ds c (count_in as' + i) (length put) cut (subst (λ z. Holds seen r s z) old_is ho) (subst (λ z. Holds seen r s z) new_is hn) from_is cg cf near before grown
    (λ u. done_last closing bs k P closed (shut u)))

pub changed_err : {E : Type 0} (result : Result Edited E) → IsErr result → IsErr (changed result)
changed_err (Ok e) h = cc
changed_err (Err x) h = refl

-- an edit that is refused
pub err_edit : {S E : Type 0} (r : Fold S) (s : S) (old made : List Value) (was : List PieceView) (p put cut i before after : ℕ) (result : Result Change E) → IsErr result → ((q : ℕ) → Meets r s old made p put cut q → Rises before after ((q - p) + i + 65)) → Rises before after ((length made - p) + i + 65) → IsListEdit r s old old made was was p put cut i before after result
err_edit r s old made was p put cut i before after (Ok c) e near all = cc
err_edit r s old made was p put cut i before after (Err x) e near all = record { inputs = tt; change = tt; far = tt; unchanged = refl; same_pieces = refl; rises = near; rises_all = all }

pub ok_edit : {S E : Type 0} (r : Fold S) (s : S) (old new made : List Value) (was is : List PieceView) (p put cut i before after : ℕ) (c : Change) → new ≡ made → IsListChange c was is p put cut → ((q : ℕ) → Meets r s old made p put cut q → c.from + c.put ≤ q + 64) → ((q : ℕ) → Meets r s old made p put cut q → Rises before after ((q - p) + i + 65)) → Rises before after ((length made - p) + i + 65) → IsListEdit {E = E} r s old new made was is p put cut i before after (Ok c)
ok_edit r s old new made was is p put cut i before after c a b f near all = record { inputs = a; change = b; far = f; unchanged = tt; same_pieces = tt; rises = near; rises_all = all }

pub old_count : {T : Type 0} (old : List (Page T)) (j k : ℕ) (p : Page T) (from n : ℕ) → j < length old → p ≡ get_or old j p → from ≡ count_in (take j old) → from + n ≡ count_in (take ((j + 1) + k) old) → n ≡ length p.inputs.items + count_in (take k (drop (j + 1) old))
old_count old j k p from n l h a b =
    let tk : count_in (take ((j + 1) + k) old) ≡ count_in (take j old) + (length p.inputs.items + count_in (take k (drop (j + 1) old))) =
    ap count_in (take-add (j + 1) k old ∙ ap (λ z. z ++ take k (drop (j + 1) old)) ((take_at_read old j p l).1 ∙ ap (λ z. take j old ++ z ∷ []) (sym h)) ∙ append_assoc (take j old) (p ∷ []) (take k (drop (j + 1) old))) ∙ count_append (take j old) (p ∷ take k (drop (j + 1) old)) in
    count_cancel from n (count_in (take j old)) (length p.inputs.items + count_in (take k (drop (j + 1) old))) a (b ∙ tk)

pub sized_at : {T : Type 0} (old : List (Page T)) (j : ℕ) (p : Page T) → j < length old → p ≡ get_or old j p → IsSized old → length p.inputs.items ≤ 64
sized_at old j p l h z = (sized_right (take j old) (p ∷ drop (j + 1) old) (subst (λ z. IsSized z) (split_at old j p l h) z)).0

pub far_of : {T : Type 0} (old : List (Page T)) (j i cut : ℕ) (p : Page T) (put : List Val) (k q from n m : ℕ) → from ≡ count_in (take j old) → n ≡ length p.inputs.items + count_in (take k (drop (j + 1) old)) → i + cut ≤ length p.inputs.items → m ≡ (n + length put) - cut → (count_in (take j old) + ((i + length put) + (length p.inputs.items - (i + cut)))) + count_in (take k (drop (j + 1) old)) ≤ q + 64 → from + m ≤ q + 64
far_of old j i cut p put k q from n m a b c d e = omega arith

pub page_small : {T : Type 0} (old : List (Page T)) (j : ℕ) (d : Page T) → j < length old → ∥ IsSized old ∥₁ → length (get_or old j d).inputs.items ≤ 64
page_small old j d l z = ∥∥₁_elim z (hlevel props) (λ h. sized_at old j (get_or old j d) l (same_default old j d (get_or old j d) l) h)

le_after : (i n : ℕ) → i < n → n ≤ 64 → i ≤ 64
le_after i n a b = omega arith

pub page_spot : {T : Type 0} (old : List (Page T)) (j i : ℕ) → j < length old → ((d : Page T) → i < length (get_or old j d).inputs.items) → ∥ IsSized old ∥₁ → i ≤ 64
page_spot [] j i l k z = absurd (omega arith)
page_spot (p ∷ ps) j i l k z =
    let a : i < length (get_or (p ∷ ps) j p).inputs.items = k p in
    let n : length (get_or (p ∷ ps) j p).inputs.items ≤ 64 = page_small (p ∷ ps) j p l z in
    le_after _ _ a n

pub opened_inputs : {T S : Type 0} (seen : T → S) (s : S) (old new : List (Page T)) (j : ℕ) → Opened seen s old new j → all_inputs new ≡ all_inputs old
opened_inputs seen s old new j x =
    ap all_inputs x.list ∙ flat_map-append inputs_in (take j old) (x.page ∷ drop j old) ∙ ap (λ z. all_inputs (take j old) ++ (map view z ++ all_inputs (drop j old))) x.inputs
    ∙ sym (ap all_inputs (sym (take-append-drop j old)) ∙ flat_map-append inputs_in (take j old) (drop j old))

pub opened_pieces : {T S : Type 0} (seen : T → S) (s : S) (old new : List (Page T)) (j : ℕ) → Opened seen s old new j → all_pieces new ≡ all_pieces old
opened_pieces seen s old new j x =
    ap all_pieces x.list ∙ flat_map-append pieces_in (take j old) (x.page ∷ drop j old) ∙ ap (λ z. all_pieces (take j old) ++ (map piece_view z ++ all_pieces (drop j old))) x.pieces
    ∙ sym (ap all_pieces (sym (take-append-drop j old)) ∙ flat_map-append pieces_in (take j old) (drop j old))

pub opened_sized : {T S : Type 0} (seen : T → S) (s : S) (old new : List (Page T)) (j : ℕ) → Opened seen s old new j → IsSized old → IsSized new
opened_sized seen s old new j x z =
    let k = subst (λ z. IsSized z) (sym (take-append-drop j old)) z in
    let n : length x.page.inputs.items ≤ 64 = subst (λ (w : List Val). length w ≤ 64) (sym x.inputs) (omega arith) in
    subst (λ z. IsSized z) (sym x.list) (sized_append (take j old) (x.page ∷ drop j old) (sized_left (take j old) (drop j old) k) (n, sized_right (take j old) (drop j old) k))

pub opened_by : {T S : Type 0} (seen : T → S) (s : S) (old new : List (Page T)) (j : ℕ) (p : Page T) → new ≡ take j old ++ (p ∷ drop j old) → p.inputs.items ≡ [] → p.pieces.items.items ≡ [] → seen p.exit ≡ kept_of seen s (take j old) → Opened seen s old new j
opened_by seen s old new j p e a b c = record { page = p; list = e; inputs = a; pieces = b; exit = c }

-- the place after the inputs of the pages up to the one that has the place before
pub place_after : {T S : Type 0} (seen : T → S) (s : S) (old new : List (Page T)) (j i k : ℕ) (p : Page T) → Opened seen s old new (j + 1) → j < length old → p ≡ get_or old j p → length p.inputs.items ≡ i + 1 → count_in (take j old) + i ≡ k - 1 → 0 < k → count_in (take (j + 1) new) + 0 ≡ k
place_after seen s old new j i k p x l h n e z =
    let f : take (j + 1) new ≡ take (j + 1) old = ap (take (j + 1)) x.list ∙ take_front (take (j + 1) old) (x.page ∷ drop (j + 1) old) (j + 1) (sym (length-take-le (j + 1) old (let m : j + 1 ≤ length old = omega arith in m))) in
    let c : count_in (take (j + 1) new) ≡ count_in (take j old) + length p.inputs.items = ap count_in f ∙ count_more old j p l h in
    omega arith

-- an edit of pages that hold the same as others
pub moved_edit : {S E : Type 0} (r r' : Fold S) (s s' : S) (old old' new : List Value) (xs : List Value) (was was' is : List PieceView) (p put cut i before after : ℕ) (result : Result Change E) → r' ≡ r → s' ≡ s → old' ≡ old → was' ≡ was → IsListEdit r' s' old' new (replace_range old' p (p + cut) xs) was' is p put cut i before after result → IsListEdit r s old new (replace_range old p (p + cut) xs) was is p put cut i before after result
moved_edit r r' s s' old old' new xs was was' is p put cut i before after result a b c d e =
    subst (λ z. IsListEdit z s old new (replace_range old p (p + cut) xs) was is p put cut i before after result) a
    (subst (λ z. IsListEdit r' z old new (replace_range old p (p + cut) xs) was is p put cut i before after result) b
    (subst (λ z. IsListEdit r' s' z new (replace_range z p (p + cut) xs) was is p put cut i before after result) c
    (subst (λ z. IsListEdit r' s' old' new (replace_range old' p (p + cut) xs) z is p put cut i before after result) d e)))

rises_room : (a b c n i : ℕ) → Rises a b (64 - i) → Rises b c (n + i + 65) → i ≤ 64 → Rises a c (n + 64 + 65)
rises_room a b c n i x y l =
    let xl : a ≤ b = x.low in let xh : b ≤ a + (64 - i) = x.high in let yl : b ≤ c = y.low in let yh : c ≤ b + (n + i + 65) = y.high in
    record { low = omega arith; high = omega arith }

-- an edit after steps that made room for it
pub room_edit : {S E : Type 0} (r : Fold S) (s : S) (old new made : List Value) (was is : List PieceView) (p put cut i start before after : ℕ) (result : Result Change E) → Rises start before (64 - i) → i ≤ 64 → IsListEdit r s old new made was is p put cut i before after result → IsListEdit r s old new made was is p put cut 64 start after result
room_edit r s old new made was is p put cut i start before after result x l e = record {
  inputs = e.inputs;
  change = e.change;
  far = e.far;
  unchanged = e.unchanged;
  same_pieces = e.same_pieces;
  rises = λ q m. rises_room _ _ _ _ _ x (e.rises q m) l;
  rises_all = rises_room _ _ _ _ _ x e.rises_all l;
}

le_both : (i n : ℕ) → i ≤ n → n + 1 ≤ 64 → i ≤ 64
le_both i n a b = omega arith

pub spot_small : {T : Type 0} (old : List (Page T)) (j i : ℕ) → j < length old → ((d : Page T) → i ≤ length (get_or old j d).inputs.items) → ((d : Page T) → length (get_or old j d).inputs.items + 1 ≤ 64) → i ≤ 64
spot_small [] j i l a b = absurd (omega arith)
spot_small (p ∷ ps) j i l a b = le_both _ _ (a p) (b p)
