-- A removal and its way back.
use Rattle.std.proofs.Common.{◌≡◌, ℕ, zero, suc, ◌+◌, ◌-◌, ◌<◌, ◌≤◌, List, [], ◌∷◌, ◌++◌, length, take, drop, get_or, set, refl, sym, ◌∙◌, ap, ap₂, map, add-one, arith, append_assoc, append-nil, length-drop, length-take-le, take-append-drop, take_all, drop_of_length-le, get_or-append-add, Option, None, Result, Ok, Err, IsErr}
use Rattle.std.proofs.lemmas.Grind.{take_at_read}
use Rattle.std.proofs.lemmas.List.{drop-drop, get_or-drop, map-append, set-append_right}
use Rattle.std.specs.Option.{option_to_list}
use Rattle.jv_data.specs.declared.values.Val.{Val}
use Rattle.jq_pages.specs.private.Edits.{changed_in}
use Rattle.jq_pages.specs.declared.changes.Edited.{Edited}
use Rattle.jq_pages.specs.private.Moves.{Parts, put_back_in, renewed_parts, restored, restored_from}
use Rattle.jq_pages.specs.private.Pages.{parts}
use Rattle.jq_pages.specs.private.Placed.{Installed, Resized, put_at}
use Rattle.jq_pages.specs.private.Reruns.{renewed, run_in}
use Rattle.jv_data.specs.View.{view}
use Rattle.jq_pages.proofs.Filled.{installed_length}
use Rattle.jq_pages.specs.declared.applying.Taken.{Taken}
use Rattle.jq_pages.specs.declared.applying.Taken.TheVariants as taken
use Rattle.jq_pages.specs.declared.editing.Made.{Made}
use Rattle.jq_pages.specs.declared.page.Page.{Page}
use Rattle.jq_pages.specs.declared.page.Rerun.{Rerun}
use Rattle.jq_pages.specs.declared.pieces.Piece.{Piece}
use Rattle.jq_pages.proofs.Applied.{split_at}
use Rattle.jq_pages.proofs.Edits.{around, drop_front, map_length, put_count, same_default, take_front}
use Rattle.jq_pages.proofs.Reruns.{placed_length, placed_more, renewed_none}

-- a list whose removed element is put back
pub put_back_is : {A : Type 0} (xs ys : List A) (i cut : ℕ) (put o : Option A) → i + cut ≤ length xs → put ≡ None → ys ≡ (take i xs ++ option_to_list put) ++ drop (i + cut) xs → option_to_list o ≡ take cut (drop i xs) → put_back_in ys i o ≡ xs
put_back_is xs ys i cut put o l e y t =
    let li : i ≤ length xs = omega arith in
    let n : i ≡ length (take i xs) = sym (length-take-le i xs li) in
    let y' : ys ≡ take i xs ++ drop (i + cut) xs = y ∙ ap (λ z. (take i xs ++ option_to_list z) ++ drop (i + cut) xs) e ∙ ap (λ z. z ++ drop (i + cut) xs) (append-nil (take i xs)) in
    ap (λ z. (take i z ++ option_to_list o) ++ drop i z) y'
    ∙ ap₂ (λ z w. (z ++ option_to_list o) ++ w) (take_front (take i xs) (drop (i + cut) xs) i n) (drop_front (take i xs) (drop (i + cut) xs) i n)
    ∙ append_assoc (take i xs) (option_to_list o) (drop (i + cut) xs)
    ∙ ap (λ z. take i xs ++ z) (ap₂ (λ z w. z ++ w) t (sym (drop-drop cut i xs)) ∙ take-append-drop cut (drop i xs))
    ∙ take-append-drop i xs

-- the parts of renewed pages
pub parts_renewed : {T : Type 0} (ps : List (Page T)) (rs : List (Rerun T)) → map parts (renewed ps rs) ≡ renewed_parts (map parts ps) rs
parts_renewed [] rs = refl
parts_renewed (p ∷ ps) [] = refl
parts_renewed (p ∷ ps) (a ∷ rs) = ap (λ z. (p.inputs.items, a.pieces.items.items, a.exit) ∷ z) (parts_renewed ps rs)

-- pages that get back the runs that they had
pub renewed_back : {T : Type 0} (ps : List (Page T)) (rs : List (Rerun T)) → length rs ≤ length ps → renewed_parts (map parts (renewed ps rs)) (map run_in (take (length rs) ps)) ≡ map parts ps
renewed_back [] [] l = refl
renewed_back [] (a ∷ rs) l = absurd (omega arith)
renewed_back (p ∷ ps) [] l = refl
renewed_back (p ∷ ps) (a ∷ rs) l = let l' : length rs ≤ length ps = omega arith in ap (λ z. parts p ∷ z) (renewed_back ps rs l')

-- the pages around the place
pub restored_at : {T : Type 0} (xs bs : List (Parts T)) (j i : ℕ) (t : Taken T) → j ≡ length xs → restored (xs ++ bs) j i t ≡ xs ++ restored_from bs i t
restored_at xs bs j i t e = ap₂ (λ z w. z ++ restored_from w i t) (take_front xs bs j e) (drop_front xs bs j e)

parts_front : {T : Type 0} (ps : List (Page T)) (j : ℕ) → j < length ps → j ≡ length (map parts (take j ps))
parts_front ps j l = let le : j ≤ length ps = omega arith in sym (map_length parts (take j ps) ∙ length-take-le j ps le)

parts_around : {T : Type 0} (old : List (Page T)) (j : ℕ) (q : Page T) → j < length old → q ≡ get_or old j q → map parts old ≡ map parts (take j old) ++ (parts q ∷ map parts (drop (j + 1) old))
parts_around old j q l e = ap (map parts) (split_at old j q l e) ∙ map-append parts (take j old) (q ∷ drop (j + 1) old)

-- What was taken out of page `q` and the pages after it is put back.
pub runs_back : {T : Type 0} (old new : List (Page T)) (j i : ℕ) (q p : Page T) (rs : List (Rerun T)) (value : Option Val) (made : Made T) → j < length old → j + 1 + length rs ≤ length old → q ≡ get_or old j q → new ≡ take j old ++ (p ∷ renewed (drop (j + 1) old) rs)
    → put_back_in p.inputs.items i value ≡ q.inputs.items → made.run.pieces ≡ q.pieces → made.run.exit ≡ q.exit → made.runs.items ≡ map run_in (take (length rs) (drop (j + 1) old)) → restored (map parts new) j i (taken.Runs value made) ≡ map parts old
runs_back old new j i q p rs value made l fit e n a b c d =
    let qs = drop (j + 1) old in
    let ql : length qs ≡ length old - (j + 1) = length-drop (j + 1) old in
    let fit' : length rs ≤ length qs = omega arith in
    ap (λ z. restored z j i (taken.Runs value made)) (ap (map parts) n ∙ map-append parts (take j old) (p ∷ renewed qs rs))
    ∙ restored_at (map parts (take j old)) (map parts (p ∷ renewed qs rs)) j i (taken.Runs value made) (parts_front old j l)
    ∙ ap₂ (λ z w. map parts (take j old) ++ (z ∷ w)) (ap₂ (λ x y. (x, y.items.items, made.run.exit)) a b ∙ ap (λ z. (q.inputs.items, q.pieces.items.items, z)) c) (ap (renewed_parts (map parts (renewed qs rs))) d ∙ renewed_back qs rs fit')
    ∙ sym (parts_around old j q l e)

-- Page `q` and the pages after it get what was taken out of them.
pub runs_put : {T : Type 0} (old new : List (Page T)) (j i : ℕ) (q p : Page T) (put : Option Val) (made : Made T) → j < length old → q ≡ get_or old j q → new ≡ take j old ++ (p ∷ renewed (drop (j + 1) old) made.runs.items)
    → p.inputs.items ≡ put_back_in q.inputs.items i put → p.pieces ≡ made.run.pieces → p.exit ≡ made.run.exit → map parts new ≡ restored (map parts old) j i (taken.Runs put made)
runs_put old new j i q p put made l e n a b c =
    let qs = drop (j + 1) old in
    ap (map parts) n ∙ map-append parts (take j old) (p ∷ renewed qs made.runs.items)
    ∙ ap₂ (λ z w. map parts (take j old) ++ (z ∷ w)) (ap₂ (λ x y. (x, y.items.items, p.exit)) a b ∙ ap (λ z. (put_back_in q.inputs.items i put, made.run.pieces.items.items, z)) c) (parts_renewed qs made.runs.items)
    ∙ sym (restored_at (map parts (take j old)) (parts q ∷ map parts qs) j i (taken.Runs put made) (parts_front old j l))
    ∙ ap (λ z. restored z j i (taken.Runs put made)) (sym (parts_around old j q l e))

-- The same for one input and its piece.
pub one_back : {T : Type 0} (old new : List (Page T)) (j i : ℕ) (q p : Page T) (value : Option Val) (piece : Option Piece) → j < length old → q ≡ get_or old j q → new ≡ take j old ++ (p ∷ drop (j + 1) old)
    → put_back_in p.inputs.items i value ≡ q.inputs.items → put_back_in p.pieces.items.items i piece ≡ q.pieces.items.items → p.exit ≡ q.exit → restored (map parts new) j i (taken.One value piece) ≡ map parts old
one_back old new j i q p value piece l e n a b c =
    let qs = drop (j + 1) old in
    ap (λ z. restored z j i (taken.One value piece)) (ap (map parts) n ∙ map-append parts (take j old) (p ∷ qs))
    ∙ restored_at (map parts (take j old)) (map parts (p ∷ qs)) j i (taken.One value piece) (parts_front old j l)
    ∙ ap (λ z. map parts (take j old) ++ (z ∷ map parts qs)) (ap₂ (λ x y. (x, y, p.exit)) a b ∙ ap (λ z. (q.inputs.items, q.pieces.items.items, z)) c)
    ∙ sym (parts_around old j q l e)

pub one_put : {T : Type 0} (old new : List (Page T)) (j i : ℕ) (q p : Page T) (put : Option Val) (piece : Option Piece) → j < length old → q ≡ get_or old j q → new ≡ take j old ++ (p ∷ drop (j + 1) old)
    → p.inputs.items ≡ put_back_in q.inputs.items i put → p.pieces.items.items ≡ put_back_in q.pieces.items.items i piece → p.exit ≡ q.exit → map parts new ≡ restored (map parts old) j i (taken.One put piece)
one_put old new j i q p put piece l e n a b c =
    let qs = drop (j + 1) old in
    ap (map parts) n ∙ map-append parts (take j old) (p ∷ qs)
    ∙ ap (λ z. map parts (take j old) ++ (z ∷ map parts qs)) (ap₂ (λ x y. (x, y, p.exit)) a b ∙ ap (λ z. (put_back_in q.inputs.items i put, put_back_in q.pieces.items.items i piece, z)) c)
    ∙ sym (restored_at (map parts (take j old)) (parts q ∷ map parts qs) j i (taken.One put piece) (parts_front old j l))
    ∙ ap (λ z. restored z j i (taken.One put piece)) (sym (parts_around old j q l e))

-- a list that a removed element can go back to
pub put_there : {A : Type 0} (xs ys : List A) (i cut : ℕ) (put : Option A) → cut ≡ 0 → ys ≡ (take i xs ++ option_to_list put) ++ drop (i + cut) xs → ys ≡ put_back_in xs i put
put_there xs ys i cut put e y = y ∙ ap (λ z. (take i xs ++ option_to_list put) ++ drop z xs) (let n : i + cut ≡ i = omega arith in n)

-- ---- the exchange of runs, page after page: `at` of them are exchanged

renewed_later : {T : Type 0} (ps : List (Page T)) (rs : List (Rerun T)) (n : ℕ) (d : Page T) → length rs ≤ n → get_or (renewed ps rs) n d ≡ get_or ps n d
renewed_later [] rs n d l = refl
renewed_later (p ∷ ps) [] n d l = refl
renewed_later (p ∷ ps) (a ∷ rs) zero d l = absurd (omega arith)
renewed_later (p ∷ ps) (a ∷ rs) (suc n) d l = let l' : length rs ≤ n = omega arith in renewed_later ps rs n d l'

pub swapped_first_pages : {T : Type 0} (ps : List (Page T)) (rs : List (Rerun T)) (from : ℕ) → ps ≡ take from ps ++ renewed (drop from ps) (take 0 rs)
swapped_first_pages ps rs from = sym (ap (λ z. take from ps ++ z) (renewed_none (drop from ps)) ∙ take-append-drop from ps)

pub swapped_first_runs : {T : Type 0} (ps : List (Page T)) (rs : List (Rerun T)) (from : ℕ) → rs ≡ map run_in (take 0 (drop from ps)) ++ drop 0 rs
swapped_first_runs ps rs from = refl

pub swapped_end : (a n m : ℕ) → n ≤ a → n ≡ m → m ≤ a
swapped_end a n m l e = omega arith

pub swapped_within : {T : Type 0} (ps qs : List (Page T)) (rs : List (Rerun T)) (from at n : ℕ) → from + length rs ≤ length ps → at < length rs → qs ≡ take from ps ++ renewed (drop from ps) (take at rs) → n ≡ length qs → from + at < n
swapped_within ps qs rs from at n l a e m =
    let f : from ≤ length ps = omega arith in
    let k : length qs ≡ length ps = placed_length ps qs from (take at rs) f e in
    omega arith

pub swapped_all_pages : {T : Type 0} (ps qs : List (Page T)) (rs : List (Rerun T)) (from at : ℕ) → length rs ≤ at → qs ≡ take from ps ++ renewed (drop from ps) (take at rs) → qs ≡ take from ps ++ renewed (drop from ps) rs
swapped_all_pages ps qs rs from at l e = e ∙ ap (λ z. take from ps ++ renewed (drop from ps) z) (take_all at rs l)

module _ {T : Type 0} (ps qs : List (Page T)) (rs ss : List (Rerun T)) (from at : ℕ) (p : Page T) (fits : from + length rs ≤ length ps) (l : at < length rs) (e : qs ≡ take from ps ++ renewed (drop from ps) (take at rs)) where
  count : length (map run_in (take at (drop from ps))) ≡ at
  count =
      let n : length (drop from ps) ≡ length ps - from = length-drop from ps in
      let k : at ≤ length (drop from ps) = omega arith in
      map_length run_in (take at (drop from ps)) ∙ length-take-le at (drop from ps) k

  first : length (take at rs) ≡ at
  first = let k : at ≤ length rs = omega arith in length-take-le at rs k

  -- the page that comes next is not exchanged yet
  pub next_page : p ≡ get_or qs (from + at) p → p ≡ get_or (drop from ps) at p
  next_page h =
      let f : from ≤ length ps = omega arith in
      let n : from ≡ length (take from ps) = sym (length-take-le from ps f) in
      let m : length (take at rs) ≤ at = omega (arith, first) in
      h ∙ ap₂ (λ z w. get_or z (w + at) p) e n ∙ get_or-append-add (take from ps) (renewed (drop from ps) (take at rs)) at p ∙ renewed_later (drop from ps) (take at rs) at p m

  pub next_run : (a : Rerun T) → ss ≡ map run_in (take at (drop from ps)) ++ drop at rs → a ≡ get_or ss at a → a ≡ get_or rs at a
  next_run a i h =
      let xs = map run_in (take at (drop from ps)) in
      let n : at ≡ length xs + 0 = omega (arith, count) in
      let z : at + 0 ≡ at = omega arith in
      h ∙ ap₂ (λ y w. get_or y w a) i n ∙ get_or-append-add xs (drop at rs) 0 a ∙ get_or-drop at rs 0 a ∙ ap (λ w. get_or rs w a) z

  pub next_pages : (a : Rerun T) (p' : Page T) → p ≡ get_or qs (from + at) p → a ≡ get_or rs at a → p'.inputs ≡ p.inputs → p'.pieces ≡ a.pieces → p'.exit ≡ a.exit → set qs (from + at) p' ≡ take from ps ++ renewed (drop from ps) (take (at + 1) rs)
  next_pages a p' h k b c d =
      let mk : _ → _ → _ → Page T = λ x y z. record { inputs = x; pieces = y; exit = z } in
      let new : p' ≡ record { inputs = p.inputs; pieces = a.pieces; exit = a.exit } = ap₂ (λ x y. mk x y p'.exit) b c ∙ ap (λ z. mk p.inputs a.pieces z) d in
      let w : take at rs ++ a ∷ drop (at + 1) rs ≡ rs = sym (around rs at a l ∙ ap (λ z. take at rs ++ z ∷ drop (at + 1) rs) (sym k)) in
      let t : take (at + 1) rs ≡ take at rs ++ a ∷ [] = (take_at_read rs at a l).1 ∙ ap (λ z. take at rs ++ z ∷ []) (sym k) in
      let m : from + at ≡ from + length (take at rs) = omega (arith, first) in
      ap (set qs (from + at)) new ∙ placed_more ps qs from (from + at) (take at rs) rs (drop (at + 1) rs) a p fits e m w h ∙ ap (λ z. take from ps ++ renewed (drop from ps) z) (sym t)

  pub next_runs : (b : Rerun T) → ss ≡ map run_in (take at (drop from ps)) ++ drop at rs → p ≡ get_or qs (from + at) p → b.pieces ≡ p.pieces → b.exit ≡ p.exit → set ss at b ≡ map run_in (take (at + 1) (drop from ps)) ++ drop (at + 1) rs
  next_runs b i h c d =
      let xs = map run_in (take at (drop from ps)) in
      let n : length (drop from ps) ≡ length ps - from = length-drop from ps in
      let k : at < length (drop from ps) = omega arith in
      let mk : _ → _ → Rerun T = λ x y. record { pieces = x; exit = y } in
      let run : b ≡ run_in (get_or (drop from ps) at p) = ap₂ (λ x y. mk x y) c d ∙ ap run_in (next_page h) in
      let z : at - at ≡ 0 = omega arith in
      let le : at ≤ at = omega arith in
      let rest : drop at rs ≡ get_or rs at b ∷ drop (at + 1) rs = ap (drop at) (around rs at b l) ∙ drop_front (take at rs) (get_or rs at b ∷ drop (at + 1) rs) at (sym first) in
      let more : map run_in (take (at + 1) (drop from ps)) ≡ xs ++ b ∷ [] = ap (map run_in) ((take_at_read (drop from ps) at p k).1) ∙ map-append run_in (take at (drop from ps)) (get_or (drop from ps) at p ∷ []) ∙ ap (λ y. xs ++ y ∷ []) (sym run) in
      ap (λ y. set y at b) i ∙ set-append_right xs (drop at rs) at at b count le
      ∙ ap (λ y. xs ++ set (drop at rs) y b) z
      ∙ ap (λ y. xs ++ set y 0 b) rest
      ∙ sym (append_assoc xs (b ∷ []) (drop (at + 1) rs))
      ∙ ap (λ y. y ++ drop (at + 1) rs) (sym more)

pub swapped_all_runs : {T : Type 0} (ps : List (Page T)) (rs ss : List (Rerun T)) (from at : ℕ) → length rs ≤ at → at ≤ length rs → ss ≡ map run_in (take at (drop from ps)) ++ drop at rs → ss ≡ map run_in (take (length rs) (drop from ps))
swapped_all_runs ps rs ss from at l m e =
    let n : at ≡ length rs = omega arith in
    e ∙ ap₂ (λ x y. map run_in (take x (drop from ps)) ++ y) n (drop_of_length-le rs l) ∙ append-nil (map run_in (take (length rs) (drop from ps)))

pub changed_in_err : {A E : Type 0} (result : Result (Edited × A) E) → IsErr result → IsErr (changed_in result)
changed_in_err (Ok e) h = h
changed_in_err (Err x) h = h

-- ---- the numbers of inputs of the pages

renewed_size : {T : Type 0} (ps : List (Page T)) (rs : List (Rerun T)) (n : ℕ) (d : Page T) → length (get_or (renewed ps rs) n d).inputs.items ≡ length (get_or ps n d).inputs.items
renewed_size [] rs n d = refl
renewed_size (p ∷ ps) [] n d = refl
renewed_size (p ∷ ps) (a ∷ rs) zero d = refl
renewed_size (p ∷ ps) (a ∷ rs) (suc n) d = renewed_size ps rs n d

placed_size : {T : Type 0} (ps : List (Page T)) (j : ℕ) (p : Page T) (rs : List (Rerun T)) (n : ℕ) (d : Page T) → j < length ps → ¬ (n ≡ j) → length (get_or (take j ps ++ (p ∷ renewed (drop (suc j) ps) rs)) n d).inputs.items ≡ length (get_or ps n d).inputs.items
placed_size [] j p rs n d l ne = absurd (omega arith)
placed_size (o ∷ os) zero p rs zero d l ne = absurd (ne refl)
placed_size (o ∷ os) zero p rs (suc n) d l ne = renewed_size os rs n d
placed_size (o ∷ os) (suc j) p rs zero d l ne = refl
placed_size (o ∷ os) (suc j) p rs (suc n) d l ne = let l' : j < length os = omega arith in placed_size os j p rs n d l' (λ e. ne (ap suc e))

resized_count : (i put n cut : ℕ) → i + cut ≤ n → ((i + put) + (n - (i + cut))) + cut ≡ n + put
resized_count i put n cut l = omega arith

pub resized_installed : {T : Type 0} (old new : List (Page T)) (j i cut : ℕ) (p : Page T) (put : List Val) (a : Rerun T) (rs : List (Rerun T)) (x : Installed old new j i put cut a rs) → j < length old → p ≡ get_or old j p → i + cut ≤ length p.inputs.items → Resized old new j (length put) cut
resized_installed old new j i cut p put a rs x l e fits =
    let q = x.page in
    let same : get_or old j q ≡ p = same_default old j q p l ∙ sym e in
    let le : j ≤ length old = omega arith in
    let front : length (take j old) + 0 ≡ j = omega (arith, length-take-le j old le) in
    let count : length q.inputs.items ≡ (i + length put) + (length p.inputs.items - (i + cut)) = sym (map_length view q.inputs.items) ∙ ap length x.inputs ∙ ap (λ (z : Page _). length (put_at z.inputs.items i put cut)) same ∙ put_count p.inputs.items put i cut fits in
    record {
      same = installed_length old new j i put cut a rs x l;
      others = λ n d ne. ap (λ z. length (get_or z n d).inputs.items) (x.list ∙ ap (λ k. take j old ++ (q ∷ renewed (drop k old) rs)) (add-one j)) ∙ placed_size old j q rs n d l ne;
      here = λ d.
          let there : get_or new j d ≡ q = ap₂ (λ z k. get_or z k d) x.list (sym front) ∙ get_or-append-add (take j old) (q ∷ renewed (drop (j + 1) old) rs) 0 d in
          ap (λ (z : Page _). length z.inputs.items + cut) there ∙ ap (λ n. n + cut) count ∙ resized_count i (length put) (length p.inputs.items) cut fits ∙ ap (λ (z : Page _). length z.inputs.items + length put) (e ∙ same_default old j p d l);
    }

-- the element that was put at a place
pub placed_there : {A : Type 0} (xs ys : List A) (j : ℕ) (x d : A) → j < length xs → get_or (take j xs ++ (x ∷ ys)) j d ≡ x
placed_there xs ys j x d l =
    let le : j ≤ length xs = omega arith in
    let front : length (take j xs) + 0 ≡ j = omega (arith, length-take-le j xs le) in
    ap (λ k. get_or (take j xs ++ (x ∷ ys)) k d) (sym front) ∙ get_or-append-add (take j xs) (x ∷ ys) 0 d
