-- The characters of a string, one after the other.
use Rattle.std.proofs.Common.{◌≡◌, ◌∙◌, ℕ, ◌+◌, ◌-◌, ◌*◌, ◌<◌, List, [], ◌∷◌, ◌++◌, Bool, true, false, not, ◌||◌, nat_eq, length, Option, Some, None, refl, sym, ap, subst, inl, inr, arith, append_assoc, length-append}
use Rattle.std.specs.Prelude.{◌⊎◌, if◌then◌else◌}
use Rattle.std.proofs.lemmas.Bool.{cases_Bool, cond-true, cond-false, ne_eqb, not_from_false, or_from}
use Rattle.std.proofs.lemmas.Bool.Decides.{eqb_tells}
use Rattle.std.proofs.lemmas.Option.{same_Some}
use Rattle.jq_tree.specs.Token as token
use Rattle.jq_tree.specs.Lexing.{hex_value, Hex, hex, is_high_surrogate, is_low_surrogate, escaped, is_plain, Content, no_content, plain, escape, unicode, pair, Parenthesis, Spot, Piece, ended, interpolated}
use Rattle.jq_tree.proofs.shared.Escapes.{no_escape, hex_is}
use Rattle.jq_tree.specs.laws.Escapes.{hex_number}
use Rattle.jq_lexer.specs.private.Strings as s
use Rattle.jq_lexer.specs.private.Strings.{before, four_digits, if_low, low_surrogate, paired, by_unit, unicode_escape, first_character}
use Rattle.jq_lexer.specs.private.Spots.{closing, taken_by, spot_after, IsEnd, IsFirstPiece}
use Rattle.jv_data.specs.Text.{text_of}
use Rattle.jq_lexer.specs.declared.strings.Piece as code

-- ---- the first character of a string

pub record FirstUnit (text q t : List ℕ) : Type 0 where
  pub x : ℕ
  pub after : List ℕ
  pub us : List ℕ
  pub vs : List ℕ
  pub given : first_character text ≡ Some (x, after)
  pub whole : after ≡ us ++ q
  pub content : Content us vs
  pub is : t ≡ x ∷ vs

plain_given : (c : ℕ) (cs : List ℕ) → is_plain c ≡ true → first_character (c ∷ cs) ≡ Some (c, cs)
plain_given c cs h = last (nat_eq c 34) (nat_eq c 92) (s.escape cs) h
  where
    last : (a b : Bool) (o : Option (ℕ × List ℕ)) → not (a || b) ≡ true → (if a then None else if b then o else Some (c, cs)) ≡ Some (c, cs)
    last true b o e = absurd (cc e)
    last false true o e = absurd (cc e)
    last false false o e = refl

escape_given : (c x : ℕ) (cs : List ℕ) → escaped c ≡ Some x → first_character (92 ∷ c ∷ cs) ≡ Some (x, cs)
escape_given c x cs h =
    cond-false (nat_eq c 117) (unicode_escape cs) (before cs (escaped c)) (ne_eqb c 117 (λ e. no_escape 117 refl (sym e) h)) ∙ ap (before cs) h

unicode_given : (a b c d n : ℕ) (cs : List ℕ) → Hex a b c d n → is_high_surrogate n ≡ false → is_low_surrogate n ≡ false
    → first_character (92 ∷ 117 ∷ a ∷ b ∷ c ∷ d ∷ cs) ≡ Some (n, cs)
unicode_given a b c d n cs h high low =
    ap (λ (o : Option ℕ). by_unit (before cs o)) (hex_is h)
    ∙ cond-false (is_high_surrogate n) (paired n (low_surrogate cs)) (if is_low_surrogate n then None else Some (n, cs)) high
    ∙ cond-false (is_low_surrogate n) None (Some (n, cs)) low

pair_given : (a b c d e f g h m n : ℕ) (cs : List ℕ) → Hex a b c d m → Hex e f g h n → is_high_surrogate m ≡ true → is_low_surrogate n ≡ true
    → first_character (92 ∷ 117 ∷ a ∷ b ∷ c ∷ d ∷ 92 ∷ 117 ∷ e ∷ f ∷ g ∷ h ∷ cs) ≡ Some (0x10000 + (m - 0xd800) * 0x400 + (n - 0xdc00), cs)
pair_given a b c d e f g h m n cs p q high low =
    let rest = 92 ∷ 117 ∷ e ∷ f ∷ g ∷ h ∷ cs in
    let following : low_surrogate rest ≡ Some (n, cs) = ap (λ (o : Option ℕ). if_low (before cs o)) (hex_is q) ∙ cond-true (is_low_surrogate n) (Some (n, cs)) None low in
    ap (λ (o : Option ℕ). by_unit (before rest o)) (hex_is p)
    ∙ cond-true (is_high_surrogate m) (paired m (low_surrogate rest)) (if is_low_surrogate m then None else Some (m, rest)) high
    ∙ ap (paired m) following

pub first_unit : {ds t : List ℕ} (text q : List ℕ) → Content ds t → text ≡ ds ++ q → ((t ≡ []) × (text ≡ q)) ⊎ FirstUnit text q t
first_unit text q no_content e = inl (refl, e)
first_unit text q (plain {c} {cs} {s} p h) e = inr (record {
  x = c;
  after = cs ++ q;
  us = cs;
  vs = s;
  given = ap first_character e ∙ plain_given c (cs ++ q) p;
  whole = refl;
  content = h;
  is = refl;
})
first_unit text q (escape {c} {e = x} {cs} {s} p h) e = inr (record {
  x = x;
  after = cs ++ q;
  us = cs;
  vs = s;
  given = ap first_character e ∙ escape_given c x (cs ++ q) p;
  whole = refl;
  content = h;
  is = refl;
})
first_unit text q (unicode {a} {b} {c} {d} {n} {cs} {s} i j k h) e = inr (record {
  x = n;
  after = cs ++ q;
  us = cs;
  vs = s;
  given = ap first_character e ∙ unicode_given a b c d n (cs ++ q) i j k;
  whole = refl;
  content = h;
  is = refl;
})
first_unit text q (pair {a} {b} {c} {d} {e = e'} {f} {g} {h = h'} {high} {low} {cs} {s} i j k l h) e = inr (record {
  x = 0x10000 + (high - 0xd800) * 0x400 + (low - 0xdc00);
  after = cs ++ q;
  us = cs;
  vs = s;
  given = ap first_character e ∙ pair_given a b c d e' f g h' high low (cs ++ q) i j k l;
  whole = refl;
  content = h;
  is = refl;
})

-- ---- the found character is a character of the string

pub record Unit1 (text : List ℕ) (x : ℕ) (after : List ℕ) : Type 0 where
  pub front : List ℕ
  pub whole : text ≡ front ++ after
  pub content : Content front (x ∷ [])

some_pair : {p q : ℕ × List ℕ} → Some p ≡ Some q → (p.0 ≡ q.0) × (p.1 ≡ q.1)
some_pair {p} {q} e = let s = same_Some p q e in (ap (λ (r : ℕ × List ℕ). r.0) s, ap (λ (r : ℕ × List ℕ). r.1) s)

before_some : (rest : List ℕ) (o : Option ℕ) (x : ℕ) (after : List ℕ) → before rest o ≡ Some (x, after) → (o ≡ Some x) × (rest ≡ after)
before_some rest None x after e = absurd (cc e)
before_some rest (Some n) x after e = let p = some_pair e in (ap (λ (m : ℕ). Some m) (p.0), p.1)

record Four (text : List ℕ) (n : ℕ) (after : List ℕ) : Type 0 where
  a : ℕ
  b : ℕ
  c : ℕ
  d : ℕ
  whole : text ≡ a ∷ b ∷ c ∷ d ∷ after
  digits : Hex a b c d n

hex_by : (a b c d n : ℕ) (o p q r : Option ℕ) → hex_value a ≡ o → hex_value b ≡ p → hex_value c ≡ q → hex_value d ≡ r → hex_number o p q r ≡ Some n → Hex a b c d n
hex_by a b c d n (Some i) (Some j) (Some k) (Some l) e f g h t = subst (Hex a b c d) (same_Some _ _ t) (hex e f g h)
hex_by a b c d n o p q r e f g h t = absurd (cc t)

four_some : (text : List ℕ) (n : ℕ) (after : List ℕ) → four_digits text ≡ Some (n, after) → Four text n after
four_some [] n after e = absurd (cc e)
four_some (a ∷ []) n after e = absurd (cc e)
four_some (a ∷ b ∷ []) n after e = absurd (cc e)
four_some (a ∷ b ∷ c ∷ []) n after e = absurd (cc e)
four_some (a ∷ b ∷ c ∷ d ∷ rest) n after e =
    let p = before_some rest (hex_number (hex_value a) (hex_value b) (hex_value c) (hex_value d)) n after e in
    record {
      a = a;
      b = b;
      c = c;
      d = d;
      whole = ap (λ (t : List ℕ). a ∷ b ∷ c ∷ d ∷ t) (p.1);
      digits = hex_by a b c d n (hex_value a) (hex_value b) (hex_value c) (hex_value d) refl refl refl refl (p.0);
    }

if_some : {A : Type 0} (b : Bool) (o : Option A) (x : A) → (if b then o else None) ≡ Some x → (b ≡ true) × (o ≡ Some x)
if_some true o x e = (refl, e)
if_some false o x e = absurd (cc e)

unless_some : {A : Type 0} (b : Bool) (o : Option A) (x : A) → (if b then None else o) ≡ Some x → (b ≡ false) × (o ≡ Some x)
unless_some true o x e = absurd (cc e)
unless_some false o x e = (refl, e)

low_is : (o : Option (ℕ × List ℕ)) (n : ℕ) (after : List ℕ) → if_low o ≡ Some (n, after) → (is_low_surrogate n ≡ true) × (o ≡ Some (n, after))
low_is None n after e = absurd (cc e)
low_is (Some p) n after e =
    let k = if_some (is_low_surrogate p.0) (Some p) (n, after) e in
    let same = some_pair (k.1) in (ap is_low_surrogate (sym (same.0)) ∙ k.0, k.1)

record Low (text : List ℕ) (n : ℕ) (after : List ℕ) : Type 0 where
  following : List ℕ
  whole : text ≡ 92 ∷ 117 ∷ following
  four : Four following n after
  low : is_low_surrogate n ≡ true

low_some : (text : List ℕ) (n : ℕ) (after : List ℕ) → low_surrogate text ≡ Some (n, after) → Low text n after
low_some [] n after e = absurd (cc e)
low_some (c ∷ []) n after e = absurd (cc e)
low_some (c ∷ d ∷ rest) n after e = elim (eqb_tells c 92) [
  | inl p ↦ elim (eqb_tells d 117) [
    | inl q ↦
        let k = (if_some (nat_eq c 92) (if nat_eq d 117 then if_low (four_digits rest) else None) (n, after) e).1 in
        let l = (if_some (nat_eq d 117) (if_low (four_digits rest)) (n, after) k).1 in
        let m = low_is (four_digits rest) n after l in
        record {
          following = rest;
          whole = ap (λ (x : ℕ). x ∷ d ∷ rest) (p.1) ∙ ap (λ (x : ℕ). 92 ∷ x ∷ rest) (q.1);
          four = four_some rest n after (m.1);
          low = m.0;
        }
    | inr q ↦
        let k = (if_some (nat_eq c 92) (if nat_eq d 117 then if_low (four_digits rest) else None) (n, after) e).1 in
        let l : true ≡ false = sym ((if_some (nat_eq d 117) (if_low (four_digits rest)) (n, after) k).0) ∙ q.0 in absurd (cc l)
  ]
  | inr p ↦
      let l : true ≡ false = sym ((if_some (nat_eq c 92) (if nat_eq d 117 then if_low (four_digits rest) else None) (n, after) e).0) ∙ p.0 in absurd (cc l)
]

paired_some : (high : ℕ) (o : Option (ℕ × List ℕ)) (x : ℕ) (after : List ℕ) → paired high o ≡ Some (x, after)
    → (n : ℕ) × (o ≡ Some (n, after)) × (0x10000 + (high - 0xd800) * 0x400 + (n - 0xdc00) ≡ x)
paired_some high None x after e = absurd (cc e)
paired_some high (Some p) x after e = let k = some_pair e in (p.0, ap (λ (t : List ℕ). Some (p.0, t)) (k.1), k.0)

unicode_by : (text : List ℕ) (o : Option (ℕ × List ℕ)) (x : ℕ) (after : List ℕ) → four_digits text ≡ o → by_unit o ≡ Some (x, after) → Unit1 (92 ∷ 117 ∷ text) x after
unicode_by text None x after f e = absurd (cc e)
unicode_by text (Some p) x after f e = let r = four_some text p.0 p.1 f in elim (cases_Bool (is_high_surrogate p.0)) [
  | inl high ↦
      let k = sym (cond-true (is_high_surrogate p.0) (paired p.0 (low_surrogate p.1)) _ high) ∙ e in
      let l = paired_some p.0 (low_surrogate p.1) x after k in
      let m = low_some p.1 l.0 after (l.1) in
      let q = m.four in
      let content : Content (92 ∷ 117 ∷ r.a ∷ r.b ∷ r.c ∷ r.d ∷ 92 ∷ 117 ∷ q.a ∷ q.b ∷ q.c ∷ q.d ∷ []) ((0x10000 + (p.0 - 0xd800) * 0x400 + (l.0 - 0xdc00)) ∷ []) =
      pair r.digits q.digits high m.low no_content in
      record {
        front = 92 ∷ 117 ∷ r.a ∷ r.b ∷ r.c ∷ r.d ∷ 92 ∷ 117 ∷ q.a ∷ q.b ∷ q.c ∷ q.d ∷ [];
        whole = ap (λ (t : List ℕ). 92 ∷ 117 ∷ t) r.whole ∙ ap (λ (t : List ℕ). 92 ∷ 117 ∷ r.a ∷ r.b ∷ r.c ∷ r.d ∷ t) m.whole
            ∙ ap (λ (t : List ℕ). 92 ∷ 117 ∷ r.a ∷ r.b ∷ r.c ∷ r.d ∷ 92 ∷ 117 ∷ t) q.whole;
        content = subst (λ (y : ℕ). Content (92 ∷ 117 ∷ r.a ∷ r.b ∷ r.c ∷ r.d ∷ 92 ∷ 117 ∷ q.a ∷ q.b ∷ q.c ∷ q.d ∷ []) (y ∷ [])) (l.2) content;
      }
  | inr high ↦
      let k = sym (cond-false (is_high_surrogate p.0) (paired p.0 (low_surrogate p.1)) (if is_low_surrogate p.0 then None else Some p) high) ∙ e in
      let l = unless_some (is_low_surrogate p.0) (Some p) (x, after) k in
      let same = some_pair (l.1) in
      record {
        front = 92 ∷ 117 ∷ r.a ∷ r.b ∷ r.c ∷ r.d ∷ [];
        whole = ap (λ (t : List ℕ). 92 ∷ 117 ∷ t) r.whole ∙ ap (λ (t : List ℕ). 92 ∷ 117 ∷ r.a ∷ r.b ∷ r.c ∷ r.d ∷ t) (same.1);
        content = subst (λ (y : ℕ). Content (92 ∷ 117 ∷ r.a ∷ r.b ∷ r.c ∷ r.d ∷ []) (y ∷ [])) (same.0) (unicode r.digits high (l.0) no_content);
      }
]

escape_unit : (text : List ℕ) (x : ℕ) (after : List ℕ) → s.escape text ≡ Some (x, after) → Unit1 (92 ∷ text) x after
escape_unit [] x after e = absurd (cc e)
escape_unit (c ∷ cs) x after e = elim (eqb_tells c 117) [
  | inl p ↦
      let k = sym (cond-true (nat_eq c 117) (unicode_escape cs) (before cs (escaped c)) (p.0)) ∙ e in
      subst (λ (y : ℕ). Unit1 (92 ∷ y ∷ cs) x after) (sym (p.1)) (unicode_by cs (four_digits cs) x after refl k)
  | inr p ↦
      let k = sym (cond-false (nat_eq c 117) (unicode_escape cs) (before cs (escaped c)) (p.0)) ∙ e in
      let l = before_some cs (escaped c) x after k in
      record { front = 92 ∷ c ∷ []; whole = ap (λ (t : List ℕ). 92 ∷ c ∷ t) (l.1); content = escape (l.0) no_content }
]

pub unit_at : (text : List ℕ) (x : ℕ) (after : List ℕ) → first_character text ≡ Some (x, after) → Unit1 text x after
unit_at [] x after e = absurd (cc e)
unit_at (c ∷ cs) x after e = elim (eqb_tells c 34) [
  | inl p ↦ let k = sym (cond-true (nat_eq c 34) None (if nat_eq c 92 then s.escape cs else Some (c, cs)) (p.0)) ∙ e in absurd (cc k)
  | inr p ↦
      let k = sym (cond-false (nat_eq c 34) None (if nat_eq c 92 then s.escape cs else Some (c, cs)) (p.0)) ∙ e in
      elim (eqb_tells c 92) [
        | inl q ↦
            let l = sym (cond-true (nat_eq c 92) (s.escape cs) (Some (c, cs)) (q.0)) ∙ k in
            subst (λ (y : ℕ). Unit1 (y ∷ cs) x after) (sym (q.1)) (escape_unit cs x after l)
        | inr q ↦
            let l = some_pair (sym (cond-false (nat_eq c 92) (s.escape cs) (Some (c, cs)) (q.0)) ∙ k) in
            let content : Content (c ∷ []) (c ∷ []) = plain (not_from_false (nat_eq c 34 || nat_eq c 92) (or_from (nat_eq c 34) (nat_eq c 92) (p.0) (q.0))) no_content in
            record {
              front = c ∷ [];
              whole = ap (λ (t : List ℕ). c ∷ t) (l.1);
              content = subst (λ (y : ℕ). Content (c ∷ []) (y ∷ [])) (l.0) content;
            }
      ]
]

some_front : (front : List ℕ) (x : ℕ) → Content front (x ∷ []) → 0 < length front
some_front [] x h = absurd (nothing h refl refl)
  where
    nothing : {cs t : List ℕ} → Content cs t → cs ≡ [] → t ≡ x ∷ [] → ⊥
    nothing no_content e f = cc f
    nothing (plain p k) e f = cc e
    nothing (escape p k) e f = cc e
    nothing (unicode i j k l) e f = cc e
    nothing (pair i j k l m) e f = cc e
some_front (c ∷ cs) x h = omega arith

pub unit_shorter : (text : List ℕ) (x : ℕ) (after : List ℕ) → first_character text ≡ Some (x, after) → length after < length text
unit_shorter text x after e =
    let u = unit_at text x after e in
    let n = ap length u.whole in
    let m = length-append u.front after in
    let k = some_front u.front x u.content in omega arith

-- ---- reading a piece to its end

pub join_content : {cs ds s t : List ℕ} → Content cs s → Content ds t → Content (cs ++ ds) (s ++ t)
join_content no_content k = k
join_content (plain p h) k = plain p (join_content h k)
join_content (escape p h) k = escape p (join_content h k)
join_content (unicode i j l h) k = unicode i j l (join_content h k)
join_content (pair i j l m h) k = pair i j l m (join_content h k)

-- The text leads to an end of the piece.
pub record Ends (text : List ℕ) : Type 0 where
  pub read : List ℕ
  pub characters : List ℕ
  pub inner : Bool
  pub following : List ℕ
  pub whole : text ≡ read ++ closing inner following
  pub content : Content read characters

-- Some characters of a text were read, and the rest leads to an end of the piece if the text does.
pub record Reading (text rest characters : List ℕ) : Type 0 where
  pub read : List ℕ
  pub whole : text ≡ read ++ rest
  pub content : Content read characters
  pub leads : Ends text → Ends rest

pub reading_start : (text s : List ℕ) → s ≡ [] → Reading text text s
reading_start text s e = record { read = []; whole = refl; content = subst (Content []) (sym e) no_content; leads = λ h. h }

none_ends : (inner : Bool) (following : List ℕ) → first_character (closing inner following) ≡ None
none_ends true following = refl
none_ends false following = refl

step_ends : (rest : List ℕ) (x : ℕ) (after : List ℕ) → first_character rest ≡ Some (x, after) → Ends rest → Ends after
step_ends rest x after e h = elim (first_unit rest (closing h.inner h.following) h.content h.whole) [
  | inl p ↦ let k : None ≡ Some (x, after) = sym (none_ends h.inner h.following) ∙ ap first_character (sym (p.1)) ∙ e in absurd (cc k)
  | inr u ↦
      let same = some_pair (sym u.given ∙ e) in
      record { read = u.us; characters = u.vs; inner = h.inner; following = h.following; whole = sym (same.1) ∙ u.whole; content = u.content }
]

pub reading_more : (text rest s t : List ℕ) (x : ℕ) (after : List ℕ) → Reading text rest s → first_character rest ≡ Some (x, after) → t ≡ s ++ x ∷ [] → Reading text after t
reading_more text rest s t x after r e f =
    let u = unit_at rest x after e in
    record {
      read = r.read ++ u.front;
      whole = r.whole ∙ ap (λ (l : List ℕ). r.read ++ l) u.whole ∙ sym (append_assoc r.read u.front after);
      content = subst (Content (r.read ++ u.front)) (sym f) (join_content r.content u.content);
      leads = λ h. step_ends rest x after e (r.leads h);
    }

piece_by : (opened : List Parenthesis) (text read s rest : List ℕ) (inner : Bool) → text ≡ read ++ closing inner rest → Content read s
    → Piece opened text (taken_by s inner) (spot_after opened inner) rest
piece_by opened text read s rest true e h = interpolated read e h
piece_by opened text read s rest false e h = ended read e h

shorter_by : (text read rest : List ℕ) (inner : Bool) → text ≡ read ++ closing inner rest → length rest < length text
shorter_by text read rest true e = let n = ap length e in let m = length-append read (92 ∷ 40 ∷ rest) in omega arith
shorter_by text read rest false e = let n = ap length e in let m = length-append read (34 ∷ rest) in omega arith

no_end : (rest : List ℕ) → first_character rest ≡ None → ((inner : Bool) (following : List ℕ) → ¬ (rest ≡ closing inner following)) → Ends rest → ⊥
no_end rest e k h = elim (first_unit rest (closing h.inner h.following) h.content h.whole) [
  | inl p ↦ k h.inner h.following (p.1)
  | inr u ↦ let f : None ≡ Some (u.x, u.after) = sym e ∙ u.given in cc f
]

piece_ends : (opened : List Parenthesis) (text : List ℕ) (ts : List token.Token) (spot : Spot) (rest : List ℕ) → Piece opened text ts spot rest → Ends text
piece_ends opened text ts spot rest (ended cs {s} e h) = record { read = cs; characters = s; inner = false; following = rest; whole = e; content = h }
piece_ends opened text ts spot rest (interpolated cs {s} e h) = record { read = cs; characters = s; inner = true; following = rest; whole = e; content = h }

pub reading_end : (text rest s : List ℕ) (p : Option code.Piece) → Reading text rest s → first_character rest ≡ None → IsEnd s rest p → IsFirstPiece text p
reading_end text rest s None r e k = λ opened ts spot left d. no_end rest e k (r.leads (piece_ends opened text ts spot left d))
reading_end text rest s (Some p) r e k =
    let whole : text ≡ r.read ++ closing p.interpolated p.rest.now = r.whole ∙ ap (λ (t : List ℕ). r.read ++ t) (k.1) in (
      λ opened. piece_by opened text r.read (text_of p.content) p.rest.now p.interpolated whole (subst (Content r.read) (sym (k.0)) r.content),
      shorter_by text r.read p.rest.now p.interpolated whole,
    )
