-- Reading a text unit by unit.
use Rattle.std.proofs.Common.{◌≡◌, ◌≢◌, ◌∙◌, ℕ, ◌-◌, List, [], ◌∷◌, ◌++◌, length, take, true, refl, sym, ap, subst, inl, inr, arith, append_assoc, length-append, encode_utf8_all}
use Rattle.std.proofs.Math.Seq.{take-append_seam}
use Rattle.std.proofs.lemmas.List.{append-nil}
use Rattle.jq_tree.specs.Token.{Token, left_parenthesis, right_parenthesis}
use Rattle.jq_tree.specs.Words.{every, Spells, spells_keyword, spells_name, spells_field, spells_variable, spells_format, spells_number, spells_symbol}
use Rattle.jq_tree.specs.Lexing.{Parenthesis, Spot, between, within, Piece, ended, interpolated, IsParenthesis, Next, word, opens, closes, closes_in_string, closes_nothing, quote, is_not_line_feed, Reads, here, space, comment, last_comment, token, part, Missing, BadToken}
use Rattle.jq_tree.proofs.shared.Missing.{no_next_at_end}
use Rattle.jq_tree.proofs.shared.OneNumber.{first_one}

-- ---- one reading after the other

stays_at_end : {spot last : Spot} {text rest : List ℕ} {us : List Token} → Reads spot text us last rest → (opened : List Parenthesis) → spot ≡ between opened → text ≡ []
    → (us ≡ []) × (last ≡ between opened) × (rest ≡ [])
stays_at_end here opened e f = (refl, e, f)
stays_at_end (space h d) opened e f = absurd (cc f)
stays_at_end (comment cs after g h d) opened e f = absurd (cc f)
stays_at_end (last_comment cs h) opened e f = absurd (cc f)
stays_at_end (token n d) opened e f = absurd (no_next_at_end f n)
stays_at_end (part p d) opened e f = absurd (cc e)

after_comment : (opened : List Parenthesis) (cs rest : List ℕ) (us : List Token) (last : Spot) → every is_not_line_feed cs ≡ true → Reads (between opened) [] us last rest
    → Reads (between opened) (35 ∷ cs) us last rest
after_comment opened cs rest us last e d =
    let s = stays_at_end d opened refl refl in
    let x : Reads (between opened) (35 ∷ cs) [] (between opened) [] = last_comment cs e in
    subst (λ (r : List ℕ). Reads (between opened) (35 ∷ cs) us last r) (sym (s.2))
    (subst (λ (l : Spot). Reads (between opened) (35 ∷ cs) us l []) (sym (s.1))
    (subst (λ (v : List Token). Reads (between opened) (35 ∷ cs) v (between opened) []) (sym (s.0)) x))

pub reads_then : {spot middle last : Spot} {text left rest : List ℕ} {ts us : List Token} → Reads spot text ts middle left → Reads middle left us last rest → Reads spot text (ts ++ us) last rest
reads_then here d = d
reads_then (space e k) d = space e (reads_then k d)
reads_then (comment cs after e f k) d = comment cs after e f (reads_then k d)
reads_then {last = last} {rest = rest} {us = us} (last_comment {opened} cs e) d = after_comment opened cs rest us last e d
reads_then {spot = spot} {last = last} {text = text} {rest = rest} {us = vs} (token {ts = ts} {us = us} n k) d =
    subst (λ (l : List Token). Reads spot text l last rest) (sym (append_assoc ts us vs)) (token n (reads_then k d))
reads_then {spot = spot} {last = last} {text = text} {rest = rest} {us = vs} (part {ts = ts} {us = us} p k) d =
    subst (λ (l : List Token). Reads spot text l last rest) (sym (append_assoc ts us vs)) (part p (reads_then k d))

pub reads_one : {opened : List Parenthesis} {text rest : List ℕ} {ts : List Token} {spot : Spot} → Next opened text ts spot rest → Reads (between opened) text ts spot rest
reads_one {opened} {text} {rest} {ts} {spot} n = subst (λ (l : List Token). Reads (between opened) text l spot rest) (append-nil ts) (token n here)

pub reads_part : {opened : List Parenthesis} {text rest : List ℕ} {ts : List Token} {spot : Spot} → Piece opened text ts spot rest → Reads (within opened) text ts spot rest
reads_part {opened} {text} {rest} {ts} {spot} p = subst (λ (l : List Token). Reads (within opened) text l spot rest) (append-nil ts) (part p here)

-- ---- the rest is a suffix of the text

piece_leaves : {opened : List Parenthesis} {text rest : List ℕ} {ts : List Token} {spot : Spot} → Piece opened text ts spot rest → (front : List ℕ) × (text ≡ front ++ rest)
piece_leaves (ended cs {rest = rest} e h) = (cs ++ 34 ∷ [], e ∙ sym (append_assoc cs (34 ∷ []) rest))
piece_leaves (interpolated cs {rest = rest} e h) = (cs ++ 92 ∷ 40 ∷ [], e ∙ sym (append_assoc cs (92 ∷ 40 ∷ []) rest))

next_leaves : {opened : List Parenthesis} {text rest : List ℕ} {ts : List Token} {spot : Spot} → Next opened text ts spot rest → (front : List ℕ) × (text ≡ front ++ rest)
next_leaves (word w h s n) = (w, h.front)
next_leaves opens = (40 ∷ [], refl)
next_leaves closes = (41 ∷ [], refl)
next_leaves closes_in_string = (41 ∷ [], refl)
next_leaves closes_nothing = (41 ∷ [], refl)
next_leaves (quote p) = let f = piece_leaves p in (34 ∷ f.0, ap (λ (t : List ℕ). 34 ∷ t) (f.1))

after_both : (text left rest front more : List ℕ) → text ≡ front ++ left → left ≡ more ++ rest → (all : List ℕ) × (text ≡ all ++ rest)
after_both text left rest front more e f = (front ++ more, e ∙ ap (λ (t : List ℕ). front ++ t) f ∙ sym (append_assoc front more rest))

pub reads_leaves : {spot last : Spot} {text rest : List ℕ} {ts : List Token} → Reads spot text ts last rest → (front : List ℕ) × (text ≡ front ++ rest)
reads_leaves here = ([], refl)
reads_leaves {rest = rest} (space {c = c} {text = text} e d) = let f = reads_leaves d in (c ∷ f.0, ap (λ (t : List ℕ). c ∷ t) (f.1))
reads_leaves {rest = rest} (comment {text = text} cs after e h d) =
    let f = reads_leaves d in after_both (35 ∷ text) (10 ∷ after) rest (35 ∷ cs) (f.0) (ap (λ (t : List ℕ). 35 ∷ t) e) (f.1)
reads_leaves (last_comment cs e) = (35 ∷ cs, sym (append-nil (35 ∷ cs)))
reads_leaves {rest = rest} (token {text = text} {middle = middle} n d) = let f = next_leaves n in let g = reads_leaves d in after_both text middle rest (f.0) (g.0) (f.1) (g.1)
reads_leaves {rest = rest} (part {text = text} {middle = middle} p d) = let f = piece_leaves p in let g = reads_leaves d in after_both text middle rest (f.0) (g.0) (f.1) (g.1)

-- ---- the whole text

-- The text before the rest.
pub front_of : {spot last : Spot} {text rest : List ℕ} {ts : List Token} → Reads spot text ts last rest → text ≡ take (length text - length rest) text ++ rest
front_of {text = text} {rest = rest} d =
    let f = reads_leaves d in
    let size : length text - length rest ≡ length (f.0) = (let n = ap length (f.1) in let m = length-append (f.0) rest in omega arith) in
    let t : take (length text - length rest) text ≡ f.0 = ap (λ (n : ℕ). take n text) size ∙ ap (take (length (f.0))) (f.1) ∙ take-append_seam (f.0) rest in
    f.1 ∙ ap (λ (l : List ℕ). l ++ rest) (sym t)

pub bad_token : (text : List ℕ) (ts : List Token) (spot : Spot) (rest : List ℕ) (n at_byte : ℕ) → Reads (between []) text ts spot rest → Missing spot rest → n ≡ length text - length rest
    → at_byte ≡ length (encode_utf8_all (take n text)) → BadToken text at_byte
bad_token text ts spot rest n at_byte d m e p = record {
  before = ts;
  spot = spot;
  front = take n text;
  rest = rest;
  whole = front_of d ∙ ap (λ (k : ℕ). take k text ++ rest) (sym e);
  read = d;
  bad = m;
  place = p;
}

-- ---- words that are no parentheses

pub not_parenthesis : {w : List ℕ} {t : Token} (first : ℕ) (after rest : List ℕ) → first ∷ after ≡ w ++ rest → Spells w t → first ≢ 40 → first ≢ 41 → ¬ IsParenthesis t
not_parenthesis first after rest e (spells_keyword k f) o c h = elim h [ inl g ↦ cc g | inr g ↦ cc g ]
not_parenthesis first after rest e (spells_name f g) o c h = elim h [ inl i ↦ cc i | inr i ↦ cc i ]
not_parenthesis first after rest e (spells_field n f g) o c h = elim h [ inl i ↦ cc i | inr i ↦ cc i ]
not_parenthesis first after rest e (spells_variable n f g) o c h = elim h [ inl i ↦ cc i | inr i ↦ cc i ]
not_parenthesis first after rest e (spells_format n f g) o c h = elim h [ inl i ↦ cc i | inr i ↦ cc i ]
not_parenthesis first after rest e (spells_number r n f g) o c h = elim h [ inl i ↦ cc i | inr i ↦ cc i ]
not_parenthesis first after rest e (spells_symbol left_parenthesis f) o c h = o (ap first_one e ∙ ap first_one (ap (λ (t : List ℕ). t ++ rest) f))
not_parenthesis first after rest e (spells_symbol right_parenthesis f) o c h = c (ap first_one e ∙ ap first_one (ap (λ (t : List ℕ). t ++ rest) f))
not_parenthesis first after rest e (spells_symbol y f) o c h = elim h [ inl i ↦ cc i | inr i ↦ cc i ]
