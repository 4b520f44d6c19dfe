-- Bytes as lines.
use Rattle.std.proofs.Common.{◌≡◌, ◌≢◌, ◌==◌, cond, ℕ, Bool, true, false, List, [], ◌∷◌, ◌++◌, refl, sym, ap, ◌∙◌, append_assoc, append-nil}
use Rattle.std.specs.Prelude.{All}
use Rattle.std.specs.List.{flat_map, onto_first}
use Rattle.std.proofs.lemmas.Bool.{ne_eqb}
use Rattle.std.proofs.lemmas.List.Concat.{flat_map-append}
use Rattle.std.proofs.lemmas.List.Elements.{All-nil, All-append}
use Rattle.std.proofs.lemmas.List.Splits.{slice_split_at, slice_split_none}
use Rattle.jq_script.specs.Lines.{parts, ended_parts, all_parts, whole_lines, lines}
use Rattle.jq_script.specs.private.Lines.{ended, HasNoNewline, HaveNoNewline, AreLines, AreLinesFirst, last_line}

-- ---- the parts between newlines

no_newline : (line : List ℕ) → HasNoNewline line → All (λ b. (b == 10) ≡ false) line
no_newline line h = λ k d l. ne_eqb _ _ (h k d l)

parts_after : (line rest : List ℕ) → HasNoNewline line → parts (ended line ++ rest) ≡ line ∷ parts rest
parts_after line rest h = ap parts (append_assoc line (10 ∷ []) rest) ∙ slice_split_at (λ b. b == 10) line 10 rest (no_newline line h) refl

parts_of_lines : (whole : List (List ℕ)) (rest : List ℕ) → HaveNoNewline whole → parts (flat_map ended whole ++ rest) ≡ whole ++ parts rest
parts_of_lines [] rest h = refl
parts_of_lines (l ∷ ls) rest h =
    ap parts (append_assoc (ended l) (flat_map ended ls) rest)
    ∙ parts_after l (flat_map ended ls ++ rest) h.0
    ∙ ap (λ x. l ∷ x) (parts_of_lines ls rest h.1)

one_part : (last : List ℕ) → HasNoNewline last → parts last ≡ last ∷ []
one_part last h = slice_split_none (λ b. b == 10) last (no_newline last h)

-- there is always a part
abbrev IsCons : List (List ℕ) → Type 0
IsCons ps = (q : List ℕ) × (qs : List (List ℕ)) × (ps ≡ q ∷ qs)

onto_cons : (x : ℕ) (ps : List (List ℕ)) → IsCons (onto_first x ps)
onto_cons x [] = (x ∷ [], [], refl)
onto_cons x (p ∷ ps) = (x ∷ p, ps, refl)

either_cons : (b : Bool) (x : ℕ) (xs : List ℕ) → IsCons (cond b ([] ∷ parts xs) (onto_first x (parts xs)))
either_cons true x xs = ([], parts xs, refl)
either_cons false x xs = onto_cons x (parts xs)

parts_cons : (bytes : List ℕ) → IsCons (parts bytes)
parts_cons [] = ([], [], refl)
parts_cons (x ∷ xs) = either_cons (x == 10) x xs

-- ---- lines, from the parts

ended_after : (whole : List (List ℕ)) (p : List ℕ) (ps : List (List ℕ)) → ended_parts (whole ++ p ∷ ps) ≡ whole ++ ended_parts (p ∷ ps)
ended_after [] p ps = refl
ended_after (l ∷ []) p ps = refl
ended_after (l ∷ m ∷ ls) p ps = ap (λ x. l ∷ x) (ended_after (m ∷ ls) p ps)

all_after : (whole : List (List ℕ)) (p : List ℕ) (ps : List (List ℕ)) → all_parts (whole ++ p ∷ ps) ≡ whole ++ all_parts (p ∷ ps)
all_after [] p ps = refl
all_after (l ∷ []) p ps = refl
all_after (l ∷ m ∷ ls) p ps = ap (λ x. l ∷ x) (all_after (m ∷ ls) p ps)

-- the complete lines of bytes are these lines, and those of what follows them
whole_lines_after : (whole : List (List ℕ)) (rest : List ℕ) → HaveNoNewline whole → whole_lines (flat_map ended whole ++ rest) ≡ whole ++ whole_lines rest
whole_lines_after whole rest h =
    let cons = parts_cons rest in
    ap ended_parts (parts_of_lines whole rest h)
    ∙ ap (λ ps. ended_parts (whole ++ ps)) cons.2
    ∙ ended_after whole cons.0 cons.1
    ∙ ap (λ ps. whole ++ ended_parts ps) (sym cons.2)

pub are_whole_lines : (bytes : List ℕ) (whole : List (List ℕ)) (last : List ℕ) → AreLines bytes whole last → whole_lines bytes ≡ whole
are_whole_lines bytes whole last p =
    ap whole_lines p.parts
    ∙ whole_lines_after whole last p.clean
    ∙ ap (λ ps. whole ++ ended_parts ps) (one_part last p.open_line)
    ∙ append-nil whole

pub are_lines : (bytes : List ℕ) (whole : List (List ℕ)) (last : List ℕ) → AreLines bytes whole last → lines bytes ≡ whole ++ last_line last
are_lines bytes whole last p =
    ap lines p.parts
    ∙ ap all_parts (parts_of_lines whole last p.clean)
    ∙ ap (λ ps. all_parts (whole ++ ps)) (one_part last p.open_line)
    ∙ all_after whole last []

pub first_lines : (bytes : List ℕ) (served : List (List ℕ)) → AreLinesFirst bytes served → (others : List (List ℕ)) × (served ++ others ≡ whole_lines bytes)
first_lines bytes served p = (whole_lines p.others, sym (ap whole_lines p.parts ∙ whole_lines_after served p.others p.clean))

-- ---- more bytes

pub no_bytes : AreLines [] [] []
no_bytes = record { parts = refl; clean = tt; open_line = All-nil (λ b. b ≢ 10) }

have_append : (ls ms : List (List ℕ)) → HaveNoNewline ls → HaveNoNewline ms → HaveNoNewline (ls ++ ms)
have_append [] ms p q = q
have_append (l ∷ ls) ms p q = (p.0, have_append ls ms p.1 q)

-- bytes with no newline
pub line_grown : (bytes more : List ℕ) (whole : List (List ℕ)) (last : List ℕ) → AreLines bytes whole last → HasNoNewline more → AreLines (bytes ++ more) whole (last ++ more)
line_grown bytes more whole last p h = record {
  parts = ap (λ l. l ++ more) p.parts ∙ append_assoc (flat_map ended whole) last more;
  clean = p.clean;
  open_line = All-append (λ b. b ≢ 10) last more p.open_line h;
}

-- the beginning of the bytes so far, and more
regrouped : (begun last : List (List ℕ)) (bytes open_line rest others : List ℕ) → bytes ≡ flat_map ended begun ++ open_line → open_line ++ rest ≡ flat_map ended last ++ others
    → bytes ++ rest ≡ flat_map ended (begun ++ last) ++ others
regrouped begun last bytes open_line rest others p q =
    ap (λ l. l ++ rest) p
    ∙ append_assoc (flat_map ended begun) open_line rest
    ∙ ap (λ l. flat_map ended begun ++ l) q
    ∙ sym (append_assoc (flat_map ended begun) (flat_map ended last) others)
    ∙ ap (λ l. l ++ others) (sym (flat_map-append ended begun last))

pub lines_joined : (bytes rest : List ℕ) (begun : List (List ℕ)) (open_line : List ℕ) (more : List (List ℕ)) (last : List ℕ)
    → AreLines bytes begun open_line → AreLines (open_line ++ rest) more last → AreLines (bytes ++ rest) (begun ++ more) last
lines_joined bytes rest begun open_line more last p q = record {
  parts = regrouped begun more bytes open_line rest last p.parts q.parts;
  clean = have_append begun more p.clean q.clean;
  open_line = q.open_line;
}

pub first_joined : (bytes rest : List ℕ) (begun : List (List ℕ)) (open_line : List ℕ) (more : List (List ℕ))
    → AreLines bytes begun open_line → AreLinesFirst (open_line ++ rest) more → AreLinesFirst (bytes ++ rest) (begun ++ more)
first_joined bytes rest begun open_line more p q = record {
  others = q.others;
  parts = regrouped begun more bytes open_line rest q.others p.parts q.parts;
  clean = have_append begun more p.clean q.clean;
}

-- a newline ends the unfinished line
pub line_ended : (open_line end : List ℕ) → HasNoNewline open_line → HasNoNewline end → AreLines (open_line ++ ended end) ((open_line ++ end) ∷ []) []
line_ended open_line end p q = record {
  parts = sym (append_assoc open_line end (10 ∷ [])) ∙ sym (append-nil (ended (open_line ++ end))) ∙ sym (append-nil (ended (open_line ++ end) ++ []));
  clean = (All-append (λ b. b ≢ 10) open_line end p q, tt);
  open_line = All-nil (λ b. b ≢ 10);
}

-- complete lines, whatever follows them
pub lines_first : (bytes rest : List ℕ) (whole : List (List ℕ)) (last : List ℕ) → AreLines bytes whole last → AreLinesFirst (bytes ++ rest) whole
lines_first bytes rest whole last p = record {
  others = last ++ rest;
  parts = ap (λ l. l ++ rest) p.parts ∙ append_assoc (flat_map ended whole) last rest;
  clean = p.clean;
}
