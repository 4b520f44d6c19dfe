-- Bytes with notes, and without them.
use Rattle.std.proofs.Common.{◌≡◌, ◌+◌, ◌-◌, ◌≤◌, ℕ, List, [], ◌∷◌, ◌++◌, length, take, drop, Option, None, Some, Bool, true, false, ◌<◌, ◌⊎◌, inl, inr, nat_lt, refl, sym, ap, ◌∙◌, subst, append_assoc, arith, length-append, take-append-drop, append-nil}
use Rattle.std.proofs.lemmas.List.{take-append-le, drop-append-le, drop_all, take_all, length-take-le}
use borrow.Author.Tests.{ltb-true, ltb-false}
use native.Mathlib.Numerals.{unary_clauses}
use Rattle.std.specs.List.{slice_get}
use Rattle.std.specs.Io.KnownBytes.{Appends, Keeps}
use Rattle.jq_devices.specs.Notes.{AreCutOff, AreNoted, IsNote, bytes_added, last_byte, note_added, start}
use Rattle.jq_devices.specs.Places.{plain_of, without}
use Rattle.jq_devices.specs.Notes.{IsKept}
use Rattle.jq_devices.specs.declared.notes.NotePlace.{NotePlace}

-- bytes that are added after the last note
without-added : (after : ℕ) (p : NotePlace) (ps : List NotePlace) (bytes added : List ℕ)
    → without (after + length added) (p ∷ ps) (bytes ++ added) ≡ without after (p ∷ ps) bytes ++ added
without-added after p ps bytes added =
    let total = length-append bytes added in
    let front : length (bytes ++ added) - (after + length added) - p.len ≡ length bytes - after - p.len = omega (arith, total) in
    let back : length (bytes ++ added) - (after + length added) ≡ length bytes - after = omega (arith, total) in
    let first : length bytes - after - p.len ≤ length bytes = omega arith in
    let last : length bytes - after ≤ length bytes = omega arith in
    ap (λ n. without p.before ps (take n (bytes ++ added)) ++ drop (length (bytes ++ added) - (after + length added)) (bytes ++ added)) front
    ∙ ap (λ l. without p.before ps l ++ drop (length (bytes ++ added) - (after + length added)) (bytes ++ added)) (take-append-le _ bytes added first)
    ∙ ap (λ n. without p.before ps (take (length bytes - after - p.len) bytes) ++ drop n (bytes ++ added)) back
    ∙ ap (λ l. without p.before ps (take (length bytes - after - p.len) bytes) ++ l) (drop-append-le _ bytes added last)
    ∙ sym (append_assoc (without p.before ps (take (length bytes - after - p.len) bytes)) _ _)

-- a note that is added
without-noted : (p : NotePlace) (ps : List NotePlace) (bytes note : List ℕ) → p.len ≡ length note
    → without 0 (p ∷ ps) (bytes ++ note) ≡ without p.before ps bytes
without-noted p ps bytes note len =
    let total = length-append bytes note in
    let front : length (bytes ++ note) - 0 - p.len ≡ length bytes = omega (arith, total, len) in
    let whole : length (bytes ++ note) ≤ length (bytes ++ note) - 0 = omega arith in
    ap (λ n. without p.before ps (take n (bytes ++ note)) ++ drop (length (bytes ++ note) - 0) (bytes ++ note)) front
    ∙ ap (λ l. without p.before ps l ++ drop (length (bytes ++ note) - 0) (bytes ++ note)) (take-append-le _ bytes note (omega arith) ∙ take_all _ bytes (omega arith))
    ∙ ap (λ l. without p.before ps bytes ++ l) (drop_all _ (bytes ++ note) whole)
    ∙ append-nil _

-- no note
without-none : (p : NotePlace) (bytes : List ℕ) → p.len ≡ 0 → without 0 (p ∷ []) bytes ≡ bytes
without-none p bytes none =
    let front : length bytes - 0 - p.len ≡ length bytes - 0 = omega (arith, none) in
    ap (λ n. take n bytes ++ drop (length bytes - 0) bytes) front ∙ take-append-drop _ bytes

-- ---- if the bytes are known

pub plain_added : (after : ℕ) (p : NotePlace) (ps : List NotePlace) (old new : Option (List ℕ)) (added : List ℕ)
    → Appends old new added → Appends (plain_of after (p ∷ ps) old) (plain_of (after + length added) (p ∷ ps) new) added
plain_added after p ps None new added h = tt
plain_added after p ps (Some old) None added h = absurd h
plain_added after p ps (Some old) (Some new) added h = ap (without (after + length added) (p ∷ ps)) h ∙ without-added after p ps old added

pub plain_noted : (p : NotePlace) (ps : List NotePlace) (old new : Option (List ℕ)) (note : List ℕ) → p.len ≡ length note
    → Appends old new note → Keeps (plain_of p.before ps old) (plain_of 0 (p ∷ ps) new)
plain_noted p ps None new note len h = tt
plain_noted p ps (Some old) None note len h = absurd h
plain_noted p ps (Some old) (Some new) note len h = ap (without 0 (p ∷ ps)) h ∙ without-noted p ps old note len

pub plain_kept : (after : ℕ) (ps : List NotePlace) (old new : Option (List ℕ)) → Keeps old new → Keeps (plain_of after ps old) (plain_of after ps new)
plain_kept after ps None new h = tt
plain_kept after ps (Some old) None h = absurd h
plain_kept after ps (Some old) (Some new) h = ap (without after ps) h

pub plain_none : (p : NotePlace) (noted : Option (List ℕ)) → p.len ≡ 0 → plain_of 0 (p ∷ []) noted ≡ noted
plain_none p None none = refl
plain_none p (Some bytes) none = ap Some (without-none p bytes none)

pub appends_none : (old new : Option (List ℕ)) → Keeps old new → Appends old new []
appends_none None new h = tt
appends_none (Some old) None h = absurd h
appends_none (Some old) (Some new) h = h ∙ sym (append-nil old)

-- ---- the last byte

pub last_byte-at : (last : ℕ) (bytes : List ℕ) (b : ℕ) → slice_get bytes (length bytes - 1) ≡ Some b → b ≡ last_byte last bytes
last_byte-at last [] b h = cc
last_byte-at last (x ∷ []) b h = cc
last_byte-at last (x ∷ y ∷ ys) b h = last_byte-at x (y ∷ ys) b (simp unary_clauses (simp unary_clauses at h))

-- ---- what a writer keeps

no_cut : {A : Type 0} (is_cut : Bool) → is_cut ≡ true → is_cut ≡ false → A
no_cut is_cut cut uncut = cc

whole : (is_cut : Bool) (last : ℕ) (failed : Bool) (plain noted : Option (List ℕ)) → is_cut ≡ false → IsKept is_cut last failed plain noted → AreNoted last plain noted
whole false last failed plain noted uncut h = h
whole true last failed plain noted uncut h = no_cut true refl uncut

kept_whole : (is_cut : Bool) (last : ℕ) (failed : Bool) (plain noted : Option (List ℕ)) → is_cut ≡ false → AreNoted last plain noted → IsKept is_cut last failed plain noted
kept_whole false last failed plain noted uncut h = h
kept_whole true last failed plain noted uncut h = no_cut true refl uncut

-- nothing was written
pub kept_start : (p : NotePlace) (failed : Bool) (noted : Option (List ℕ)) → p.len ≡ 0 → IsKept false 0 failed (plain_of 0 (p ∷ []) noted) noted
kept_start p failed noted none = subst (λ plain. AreNoted 0 plain noted) (sym (plain_none p noted none)) (start noted)

-- bytes were written
kept_added : (is_cut : Bool) (last after : ℕ) (p : NotePlace) (ps : List NotePlace) (failed failed_new : Bool) (old new : Option (List ℕ)) (added : List ℕ) → is_cut ≡ false
    → Appends old new added → IsKept is_cut last failed (plain_of after (p ∷ ps) old) old → IsKept is_cut (last_byte last added) failed_new (plain_of (after + length added) (p ∷ ps) new) new
kept_added is_cut last after p ps failed failed_new old new added uncut h kept =
    kept_whole is_cut _ failed_new _ _ uncut (bytes_added last _ _ _ _ added (whole is_cut last failed _ _ uncut kept) (plain_added after p ps old new added h) h)

-- the same, by the number of the bytes and the last of them
pub kept_added_at : (is_cut : Bool) (last last_new after len : ℕ) (p : NotePlace) (ps : List NotePlace) (failed failed_new : Bool) (old new : Option (List ℕ)) (added : List ℕ) → is_cut ≡ false
    → length added ≡ len → last_new ≡ last_byte last added → Appends old new added → IsKept is_cut last failed (plain_of after (p ∷ ps) old) old
    → IsKept is_cut last_new failed_new (plain_of (after + len) (p ∷ ps) new) new
kept_added_at is_cut last last_new after len p ps failed failed_new old new added uncut count ends h kept =
    subst (λ n. IsKept is_cut last_new failed_new (plain_of (after + n) (p ∷ ps) new) new) count
    (subst (λ n. IsKept is_cut n failed_new (plain_of (after + length added) (p ∷ ps) new) new) (sym ends) (kept_added is_cut last after p ps failed failed_new old new added uncut h kept))

-- the bytes stay as they are
pub kept_kept : (is_cut : Bool) (last after : ℕ) (ps : List NotePlace) (failed failed_new : Bool) (old new : Option (List ℕ)) → is_cut ≡ false
    → Keeps old new → IsKept is_cut last failed (plain_of after ps old) old → IsKept is_cut last failed_new (plain_of after ps new) new
kept_kept is_cut last after ps failed failed_new old new uncut h kept =
    kept_whole is_cut last failed_new _ _ uncut (bytes_added last _ _ _ _ [] (whole is_cut last failed _ _ uncut kept) (appends_none _ _ (plain_kept after ps old new h)) (appends_none old new h))

-- a note was written, as a whole or its first bytes
kept_noted : (is_cut : Bool) (after len : ℕ) (ps : List NotePlace) (failed : Bool) (old new : Option (List ℕ)) (line : List ℕ) → IsNote line → len ≤ length line → is_cut ≡ nat_lt len (length line)
    → (len < length line → failed ≡ true) → Appends old new (take len line) → AreNoted 10 (plain_of after ps old) old
    → IsKept is_cut 10 failed (plain_of 0 (record { before = after; len = len } ∷ ps) new) new
kept_noted true after len ps failed old new line is bound cut blamed h before =
    let short : len < length line = ltb-true len (length line) (sym cut) in
    let place : NotePlace = record { before = after; len = len } in (
      blamed short,
      record {
        before = plain_of after ps old;
        before_noted = old;
        whole = before;
        front = take len line;
        back = drop len line;
        is_note = subst IsNote (sym (take-append-drop len line)) is;
        kept = plain_noted place ps old new (take len line) (sym (length-take-le len line bound)) h;
        added = h;
      },
    )
kept_noted false after len ps failed old new line is bound cut blamed h before =
    let long : length line ≤ len = ltb-false len (length line) (sym cut) in
    let place : NotePlace = record { before = after; len = len } in
    let all : take len line ≡ line = take_all len line long in
    note_added _ _ _ _ (take len line) before (subst IsNote (sym all) is) (plain_noted place ps old new (take len line) (sym (length-take-le len line bound)) h) h

-- the same, by what was kept before
pub kept_noted_at : (was_cut is_cut : Bool) (last after len : ℕ) (newest : NotePlace) (older ps : List NotePlace) (failed failed_new : Bool) (old new : Option (List ℕ)) (line : List ℕ)
    → was_cut ≡ false → last ≡ 10 → ps ≡ newest ∷ older → IsNote line → len ≤ length line → is_cut ≡ nat_lt len (length line) → (len < length line → failed_new ≡ true)
    → Appends old new (take len line) → IsKept was_cut last failed (plain_of after (newest ∷ older) old) old
    → IsKept is_cut last failed_new (plain_of 0 (record { before = after; len = len } ∷ ps) new) new
kept_noted_at was_cut is_cut last after len newest older ps failed failed_new old new line uncut ten pushed is bound cut blamed h kept =
    let place : NotePlace = record { before = after; len = len } in
    let before = subst (λ n. AreNoted n (plain_of after (newest ∷ older) old) old) ten (whole was_cut last failed _ _ uncut kept) in
    subst (λ q. IsKept is_cut last failed_new (plain_of 0 (place ∷ q) new) new) (sym pushed)
    (subst (λ n. IsKept is_cut n failed_new (plain_of 0 (place ∷ newest ∷ older) new) new) (sym ten) (kept_noted is_cut after len (newest ∷ older) failed_new old new line is bound cut blamed h before))

-- what is on the writer within it
pub noted : (is_cut : Bool) (last : ℕ) (failed : Bool) (plain on : Option (List ℕ)) → IsKept is_cut last failed plain on → ((n : ℕ) × AreNoted n plain on) ⊎ ((failed ≡ true) × AreCutOff plain on)
noted false last failed plain on h = inl (last, h)
noted true last failed plain on h = inr h
