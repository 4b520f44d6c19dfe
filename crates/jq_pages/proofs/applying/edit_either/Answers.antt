use Rattle.std.proofs.Common.{◌≡◌, Bool, true, false, IsTrue, Result, Ok, Err, IfOk, OnErr, refl, sym, subst}
use Rattle.std.proofs.Math.Logic.{∥∥₁_elim, ∥∥₁_map, ∥∥₁_prop}
use Rattle.jq_pages.specs.Pieces.{piece_view}
use Rattle.jq_pages.specs.private.Moves.{IsApplied}
use Rattle.jq_pages.specs.private.Pages.{IsHeld}
use Rattle.jq_pages.specs.declared.pieces.Piece.{Piece}
use Rattle.jq_pages.proofs.Plain.{plain_held}
use Rattle.jq_pages.proofs.applying.edit_either.Goals as goal

pub edit_plain-requires-clause-plain : goal.edit_plain-requires-clause-plain
edit_plain-requires-clause-plain g c = record {
  alike = c.plain.ensures.alike c.if-plain.true;
  paged = record { holds = ∥∥₁_map c.requires.held (λ h. h.holds); sized = ∥∥₁_map c.requires.held (λ h. h.sized) };
}

pub returns-then-plain-clause-kept : goal.returns-then-plain-clause-kept
returns-then-plain-clause-kept g c =
    record {
      same = c.edit_plain.ensures.kept.same;
      held = ∥∥₁_elim c.requires.held ∥∥₁_prop (λ h. ∥∥₁_elim c.edit_plain.ensures.kept.paged.sized ∥∥₁_prop (λ z. ∥∥₁_map c.edit_plain.ensures.kept.paged.holds (λ k.
          subst (λ z. IsHeld g.S.Steps.seen z (g.S.Steps.seen c.args.first.now) c.edit_plain.new.pages.items c.args.tail.now) (sym c.edit_plain.ensures.kept.same)
          (plain_held g.S.Steps.seen (g.S.Steps.fold c.args.steps.now) (g.S.Steps.seen c.args.first.now) c.args.pages.now.items c.edit_plain.new.pages.items c.args.tail.now (c.plain.ensures.alike c.if-plain.true) h k z))));
      index = c.edit_plain.ensures.kept.index;
    }

pub returns-then-plain-clause-edit : goal.returns-then-plain-clause-edit
returns-then-plain-clause-edit g c = record { edits = c.edit_plain.ensures.edit.edits; one = λ p. c.edit_plain.ensures.edit.one }

ok_map : {A E : Type 0} (P Q : A → Type 0) (r : Result A E) → ((x : A) → P x → Q x) → IfOk r P → IfOk r Q
ok_map P Q (Ok x) f h = f x h
ok_map P Q (Err e) f h = tt

pub returns-then-plain-clause-applied : goal.returns-then-plain-clause-applied
returns-then-plain-clause-applied g c =
    let old = c.args.pages.now.items in
    let new = c.edit_plain.new.pages.items in
    let t = c.args.tail.now in
    ok_map (λ e. (p : Piece) → IsApplied e.0 e.1 (piece_view c.args.head.now) old new p p c.args.j c.args.i c.args.put c.args.cut) (λ e. IsApplied e.0 e.1 (piece_view c.args.head.now) old new t t c.args.j c.args.i c.args.put c.args.cut) c.edit_plain.result (λ e h. h t) c.edit_plain.ensures.applied

err_map : {A E : Type 0} (P Q : Type 0) (r : Result A E) → (P → Q) → OnErr r P → OnErr r Q
err_map P Q (Ok x) f h = tt
err_map P Q (Err e) f h = f h

pub returns-then-plain-clause-unchanged : goal.returns-then-plain-clause-unchanged
returns-then-plain-clause-unchanged g c =
    let old = c.args.pages.now.items in
    let new = c.edit_plain.new.pages.items in
    err_map (new ≡ old) ((new ≡ old) × (c.args.tail.now ≡ c.args.tail.now)) c.edit_plain.result (λ e. (e, refl)) c.edit_plain.ensures.unchanged

not_plain : (a b : Bool) → a ≡ b → a ≡ false → IsTrue b → ⊥
not_plain true b e f p = cc
not_plain false b e f p = cc

pub returns-clause-edit : goal.returns-clause-edit
returns-clause-edit g c = record { edits = c.edit_pages.ensures.edits; one = λ p. absurd (not_plain c.plain.result _ c.plain.ensures.value c.if-plain.false p) }
