-- Entries one after the other.
use Rattle.std.proofs.Common.{◌≡◌, ◌∙◌, Bool, true, false, ◌&&◌, ◌||◌, refl, ap, sym}
use Rattle.jq_tree.specs.Tree.{Entry, Entries, no_entries, more_entries}
use Rattle.jq_tree.specs.Inputs.{at_most_one_of, at_most_one_each}
use Rattle.jq_inputs.specs.declared.hidden.Hidden.{Hidden}
use Rattle.jq_inputs.specs.declared.surveys.Count.{Count}
use Rattle.jq_inputs.specs.declared.surveys.Count.TheVariants.{Zero, One, More}
use Rattle.jq_inputs.specs.declared.surveys.Survey.{Survey}
use Rattle.jq_inputs.specs.private.Counts.{plus, is_zero}
use Rattle.jq_inputs.specs.private.Surveys.{is_single, beside}
use Rattle.jq_inputs.specs.private.Walk.{count_entry, count_entries, once_entry, once_entries, single_entries}
use Rattle.jq_inputs.proofs.Capping.{plus-assoc, plus-zero}

-- The survey of the entries so far, together with the remaining entries, determines the survey of all.
pub record Goes (h : Hidden) (all : Entries) (s : Survey) (rest : Entries) : Type 0 where
  pub counted : count_entries h all ≡ plus s.count (count_entries h rest)
  pub formed : at_most_one_each all ≡ (s.at_most_one && at_most_one_each rest)
  pub placed : once_entries h all ≡ ((s.once && single_entries h rest) || (is_single s && once_entries h rest))

-- The survey of all entries.
pub record IsOfAll (h : Hidden) (all : Entries) (s : Survey) : Type 0 where
  pub counted : s.count ≡ count_entries h all
  pub formed : s.at_most_one ≡ at_most_one_each all
  pub placed : s.once ≡ once_entries h all

-- The survey of one entry.
pub record IsOf (h : Hidden) (e : Entry) (s : Survey) : Type 0 where
  pub counted : s.count ≡ count_entry h e
  pub formed : s.at_most_one ≡ at_most_one_of e
  pub placed : s.once ≡ once_entry h e

and-assoc : (a b c : Bool) → (a && (b && c)) ≡ ((a && b) && c)
and-assoc true b c = refl
and-assoc false b c = refl

zero-plus : (a b : Count) → is_zero (plus a b) ≡ (is_zero a && is_zero b)
zero-plus Zero b = refl
zero-plus One Zero = refl
zero-plus One One = refl
zero-plus One More = refl
zero-plus More b = refl

crossed : (a b c d : Bool) → ((a && b) && (c && d)) ≡ ((a && c) && (b && d))
crossed true true c d = refl
crossed true false true d = refl
crossed true false false d = refl
crossed false b c d = refl

-- a: before, b: this entry, c: the rest
spread : (ao az bo bz co cz : Bool) → ((ao && (bz && cz)) || (az && ((bo && cz) || (bz && co)))) ≡ ((((ao && bz) || (az && bo)) && cz) || ((az && bz) && co))
spread true true true true co true = refl
spread true true true true co false = refl
spread true true true false co true = refl
spread true true true false co false = refl
spread true true false true co true = refl
spread true true false true co false = refl
spread true true false false co true = refl
spread true true false false co false = refl
spread true false bo true co true = refl
spread true false bo true co false = refl
spread true false bo false co true = refl
spread true false bo false co false = refl
spread false true true true co true = refl
spread false true true true co false = refl
spread false true true false co true = refl
spread false true true false co false = refl
spread false true false bz co cz = refl
spread false false bo bz co cz = refl

pub goes_on : {h : Hidden} {all rest : Entries} {s f : Survey} (e : Entry) → IsOf h e f → Goes h all s (more_entries e rest) → Goes h all (beside s f) rest
goes_on {h} {all} {rest} {s} {f} e i g = record {
  counted = g.counted ∙ (ap (λ c. plus s.count (plus c (count_entries h rest))) (sym i.counted) ∙ sym (plus-assoc s.count f.count (count_entries h rest)));
  formed = g.formed ∙ (ap (λ c. s.at_most_one && (c && at_most_one_each rest)) (sym i.formed) ∙ and-assoc s.at_most_one f.at_most_one (at_most_one_each rest));
  placed = g.placed ∙ (
      rw (← i.counted, ← i.formed, ← i.placed)
      (rw (
        zero-plus f.count (count_entries h rest),
        zero-plus s.count f.count,
        crossed f.at_most_one (at_most_one_each rest) (is_zero f.count) (is_zero (count_entries h rest)),
        crossed s.at_most_one f.at_most_one (is_zero s.count) (is_zero f.count),
      )
      (spread s.once (is_single s) f.once (is_single f) (once_entries h rest) (single_entries h rest))));
}

pub goes-start : (h : Hidden) (all : Entries) → Goes h all (record { count = Zero; at_most_one = true; once = false }) all
goes-start h all = record { counted = refl; formed = refl; placed = refl }

and-true : (a : Bool) → (a && true) ≡ a
and-true true = refl
and-true false = refl

last-or : (a b : Bool) → ((a && true) || (b && false)) ≡ a
last-or true b = refl
last-or false true = refl
last-or false false = refl

pub goes-end : {h : Hidden} {all : Entries} {s : Survey} → Goes h all s no_entries → IsOfAll h all s
goes-end {h} {all} {s} g = record {
  counted = sym (g.counted ∙ plus-zero s.count);
  formed = sym (g.formed ∙ and-true s.at_most_one);
  placed = sym (g.placed ∙ last-or s.once (is_single s));
}
