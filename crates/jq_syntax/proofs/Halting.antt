-- No function of the prelude but `halt_error` calls one that halts.
use Rattle.std.proofs.Common.{◌≡◌, Bool, true, false, ◌&&◌, ◌||◌, not, length, codes, refl, inl, inr, ◌⊎◌}
use Rattle.std.proofs.lemmas.Bool.{and_parts, or_cases}
use Rattle.jq_tree.specs.Tree.{Tree}
use Rattle.jq_tree.specs.Tree as tree
use Rattle.jq_tree.specs.Names.{to_function, same_reference}
use Rattle.jq_tree.proofs.shared.References.{same_is}
use Rattle.jq_inputs.specs.Halting.{CallsNoHalt}
use Rattle.jq_inputs.specs.private.Hidden.{nothing_hidden}
use Rattle.jq_inputs.specs.private.Halts.{halts_in}
use Rattle.jq_inputs.proofs.shared.Halting.{found_exactly}
use Rattle.jq_syntax.specs.laws.Computed.{prelude}
use Rattle.jq_syntax.proofs.shared.Computing.{computing_prelude}
use Rattle.jq_syntax.specs.laws.OfThePrelude.{DefinitionsCallNoHalt, OnlyHaltErrorHalts}

abbrev definitions_call_no_halt : Tree → Bool
definitions_call_no_halt (tree.define n ps f g) =
    (not (halts_in nothing_hidden (tree.define n ps f tree.identity)) || same_reference (to_function n (length ps)) (to_function (codes "halt_error") 0)) && definitions_call_no_halt g
definitions_call_no_halt t = true

not_yes : (b : Bool) → not b ≡ true → b ≡ false
not_yes true e = absurd (cc e)
not_yes false e = refl

so_they_call : (p : Tree) → definitions_call_no_halt p ≡ true → DefinitionsCallNoHalt p
so_they_call (tree.define n ps f g) e =
    let own = tree.define n ps f tree.identity in
    let h = and_parts (not (halts_in nothing_hidden own) || same_reference (to_function n (length ps)) (to_function (codes "halt_error") 0)) (definitions_call_no_halt g) e in
    let this : CallsNoHalt own ⊎ (to_function n (length ps) ≡ to_function (codes "halt_error") 0) =
    elim (or_cases (not (halts_in nothing_hidden own)) (same_reference (to_function n (length ps)) (to_function (codes "halt_error") 0)) h.0) [
      | inl i ↦ inl ((found_exactly own).0 (not_yes (halts_in nothing_hidden own) i))
      | inr i ↦ inr (same_is (to_function n (length ps)) (to_function (codes "halt_error") 0) i)
    ] in
    (this, so_they_call g h.1)
so_they_call t e = tt

they_call_none : definitions_call_no_halt prelude ≡ true
unfolding computing_prelude
they_call_none = refl

pub only_halt_error_halts : OnlyHaltErrorHalts
only_halt_error_halts = so_they_call prelude they_call_none
