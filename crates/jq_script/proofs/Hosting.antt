-- A session that takes another filter.
use Rattle.std.proofs.Common.{◌≡◌, ◌+◌, ℕ, List, subst, arith}
use Rattle.std.specs.Str.{IsUtf8, chars}
use Rattle.jq_filters.specs.Filters.{IsFilterOf}
use Rattle.jq_filters.specs.declared.filters.Filter.{Filter}
use Rattle.jq_syntax.specs.Chosen.{Chosen, setting}
use Rattle.jq_syntax.specs.Compiled.{IsRefusal}
use Rattle.jq_syntax.specs.declared.faults.CompileFault.{CompileFault}
use Rattle.jq_session.specs.Starts.{IsFirstRun}
use Rattle.jq_session.specs.States.{State}
use Rattle.jq_script.specs.Script.{IsFilterText}

-- ---- both counts

-- the counts change places
pub exchanged : (first : State) (mine given fresh back : ℕ) → IsFirstRun first given fresh → back ≡ mine → IsFirstRun first (mine + given) (fresh + back)
exchanged first mine given fresh back h e = let low = h.low in let high = h.high in record { low = omega (arith, low, e); high = omega (arith, high, e) }

-- the spare count comes back
pub returned : (first : State) (mine given left still : ℕ) → IsFirstRun first given left → still ≡ mine → IsFirstRun first (mine + given) (still + left)
returned first mine given left still h e = let low = h.low in let high = h.high in record { low = omega (arith, low, e); high = omega (arith, high, e) }

-- ---- the text of a filter

pub filter_text : (o chosen : Chosen) (bytes text : List ℕ) (f : Filter) → text ≡ bytes → IsUtf8 bytes → chosen ≡ o → IsFilterOf chosen (chars text) f → IsFilterText o bytes f
filter_text o chosen bytes text f same utf8 is h = record {
  text = utf8;
  compiled = subst (λ p. IsFilterOf p (chars bytes) f) is (subst (λ t. IsFilterOf chosen (chars t) f) same h);
}

pub refused_text : (o chosen : Chosen) (bytes text : List ℕ) (f : CompileFault) → text ≡ bytes → chosen ≡ o → IsRefusal (chars text) (setting chosen) f → IsRefusal (chars bytes) (setting o) f
refused_text o chosen bytes text f same is h = subst (λ p. IsRefusal (chars bytes) (setting p) f) is (subst (λ t. IsRefusal (chars t) (setting chosen) f) same h)
