-- Further bindings leave the prelude's `_modify` alone.
use Rattle.std.proofs.Common.{ap, codes}
use Rattle.std.specs.Prelude.{if◌then◌else◌, length}
use Rattle.jq_meaning.specs.Env.{Env, Binding, found_function, no_callee, bound, value_of, function, closure, label_of, callee_or, is_named}
use Rattle.jq_meaning.specs.updates.Known.{HasModifyOf}
use Rattle.jq_meaning.specs.laws.Updates.{ModifyStays}

stays : (b : Binding) (own e : Env) → HasModifyOf own e → HasModifyOf own (bound b e)
stays (value_of n v) own e m = record { found = m.found; paths = m.paths; gets = m.gets; sets = m.sets; removes = m.removes }
stays (function n ps body) own e m = record {
  found = ap (λ c. callee_or c (if is_named (codes "_modify") 2 n (length ps) then found_function ps body (bound (function n ps body) e) else no_callee)) m.found;
  paths = m.paths;
  gets = m.gets;
  sets = m.sets;
  removes = m.removes;
}
stays (closure n body around) own e m = record { found = m.found; paths = m.paths; gets = m.gets; sets = m.sets; removes = m.removes }
stays (label_of n level) own e m = record { found = m.found; paths = m.paths; gets = m.gets; sets = m.sets; removes = m.removes }

pub modify-stays : ModifyStays
modify-stays b e m = record { own = m.own; is = stays b m.own e m.is }
