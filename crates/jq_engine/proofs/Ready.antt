-- That a run can go on has one proof.
use Rattle.std.specs.Prelude.{ℕ}
use Rattle.std.proofs.Props.{props}
use Rattle.jq_state.specs.Nexts.{NextFits}
use Rattle.jq_state.specs.declared.next.Next.{Next}
use Rattle.jq_state.specs.declared.next.Next.TheVariants as next

pub NextFits-prop : (count : ℕ) (n : Next) → IsProp (NextFits count n)
NextFits-prop count (next.Evaluate t p x) = hlevel props
NextFits-prop count (next.Give x) = hlevel
NextFits-prop count (next.Matching q v r p) = hlevel props
NextFits-prop count (next.Matched r p) = hlevel props
NextFits-prop count next.GoBack = hlevel
NextFits-prop count (next.Raise v) = hlevel
NextFits-prop count (next.Leave level) = hlevel
NextFits-prop count (next.Quit s) = hlevel
