use Rattle.std.proofs.Common.{◌≡◌, ◌-◌, ◌≤◌, drop}
use Rattle.jq_resolver.proofs.scope.Scope.leave.Given as goal

abbrev pub invariant-loop : goal.invariant-loop
invariant-loop l = record {
  began : l.count ≤ l.counter;
  within : l.counter - l.count ≤ l.end - l.count;
  left : l.self.bindings ≡ drop (l.counter - l.count) l.initial.self.bindings;
}
