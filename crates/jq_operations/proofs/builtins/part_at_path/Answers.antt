use Rattle.std.proofs.Common.{◌∙◌, ap, map}
use Rattle.jv_data.specs.View.{view}
use Rattle.jq_meaning.specs.Runs.{one}
use Rattle.jq_state.specs.Items.{item_at, keys_of}
use Rattle.jq_operations.proofs.Items.{raised_as}
use Rattle.jq_operations.proofs.NativeCalls.{path_found, path_refused}
use Rattle.jq_operations.proofs.builtins.part_at_path.Goals as goal

pub returns-in-Ok : goal.returns-in-Ok
returns-in-Ok c =
    let x = c.args.item in
    ap (λ ks. one (item_at (view c.in-Ok.value) ks)) c.in_ok-longer_path-in-Ok.ensures ∙ path_found (view x.value) (keys_of x.path) (map view c.args.arguments.now) (view c.in-Ok.value) c.in-Ok.ensures

pub returns-in-Err-Raised : goal.returns-in-Err-Raised
returns-in-Err-Raised c =
    let x = c.args.item in
    rw c.in-Err-Raised.field-0-is (path_refused (view x.value) (keys_of x.path) (map view c.args.arguments.now) (view c.in-Err-Raised.error) (raised_as c.in-Err-Raised.field-0 c.in-Err-Raised.error _ c.in-Err-Raised.field-0-is c.in-Err-Raised.ensures))
