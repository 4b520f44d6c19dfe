use Rattle.std.proofs.Common.{◌∙◌, ap, sym}
use Rattle.jq_state.specs.Listed.{is_sought}
use Rattle.jq_state.specs.Nodes.{program_binding}
use Rattle.jq_state.specs.Buckets.{bucket}
use Rattle.jq_state.proofs.Texts.{called_bucket, variable_bucket}
use Rattle.jq_state.proofs.sought.Sought.bucket.Goals as goal

pub returns-in-Function-clause-bucket : goal.returns-in-Function-clause-bucket
returns-in-Function-clause-bucket c b h =
    called_bucket c.in-Function.name.now.text c.in-Function.count b (ap (λ s. is_sought s (program_binding b)) (sym c.in-Function.is) ∙ h)
    ∙ ap (λ bytes. bucket bytes c.in-Function.count) (sym c.as_str.ensures.value) ∙ sym c.bucket.ensures.value

pub returns-in-Variable-clause-bucket : goal.returns-in-Variable-clause-bucket
returns-in-Variable-clause-bucket c b h =
    variable_bucket c.in-Variable.name.now.text b (ap (λ s. is_sought s (program_binding b)) (sym c.in-Variable.is) ∙ h)
    ∙ ap (λ bytes. bucket bytes 7) (sym c.as_str-in-Variable.ensures.value) ∙ sym c.bucket-in-Variable.ensures.value
