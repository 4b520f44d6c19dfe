use Rattle.std.proofs.Common.{◌-◌, take, drop}
use Rattle.std.specs.Str.{chars}
use Rattle.std.proofs.lemmas.Iterator.{YieldsList-from_chars, YieldsList-from_take, text_from_collect}
use Rattle.std.proofs.lemmas.Iterator.Adapters.{YieldsList-from_skip}
use Rattle.jv_value.proofs.Texts.{spelt_text}
use Rattle.jv_value.proofs.slicing.chars_between.Goals as goal

pub returns : goal.returns
returns c =
    spelt_text c.collect.result (take (c.args.end - c.args.start) (drop c.args.start (chars c.args.text.now)))
    (text_from_collect c.collect.result c.collect.ensures.ran
    (YieldsList-from_take (c.args.end - c.args.start) (YieldsList-from_skip c.args.start (YieldsList-from_chars c.args.text.now c.utf8.text cc) cc) cc))
