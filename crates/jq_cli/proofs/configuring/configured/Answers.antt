use Rattle.std.proofs.Common.{◌≡◌, ◌∙◌, ap, codes, refl, [], List, Option, Some, None}
use Rattle.std.specs.Borrow.{Bor}
use Rattle.std.specs.Prelude.{option_map, unwrap_or}
use Rattle.clap.specs.Words.{Text, found_of}
use Rattle.clap.proofs.WalkLemmas.{first_value-rows}
use Rattle.jq_syntax.specs.Chosen.{Chosen}
use Rattle.jq_cli.specs.Configuration.{Configuration}
use Rattle.jq_cli.proofs.configuring.configured.Goals as goal

text_or : (o : Option (Bor Text)) (other : Bor Text) → (unwrap_or o other).now ≡ unwrap_or (option_map (λ (s : Bor Text). s.now) o) other.now
text_or None other = refl
text_or (Some text) other = refl

same : (a b : Configuration) → a.options ≡ b.options → a.filter ≡ b.filter → a.files ≡ b.files → a.live ≡ b.live → a.follow ≡ b.follow → a.explain ≡ b.explain → a ≡ b
same a b eo ef efs el efo ex = λ i. record { options = eo i; filter = ef i; files = efs i; live = el i; follow = efo i; explain = ex i }

pub returns : goal.returns
returns c =
    let filter = c.in_ok-filter.ensures.ok ∙ ap (λ (s : Bor Text). s.now) c.unwrap_or.ensures ∙ text_or c.get_str.result _
    ∙ ap (λ o. unwrap_or o []) (c.get_str.ensures ∙ first_value-rows (found_of c.args.matches.now) (codes "FILTER")) in
    same _ _ c.options_of.ensures filter c.in_ok-files.ensures c.is_given.ensures c.is_given-2.ensures c.is_given-3.ensures
