-- A refusal of pages as one of a session.
use Rattle.jq_pages.specs.declared.refusals.Refusal as pages
use Rattle.jq_pages.specs.declared.refusals.Refusal.TheVariants as pages_refusal
use Rattle.jq_session.specs.declared.refusals.Refusal.{Refusal}
use Rattle.jq_session.specs.declared.refusals.Refusal.TheVariants as refusal

abbrev pub refusal_in : pages.Refusal → Refusal
refusal_in pages_refusal.NoPlace = refusal.NoPlace
refusal_in pages_refusal.Full = refusal.Full
refusal_in pages_refusal.NoMemory = refusal.NoMemory
