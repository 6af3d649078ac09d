-- `claim::check_claim` meets its contract: refusal 17, or those of the labels.
-- Assumes nothing.
use Rattle.std.proofs.Common.{◌∙◌, sym}
use Rattle.rules.specs.Trip.{trip_of}
use Rattle.sheet.proofs.Checking.{labels_judged}
use Rattle.sheet.proofs.claim.check_claim.Goals as goal

pub returns : goal.returns
returns c =
    λ q P.
    labels_judged (c.in-Some.ensures q P) (P.tables.laid.count ∙ sym c.requires.one_each) P.start_of c.check_labels.ensures.number (c.check_labels.ensures.answer (trip_of q) P.tables P.room_of)
