-- Where arrival and section meet, the table says whether their turn is forbidden.
-- Assumes nothing.
use Rattle.std.proofs.Common.{◌≡◌, sym, true, ◌∙◌}
use Rattle.pullout.proofs.Asking.{met, asked_low, same_section, asked_turn}
use Rattle.pullout.proofs.Reversal.turn_asked.Goals as goal

pub returns-then-from-self : goal.returns-then-from-self
returns-then-from-self c =
    let v = c.args.self.now in
    let m : true ≡ met v.plan.sections.now v.arrival v.section = sym c.if-not-meets.false ∙ c.meets.ensures in
    same_section v.arrival v.section (rw c.requires.same at c.requires.ready).checked m c.if-from-self.true

pub is_forbidden-requires : goal.is_forbidden-requires
is_forbidden-requires c =
    let v = c.args.self.now in
    let m : true ≡ met v.plan.sections.now v.arrival v.section = sym c.if-not-meets.false ∙ c.meets.ensures in
    rw c.point.ensures (asked_low v.arrival v.section (rw c.requires.same at c.requires.ready).checked m)

pub returns : goal.returns
returns c =
    let v = c.args.self.now in
    let m : true ≡ met v.plan.sections.now v.arrival v.section = sym c.if-not-meets.false ∙ c.meets.ensures in
    let ready = rw c.requires.same at c.requires.ready in
    c.is_forbidden.ensures ∙ rw c.point.ensures (asked_turn v.arrival v.section ready.checked m ready.turned c.if-from-self.false)
