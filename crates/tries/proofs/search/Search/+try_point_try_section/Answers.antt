use Rattle.std.proofs.Common.{rules, refl, ◌∙◌}
use native.Mathlib.Omega.{arith}
use Rattle.std.proofs.lemmas.Grind.{common_steps}
use Rattle.rules.proofs.Ways.{last as by_itself}
use Rattle.turns.proofs.Entering.{arrived_low}
use Rattle.lessons.proofs.Remembering.{recalled_silent, recalled_lessons, wrote_lessons}
use Rattle.tries.specs.Serves.{Seeks}
use Rattle.tries.specs.Tried.{none}
use Rattle.tries.proofs.Looking.{on_fits}
use Rattle.tries.proofs.Marking.{past}
use Rattle.tries.proofs.Going.{on_low, on_arrived, from_there, to_there, point_found}
use Rattle.tries.proofs.Trying.{over_none, over_last, over_missed, over_found, missed}
use Rattle.tries.proofs.Failing.{shut_fails, met_fails, beyond_fails, over_vain, point_vain, fails_from, fails_more, fails_vain, fails_all, recalled_fails}
use Rattle.tries.proofs.search.Search.+try_point_try_section.Goals as goal

pub try_point-returns-in-Some : goal.try_point-returns-in-Some
try_point-returns-in-Some t c =
    let fails = recalled_fails c.requires.taught c.requires.empty c.in-Some.ensures refl in
    record {
      same = search rules;
      tried = none _ refl refl (point_vain fails);
      fails = fails;
      taught = recalled_lessons c.requires.taught c.recall.ensures;
    }

pub try_point-slots_of-slots-requires : goal.try_point-slots_of-slots-requires
try_point-slots_of-slots-requires t c = arrived_low c.requires.ready.checked c.requires.arrived

pub try_point-returns-in-Ok-clause-tried : goal.try_point-returns-in-Ok-clause-tried
try_point-returns-in-Ok-clause-tried t c =
    let loop = c.loop-e.invariant in
    let slots = c.slots_of-slots.ensures in
    let serving = c.args.self.now.serving.now in
    point_found c.requires.ready c.requires.arrived serving.from serving.onto c.args.t
    (fails_vain serving.yard.now.slots.now loop.fails) loop.untouched (slots.each c.loop-e.e-index (omega (arith, slots.long)))
    (rw loop.same.serving at c.in-Ok.ensures.tried) refl

pub try_point-loop-e-preserved : goal.try_point-loop-e-preserved
try_point-loop-e-preserved t c =
    let loop = c.loop-e.invariant in
    let slots = c.slots_of-slots.ensures in
    let told = c.in-Err.ensures in
    record {
      same = search rules;
      untouched = missed told.tried refl ∙ loop.untouched;
      taught = rw loop.same.serving at told.taught;
      fails = fails_more c.args.self.now.serving.now.yard.now.slots.now loop.fails (slots.each c.loop-e.e-index (omega (arith, slots.long)))
          (rw loop.same.serving at told.fails) (grind (arith, common_steps));
    }

pub try_point-returns : goal.try_point-returns
try_point-returns t c =
    let loop = c.loop-e.invariant in
    let fails = fails_all c.args.self.now.serving.now.yard.now.slots.now c.requires.ready loop.fails (omega (arith, c.loop-e-test.false, c.slots_of-slots.ensures.long)) in
    record {
      same = search rules;
      tried = none _ refl loop.untouched (point_vain fails);
      fails = fails_from (recalled_silent c.in_default.ensures refl) fails;
      taught = wrote_lessons loop.taught fails.hopeless.limit c.keep.ensures;
    }

pub try_section-put-requires-in-On : goal.try_section-put-requires-in-On
try_section-put-requires-in-On t c = on_low c.in-On.ensures c.requires.ready.checked

pub try_section-try_point-requires : goal.try_section-try_point-requires
try_section-try_point-requires t c =
    let known = c.requires in
    let on = c.in-On.ensures in
    let gone = past c.args.t c.put-in-On.new.self c.in-On.length (on_low on known.ready.checked) on.new c.put-in-On.ensures in
    (omega (arith, c.decreases, gone.fewer), (known.ready, (known.long, (on_arrived on, (known.taught, (c.none-beyond.ensures, (omega (arith, on_fits on), omega (arith, known.room, gone.fewer))))))))

pub try_section-take-requires : goal.try_section-take-requires
try_section-take-requires t c = on_low c.in-On.ensures c.requires.ready.checked

pub try_section-returns-in-Shut-clause-tried : goal.try_section-returns-in-Shut-clause-tried
try_section-returns-in-Shut-clause-tried t c = over_none _ (over_vain (shut_fails c.requires.reasons c.in-Shut.ensures))

pub try_section-returns-in-Met-clause-tried : goal.try_section-returns-in-Met-clause-tried
try_section-returns-in-Met-clause-tried t c = over_none _ (over_vain (met_fails c.put.ensures c.requires.reasons c.in-Met.ensures.1))

pub try_section-returns-in-Last-clause-tried : goal.try_section-returns-in-Last-clause-tried
try_section-returns-in-Last-clause-tried t c =
    over_last (by_itself c.in-Last.ensures.0 c.in-Last.ensures.1) (omega (arith, c.requires.long, c.requires.room))

pub try_section-returns-in-Ok-clause-tried : goal.try_section-returns-in-Ok-clause-tried
try_section-returns-in-Ok-clause-tried t c =
    let on = c.in-On.ensures in
    let gone = past c.args.t c.put-in-On.new.self _ (on_low on c.requires.ready.checked) on.new c.put-in-On.ensures in
    over_found (Seeks c.args.self.now.serving.now c.args.t c.args.h c.args.p) _ (from_there on gone) (to_there on gone) c.in-Ok.ensures.tried refl

pub try_section-returns-in-Err : goal.try_section-returns-in-Err
try_section-returns-in-Err t c =
    let on = c.in-On.ensures in
    let gone = past c.args.t c.put-in-On.new.self _ (on_low on c.requires.ready.checked) on.new c.put-in-On.ensures in
    let told = c.in-Err.ensures in
    record {
      same = search rules;
      tried = over_missed (Seeks c.args.self.now.serving.now c.args.t c.args.h c.args.p) _ (from_there on gone) (to_there on gone) _ told.tried refl;
      fails = beyond_fails on gone told.fails c.take.ensures c.add.ensures c.requires.reasons;
      taught = told.taught;
    }
