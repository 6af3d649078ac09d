-- `try_point` and `try_section` meet their contracts. The measure of a section's try is twice the number of unmarked points, that of a
-- point's try one more: a point tries its sections with the same marks, a section tries its far point with one mark more. In the loop of a
-- point's try the list is as it was, and the sections before were tried in vain.
-- Assumes nothing.
use Rattle.std.proofs.Common.{◌≡◌, ◌+◌}
use Rattle.tries.specs.Marks.{unmarked}
use Rattle.tries.specs.Serves.{FailsFor, Taught, SameLent}
use Rattle.tries.proofs.Failing.{Before}
use Rattle.tries.proofs.search.Search.+try_point_try_section.Given as goal

abbrev pub decreases-try_point : goal.decreases-try_point
decreases-try_point l = unmarked l.t + unmarked l.t + 1

abbrev pub decreases-try_section : goal.decreases-try_section
decreases-try_section l = unmarked l.t + unmarked l.t

abbrev pub invariant-try_point-loop-e : goal.invariant-try_point-loop-e
invariant-try_point-loop-e l = record {
  same : SameLent l.initial.self l.self;
  untouched : l.self.out.now ≡ l.initial.self.out.now;
  taught : Taught l.initial.self.serving.now l.self.memo.now;
  fails : FailsFor l.initial.self.serving.now l.t l.h l.p (Before l.initial.self.serving.now.yard.now.slots.now l.p l.e-index) l.initial.why l.why l.most;
}
