-- `run::run_from` meets its contract. The loop's invariant: so many fields of the tag are passed, and `end` is the byte after them.
-- Assumes nothing.
use Rattle.yardfile.specs.Tags.{number_of_tag}
use Rattle.yardfile.proofs.Following.{Going}
use Rattle.yardfile.proofs.run.run_from.Given as goal

abbrev pub invariant-loop-count : goal.invariant-loop-count
invariant-loop-count l = Going l.file (number_of_tag l.tag) l.at l.count l.end
