-- `add` meets its contract: the words that it has passed are put together with those of the other set, and the rest is as it was.
-- Assumes nothing.
use mathlib.Core.Path.{◌≡◌}
use Prim.Native.Nat.{ℕ, ◌≤◌, ◌<◌}
use lib.ListN.{get_or}
use lib.Bits.{bit_or}
use Rattle.points.proofs.Points.add.Given as goal

abbrev pub invariant-loop-i : goal.invariant-loop-i
invariant-loop-i l = record {
  done : (j : ℕ) → j < l.i → get_or l.word-items j 0 ≡ bit_or (get_or l.initial.word-items j 0) (get_or l.more.words j 0);
  others : (j : ℕ) → l.i ≤ j → get_or l.word-items j 0 ≡ get_or l.initial.word-items j 0;
}
