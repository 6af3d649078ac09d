-- `rows::put_row` meets its contract. The loop's invariant: storing the numbers that are left, from where they are to go, gives the
-- row at the end.
-- Assumes nothing.
use Rattle.std.proofs.Common.{◌≡◌, ◌+◌, ◌≤◌, length, drop}
use Rattle.std.proofs.lemmas.List.Edits.{sets}
use Rattle.rules.specs.YardFile.{bytes_in, numbers}
use Rattle.yardfile.proofs.rows.put_row.Given as goal

abbrev pub invariant-loop-i : goal.invariant-loop-i
invariant-loop-i l = let ws = l.width-items in record {
  held : l.at + bytes_in (drop l.i ws) ≤ length l.bytes;
  rest : sets l.row l.i (numbers (drop l.i ws) l.bytes l.at) ≡ sets l.initial.row 0 (numbers ws l.bytes 0);
}
