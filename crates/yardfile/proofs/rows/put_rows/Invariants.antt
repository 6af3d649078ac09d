-- `rows::put_rows` meets its contract. The loop's invariant: storing the rows that are left, from where they are to go, gives the table
-- at the end.
-- Assumes nothing.
use Rattle.std.proofs.Common.{◌-◌}
use Rattle.std.proofs.lemmas.List.Edits.{sets}
use Rattle.yardfile.specs.Runs.{rows_of}
use Rattle.yardfile.specs.Tags.{number_of_tag}
use Rattle.yardfile.proofs.Writing.{Putting}
use Rattle.yardfile.proofs.rows.put_rows.Given as goal

abbrev pub invariant-loop : goal.invariant-loop
invariant-loop l =
    let t = number_of_tag l.tag in
    Putting l.file t (sets l.initial.table 0 (rows_of l.file t l.count l.from)) l.table l.at l.n (l.count - l.counter)
