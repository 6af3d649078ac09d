use Rattle.std.proofs.Common.{arith, refl, ◌≡◌, ◌-◌, length, suc, ◌+◌}
use Rattle.yardfile.specs.Tags.{number_of_tag}
use Rattle.yardfile.proofs.Writing.{putting, putting_more}
use Rattle.yardfile.proofs.rows.put_rows.Goals as goal

pub loop-init : goal.loop-init
loop-init c =
    let z : c.args.count - 0 ≡ c.args.count = omega arith in
    rw z (putting c.args.file.now (number_of_tag c.args.tag) _ c.args.table.now c.args.from 0 c.args.count c.requires.follow (omega (arith, c.requires.room)) refl)

pub loop-preserved : goal.loop-preserved
loop-preserved c =
    let columns = c.widths-columns.result.now in
    let left : c.args.count - c.loop.counter ≡ suc (c.args.count - (c.loop.counter + 1)) = omega arith in
    putting_more c.put_row.new.row _ c.field_bytes-step.result (length columns) c.loop.invariant left c.put_row.ensures (rw c.widths-columns.ensures refl) c.field_bytes-step.ensures
