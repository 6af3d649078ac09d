use Rattle.std.proofs.Common.{arith, refl, ◌∙◌, ◌≡◌, length}
use Rattle.std.proofs.lemmas.List.{drop_all}
use Rattle.yardfile.proofs.Writing.{bytes_left, number_more, whole_row}
use Rattle.yardfile.proofs.rows.put_row.Goals as goal

pub loop-i-preserved : goal.loop-i-preserved
loop-i-preserved c =
    let ws = c.widths-width-items.result.now in
    let s = c.args.bytes.now in
    let i = c.loop-i.i in
    let more = bytes_left ws i (omega arith) in
    record { held = omega (arith, more); rest = number_more s c.loop-i.row ws i c.loop-i.at c.number_of.result _ (omega arith) c.number_of.ensures c.loop-i.invariant.rest }

pub returns : goal.returns
returns c =
    let ws = c.widths-width-items.result.now in
    let e = c.widths-width-items.ensures in
    let l : length c.args.row.now ≡ length ws = rw (e) c.requires.room in
    let f = whole_row c.args.row.now ws c.args.bytes.now 0 l in
    let none = drop_all c.loop-i.i ws (omega arith) in
    rw none at c.loop-i.invariant.rest ∙ f ∙ rw e refl
