-- `reader::Reader::field` meets its contract: a field is whole where as many bytes follow its first three as it says.
-- Assumes nothing.
use Rattle.std.proofs.Common.{arith}
use Rattle.yardfile.proofs.BigEndian.{size_by}
use Rattle.yardfile.proofs.Finding.{cut_off, found}
use Rattle.yardfile.proofs.reader.Reader.field.Goals as goal

pub returns-then-left-size : goal.returns-then-left-size
returns-then-left-size c =
    let s = c.args.self.file.now in
    let p = c.args.self.at in
    let a = c.in_ok-checked_sub.ensures in
    let b = c.in_ok-left.ensures in
    let e = size_by s p (omega (arith, a, b)) in
    cut_off s p (omega (arith, a, b, e))

pub returns : goal.returns
returns c =
    let s = c.args.self.file.now in
    let p = c.args.self.at in
    let a = c.in_ok-checked_sub.ensures in
    let b = c.in_ok-left.ensures in
    let e = size_by s p (omega (arith, a, b)) in
    found s p {n = c.from-size.result} (omega (arith, e)) (omega (arith, a, b, e))
