-- `bytes::number_of` meets its contract: each byte counts 256 times as much as the next.
-- Assumes nothing.
use Rattle.std.proofs.Common.{arith}
use Rattle.yardfile.proofs.BigEndian.{of_one, of_two, of_four}
use Rattle.yardfile.proofs.bytes.number_of.Goals as goal

pub returns-in-len1 : goal.returns-in-len1
returns-in-len1 c = let h = of_one c.args.bytes.now (omega arith) in omega arith

pub returns-in-len2 : goal.returns-in-len2
returns-in-len2 c = let h = of_two c.args.bytes.now (omega arith) in omega arith

pub returns-in-len4 : goal.returns-in-len4
returns-in-len4 c = let h = of_four c.args.bytes.now (omega arith) in omega arith
