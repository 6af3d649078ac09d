-- `look_at` meets its contract: the tests of a way's first section, in their order.
-- Assumes nothing.
use native.Mathlib.Omega.{arith}
use Rattle.turns.proofs.Entering.{far_low}
use Rattle.tries.proofs.Looking.{looked_out, looked_in, occupied, passed_before, goes_on}
use Rattle.tries.proofs.look.look_at.Goals as goal

pub returns-then-not-may_enter : goal.returns-then-not-may_enter
returns-then-not-may_enter c =
    looked_out c.args.serving.now c.args.t.now c.args.h c.args.p c.args.e c.may_enter.ensures c.if-not-may_enter.true c.requires.some

pub returns-then-t-length : goal.returns-then-t-length
returns-then-t-length c =
    (looked_in c.args.serving.now c.args.t.now c.args.h c.args.p c.args.e c.may_enter.ensures c.if-not-may_enter.false, omega arith)

pub returns-then-not-is_free : goal.returns-then-not-is_free
returns-then-not-is_free c =
    occupied c.args.serving.now c.args.t.now c.args.h c.args.p c.args.e c.free_from-length.ensures c.if-t-length.false c.is_free.ensures c.if-not-is_free.true

pub has-requires : goal.has-requires
has-requires c =
    let enters = looked_in c.args.serving.now c.args.t.now c.args.h c.args.p c.args.e c.may_enter.ensures c.if-not-may_enter.false in
    omega (arith, c.far_end-point.ensures, far_low c.requires.ready.checked c.args.e c.args.p enters.inside)

pub returns-then-has : goal.returns-then-has
returns-then-has c =
    let enters = looked_in c.args.serving.now c.args.t.now c.args.h c.args.p c.args.e c.may_enter.ensures c.if-not-may_enter.false in
    passed_before c.args.serving.now c.args.t.now c.args.h c.args.p c.args.e c.free_from-length.ensures c.if-t-length.false c.requires.ready.checked enters c.far_end-point.ensures c.has.ensures c.if-has.true

pub returns : goal.returns
returns c =
    let enters = looked_in c.args.serving.now c.args.t.now c.args.h c.args.p c.args.e c.may_enter.ensures c.if-not-may_enter.false in
    goes_on c.args.serving.now c.args.t.now c.args.h c.args.p c.args.e c.free_from-length.ensures c.if-t-length.false enters c.is_free.ensures c.if-not-is_free.false c.far_end-point.ensures c.has.ensures c.if-has.false
