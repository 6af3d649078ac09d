use Rattle.std.proofs.Common.{◌≡◌, ℕ, ◌+◌, ◌-◌, ◌≤◌, List, ◌++◌, rules, length, take, sym, ap, ◌∙◌, subst, length-take-le}
use Rattle.std.specs.Io.KnownBytes.{Consumes}
use Rattle.std.proofs.KnownBytes.{Consumes-trans}
use borrow.Rule.Slice.PartMut.{put_mid, post_of}
use lib.Seq.{take-append-le, take-append-add}
use Rattle.route_run.proofs.input.read_full.Goals as goal

-- what stands at the start once n more bytes are put behind the first i
put_behind : (i k n : ℕ) (xs ys : List ℕ) → i ≤ length xs → n ≤ length ys → take i xs ++ take n ys ≡ take (i + n) (put_mid i k xs ys)
put_behind i k n xs ys within fits =
    ap (λ l. take i xs ++ l) (sym (take-append-le n ys (post_of i k xs) fits))
    ∙ sym (take-append-add (take i xs) (ys ++ post_of i k xs) n)
    ∙ ap (λ m. take (m + n) (put_mid i k xs ys)) (length-take-le i xs within)

pub loop-done-preserved : goal.loop-done-preserved
loop-done-preserved g c =
    let before = c.loop-done.invariant in
    let joined = put_behind c.loop-done.done (length c.loop-done.buffer - c.loop-done.done) c.in_ok-n.n c.loop-done.buffer c.read.new.buf before.0 c.in_ok-n.ensures.bound.0 in
    (search rules, search rules, subst (Consumes _ _) joined (Consumes-trans _ _ _ _ _ before.2 c.in_ok-n.ensures.bytes.0))
