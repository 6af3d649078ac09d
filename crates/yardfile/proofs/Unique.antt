-- What the reader answers is determined (`answers_unique`): two answers that its contract allows are equal, and so are the tables at exit.
-- Assumes nothing.
use Rattle.std.proofs.Common.{◌≡◌, refl, sym, ap, ◌∙◌, List, ℕ, Result, Ok, Err}
use Rattle.rules.specs.Refusals.{refused_at}
use Rattle.rules.specs.YardFile.{Lent, Reading}
use Rattle.rules.specs.declared.refusal.Refusal.{Refusal}
use Rattle.rules.proofs.Refused.{same_refusal, refusal_numbered}
use Rattle.yardfile.specs.declared.Counts.{Counts}
use Rattle.yardfile.specs.Answer.{reading_of, Answers}

same_answer : (r r' : Result Counts Refusal) (out out' : Lent) → reading_of r out ≡ reading_of r' out' → r ≡ r'
same_answer (Ok x) (Ok y) out out' h =
    ap (λ (k : Reading). Ok (record { points = k.points; sections = k.sections; turns = k.turns; queries = k.queries })) h
same_answer (Ok x) (Err r) out out' h = absurd (refusal_numbered r (sym (ap (λ (x : Reading). x.refusal) h)))
same_answer (Err r) (Ok x) out out' h = absurd (refusal_numbered r (ap (λ (x : Reading). x.refusal) h))
same_answer (Err r) (Err r') out out' h = ap Err (same_refusal r r' (ap (λ (x : Reading). refused_at x.refusal x.place) h))

tables_of : (r : Result Counts Refusal) (out : Lent) → (reading_of r out).tables ≡ out
tables_of (Ok x) out = refl
tables_of (Err r) out = refl

pub answers_unique : {s : List ℕ} {lent : Lent} {r r' : Result Counts Refusal} {out out' : Lent} → Answers s lent r out → Answers s lent r' out' → (r ≡ r') × (out ≡ out')
answers_unique {r} {r'} {out} {out'} a b =
    let h = a.numbers ∙ sym b.numbers in
    (same_answer r r' out out' h, sym (tables_of r out) ∙ ap (λ (x : Reading). x.tables) h ∙ tables_of r' out')
