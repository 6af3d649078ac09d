-- Demand 3, for every answer that the contract of `check_sheet` allows. What is accepted is right: the list is a shortest admissible walk
-- (`accepted_is_shortest`), or no walk exists (`accepted_no_route`). And what is right is accepted, with the walk's own numbers: the
-- remaining distances with any shortest walk (`shortest_is_accepted`), or with "no route" where there is none (`no_route_is_accepted`).
-- So what the search writes is accepted, with the numbers that it gave (`search_is_accepted`, `search_without_route_is_accepted`). The
-- contract allows one answer (`judges_unique`).
-- Assumes nothing.
use Rattle.std.proofs.Common.{◌≡◌, ℕ, List, [], length, take, Option, None, Some, Result, Ok, Err, refl, sym, ap, arith}
use Rattle.rules.specs.Refusals.{Verdict, passed, refused_at}
use Rattle.rules.specs.Query.{Query, start_arrival}
use Rattle.rules.specs.Net.{Shortest, NoWalk}
use Rattle.rules.specs.Trip.{query_net, total}
use Rattle.rules.specs.Search.{Numbers, refusal, success, Outcome, Labelled, Answer}
use Rattle.rules.specs.Sheet.{Sheet, sheet_of, SheetAnswer}
use Rattle.rules.proofs.Sound.{sound}
use Rattle.rules.proofs.SheetAnswers.{sheet_unique, accepted_walk, accepted_none, true_walk_accepted, true_none_accepted}
use Rattle.rules.proofs.SearchSheet.{found_accepted, no_route_accepted}
use Rattle.train.specs.Asked as asked
use Rattle.rules.specs.declared.refusal.Refusal.{Refusal}
use Rattle.rules.specs.declared.route.Route.{Route}
use Rattle.rules.proofs.Refused.{same_refusal, refusal_numbered}
use Rattle.sheet.specs.Answer.{numbers_of, Claimed, Judges}

-- what is answered
abbrev Judged : Type 0
Judged = Result (Option Route) Refusal

-- an accepted answer is no refusal
not_refused : (o : Option Route) → (numbers_of (Ok o)).refusal ≡ 0
not_refused (Some w) = refl
not_refused None = refl

-- the first half: of any labels, whoever wrote them
module _ {q : Query} {h : Sheet} (o : Option Route) (A : SheetAnswer q h (numbers_of (Ok o))) where
  pub accepted_is_shortest : h.claim ≡ 1 → Shortest (query_net q) (start_arrival q) h.list
  accepted_is_shortest c = accepted_walk A (not_refused o) c

  pub accepted_no_route : h.claim ≡ 0 → NoWalk (query_net q) (start_arrival q)
  accepted_no_route c = accepted_none A (not_refused o) c

abbrev verdict_at : Numbers → Verdict
verdict_at n = refused_at n.refusal n.place

abbrev refusal_of : Numbers → ℕ
refusal_of n = n.refusal

abbrev route_of : Numbers → Route
route_of n = record { total = n.total; reversals = n.reversals; steps = n.steps }

-- an accepted "no route" is answered by none, since no refusal has number 0
none_said : (a : Judged) → numbers_of a ≡ refusal passed → (h : Sheet) → h.claim ≡ 0 → Claimed h a → a ≡ Ok None
none_said (Ok None) e h c k = refl
none_said (Ok (Some w)) e h c k = absurd (omega (arith, c, k))
none_said (Err r) e h c k = absurd (refusal_numbered r (ap refusal_of e))

-- the second half: the answer to a sheet that is right is determined
module _ {q : Query} {labels : List ℕ} (ok : asked.Accepted q (length labels)) (L : Labelled q labels) (a : Judged) where
  -- a walk's total is no refusal's, and not that of "no route", since the finish room is in it
  pub shortest_is_accepted : (list : List ℕ) → Shortest (query_net q) (start_arrival q) list → SheetAnswer q (sheet_of 1 list labels) (numbers_of a)
      → a ≡ Ok (Some (route_of (success q list)))
  shortest_is_accepted list s A = go a (sheet_unique A (true_walk_accepted q labels ok L list s))
    where
      some_total : 0 ≡ total q list → ⊥
      some_total e = let S = sound q (length labels) ok in omega (arith, e, S.room, S.train)

      go : (a : Judged) → numbers_of a ≡ success q list → a ≡ Ok (Some (route_of (success q list)))
      go (Ok (Some w)) e = ap (λ (n : Numbers). Ok (Some (route_of n))) e
      go (Ok None) e = absurd (some_total (ap (λ (n : Numbers). n.total) e))
      go (Err r) e = absurd (some_total (ap (λ (n : Numbers). n.total) e))

  pub no_route_is_accepted : NoWalk (query_net q) (start_arrival q) → Judges q (sheet_of 0 [] labels) a → a ≡ Ok None
  no_route_is_accepted n A = none_said a (sheet_unique A.numbers (true_none_accepted q labels ok L n)) (sheet_of 0 [] labels) refl A.claimed

-- the search's own answer as a sheet
module _ {q : Query} {route labels : List ℕ} {r : Outcome} (S : Answer q route labels r) (a : Judged) where
  pub search_is_accepted : r.numbers.refusal ≡ 0 → SheetAnswer q (sheet_of 1 (take r.numbers.steps r.route) r.labels) (numbers_of a)
      → numbers_of a ≡ r.numbers
  search_is_accepted e A = sheet_unique A (found_accepted S e)

  pub search_without_route_is_accepted : r.numbers.refusal ≡ 12 → Judges q (sheet_of 0 [] r.labels) a → a ≡ Ok None
  search_without_route_is_accepted e A = none_said a (sheet_unique A.numbers (no_route_accepted S e)) (sheet_of 0 [] r.labels) refl A.claimed

-- the contract determines the answer: of two answers with the same numbers both are refusals, or both are said of a walk, or of none
pub judges_unique : {q : Query} {h : Sheet} {a b : Judged} → Judges q h a → Judges q h b → a ≡ b
judges_unique {h = h} {a} {b} A B = same a b (sheet_unique A.numbers B.numbers) A.claimed B.claimed
  where
    same : (a b : Judged) → numbers_of a ≡ numbers_of b → Claimed h a → Claimed h b → a ≡ b
    same (Ok (Some v)) (Ok (Some w)) e x y = ap (λ (n : Numbers). Ok (Some (route_of n))) e
    same (Ok None) (Ok None) e x y = refl
    same (Ok (Some v)) (Ok None) e x y = absurd (omega (arith, x, y))
    same (Ok None) (Ok (Some w)) e x y = absurd (omega (arith, x, y))
    same (Ok (Some v)) (Err s) e x y = absurd (refusal_numbered s (sym (ap refusal_of e)))
    same (Ok None) (Err s) e x y = absurd (refusal_numbered s (sym (ap refusal_of e)))
    same (Err r) (Ok (Some w)) e x y = absurd (refusal_numbered r (ap refusal_of e))
    same (Err r) (Ok None) e x y = absurd (refusal_numbered r (ap refusal_of e))
    same (Err r) (Err s) e x y = ap (λ (r : Refusal). Err r) (same_refusal r s (ap verdict_at e))
