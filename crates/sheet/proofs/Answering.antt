-- The answers of the sheet checker, one law for each of its ends.
-- Assumes nothing.
use Rattle.std.proofs.Common.{◌≡◌, ◌≢◌, ℕ, List, length, get_or, None, Some, Ok, Err, refl, arith}
use Rattle.rules.specs.Query.{Query, start_arrival, query_checks}
use Rattle.rules.specs.Net.{no_distance, distance, Shortest}
use Rattle.rules.specs.Trip.{query_net, total, walk_reversals}
use Rattle.rules.specs.Refusals.{verdict}
use Rattle.rules.specs.Refused.{verdict_of}
use Rattle.rules.specs.Search.{refusal, success}
use Rattle.rules.specs.Sheet.{Sheet, sheet_of, Claims, StartLabel, Accepted, SheetAnswer, refused, bad_claim, bad_label, bad_start, accepted}
use Rattle.rules.specs.declared.refusal.Refusal.{Refusal}
use Rattle.rules.specs.declared.route.Route.{Route}
use Rattle.rules.specs.declared.refusal.Refusal.TheVariants.{Claim, Label, StartLabel as WrongStart}
use Rattle.rules.proofs.Refused.{refusal_numbered}
use Rattle.rules.proofs.SheetAnswers.{accepted_walk}
use Rattle.train.specs.Asked as asked
use Rattle.sheet.specs.Checking.{SheetPasses, SheetChecked}
use Rattle.sheet.specs.Answer.{Judges}

module _ {q : Query} {h : Sheet} where
  -- refused by 1 to 11
  pub turned_away : (r : Refusal) → verdict (query_checks q (length h.labels)) ≡ verdict_of r → Judges q h (Err r)
  turned_away r e = record { numbers = refused (verdict_of r) e (refusal_numbered r) refl; claimed = tt }

  -- refused by 17, 18 or 19
  refused_numbers : (r : Refusal) → asked.Accepted q (length h.labels) → SheetChecked q h (Err r) → SheetAnswer q h (refusal (verdict_of r))
  refused_numbers r ok (SheetChecked.bad_claim i n) = let e : r ≡ Claim = cc in rw e (bad_claim ok n refl)
  refused_numbers r ok (SheetChecked.bad_label a i c l n k) = let e : r ≡ Label a = cc in rw e (bad_label a ok c l n k refl)
  refused_numbers r ok (SheetChecked.bad_start i c k n) = let e : r ≡ WrongStart = cc in rw e (bad_start ok c k n refl)
  refused_numbers r ok (SheetChecked.good i s) = absurd cc

  pub judged_refused : (r : Refusal) → asked.Accepted q (length h.labels) → SheetChecked q h (Err r) → Judges q h (Err r)
  judged_refused r ok k = record { numbers = refused_numbers r ok k; claimed = tt }

module _ (q : Query) {claim : ℕ} {list labels : List ℕ} (ok : asked.Accepted q (length labels)) (P : SheetPasses q (sheet_of claim list labels)) where
  pub none_accepted : claim ≡ 0 → Judges q (sheet_of claim list labels) (Ok None)
  none_accepted c = record { numbers = accepted ok P.claims P.rules P.start (Accepted.no_route c refl); claimed = c }

  module _ (d : claim ≢ 0) where
    walk_claimed : claim ≡ 1
    walk_claimed = go P.claims
      where
        go : Claims q (sheet_of claim list labels) → claim ≡ 1
        go (Claims.no_route c l) = absurd (d c)
        go (Claims.a_walk c w) = c

    answered : SheetAnswer q (sheet_of claim list labels) (success q list)
    answered = accepted ok P.claims P.rules P.start (Accepted.a_walk walk_claimed refl)

    pub shortest : Shortest (query_net q) (start_arrival q) list
    shortest = accepted_walk answered refl walk_claimed

    -- the start's label is the walk's distance
    pub start_label : get_or labels (start_arrival q) no_distance ≡ distance (query_net q) (start_arrival q) list
    start_label = go P.start
      where
        go : StartLabel q (sheet_of claim list labels) → get_or labels (start_arrival q) no_distance ≡ distance (query_net q) (start_arrival q) list
        go (StartLabel.no_route c l) = absurd (d c)
        go (StartLabel.a_walk c l) = omega (arith, l)

    pub walk_accepted : {r : Route} → r.total ≡ total q list → r.reversals ≡ walk_reversals q list → r.steps ≡ length list
        → Judges q (sheet_of claim list labels) (Ok (Some r))
    walk_accepted t e s = record { numbers = rw (t, e, s) answered; claimed = walk_claimed }
