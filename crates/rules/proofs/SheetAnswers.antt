-- The sheet checker's contract determines its answer (`sheet_unique`). What it accepts is right: the list is a shortest walk
-- (`accepted_walk`), or there is no walk (`accepted_none`). And what is right it accepts: the remaining distances as labels with any
-- shortest walk (`true_walk_accepted`), or with none where there is none (`true_none_accepted`).
-- Assumes nothing.
use mathlib.Core.Path.{◌≡◌, refl, sym, ap, ◌∙◌}
use mathlib.Core.Logic.{◌⊎◌, inl, inr}
use mathlib.Core.List.{List, []}
use Prim.Native.Nat.{ℕ, ◌<◌}
use native.Mathlib.Omega.{arith}
use native.Mathlib.Decide.{dec_lt}
use lib.ListN.{length, get_or}
use Rattle.rules.specs.Plan.{arrivals}
use Rattle.rules.specs.Refusals.{passed, verdict}
use Rattle.rules.specs.Query.{Query, start_arrival, finish_room, query_checks}
use Rattle.rules.specs.Net.{no_distance, Shortest, NoWalk, Remaining, no_walk, by_walk, KeepsRules}
use Rattle.rules.specs.Trip.{query_net}
use Rattle.rules.specs.Search.{Numbers, refusal, success, Labelled}
use Rattle.rules.specs.Sheet.{Sheet, sheet_of, label_of, Claims, RulesAt, StartLabel, Accepted, SheetAnswer, refused, bad_claim, bad_label, bad_start, accepted}
use Rattle.rules.proofs.Verdicts.{not_both}
use Rattle.rules.proofs.Walks.{keeps_everywhere, matched_shortest, none_no_walk, remaining_keeps, remaining_unique}
use Rattle.rules.proofs.Sound.{Sound, sound}
use Rattle.rules.proofs.Trips.{sound_trip, start_inside, query_bounded, room_below, distance_below}

accepted_unique : {q : Query} {h : Sheet} {r s : Numbers} → Accepted q h r → Accepted q h s → r ≡ s
accepted_unique (Accepted.no_route c z) (Accepted.no_route d x) = cc
accepted_unique (Accepted.no_route c z) (Accepted.a_walk d x) = absurd (omega arith)
accepted_unique (Accepted.a_walk c z) (Accepted.no_route d x) = absurd (omega arith)
accepted_unique (Accepted.a_walk c z) (Accepted.a_walk d x) = cc

-- there is one lowest arrival at which a rule is broken
lowest_unique : {P : ℕ → Type 0} (a b : ℕ) → (P a → ⊥) → ((c : ℕ) → c < a → P c) → (P b → ⊥) → ((c : ℕ) → c < b → P c) → a ≡ b
lowest_unique a b na la nb lb = go (dec_lt a b) (dec_lt b a)
  where
    go : Dec (a < b) → Dec (b < a) → a ≡ b
    go (yes h) d = absurd (na (lb a h))
    go (no h) (yes d) = absurd (nb (la b d))
    go (no h) (no d) = omega arith

-- the cases exclude one another: each asks for what the one before it lacks
pub sheet_unique : {q : Query} {h : Sheet} {r s : Numbers} → SheetAnswer q h r → SheetAnswer q h s → r ≡ s
sheet_unique (refused v e n z) (refused w f m x) = cc
sheet_unique (refused v e n z) (bad_claim f g x) = absurd (not_both e f n)
sheet_unique (refused v e n z) (bad_label b f d i k l x) = absurd (not_both e f n)
sheet_unique (refused v e n z) (bad_start f d i k x) = absurd (not_both e f n)
sheet_unique (refused v e n z) (accepted f d i k x) = absurd (not_both e f n)
sheet_unique (bad_claim e g z) (refused w f m x) = absurd (not_both f e m)
sheet_unique (bad_claim e g z) (bad_claim f k x) = cc
sheet_unique (bad_claim e g z) (bad_label b f d i k l x) = absurd (g d)
sheet_unique (bad_claim e g z) (bad_start f d i k x) = absurd (g d)
sheet_unique (bad_claim e g z) (accepted f d i k x) = absurd (g d)
sheet_unique (bad_label a e c j g u z) (refused w f m x) = absurd (not_both f e m)
sheet_unique (bad_label a e c j g u z) (bad_claim f k x) = absurd (k c)
sheet_unique {q} {h} (bad_label a e c j g u z) (bad_label b f d i k l x) = let p = lowest_unique {P = RulesAt q h} a b g u k l in cc
sheet_unique (bad_label a e c j g u z) (bad_start f d i k x) = absurd (g (i a j))
sheet_unique (bad_label a e c j g u z) (accepted f d i k x) = absurd (g (i a j))
sheet_unique (bad_start e c j g z) (refused w f m x) = absurd (not_both f e m)
sheet_unique (bad_start e c j g z) (bad_claim f k x) = absurd (k c)
sheet_unique (bad_start e c j g z) (bad_label b f d i k l x) = absurd (k (j b i))
sheet_unique (bad_start e c j g z) (bad_start f d i k x) = cc
sheet_unique (bad_start e c j g z) (accepted f d i k x) = absurd (g k)
sheet_unique (accepted e c j g z) (refused w f m x) = absurd (not_both f e m)
sheet_unique (accepted e c j g z) (bad_claim f k x) = absurd (k c)
sheet_unique (accepted e c j g z) (bad_label b f d i k l x) = absurd (k (j b i))
sheet_unique (accepted e c j g z) (bad_start f d i k x) = absurd (k g)
sheet_unique (accepted e c j g z) (accepted f d i k x) = accepted_unique z x

-- what an accepted sheet has passed
record Passes (q : Query) (h : Sheet) : Type 0 where
  checked : verdict (query_checks q (length h.labels)) ≡ passed
  claims : Claims q h
  rules : (a : ℕ) → a < arrivals q.plan → RulesAt q h a
  start : StartLabel q h

abbrev refusal_of : Numbers → ℕ
refusal_of r = r.refusal

accepted_passes : {q : Query} {h : Sheet} {r : Numbers} → SheetAnswer q h r → r.refusal ≡ 0 → Passes q h
accepted_passes (refused v e n z) o = absurd (n (sym (ap refusal_of z) ∙ o))
accepted_passes (bad_claim e g z) o = absurd (let f = ap refusal_of z in omega arith)
accepted_passes (bad_label a e c j g u z) o = absurd (let f = ap refusal_of z in omega arith)
accepted_passes (bad_start e c j g z) o = absurd (let f = ap refusal_of z in omega arith)
accepted_passes (accepted e c j g z) o = record { checked = e; claims = c; rules = j; start = g }

module _ {q : Query} {h : Sheet} (P : Passes q h) where
  checked_query : Sound q
  checked_query = sound q (length h.labels) P.checked

  small : finish_room q < no_distance
  small = room_below (sound_trip checked_query)

  keeps : (a : ℕ) → KeepsRules (query_net q) (label_of h) a
  keeps = keeps_everywhere (query_bounded checked_query) P.rules

  walk_right : h.claim ≡ 1 → Claims q h → StartLabel q h → Shortest (query_net q) (start_arrival q) h.list
  walk_right c (Claims.no_route e l) s = absurd (omega arith)
  walk_right c (Claims.a_walk e w) (StartLabel.no_route f l) = absurd (omega arith)
  walk_right c (Claims.a_walk e w) (StartLabel.a_walk f l) = matched_shortest small keeps w (omega arith)

  none_right : h.claim ≡ 0 → StartLabel q h → NoWalk (query_net q) (start_arrival q)
  none_right c (StartLabel.no_route f l) = none_no_walk small keeps l
  none_right c (StartLabel.a_walk f l) = absurd (omega arith)

module _ {q : Query} {h : Sheet} {r : Numbers} (A : SheetAnswer q h r) (o : r.refusal ≡ 0) where
  -- an accepted sheet claims a walk or no route
  pub accepted_claim : (h.claim ≡ 0) ⊎ (h.claim ≡ 1)
  accepted_claim = go (accepted_passes A o).claims
    where
      go : Claims q h → (h.claim ≡ 0) ⊎ (h.claim ≡ 1)
      go (Claims.no_route e l) = inl e
      go (Claims.a_walk e w) = inr e

  -- the labels are lower bounds, and the walk is as long as its start's label
  pub accepted_walk : h.claim ≡ 1 → Shortest (query_net q) (start_arrival q) h.list
  accepted_walk c = let P = accepted_passes A o in walk_right P c P.claims P.start

  -- the start's label is "none"
  pub accepted_none : h.claim ≡ 0 → NoWalk (query_net q) (start_arrival q)
  accepted_none c = let P = accepted_passes A o in none_right P c P.start

module _ (q : Query) (ls : List ℕ) (e : verdict (query_checks q (length ls)) ≡ passed) (L : Labelled q ls) where
  -- the remaining distance of the start
  start_remaining : Remaining (query_net q) (start_arrival q) (get_or ls (start_arrival q) no_distance)
  start_remaining = L.right (start_arrival q) (start_inside (sound q (length ls) e))

  -- remaining distances keep the rules, since every distance is below "none"
  true_labels_keep : (a : ℕ) → KeepsRules (query_net q) (λ b. get_or ls b no_distance) a
  true_labels_keep =
      let S = sound q (length ls) e in
      remaining_keeps (query_bounded S) L.right (λ a bs l h. omega (arith, distance_below (sound_trip S) a bs l h))

  pub true_walk_accepted : (bs : List ℕ) → Shortest (query_net q) (start_arrival q) bs → SheetAnswer q (sheet_of 1 bs ls) (success q bs)
  true_walk_accepted bs h =
      let d = remaining_unique start_remaining (by_walk bs h refl) in
      accepted e (Claims.a_walk refl h.walk) (λ a l. true_labels_keep a) (StartLabel.a_walk refl (omega arith)) (Accepted.a_walk refl refl)

  pub true_none_accepted : NoWalk (query_net q) (start_arrival q) → SheetAnswer q (sheet_of 0 [] ls) (refusal passed)
  true_none_accepted n =
      let d = remaining_unique start_remaining (no_walk refl n) in
      accepted e (Claims.no_route refl refl) (λ a l. true_labels_keep a) (StartLabel.no_route refl d) (Accepted.no_route refl refl)
