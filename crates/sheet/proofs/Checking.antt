-- Refusals 17, 18 and 19: that a query's table is what they read, and that a claim and its labels pass or not as they do.
-- Assumes nothing.
use Rattle.std.proofs.Common.{◌≡◌, ◌↔◌, ℕ, ◌<◌, length, Result, arith}
use Rattle.rules.specs.Plan.{arrivals}
use Rattle.rules.specs.Query.{Query, start_arrival, finish_room}
use Rattle.rules.specs.Trip.{query_net}
use Rattle.rules.specs.Sheet.{Sheet, label_of, Claims, StartLabel}
use Rattle.rules.specs.declared.net.NetTable.{NetTable}
use Rattle.rules.specs.declared.refusal.Refusal.{Refusal}
use Rattle.rules.proofs.Sound.{Sound}
use Rattle.rules.proofs.Trips.{sound_trip}
use Rattle.steps.specs.Listing.{Listing}
use Rattle.sheet.specs.Laid.{Prepared}
use Rattle.sheet.specs.Checking.{LabelsChecked, SheetChecked}

-- the table of a query is what these functions read
pub listing_prepared : {q : Query} {net : NetTable} {from : ℕ} → Sound q → Listing q net.rows.now → arrivals q.plan ≡ length net.rows.now
    → net.room ≡ finish_room q → from ≡ start_arrival q → Prepared q net from
listing_prepared S L e i j = record {
  tables = record { laid = record { sound = sound_trip S; count = e; steps = L.steps }; endings = L.endings };
  room_of = i;
  some_room = omega (arith, i, S.room, S.train);
  start_of = j;
}

-- a claim that goes with its list, and then the labels
pub labels_judged : {q : Query} {h : Sheet} {count a n : ℕ} {r : Result (Unit {0}) Refusal}
    → Claims q h × (label_of h (start_arrival q) < 4294967296 → StartLabel q h ↔ (label_of h (start_arrival q) ≡ n))
    → arrivals q.plan ≡ count → a ≡ start_arrival q → label_of h a < 4294967296 → LabelsChecked (query_net q) (label_of h) count a n r → SheetChecked q h r
labels_judged {q} {h} {n = n} {r} D e f l C = go (D.1 (rw f at l)) (rw (← e, f) at C)
  where
    go : StartLabel q h ↔ (label_of h (start_arrival q) ≡ n) → LabelsChecked (query_net q) (label_of h) (arrivals q.plan) (start_arrival q) n r → SheetChecked q h r
    go s (LabelsChecked.bad_label b i j k m) = SheetChecked.bad_label b i D.0 j k m
    go s (LabelsChecked.bad_start i j k) = SheetChecked.bad_start i D.0 j (λ x. k (s.0 x))
    go s (LabelsChecked.good i j k) = SheetChecked.good i (record { claims = D.0; rules = j; start = s.1 k })
