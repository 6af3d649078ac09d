-- The walk that goes on from each arrival to the one picked follows the tight steps of the smallest sections, so where it comes to
-- an end it is the first shortest (`going_done`), and until then it has fewer steps than there are arrivals (`going_few`).
-- Assumes nothing.
use mathlib.Core.Path.{◌≡◌, refl, sym, ◌∙◌}
use mathlib.Core.Logic.{◌≢◌}
use mathlib.Core.List.{List, [], ◌∷◌, ◌++◌, append-nil}
use Prim.Native.Nat.{ℕ, suc, ◌+◌, ◌≤◌, ◌<◌}
use native.Mathlib.Decide.{ℕ_discrete}
use native.Mathlib.Numerals.{add-one}
use native.Mathlib.Omega.{arith}
use lib.ListN.{length, get_or, set, drop, length-set, length-append}
use lib.Seq.{append_snoc, drop-cons, set_at}
use Rattle.std.specs.Prelude.{Bool, true, false}
use Rattle.std.proofs.lemmas.List.{get_or_default}
use Rattle.rules.specs.declared.net.NetTable.{NetTable}
use Rattle.rules.specs.declared.net.Row.{Row}
use Rattle.rules.specs.declared.net.Step.{Step}
use Rattle.rules.specs.declared.net.TheConstants.Row.{NONE}
use Rattle.rules.specs.Plan.{sec}
use Rattle.rules.specs.Net.{no_distance, Net, onward, distance, Shortest, Remaining, no_walk, by_walk, KeepsRules}
use Rattle.rules.proofs.Walks.{Tight, remaining_keeps}
use Rattle.rules.proofs.Simple.{few_steps, far_below}
use Rattle.rules.proofs.First.{Smallest, Follow, stop, go_on, Pick, LeadsOn, ends, steps, leads_on, reach, follow_walk, follow_first}
use Rattle.rules.specs.Rows.{row_at, StepOf, first_of, second_of}
use Rattle.distance.specs.Table.{Listed, table_net, Table}
use Rattle.distance.specs.Answer.{Labels, Written}
use Rattle.distance.specs.Labels.{offer}
use Rattle.distance.specs.Picked.{Picked, first, second}
use Rattle.distance.proofs.TableNet.{cost_at, bounded}
use Rattle.distance.proofs.Exactness.{label_of, offered_step}

-- k arrivals are written, and lead from the arrival `start` to the arrival a; whatever follows from a follows from the start behind them
pub record Going (N : Net) (labels : List ℕ) (start : ℕ) (entry list : List ℕ) (a k : ℕ) : Type 0 where
  pub here : a < length labels
  pub number : label_of labels a < no_distance
  pub done : List ℕ
  pub long : k ≡ length done
  pub size : length list ≡ length entry
  pub front : list ≡ done ++ drop k entry
  pub rest : (bs : List ℕ) → Follow N (label_of labels) a bs → Follow N (label_of labels) start (done ++ bs)

-- nothing is written yet
pub going_none : {N : Net} {labels entry : List ℕ} {a : ℕ} → a < length labels → label_of labels a < no_distance → Going N labels a entry entry a 0
going_none h m = record { here = h; number = m; done = []; long = refl; size = refl; front = refl; rest = λ bs f. f }

-- a sum that is a number is what is offered
offer_of : (labels : List ℕ) (s : Step) {l : ℕ} → l ≡ s.cost + label_of labels s.next → l < no_distance → offer s labels ≡ l
unfolding offer
offer_of labels s e m = omega arith

-- whether a walk may end at an arrival, as the code finds it: a read within the table
pub ends_read : (rows : List Row) (a : ℕ) (d : Row) {e : Bool} → (get_or rows a d).ends ≡ e → a < length rows → (row_at rows a).ends ≡ e
ends_read rows a d e h = rw (get_or_default rows a d NONE h) at e

-- one number more behind those that are written
one_more : (done l : List ℕ) {k : ℕ} (b : ℕ) → k ≡ length done → k < length l → set (done ++ drop k l) k b ≡ (done ++ b ∷ []) ++ drop (k + 1) l
one_more done l {k} b e h =
    rw (add-one, drop-cons l k 0 h) (set_at done (get_or l k 0) (drop (suc k) l) b k (sym e) ∙ sym (append_snoc done b (drop (suc k) l)))

module _ {t : NetTable} {labels : List ℕ} (T : Table t) (X : Labels (table_net t) (length t.rows.now) labels) where
  abbrev n : ℕ
  n = length t.rows.now

  abbrev row : ℕ → Row
  row a = row_at t.rows.now a

  abbrev net : Net
  net = table_net t

  far : (a : ℕ) (bs : List ℕ) → a < n → Shortest net a bs → distance net a bs < no_distance
  far a bs h s = let f = far_below (bounded T) bs T.few (omega arith) T.room_small h s in omega arith

  keeps : (a : ℕ) → KeepsRules net (label_of labels) a
  keeps = remaining_keeps (bounded T) X.exact.right far

  small : t.room < no_distance
  small = omega (arith, T.room_small)

  -- before a tight step the label is a number: after it is a walk, so there is one before it
  tight_number : {a b : ℕ} → Listed t.rows.now a b → Tight net (label_of labels) a b → label_of labels a < no_distance
  tight_number {a} {b} s u = go (X.exact.right a s.from) (X.exact.right b s.to)
    where
      go : Remaining net a (label_of labels a) → Remaining net b (label_of labels b) → label_of labels a < no_distance
      go (by_walk bs w e) r = omega (arith, far a bs s.from w)
      go (no_walk e w) (no_walk f v) = absurd (omega (arith, (bounded T).positive s))
      go (no_walk e w) (by_walk cs v f) = absurd (w (b ∷ cs) (onward s v.walk))

  -- a tight step offers the label
  tight_offer : {a b : ℕ} (s : Listed t.rows.now a b) → Tight net (label_of labels) a b → offer s.step labels ≡ label_of labels a
  tight_offer {a} {b} s u = offer_of labels s.step (rw s.leads (u ∙ rw (cost_at T a b s.from s.place s.leads s.to) refl)) (tight_number s u)

  -- a tight step of the smallest section
  record Leads (a b : ℕ) : Type 0 where
    step : Listed t.rows.now a b
    tight : Tight net (label_of labels) a b
    smallest : Smallest net (label_of labels) a b

  -- the first step has the smaller section
  first_smallest : {a c : ℕ} → Listed t.rows.now a (row a).first.next → Listed t.rows.now a c → sec (row a).first.next ≤ sec c
  first_smallest {a} {c} s u = go u.place
    where
      go : StepOf t.rows.now a u.step → sec (row a).first.next ≤ sec c
      go (first_of d) = let z : (row a).first.next ≡ c = rw d at u.leads in rw z (omega arith)
      go (second_of d) =
          let z : (row a).second.next ≡ c = rw d at u.leads in
          let l = rw z at (T.ascending a s.from s.to (omega (arith, u.to))) in
          omega arith

  -- where the first step does not offer the label, tight steps are the second
  second_place : {a c : ℕ} → Listed t.rows.now a c → Tight net (label_of labels) a c → offer (row a).first labels ≢ label_of labels a
      → (row a).second.next ≡ c
  second_place {a} {c} u v o = go u.place
    where
      go : StepOf t.rows.now a u.step → (row a).second.next ≡ c
      go (first_of d) = absurd (o (rw d at (tight_offer u v)))
      go (second_of d) = rw d at u.leads

  -- so where there is a tight step, the picked one is tight and of the smallest section
  picked_leads : {a b c : ℕ} → Listed t.rows.now a c → Tight net (label_of labels) a c → Picked t.rows.now labels a b → Leads a b
  picked_leads {a} s u (first e o) =
      let l = offered_step T labels X.long a s.from (first_of refl) (sym o) (tight_number s u) in
      rw e (record { step = l.0; tight = l.1; smallest = λ c v w. first_smallest l.0 v })
  picked_leads {a} s u (second e o) =
      let z = second_place s u o in
      rw (e, z) (record { step = s; tight = u; smallest = λ c v w. let y = sym z ∙ second_place v w o in rw y (omega arith) })

  -- where a walk may not end and the label is a number, there is one
  goes_on : {a b : ℕ} → a < n → label_of labels a < no_distance → (row a).ends ≡ false → Picked t.rows.now labels a b → Leads a b
  goes_on {a} {b} h m f p = go (leads_on (bounded T) X.exact.right a h m)
    where
      go : LeadsOn net (label_of labels) a → Leads a b
      go (ends e) = let c : true ≡ false = sym e.marked ∙ f in cc
      go (steps c s u) = picked_leads s u p

  pick : (a c : ℕ) → Listed t.rows.now a c → Tight net (label_of labels) a c → Pick net (label_of labels) a
  pick a c s u = go (ℕ_discrete (offer (row a).first labels) (label_of labels a))
    where
      by : {b : ℕ} → Picked t.rows.now labels a b → Pick net (label_of labels) a
      by {b} p = let l = picked_leads s u p in record { to = b; step = l.step; tight = l.tight; smallest = l.smallest }

      go : Dec (offer (row a).first labels ≡ label_of labels a) → Pick net (label_of labels) a
      go (yes d) = by (first refl d)
      go (no d) = by (second refl d)

  -- on from here to an end the walk would be the first shortest, and such a walk is short
  pub going_few : {start a k : ℕ} {entry list : List ℕ} → start < n → Going net labels start entry list a k → k < n
  going_few {a = a} i G =
      let h : a < n = omega (arith, G.here, X.long) in
      let r = reach (bounded T) X.exact.right pick (suc (label_of labels a)) a h (omega arith) G.number in
      let w = follow_first (bounded T) X.exact.right small keeps (G.rest r.0 r.1) in
      let l = few_steps (bounded T) (G.done ++ r.0) i w.shortest in
      omega (arith, length-append G.done r.0, G.long)

  -- one step more, by the picked arrival b
  pub going_more : {start a k b : ℕ} {entry list : List ℕ} → k < length entry → Going net labels start entry list a k → (row a).ends ≡ false
      → Picked t.rows.now labels a b → Going net labels start entry (set list k b) b (k + 1)
  going_more {a = a} {k = k} {b = b} {entry = entry} {list = list} h G f q =
      let l = goes_on (omega (arith, G.here, X.long)) G.number f q in
      let u = l.tight in
      record {
        here = omega (arith, l.step.to, X.long);
        number = omega (arith, G.number);
        done = G.done ++ b ∷ [];
        long = omega (arith, G.long, length-append G.done (b ∷ []));
        size = length-set list k b ∙ G.size;
        front = rw G.front (one_more G.done entry b G.long h);
        rest = λ bs e. rw (append_snoc G.done b bs) (G.rest (b ∷ bs) (go_on l.step u l.smallest e));
      }

  -- each step costs something, so the label falls
  pub going_falls : {start a k b : ℕ} {entry list : List ℕ} → Going net labels start entry list a k → (row a).ends ≡ false → Picked t.rows.now labels a b
      → label_of labels b < label_of labels a
  going_falls G f q =
      let l = goes_on (omega (arith, G.here, X.long)) G.number f q in
      let u = l.tight in
      omega (arith, (bounded T).positive l.step)

  -- at an end what is written is the first shortest walk
  pub going_done : {start a k : ℕ} {entry list : List ℕ} → start < n → n ≤ length entry → Going net labels start entry list a k → (row a).ends ≡ true
      → Written net start (label_of labels start) entry k list
  going_done {start} {a} i h G e =
      let f = rw append-nil at (G.rest [] (stop (record { inside = omega (arith, G.here, X.long); marked = e }))) in
      let k = going_few i G in
      record {
        walk = G.done;
        first = follow_first (bounded T) X.exact.right small keeps f;
        length_of = G.long;
        fits = omega arith;
        distance_of = (follow_walk (bounded T) X.exact.right small keeps f).1;
        front = G.front;
      }
