-- What is accepted is answered in words about places, `reports_exactly`, and given true distances of 1 to 65,535 ticks it is those of the true distances that
-- are told, `true_answer`.
-- Assumes nothing.
use mathlib.Core.Path.{◌≡◌, refl, sym, ap, subst, ◌∙◌}
use mathlib.Core.Logic.{◌↔◌}
use mathlib.Core.List.{List, map}
use Prim.Native.Nat.{ℕ, suc, ◌-◌, ◌<◌, ◌≤◌}
use native.Mathlib.Omega.{arith}
use lib.ListN.{length, length-map, get_or, get_or-map}
use Rattle.laws.proofs.Exactly.{by_lines}
use Rattle.tach.specs.declared.Speeds.{Speeds}
use Rattle.tach.specs.Stamps.{stamp_of, speed_of, speeds_of}
use Rattle.tach.specs.Tach.{reports_of, tach_of}
use Rattle.tach_laws.specs.Places.{places_of, speed_at, TrueTimes, true_speed_at, Occurred, CountOf, Reports, EqualNeighbours}
use Rattle.tach_laws.proofs.Periods.{true_period}
use Rattle.tach_laws.proofs.Counts.{one_count, counted}
use Rattle.tach_laws.proofs.Runs.{speeds_many, speeds_at, speeds_top, slowest, fastest}
use Rattle.tach_laws.proofs.Codes.{reports, good_exactly}

-- ---- speeds that are the same at every place

module _ (f g : ℕ → ℕ) (n : ℕ) (same : (i : ℕ) → i < n → f i ≡ g i) where
  occurred_too : (stands : ℕ → ℕ → Type 0) (s : ℕ) → Occurred stands f n s → Occurred stands g n s
  occurred_too stands s o =
      record {
        place = o.place;
        within = o.within;
        there = sym (same o.place o.within) ∙ o.there;
        each = λ i h. subst (stands s) (same i h) (o.each i h);
      }

  counted_too : (floor k : ℕ) → CountOf (λ (i : ℕ). f i < floor) n k → CountOf (λ (i : ℕ). g i < floor) n k
  counted_too floor k c =
      record {
        places = c.places;
        rising = c.rising;
        those =
            λ i. (
              (λ m. let h = (c.those i).0 m in (h.0, subst (λ (v : ℕ). v < floor) (same i h.0) h.1)),
              (λ h. (c.those i).1 (h.0, subst (λ (v : ℕ). v < floor) (sym (same i h.0)) h.1)),
            );
        many = c.many;
      }

  reports_too : (floor : ℕ) (r : Speeds) → Reports f n floor r → Reports g n floor r
  reports_too floor r x =
      record {
        code = x.code;
        slowest = occurred_too _ r.slowest x.slowest;
        fastest = occurred_too _ r.fastest x.fastest;
        under = counted_too floor r.under x.under;
      }

-- ---- one answer

-- an answer is its four numbers
abbrev make : ℕ → ℕ → ℕ → ℕ → Speeds
make code slow fast low = record { code = code; slowest = slow; fastest = fast; under = low }

-- of two such numbers the one stands so to the other
beside : (stands : ℕ → ℕ → Type 0) (speed : ℕ → ℕ) (n a b : ℕ) → Occurred stands speed n a → Occurred stands speed n b → stands a b
beside stands speed n a b x y = subst (stands a) y.there (x.each y.place y.within)

pub one_report : (speed : ℕ → ℕ) (n floor : ℕ) (c d : Speeds) → Reports speed n floor c → Reports speed n floor d → c ≡ d
one_report speed n floor c d x y =
    let code : c.code ≡ d.code = x.code ∙ sym y.code in
    let slow : c.slowest ≡ d.slowest = omega (arith, beside _ speed n _ _ x.slowest y.slowest, beside _ speed n _ _ y.slowest x.slowest) in
    let fast : c.fastest ≡ d.fastest = omega (arith, beside _ speed n _ _ x.fastest y.fastest, beside _ speed n _ _ y.fastest x.fastest) in
    let low : c.under ≡ d.under = one_count (λ (i : ℕ). speed i < floor) n c.under d.under x.under y.under in
    let all : make c.code c.slowest c.fastest c.under ≡ make d.code d.slowest d.fastest d.under = cc in
    all

-- ---- what is accepted

module _ (stamps : List ℕ) (floor : ℕ) where
  listed : 2 ≤ length stamps → Reports (speed_at stamps) (places_of stamps) floor (reports_of (speeds_of stamps) floor)
  listed h =
      let l = speeds_of stamps in
      let r = reports_of l floor in
      let some : 0 < length l = rw (speeds_many stamps) (omega arith) in
      let all : Reports (λ (i : ℕ). get_or l i 0) (length l) floor r =
      record {
        code = refl;
        slowest = slowest l some (speeds_top stamps);
        fastest = fastest l some;
        under = counted floor l;
      } in
      reports_too (λ (i : ℕ). get_or l i 0) (speed_at stamps) (places_of stamps) (speeds_at stamps) floor r
      (subst (λ (n : ℕ). Reports (λ (i : ℕ). get_or l i 0) n floor r) (speeds_many stamps) all)

  pub reports_exactly : (tach_of stamps floor).code ≡ 0 → (r : Speeds) → (tach_of stamps floor ≡ r) ↔ Reports (speed_at stamps) (places_of stamps) floor r
  reports_exactly e =
      let good = (good_exactly stamps floor).0 e in
      let known = subst (Reports (speed_at stamps) (places_of stamps) floor) (sym (reports stamps floor good.0 good.1)) (listed good.0) in
      by_lines (Reports (speed_at stamps) (places_of stamps) floor) (tach_of stamps floor) known
      (λ r. one_report (speed_at stamps) (places_of stamps) floor (tach_of stamps floor) r known)

-- ---- true distances

module _ (times : List ℕ) (t : TrueTimes times) where
  -- what the counter showed at them
  abbrev shown : List ℕ
  shown = map stamp_of times

  shown_at : (i : ℕ) → get_or shown i 0 ≡ stamp_of (get_or times i 0)
  shown_at i = get_or-map stamp_of times i 0

  true_at : (i : ℕ) → i < places_of times → speed_at shown i ≡ true_speed_at times i
  true_at i h =
      rw (shown_at i, shown_at (suc i))
      (ap speed_of
      (true_period (get_or times i 0) (get_or times (suc i) 0) (omega (arith, t.one_or_more i h)) (omega (arith, t.within_a_round i h))))

  none_equal : EqualNeighbours shown → ⊥
  none_equal x =
      let i = x.place in
      let h : i < places_of times = subst (λ (n : ℕ). i < n - 1) (length-map times stamp_of) x.within in
      let e = sym (shown_at i) ∙ x.equal ∙ shown_at (suc i) in
      omega (arith, t.one_or_more i h, t.within_a_round i h, e)

  pub true_answer : 2 ≤ length times → (floor : ℕ) (r : Speeds)
      → (tach_of (map stamp_of times) floor ≡ r) ↔ Reports (true_speed_at times) (places_of times) floor r
  true_answer h floor =
      let many = length-map times stamp_of in
      let two : 2 ≤ length shown = rw many h in
      let here : Reports (speed_at shown) (places_of times) floor (tach_of shown floor) =
      subst (λ (n : ℕ). Reports (speed_at shown) (n - 1) floor (tach_of shown floor)) many
      (subst (Reports (speed_at shown) (places_of shown) floor) (sym (reports shown floor two none_equal)) (listed shown floor two)) in
      let known = reports_too (speed_at shown) (true_speed_at times) (places_of times) true_at floor (tach_of shown floor) here in
      by_lines (Reports (true_speed_at times) (places_of times) floor) (tach_of shown floor) known
      (λ r. one_report (true_speed_at times) (places_of times) floor (tach_of shown floor) r known)
