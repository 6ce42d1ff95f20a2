-- The ranges, opened, and that every byte keeps them: `turn_ranges`.
-- Assumes nothing.
use Prim.Native.Nat.{ℕ, ◌+◌, ◌-◌, ◌*◌, ◌^◌, ◌≤◌, ◌<◌, zero-le}
use mathlib.Core.Path.{◌≡◌, refl, sym, ap, ◌∙◌}
use mathlib.Core.Bool.{true, false, ◌||◌, ◌&&◌, or-true, or-false}
use mathlib.Core.List.{[], ◌∷◌}
use native.Mathlib.Omega.{arith}
use lib.Dec.{ltb, leb, eqb}
use borrow.Author.Tests.{ltb-true, ltb-false, leb-true, eqb-true, eqb-false, lt-ltb, le-ltb, le-leb, eq-eqb, ne_eqb}
use lib.ListN.{get_or}
use lib.Seq.{get_or-set_other}
use Rattle.laws.proofs.Choices.{cond_ind, by_test}
use Rattle.device.specs.Bus.{powered_of}
use Rattle.device.specs.Ranges.{all_true, variant_of}
use Rattle.device.proofs.Tests.{each, of_each}
use Rattle.record.specs.Record.{Record}
use Rattle.std.specs.Prelude.{Ok, Err}
use Rattle.record.specs.declared.refusal.Refusal.TheVariants.{Kind, Operand}
use Rattle.record.specs.Record.{decode_of, code_of}
use Rattle.pair.specs.declared.Bus.{Bus}
use Rattle.pair.specs.Bus.{placed_of, counted_bus, count_place, header_length, answers_of}
use Rattle.pair.specs.Ranges.{bus_ranges_of}
use Rattle.pair.proofs.Kept.{same_count, bus_kept}
use Rattle.pair.proofs.Heading.{few_devices, opened, first_taken, second_taken_lem, later}
use Rattle.capture.specs.declared.Reader.{Reader}
use Rattle.capture.specs.Reader.{with_count, with_bus, hold_of, between_of, header_length_of, in_header, header_done, count_taken, limit_of}
use Rattle.capture.specs.Reader.{place_tests, place_of, held_test, ranges_of, Turn, head_taken_of, opened_of, second_variant, variant_taken_of, one_address}
use Rattle.capture.specs.Reader.{counted_of, carry_of, judged_of, head_of, record_of, turn_of}
use Rattle.capture.proofs.Limits.{limit_small, limit_all, limit_next}

-- ---- the tests of a state

-- an unused place is 0
abbrev pub Unused : Reader → ℕ → Type 0
Unused s i = (ltb i s.carried || eqb (get_or s.bytes i 0) 0) ≡ true

-- `place_tests`, by name
pub record Places (s : Reader) : Type 0 where
  pub head : leb s.head (header_length_of s) ≡ true
  pub few : leb s.carried 3 ≡ true
  pub carrying : (eqb s.carried 0 || (header_done s && ltb s.done s.count)) ≡ true
  pub first : Unused s 0
  pub second : Unused s 1
  pub third : Unused s 2
  pub count : ltb s.count (limit_of (count_taken s)) ≡ true
  pub done : leb s.done s.count ≡ true
  pub begun : (header_done s || eqb s.done 0) ≡ true

places : (s : Reader) → all_true (place_tests s) ≡ true → Places s
places s h =
    let t = each (place_tests s) h in
    let u = t.1.1.1 in
    let v = u.1.1.1 in
    record {
      head = t.0;
      few = t.1.0;
      carrying = t.1.1.0;
      first = u.0;
      second = u.1.0;
      third = u.1.1.0;
      count = v.0;
      done = v.1.0;
      begun = v.1.1.0;
    }

of_places : (s : Reader) → Places s → all_true (place_tests s) ≡ true
of_places s p =
    of_each (place_tests s)
    (p.head, (p.few, (p.carrying, (p.first, (p.second, (p.third, (p.count, (p.done, (p.begun, tt)))))))))

pub record Ranges (s : Reader) : Type 0 where
  pub place : Places s
  pub held : held_test s.held ≡ true
  pub bus : bus_ranges_of s.head s.bus ≡ true

pub ranges : (s : Reader) → ranges_of s ≡ true → Ranges s
unfolding ranges_of place_of
ranges s h =
    let t = each (all_true (place_tests s) ∷ held_test s.held ∷ bus_ranges_of s.head s.bus ∷ []) h in
    record { place = places s t.0; held = t.1.0; bus = t.1.1.0 }

of_ranges : (s : Reader) → Ranges s → ranges_of s ≡ true
unfolding ranges_of place_of
of_ranges s r =
    of_each (all_true (place_tests s) ∷ held_test s.held ∷ bus_ranges_of s.head s.bus ∷ [])
    (of_places s r.place, (r.held, (r.bus, tt)))

module _ (s : Reader) (h : ranges_of s ≡ true) where
  pub below_limit : s.count < limit_of (count_taken s)
  below_limit = ltb-true _ _ (ranges s h).place.count

  -- a header has seven bytes at most
  pub short_header : header_length_of s ≤ 7
  short_header = omega (arith, few_devices s.head s.bus (ranges s h).bus)

  -- in the header nothing is carried and nothing is done
  pub idle : s.head < header_length_of s → eqb s.carried 0 ≡ true
  idle l = simp (ne_eqb s.head (header_length_of s) (λ e. omega arith), or-false) at (ranges s h).place.carrying

  pub none : s.head < header_length_of s → eqb s.done 0 ≡ true
  none l = simp (ne_eqb s.head (header_length_of s) (λ e. omega arith)) at (ranges s h).place.begun

  -- behind it, it is complete
  pub completed : in_header s ≡ false → s.head ≡ header_length_of s
  completed l =
      omega (arith, ltb-false s.head (header_length_of s) l, leb-true s.head (header_length_of s) (ranges s h).place.head)

-- ---- the record count so far

pub count_small : (s : Reader) → ranges_of s ≡ true → s.head < header_length_of s → s.count < 0x1000000
count_small s h l = omega (arith, below_limit s h, limit_small (count_taken s) (omega arith))

pub count_fits : (s : Reader) → ranges_of s ≡ true → s.count < 2 ^ 32
count_fits s h = omega (arith, below_limit s h, limit_all (count_taken s))

-- ---- each way of a byte

hold_ranges : (s : Reader) (code : ℕ) → ranges_of s ≡ true → held_test code ≡ true → ranges_of (hold_of s code) ≡ true
hold_ranges s code h l =
    let r = ranges s h in
    let p = r.place in
    of_ranges (hold_of s code)
    (record {
      place = record {
        head = p.head;
        few = p.few;
        carrying = p.carrying;
        first = p.first;
        second = p.second;
        third = p.third;
        count = p.count;
        done = p.done;
        begun = p.begun;
      };
      held = l;
      bus = r.bus;
    })

module _ (s : Reader) (b : ℕ) (small : b < 256) (h : ranges_of s ≡ true) where
  r : Ranges s
  r = ranges s h

  p : Places s
  p = r.place

  -- one more header byte, with this count and this bus
  header_ranges : (count : ℕ) (p' : Bus) → s.head < header_length_of s → s.head < header_length p' → count < limit_of (s.head + 1 - count_place p')
      → bus_ranges_of (s.head + 1) p' ≡ true → ranges_of (with_bus (with_count (head_taken_of s) count) p') ≡ true
  header_ranges count p' l m c k =
      of_ranges (with_bus (with_count (head_taken_of s) count) p')
      (record {
        place = record {
          head = le-leb (s.head + 1) (header_length p') (omega arith);
          few = p.few;
          carrying = simp (idle s h l);
          first = p.first;
          second = p.second;
          third = p.third;
          count = lt-ltb count _ c;
          done = rw (eqb-true s.done 0 (none s h l)) (le-leb 0 count zero-le);
          begun = simp (none s h l, or-true);
        };
        held = r.held;
        bus = k;
      })

  -- before the record count no byte of it is taken
  uncounted : (k : ℕ) → count_taken s ≡ 0 → k ≡ 0 → s.count < limit_of k
  uncounted k t z = rw (t ∙ sym z) at (below_limit s h)

  opened_ranges : s.head ≡ 0 → (eqb b 1 || eqb b 2) ≡ true → ranges_of (opened_of s b) ≡ true
  opened_ranges z e =
      let next : s.head + 1 ≡ 1 = omega (arith, z) in
      header_ranges s.count (counted_bus s.bus b) (omega arith) (omega arith)
      (uncounted (s.head + 1 - count_place (counted_bus s.bus b)) (omega arith) (omega arith))
      (rw next (opened s.head s.bus r.bus z b e))

  variant_ranges : 1 ≤ s.head → s.head < count_place s.bus → variant_of b ≡ true → one_address s b ≡ false → ranges_of (variant_taken_of s b) ≡ true
  variant_ranges n l e f =
      header_ranges s.count (placed_of s.bus (second_variant s) (powered_of b)) (omega arith) (omega arith)
      (uncounted (s.head + 1 - count_place s.bus) (omega arith) (omega arith))
      (by_test (ltb 1 s.head)
      (λ t.
      let more : 1 < s.head = ltb-true 1 s.head t in
      let z : s.head ≡ 2 = omega (arith, more, l, few_devices s.head s.bus r.bus) in
      let next : s.head + 1 ≡ 3 = omega (arith, z) in
      let two : s.bus.devices ≡ 2 = omega (arith, z, l, few_devices s.head s.bus r.bus) in
      rw (t, next) (second_taken_lem s.head s.bus r.bus z (eq-eqb _ _ two) b e (rw t at f)))
      (λ t.
      let z : s.head ≡ 1 = omega (arith, n, ltb-false 1 s.head t) in
      let next : s.head + 1 ≡ 2 = omega (arith, z) in
      rw (t, next) (first_taken s.head s.bus r.bus z b e)))

  counted_ranges : count_place s.bus ≤ s.head → s.head < header_length_of s → ranges_of (counted_of s b) ≡ true
  counted_ranges m l =
      let next : s.head + 1 - count_place s.bus ≡ count_taken s + 1 = omega arith in
      header_ranges (s.count * 256 + b) s.bus l l
      (rw next (limit_next (count_taken s) (omega arith) s.count b (below_limit s h) small))
      (later s.head s.bus r.bus m (omega (arith, m)))

  unused : (i : ℕ) → Unused s i → Unused (carry_of s b) i
  unused i u = by_test (ltb i (s.carried + 1)) (λ e. simp e) (λ e.
      let l : s.carried + 1 ≤ i = ltb-false _ _ e in
      simp (e, get_or-set_other s.bytes s.carried i b 0 (λ q. omega arith), simp (le-ltb i s.carried (omega arith)) at u))

  carry_ranges : s.head ≡ header_length_of s → s.done < s.count → s.carried < 3 → ranges_of (carry_of s b) ≡ true
  carry_ranges z d l =
      of_ranges (carry_of s b)
      (record {
        place = record {
          head = p.head;
          few = le-leb (s.carried + 1) 3 (omega arith);
          carrying = simp (eq-eqb s.head (header_length_of s) z, lt-ltb _ _ d, or-true);
          first = unused 0 p.first;
          second = unused 1 p.second;
          third = unused 2 p.third;
          count = p.count;
          done = p.done;
          begun = p.begun;
        };
        held = r.held;
        bus = r.bus;
      })

  -- a record done, with this bus
  done_ranges : (p' : Bus) → s.head ≡ header_length p' → s.done < s.count → count_place p' ≡ count_place s.bus
      → bus_ranges_of s.head p' ≡ true → ranges_of (between_of s (s.done + 1) p') ≡ true
  done_ranges p' z l c k =
      of_ranges (between_of s (s.done + 1) p')
      (record {
        place = record {
          head = le-leb s.head (header_length p') (omega arith);
          few = refl;
          carrying = refl;
          first = refl;
          second = refl;
          third = refl;
          count = ap (λ (n : ℕ). ltb s.count (limit_of (s.head - n))) c ∙ p.count;
          done = le-leb (s.done + 1) s.count (omega arith);
          begun = simp (eq-eqb s.head (header_length p') z);
        };
        held = r.held;
        bus = k;
      })

  judged_ranges : s.head ≡ header_length_of s → s.done < s.count → (q : Record) → ranges_of (judged_of s q).reader ≡ true
  unfolding code_of
  judged_ranges z l (Ok e) =
      let same = same_count s.bus e in
      done_ranges (answers_of s.bus e).bus (omega arith) l (omega arith) (bus_kept s.head s.bus e (omega (arith, z)) r.bus)
  judged_ranges z l (Err Kind) = hold_ranges s 3 h refl
  judged_ranges z l (Err Operand) = hold_ranges s 4 h refl

  Kept : Turn → Type 0
  Kept t = ranges_of t.reader ≡ true

  Good : Reader → Type 0
  Good t = ranges_of t ≡ true

  head_ranges : s.head < header_length_of s → ranges_of (head_of s b) ≡ true
  unfolding head_of Good
  head_ranges l =
      cond_ind Good (eqb s.head 0)
      (λ z. cond_ind Good (eqb b 1 || eqb b 2) (λ e. opened_ranges (eqb-true _ _ z) e) (λ _. hold_ranges s 1 h refl))
      (λ n. cond_ind Good (ltb s.head (count_place s.bus))
      (λ m. cond_ind Good (variant_of b)
      (λ e. cond_ind Good (one_address s b)
      (λ _. hold_ranges s 9 h refl)
      (λ f. variant_ranges (omega (arith, eqb-false s.head 0 n)) (ltb-true _ _ m) e f))
      (λ _. hold_ranges s 2 h refl))
      (λ m. counted_ranges (ltb-false _ _ m) l))

  pub turn_ranges : ranges_of (turn_of s b).reader ≡ true
  unfolding turn_of record_of Kept
  turn_ranges =
      cond_ind Kept (eqb s.held 0)
      (λ _. cond_ind Kept (in_header s)
      (λ l. head_ranges (ltb-true _ _ l))
      (λ l. cond_ind Kept (ltb s.done s.count)
      (λ d. cond_ind Kept (ltb s.carried 3)
      (λ k. carry_ranges (completed s h l) (ltb-true _ _ d) (ltb-true _ _ k))
      (λ _. judged_ranges (completed s h l) (ltb-true _ _ d) (decode_of _ _ _ _ b)))
      (λ _. hold_ranges s 5 h refl)))
      (λ _. h)
