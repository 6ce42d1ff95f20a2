-- Who answers an alert response of two devices: `who_answers`, a device is named exactly if P9 lets it answer and, if the other may answer too, its
-- address is the lower; `nobody_answers`, none exactly if neither may; `never_both`. `lowest_set_bit`: the lowest set bit of the mask of alerting
-- devices, ordered by address, names who answers. `answered`: the one named does what P9 says; the other is as it was, and `keeps_pulling`.
-- `none_alerting`: with none alerting nothing is acknowledged.
-- Assumes nothing.
use Prim.Native.Nat.{ℕ, zero, suc, ◌+◌, ◌*◌, ◌/◌, ◌%◌, ◌^◌, ◌≤◌, ◌<◌}
use native.Mathlib.Nat.{le_of_lt, zero-div}
use mathlib.Core.Path.{◌≡◌, refl, sym, ap, ◌∙◌}
use mathlib.Core.Logic.{◌↔◌}
use mathlib.Core.Bool.{Bool, true, false, not, ◌||◌, ◌&&◌, cond, or-false}
use native.Mathlib.Omega.{arith}
use lib.Dec.{ltb, lit<}
use lib.Bits.{bit_or, or_shr, or_step, and_high}
use lib.Count.{count_trailing_zeros}
use lib.ListN.{length, set}
use lib.Seq.{get_or-set_same}
use borrow.Author.Tests.{lt-ltb, le-ltb, ltb-true, ltb-false, eqb-false}
use Rattle.laws.proofs.Choices.{by_test, clash}
use Rattle.registers.specs.Bits.{has, alert_mask}
use Rattle.registers.specs.Page.{setting_of}
use Rattle.registers.proofs.Settings.{configuration, change_configuration}
use Rattle.device.specs.declared.Device.{Device}
use Rattle.device.specs.declared.Event.TheVariants.{Receive}
use Rattle.device.specs.Pins.{alert_of, pins_of}
use Rattle.device.specs.Bus.{answered_of, alert_response, responds_of, respond_of, masked_of}
use Rattle.device.specs.Step.{effect_of}
use Rattle.pair.specs.declared.Bus.{Bus}
use Rattle.pair.specs.declared.Named.{Named}
use Rattle.pair.specs.declared.Named.TheVariants.{Neither, First, Second, Both}
use Rattle.pair.specs.Bus.{picked_of, placed_of, first_address, second_address, respondent_of, among_of, names_of, Done, quiet_of, done_of, by_named}
use Rattle.pair.specs.Bus.{bus_effect_of, lines_of}
use Rattle.pair.specs.Mask.{Lowest, mask_of, at_bit}
use Rattle.pair.proofs.Trailing.{two}
use Rattle.pair_laws.specs.Devices.{Two, present_of, address_at, alone_named, is_named}
use Rattle.pair_laws.specs.Answering.{Answers, lower_of, alerting_mask, device_at, Answered}
use Rattle.pair_laws.proofs.Lines.{alert_stays}

-- ---- of three tests: the first may answer, the second may, the first's address is the lower

abbrev choice : Bool → Bool → Bool → Named
choice f s l = cond (f && (not s || l)) First (cond s Second Neither)

abbrev is_first : Named → Bool
is_first n = is_named n false

abbrev is_second : Named → Bool
is_second n = is_named n true

firsts : (f s l : Bool) → (choice f s l ≡ First) ↔ ((f ≡ true) × (s ≡ true → l ≡ true))
firsts true true true = ((λ _. (refl, λ _. refl)), λ _. refl)
firsts true true false = ((λ e. clash (ap is_first e)), λ h. clash (h.1 refl))
firsts true false l = ((λ _. (refl, λ e. clash e)), λ _. refl)
firsts false true l = ((λ e. clash (ap is_first e)), λ h. clash h.0)
firsts false false l = ((λ e. clash (ap is_first e)), λ h. clash h.0)

seconds : (f s l : Bool) → (choice f s l ≡ Second) ↔ ((s ≡ true) × (f ≡ true → l ≡ false))
seconds true true true = ((λ e. clash (ap is_second e)), λ h. clash (sym (h.1 refl)))
seconds true true false = ((λ _. (refl, λ _. refl)), λ _. refl)
seconds true false l = ((λ e. clash (ap is_second e)), λ h. clash h.0)
seconds false true l = ((λ _. (refl, λ e. clash e)), λ _. refl)
seconds false false l = ((λ e. clash (ap is_second e)), λ h. clash h.0)

nones : (f s l : Bool) → (choice f s l ≡ Neither) ↔ ((f ≡ false) × (s ≡ false))
nones true true true = ((λ e. clash (sym (ap is_first e))), λ h. clash (sym h.0))
nones true true false = ((λ e. clash (sym (ap is_second e))), λ h. clash (sym h.0))
nones true false l = ((λ e. clash (sym (ap is_first e))), λ h. clash (sym h.0))
nones false true l = ((λ e. clash (sym (ap is_second e))), λ h. clash (sym h.1))
nones false false l = ((λ _. (refl, refl)), λ _. refl)

not_both : (f s l : Bool) → choice f s l ≡ Both → ⊥
not_both true true true e = clash (ap is_second e)
not_both true true false e = clash (ap is_first e)
not_both true false l e = clash (ap is_second e)
not_both false true l e = clash (ap is_first e)
not_both false false l e = clash (ap is_first e)

-- ---- without the mask

-- of two addresses one is the lower
strictly : (a b : ℕ) → b ≤ a → (a ≡ b → ⊥) → b < a
strictly a b h apart = by_test (ltb b a) (λ k. ltb-true b a k) (λ k. absurd (apart (omega (arith, h, ltb-false b a k))))

module _ {p : Bus} (t : Two p) where
  abbrev first_may : Bool
  first_may = responds_of p.first

  abbrev second_may : Bool
  second_may = responds_of p.second

  abbrev first_lower : Bool
  first_lower = ltb (first_address p) (second_address p)

  chosen : names_of p (Receive alert_response) ≡ choice first_may second_may first_lower
  unfolding names_of among_of respondent_of
  chosen = rw t.two

  turned : first_lower ≡ false → second_address p < first_address p
  turned h = strictly (first_address p) (second_address p) (ltb-false _ _ h) (eqb-false _ _ t.apart)

  pub who_answers : (second : Bool) → (names_of p (Receive alert_response) ≡ alone_named second) ↔ Answers p second
  who_answers false =
      let told = firsts first_may second_may first_lower in (
        (λ h. let k = told.0 (sym chosen ∙ h) in record { may = k.0; lower = λ o. ltb-true _ _ (k.1 o) }),
        λ h. chosen ∙ told.1 (h.may, λ o. lt-ltb _ _ (h.lower o)),
      )
  who_answers true =
      let told = seconds first_may second_may first_lower in (
        (λ h. let k = told.0 (sym chosen ∙ h) in record { may = k.0; lower = λ o. turned (k.1 o) }),
        λ h. chosen ∙ told.1 (h.may, λ o. le-ltb (first_address p) (second_address p) (le_of_lt (h.lower o))),
      )

  pub nobody_answers : (names_of p (Receive alert_response) ≡ Neither) ↔ ((second : Bool) → responds_of (picked_of p second) ≡ false)
  nobody_answers =
      let told = nones first_may second_may first_lower in
      ((λ h. both (told.0 (sym chosen ∙ h))), λ h. chosen ∙ told.1 (h false, h true))
    where
      both : (first_may ≡ false) × (second_may ≡ false) → (second : Bool) → responds_of (picked_of p second) ≡ false
      both k true = k.1
      both k false = k.0

  pub never_both : names_of p (Receive alert_response) ≡ Both → ⊥
  never_both h = not_both first_may second_may first_lower (sym chosen ∙ h)

-- ---- by the mask

at_lowest : (low high : Bool) (i : ℕ) → Lowest (mask_of low high) i → (m n : Named) → at_bit i m n ≡ cond low m (cond high n Neither)
at_lowest true high zero h m n = refl
at_lowest true true (suc i) h m n = absurd (omega (arith, h.clear 0 (omega arith)))
at_lowest true false (suc i) h m n = absurd (omega (arith, h.clear 0 (omega arith)))
at_lowest false true zero h m n = absurd (omega (arith, h.set))
at_lowest false true (suc zero) h m n = refl
at_lowest false true (suc (suc i)) h m n = absurd (omega (arith, h.clear 1 (omega arith)))
at_lowest false false i h m n = absurd (omega (arith, rw (zero-div (2 ^ i)) at h.set))

-- a mask without a bit
at_none : (low high : Bool) → mask_of low high ≡ 0 → (m n : Named) → cond low m (cond high n Neither) ≡ Neither
at_none true true h m n = absurd (omega (arith, h))
at_none true false h m n = absurd (omega (arith, h))
at_none false true h m n = absurd (omega (arith, h))
at_none false false h m n = refl

-- the lower address first
first_lower_lem : (f s : Bool) → choice f s true ≡ cond f First (cond s Second Neither)
first_lower_lem true true = refl
first_lower_lem true false = refl
first_lower_lem false s = refl

second_lower : (f s : Bool) → choice f s false ≡ cond s Second (cond f First Neither)
second_lower true true = refl
second_lower true false = refl
second_lower false true = refl
second_lower false false = refl

module _ {p : Bus} (t : Two p) where
  abbrev low_may : Bool
  low_may = responds_of (picked_of p (lower_of p))

  abbrev high_may : Bool
  high_may = responds_of (picked_of p (not (lower_of p)))

  in_order : names_of p (Receive alert_response) ≡ cond low_may (alone_named (lower_of p)) (cond high_may (alone_named (not (lower_of p))) Neither)
  in_order =
      by_test (lower_of p)
      (λ h.
      let above = le_of_lt (ltb-true (second_address p) (first_address p) h) in
      rw (h, chosen t, le-ltb _ _ above) (second_lower (responds_of p.first) (responds_of p.second)))
      (λ h.
      let below = strictly (second_address p) (first_address p) (ltb-false _ _ h) (λ e. eqb-false _ _ t.apart (sym e)) in
      rw (h, chosen t, lt-ltb _ _ below) (first_lower_lem (responds_of p.first) (responds_of p.second)))

  pub lowest_set_bit : (i : ℕ) → Lowest (alerting_mask p) i → names_of p (Receive alert_response) ≡ device_at p i
  lowest_set_bit i h = in_order ∙ sym (at_lowest low_may high_may i h (alone_named (lower_of p)) (alone_named (not (lower_of p))))

  pub no_bit_set : alerting_mask p ≡ 0 → names_of p (Receive alert_response) ≡ Neither
  no_bit_set h = in_order ∙ at_none low_may high_may h (alone_named (lower_of p)) (alone_named (not (lower_of p)))

  -- the lowest set bit by its zeros, as the program finds it; 8 where there is none
  pub by_trailing_zeros : names_of p (Receive alert_response) ≡ device_at p (count_trailing_zeros 8 (alerting_mask p))
  by_trailing_zeros = in_order ∙ sym (two low_may high_may (alone_named (lower_of p)) (alone_named (not (lower_of p))))

-- ---- the one named does what P9 says, the other nothing

-- the mask bit joined to any byte
mask_set : (c : ℕ) → has (bit_or c alert_mask) alert_mask ≡ true
mask_set c =
    let odd : bit_or c alert_mask / 2 ^ 7 % 2 ^ 1 ≡ 1 = rw (or_shr c alert_mask 7) (omega (arith, or_step (c / 2 ^ 7) 1)) in
    rw (and_high (bit_or c alert_mask) 1 7, odd)

masked_bit : (d : Device) → length d.settings ≡ 14 → has (setting_of (masked_of d).settings 0x03) alert_mask ≡ true
unfolding masked_of
masked_bit d long =
    let s = d.settings in
    let b = bit_or (setting_of s 0x03) alert_mask in
    rw (change_configuration s b, configuration (set s 0 b), get_or-set_same s 0 b 0 (rw long (lit< tt))) (mask_set (setting_of s 0x03))

masked_alert : (d : Device) → length d.settings ≡ 14 → alert_of (masked_of d) ≡ false
unfolding alert_of
masked_alert d long = rw (masked_bit d long)

-- a device put in its place, and the other
own_place : (p : Bus) (second : Bool) (d : Device) → picked_of (placed_of p second d) second ≡ d
own_place p true d = refl
own_place p false d = refl

other_place : (p : Bus) (second : Bool) (d : Device) → picked_of (placed_of p second d) (not second) ≡ picked_of p (not second)
other_place p true d = refl
other_place p false d = refl

module _ (p : Bus) (second : Bool) where
  -- the bus after its answer
  abbrev replied : Done
  replied = done_of p second (answered_of (masked_of (picked_of p second)) (address_at p second * 2 + 1))

  replies : names_of p (Receive alert_response) ≡ alone_named second
      → responds_of (picked_of p second) ≡ true → bus_effect_of p (Receive alert_response) ≡ replied
  unfolding bus_effect_of effect_of respond_of
  replies named may = rw named (split second may)
    where
      split : (which : Bool) → responds_of (picked_of p which) ≡ true
          → by_named p (Receive alert_response) (alone_named which) ≡ done_of p which (answered_of (masked_of (picked_of p which)) (address_at p which * 2 + 1))
      split true may = rw may
      split false may = rw may

module _ {p : Bus} (t : Two p) where
  line_after : (second : Bool) → alert_of (masked_of (picked_of p second)) ≡ false
      → (lines_of (replied p second).bus).alert ≡ alert_of (picked_of p (not second))
  unfolding lines_of pins_of
  line_after true h = rw (t.two, h) (or-false (alert_of p.first))
  line_after false h = rw (t.two, h)

  answered_so : (second : Bool) → length (picked_of p second).settings ≡ 14 → Answered p second (replied p second)
  answered_so second long =
      let own = picked_of p second in
      let there = own_place p second (masked_of own) in
      record {
        acknowledged = refl;
        byte = refl;
        taken = refl;
        held = refl;
        own = there;
        mask = ap (λ (d : Device). has (setting_of d.settings 0x03) alert_mask) there ∙ masked_bit own long;
        released = ap alert_of there ∙ masked_alert own long;
        other = other_place p second (masked_of own);
        line = line_after second (masked_alert own long);
      }

  -- a device holds fourteen settings
  pub answered : (second : Bool) → names_of p (Receive alert_response) ≡ alone_named second → length (picked_of p second).settings ≡ 14
      → Answered p second (bus_effect_of p (Receive alert_response))
  answered second named long = rw (replies p second named ((who_answers t second).0 named).may) (answered_so second long)

  pub keeps_pulling : (second : Bool) → names_of p (Receive alert_response) ≡ alone_named second → alert_of (picked_of p (not second)) ≡ true
      → (lines_of (bus_effect_of p (Receive alert_response)).bus).alert ≡ true
  keeps_pulling second named h = alert_stays p (Receive alert_response) (not second) (present second) (rw named (unnamed second)) h
    where
      present : (which : Bool) → present_of p (not which) ≡ true
      present true = refl
      present false = t.two

      unnamed : (which : Bool) → is_named (alone_named which) (not which) ≡ false
      unnamed true = refl
      unnamed false = refl

  pub none_alerting : ((second : Bool) → responds_of (picked_of p second) ≡ false) → bus_effect_of p (Receive alert_response) ≡ quiet_of p
  unfolding bus_effect_of
  none_alerting h = rw ((nobody_answers t).1 h)
