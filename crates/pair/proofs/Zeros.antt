-- `absent_exactly`: the tests of an absent device hold exactly if it is all zeros. `same_exactly`: so does derived equality with a device of all zeros.
-- Assumes nothing.
use Prim.Native.Nat.{ℕ, zero, suc}
use mathlib.Core.Path.{◌≡◌, refl, sym, ap, ◌∙◌}
use mathlib.Core.Logic.{◌↔◌}
use mathlib.Core.Bool.{Bool, true, false, not, ◌&&◌, beq}
use mathlib.Core.List.{List, [], ◌∷◌, map}
use native.Mathlib.Omega.{arith}
use lib.IntN.{ℤ, pos, negsuc}
use lib.Signed.{le_z}
use lib.Dec.{eqb}
use lib.ListN.{length}
use borrow.Author.Tests.{eqb-true, leb-true}
use Rattle.std.specs.Prelude.{nat_eq}
use Rattle.std.specs.Ordering.{int_eq}
use Rattle.std.specs.Str.{bytes_eq}
use Rattle.std.proofs.lemmas.Bool.Decides.{Decides-int_eq}
use Rattle.std.proofs.lemmas.Slice.Eq.{bytes_eq-Decides}
use Rattle.laws.proofs.Choices.{clash, and_left, and_right}
use Rattle.conversion.specs.declared.Sensed.{Sensed}
use Rattle.device.specs.declared.Device.{Device}
use Rattle.device.specs.Bus.{zero_device}
use Rattle.device.proofs.Tests.{all_cons, each}
use Rattle.pair.specs.Ranges.{zeros_of, unsensed_tests, unsensed_of, zero_tests, absent_of}

no : (t : Bool) → not t ≡ true → t ≡ false
no true h = clash h
no false h = refl

neither : (z : ℤ) → le_z (pos 0) z ≡ true → le_z z (pos 0) ≡ true → z ≡ pos 0
neither (pos n) under over = ap pos (omega (arith, leb-true n 0 over))
neither (negsuc n) under over = clash under

-- so many zeros
zeros : ℕ → List ℕ
zeros zero = []
zeros (suc n) = 0 ∷ zeros n

all_zeros : (l : List ℕ) → zeros_of l ≡ true → l ≡ zeros (length l)
unfolding zeros
all_zeros [] h = refl
all_zeros (x ∷ l) h =
    let both : (eqb x 0 && zeros_of l) ≡ true = sym (all_cons (eqb x 0) (map (λ (byte : ℕ). eqb byte 0) l)) ∙ h in
    let first = eqb-true x 0 (and_left (eqb x 0) (zeros_of l) both) in
    let rest = all_zeros l (and_right (eqb x 0) (zeros_of l) both) in
    rw first (ap (λ (r : List ℕ). 0 ∷ r) rest)

unsensed : (s : Sensed) → unsensed_of s ≡ true → s ≡ zero_device.sensed
unfolding unsensed_of
unsensed s h =
    let t = each (unsensed_tests s) h in
    let local = eqb-true s.local 0 t.0 in
    let remote = neither s.remote t.1.0 t.1.1.0 in
    let u = t.1.1.1 in
    let live = eqb-true s.live 0 u.0 in
    let faults = eqb-true s.faults 0 u.1.0 in
    let llatch = no s.llatch u.1.1.0 in
    let rlatch = no s.rlatch u.1.1.1.0 in
    λ i. record { local = local i; remote = remote i; live = live i; faults = faults i; llatch = llatch i; rlatch = rlatch i }

pub absent_exactly : (d : Device) → length d.settings ≡ 14 → (absent_of d ≡ true) ↔ (d ≡ zero_device)
unfolding absent_of unsensed_of zeros
absent_exactly d long = (told, λ e. rw e)
  where
    told : absent_of d ≡ true → d ≡ zero_device
    told h =
        let t = each (zero_tests d) h in
        let sensed = unsensed d.sensed t.0 in
        let variant = eqb-true d.variant 0 t.1.0 in
        let pointer = eqb-true d.pointer 0 t.1.1.0 in
        let u = t.1.1.1 in
        let pending = no d.pending u.0 in
        let status = eqb-true d.status 0 u.1.0 in
        let settings : d.settings ≡ zeros 14 = rw long at (all_zeros d.settings u.1.1.0) in
        let v = u.1.1.1 in
        let low = eqb-true d.low 0 v.0 in
        let lowkept = no d.lowkept v.1.0 in
        λ i.
        record {
          sensed = sensed i;
          variant = variant i;
          pointer = pointer i;
          pending = pending i;
          status = status i;
          settings = settings i;
          low = low i;
          lowkept = lowkept i;
        }

-- ---- derived equality

same_sensed : Sensed → Sensed → Bool
same_sensed s t =
    int_eq s.remote t.remote && (nat_eq s.local t.local && (nat_eq s.live t.live && (nat_eq s.faults t.faults && (beq s.llatch t.llatch && beq s.rlatch t.rlatch))))

-- what == of two devices computes
unfoldable pub same : Device → Device → Bool
unfolding same_sensed
same d p =
    same_sensed d.sensed p.sensed
    && (nat_eq d.variant p.variant
    && (nat_eq d.pointer p.pointer
    && (beq d.pending p.pending && (nat_eq d.status p.status && (bytes_eq d.settings p.settings && (nat_eq d.low p.low && beq d.lowkept p.lowkept))))))

beq_is : (s t : Bool) → beq s t ≡ true → s ≡ t
beq_is true true h = refl
beq_is true false h = clash h
beq_is false true h = clash h
beq_is false false h = refl

same_sensed_is : (s t : Sensed) → same_sensed s t ≡ true → s ≡ t
unfolding same_sensed
same_sensed_is s t h =
    let remote = (Decides-int_eq s.remote t.remote).0 (and_left _ _ h) in
    let h1 = and_right (int_eq s.remote t.remote) _ h in
    let local = eqb-true s.local t.local (and_left _ _ h1) in
    let h2 = and_right (nat_eq s.local t.local) _ h1 in
    let live = eqb-true s.live t.live (and_left _ _ h2) in
    let h3 = and_right (nat_eq s.live t.live) _ h2 in
    let faults = eqb-true s.faults t.faults (and_left _ _ h3) in
    let h4 = and_right (nat_eq s.faults t.faults) _ h3 in
    let llatch = beq_is s.llatch t.llatch (and_left _ _ h4) in
    let rlatch = beq_is s.rlatch t.rlatch (and_right (beq s.llatch t.llatch) _ h4) in
    λ i. record { local = local i; remote = remote i; live = live i; faults = faults i; llatch = llatch i; rlatch = rlatch i }

same_is : (d p : Device) → same d p ≡ true → d ≡ p
unfolding same
same_is d p h =
    let sensed = same_sensed_is d.sensed p.sensed (and_left _ _ h) in
    let h1 = and_right (same_sensed d.sensed p.sensed) _ h in
    let variant = eqb-true d.variant p.variant (and_left _ _ h1) in
    let h2 = and_right (nat_eq d.variant p.variant) _ h1 in
    let pointer = eqb-true d.pointer p.pointer (and_left _ _ h2) in
    let h3 = and_right (nat_eq d.pointer p.pointer) _ h2 in
    let pending = beq_is d.pending p.pending (and_left _ _ h3) in
    let h4 = and_right (beq d.pending p.pending) _ h3 in
    let status = eqb-true d.status p.status (and_left _ _ h4) in
    let h5 = and_right (nat_eq d.status p.status) _ h4 in
    let settings = (bytes_eq-Decides d.settings p.settings).0 (and_left _ _ h5) in
    let h6 = and_right (bytes_eq d.settings p.settings) _ h5 in
    let low = eqb-true d.low p.low (and_left _ _ h6) in
    let lowkept = beq_is d.lowkept p.lowkept (and_right (nat_eq d.low p.low) _ h6) in
    λ i.
    record {
      sensed = sensed i;
      variant = variant i;
      pointer = pointer i;
      pending = pending i;
      status = status i;
      settings = settings i;
      low = low i;
      lowkept = lowkept i;
    }

same_zero : same zero_device zero_device ≡ true
unfolding same same_sensed
same_zero = refl

both : (s t : Bool) → (s ≡ true → t ≡ true) → (t ≡ true → s ≡ true) → s ≡ t
both true t f g = sym (f refl)
both false true f g = g refl
both false false f g = refl

pub same_exactly : (d : Device) → length d.settings ≡ 14 → same d zero_device ≡ absent_of d
same_exactly d long =
    let exactly = absent_exactly d long in
    both (same d zero_device) (absent_of d) (λ h. exactly.1 (same_is d zero_device h)) (λ h. rw (exactly.0 h) same_zero)
