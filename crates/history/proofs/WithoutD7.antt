-- What the settings lose with D7 of configuration: nothing that a latch looks at. `low_bit`: every other bit of configuration stays. `masking`:
-- setting D7 is not seen. `changing`: a change of any register is seen alike. `same_reading`, `same_limits`, `same_crit`, `same_hysteresis`: the
-- offset, the remote limits, both T_CRIT and the hysteresis stay.
-- Assumes nothing.
use mathlib.Core.Path.{◌≡◌, refl, sym, ap, ◌∙◌}
use mathlib.Core.Bool.{not}
use mathlib.Core.List.{List, [], ◌∷◌}
use Prim.Native.Nat.{ℕ, zero, suc, ◌%◌, ◌<◌}
use native.Mathlib.Omega.{arith}
use native.Mathlib.Nat.{lt_of_le_of_lt, mod-eq_of_lt}
use lib.Dec.{eqb}
use lib.Bits.{bit_and, bit_or, and_mask, and_mod, or_mod, or_zero_r, and_le_r}
use lib.ListN.{set}
use Rattle.std.specs.Prelude.{Option, Some, None}
use Rattle.registers.specs.Bits.{has, alert_mask}
use Rattle.registers.specs.Page.{read_position_of, on_position, setting_of, changed_of}
use Rattle.conversion.specs.Conversion.{reading_of, remote_limits_of}
use Rattle.conversion.specs.Channels.{Channel, local_channel, remote_channel}
use Rattle.history.specs.Account.{all_but_d7, without_d7}
use Rattle.history.specs.Verdict.{crit_of}

-- ---- one byte

low_bits : (c m : ℕ) → m < 128 → bit_and (bit_and c all_but_d7) m ≡ bit_and c m
low_bits c m h =
    let small : bit_and c m < 128 = lt_of_le_of_lt (and_le_r c m) h in
    ap (λ (x : ℕ). bit_and x m) (and_mask c 7)
    ∙ ap (λ (x : ℕ). bit_and (c % 128) x) (sym (mod-eq_of_lt h))
    ∙ sym (and_mod c m 7)
    ∙ mod-eq_of_lt small

masked_byte : (c : ℕ) → bit_and (bit_or c alert_mask) all_but_d7 ≡ bit_and c all_but_d7
masked_byte c = and_mask (bit_or c alert_mask) 7 ∙ or_mod c alert_mask 7 ∙ or_zero_r (c % 128) ∙ sym (and_mask c 7)

again_byte : (c : ℕ) → bit_and (bit_and c all_but_d7) all_but_d7 ≡ bit_and c all_but_d7
again_byte c = low_bits c all_but_d7 (omega arith)

-- ---- the settings

pub low_bit : (s : List ℕ) (m : ℕ) → m < 128 → has (setting_of (without_d7 s) 0x03) m ≡ has (setting_of s 0x03) m
unfolding without_d7 changed_of setting_of read_position_of
low_bit [] m h = refl
low_bit (c ∷ s) m h = ap (λ (x : ℕ). not (eqb x 0)) (low_bits c m h)

pub masking : (s : List ℕ) → without_d7 (changed_of s 0x03 (bit_or (setting_of s 0x03) alert_mask)) ≡ without_d7 s
unfolding without_d7 changed_of setting_of read_position_of
masking [] = refl
masking (c ∷ s) = ap (λ (x : ℕ). x ∷ s) (masked_byte c)

at_position : (p : Option ℕ) (s : List ℕ) (b : ℕ)
    → without_d7 (on_position p (λ i. set (without_d7 s) i b) (without_d7 s)) ≡ without_d7 (on_position p (λ i. set s i b) s)
unfolding without_d7 changed_of setting_of read_position_of
at_position (Some i) [] b = refl
at_position (Some zero) (c ∷ s) b = refl
at_position (Some (suc i)) (c ∷ s) b = ap (λ (x : ℕ). x ∷ set s i b) (again_byte c)
at_position None [] b = refl
at_position None (c ∷ s) b = ap (λ (x : ℕ). x ∷ s) (again_byte c)

pub changing : (s : List ℕ) (r b : ℕ) → without_d7 (changed_of (without_d7 s) r b) ≡ without_d7 (changed_of s r b)
unfolding changed_of
changing s r b = at_position (read_position_of r) s b

pub same_reading : (s : List ℕ) (high low : ℕ) → reading_of (without_d7 s) high low ≡ reading_of s high low
unfolding without_d7 changed_of setting_of read_position_of reading_of
same_reading [] high low = refl
same_reading (c ∷ s) high low = refl

pub same_limits : (s : List ℕ) → remote_limits_of (without_d7 s) ≡ remote_limits_of s
unfolding without_d7 changed_of setting_of read_position_of remote_limits_of
same_limits [] = refl
same_limits (c ∷ s) = refl

pub same_crit : (ch : Channel) (s : List ℕ) → crit_of ch (without_d7 s) ≡ crit_of ch s
unfolding without_d7 changed_of setting_of read_position_of
same_crit local_channel [] = refl
same_crit local_channel (c ∷ s) = refl
same_crit remote_channel [] = refl
same_crit remote_channel (c ∷ s) = refl

pub same_hysteresis : (s : List ℕ) → setting_of (without_d7 s) 0x21 ≡ setting_of s 0x21
unfolding without_d7 changed_of setting_of read_position_of
same_hysteresis [] = refl
same_hysteresis (c ∷ s) = refl
