-- Of conversions read: `exactly`, the test says yes exactly if they give the same latch for every earlier latch and fault count. `any_alike`: then they give it
-- from every device in run mode under the same settings. `none_decides`: with no record read no channel is decided. `of_both`, `both`, `one_open`: the same
-- of both channels. `pin_any`: then T_CRIT_A is the same from all those devices.
-- Assumes nothing.
use Prim.Native.Nat.{ℕ, zero, suc, ◌≤◌}
use mathlib.Core.Path.{◌≡◌, refl, sym, ◌∙◌}
use mathlib.Core.Logic.{◌↔◌}
use mathlib.Core.Bool.{Bool, true, false, not}
use mathlib.Core.List.{List, [], ◌∷◌}
use native.Mathlib.Omega.{arith}
use borrow.Author.Tests.{not-true}
use Rattle.laws.proofs.Choices.{clash, by_test, and_left, and_right}
use Rattle.conversion.specs.declared.Sensed.{Sensed}
use Rattle.conversion.specs.Channels.{Channel, local_channel, remote_channel, latch_at}
use Rattle.device.specs.declared.Device.{Device}
use Rattle.device.specs.declared.Event.{Event}
use Rattle.device.specs.Pins.{tcrit_of}
use Rattle.device.specs.Ranges.{all_true}
use Rattle.device.specs.Run.{after_of}
use Rattle.device.proofs.Tests.{Each, each}
use Rattle.soak.specs.Soak.{Running, supposing, latch_after, Decided, each_earlier, alike, decided_of, both_decided}
use Rattle.soak_laws.specs.Stretch.{BothDecided}
use Rattle.soak.proofs.Runs.{few_faults, running_supposing, AllConvert, settings_after, same_count, alone}

-- ---- a list of latches, all alike

picked : (f : ℕ → Bool → Bool) → Each (each_earlier f) → (n : ℕ) → n ≤ 3 → (o : Bool) → f n o ≡ true
picked f t zero h false = t.0
picked f t zero h true = t.1.0
picked f t (suc zero) h false = t.1.1.0
picked f t (suc zero) h true = t.1.1.1.0
picked f t (suc (suc zero)) h false = t.1.1.1.1.0
picked f t (suc (suc zero)) h true = t.1.1.1.1.1.0
picked f t (suc (suc (suc zero))) h false = t.1.1.1.1.1.1.0
picked f t (suc (suc (suc zero))) h true = t.1.1.1.1.1.1.1.0
picked f t (suc (suc (suc (suc n)))) h o = absurd (omega arith)

each_same : (f : ℕ → Bool → Bool) → alike (each_earlier f) ≡ true → (n : ℕ) → n ≤ 3 → (o : Bool) → f n o ≡ f 0 false
each_same f p n h o =
    by_test (all_true (each_earlier f))
    (λ y. let t = each (each_earlier f) y in picked f t n h o ∙ sym (picked f t 0 (omega arith) false))
    (λ y.
    let g : ℕ → Bool → Bool = λ (k : ℕ) (u : Bool). not (f k u) in
    let t = each (each_earlier g) (rw y at p) in
    not-true (f n o) (picked g t n h o) ∙ sym (not-true (f 0 false) (picked g t 0 (omega arith) false)))

all_same : (x : Bool) → alike (x ∷ x ∷ x ∷ x ∷ x ∷ x ∷ x ∷ x ∷ []) ≡ true
all_same true = refl
all_same false = refl

-- ---- decided

-- of the two latches, the channel's own
abbrev pick : Channel → Bool → Bool → Bool
pick local_channel l r = l
pick remote_channel l r = r

module _ (ch : Channel) (d : Device) (running : Running d) (read : List Event) (all : AllConvert read) where
  -- from any device in run mode under the same settings: as from the one given, with that count and those latches
  as_supposed : (a : Device) → Running a → a.settings ≡ d.settings
      → latch_after ch a read ≡ latch_after ch (supposing d a.sensed.faults a.sensed.llatch a.sensed.rlatch) read
  as_supposed a r s =
      let n : Sensed = a.sensed in
      alone ch read all a (supposing d n.faults n.llatch n.rlatch)
      (record {
        first = r;
        second = running_supposing d running n.faults (few_faults a r) n.llatch n.rlatch;
        settings = s;
        counts = same_count ch refl;
        latch = same_latch ch;
      })
    where
      same_latch : (c : Channel) → latch_at c a.sensed ≡ latch_at c (supposing d a.sensed.faults a.sensed.llatch a.sensed.rlatch).sensed
      same_latch local_channel = refl
      same_latch remote_channel = refl

  pub any_alike : Decided ch d read → (a b : Device) → Running a → Running b → a.settings ≡ d.settings → b.settings ≡ d.settings
      → latch_after ch a read ≡ latch_after ch b read
  any_alike p a b r q s t =
      let n : Sensed = a.sensed in
      let m : Sensed = b.sensed in
      as_supposed a r s
      ∙ p n.faults m.faults (few_faults a r) (few_faults b q) n.llatch n.rlatch m.llatch m.rlatch
      ∙ sym (as_supposed b q t)

  -- the channel's own latch speaks, the other one does not
  own : (n : ℕ) → n ≤ 3 → (l r : Bool) → latch_after ch (supposing d n l r) read ≡ latch_after ch (supposing d n (pick ch l r) (pick ch l r)) read
  own n h l r =
      alone ch read all (supposing d n l r) (supposing d n (pick ch l r) (pick ch l r))
      (record {
        first = running_supposing d running n h l r;
        second = running_supposing d running n h (pick ch l r) (pick ch l r);
        settings = refl;
        counts = same_count ch refl;
        latch = its_own ch;
      })
    where
      its_own : (c : Channel) → latch_at c (supposing d n l r).sensed ≡ latch_at c (supposing d n (pick c l r) (pick c l r)).sensed
      its_own local_channel = refl
      its_own remote_channel = refl

  -- by each fault count, from latches of one kind
  abbrev by : ℕ → Bool → Bool
  by n o = latch_after ch (supposing d n o o) read

  found : decided_of ch d read ≡ true → Decided ch d read
  unfolding decided_of
  found p n m h k l r l' r' =
      own n h l r ∙ each_same by p n h (pick ch l r) ∙ sym (each_same by p m k (pick ch l' r')) ∙ sym (own m k l' r')

  finds : Decided ch d read → decided_of ch d read ≡ true
  unfolding decided_of
  finds p = rw (
    q 0 (omega arith) true,
    q 1 (omega arith) false,
    q 1 (omega arith) true,
    q 2 (omega arith) false,
    q 2 (omega arith) true,
    q 3 (omega arith) false,
    q 3 (omega arith) true,
  ) (all_same (by 0 false))
    where
      q : (n : ℕ) → n ≤ 3 → (o : Bool) → latch_after ch (supposing d n o o) read ≡ latch_after ch (supposing d 0 false false) read
      q n h o = p n 0 h (omega arith) o o false false

  pub exactly : (decided_of ch d read ≡ true) ↔ Decided ch d read
  exactly = (found, finds)

pub none_decides : (ch : Channel) (d : Device) → Decided ch d [] → ⊥
none_decides local_channel d p = clash (p 0 0 (omega arith) (omega arith) false false true true)
none_decides remote_channel d p = clash (p 0 0 (omega arith) (omega arith) false false true true)

-- ---- both channels

module _ (d : Device) (r : Running d) (read : List Event) (c : AllConvert read) where
  pub of_both : both_decided d read ≡ true → BothDecided d read
  of_both y = record { each = λ (ch : Channel). by_channel ch }
    where
      by_channel : (ch : Channel) → Decided ch d read
      by_channel local_channel = (exactly local_channel d r read c).0 (and_left (decided_of local_channel d read) (decided_of remote_channel d read) y)
      by_channel remote_channel = (exactly remote_channel d r read c).0 (and_right (decided_of local_channel d read) (decided_of remote_channel d read) y)

  pub both : BothDecided d read → both_decided d read ≡ true
  both b = rw ((exactly local_channel d r read c).1 (b.each local_channel), (exactly remote_channel d r read c).1 (b.each remote_channel))

  -- where they are not both decided, one of them is not
  pub one_open : {P : Type 0} → both_decided d read ≡ false → ((ch : Channel) → (Decided ch d read → ⊥) → P) → P
  one_open y f =
      by_test (decided_of local_channel d read)
      (λ l. by_test (decided_of remote_channel d read) (λ m. clash (sym y ∙ rw (l, m)))
      (λ m. f remote_channel (λ p. clash (sym m ∙ (exactly remote_channel d r read c).1 p))))
      (λ l. f local_channel (λ p. clash (sym l ∙ (exactly local_channel d r read c).1 p)))

  -- where they are, T_CRIT_A is the same from every device in run mode under the same settings
  pub pin_any : BothDecided d read → (a : Device) → Running a → a.settings ≡ d.settings → tcrit_of (after_of d read) ≡ tcrit_of (after_of a read)
  unfolding tcrit_of
  pin_any b a k s =
      let local = any_alike local_channel d r read c (b.each local_channel) d a r k refl s in
      let remote = any_alike remote_channel d r read c (b.each remote_channel) d a r k refl s in
      rw (local, remote, settings_after read c d r, settings_after read c a k, s)
