-- What the program keeps of the records read, `ends_by`: for each channel and fault count, what they make of a latch that was clear and of one that was set.
-- `before_is`: with one record more before them it is what the program works out. `decided_is`: it tells whether both channels are decided. `pulled_is`: it
-- tells T_CRIT_A after the records read.
-- Assumes nothing.
use Prim.Native.Nat.{ℕ, zero, suc, ◌≤◌}
use mathlib.Core.Path.{◌≡◌, refl, sym, ap, ◌∙◌}
use mathlib.Core.Bool.{Bool, true, false}
use mathlib.Core.List.{List, [], ◌∷◌}
use native.Mathlib.Omega.{arith}
use Rattle.temperature.specs.Temperature.{cleared_of}
use Rattle.registers.specs.Page.{setting_of}
use Rattle.conversion.specs.declared.Sensed.{Sensed}
use Rattle.conversion.specs.Conversion.{latch_of, local_of, local_out_of, faults_of, remote_shown_of, sensed_of}
use Rattle.conversion.specs.Channels.{Channel, local_channel, remote_channel, latch_at}
use Rattle.device.specs.declared.Device.{Device}
use Rattle.device.specs.declared.Event.{Event}
use Rattle.device.specs.Pins.{tcrit_of}
use Rattle.device.specs.Step.{step_of}
use Rattle.device.specs.Run.{after_of}
use Rattle.soak.specs.declared.Made.{Made}
use Rattle.soak.specs.declared.Ends.{Ends}
use Rattle.soak.specs.Soak.{Running, supposing, latch_after, alike, decided_of, both_decided}
use Rattle.soak.specs.Ends.{began_of, made_of, counted_of, local_before, remote_before, before_of, decided_by, pulled_by}
use Rattle.soak.proofs.Runs.{few_faults, running_supposing, Converts, AllConvert, step_sensed, step_settings, step_running, settings_after}
use Rattle.soak.proofs.Runs.{SameCounts, two_is_three, same_count, alone}

-- ---- what the program keeps

abbrev pub made_by : Channel → Device → List Event → ℕ → Made
made_by ch d read n = record { clear = latch_after ch (supposing d n false false) read; set = latch_after ch (supposing d n true true) read }

abbrev pub ends_by : Device → List Event → Ends
ends_by d read =
    record {
      local = made_by local_channel d read 0;
      none = made_by remote_channel d read 0;
      one = made_by remote_channel d read 1;
      more = made_by remote_channel d read 2;
    }

pub none_read : (d : Device) → began_of ≡ ends_by d []
none_read d = refl

-- ---- latches that stand twice in a list

two_alike : (x y : Bool) → alike (x ∷ y ∷ []) ≡ alike (x ∷ y ∷ x ∷ y ∷ x ∷ y ∷ x ∷ y ∷ [])
two_alike true true = refl
two_alike true false = refl
two_alike false true = refl
two_alike false false = refl

six_alike : (a b c e x y : Bool) → alike (a ∷ b ∷ c ∷ e ∷ x ∷ y ∷ []) ≡ alike (a ∷ b ∷ c ∷ e ∷ x ∷ y ∷ x ∷ y ∷ [])
six_alike a b c e true true = refl
six_alike a b c e true false = refl
six_alike a b c e false true = refl
six_alike a b c e false false = refl

-- ---- from a device in run mode, under the same settings

made_is : (ch : Channel) (d : Device) (read : List Event) (n : ℕ) (o : Bool) → made_of (made_by ch d read n) o ≡ latch_after ch (supposing d n o o) read
made_is ch d read n true = refl
made_is ch d read n false = refl

supposed_latch : (ch : Channel) (d : Device) (n : ℕ) (o : Bool) → latch_at ch (supposing d n o o).sensed ≡ o
supposed_latch local_channel d n o = refl
supposed_latch remote_channel d n o = refl

module _ (d : Device) (running : Running d) (read : List Event) (all : AllConvert read) where
  made_from : (ch : Channel) (n : ℕ) → n ≤ 3 → (a : Device) → Running a → a.settings ≡ d.settings → SameCounts ch n a.sensed.faults
      → made_of (made_by ch d read n) (latch_at ch a.sensed) ≡ latch_after ch a read
  made_from ch n h a r s k =
      let o : Bool = latch_at ch a.sensed in
      made_is ch d read n o
      ∙ alone ch read all (supposing d n o o) a
      (record { first = running_supposing d running n h o o; second = r; settings = sym s; counts = k; latch = supposed_latch ch d n o })

  local_from : (a : Device) → Running a → a.settings ≡ d.settings → made_of (ends_by d read).local a.sensed.llatch ≡ latch_after local_channel a read
  local_from a r s = made_from local_channel 0 (omega arith) a r s tt

  remote_from : (a : Device) → Running a → a.settings ≡ d.settings
      → made_of (counted_of (ends_by d read) a.sensed.faults) a.sensed.rlatch ≡ latch_after remote_channel a read
  remote_from a r s = by_count a.sensed.faults refl (few_faults a r)
    where
      by_count : (n : ℕ) → a.sensed.faults ≡ n → n ≤ 3 → made_of (counted_of (ends_by d read) n) a.sensed.rlatch ≡ latch_after remote_channel a read
      by_count zero e h = made_from remote_channel 0 h a r s (same_count remote_channel (sym e))
      by_count (suc zero) e h = made_from remote_channel 1 h a r s (same_count remote_channel (sym e))
      by_count (suc (suc zero)) e h = made_from remote_channel 2 h a r s (same_count remote_channel (sym e))
      by_count (suc (suc (suc zero))) e h = made_from remote_channel 2 (omega arith) a r s (rw e two_is_three)
      by_count (suc (suc (suc (suc n)))) e h = absurd (omega arith)

  -- ---- one record more

  module _ (e : Event) (c : Converts e) where
    step_local : (o : Bool) → made_of (ends_by d read).local (latch_of (local_out_of d.settings c.local).crit
        (cleared_of (local_of c.local) (setting_of d.settings 0x20) (setting_of d.settings 0x21)) o)
        ≡ latch_after local_channel (supposing d 0 o o) (e ∷ read)
    unfolding sensed_of
    step_local o =
        let b : Device = supposing d 0 o o in
        let r = running_supposing d running 0 (omega arith) o o in
        ap (λ (n : Sensed). made_of (ends_by d read).local n.llatch) (sym (step_sensed e c b r))
        ∙ local_from (step_of b e).device (step_running e c b r) (step_settings e c b r)

    step_remote : (n : ℕ) → n ≤ 3 → (o : Bool)
        → made_of (counted_of (ends_by d read) (faults_of d.settings n (c.remote d.settings)))
        (latch_of (remote_shown_of d.settings n (c.remote d.settings)).crit
        (cleared_of (c.remote d.settings) (setting_of d.settings 0x19) (setting_of d.settings 0x21)) o)
        ≡ latch_after remote_channel (supposing d n o o) (e ∷ read)
    unfolding sensed_of
    step_remote n h o =
        let b : Device = supposing d n o o in
        let r = running_supposing d running n h o o in
        ap (λ (n : Sensed). made_of (counted_of (ends_by d read) n.faults) n.rlatch) (sym (step_sensed e c b r))
        ∙ remote_from (step_of b e).device (step_running e c b r) (step_settings e c b r)

    pub before_is : before_of d.settings (ends_by d read) c.local (c.remote d.settings) ≡ ends_by d (e ∷ read)
    unfolding before_of local_before remote_before
    before_is =
        rw (
          step_local false,
          step_local true,
          step_remote 0 (omega arith) false,
          step_remote 0 (omega arith) true,
          step_remote 1 (omega arith) false,
          step_remote 1 (omega arith) true,
          step_remote 2 (omega arith) false,
          step_remote 2 (omega arith) true,
        )

  -- ---- decided

  local_same : (n : ℕ) → n ≤ 3 → (o : Bool) → latch_after local_channel (supposing d n o o) read ≡ latch_after local_channel (supposing d 0 o o) read
  local_same n h o =
      alone local_channel read all (supposing d n o o) (supposing d 0 o o)
      (record {
        first = running_supposing d running n h o o;
        second = running_supposing d running 0 (omega arith) o o;
        settings = refl;
        counts = tt;
        latch = refl;
      })

  remote_same : (o : Bool) → latch_after remote_channel (supposing d 3 o o) read ≡ latch_after remote_channel (supposing d 2 o o) read
  remote_same o =
      sym (alone remote_channel read all (supposing d 2 o o) (supposing d 3 o o)
      (record {
        first = running_supposing d running 2 (omega arith) o o;
        second = running_supposing d running 3 (omega arith) o o;
        settings = refl;
        counts = two_is_three;
        latch = refl;
      }))

  pub decided_is : decided_by (ends_by d read) ≡ both_decided d read
  unfolding decided_by decided_of
  decided_is =
      rw (
        local_same 1 (omega arith) false,
        local_same 1 (omega arith) true,
        local_same 2 (omega arith) false,
        local_same 2 (omega arith) true,
        local_same 3 (omega arith) false,
        local_same 3 (omega arith) true,
        remote_same false,
        remote_same true,
        two_alike,
        six_alike,
      )

  -- ---- T_CRIT_A

  pub pulled_is : pulled_by d (ends_by d read) ≡ tcrit_of (after_of d read)
  unfolding pulled_by tcrit_of
  pulled_is = rw (local_from d running refl, remote_from d running refl, settings_after read all d running)
