-- Request e. `history`: of every accepted capture, after any of its records, for each device on its bus and each channel, the latch is set exactly
-- if some taken conversion since the last power-on made the channel's T_CRIT bit live under the settings then in force, and no taken conversion
-- after it read strictly below the limit less hysteresis in force at that later one. `history_clear`: it is clear exactly if not. `history_fed`: so is the
-- latch of every state that feeding the capture's bytes leaves, wherever they end behind the header, within a record and after 7 too.
-- `history_of_bytes`: and that of any byte string, accepted or not, after its complete, counted, valid records up to the first refused one. `in_force`: the
-- account's settings are the device's but for D7, and its one-shot and fault count are the device's. `tells`: latches, LCRIT and RCRIT of the live
-- byte, and both readings are those that the account says.
-- Assumes nothing.
use mathlib.Core.Path.{◌≡◌, refl, sym, ap, subst, ◌∙◌}
use mathlib.Core.Logic.{◌↔◌}
use mathlib.Core.Bool.{Bool, true, false, not, ◌||◌, cond}
use mathlib.Core.List.{List, [], ◌∷◌, ◌++◌}
use Prim.Native.Nat.{ℕ, zero, suc, ◌+◌, ◌-◌, ◌*◌, ◌/◌, ◌≤◌}
use native.Mathlib.Omega.{arith}
use lib.Dec.{eqb}
use lib.ListN.{length, get_or, take}
use lib.Seq.{take-append_seam}
use Rattle.laws.proofs.Choices.{clash, by_test}
use Rattle.conversion.specs.Channels.{Channel, latch_at}
use Rattle.device.specs.declared.Device.{Device}
use Rattle.device.specs.declared.Event.{Event}
use Rattle.pair.specs.declared.Bus.{Bus}
use Rattle.pair_laws.specs.Devices.{present_of}
use Rattle.capture.specs.declared.Reader.{Reader}
use Rattle.capture.specs.Whole.{whole_of}
use Rattle.capture_laws.specs.Events.{events_of, bus_in}
use Rattle.capture_laws.proofs.Stepping.{step_by_step}
use Rattle.history.specs.Account.{Account, Owner, start_of, account_from, owner_in, account_of, on_bus}
use Rattle.history.specs.Verdict.{SetBy}
use Rattle.history.specs.Latches.{Accepted, record_count, header_bytes, state_after, Tells, in_force_of, device_in, sensed_in, latch_in, FeedsTo}
use Rattle.history.proofs.Verdicts.{verdict}
use Rattle.history.proofs.Follows.{Follows}
use Rattle.history.proofs.Rows.{of_bytes}
use Rattle.history.proofs.Fronts.{header, front_variants, front_bus, front_events, bus_devices}
use Rattle.history.proofs.Feeding.{fed_state}

-- a device that follows an account: its latch, and the verdict
by_account : {o : Owner} {d : Device} {a : Account} → Follows o d a → (ch : Channel) → (latch_at ch d.sensed ≡ true) ↔ SetBy ch a.taken
by_account {a = a} f ch =
    let v = verdict ch a.taken in
    (λ e. v.0 (sym (f.sensed.latch ch) ∙ e), λ s. f.sensed.latch ch ∙ v.1 s)

-- ---- of any byte string

pub history_of_bytes : (xs : List ℕ) (second : Bool) → present_of (bus_in xs) second ≡ true → (ch : Channel)
    → (latch_in (whole_of xs).reader second ch ≡ true)
    ↔ SetBy ch (account_from (owner_in xs second) 1 (start_of (owner_in xs second).variant) (events_of xs)).taken
history_of_bytes xs second here ch = by_account (of_bytes xs second here) ch

-- ---- of an accepted capture, after its header and any bytes behind it

module _ (xs : List ℕ) (accepted : Accepted xs) (second : Bool) (there : on_bus xs second ≡ true) where
  here : (m : ℕ) → present_of (bus_in (take (header_bytes xs + m) xs)) second ≡ true
  here m =
      ap (λ (p : Bus). present_of p second) (front_bus (header xs accepted) m)
      ∙ ap (λ (n : ℕ). not second || eqb n 2) (bus_devices (header xs accepted))
      ∙ there

  follows_front : (m : ℕ) → Follows (owner_in xs second) (device_in (whole_of (take (header_bytes xs + m) xs)).reader second) (account_of xs second (m / 4))
  unfolding account_of
  follows_front m =
      let h = header xs accepted in
      let ys = take (header_bytes xs + m) xs in
      let d = device_in (whole_of ys).reader second in
      let o = owner_in xs second in
      subst (λ (es : List Event). Follows o d (account_from o 1 (start_of o.variant) es)) (front_events h m)
      (subst (λ (vs : List ℕ). Follows (by vs) d (account_from (by vs) 1 (start_of (by vs).variant) (events_of ys))) (front_variants h m)
      (of_bytes ys second (here m)))
    where
      by : List ℕ → Owner
      by vs = record { second = second; variant = get_or vs (cond second 1 0) 0 }

  -- the account of as many records as are done
  done_account : (m : ℕ) → account_of xs second (whole_of (take (header_bytes xs + m) xs)).reader.done ≡ account_of xs second (m / 4)
  unfolding account_of
  done_account m =
      let done : (whole_of (take (header_bytes xs + m) xs)).reader.done ≡ length (take (m / 4) (events_of xs)) =
      (step_by_step (take (header_bytes xs + m) xs)).done ∙ ap length (front_events (header xs accepted) m) in
      ap (λ (es : List Event). account_from (owner_in xs second) 1 (start_of (owner_in xs second).variant) es)
      (ap (λ (k : ℕ). take k (events_of xs)) done ∙ take_own (m / 4) (events_of xs))
    where
      take_own : (k : ℕ) (es : List Event) → take (length (take k es)) es ≡ take k es
      take_own zero es = refl
      take_own (suc k) [] = refl
      take_own (suc k) (e ∷ es) = ap (λ (rest : List Event). e ∷ rest) (take_own k es)

  -- the state that feeding bytes of it leaves, wherever they end behind the header
  follows_fed : (bytes rest : List ℕ) {s : Reader} → xs ≡ bytes ++ rest → header_bytes xs ≤ length bytes → FeedsTo bytes s
      → Follows (owner_in xs second) (device_in s second) (account_of xs second s.done)
  follows_fed bytes rest {s} whole long f =
      let m = length bytes - header_bytes xs in
      let n : header_bytes xs + m ≡ length bytes = omega (arith, long) in
      let ys : take (header_bytes xs + m) xs ≡ bytes = ap (λ (j : ℕ). take j xs) n ∙ ap (take (length bytes)) whole ∙ take-append_seam bytes rest in
      let state : (whole_of (take (header_bytes xs + m) xs)).reader ≡ s = ap (λ (l : List ℕ). (whole_of l).reader) ys ∙ sym (fed_state f) in
      subst (λ (t : Reader). Follows (owner_in xs second) (device_in t second) (account_of xs second t.done)) state
      (subst (Follows (owner_in xs second) (device_in (whole_of (take (header_bytes xs + m) xs)).reader second)) (sym (done_account m)) (follows_front m))

  pub follows : (k : ℕ) → Follows (owner_in xs second) (device_in (state_after xs k) second) (account_of xs second k)
  follows k =
      let whole : k * 4 / 4 ≡ k = omega arith in
      subst (λ (j : ℕ). Follows (owner_in xs second) (device_in (state_after xs k) second) (account_of xs second j)) whole (follows_front (k * 4))

-- ---- the theorem

-- after k records; `second` false is the first or only device
pub history : (xs : List ℕ) → Accepted xs → (k : ℕ) → k ≤ record_count xs → (second : Bool) → on_bus xs second ≡ true → (ch : Channel)
    → (latch_in (state_after xs k) second ch ≡ true) ↔ SetBy ch (account_of xs second k).taken
history xs accepted k few second there ch = by_account (follows xs accepted second there k) ch

-- and clear exactly if not
pub history_clear : (xs : List ℕ) → Accepted xs → (k : ℕ) → k ≤ record_count xs → (second : Bool) → on_bus xs second ≡ true → (ch : Channel)
    → (latch_in (state_after xs k) second ch ≡ false) ↔ (SetBy ch (account_of xs second k).taken → ⊥)
history_clear xs accepted k few second there ch =
    let h = history xs accepted k few second there ch in
    (λ e s. clash (sym e ∙ h.1 s), λ n. by_test (latch_in (state_after xs k) second ch) (λ e. absurd (n (h.0 e))) (λ e. e))

pub history_fed : (xs : List ℕ) → Accepted xs → (bytes rest : List ℕ) (s : Reader) → xs ≡ bytes ++ rest → header_bytes xs ≤ length bytes → FeedsTo bytes s
    → (second : Bool) → on_bus xs second ≡ true → (ch : Channel) → (latch_in s second ch ≡ true) ↔ SetBy ch (account_of xs second s.done).taken
history_fed xs accepted bytes rest s whole long fed second there ch = by_account (follows_fed xs accepted second there bytes rest whole long fed) ch

-- ---- what else the account tells of that state

pub in_force_lem : (xs : List ℕ) → Accepted xs → (k : ℕ) → k ≤ record_count xs → (second : Bool) → on_bus xs second ≡ true
    → in_force_of (device_in (state_after xs k) second) ≡ (account_of xs second k).in_force
in_force_lem xs accepted k few second there = (follows xs accepted second there k).in_force

pub tells : (xs : List ℕ) → Accepted xs → (k : ℕ) → k ≤ record_count xs → (second : Bool) → on_bus xs second ≡ true
    → Tells (account_of xs second k).taken (sensed_in (state_after xs k) second)
tells xs accepted k few second there = (follows xs accepted second there k).sensed
