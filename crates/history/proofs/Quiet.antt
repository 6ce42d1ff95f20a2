-- Request e, what may move a verdict. `conversions_stay`: a record that is neither a conversion of the device nor a power-on leaves the conversions
-- that its account lists, and so `verdict_stays` and, in an accepted capture, `latch_stays`. `reads_leave`: a read, a send or a receive, a status read
-- among them, leaves the whole account, and so does a conversion that is not taken, `untaken_leaves`. `power_on_forgets`: after a power-on the account is
-- that of a device at power-on, and `forgotten`: what came before it bears on nothing after it.
-- Assumes nothing.
use mathlib.Core.Path.{◌≡◌, refl, sym, ap, ◌∙◌}
use mathlib.Core.Bool.{Bool, true, false, not, cond, or-false}
use mathlib.Core.List.{List, [], ◌∷◌, ◌++◌}
use Prim.Native.Nat.{ℕ, suc, ◌+◌, ◌≤◌}
use native.Mathlib.Omega.{arith}
use native.Mathlib.Nat.{add-zero}
use lib.Dec.{eqb}
use lib.ListN.{length}
use Rattle.laws.proofs.Choices.{cond_ind, clash}
use Rattle.registers.specs.Page.{writable_of, one_shot, address_of}
use Rattle.conversion.specs.Channels.{Channel}
use Rattle.device.specs.declared.Event.{Event}
use Rattle.device.specs.declared.Event.TheVariants.{Write, Read, Send, Receive, Convert, Open, PowerOn, ConvertSecond, OpenSecond}
use Rattle.pair_laws.specs.Devices.{conversion_of}
use Rattle.capture_laws.specs.Events.{events_of}
use Rattle.history.specs.Account.{Account, Owner, start_of, store_in, ask_in, write_in, is_taken, convert_in, noted_of, account_from}
use Rattle.history.specs.Account.{owner_in, account_of, on_bus}
use Rattle.history.specs.Verdict.{verdict_of, verdict_after, may_move, reads_or_sends, Next}
use Rattle.history.specs.Latches.{Accepted, record_count, state_after, latch_in}
use Rattle.history.proofs.Rows.{next}
use Rattle.history.proofs.History.{follows}

-- ---- one record, in any account

module _ (o : Owner) (number : ℕ) (a : Account) where
  abbrev Same : Account → Type 0
  Same b = b.taken ≡ a.taken

  same_either : (t : Bool) → cond t a a ≡ a
  same_either true = refl
  same_either false = refl

  pub write_stays : (w v : ℕ) → Same (write_in a w v)
  unfolding write_in ask_in store_in
  write_stays w v = cond_ind Same (writable_of w) (λ _. cond_ind Same (eqb w one_shot) (λ _. refl) (λ _. refl)) (λ _. refl)

  first : (second : Bool) (b : Account) → not second ≡ false → Same (cond second a b)
  first true b h = refl
  first false b h = clash (sym h)

  second : (second : Bool) (b : Account) → second ≡ false → Same (cond second b a)
  second true b h = clash (sym h)
  second false b h = refl

  pub noted_stays : (e : Event) → may_move o.second e ≡ false → Same (noted_of o number a e)
  unfolding noted_of
  noted_stays (Write x w v) h = cond_ind Same (eqb x (address_of o.variant)) (λ _. write_stays w v) (λ _. refl)
  noted_stays (Read x r) h = refl
  noted_stays (Send x r) h = refl
  noted_stays (Receive x) h = refl
  noted_stays (Convert local high low) h = first o.second _ (sym (or-false _) ∙ h)
  noted_stays (Open local) h = first o.second _ (sym (or-false _) ∙ h)
  noted_stays PowerOn h = clash (sym h)
  noted_stays (ConvertSecond local high low) h = second o.second _ (sym (or-false _) ∙ h)
  noted_stays (OpenSecond local) h = second o.second _ (sym (or-false _) ∙ h)

  read_leaves : (e : Event) → reads_or_sends e ≡ true → noted_of o number a e ≡ a
  unfolding noted_of
  read_leaves (Write x w v) h = clash h
  read_leaves (Read x r) h = refl
  read_leaves (Send x r) h = refl
  read_leaves (Receive x) h = refl
  read_leaves (Convert local high low) h = clash h
  read_leaves (Open local) h = clash h
  read_leaves PowerOn h = clash h
  read_leaves (ConvertSecond local high low) h = clash h
  read_leaves (OpenSecond local) h = clash h

  untaken : (e : Event) → conversion_of o.second e ≡ true → is_taken a.in_force ≡ false → noted_of o number a e ≡ a
  unfolding noted_of convert_in
  untaken (Write x w v) c h = clash c
  untaken (Read x r) c h = clash c
  untaken (Send x r) c h = clash c
  untaken (Receive x) c h = clash c
  untaken (Convert local high low) c h = rw h (same_either o.second)
  untaken (Open local) c h = rw h (same_either o.second)
  untaken PowerOn c h = clash c
  untaken (ConvertSecond local high low) c h = rw h (same_either o.second)
  untaken (OpenSecond local) c h = rw h (same_either o.second)

-- what came before a power-on
pub forgotten : (o : Owner) (number : ℕ) (a : Account) (before es : List Event)
    → account_from o number a (before ++ (PowerOn ∷ es)) ≡ account_from o (number + length before + 1) (start_of o.variant) es
unfolding account_from noted_of
forgotten o number a [] es = rw (add-zero number)
forgotten o number a (e ∷ before) es =
    let n : number + 1 + length before + 1 ≡ number + length (e ∷ before) + 1 = omega arith in
    forgotten o (number + 1) (noted_of o number a e) before es ∙ rw n

-- ---- one record of a capture

module _ (xs : List ℕ) (second : Bool) (k : ℕ) {e : Event} (n : Next xs k e) where
  pub one_more : account_of xs second (suc k) ≡ noted_of (owner_in xs second) (1 + k) (account_of xs second k) e
  unfolding account_of
  one_more = next (owner_in xs second) k 1 (start_of (owner_in xs second).variant) (events_of xs) e n.rest n.is

  pub conversions_stay : may_move second e ≡ false → (account_of xs second (suc k)).taken ≡ (account_of xs second k).taken
  conversions_stay h = ap (λ (a : Account). a.taken) one_more ∙ noted_stays (owner_in xs second) (1 + k) (account_of xs second k) e h

  pub verdict_stays : may_move second e ≡ false → (ch : Channel) → verdict_after xs second (suc k) ch ≡ verdict_after xs second k ch
  verdict_stays h ch = ap (verdict_of ch) (conversions_stay h)

  pub reads_leave : reads_or_sends e ≡ true → account_of xs second (suc k) ≡ account_of xs second k
  reads_leave h = one_more ∙ read_leaves (owner_in xs second) (1 + k) (account_of xs second k) e h

  -- P11: a conversion that is not taken
  pub untaken_leaves : conversion_of second e ≡ true → is_taken (account_of xs second k).in_force ≡ false
      → account_of xs second (suc k) ≡ account_of xs second k
  untaken_leaves c h = one_more ∙ untaken (owner_in xs second) (1 + k) (account_of xs second k) e c h

  pub latch_stays : Accepted xs → suc k ≤ record_count xs → on_bus xs second ≡ true → may_move second e ≡ false
      → (ch : Channel) → latch_in (state_after xs (suc k)) second ch ≡ latch_in (state_after xs k) second ch
  latch_stays accepted few there h ch =
      (follows xs accepted second there (suc k)).sensed.latch ch
      ∙ verdict_stays h ch
      ∙ sym ((follows xs accepted second there k).sensed.latch ch)

pub power_on_forgets : (xs : List ℕ) (second : Bool) (k : ℕ) → Next xs k PowerOn → account_of xs second (suc k) ≡ start_of (owner_in xs second).variant
unfolding noted_of
power_on_forgets xs second k n = one_more xs second k n
