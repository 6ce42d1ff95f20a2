-- `listed`: of an accepted capture, the conversions that an account lists are, by number, those that the log alone tells: the device's conversions since
-- the last power-on whose answers have D3 set.
-- Assumes nothing.
use mathlib.Core.Path.{◌≡◌, refl, sym, ap, ◌∙◌}
use mathlib.Core.Bool.{Bool, true, false, not, cond, ◌&&◌}
use mathlib.Core.List.{List, ◌∷◌, map}
use Prim.Native.Nat.{ℕ, zero, suc, ◌+◌, ◌≤◌}
use native.Mathlib.Omega.{arith}
use lib.IntN.{ℤ}
use Rattle.laws.proofs.Choices.{by_test, clash}
use Rattle.device.specs.declared.Event.{Event}
use Rattle.device.specs.declared.Event.TheVariants.{Write, Read, Send, Receive, Convert, Open, PowerOn, ConvertSecond, OpenSecond}
use Rattle.pair_laws.specs.Devices.{conversion_of, is_power_on}
use Rattle.history.specs.Account.{Taken, Account, Owner, start_of, is_taken, taken_as, with_taken, convert_in, noted_of, account_from}
use Rattle.history.specs.Account.{owner_in, account_of, on_bus}
use Rattle.history.specs.Latches.{Accepted, record_count, d3_at, listed_by, listed_next, listed_after}
use Rattle.history.proofs.Answers.{some_record, taken_bit}
use Rattle.history.proofs.Quiet.{noted_stays, one_more}

-- ---- one record

abbrev numbers : List Taken → List ℕ
numbers = map (λ (t : Taken). t.number)

module _ (o : Owner) (number : ℕ) (a : Account) where
  abbrev before : List ℕ
  before = numbers a.taken

  abbrev Listed : Event → Type 0
  Listed e = numbers (noted_of o number a e).taken ≡ listed_by o.second number (is_taken a.in_force) before e

  converts : (local : ℕ) (remote : ℤ) → numbers (convert_in number a local remote).taken ≡ cond (is_taken a.in_force) (number ∷ before) before
  unfolding convert_in
  converts local remote = split (is_taken a.in_force)
    where
      split : (t : Bool) → numbers (cond t (with_taken a (taken_as number a.in_force local remote)) a).taken ≡ cond t (number ∷ before) before
      split true = refl
      split false = refl

  -- a conversion of the device: what is listed by it
  told : (c : Bool) → c ≡ true → cond (c && is_taken a.in_force) (number ∷ before) before ≡ cond (is_taken a.in_force) (number ∷ before) before
  told c h = ap (λ (t : Bool). cond (t && is_taken a.in_force) (number ∷ before) before) h

  of_first : (s : Bool) (b : Account) → not s ≡ true → numbers (cond s a b).taken ≡ numbers b.taken
  of_first true b h = clash h
  of_first false b h = refl

  of_second : (s : Bool) (b : Account) → s ≡ true → numbers (cond s b a).taken ≡ numbers b.taken
  of_second true b h = refl
  of_second false b h = clash h

  own : (e : Event) → conversion_of o.second e ≡ true → Listed e
  unfolding noted_of
  own (Write x w v) c = clash c
  own (Read x r) c = clash c
  own (Send x r) c = clash c
  own (Receive x) c = clash c
  own (Convert local high low) c = of_first o.second _ c ∙ converts local _ ∙ sym (told _ c)
  own (Open local) c = of_first o.second _ c ∙ converts local _ ∙ sym (told _ c)
  own PowerOn c = clash c
  own (ConvertSecond local high low) c = of_second o.second _ c ∙ converts local _ ∙ sym (told _ c)
  own (OpenSecond local) c = of_second o.second _ c ∙ converts local _ ∙ sym (told _ c)

  -- neither a conversion of the device nor a power-on
  quiet : (e : Event) → is_power_on e ≡ false → conversion_of o.second e ≡ false → Listed e
  quiet e p c = ap numbers (noted_stays o number a e (rw (c, p))) ∙ rw (p, c)

  anew : (e : Event) → is_power_on e ≡ true → Listed e
  unfolding noted_of start_of
  anew (Write x w v) p = clash p
  anew (Read x r) p = clash p
  anew (Send x r) p = clash p
  anew (Receive x) p = clash p
  anew (Convert local high low) p = clash p
  anew (Open local) p = clash p
  anew PowerOn p = refl
  anew (ConvertSecond local high low) p = clash p
  anew (OpenSecond local) p = clash p

  noted : (e : Event) → Listed e
  noted e =
      by_test (is_power_on e) (anew e)
      (λ p. by_test (conversion_of o.second e) (own e) (quiet e p))

-- by D3 as well as by the account, which agree on the device's conversions
by_either : (second : Bool) (number : ℕ) (t u : Bool) (l : List ℕ) (e : Event) → (conversion_of second e ≡ true → t ≡ u)
    → listed_by second number t l e ≡ listed_by second number u l e
by_either second number t u l e same =
    by_test (conversion_of second e)
    (λ c. ap (λ (taken : Bool). listed_by second number taken l e) (same c))
    (λ c. rw c)

-- ---- the records of a capture

pub listed : (xs : List ℕ) → Accepted xs → (k : ℕ) → k ≤ record_count xs → (second : Bool) → on_bus xs second ≡ true
    → map (λ (t : Taken). t.number) (account_of xs second k).taken ≡ listed_after xs second k
unfolding account_of account_from start_of
listed xs accepted zero few second there = refl
listed xs accepted (suc k) few second there =
    let r = some_record xs accepted k few in
    let e = r.0 in
    let n = r.1 in
    let a = account_of xs second k in
    let one : 1 + k ≡ suc k = omega arith in
    ap (λ (b : Account). numbers b.taken) (one_more xs second k n)
    ∙ noted (owner_in xs second) (1 + k) a e
    ∙ ap (λ (m : ℕ). listed_by second m (is_taken a.in_force) (numbers a.taken) e) one
    ∙ ap (λ (l : List ℕ). listed_by second (suc k) (is_taken a.in_force) l e) (listed xs accepted k (omega arith) second there)
    ∙ by_either second (suc k) (is_taken a.in_force) (d3_at xs k) (listed_after xs second k) e (λ c. sym (taken_bit xs accepted k few second there n c))
    ∙ ap (listed_next second (suc k) (d3_at xs k) (listed_after xs second k)) (sym n.is)
