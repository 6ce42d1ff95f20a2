-- `each_listed`: every conversion that an account lists is listed with the settings in force before its record and the fault count behind it, which
-- are the device's (`History.antt: in_force`).
-- Assumes nothing.
use mathlib.Core.Path.{◌≡◌, refl, sym, subst, ◌∙◌}
use mathlib.Core.Bool.{Bool, true, false, cond}
use mathlib.Core.List.{List, [], ◌∷◌}
use Prim.Native.Nat.{ℕ, zero, suc, ◌+◌, ◌≤◌}
use native.Mathlib.Omega.{arith}
use lib.IntN.{ℤ}
use lib.Dec.{eqb}
use Rattle.laws.proofs.Choices.{cond_ind}
use Rattle.registers.specs.Page.{address_of}
use Rattle.device.specs.declared.Event.{Event}
use Rattle.device.specs.declared.Event.TheVariants.{Write, Read, Send, Receive, Convert, Open, PowerOn, ConvertSecond, OpenSecond}
use Rattle.history.specs.Account.{Taken, Account, Owner, start_of, is_taken, taken_as, convert_in, noted_of, account_from, owner_in, account_of}
use Rattle.history.specs.Latches.{Accepted, record_count, EachListed}
use Rattle.history.proofs.Answers.{some_record}
use Rattle.history.proofs.Quiet.{write_stays, one_more}

-- ---- one record, in any account

data Change (number : ℕ) (a b : Account) : Type 0 where
  same : b.taken ≡ a.taken → Change number a b
  anew : b.taken ≡ [] → Change number a b
  more : (t : Taken) → b.taken ≡ t ∷ a.taken → t.number ≡ number → is_taken a.in_force ≡ true → t.settings ≡ a.in_force.settings
      → t.faults ≡ b.in_force.faults → Change number a b

module _ (o : Owner) (number : ℕ) (a : Account) where
  converts : (local : ℕ) (remote : ℤ) → Change number a (convert_in number a local remote)
  unfolding convert_in
  converts local remote =
      cond_ind (Change number a) (is_taken a.in_force)
      (λ h. more (taken_as number a.in_force local remote) refl refl h refl refl)
      (λ _. same refl)

  either : (second : Bool) {b c : Account} → Change number a b → Change number a c → Change number a (cond second b c)
  either true f g = f
  either false f g = g

  change : (e : Event) → Change number a (noted_of o number a e)
  unfolding noted_of start_of
  change (Write x w v) = cond_ind (Change number a) (eqb x (address_of o.variant)) (λ _. same (write_stays o number a w v)) (λ _. same refl)
  change (Read x r) = same refl
  change (Send x r) = same refl
  change (Receive x) = same refl
  change (Convert local high low) = either o.second (same refl) (converts local _)
  change (Open local) = either o.second (same refl) (converts local _)
  change PowerOn = anew refl
  change (ConvertSecond local high low) = either o.second (converts local _) (same refl)
  change (OpenSecond local) = either o.second (converts local _) (same refl)

-- ---- the records of a capture

pub each_listed : (xs : List ℕ) → Accepted xs → (k : ℕ) → k ≤ record_count xs → (second : Bool) → EachListed xs second (account_of xs second k).taken
unfolding account_of account_from start_of
each_listed xs accepted zero few second = tt
each_listed xs accepted (suc k) few second =
    let r = some_record xs accepted k few in
    let is = one_more xs second k r.1 in
    go (subst (Change (1 + k) (account_of xs second k)) (sym is) (change (owner_in xs second) (1 + k) (account_of xs second k) r.0))
    (each_listed xs accepted k (omega arith) second)
  where
    go : Change (1 + k) (account_of xs second k) (account_of xs second (suc k)) → EachListed xs second (account_of xs second k).taken
        → EachListed xs second (account_of xs second (suc k)).taken
    go (same e) rest = subst (EachListed xs second) (sym e) rest
    go (anew e) rest = subst (EachListed xs second) (sym e) tt
    go (more t e n h s f) rest =
        let one : 1 + k ≡ suc k = omega arith in
        subst (EachListed xs second) (sym e) (record { before = k; number = n ∙ one; taken = h; settings = s; faults = f }, rest)
