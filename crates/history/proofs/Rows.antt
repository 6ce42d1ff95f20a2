-- Over the events of any byte string. `of_bytes`: each device that a capture puts on its bus, as the whole-capture definition leaves it, follows the
-- account of all its events. `next`: a record more, in the account.
-- Assumes nothing.
use mathlib.Core.Path.{◌≡◌, refl, sym, ap, subst, ◌∙◌}
use mathlib.Core.Bool.{Bool, true, false, not, cond, ◌||◌, ◌&&◌}
use mathlib.Core.List.{List, [], ◌∷◌}
use Prim.Native.Nat.{ℕ, zero, suc, ◌+◌}
use native.Mathlib.Omega.{arith}
use native.Mathlib.Nat.{add-zero}
use lib.Dec.{eqb}
use lib.ListN.{length, get_or, take, drop}
use Rattle.laws.proofs.Choices.{by_test, and_left, clash}
use Rattle.device.specs.declared.Device.{Device}
use Rattle.device.specs.declared.Event.{Event}
use Rattle.device.specs.Bus.{powered_of}
use Rattle.device.specs.Ranges.{variant_of, ranged_of, operands_of, second_of}
use Rattle.device.specs.Step.{effect_of, refused_of, stepped_of, step_of}
use Rattle.device.specs.Run.{replies_of, after_of}
use Rattle.device.proofs.Steps.{powered_zero}
use Rattle.pair.specs.declared.Bus.{Bus}
use Rattle.pair.specs.Bus.{picked_of, names_of, bus_effect_of}
use Rattle.pair_laws.specs.Devices.{present_of, conversion_of, is_alert_response, is_named}
use Rattle.pair_laws.specs.Seen.{sees_of, as_alone}
use Rattle.pair_laws.specs.Stepping.{AllStepped, seen_in}
use Rattle.pair_laws.proofs.EachAlone.{as_alone_lem}
use Rattle.capture.specs.Whole.{whole_of}
use Rattle.capture_laws.specs.Events.{events_of, second_in, variants_in, bus_of, bus_in}
use Rattle.capture_laws.proofs.Stepping.{step_by_step}
use Rattle.history.specs.Account.{Account, Owner, start_of, noted_of, account_from, owner_in}
use Rattle.history.proofs.Negation.{not_true}
use Rattle.history.proofs.Follows.{Follows, begins, own_record, unnoted}

-- ---- a step with code 0 is the effect

stepped : (d : Device) (e : Event) → (step_of d e).code ≡ 0 → (step_of d e).device ≡ (effect_of d e).device
unfolding step_of
stepped d e = split (variant_of d.variant && ranged_of d) (second_of e) (operands_of e)
  where
    split : (s t u : Bool) → (cond s (cond t (refused_of d 3) (cond u (stepped_of (effect_of d e)) (refused_of d 4))) (refused_of d 8)).code ≡ 0
        → (cond s (cond t (refused_of d 3) (cond u (stepped_of (effect_of d e)) (refused_of d 4))) (refused_of d 8)).device ≡ (effect_of d e).device
    split true true u z = absurd (omega arith)
    split true false true z = refl
    split true false false z = absurd (omega arith)
    split false t u z = absurd (omega arith)

-- ---- what a device of a bus sees, and what its account notes

unseen : (other response named : Bool) → (not other && (not response || named)) ≡ false → (other || response) ≡ true
unseen true response named h = refl
unseen false true named h = refl
unseen false false named h = clash (sym h)

module _ (second : Bool) (variant : ℕ) where
  abbrev owner : Owner
  owner = record { second = second; variant = variant }

  seen_row : (p : Bus) (es : List Event) (number : ℕ) (d : Device) (a : Account) → Follows owner d a → AllStepped (replies_of d (seen_in p second es))
      → Follows owner (after_of d (seen_in p second es)) (account_from owner number a es)
  unfolding account_from
  seen_row p [] number d a f c = f
  seen_row p (e ∷ es) number d a f c =
      split (sees_of p second e) refl c
      (λ n b g k. seen_row (bus_effect_of p e).bus es (number + 1) n b g k)
    where
      rest : List Event
      rest = seen_in (bus_effect_of p e).bus second es

      Rest : Type 0
      Rest =
          (n : Device) (b : Account) → Follows owner n b → AllStepped (replies_of n rest)
          → Follows owner (after_of n rest) (account_from owner (number + 1) b es)

      split : (sees : Bool) → sees_of p second e ≡ sees → AllStepped (replies_of d (cond sees (as_alone e ∷ rest) rest)) → Rest
          → Follows owner (after_of d (cond sees (as_alone e ∷ rest) rest)) (account_from owner (number + 1) (noted_of owner number a e) es)
      split true s c more =
          let one : (step_of d (as_alone e)).device ≡ (effect_of d e).device = stepped d (as_alone e) c.0 ∙ ap (λ o. o.device) (as_alone_lem d e) in
          let mine = not_true (conversion_of (not second) e) (and_left _ (not (is_alert_response e) || is_named (names_of p e) second) s) in
          more (step_of d (as_alone e)).device (noted_of owner number a e)
          (subst (λ (n : Device). Follows owner n (noted_of owner number a e)) (sym one) (own_record owner number f e mine)) c.1
      split false s c more =
          let skipped = unnoted owner number a e (unseen (conversion_of (not second) e) (is_alert_response e) (is_named (names_of p e) second) s) in
          more d (noted_of owner number a e) (subst (Follows owner d) (sym skipped) f) c

-- ---- at the variant bytes

-- no variant taken: all zeros, as after a power-on of no variant
starts_of : (devices : ℕ) (vs : List ℕ) (second : Bool) → picked_of (bus_of devices vs) second ≡ powered_of (get_or vs (cond second 1 0) 0)
starts_of devices [] true = sym powered_zero
starts_of devices [] false = sym powered_zero
starts_of devices (v ∷ []) true = sym powered_zero
starts_of devices (v ∷ []) false = refl
starts_of devices (v ∷ w ∷ vs) true = refl
starts_of devices (v ∷ w ∷ vs) false = refl

starts : (xs : List ℕ) (second : Bool) → picked_of (bus_in xs) second ≡ powered_of (owner_in xs second).variant
unfolding bus_in variants_in
starts [] true = sym powered_zero
starts [] false = sym powered_zero
starts (n ∷ []) second = by_test (eqb n 1 || eqb n 2) (λ t. rw t (starts_of n [] second)) (λ t. rw t (starts_of 0 [] second))
starts (n ∷ v ∷ xs) second =
    by_test (eqb n 1 || eqb n 2)
    (λ t. rw t (starts_of n (cond (variant_of v) (v ∷ cond (eqb n 2) (second_in v xs) []) []) second))
    (λ t. rw t (starts_of 0 [] second))

pub of_bytes : (xs : List ℕ) (second : Bool) → present_of (bus_in xs) second ≡ true
    → Follows (owner_in xs second) (picked_of (whole_of xs).reader.bus second)
    (account_from (owner_in xs second) 1 (start_of (owner_in xs second).variant) (events_of xs))
of_bytes xs second here =
    let o = owner_in xs second in
    let s = (step_by_step xs).each second here in
    let f : Follows o (picked_of (bus_in xs) second) (start_of o.variant) =
    subst (λ (d : Device). Follows o d (start_of o.variant)) (sym (starts xs second)) (begins o 0) in
    subst (λ (d : Device). Follows o d (account_from o 1 (start_of o.variant) (events_of xs))) (sym s.device)
    (seen_row second o.variant (bus_in xs) (events_of xs) 1 (picked_of (bus_in xs) second) (start_of o.variant) f s.codes)

-- ---- one record more

pub next : (o : Owner) (k number : ℕ) (a : Account) (es : List Event) (e : Event) (rest : List Event) → drop k es ≡ e ∷ rest
    → account_from o number a (take (suc k) es) ≡ noted_of o (number + k) (account_from o number a (take k es)) e
unfolding account_from
next o zero number a [] e rest h = absurd (omega (arith, ap length h))
next o zero number a (x ∷ es) e rest h = rw (add-zero number) (ap (noted_of o number a) (ap (λ l. get_or l 0 e) h))
next o (suc k) number a [] e rest h = absurd (omega (arith, ap length h))
next o (suc k) number a (x ∷ es) e rest h =
    let n : number + 1 + k ≡ number + suc k = omega arith in
    rw (← n) (next o k (number + 1) (noted_of o number a x) es e rest h)
