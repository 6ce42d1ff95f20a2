-- Request b, of every sum: `held_tells`, a reading was held exactly if its sum is above 1023 or below -1024; `held_eighths`, the reading itself;
-- `held_not`, one that was not held is its sum; `held_high` and `held_low`, one that was is the end of the scale that its sum lies beyond; `held_other`,
-- and so it is not its sum.
-- Assumes nothing.
use mathlib.Core.Path.{◌≡◌, refl, sym, ◌∙◌}
use mathlib.Core.Bool.{true, false, cond, ◌||◌}
use lib.IntN.{ℤ, pos, negsuc, neg_ℤ}
use lib.Signed.{lt_z}
use Rattle.laws.proofs.Choices.{by_test, clash}
use Rattle.temperature.specs.Temperature.{held_of}

pub held_tells : (sum : ℤ) → (held_of sum).held ≡ (lt_z (pos 1023) sum || lt_z sum (neg_ℤ (pos 1024)))
unfolding held_of
held_tells sum =
    by_test (lt_z (pos 1023) sum) (λ over. rw over) (λ on. by_test (lt_z sum (neg_ℤ (pos 1024))) (λ under. rw (on, under)) (λ off. rw (on, off)))

-- P2: the sum held to -1024..1023
pub held_eighths : (sum : ℤ) → (held_of sum).eighths ≡ cond (lt_z (pos 1023) sum) (pos 1023) (cond (lt_z sum (neg_ℤ (pos 1024))) (neg_ℤ (pos 1024)) sum)
unfolding held_of
held_eighths sum =
    by_test (lt_z (pos 1023) sum) (λ over. rw over) (λ on. by_test (lt_z sum (neg_ℤ (pos 1024))) (λ under. rw (on, under)) (λ off. rw (on, off)))

pub held_not : (sum : ℤ) → (held_of sum).held ≡ false → (held_of sum).eighths ≡ sum
unfolding held_of
held_not sum h =
    by_test (lt_z (pos 1023) sum) (λ over. clash (sym h ∙ rw over))
    (λ on. by_test (lt_z sum (neg_ℤ (pos 1024))) (λ under. clash (sym h ∙ rw (on, under))) (λ off. rw (on, off)))

pub held_high : (sum : ℤ) → lt_z (pos 1023) sum ≡ true → (held_of sum).eighths ≡ pos 1023
unfolding held_of
held_high sum over = rw over

-- no sum lies beyond both ends
under_on : (sum : ℤ) → lt_z sum (neg_ℤ (pos 1024)) ≡ true → lt_z (pos 1023) sum ≡ false
under_on (pos n) under = clash under
under_on (negsuc n) under = refl

pub held_low : (sum : ℤ) → lt_z sum (neg_ℤ (pos 1024)) ≡ true → (held_of sum).eighths ≡ neg_ℤ (pos 1024)
unfolding held_of
held_low sum under = rw (under_on sum under, under)

pub held_other : (sum : ℤ) → (held_of sum).held ≡ true → (held_of sum).eighths ≡ sum → ⊥
unfolding held_of
held_other sum h same =
    by_test (lt_z (pos 1023) sum) (λ over. clash (rw (← same, held_high sum over) at over))
    (λ on. by_test (lt_z sum (neg_ℤ (pos 1024))) (λ under. clash (rw (← same, held_low sum under) at under)) (λ off. clash (rw (on, off) at h)))
