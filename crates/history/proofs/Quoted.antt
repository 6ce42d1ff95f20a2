-- How the theorems are quoted, of document 01's listing. `quoted`: after record 6 the remote latch is set, because the conversion of record 3 read 85.125,
-- above 85, and the only one taken after it, of record 6, read 80.000, which is not below 85 less 5. `quoted_pin`: so D1 of that record's answer is set,
-- for the remote mask is 0. `quoted_clear`: after record 7 the latch is clear, for that conversion read 79.875.
-- Assumes nothing.
use mathlib.Core.Path.{◌≡◌, refl}
use mathlib.Core.Bool.{true, false}
use mathlib.Core.List.{List, [], ◌∷◌}
use Prim.Native.Nat.{ℕ}
use native.Mathlib.Omega.{arith}
use lib.IntN.{pos}
use Rattle.laws.proofs.Choices.{clash}
use Rattle.conversion.specs.Channels.{remote_channel}
use Rattle.capture.specs.Opened.{capture_opened}
use Rattle.history.specs.Account.{Taken, account_of}
use Rattle.history.specs.Verdict.{SetBy}
use Rattle.history.specs.Latches.{Accepted, state_after, d1_at, latch_in}
use Rattle.history.specs.Opened.{history_opened}
use Rattle.history.specs.Examples.{one_of, listing}
use Rattle.history.proofs.Verdicts.{verdict}
use Rattle.history.proofs.History.{history, history_clear}
use Rattle.history.proofs.Pin.{pin_exactly}

-- the fourteen bytes in force with this hysteresis: 03 to 08, 11 to 14, 19 to 21, BF
abbrev in_force : ℕ → List ℕ
in_force hysteresis = 0 ∷ 8 ∷ 70 ∷ 0 ∷ 127 ∷ 0 ∷ 0 ∷ 0 ∷ 0 ∷ 0 ∷ 85 ∷ 85 ∷ hysteresis ∷ 0 ∷ []

third : Taken
third = record { number = 3; local = pos 200; remote = pos 681; settings = in_force 10; faults = 1 }

sixth : Taken
sixth = record { number = 6; local = pos 200; remote = pos 640; settings = in_force 5; faults = 0 }

listing_accepted : Accepted (one_of listing)
unfolding capture_opened
listing_accepted = record { code = refl; finishing = refl }

-- the argument
pub argued : SetBy remote_channel (account_of (one_of listing) false 6).taken
unfolding history_opened third sixth
argued = record { later = sixth ∷ []; by = third; earlier = []; parts = refl; live = refl; none_below = (refl, tt) }

pub quoted : latch_in (state_after (one_of listing) 6) false remote_channel ≡ true
quoted = (history (one_of listing) listing_accepted 6 (omega arith) false refl remote_channel).1 argued

pub quoted_pin : d1_at (one_of listing) 5 ≡ true
unfolding history_opened
quoted_pin =
    (pin_exactly (one_of listing) listing_accepted 5 (omega arith)).1
    (record { second = false; there = refl; channel = remote_channel; set = argued; unmasked = refl })

pub quoted_clear : latch_in (state_after (one_of listing) 7) false remote_channel ≡ false
unfolding history_opened
quoted_clear = (history_clear (one_of listing) listing_accepted 7 (omega arith) false refl remote_channel).1 (λ s. clash ((verdict remote_channel _).1 s))
