-- `verdict`: what is computed of an account is what request e says: some taken conversion made the bit live, and none after it read below.
-- `latching`: a conversion more moves it as P8 moves a latch.
-- Assumes nothing.
use mathlib.Core.Path.{◌≡◌, refl, ap}
use mathlib.Core.Logic.{◌↔◌}
use mathlib.Core.Bool.{Bool, true, false, not, ◌||◌, ◌&&◌}
use mathlib.Core.List.{List, [], ◌∷◌, ◌++◌}
use Rattle.laws.proofs.Choices.{clash}
use Rattle.conversion.specs.Conversion.{latch_of}
use Rattle.conversion.specs.Channels.{Channel}
use Rattle.history.specs.Account.{Taken}
use Rattle.history.specs.Verdict.{live_at, below_at, NoneBelow, SetBy, verdict_of}

module _ (ch : Channel) where
  -- one conversion more, which did not read below
  onward : (t : Taken) (ts : List Taken) → below_at ch t ≡ false → SetBy ch ts → SetBy ch (t ∷ ts)
  onward t ts b s =
      record {
        later = t ∷ s.later;
        by = s.by;
        earlier = s.earlier;
        parts = ap (λ (l : List Taken). t ∷ l) s.parts;
        live = s.live;
        none_below = (b, s.none_below);
      }

  set_by : (ts : List Taken) → verdict_of ch ts ≡ true → SetBy ch ts
  unfolding verdict_of
  set_by [] e = clash e
  set_by (t ∷ ts) e = split (live_at ch t) (below_at ch t) (set_by ts) refl refl e
    where
      split : (l b : Bool) → (verdict_of ch ts ≡ true → SetBy ch ts) → live_at ch t ≡ l → below_at ch t ≡ b → (l || (not b && verdict_of ch ts)) ≡ true
          → SetBy ch (t ∷ ts)
      split true b before p q r = record { later = []; by = t; earlier = ts; parts = refl; live = p; none_below = tt }
      split false true before p q r = clash r
      split false false before p q r = onward t ts q (before r)

  held : (later : List Taken) (t : Taken) (earlier : List Taken) → live_at ch t ≡ true → NoneBelow ch later → verdict_of ch (later ++ (t ∷ earlier)) ≡ true
  unfolding verdict_of
  held [] t earlier p n = rw p
  held (x ∷ later) t earlier p n = split (live_at ch x) (held later t earlier p n.1)
    where
      split : (l : Bool) → verdict_of ch (later ++ (t ∷ earlier)) ≡ true → (l || (not (below_at ch x) && verdict_of ch (later ++ (t ∷ earlier)))) ≡ true
      split true r = refl
      split false r = rw (n.0, r)

  pub verdict : (ts : List Taken) → (verdict_of ch ts ≡ true) ↔ SetBy ch ts
  verdict ts = (set_by ts, λ s. rw s.parts (held s.later s.by s.earlier s.live s.none_below))

  latched : (live below old : Bool) → latch_of live below old ≡ (live || (not below && old))
  unfolding latch_of
  latched true below old = refl
  latched false true old = refl
  latched false false old = refl

  pub latching : (t : Taken) (ts : List Taken) → latch_of (live_at ch t) (below_at ch t) (verdict_of ch ts) ≡ verdict_of ch (t ∷ ts)
  unfolding verdict_of
  latching t ts = latched (live_at ch t) (below_at ch t) (verdict_of ch ts)
