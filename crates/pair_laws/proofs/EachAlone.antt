-- Each device alone follows the one-device definition. `own_record`: a record of one device is that device's own. `each`: what the bus does of an
-- event is what its two devices do of it alone, each of what it sees. `device_alone`: over any row of events, either device stands as after the
-- one-device run over the events that it sees. `rows_together` and `answers_together`: the bus's outcomes and answers are those of the two
-- one-device runs, joined; `outcomes_alone`: such a run's outcomes are, where it sees the event, those of the one-device definition.
-- Assumes nothing.
use Prim.Native.Nat.{ℕ}
use mathlib.Core.Path.{◌≡◌, refl, ap, ◌∙◌}
use mathlib.Core.Bool.{Bool, true, false, not, ◌||◌, ◌&&◌, cond, or-false}
use mathlib.Core.List.{List, [], ◌∷◌, map}
use lib.Dec.{eqb}
use lib.Bits.{or_zero_l, or_zero_r}
use borrow.Author.Tests.{eqb-true}
use Rattle.laws.proofs.Choices.{by_test}
use Rattle.device.specs.declared.Device.{Device}
use Rattle.device.specs.declared.Outcome.{Outcome}
use Rattle.device.specs.declared.Event.{Event}
use Rattle.device.specs.declared.Event.TheVariants.{Write, Read, Send, Receive, Convert, Open, PowerOn, ConvertSecond, OpenSecond}
use Rattle.device.specs.Bus.{silent_of, responds_of, alert_response}
use Rattle.device.specs.Step.{effect_of}
use Rattle.device.proofs.Untouched.{elsewhere}
use Rattle.pair.specs.declared.Bus.{Bus}
use Rattle.pair.specs.declared.Named.{Named}
use Rattle.pair.specs.declared.Named.TheVariants.{Neither, First, Second}
use Rattle.pair.specs.Bus.{picked_of, first_address, second_address, at_address_of, respondent_of, among_of, names_of, Done, quiet_of, done_of, restarted_of}
use Rattle.pair.specs.Bus.{by_named, bus_effect_of, lines_of, bus_answer_of}
use Rattle.pair.proofs.Kept.{same_count}
use Rattle.pair_laws.specs.Devices.{Two, is_named, is_of}
use Rattle.pair_laws.specs.Seen.{as_alone, Sight, sight_of, does_of, together_of, bus_after, done_in, sights_of, device_after, outcomes_in, does_in}
use Rattle.pair_laws.specs.Seen.{where_seen, seen_of, together_in, Answer, answer_in, bus_answers, joined_answer, joined_answers}
use Rattle.pair_laws.proofs.TwoDevices.{still_two}
use Rattle.pair_laws.proofs.OtherStays.{of_device}

-- ---- one device does nothing

module _ (p : Bus) where
  join_first : (o : Outcome) → done_of p false o ≡ together_of p.devices o (silent_of p.second)
  join_first o = rw (or-false o.acknowledged, or-false o.taken, or-false o.held, or_zero_r o.byte)

  join_second : (o : Outcome) → done_of p true o ≡ together_of p.devices (silent_of p.first) o
  join_second o = rw (or_zero_l o.byte)

  join_none : quiet_of p ≡ together_of p.devices (silent_of p.first) (silent_of p.second)
  join_none = refl

  join_both : quiet_of (restarted_of p) ≡ together_of p.devices (effect_of p.first PowerOn) (effect_of p.second PowerOn)
  unfolding effect_of
  join_both = refl

-- ---- one event

-- 08 and 09 do what 05 and 06 do
pub as_alone_lem : (d : Device) (e : Event) → effect_of d (as_alone e) ≡ effect_of d e
unfolding effect_of
as_alone_lem d (Write a w v) = refl
as_alone_lem d (Read a r) = refl
as_alone_lem d (Send a r) = refl
as_alone_lem d (Receive a) = refl
as_alone_lem d (Convert local high low) = refl
as_alone_lem d (Open local) = refl
as_alone_lem d PowerOn = refl
as_alone_lem d (ConvertSecond local high low) = refl
as_alone_lem d (OpenSecond local) = refl

module _ {p : Bus} (t : Two p) where
  -- a record at an address
  at : (e : Event) (a : ℕ) → (eqb a (first_address p) ≡ false → effect_of p.first e ≡ silent_of p.first)
      → (eqb a (second_address p) ≡ false → effect_of p.second e ≡ silent_of p.second)
      → by_named p e (at_address_of p a) ≡ together_of p.devices (effect_of p.first e) (effect_of p.second e)
  at e a one two =
      by_test (eqb a (first_address p))
      (λ h.
      let other : eqb a (second_address p) ≡ false = rw (eqb-true a (first_address p) h) t.apart in
      rw (h, two other) (join_first p (effect_of p.first e)))
      (λ h. by_test (eqb a (second_address p))
      (λ k. rw (h, k, one h) (join_second p (effect_of p.second e)))
      (λ k. rw (h, k, one h, two k) (join_none p)))

  -- what a device does of an alert response, named or not
  abbrev heard : Named → Bool → Event → Outcome
  heard n second e = cond (is_named n second) (effect_of (picked_of p second) e) (silent_of (picked_of p second))

  alerted : (e : Event) (s r : Bool)
      → by_named p e (cond s First (cond r Second Neither))
      ≡ together_of p.devices (heard (cond s First (cond r Second Neither)) false e) (heard (cond s First (cond r Second Neither)) true e)
  alerted e true r = join_first p (effect_of p.first e)
  alerted e false true = join_second p (effect_of p.second e)
  alerted e false false = join_none p

  pub each : (e : Event) → bus_effect_of p e ≡ together_of p.devices (does_of p.first (sight_of p false e)) (does_of p.second (sight_of p true e))
  unfolding bus_effect_of names_of among_of respondent_of
  each (Write a w v) = rw t.two (at (Write a w v) a (elsewhere p.first (Write a w v)) (elsewhere p.second (Write a w v)))
  each (Read a r) = rw t.two (at (Read a r) a (elsewhere p.first (Read a r)) (elsewhere p.second (Read a r)))
  each (Send a r) = rw t.two (at (Send a r) a (elsewhere p.first (Send a r)) (elsewhere p.second (Send a r)))
  each (Receive a) =
      by_test (eqb a alert_response)
      (λ h. rw (t.two, h) (alerted (Receive a) (responds_of p.first && (not (responds_of p.second) || _)) (responds_of p.second)))
      (λ h. rw (t.two, h) (at (Receive a) a (λ k. elsewhere p.first (Receive a) (k, h)) (λ k. elsewhere p.second (Receive a) (k, h))))
  each (Convert local high low) = rw t.two (join_first p (effect_of p.first (Convert local high low)))
  each (Open local) = rw t.two (join_first p (effect_of p.first (Open local)))
  each PowerOn = rw t.two (join_both p)
  each (ConvertSecond local high low) =
      rw (t.two, as_alone_lem p.second (ConvertSecond local high low)) (join_second p (effect_of p.second (ConvertSecond local high low)))
  each (OpenSecond local) = rw (t.two, as_alone_lem p.second (OpenSecond local)) (join_second p (effect_of p.second (OpenSecond local)))

  -- a record of one device is that device's own, and nothing else
  pub own_record : (second : Bool) (e : Event) → is_of p second e ≡ true → bus_effect_of p e ≡ done_of p second (effect_of (picked_of p second) (as_alone e))
  unfolding bus_effect_of
  own_record true e h = rw (of_device t true e h, as_alone_lem p.second e)
  own_record false e h = rw (of_device t false e h, as_alone_lem p.first e)

  after : (second : Bool) (e : Event) → picked_of (bus_effect_of p e).bus second ≡ (does_of (picked_of p second) (sight_of p second e)).device
  after true e = ap (λ (o : Done). o.bus.second) (each e)
  after false e = ap (λ (o : Done). o.bus.first) (each e)

-- ---- a device alone, over what it sees

-- it goes by the events that it sees alone
seen_after : (ss : List Sight) (d : Device) (s : Sight) → device_after (does_of d s).device (seen_of ss) ≡ device_after d (seen_of (s ∷ ss))
seen_after ss d s = split s.seen
  where
    split : (b : Bool)
        → device_after (cond b (effect_of d s.event) (silent_of d)).device (seen_of ss) ≡ device_after d (cond b (s.event ∷ seen_of ss) (seen_of ss))
    split true = refl
    split false = refl

pub outcomes_alone : (d : Device) (ss : List Sight) → where_seen ss (does_in d ss) ≡ outcomes_in d (seen_of ss)
outcomes_alone d [] = refl
outcomes_alone d (s ∷ ss) = split s.seen (λ n. outcomes_alone n ss)
  where
    split : (b : Bool) → ((n : Device) → where_seen ss (does_in n ss) ≡ outcomes_in n (seen_of ss))
        → cond b (cond b (effect_of d s.event) (silent_of d) ∷ where_seen ss (does_in (cond b (effect_of d s.event) (silent_of d)).device ss))
        (where_seen ss (does_in (cond b (effect_of d s.event) (silent_of d)).device ss))
        ≡ outcomes_in d (cond b (s.event ∷ seen_of ss) (seen_of ss))
    split true more = ap (λ (os : List Outcome). effect_of d s.event ∷ os) (more (effect_of d s.event).device)
    split false more = more d

-- ---- rows of events

pub device_alone : {p : Bus} → Two p → (es : List Event) (second : Bool)
    → picked_of (bus_after p es) second ≡ device_after (picked_of p second) (seen_of (sights_of p second es))
device_alone {p} t [] second = refl
device_alone {p} t (e ∷ es) second =
    let rest = sights_of (bus_effect_of p e).bus second es in
    device_alone {p = (bus_effect_of p e).bus} (still_two t e) es second
    ∙ ap (λ (d : Device). device_after d (seen_of rest)) (after t second e)
    ∙ seen_after rest (picked_of p second) (sight_of p second e)

pub rows_together : {p : Bus} → Two p → (es : List Event)
    → done_in p es ≡ together_in p.devices (does_in p.first (sights_of p false es)) (does_in p.second (sights_of p true es))
rows_together {p} t [] = refl
rows_together {p} t (e ∷ es) =
    let q = (bus_effect_of p e).bus in
    let one = does_of p.first (sight_of p false e) in
    let other = does_of p.second (sight_of p true e) in
    let rest = rows_together {p = (bus_effect_of p e).bus} (still_two t e) es
    ∙ from (same_count p e) (after t false e) (after t true e) (sights_of q false es) (sights_of q true es) in
    ap (λ (os : List Done). bus_effect_of p e ∷ os) rest
    ∙ ap (λ (o : Done). o ∷ together_in p.devices (does_in one.device (sights_of q false es)) (does_in other.device (sights_of q true es))) (each t e)
  where
    from : {m n : ℕ} {c d f g : Device} → m ≡ n → c ≡ d → f ≡ g → (ss rs : List Sight)
        → together_in m (does_in c ss) (does_in f rs) ≡ together_in n (does_in d ss) (does_in g rs)
    from h k l ss rs = rw (h, k, l)

-- the answer of a bus of two
answer_together : (devices : ℕ) → eqb devices 2 ≡ true → (o q : Outcome) → answer_in (together_of devices o q) ≡ joined_answer o q
unfolding bus_answer_of lines_of
answer_together devices two o q = rw two

pub answers_together : {p : Bus} → Two p → (es : List Event)
    → bus_answers p es ≡ joined_answers (does_in p.first (sights_of p false es)) (does_in p.second (sights_of p true es))
answers_together {p} t es =
    ap (λ (os : List Done). map answer_in os) (rows_together t es)
    ∙ answered (does_in p.first (sights_of p false es)) (does_in p.second (sights_of p true es))
  where
    answered : (os qs : List Outcome) → map answer_in (together_in p.devices os qs) ≡ joined_answers os qs
    answered [] qs = refl
    answered (o ∷ os) [] = refl
    answered (o ∷ os) (q ∷ qs) =
        ap (λ (a : Answer). a ∷ map answer_in (together_in p.devices os qs)) (answer_together p.devices t.two o q)
        ∙ ap (λ (rest : List Answer). joined_answer o q ∷ rest) (answered os qs)
