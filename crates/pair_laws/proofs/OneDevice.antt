-- With a device count of 1 all is as before: `one_effect`, `one_answer` and `one_lines`, what the bus does, its answer and its lines are the device's
-- own; `one_after` and `one_answers`, over any row of events, all of which it sees, `sees_all`. An absent device acknowledges nothing and pulls
-- nothing: `absent_silent`, nothing depends on what stands in its place; `second_unheard` and `other_address`, an event of a second device or at
-- another address does nothing.
-- Assumes nothing.
use Prim.Native.Nat.{ℕ}
use mathlib.Core.Path.{◌≡◌, refl, sym, ap, ◌∙◌}
use mathlib.Core.Bool.{true, false, not, or-true}
use mathlib.Core.List.{List, [], ◌∷◌}
use lib.Dec.{eqb}
use Rattle.laws.proofs.Choices.{clash, by_test}
use Rattle.device.specs.declared.Outcome.{Outcome}
use Rattle.device.specs.declared.Event.{Event}
use Rattle.device.specs.declared.Event.TheVariants.{Write, Read, Send, Receive, Convert, Open, PowerOn, ConvertSecond, OpenSecond}
use Rattle.device.specs.Pins.{pins_of}
use Rattle.device.specs.Bus.{alert_response}
use Rattle.device.specs.Profile.{AtAnother}
use Rattle.device.specs.Ranges.{second_of}
use Rattle.device.specs.Step.{effect_of, answer_of}
use Rattle.device.proofs.Untouched.{elsewhere}
use Rattle.pair.specs.declared.Bus.{Bus}
use Rattle.pair.specs.Bus.{two_of, placed_of, names_of, Done, quiet_of, done_of, bus_effect_of, lines_of, bus_answer_of}
use Rattle.pair.proofs.Kept.{same_count}
use Rattle.pair_laws.specs.Devices.{is_named}
use Rattle.pair_laws.specs.Absent.{Alike, NoSecond}
use Rattle.pair_laws.specs.Seen.{Sight, sight_of, sights_of, seen_of, bus_after, device_after, Answer, answer_in, bus_answers, alone_answers}

-- ---- one event

module _ (p : Bus) (one : two_of p ≡ false) where
  pub one_effect : (e : Event) → second_of e ≡ false → bus_effect_of p e ≡ done_of p false (effect_of p.first e)
  unfolding bus_effect_of names_of
  one_effect e h = rw (one, h)

  own_answer : (o : Outcome) → bus_answer_of (done_of p false o) ≡ answer_of o
  unfolding bus_answer_of lines_of answer_of
  own_answer o = rw one

  pub one_answer : (e : Event) → second_of e ≡ false → bus_answer_of (bus_effect_of p e) ≡ answer_of (effect_of p.first e)
  one_answer e h = rw (one_effect e h) (own_answer (effect_of p.first e))

  pub one_lines : lines_of p ≡ pins_of p.first
  unfolding lines_of
  one_lines = rw one

  pub second_unheard : (e : Event) → second_of e ≡ true → bus_effect_of p e ≡ quiet_of p
  unfolding bus_effect_of names_of
  second_unheard e h = rw (one, h)

  -- whatever address a variant of 0 would have
  pub other_address : (e : Event) → AtAnother p.first e → bus_effect_of p e ≡ quiet_of p
  unfolding second_of
  other_address e h = rw (one_effect e (on_bus_lem e h), elsewhere p.first e h)
    where
      on_bus_lem : (e : Event) → AtAnother p.first e → second_of e ≡ false
      on_bus_lem (Write a w v) h = refl
      on_bus_lem (Read a r) h = refl
      on_bus_lem (Send a r) h = refl
      on_bus_lem (Receive a) h = refl
      on_bus_lem (Convert local high low) h = absurd h
      on_bus_lem (Open local) h = absurd h
      on_bus_lem PowerOn h = absurd h
      on_bus_lem (ConvertSecond local high low) h = absurd h
      on_bus_lem (OpenSecond local) h = absurd h

-- ---- an absent device

module _ (p q : Bus) (one : two_of p ≡ false) (only : two_of q ≡ false) where
  heard : (o : Outcome) → Alike (done_of p false o) (done_of q false o)
  unfolding lines_of bus_answer_of
  heard o = record { acknowledged = refl; taken = refl; held = refl; byte = refl; first = refl; lines = rw (one, only); answer = rw (one, only) }

  unheard : p.first ≡ q.first → Alike (quiet_of p) (quiet_of q)
  unfolding lines_of bus_answer_of
  unheard same =
      record { acknowledged = refl; taken = refl; held = refl; byte = refl; first = same; lines = rw (one, only, same); answer = rw (one, only, same) }

  pub absent_silent : p.first ≡ q.first → (e : Event) → Alike (bus_effect_of p e) (bus_effect_of q e)
  absent_silent same e =
      by_test (second_of e)
      (λ h. rw (second_unheard p one e h, second_unheard q only e h) (unheard same))
      (λ h. rw (one_effect p one e h, one_effect q only e h, same) (heard (effect_of q.first e)))

-- ---- rows of events

pub one_after : (p : Bus) → two_of p ≡ false → (es : List Event) → NoSecond es → bus_after p es ≡ placed_of p false (device_after p.first es)
one_after p one [] h = refl
one_after p one (e ∷ es) h =
    ap (λ (o : Done). bus_after o.bus es) (one_effect p one e h.0)
    ∙ one_after (placed_of p false (effect_of p.first e).device) one es h.1

pub one_answers : (p : Bus) → two_of p ≡ false → (es : List Event) → NoSecond es → bus_answers p es ≡ alone_answers p.first es
one_answers p one [] h = refl
one_answers p one (e ∷ es) h =
    let o = effect_of p.first e in
    let rest = one_answers (placed_of p false o.device) one es h.1 in
    ap (λ (d : Done). answer_in d ∷ bus_answers d.bus es) (one_effect p one e h.0)
    ∙ ap (λ (a : ℕ). record { first = a; second = o.byte } ∷ bus_answers (placed_of p false o.device) es) (own_answer p one o)
    ∙ ap (λ (l : List Answer). record { first = answer_of o; second = o.byte } ∷ l) rest

-- ---- what a device alone sees

module _ (p : Bus) (one : two_of p ≡ false) where
  named_alone : (e : Event) → second_of e ≡ false → is_named (names_of p e) false ≡ true
  unfolding names_of
  named_alone e h = rw (one, h)

  -- an event of kinds 01 to 07 is seen, as it is
  own_sight : (e : Event) → second_of e ≡ false → sight_of p false e ≡ record { seen = true; event = e }
  unfolding second_of
  own_sight (Write a w v) h = refl
  own_sight (Read a r) h = refl
  own_sight (Send a r) h = refl
  own_sight (Receive a) h = rw (named_alone (Receive a) h, or-true (not (eqb a alert_response)))
  own_sight (Convert local high low) h = refl
  own_sight (Open local) h = refl
  own_sight PowerOn h = refl
  own_sight (ConvertSecond local high low) h = clash (sym h)
  own_sight (OpenSecond local) h = clash (sym h)

pub sees_all : (p : Bus) → two_of p ≡ false → (es : List Event) → NoSecond es → seen_of (sights_of p false es) ≡ es
sees_all p one [] h = refl
sees_all p one (e ∷ es) h =
    ap (λ (s : Sight). seen_of (s ∷ sights_of (bus_effect_of p e).bus false es)) (own_sight p one e h.0)
    ∙ ap (λ (l : List Event). e ∷ l) (sees_all (bus_effect_of p e).bus (rw (same_count p e) one) es h.1)
