-- Request b against the definitions before it, of every event of that time, kinds 01 to 07: `device_as_before`, the device after it is the one
-- before; `effect_as_before`, so are acknowledged, taken and the byte read; `first_as_before`, D4 apart the first answer byte too; `step_as_before`,
-- `run_as_before`: of every step, and over every row of such events, refused ones too, the codes, the answer bytes with D4 cleared and the end device
-- are those before.
-- Assumes nothing.
use mathlib.Core.Path.{◌≡◌, refl, sym, ap, ◌∙◌}
use mathlib.Core.Bool.{Bool, true, false, cond, ◌&&◌}
use mathlib.Core.List.{List, [], ◌∷◌, map}
use Prim.Native.Nat.{ℕ, ◌^◌, ◌<◌}
use lib.IntN.{ℤ}
use lib.Dec.{eqb, lit<}
use lib.Bits.{bit_or, or_lt}
use Rattle.laws.proofs.Choices.{clash}
use Rattle.laws.proofs.Tables.{agree}
use Rattle.temperature.specs.declared.Reading.{Reading}
use Rattle.temperature.proofs.Held.{held_eighths}
use Rattle.registers.specs.Page.{readable_of, writable_of, known_of, address_of}
use Rattle.conversion.specs.Conversion.{bit_of, reading_of}
use Rattle.conversion.proofs.Bounds.{bit_bound}
use Rattle.device.specs.declared.Device.{Device}
use Rattle.device.specs.declared.Outcome.{Outcome}
use Rattle.device.specs.declared.Event.{Event}
use Rattle.device.specs.declared.Event.TheVariants.{Write, Read, Send, Receive, Convert, Open, PowerOn, ConvertSecond, OpenSecond}
use Rattle.device.specs.Pins.{pins_of, first_of}
use Rattle.device.specs.Bus.{silent_of, put_of, get_of, point_of, responds_of, respond_of, takes_of, taking_of, sense_of, alert_response, at_of}
use Rattle.device.specs.Ranges.{variant_of, ranged_of, operands_of, second_of}
use Rattle.device.specs.Step.{Stepped, effect_of, answer_of, refused_of, stepped_of, step_of}
use Rattle.device.specs.Run.{Reply, replies_of, after_of}
use Rattle.device_laws.specs.Moves.{held_by}
use Rattle.device_laws.specs.Held.{cleared, step_without, reply_without}
use Rattle.device_laws.specs.BeforeHeld as before
use Rattle.device_laws.proofs.Moves.{held_exactly}

-- ---- one event

-- an outcome, with nothing said of a held reading
abbrev pub forget : Outcome → before.Outcome
forget o = record { device = o.device; acknowledged = o.acknowledged; taken = o.taken; byte = o.byte }

forget_cond : (t : Bool) (x y : Outcome) → forget (cond t x y) ≡ cond t (forget x) (forget y)
forget_cond true x y = refl
forget_cond false x y = refl

reading_before : (s : List ℕ) (high low : ℕ) → (reading_of s high low).eighths ≡ before.reading_of s high low
unfolding reading_of before.reading_of before.held_of
reading_before s high low = held_eighths _

module _ (d : Device) where
  at_before : (a : ℕ) (own : Outcome) → forget (at_of d a own) ≡ before.at_of d a (forget own)
  at_before a own = forget_cond (eqb a (address_of d.variant)) own (silent_of d)

  put_before : (w v : ℕ) → forget (put_of d w v) ≡ before.put_of d w v
  unfolding put_of before.put_of
  put_before w v = forget_cond (writable_of w) _ (silent_of d)

  get_before : (r : ℕ) → forget (get_of d r) ≡ before.get_of d r
  unfolding get_of before.get_of
  get_before r = forget_cond (readable_of r) _ (silent_of d)

  point_before : (r : ℕ) → forget (point_of d r) ≡ before.point_of d r
  unfolding point_of before.point_of
  point_before r = forget_cond (known_of r) _ (silent_of d)

  respond_before : forget (respond_of d) ≡ before.respond_of d
  unfolding respond_of before.respond_of
  respond_before = forget_cond (responds_of d) _ (silent_of d)

  sense_before : (local : ℕ) (remote : Reading) (broken : Bool) → forget (sense_of d local remote broken) ≡ before.sense_of d local remote.eighths broken
  unfolding sense_of before.sense_of
  sense_before local remote broken = forget_cond (takes_of d) (taking_of d local remote broken) (silent_of d)

pub effect_as_before : (d : Device) (e : Event) → second_of e ≡ false → forget (effect_of d e) ≡ before.effect_of d e
unfolding effect_of before.effect_of second_of
effect_as_before d (Write a w v) own = at_before d a (put_of d w v) ∙ ap (before.at_of d a) (put_before d w v)
effect_as_before d (Read a r) own = at_before d a (get_of d r) ∙ ap (before.at_of d a) (get_before d r)
effect_as_before d (Send a r) own = at_before d a (point_of d r) ∙ ap (before.at_of d a) (point_before d r)
effect_as_before d (Receive a) own =
    let p = d.pointer in
    let response = eqb a alert_response in
    forget_cond response (respond_of d) (at_of d a (get_of d p))
    ∙ ap (λ (o : before.Outcome). cond response o (forget (at_of d a (get_of d p)))) (respond_before d)
    ∙ ap (cond response (before.respond_of d)) (at_before d a (get_of d p) ∙ ap (before.at_of d a) (get_before d p))
effect_as_before d (Convert local high low) own =
    sense_before d local _ false ∙ ap (λ (t : ℤ). before.sense_of d local t false) (reading_before d.settings high low)
effect_as_before d (Open local) own = sense_before d local _ true
effect_as_before d PowerOn own = refl
effect_as_before d (ConvertSecond local high low) own = clash (sym own)
effect_as_before d (OpenSecond local) own = clash (sym own)

pub device_as_before : (d : Device) (e : Event) → second_of e ≡ false → (effect_of d e).device ≡ (before.effect_of d e).device
device_as_before d e own = ap (λ (o : before.Outcome). o.device) (effect_as_before d e own)

-- ---- the first answer byte

-- the bits of before, and D4
bits_before : (o : Outcome) → answer_of o ≡ bit_or (before.answer_of (forget o)) (bit_of o.held 0x10)
unfolding answer_of first_of before.answer_of before.first_of
bits_before o = refl

pub first_as_before : (d : Device) (e : Event) → second_of e ≡ false
    → answer_of (effect_of d e) ≡ bit_or (before.answer_of (before.effect_of d e)) (bit_of (held_by d e) 0x10)
first_as_before d e own =
    bits_before (effect_of d e)
    ∙ ap (λ (o : before.Outcome). bit_or (before.answer_of o) (bit_of (effect_of d e).held 0x10)) (effect_as_before d e own)
    ∙ ap (λ (t : Bool). bit_or (before.answer_of (before.effect_of d e)) (bit_of t 0x10)) (held_exactly d e)

-- ---- steps, one and in a row

small_before : (o : before.Outcome) → before.answer_of o < 2 ^ 4
unfolding before.answer_of before.first_of
small_before o =
    let pins = pins_of o.device in
    or_lt 4 _ _
    (or_lt 4 _ _ (or_lt 4 _ _ (bit_bound pins.alert 0x01 (lit< tt)) (bit_bound pins.tcrit 0x02 (lit< tt))) (bit_bound o.acknowledged 0x04 (lit< tt)))
    (bit_bound o.taken 0x08 (lit< tt))

-- D4 joined to four bits and cleared again
joined_cleared : (t : Bool) (x : ℕ) → x < 0x10 → cleared (bit_or x (bit_of t 0x10)) ≡ x
joined_cleared true = agree (λ x. cleared (bit_or x 0x10)) (λ x. x) 0x10 refl
joined_cleared false = agree (λ x. cleared (bit_or x 0)) (λ x. x) 0x10 refl

first_cleared : (d : Device) (e : Event) → second_of e ≡ false → cleared (answer_of (effect_of d e)) ≡ before.answer_of (before.effect_of d e)
first_cleared d e own =
    ap cleared (first_as_before d e own) ∙ joined_cleared (held_by d e) (before.answer_of (before.effect_of d e)) (small_before (before.effect_of d e))

stepped_before : (d : Device) (e : Event) → second_of e ≡ false → step_without (stepped_of (effect_of d e)) ≡ before.stepped_of (before.effect_of d e)
stepped_before d e own =
    let first = before.answer_of (before.effect_of d e) in
    ap (λ (x : ℕ). record { code = 0; first = x; second = (effect_of d e).byte; device = (effect_of d e).device }) (first_cleared d e own)
    ∙ ap (λ (o : before.Outcome). record { code = 0; first = first; second = o.byte; device = o.device }) (effect_as_before d e own)

pub step_as_before : (d : Device) (e : Event) → second_of e ≡ false → step_without (step_of d e) ≡ before.step_of d e
unfolding step_of before.step_of
step_as_before d e own = rw own (split (variant_of d.variant && ranged_of d) (operands_of e))
  where
    split : (s t : Bool) → step_without (cond s (cond t (stepped_of (effect_of d e)) (refused_of d 4)) (refused_of d 8))
        ≡ cond s (cond t (before.stepped_of (before.effect_of d e)) (refused_of d 4)) (refused_of d 8)
    split true true = stepped_before d e own
    split true false = refl
    split false t = refl

abbrev reply_in : Stepped → Reply
reply_in s = record { code = s.code; first = s.first; second = s.second }

pub run_as_before : (d : Device) (es : List Event) → before.OfThatTime es
    → (map reply_without (replies_of d es) ≡ before.replies_of d es) × (after_of d es ≡ before.after_of d es)
run_as_before d [] then = (refl, refl)
run_as_before d (e ∷ es) then =
    let one = step_as_before d e then.0 in
    let rest = run_as_before (step_of d e).device es then.1 in
    let on = ap (λ (s : Stepped). s.device) one in (
      ap (λ (r : Reply). r ∷ map reply_without (replies_of (step_of d e).device es)) (ap reply_in one)
          ∙ ap (λ (rs : List Reply). reply_in (before.step_of d e) ∷ rs) (rest.0 ∙ ap (λ (x : Device). before.replies_of x es) on),
      rest.1 ∙ ap (λ (x : Device). before.after_of x es) on,
    )
