-- A capture with a device count of 1 has, byte for byte, the outcome of the definition before request c: `one_as_before`. So has every byte string that
-- does not begin with a device count of 2: `as_before`. `decode_before`: under a count of 1 four bytes read as then; `of_that_time`: no record of that
-- time is an event of a second device.
-- Assumes nothing.
use Prim.Native.Nat.{ℕ, ◌+◌}
use mathlib.Core.Path.{◌≡◌, refl, ap, ◌∙◌}
use mathlib.Core.Bool.{Bool, true, false, cond}
use mathlib.Core.List.{List, [], ◌∷◌}
use lib.Dec.{eqb, ltb}
use borrow.Author.Tests.{eqb-true}
use Rattle.laws.proofs.Choices.{by_test, cond_ind}
use Rattle.device.specs.declared.Device.{Device}
use Rattle.device.specs.declared.Outcome.{Outcome}
use Rattle.device.specs.declared.Event.{Event}
use Rattle.device.specs.declared.Event.TheVariants.{Write, Read, Send, Receive, Convert, Open, PowerOn}
use Rattle.device.specs.Bus.{powered_of, zero_device}
use Rattle.device.specs.Ranges.{variant_of, second_of}
use Rattle.device.specs.Step.{effect_of, answer_of}
use Rattle.record.specs.Record.{Record}
use Rattle.std.specs.Prelude.{Ok, Err}
use Rattle.record.specs.declared.refusal.Refusal.{Refusal}
use Rattle.record.specs.declared.refusal.Refusal.TheVariants.{Kind, Operand}
use Rattle.record.specs.Record.{code_of, decode_of}
use Rattle.record.specs.Fours.{quads, over}
use Rattle.pair.specs.declared.Bus.{Bus}
use Rattle.pair.specs.Bus.{counted_bus, Answered, Done, bus_effect_of, answers_of}
use Rattle.pair_laws.proofs.OneDevice.{one_effect, one_answer}
use Rattle.capture.specs.declared.Reader.{Reader}
use Rattle.capture.specs.Whole.{Whole, then_of, on_record, records_of, record_count_of, variants_of, whole_of}
use Rattle.capture_before.specs.AsBefore.{OfThatTime, NotTwo, AsBefore}
use Rattle.capture_before.specs.BeforePair as before

-- ---- what was, in the terms of today

-- a device alone on its bus
abbrev alone : Device → Bus
alone d = record { devices = 1; first = d; second = zero_device }

abbrev state_now : before.Reader → Reader
state_now s =
    record {
      head = s.head;
      count = s.count;
      done = s.done;
      carried = s.carried;
      bytes = s.bytes;
      held = s.held;
      -- no device count is taken with no header byte
      bus = counted_bus (alone s.device) (cond (eqb s.head 0) 0 1);
    }

abbrev now : before.Whole → Whole
now w = record { code = w.code; consumed = w.consumed; answers = w.answers; reader = state_now w.reader; finishing = w.finishing }

choice_before : (t : Bool) {x y : Whole} {u v : before.Whole} → x ≡ now u → y ≡ now v → cond t x y ≡ now (cond t u v)
choice_before true one other = one
choice_before false one other = other

-- ---- one record

either : (t : Bool) (r : Record) → cond t r r ≡ r
either true r = refl
either false r = refl

pub decode_before : (kind a b c : ℕ) → decode_of 1 kind a b c ≡ before.decode_of kind a b c
unfolding decode_of before.decode_of
decode_before kind a b c = rw (either (eqb kind 9) (Err Kind), either (eqb kind 8) (Err Kind))

refusal_before : (why : Refusal) → code_of (Err why) ≡ before.code_of (Err why)
unfolding code_of before.code_of
refusal_before Kind = refl
refusal_before Operand = refl

admitted : (e : Event) (others : List ℕ) → second_of e ≡ false → OfThatTime (before.admit_of (before.good_of e others) e)
admitted e others h = cond_ind OfThatTime (before.good_of e others) (λ _. h) (λ _. tt)

pub of_that_time : (kind a b c : ℕ) → OfThatTime (before.decode_of kind a b c)
unfolding before.decode_of second_of
of_that_time kind a b c =
    cond_ind OfThatTime (eqb kind 1) (λ _. admitted (Write a b c) [] refl)
    (λ _. cond_ind OfThatTime (eqb kind 2) (λ _. admitted (Read a b) (c ∷ []) refl)
    (λ _. cond_ind OfThatTime (eqb kind 3) (λ _. admitted (Send a b) (c ∷ []) refl)
    (λ _. cond_ind OfThatTime (eqb kind 4) (λ _. admitted (Receive a) (b ∷ c ∷ []) refl)
    (λ _. cond_ind OfThatTime (eqb kind 5) (λ _. admitted (Convert a b c) [] refl)
    (λ _. cond_ind OfThatTime (eqb kind 6) (λ _. admitted (Open a) (b ∷ c ∷ []) refl)
    (λ _. cond_ind OfThatTime (eqb kind 7) (λ _. admitted PowerOn (a ∷ b ∷ c ∷ []) refl) (λ _. tt)))))))

answers_before : (d : Device) (e : Event) → second_of e ≡ false
    → answers_of (alone d) e ≡ record { first = answer_of (effect_of d e); second = (effect_of d e).byte; bus = alone (effect_of d e).device }
answers_before d e h =
    ap (λ (first : ℕ). record { first = first; second = (bus_effect_of (alone d) e).byte; bus = (bus_effect_of (alone d) e).bus })
    (one_answer (alone d) refl e h)
    ∙ ap (λ (o : Done). record { first = answer_of (effect_of d e); second = o.byte; bus = o.bus }) (one_effect (alone d) refl e h)

-- ---- the records

-- an event stepped, or a refused record told by its code
record_before : (r : Record) → OfThatTime r
    → (step : Event → Whole) (then : Event → before.Whole) → ((e : Event) → second_of e ≡ false → step e ≡ now (then e))
    → (refuse : ℕ → Whole) (refused : ℕ → before.Whole) → ((code : ℕ) → refuse code ≡ now (refused code))
    → on_record r step refuse ≡ now (before.on_record r then refused)
record_before (Ok e) h step then steps refuse refused refuses = steps e h
record_before (Err why) h step then steps refuse refused refuses =
    ap refuse (refusal_before why) ∙ refuses (before.code_of (Err why))

records_before : (n k : ℕ) (d : Device) (xs : List ℕ)
    → records_of n k (alone d) (quads xs) (over xs) ≡ now (before.records_of n k d (before.quads xs) (before.over xs))
unfolding records_of before.records_of
records_before n k d [] = refl
records_before n k d (kind ∷ []) = choice_before (ltb k n) refl refl
records_before n k d (kind ∷ a ∷ []) = choice_before (ltb k n) refl refl
records_before n k d (kind ∷ a ∷ b ∷ []) = choice_before (ltb k n) refl refl
records_before n k d (kind ∷ a ∷ b ∷ c ∷ xs) =
    let step : Answered → Whole = λ r. then_of 4 (r.first ∷ r.second ∷ []) (records_of n (k + 1) r.bus (quads xs) (over xs)) in
    let rest : (o : Outcome) → _ = λ o. ap (then_of 4 (answer_of o ∷ o.byte ∷ [])) (records_before n (k + 1) o.device xs) in
    choice_before (ltb k n)
    (rw (decode_before kind a b c)
    (record_before (before.decode_of kind a b c) (of_that_time kind a b c)
    _ _ (λ e h. ap step (answers_before d e h) ∙ rest (effect_of d e))
    _ _ (λ code. refl)))
    refl

-- ---- the header

count_before : (d : Device) (xs : List ℕ) → record_count_of (alone d) xs ≡ now (before.record_count_of d xs)
unfolding record_count_of before.record_count_of
count_before d [] = refl
count_before d (a ∷ []) = refl
count_before d (a ∷ b ∷ []) = refl
count_before d (a ∷ b ∷ c ∷ []) = refl
count_before d (a ∷ b ∷ c ∷ e ∷ xs) = ap (then_of 4 []) (records_before _ 0 d xs)

variant_before : (xs : List ℕ) → variants_of 1 xs ≡ now (before.variants_of xs)
unfolding variants_of before.variants_of
variant_before [] = refl
variant_before (v ∷ xs) = choice_before (variant_of v) (ap (then_of 1 []) (count_before (powered_of v) xs)) refl

whole_before : (xs : List ℕ) → NotTwo xs → whole_of xs ≡ now (before.whole_of xs)
unfolding whole_of before.whole_of
whole_before [] h = refl
whole_before (devices ∷ xs) h =
    by_test (eqb devices 1)
    (λ one. rw (eqb-true devices 1 one) (ap (then_of 1 []) (variant_before xs)))
    (λ none. rw (none, h))

-- ---- the theorem

pub as_before : (xs : List ℕ) → NotTwo xs → AsBefore xs
as_before xs h =
    let same = whole_before xs h in
    record {
      code = ap (λ (w : Whole). w.code) same;
      consumed = ap (λ (w : Whole). w.consumed) same;
      answers = ap (λ (w : Whole). w.answers) same;
      finishing = ap (λ (w : Whole). w.finishing) same;
      head = ap (λ (w : Whole). w.reader.head) same;
      count = ap (λ (w : Whole). w.reader.count) same;
      done = ap (λ (w : Whole). w.reader.done) same;
      carried = ap (λ (w : Whole). w.reader.carried) same;
      bytes = ap (λ (w : Whole). w.reader.bytes) same;
      held = ap (λ (w : Whole). w.reader.held) same;
      first = ap (λ (w : Whole). w.reader.bus.first) same;
      second = ap (λ (w : Whole). w.reader.bus.second) same;
      devices = rw same;
    }

pub one_as_before : (xs : List ℕ) → AsBefore (1 ∷ xs)
one_as_before xs = as_before (1 ∷ xs) refl
