-- The loop of `run`, as mathematics: a record judged and stepped, and the next one's first three bytes.
-- Assumes nothing.
use Prim.Native.Nat.{ℕ, suc, ◌+◌, ◌-◌, ◌*◌, ◌^◌, ◌≤◌, ◌<◌}
use mathlib.Core.Path.{◌≡◌, refl, sym, ap, subst, ◌∙◌}
use mathlib.Core.List.{List, [], ◌∷◌, ◌++◌, append-nil}
use mathlib.Core.Bool.{Bool, true, false, ◌&&◌}
use native.Mathlib.Omega.{arith}
use lib.Dec.{eqb, ltb}
use lib.Bits.{bit_or}
use lib.ListN.{length, get_or, take, drop, length-append, length-drop}
use lib.Seq.{drop-cons, length-take-le}
use borrow.Author.Tests.{eqb-true, eqb-false, ltb-true, leb-true}
use Rattle.laws.proofs.Choices.{by_test, and_left, and_right}
use Rattle.device.specs.declared.Device.{Device}
use Rattle.device.specs.declared.Outcome.{Outcome}
use Rattle.device.specs.declared.Event.{Event}
use Rattle.device.specs.Step.{effect_of, answer_of}
use Rattle.record.specs.Record.{Record}
use Rattle.std.specs.Prelude.{Ok, Err}
use Rattle.record.specs.declared.refusal.Refusal.{Refusal}
use Rattle.record.specs.declared.refusal.Refusal.TheVariants.{Kind, Operand}
use Rattle.record.specs.Record.{decode_of, code_of}
use Rattle.pair.specs.declared.Bus.{Bus}
use Rattle.pair.specs.declared.hand.Hand.{Hand}
use Rattle.pair.specs.Bus.{picked_of, placed_of, Answered, answers_of, header_length}
use Rattle.pair.specs.Hand.{named_at, hand_of, leaves_of, settled_of}
use Rattle.pair.proofs.AtHand.{laid_of, Laid, second_of_two, placed_picked, hand_first, hand_next}
use Rattle.capture.specs.declared.Reader.{Reader}
use Rattle.capture.specs.declared.Ahead.{Ahead}
use Rattle.capture.specs.Refusal.{refusal_code_of, of_record}
use Rattle.capture.specs.Reader.{with_carried, hold_of, between_of, header_length_of, header_done, ranges_of}
use Rattle.capture.specs.Reader.{quiet_of, answered_of, judged_of, turn_of, feed_of, Out, join_of, report_of, Meets}
use Rattle.capture.specs.Loops.{Going, Onward, waits_of, carrying_of, upto_of, Ready, Took}
use Rattle.capture.proofs.Turns.{judged_turn}
use Rattle.capture.proofs.InRange.{ranges, count_fits, turn_ranges}
use Rattle.capture.proofs.Outcomes.{join_join}
use Rattle.capture.proofs.Three.{three_ahead, three_ranges}
use Rattle.capture.proofs.Feeds.{refused, full, paired}

-- ---- where a record's fourth byte is next

pub record AtFourth (s : Reader) : Type 0 where
  pub held : s.held ≡ 0
  pub head : s.head ≡ header_length_of s
  pub carried : s.carried ≡ 3
  pub counted : s.done < s.count

pub waiting : (s : Reader) → ranges_of s ≡ true → waits_of s ≡ true → AtFourth s
unfolding waits_of
waiting s r w =
    let carried : s.carried ≡ 3 = eqb-true _ _ (and_right (eqb s.held 0) _ w) in
    let place : (header_done s && ltb s.done s.count) ≡ true = simp carried at (ranges s r).place.carrying in
    record {
      held = eqb-true _ _ (and_left (eqb s.held 0) _ w);
      head = eqb-true _ _ (and_left (header_done s) _ place);
      carried = carried;
      counted = ltb-true _ _ (and_right (header_done s) _ place);
    }

-- before that, fewer than three bytes are carried
pub not_waiting : (s : Reader) → ranges_of s ≡ true → waits_of s ≡ false → s.held ≡ 0 → s.carried < 3
unfolding waits_of
not_waiting s r w z =
    let other : eqb s.carried 3 ≡ false = simp z at w in
    omega (arith, eqb-false s.carried 3 other, leb-true s.carried 3 (ranges s r).place.few)

three_eta : (l : List ℕ) → length l ≡ 3 → get_or l 0 0 ∷ get_or l 1 0 ∷ get_or l 2 0 ∷ [] ≡ l
three_eta [] e = absurd (omega arith)
three_eta (a ∷ []) e = absurd (omega arith)
three_eta (a ∷ b ∷ []) e = absurd (omega arith)
three_eta (a ∷ b ∷ c ∷ []) e = refl
three_eta (a ∷ b ∷ c ∷ d ∷ l) e = absurd (omega arith)

-- such a state, told by its parts
pub itself : (s : Reader) → AtFourth s → length s.bytes ≡ 3
    → carrying_of s s.done s.bus (get_or s.bytes 0 0) (get_or s.bytes 1 0) (get_or s.bytes 2 0) ≡ s
itself s w e = λ i. with_carried s (sym w.carried i) (three_eta s.bytes e i)

-- ---- that byte

module _ (s : Reader) (w : AtFourth s) (c : ℕ) where
  abbrev pub record_at : Record
  record_at = decode_of s.bus.devices (get_or s.bytes 0 0) (get_or s.bytes 1 0) (get_or s.bytes 2 0) c

  judged : turn_of s c ≡ judged_of s record_at
  judged = judged_turn s c w.held w.head w.counted (omega (arith, w.carried))

  refuses : (why : Refusal) → record_at ≡ Err why → turn_of s c ≡ quiet_of (hold_of s (code_of (Err why)))
  refuses why q = judged ∙ ap (judged_of s) q

  takes : (e : Event) → record_at ≡ Ok e → turn_of s c ≡ answered_of s (answers_of s.bus e)
  takes e q = judged ∙ ap (judged_of s) q

-- a record's refusal has one code
pub same_code : (why : Refusal) → refusal_code_of (of_record why) ≡ code_of (Err why)
unfolding code_of
same_code Kind = refl
same_code Operand = refl

lasting : (why : Refusal) → code_of (Err why) ≡ 0 → ⊥
unfolding code_of
lasting Kind z = omega arith
lasting Operand z = omega arith

module _ {o : Out} {input entry answers : List ℕ} {s : Reader} {at written : ℕ}
    (w : AtFourth s) (g : Going o input entry answers s at written) (l : at < length input) where
  abbrev byte : ℕ
  byte = get_or input at 0

  pub ends_refused : (why : Refusal) → record_at s w byte ≡ Err why
      → Meets o (record { code = code_of (Err why); consumed = at; written = written; reader = hold_of s (code_of (Err why)) }) entry answers
  ends_refused why q = refused g l (sym (refuses s w byte why q)) (lasting why)

  pub ends_full : (e : Event) → record_at s w byte ≡ Ok e → length answers - written < 2
      → Meets o (record { code = 7; consumed = at; written = written; reader = s }) entry answers
  ends_full e q n = full g l (sym (takes s w byte e q)) w.held refl n

  -- a record taken, its pair behind the answers
  pub stepped : (e : Event) {after : List ℕ} → byte < 256 → record_at s w byte ≡ Ok e → 2 ≤ length answers - written
      → after ≡ take written answers ++ ((answers_of s.bus e).first ∷ (answers_of s.bus e).second ∷ drop 2 (drop written answers))
      → Going o input entry after (between_of s (s.done + 1) (answers_of s.bus e).bus) (at + 1) (written + 2)
  stepped e small q n k =
      let turn = takes s w byte e q in
      paired g l (sym turn) (rw turn at (turn_ranges s byte small g.ok)) w.held refl n k

-- ---- the next three bytes

three_bytes : (l : List ℕ) (at : ℕ) → at + 3 < length l → drop at l ≡ get_or l at 0 ∷ get_or l (at + 1) 0 ∷ get_or l (at + 2) 0 ∷ drop (at + 3) l
three_bytes l at h =
    let one : at + 1 ≡ suc at = omega arith in
    let two : at + 2 ≡ suc (suc at) = omega arith in
    let three : at + 3 ≡ suc (suc (suc at)) = omega arith in
    rw (one, two, three)
    (drop-cons l at 0 (omega arith)
    ∙ ap (λ (r : List ℕ). get_or l at 0 ∷ r)
    (drop-cons l (suc at) 0 (omega arith) ∙ ap (λ (r : List ℕ). get_or l (suc at) 0 ∷ r) (drop-cons l (suc (suc at)) 0 (omega arith))))

pub next_three : {o : Out} {input entry answers : List ℕ} (s : Reader) (done : ℕ) (bus : Bus) {at written : ℕ}
    → ((i : ℕ) → get_or input i 0 < 256) → s.held ≡ 0 → s.head ≡ header_length bus → done < s.count → at + 4 ≤ length input
    → Going o input entry answers (between_of s done bus) at written
    → Going o input entry answers (carrying_of s done bus (get_or input at 0) (get_or input (at + 1) 0) (get_or input (at + 2) 0)) (at + 3) written
next_three {o} {input} {entry} {answers} s done bus {at} {written} small z h d l g =
    let a = get_or input at 0 in
    let b = get_or input (at + 1) 0 in
    let c = get_or input (at + 2) 0 in
    let rest = feed_of (carrying_of s done bus a b c) (drop (at + 3) input) (length entry - written) in
    record {
      ok = three_ranges s done bus z h d a b c (small at) (small (at + 1)) (small (at + 2)) g.ok;
      within = omega arith;
      room = g.room;
      long = g.long;
      rest = g.rest;
      same =
          g.same
          ∙ ap (λ (l : List ℕ). join_of at (take written answers) (feed_of (between_of s done bus) l (length entry - written)))
          (three_bytes input at (omega arith))
          ∙ ap (join_of at (take written answers)) (three_ahead s done bus z h d a b c (drop (at + 3) input) (length entry - written))
          ∙ join_join at 3 (take written answers) [] rest
          ∙ ap (λ (l : List ℕ). join_of (at + 3) l rest) (append-nil (take written answers));
    }

-- ---- the loop

-- the device that a state's record is of, and what is known of the other
abbrev pub hand_at : Reader → Hand
hand_at s = hand_of s.bus (get_or s.bytes 0 0) (get_or s.bytes 1 0)

-- the bus with this device put back
abbrev pub bus_with : Reader → Device → Bus
bus_with s device = placed_of s.bus (hand_at s).second device

-- what is known at its head, where so many records are left: each is counted, whole in the input, and has room; the one at hand is the device's own
pub record Running (s : Reader) (input before : List ℕ) (from start : ℕ)
    (answers : List ℕ) (kind a b : ℕ) (device : Device) (done at written left : ℕ) : Type 0 where
  pub waits : AtFourth s
  pub onward : Onward input before s from start answers (carrying_of s done (bus_with s device) kind a b) at written
  pub own : (c : ℕ) (e : Event) → decode_of s.bus.devices kind a b c ≡ Ok e → Laid s.bus (hand_at s) device e
  pub once : (hand_at s).restart ≡ true → left ≡ 1
  pub forward : from ≤ at
  pub some : 1 ≤ left
  pub counted : done + left ≤ s.count
  pub whole : at + 4 * left ≤ length input + 3
  pub room : written + 2 * left ≤ length answers
  pub long : length answers ≡ length before
  pub input_fits : length input < 2 ^ 64
  pub answers_fit : length before < 2 ^ 64
  pub count_fits : s.count < 2 ^ 32

-- the records that can be taken are one at least, and no more than are counted, whole and with room
record Upto (counted bytes room left : ℕ) : Type 0 where
  some : 1 ≤ left
  few : left ≤ counted
  whole : 4 * left ≤ bytes + 3
  lent : 2 * left ≤ room

upto : (restart : Bool) (counted bytes room : ℕ) → 1 ≤ counted → 1 ≤ bytes → 2 ≤ room → Upto counted bytes room (upto_of restart counted bytes room)
upto true counted bytes room c b r = record { some = omega arith; few = c; whole = omega arith; lent = r }
upto false counted bytes room c b r = record { some = omega arith; few = omega arith; whole = omega arith; lent = omega arith }

pub run_start : (n : Ahead) (input before : List ℕ) (start : ℕ) → Ready n input before start → length n.reader.bytes ≡ 3
    → length input < 2 ^ 64 → length before < 2 ^ 64
    → Running n.reader input before n.at start before (get_or n.reader.bytes 0 0) (get_or n.reader.bytes 1 0) (get_or n.reader.bytes 2 0)
    (picked_of n.reader.bus (hand_at n.reader).second) n.reader.done n.at start
    (upto_of (hand_at n.reader).restart (n.reader.count - n.reader.done) (length input - n.at) (length before - start))
run_start n input before start r e f h =
    let s = n.reader in
    let from = n.at in
    let k = waiting s n.in_range r.waits in
    let u = upto (hand_at s).restart (s.count - s.done) (length input - from) (length before - start)
    (omega (arith, k.counted)) (omega (arith, r.within)) (omega (arith, r.room))
    in
    record {
      waits = k;
      onward = λ o entry g. rw (placed_picked s.bus (hand_at s).second, itself s k e) g;
      own = hand_first s.bus (get_or s.bytes 0 0) (get_or s.bytes 1 0) (get_or s.bytes 2 0);
      once = λ t. rw t;
      forward = omega arith;
      some = u.some;
      counted = omega (arith, k.counted, u.few);
      whole = omega (arith, r.within, u.whole);
      room = omega (arith, r.room, u.lent);
      long = refl;
      input_fits = f;
      answers_fit = h;
      count_fits = count_fits s n.in_range;
    }

-- once a record is stepped and its pair stored: the last of those left; or, with the next one's three bytes, as it leaves and as it goes on
pub record Stepped (s : Reader) (input before : List ℕ) (from start : ℕ)
    (answers after : List ℕ) (device : Device) (done at written left : ℕ) : Type 0 where
  pub long : length after ≡ length answers
  pub last : Took input before s from start after
      (report_of 0 (at + 1) (written + 2) (between_of s (done + 1) (placed_of (settled_of s.bus (hand_at s).restart) (hand_at s).second device)))
  pub leaves : 1 < left → Took input before s from start after
      (report_of 0 (at + 1 + 3) (written + 2)
      (carrying_of s (done + 1) (bus_with s device) (get_or input (at + 1) 0) (get_or input (at + 1 + 1) 0) (get_or input (at + 1 + 2) 0)))
  pub again : 1 < left → leaves_of (hand_at s) (get_or input (at + 1) 0) (get_or input (at + 1 + 1) 0) ≡ false
      → Running s input before from start after (get_or input (at + 1) 0) (get_or input (at + 1 + 1) 0) (get_or input (at + 1 + 2) 0)
      device (done + 1) (at + 1 + 3) (written + 2) (left - 1)

module _ {s : Reader} {input before : List ℕ} {from start : ℕ} {answers : List ℕ} {kind a b : ℕ} {device : Device} {done at written left : ℕ}
    (r : Running s input before from start answers kind a b device done at written left) where
  abbrev state : Reader
  state = carrying_of s done (bus_with s device) kind a b

  here : AtFourth state
  here = record { held = r.waits.held; head = r.waits.head; carried = refl; counted = omega (arith, r.some, r.counted) }

  -- of those left, the one at hand: its fourth byte is there, and so is its room
  inside : at < length input
  inside = omega (arith, r.some, r.whole)

  lent : written + 2 ≤ length answers
  lent = omega (arith, r.some, r.room)

  pub run_refused : (why : Refusal) → decode_of s.bus.devices kind a b (get_or input at 0) ≡ Err why
      → Took input before s from start answers (report_of (code_of (Err why)) at written (hold_of state (code_of (Err why))))
  run_refused why q = record {
    onward = λ z. absurd (lasting why z);
    forward = λ z. absurd (lasting why z);
    ends = λ x o entry g. ends_refused here (r.onward o entry g) inside why q;
  }

  -- both restart: no other record is left
  no_restart : 1 < left → (hand_at s).restart ≡ false
  no_restart n = by_test (hand_at s).restart (λ t. absurd (omega (arith, n, r.once t))) (λ f. f)

  -- a record that is an event, its pair laid behind the answers
  module _ (small : (i : ℕ) → get_or input i 0 < 256) (e : Event) (q : decode_of s.bus.devices kind a b (get_or input at 0) ≡ Ok e)
      (o : Outcome) (did : o ≡ effect_of device e) {after : List ℕ}
      (laid : after ≡ take written answers ++ (bit_or (answer_of o) (hand_at s).lines ∷ o.byte ∷ drop 2 (drop written answers))) where
    abbrev put : Bus
    put = placed_of (settled_of s.bus (hand_at s).restart) (hand_at s).second o.device

    answered : answers_of (bus_with s device) e ≡ laid_of s.bus (hand_at s) o
    answered = r.own (get_or input at 0) e q ∙ ap (laid_of s.bus (hand_at s)) (sym did)

    done_one : Onward input before s from start after (between_of s (done + 1) put) (at + 1) (written + 2)
    done_one o' entry g =
        subst (λ (x : Answered). Going o' input entry after (between_of s (done + 1) x.bus) (at + 1) (written + 2)) answered
        (stepped here (r.onward o' entry g) inside e (small at) q (omega (arith, lent))
        (laid ∙ ap (λ (x : Answered). take written answers ++ (x.first ∷ x.second ∷ drop 2 (drop written answers))) (sym answered)))

    same_room : length after ≡ length answers
    same_room =
        let w : length (take written answers) ≡ written = length-take-le written answers (omega (arith, lent)) in
        rw laid (simp (length-append, length-drop, w) (omega (arith, lent)))

    -- the next one's first three bytes
    carried : 1 < left → Onward input before s from start after
        (carrying_of s (done + 1) (bus_with s o.device) (get_or input (at + 1) 0) (get_or input (at + 1 + 1) 0) (get_or input (at + 1 + 2) 0))
        (at + 1 + 3) (written + 2)
    carried n o' entry g =
        next_three s (done + 1) (bus_with s o.device) small r.waits.held r.waits.head (omega (arith, r.counted)) (omega (arith, r.whole))
        (rw (no_restart n) at (done_one o' entry g))

    pub run_effect : Stepped s input before from start answers after o.device done at written left
    run_effect = record {
      long = same_room;
      last = record { onward = λ _. done_one; forward = λ _. omega (arith, r.forward); ends = λ n. absurd (n refl) };
      leaves = λ n. record { onward = λ _. carried n; forward = λ _. omega (arith, r.forward); ends = λ x. absurd (x refl) };
      again = λ n stays. record {
        waits = r.waits;
        onward = carried n;
        own = λ c e q'.
            hand_next s.bus (named_at s.bus (get_or s.bytes 0 0) (get_or s.bytes 1 0)) o.device (no_restart n)
            (second_of_two s.bus (get_or s.bytes 0 0) (get_or s.bytes 1 0))
            (get_or input (at + 1) 0) (get_or input (at + 1 + 1) 0) (get_or input (at + 1 + 2) 0) c e q' stays;
        once = λ t. absurd (omega (arith, n, r.once t));
        forward = omega (arith, r.forward);
        some = omega arith;
        counted = omega (arith, r.counted);
        whole = omega (arith, r.whole);
        room = omega (arith, r.room, same_room);
        long = same_room ∙ r.long;
        input_fits = r.input_fits;
        answers_fit = r.answers_fit;
        count_fits = r.count_fits;
      };
    }
