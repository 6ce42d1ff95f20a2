-- The reader keeps one device at hand. `first_record`: what the bus does at the record that it takes the device up for; `next_record`: at one that
-- does not leave it; `one_device`: at any record of a device alone; `laid_of`: the answer, with the other's lines laid over.
-- Assumes nothing.
use Prim.Native.Nat.{ℕ}
use mathlib.Core.Path.{◌≡◌, refl, sym, ap, ◌∙◌}
use mathlib.Core.Bool.{Bool, true, false, cond, not, ◌&&◌, ◌||◌, or-false}
use mathlib.Core.List.{List, [], ◌∷◌}
use lib.Dec.{eqb}
use lib.Bits.{bit_or, or_zero_r}
use lib.ListN.{get_or}
use borrow.Author.Tests.{eqb-true}
use Rattle.laws.proofs.Choices.{clash, cond_ind, by_test}
use Rattle.registers.specs.Bits.{has, alerting, alert_mask}
use Rattle.registers.specs.Page.{read_only_of, address_of}
use Rattle.registers.proofs.Entries.{zero_at}
use Rattle.device.specs.declared.Pins.{Pins}
use Rattle.device.specs.declared.Device.{Device}
use Rattle.device.specs.declared.Outcome.{Outcome}
use Rattle.device.specs.declared.Event.{Event}
use Rattle.device.specs.declared.Event.TheVariants.{Write, Read, Send, Receive, Convert, Open, PowerOn, ConvertSecond, OpenSecond}
use Rattle.device.specs.Pins.{configuration_of, comparator_of, watched_of, alert_of, tcrit_of, pins_of}
use Rattle.device.specs.Bus.{silent_of, responds_of, powered_of, alert_response}
use Rattle.device.specs.Ranges.{second_of}
use Rattle.device.specs.Step.{effect_of, answer_of}
use Rattle.device.proofs.Untouched.{elsewhere, unanswered}
use Rattle.std.specs.Prelude.{Ok}
use Rattle.record.specs.Record.{decode_of, encode_of}
use Rattle.record.proofs.RoundTrip.{only_those}
use Rattle.pair.specs.declared.Bus.{Bus}
use Rattle.pair.specs.declared.Named.{Named}
use Rattle.pair.specs.declared.Named.TheVariants.{Neither, First, Second, Both}
use Rattle.pair.specs.Bus.{two_of, picked_of, done_of, first_address, second_address, at_address_of, respondent_of, among_of, names_of, by_named, bus_effect_of}
use Rattle.pair.specs.Bus.{placed_of, joined_of, lines_of, bus_answer_of, Answered, answers_of}
use Rattle.pair.specs.declared.hand.Hand.{Hand}
use Rattle.pair.specs.Hand.{named_at, is_second, is_both, away_of, other_lines_of, others_of, hand_for, hand_of, else_named, leaves_of, settled_of}
use Rattle.pair.proofs.JoinedByte.{line_joined}

-- the bus does what the device at hand does, and restarts the other where both restart
abbrev pub ByHand : Bus → Bool → Bool → Event → Type 0
ByHand p second restart e = bus_effect_of p e ≡ done_of (settled_of p restart) second (effect_of (picked_of p second) e)

-- ---- the bytes of an event

module _ (devices kind a b c : ℕ) (e : Event) (q : decode_of devices kind a b c ≡ Ok e) where
  bytes : kind ∷ a ∷ b ∷ c ∷ [] ≡ encode_of e
  bytes = (only_those devices kind a b c e q).bytes

  kind_of : kind ≡ get_or (encode_of e) 0 0
  kind_of = ap (λ (l : List ℕ). get_or l 0 0) bytes

  operand_of : a ≡ get_or (encode_of e) 1 0
  operand_of = ap (λ (l : List ℕ). get_or l 1 0) bytes

-- ---- who answers

-- the alerting device that is named, or none
respondent_ind : (p : Bus) (P : Named → Type 0) → P First → P Second → (responds_of p.first ≡ false → P Neither) → P (respondent_of p)
unfolding respondent_of
respondent_ind p P one two none = split (responds_of p.first) (responds_of p.second) _ refl
  where
    split : (f s l : Bool) → responds_of p.first ≡ f → P (cond (f && (not s || l)) First (cond s Second Neither))
    split true true true e = one
    split true true false e = two
    split true false l e = one
    split false true l e = two
    split false false l e = none e

restarted : (d : Device) → effect_of d PowerOn ≡ silent_of (powered_of d.variant)
unfolding effect_of
restarted d = refl

-- ---- the record that the device is taken up for

module _ (p : Bus) (two : two_of p ≡ true) where
  abbrev Taken : Event → Named → Type 0
  Taken e n = by_named p e n ≡ done_of (settled_of p (is_both n)) (is_second n) (effect_of (picked_of p (is_second n)) e)

  taken_at : (e : Event) (a : ℕ) → (eqb a (first_address p) ≡ false → effect_of p.first e ≡ silent_of p.first) → Taken e (at_address_of p a)
  taken_at e a silent =
      by_test (eqb a (first_address p)) (λ h. rw h)
      (λ h. by_test (eqb a (second_address p)) (λ k. rw (h, k)) (λ k. rw (h, k) (rw (silent h))))

  silent_alert : (a : ℕ) → eqb a alert_response ≡ true → responds_of p.first ≡ false → effect_of p.first (Receive a) ≡ silent_of p.first
  silent_alert a h n = rw (eqb-true a alert_response h) (unanswered p.first n)

  taken_event : (e : Event) → Taken e (among_of p e)
  unfolding among_of
  taken_event (Write a w v) = taken_at (Write a w v) a (λ h. elsewhere p.first (Write a w v) h)
  taken_event (Read a r) = taken_at (Read a r) a (λ h. elsewhere p.first (Read a r) h)
  taken_event (Send a r) = taken_at (Send a r) a (λ h. elsewhere p.first (Send a r) h)
  taken_event (Receive a) =
      cond_ind (Taken (Receive a)) (eqb a alert_response)
      (λ h. respondent_ind p (Taken (Receive a)) refl refl (λ n. rw (silent_alert a h n)))
      (λ h. taken_at (Receive a) a (λ k. elsewhere p.first (Receive a) (k, h)))
  taken_event (Convert local high low) = refl
  taken_event (Open local) = refl
  taken_event PowerOn = rw (restarted p.first)
  taken_event (ConvertSecond local high low) = refl
  taken_event (OpenSecond local) = refl

  -- its first two bytes name whom the event names
  named_event : (kind a b c : ℕ) (e : Event) → decode_of p.devices kind a b c ≡ Ok e → named_at p kind a ≡ among_of p e
  unfolding named_at among_of encode_of
  named_event kind a b c (Write x w v) q = rw (two, kind_of p.devices kind a b c (Write x w v) q, operand_of p.devices kind a b c (Write x w v) q)
  named_event kind a b c (Read x r) q = rw (two, kind_of p.devices kind a b c (Read x r) q, operand_of p.devices kind a b c (Read x r) q)
  named_event kind a b c (Send x r) q = rw (two, kind_of p.devices kind a b c (Send x r) q, operand_of p.devices kind a b c (Send x r) q)
  named_event kind a b c (Receive x) q = rw (two, kind_of p.devices kind a b c (Receive x) q, operand_of p.devices kind a b c (Receive x) q)
  named_event kind a b c (Convert local high low) q = rw (two, kind_of p.devices kind a b c (Convert local high low) q)
  named_event kind a b c (Open local) q = rw (two, kind_of p.devices kind a b c (Open local) q)
  named_event kind a b c PowerOn q = rw (two, kind_of p.devices kind a b c PowerOn q)
  named_event kind a b c (ConvertSecond local high low) q = rw (two, kind_of p.devices kind a b c (ConvertSecond local high low) q)
  named_event kind a b c (OpenSecond local) q = rw (two, kind_of p.devices kind a b c (OpenSecond local) q)

  taken_record : (kind a b c : ℕ) (e : Event) → decode_of p.devices kind a b c ≡ Ok e
      → ByHand p (is_second (named_at p kind a)) (is_both (named_at p kind a)) e
  unfolding bus_effect_of names_of
  taken_record kind a b c e q = rw (two, named_event kind a b c e q) (taken_event e)

-- ---- a device alone

module _ (p : Bus) (one : two_of p ≡ false) where
  -- no event of a second device is read under another count
  own_kinds : (kind a b c : ℕ) (e : Event) → decode_of p.devices kind a b c ≡ Ok e → second_of e ≡ false
  own_kinds kind a b c e q =
      by_test (second_of e) (λ s. clash (sym one ∙ rw ((only_those p.devices kind a b c e q).count s))) (λ s. s)

  pub one_device : (kind a b c : ℕ) (e : Event) → decode_of p.devices kind a b c ≡ Ok e → ByHand p false false e
  unfolding bus_effect_of names_of
  one_device kind a b c e q = rw (one, own_kinds kind a b c e q)

pub first_record : (p : Bus) (kind a b c : ℕ) (e : Event) → decode_of p.devices kind a b c ≡ Ok e
    → ByHand p (is_second (named_at p kind a)) (is_both (named_at p kind a)) e
unfolding named_at
first_record p kind a b c e q =
    by_test (two_of p) (λ two. taken_record p two kind a b c e q) (λ one. rw one (one_device p one kind a b c e q))

-- ---- a record that does not leave the device at hand

-- a test that is false in both its parts
neither : (s t : Bool) → (s || t) ≡ false → (s ≡ false) × (t ≡ false)
neither true t e = clash (sym e)
neither false t e = (refl, e)

module _ (p : Bus) (second : Bool) where
  keeps_at : (e : Event) (a : ℕ) → eqb a (away_of p second) ≡ false
      → (eqb a (address_of (picked_of p second).variant) ≡ false → effect_of (picked_of p second) e ≡ silent_of (picked_of p second))
      → by_named p e (at_address_of p a) ≡ done_of p second (effect_of (picked_of p second) e)
  keeps_at e a away silent = split second away silent
    where
      split : (second : Bool) → eqb a (away_of p second) ≡ false
          → (eqb a (address_of (picked_of p second).variant) ≡ false → effect_of (picked_of p second) e ≡ silent_of (picked_of p second))
          → by_named p e (at_address_of p a) ≡ done_of p second (effect_of (picked_of p second) e)
      split false n f = by_test (eqb a (first_address p)) (λ h. rw h) (λ h. rw (h, n, f h))
      split true n f = by_test (eqb a (second_address p)) (λ h. rw (n, h)) (λ h. rw (n, h, f h))

  -- a conversion of the first, or of the second, where it is not the other's
  of_first : (kind : ℕ) (e : Event) → others_of true kind ≡ true → others_of second kind ≡ false
      → by_named p e First ≡ done_of p second (effect_of (picked_of p second) e)
  of_first kind e other stays = split second stays
    where
      split : (second : Bool) → others_of second kind ≡ false → by_named p e First ≡ done_of p second (effect_of (picked_of p second) e)
      split false n = refl
      split true n = clash (sym n ∙ other)

  of_second : (kind : ℕ) (e : Event) → others_of false kind ≡ true → others_of second kind ≡ false
      → by_named p e Second ≡ done_of p second (effect_of (picked_of p second) e)
  of_second kind e other stays = split second stays
    where
      split : (second : Bool) → others_of second kind ≡ false → by_named p e Second ≡ done_of p second (effect_of (picked_of p second) e)
      split true n = refl
      split false n = clash (sym n ∙ other)

  -- the record's kind and first operand, by its event
  Stays : Event → Type 0
  Stays e = else_named second (away_of p second) (get_or (encode_of e) 0 0) (get_or (encode_of e) 1 0) ≡ false

  kept : (e : Event) → Stays e → by_named p e (among_of p e) ≡ done_of p second (effect_of (picked_of p second) e)
  unfolding among_of encode_of Stays
  kept (Write a w v) n = keeps_at (Write a w v) a (neither _ _ (neither _ _ n).0).0 (λ h. elsewhere (picked_of p second) (Write a w v) h)
  kept (Read a r) n = keeps_at (Read a r) a (neither _ _ (neither _ _ n).0).0 (λ h. elsewhere (picked_of p second) (Read a r) h)
  kept (Send a r) n = keeps_at (Send a r) a (neither _ _ (neither _ _ n).0).0 (λ h. elsewhere (picked_of p second) (Send a r) h)
  kept (Receive a) n =
      let other = neither (eqb a (away_of p second)) (eqb a alert_response) (neither _ _ n).0 in
      rw other.1 (keeps_at (Receive a) a other.0 (λ h. elsewhere (picked_of p second) (Receive a) (h, other.1)))
  kept (Convert local high low) n = of_first 5 (Convert local high low) refl n
  kept (Open local) n = of_first 6 (Open local) refl n
  kept PowerOn n = clash (sym n)
  kept (ConvertSecond local high low) n = of_second 8 (ConvertSecond local high low) refl n
  kept (OpenSecond local) n = of_second 9 (OpenSecond local) refl n

  pub next_record : two_of p ≡ true → (kind a b c : ℕ) (e : Event) → decode_of p.devices kind a b c ≡ Ok e
      → else_named second (away_of p second) kind a ≡ false → ByHand p second false e
  unfolding bus_effect_of names_of Stays
  next_record two kind a b c e q stays =
      rw two (kept e (rw (kind_of p.devices kind a b c e q, operand_of p.devices kind a b c e q) at stays))

-- ---- the answer

-- a device as after power-on pulls neither line
no_lines : (v : ℕ) → pins_of (powered_of v) ≡ record { alert = false; tcrit = false }
unfolding pins_of alert_of watched_of tcrit_of powered_of
no_lines v = split (comparator_of (powered_of v)) (has (configuration_of (powered_of v)) alert_mask) (read_only_of v 0x02) (zero_at v 0x02 refl)
  where
    split : (c m : Bool) (s : ℕ) → s ≡ 0
        → ◌≡◌ {A = Pins} (record { alert = not m && has (cond c 0 s) alerting; tcrit = false }) (record { alert = false; tcrit = false })
    split true true s z = refl
    split true false s z = refl
    split false true s z = refl
    split false false s z = rw z

or_swap : (s t : Bool) → (s || t) ≡ (t || s)
or_swap true true = refl
or_swap true false = refl
or_swap false true = refl
or_swap false false = refl

swap : (p q : Pins) → joined_of p q ≡ joined_of q p
swap p q = rw (or_swap p.alert q.alert, or_swap p.tcrit q.tcrit)

alone : (p : Pins) → joined_of p (record { alert = false; tcrit = false }) ≡ p
alone p = rw (or-false p.alert, or-false p.tcrit)

module _ (p : Bus) (o : Outcome) where
  -- the device at hand does the event, the other is as it was
  two_answer : two_of p ≡ true → (second : Bool) → bus_answer_of (done_of p second o) ≡ bit_or (answer_of o) (other_lines_of p second false)
  unfolding bus_answer_of lines_of other_lines_of answer_of
  two_answer two false = rw two (line_joined (pins_of o.device) (pins_of p.second) o.acknowledged o.taken o.held)
  two_answer two true =
      rw (two, swap (pins_of p.first) (pins_of o.device))
      (line_joined (pins_of o.device) (pins_of p.first) o.acknowledged o.taken o.held)

  -- it is alone
  one_answer : two_of p ≡ false → bus_answer_of (done_of p false o) ≡ bit_or (answer_of o) (other_lines_of p false false)
  unfolding bus_answer_of lines_of other_lines_of answer_of
  one_answer one = rw (one, or_zero_r (answer_of o))

  -- both restart
  restart_answer : bus_answer_of (done_of (settled_of p true) false o) ≡ bit_or (answer_of o) (other_lines_of p false true)
  unfolding bus_answer_of lines_of other_lines_of answer_of
  restart_answer =
      by_test (two_of p)
      (λ two. rw (two, no_lines p.second.variant, alone (pins_of o.device), or_zero_r (answer_of o)))
      (λ one. rw (one, or_zero_r (answer_of o)))

-- ---- what the reader's loop does at a record

-- an outcome of the device at hand, as the reader answers it and puts it back
abbrev pub laid_of : Bus → Hand → Outcome → Answered
laid_of p h o =
    record { first = bit_or (answer_of o) h.lines; second = o.byte; bus = placed_of (settled_of p h.restart) h.second o.device }

-- the bus with this device at hand answers an event as the reader does
abbrev pub Laid : Bus → Hand → Device → Event → Type 0
Laid p h d e = answers_of (placed_of p h.second d) e ≡ laid_of p h (effect_of d e)

-- putting a device in its place changes nothing that is known of the other
away_stays : (p : Bus) (second : Bool) (d : Device) → away_of (placed_of p second d) second ≡ away_of p second
away_stays p true d = refl
away_stays p false d = refl

lines_stay : (p : Bus) (second : Bool) (d : Device) → other_lines_of (placed_of p second d) second false ≡ other_lines_of p second false
unfolding other_lines_of
lines_stay p true d = refl
lines_stay p false d = refl

picked_placed : (p : Bus) (second : Bool) (d : Device) → picked_of (placed_of p second d) second ≡ d
picked_placed p true d = refl
picked_placed p false d = refl

placed_again : (p : Bus) (second : Bool) (d x : Device) → placed_of (placed_of p second d) second x ≡ placed_of p second x
placed_again p true d x = refl
placed_again p false d x = refl

pub placed_picked : (p : Bus) (second : Bool) → placed_of p second (picked_of p second) ≡ p
placed_picked p true = refl
placed_picked p false = refl

-- a device is taken up as the second only where there are two
pub second_of_two : (p : Bus) (kind a : ℕ) → is_second (named_at p kind a) ≡ true → two_of p ≡ true
unfolding named_at
second_of_two p kind a e = by_test (two_of p) (λ t. t) (λ t. clash (rw t at e))

-- both restart only where the first is at hand
both_first : (n : Named) → is_both n ≡ true → is_second n ≡ false
both_first Neither e = refl
both_first First e = refl
both_first Second e = clash e
both_first Both e = refl

-- the answer of one device, or of two
by_count : (p : Bus) (second : Bool) (o : Outcome) → (second ≡ true → two_of p ≡ true)
    → bus_answer_of (done_of p second o) ≡ bit_or (answer_of o) (other_lines_of p second false)
by_count p second o two =
    by_test (two_of p) (λ t. two_answer p o t second)
    (λ t. split second two t)
  where
    split : (second : Bool) → (second ≡ true → two_of p ≡ true) → two_of p ≡ false
        → bus_answer_of (done_of p second o) ≡ bit_or (answer_of o) (other_lines_of p second false)
    split true two t = clash (sym t ∙ two refl)
    split false two t = one_answer p o t

-- any event that the device at hand does alone
laid_alone : (p : Bus) (second : Bool) (d : Device) (e : Event) → (second ≡ true → two_of p ≡ true) → ByHand (placed_of p second d) second false e
    → answers_of (placed_of p second d) e
    ≡ record {
      first = bit_or (answer_of (effect_of d e)) (other_lines_of p second false);
      second = (effect_of d e).byte;
      bus = placed_of p second (effect_of d e).device;
    }
laid_alone p second d e two by =
    let o = effect_of d e in
    rw (by, picked_placed p second d, by_count (placed_of p second d) second o two, lines_stay p second d, placed_again p second d o.device)

-- the record that the device is taken up for
pub hand_first : (p : Bus) (kind a b c : ℕ) (e : Event) → decode_of p.devices kind a b c ≡ Ok e
    → Laid p (hand_of p kind a) (picked_of p (hand_of p kind a).second) e
hand_first p kind a b c e q = split (named_at p kind a) (first_record p kind a b c e q) (second_of_two p kind a)
  where
    split : (n : Named) → ByHand p (is_second n) (is_both n) e → (is_second n ≡ true → two_of p ≡ true) → Laid p (hand_for p n) (picked_of p (is_second n)) e
    split Neither by two = laid_alone p false p.first e two by
    split First by two = laid_alone p false p.first e two by
    split Second by two = laid_alone p true p.second e two by
    split Both by two = rw (by, restart_answer p (effect_of p.first e))

-- a record behind it, with a device that has come of it since
pub hand_next : (p : Bus) (n : Named) (d : Device) → is_both n ≡ false → (is_second n ≡ true → two_of p ≡ true)
    → (kind a b c : ℕ) (e : Event) → decode_of p.devices kind a b c ≡ Ok e
    → leaves_of (hand_for p n) kind a ≡ false → Laid p (hand_for p n) d e
hand_next p n d lasts two kind a b c e q stays =
    rw lasts
    (laid_alone p second d e two
    (by_test (two_of p)
    (λ t. next_record (placed_of p second d) second t kind a b c e q (rw (away_stays p second d) (rw t at stays)))
    (λ t. by_test second (λ s. clash (sym t ∙ two s)) (λ f. rw f (one_device (placed_of p false d) t kind a b c e q)))))
  where
    second : Bool
    second = is_second n
