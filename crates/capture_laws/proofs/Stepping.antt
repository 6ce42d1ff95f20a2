-- The records are done by demand 2. `step_by_step`: of every byte string, the whole-capture definition gives the answers and the bus of doing the
-- capture's events one after the other from power-on; each of its devices is stepped by value, with code 0, through the events that it sees.
-- Assumes nothing.
use Prim.Native.Nat.{ℕ, zero, suc, ◌+◌, ◌-◌, ◌*◌}
use mathlib.Core.Path.{◌≡◌, refl, sym, ap, subst, ◌∙◌}
use mathlib.Core.Bool.{Bool, true, false, ◌||◌}
use mathlib.Core.List.{List, [], ◌∷◌}
use native.Mathlib.Omega.{arith}
use native.Mathlib.Nat.{sub-zero}
use lib.Dec.{ltb, eqb}
use lib.ListN.{length, take}
use lib.Seq.{take-nil}
use borrow.Author.Tests.{ltb-true, ltb-false, eqb-true, eqb-false, ne_eqb}
use Rattle.laws.proofs.Choices.{clash, cond_ind, by_test}
use Rattle.registers.specs.Page.{address_of}
use Rattle.device.specs.declared.Event.{Event}
use Rattle.device.specs.Bus.{powered_of}
use Rattle.device.specs.Ranges.{variant_of}
use Rattle.device.specs.Run.{replies_of}
use Rattle.device.proofs.InRange.{powered_in_range, powered_variant}
use Rattle.record.specs.Record.{Record}
use Rattle.std.specs.Prelude.{Ok, Err}
use Rattle.record.specs.Record.{code_of}
use Rattle.record.proofs.RoundTrip.{only_those}
use Rattle.record.specs.Fours.{Quad, quad_of, quads, over, event_then, events_in}
use Rattle.pair.specs.declared.Bus.{Bus}
use Rattle.pair.specs.Bus.{zero_bus, two_of, picked_of, first_address, second_address, answers_of}
use Rattle.pair.proofs.Kept.{same_count}
use Rattle.pair_laws.specs.Devices.{present_of}
use Rattle.pair_laws.specs.Seen.{bus_answers, bus_after}
use Rattle.pair_laws.specs.Stepping.{Able, Ready, Allowed, replied_in, Stepped}
use Rattle.pair_laws.proofs.Stepping.{each_stepped, alone_replies, ready}
use Rattle.capture.specs.declared.Reader.{Reader}
use Rattle.capture.specs.Reader.{header_length_of, ranges_of}
use Rattle.capture.specs.Whole.{Whole, number, on_record, then_of, refuses_of, recording, first_taken, both_of, none_of}
use Rattle.capture.specs.Whole.{records_of, record_count_of, second_variant_of, variants_of, whole_of}
use Rattle.capture.proofs.InRange.{ranges}
use Rattle.capture_laws.specs.Codes.{number_header, second_header}
use Rattle.capture_laws.specs.Events.{events_behind, events_of, second_in, variants_in, bus_of, bus_in, answered_bytes, StepByStep}

-- ---- the records

-- what is left of a capture, with these events ahead of the bus and k records done
pub record Steps (w : Whole) (k : ℕ) (p : Bus) (es : List Event) : Type 0 where
  pub answers : w.answers ≡ answered_bytes (bus_answers p es)
  pub bus : w.reader.bus ≡ bus_after p es
  pub done : w.reader.done ≡ k + length es

-- no events: nothing is answered, the bus stays
no_events : (w : Whole) (k : ℕ) (p : Bus) → w.answers ≡ [] → w.reader.bus ≡ p → w.reader.done ≡ k → Steps w k p []
no_events w k p a s n = record { answers = a; bus = s; done = omega arith }

one_event : (w : Whole) (k : ℕ) (p : Bus) (e : Event) (es : List Event) → Steps w (k + 1) (answers_of p e).bus es
    → Steps (then_of 4 ((answers_of p e).first ∷ (answers_of p e).second ∷ []) w) k p (e ∷ es)
one_event w k p e es s = record { answers = rw s.answers; bus = s.bus; done = omega (arith, s.done) }

-- a record that is counted, judged
module _ (n k : ℕ) (p : Bus) (q : Quad) (qs : List Quad) (l : List ℕ) where
  abbrev pub stepped : Event → Whole
  stepped e = then_of 4 ((answers_of p e).first ∷ (answers_of p e).second ∷ []) (records_of n (k + 1) (answers_of p e).bus qs l)

  abbrev pub refused : ℕ → Whole
  refused code = then_of 3 [] (refuses_of (recording n k p (q.kind ∷ q.a ∷ q.b ∷ [])) code)

  pub counted : ltb k n ≡ true → records_of n k p (q ∷ qs) l ≡ on_record (quad_of p.devices q) stepped refused
  unfolding records_of
  counted e = rw e

  pub uncounted : ltb k n ≡ false → records_of n k p (q ∷ qs) l ≡ refuses_of (recording n k p []) 5
  unfolding records_of
  uncounted e = rw e

  judged : (es : List Event) → ((e : Event) → Steps (records_of n (k + 1) (answers_of p e).bus qs l) (k + 1) (answers_of p e).bus es)
      → (r : Record) → Steps (on_record r stepped refused) k p (event_then r es)
  judged es rest (Ok e) = one_event _ k p e es (rest e)
  judged es rest (Err why) = no_events (refused (code_of (Err why))) k p refl refl refl

-- no event changes the device count that the records behind it are read under
records_stepped : (n k : ℕ) (p : Bus) (qs : List Quad) (l : List ℕ) → Steps (records_of n k p qs l) k p (events_in p.devices (take (n - k) qs))
unfolding records_of
records_stepped n k p [] [] = rw (take-nil {A = Quad} (n - k)) (no_events _ k p refl refl refl)
records_stepped n k p [] (x ∷ l) =
    rw (take-nil {A = Quad} (n - k))
    (cond_ind (λ (w : Whole). Steps w k p []) (ltb k n) (λ _. no_events _ k p refl refl refl) (λ _. no_events _ k p refl refl refl))
records_stepped n k p (q ∷ qs) l =
    by_test (ltb k n)
    (λ e.
    let one : n - k ≡ suc (n - (k + 1)) = omega (arith, ltb-true k n e) in
    rw (counted n k p q qs l e, one)
    (judged n k p q qs l (events_in p.devices (take (n - (k + 1)) qs))
    (λ e.
    subst (λ (devices : ℕ). Steps (records_of n (k + 1) (answers_of p e).bus qs l) (k + 1) (answers_of p e).bus (events_in devices (take (n - (k + 1)) qs)))
    (same_count p e) (records_stepped n (k + 1) (answers_of p e).bus qs l))
    (quad_of p.devices q)))
    (λ e.
    let none : n - k ≡ 0 = omega (arith, ltb-false k n e) in
    rw (uncounted n k p q qs l e, none) (no_events (refuses_of (recording n k p []) 5) k p refl refl refl))

-- ---- from any state in its ranges

-- its header complete: over any row of events each device is stepped by value through what it sees
pub as_stepped : (s : Reader) → ranges_of s ≡ true → s.head ≡ header_length_of s → (es : List Event) → Allowed s.bus.devices es
    → (second : Bool) → present_of s.bus second ≡ true → Stepped s.bus second es (picked_of (bus_after s.bus es) second)
as_stepped s r h es a second here =
    each_stepped s.bus (ready s.head s.bus (omega (arith, h)) (ranges s r).bus) es a second here

-- ---- the header

-- bytes of the header before it
behind : {w : Whole} {k : ℕ} {p : Bus} {es : List Event} (n : ℕ) → Steps w k p es → Steps (then_of n [] w) k p es
behind n s = record { answers = s.answers; bus = s.bus; done = s.done }

-- behind the variant bytes
count_stepped : (p : Bus) (xs : List ℕ) → Steps (record_count_of p xs) 0 p (events_behind (number_header p.devices 4 0 xs))
unfolding record_count_of
count_stepped p [] = no_events _ 0 p refl refl refl
count_stepped p (a ∷ []) = no_events _ 0 p refl refl refl
count_stepped p (a ∷ b ∷ []) = no_events _ 0 p refl refl refl
count_stepped p (a ∷ b ∷ c ∷ []) = no_events _ 0 p refl refl refl
count_stepped p (a ∷ b ∷ c ∷ d ∷ xs) =
    let n = number 0 (a ∷ b ∷ c ∷ d ∷ []) in
    behind 4 (rw (sub-zero n) at (records_stepped n 0 p (quads xs) (over xs)))

second_stepped : (v : ℕ) (xs : List ℕ) → Steps (second_variant_of v xs) 0 (bus_of 2 (v ∷ second_in v xs)) (events_behind (second_header v xs))
unfolding second_variant_of
second_stepped v [] = no_events _ 0 (first_taken 2 v) refl refl refl
second_stepped v (w ∷ xs) =
    by_test (variant_of w)
    (λ e. by_test (eqb (address_of w) (address_of v))
    (λ f. rw (e, f) (no_events _ 0 (first_taken 2 v) refl refl refl))
    (λ f. rw (e, f) (behind 1 (count_stepped (both_of v w) xs))))
    (λ e. rw e (no_events _ 0 (first_taken 2 v) refl refl refl))

whole_stepped : (xs : List ℕ) → Steps (whole_of xs) 0 (bus_in xs) (events_of xs)
unfolding whole_of variants_of events_of variants_in bus_in
whole_stepped [] = no_events _ 0 zero_bus refl refl refl
whole_stepped (n ∷ []) =
    by_test (eqb n 1 || eqb n 2) (λ e. rw e (no_events _ 0 (none_of n) refl refl refl)) (λ e. rw e (no_events _ 0 zero_bus refl refl refl))
whole_stepped (n ∷ v ∷ xs) =
    by_test (eqb n 1 || eqb n 2)
    (λ e. by_test (variant_of v)
    (λ f. by_test (eqb n 2)
    (λ g. rw (e, f, g, eqb-true n 2 g) (behind 1 (behind 1 (second_stepped v xs))))
    (λ g. rw (e, f, g) (behind 1 (behind 1 (count_stepped (first_taken n v) xs)))))
    (λ f. rw (e, f) (no_events _ 0 (none_of n) refl refl refl)))
    (λ e. rw e (no_events _ 0 zero_bus refl refl refl))

-- ---- the events are allowed

-- under its count a record's event is
events_in_allowed : (devices : ℕ) (qs : List Quad) → Allowed devices (events_in devices qs)
events_in_allowed devices [] = tt
events_in_allowed devices (q ∷ qs) = judge (quad_of devices q) refl (events_in devices qs) (events_in_allowed devices qs)
  where
    judge : (r : Record) → quad_of devices q ≡ r → (es : List Event) → Allowed devices es → Allowed devices (event_then r es)
    judge (Ok e) v es rest =
        let t = only_those devices q.kind q.a q.b q.c e v in
        (t.operands, t.count, rest)
    judge (Err why) v es rest = tt

-- ---- a capture's bus is ready where it has events

powered_able : (v : ℕ) → variant_of v ≡ true → Able (powered_of v)
powered_able v known = record { known = rw (powered_variant v) known; ranged = powered_in_range v }

one_ready : (devices v : ℕ) → eqb devices 2 ≡ false → variant_of v ≡ true → Ready (first_taken devices v)
one_ready devices v one known = record { able = here; apart = λ two. clash (sym one ∙ two) }
  where
    here : (second : Bool) → present_of (first_taken devices v) second ≡ true → Able (picked_of (first_taken devices v) second)
    here false h = powered_able v known
    here true h = clash (sym one ∙ h)

both_ready : (v w : ℕ) → variant_of v ≡ true → variant_of w ≡ true → eqb (address_of w) (address_of v) ≡ false → Ready (both_of v w)
both_ready v w known other apart = record { able = here; apart = λ _. record { two = refl; apart = addresses } }
  where
    here : (second : Bool) → present_of (both_of v w) second ≡ true → Able (picked_of (both_of v w) second)
    here false h = powered_able v known
    here true h = powered_able w other

    addresses : eqb (first_address (both_of v w)) (second_address (both_of v w)) ≡ false
    addresses = rw (powered_variant v, powered_variant w) (ne_eqb (address_of v) (address_of w) (λ e. eqb-false (address_of w) (address_of v) apart (sym e)))

-- no events, or a bus that is ready for them
data Doing (p : Bus) : List Event → Type 0 where
  nothing : Doing p []
  doing : {es : List Event} → Ready p → Allowed p.devices es → Doing p es

number_doing : (p : Bus) → Ready p → (m n : ℕ) (xs : List ℕ) → Doing p (events_behind (number_header p.devices m n xs))
number_doing p i zero n xs = doing i (events_in_allowed p.devices (take n (quads xs)))
number_doing p i (suc m) n [] = nothing
number_doing p i (suc m) n (b ∷ xs) = number_doing p i m (n * 256 + b) xs

second_doing : (v : ℕ) → variant_of v ≡ true → (xs : List ℕ) → Doing (bus_of 2 (v ∷ second_in v xs)) (events_behind (second_header v xs))
second_doing v known [] = nothing
second_doing v known (w ∷ xs) =
    by_test (variant_of w)
    (λ e. by_test (eqb (address_of w) (address_of v))
    (λ f. rw (e, f) nothing)
    (λ f. rw (e, f) (number_doing (both_of v w) (both_ready v w known e f) 4 0 xs)))
    (λ e. rw e nothing)

whole_doing : (xs : List ℕ) → Doing (bus_in xs) (events_of xs)
unfolding events_of variants_in bus_in
whole_doing [] = nothing
whole_doing (n ∷ []) = by_test (eqb n 1 || eqb n 2) (λ e. rw e nothing) (λ e. rw e nothing)
whole_doing (n ∷ v ∷ xs) =
    by_test (eqb n 1 || eqb n 2)
    (λ e. by_test (variant_of v)
    (λ f. by_test (eqb n 2)
    (λ g. rw (e, f, g, eqb-true n 2 g) (second_doing v f xs))
    (λ g. rw (e, f, g) (number_doing (first_taken n v) (one_ready n v g f) 4 0 xs)))
    (λ f. rw (e, f) nothing))
    (λ e. rw e nothing)

each_of : {p : Bus} {es : List Event} → Doing p es → (second : Bool) → present_of p second ≡ true → Stepped p second es (picked_of (bus_after p es) second)
each_of nothing second here = record { codes = tt; device = refl }
each_of {p} {es} (doing i a) second here = each_stepped p i es a second here

alone_of : {p : Bus} {es : List Event} → Doing p es → two_of p ≡ false → bus_answers p es ≡ replied_in (replies_of p.first es)
alone_of nothing one = refl
alone_of {p} {es} (doing i a) one = alone_replies p i es a one

-- the theorem
pub step_by_step : (xs : List ℕ) → StepByStep xs
step_by_step xs =
    let s = whole_stepped xs in
    let d = whole_doing xs in
    record {
      answers = s.answers;
      bus = s.bus;
      done = omega (arith, s.done);
      each = λ second here. rw s.bus (each_of d second here);
      alone = λ one. s.answers ∙ ap answered_bytes (alone_of d one);
    }
