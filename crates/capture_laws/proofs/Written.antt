-- `read_back`: a capture written with the header writer and the event writer is read with code 0 and finishing code 0 as those events, and
-- answered as they are done. `written_back`: every byte string that is accepted is such a capture, of its variants and its events.
-- Assumes nothing.
use Prim.Native.Nat.{ℕ, suc, ◌+◌, ◌-◌, ◌*◌, ◌/◌, ◌%◌, ◌<◌}
use mathlib.Core.Path.{◌≡◌, refl, sym, ap, subst, ◌∙◌}
use mathlib.Core.Bool.{true, ◌||◌}
use mathlib.Core.List.{List, [], ◌∷◌, ◌++◌, append_assoc}
use native.Mathlib.Nat.{zero-add, sub-zero, div-add-mod', div-div-eq-div-mul}
use native.Mathlib.Omega.{arith}
use lib.Dec.{ltb, eqb}
use lib.ListN.{length, take, length-append}
use borrow.Author.Tests.{lt-ltb, eq-eqb, ltb-true, eqb-true, eqb-false}
use Rattle.laws.proofs.Choices.{cond_ind, by_test}
use Rattle.device.specs.declared.Event.{Event}
use Rattle.device.specs.declared.Event.TheVariants.{Write, Read, Send, Receive, Convert, Open, PowerOn, ConvertSecond, OpenSecond}
use Rattle.registers.specs.Page.{address_of}
use Rattle.device.specs.Ranges.{variant_of, operands_of, second_of}
use Rattle.record.specs.Record.{Record}
use Rattle.std.specs.Prelude.{Ok, Err}
use Rattle.record.specs.declared.refusal.Refusal.{Refusal}
use Rattle.record.specs.declared.refusal.Refusal.TheVariants.{Kind, Operand}
use Rattle.record.specs.Record.{encode_of, code_of}
use Rattle.record.specs.Writer.{count_bytes_of, header_of}
use Rattle.record.proofs.RoundTrip.{reads_back, only_those}
use Rattle.record.specs.Fours.{Quad, quad_of, quads, over, event_then, events_in}
use Rattle.pair.specs.declared.Bus.{Bus}
use Rattle.pair.specs.Bus.{answers_of}
use Rattle.pair.proofs.Kept.{same_count}
use Rattle.pair_laws.specs.Stepping.{Allowed}
use Rattle.pair.proofs.Heading.{counts}
use Rattle.capture.specs.Whole.{Whole, on_record, then_of, number, records_of, record_count_of}
use Rattle.capture.specs.Whole.{first_taken, both_of, second_variant_of, variants_of, whole_of}
use Rattle.capture_laws.specs.Codes.{number_header, second_header}
use Rattle.capture_laws.specs.Events.{events_behind, events_of, second_in, variants_in, bus_of, bus_in}
use Rattle.capture_laws.specs.Schedule.{Bytes}
use Rattle.capture_laws.specs.Written.{records_bytes, capture_of, Sound, ReadBack, WrittenBack}
use Rattle.capture_laws.proofs.Stepping.{stepped, refused, counted, uncounted, step_by_step}

-- ---- one record

-- an event's record as its four bytes
record Four (e : Event) : Type 0 where
  quad : Quad
  bytes : encode_of e ≡ quad.kind ∷ quad.a ∷ quad.b ∷ quad.c ∷ []

abbrev four : ℕ → ℕ → ℕ → ℕ → Quad
four kind a b c = record { kind = kind; a = a; b = b; c = c }

four_of : (e : Event) → Four e
unfolding encode_of
four_of (Write a b c) = record { quad = four 1 a b c; bytes = refl }
four_of (Read a b) = record { quad = four 2 a b 0; bytes = refl }
four_of (Send a b) = record { quad = four 3 a b 0; bytes = refl }
four_of (Receive a) = record { quad = four 4 a 0 0; bytes = refl }
four_of (Convert a b c) = record { quad = four 5 a b c; bytes = refl }
four_of (Open a) = record { quad = four 6 a 0 0; bytes = refl }
four_of PowerOn = record { quad = four 7 0 0 0; bytes = refl }
four_of (ConvertSecond a b c) = record { quad = four 8 a b c; bytes = refl }
four_of (OpenSecond a) = record { quad = four 9 a 0 0; bytes = refl }

module _ (n k : ℕ) (d : Bus) (e : Event) (xs : List ℕ) where
  abbrev rest : Whole
  rest = records_of n (k + 1) (answers_of d e).bus (quads xs) (over xs)

  one_record : operands_of e ≡ true → (second_of e ≡ true → d.devices ≡ 2) → k < n
      → records_of n k d (quads (encode_of e ++ xs)) (over (encode_of e ++ xs)) ≡ then_of 4 ((answers_of d e).first ∷ (answers_of d e).second ∷ []) rest
  unfolding records_of
  one_record h under l =
      let f = four_of e in
      let valid : quad_of d.devices f.quad ≡ Ok e = rw f.bytes at (reads_back d.devices e h under) in
      rw f.bytes (simp (lt-ltb k n l, valid))

-- ---- all records

record Reads (w : Whole) (es : List Event) : Type 0 where
  code : w.code ≡ 0
  finishing : w.finishing ≡ 0
  consumed : w.consumed ≡ length (records_bytes es)

all_records : (n k : ℕ) (d : Bus) (es : List Event) → k + length es ≡ n → Allowed d.devices es
    → Reads (records_of n k d (quads (records_bytes es)) (over (records_bytes es))) es
unfolding records_of
all_records n k d [] e a =
    let end : k ≡ n = omega arith in
    record { code = refl; finishing = rw (eq-eqb k n end); consumed = refl }
all_records n k d (e ∷ es) s a =
    let rest = subst (λ (devices : ℕ). Allowed devices es) (sym (same_count d e)) a.2 in
    let r = all_records n (k + 1) (answers_of d e).bus es (omega arith) rest in
    let four_long : length (encode_of e) ≡ 4 = rw (four_of e).bytes in
    rw (one_record n k d e (records_bytes es) a.0 a.1 (omega arith))
    (record { code = r.code; finishing = r.finishing; consumed = rw r.consumed (simp (length-append, four_long)) })

-- their events
events_read : (devices : ℕ) (es : List Event) → Allowed devices es → events_in devices (take (length es) (quads (records_bytes es))) ≡ es
events_read devices [] a = refl
events_read devices (e ∷ es) a =
    let f = four_of e in
    let valid : quad_of devices f.quad ≡ Ok e = rw f.bytes at (reads_back devices e a.0 a.1) in
    rw (f.bytes, valid, events_read devices es a.2)

-- ---- the header

top : (n : ℕ) → n < 0x100000000 → n / 0x1000000 % 0x100 ≡ n / 0x1000000
top n h = omega arith

-- four bytes of a number, highest first, are the number
number_back : (n : ℕ) → n < 0x100000000 → number 0 (n / 0x1000000 % 0x100 ∷ n / 0x10000 % 0x100 ∷ n / 0x100 % 0x100 ∷ n % 0x100 ∷ []) ≡ n
number_back n h =
    let two : n / 0x10000 ≡ n / 0x100 / 0x100 = sym (div-div-eq-div-mul n 0x100 0x100) in
    let three : n / 0x1000000 ≡ n / 0x10000 / 0x100 = sym (div-div-eq-div-mul n 0x10000 0x100) in
    let a : n / 0x1000000 % 0x100 ≡ n / 0x1000000 = top n h in
    let b : n / 0x1000000 * 0x100 + n / 0x10000 % 0x100 ≡ n / 0x10000 = rw three (div-add-mod' (n / 0x10000) 0x100) in
    let c : n / 0x10000 * 0x100 + n / 0x100 % 0x100 ≡ n / 0x100 = rw two (div-add-mod' (n / 0x100) 0x100) in
    simp (zero-add, a, b, c, div-add-mod' n 0x100)

-- behind the header of one device, or of two
module _ (variants : List ℕ) (p : Bus) (es : List Event) (l : length es < 0x100000000) (a : Allowed p.devices es) where
  abbrev records : Whole
  records = records_of (length es) 0 p (quads (records_bytes es)) (over (records_bytes es))

  -- the whole of it is its records', and its events are those
  record Opens (header : ℕ) : Type 0 where
    code : (whole_of (capture_of variants es)).code ≡ records.code
    finishing : (whole_of (capture_of variants es)).finishing ≡ records.finishing
    consumed : (whole_of (capture_of variants es)).consumed ≡ header + records.consumed
    long : length (capture_of variants es) ≡ header + length (records_bytes es)
    given : variants_in (capture_of variants es) ≡ variants
    made : bus_in (capture_of variants es) ≡ p
    alike : bus_of (length variants) variants ≡ p
    events : events_of (capture_of variants es) ≡ es

  opened : {header : ℕ} → Opens header → ReadBack variants es
  opened o =
      let r = all_records (length es) 0 p es (omega arith) a in
      let s = step_by_step (capture_of variants es) in
      record {
        code = o.code ∙ r.code;
        finishing = o.finishing ∙ r.finishing;
        consumed = omega (arith, o.consumed, r.consumed, o.long);
        variants_read = o.given;
        events = o.events;
        answers = rw o.alike (rw (o.made, o.events) at s.answers);
        bus = rw o.alike (rw (o.made, o.events) at s.bus);
      }

  pub counted_events : events_in p.devices (take (number 0 (count_bytes_of (length es))) (quads (records_bytes es))) ≡ es
  unfolding count_bytes_of
  counted_events =
      ap (λ (m : ℕ). events_in p.devices (take m (quads (records_bytes es)))) (number_back (length es) l) ∙ events_read p.devices es a

pub read_back : (variants : List ℕ) (es : List Event) → Sound variants → length es < 0x100000000 → Allowed (length variants) es → ReadBack variants es
unfolding whole_of variants_of second_variant_of record_count_of header_of count_bytes_of variants_in bus_in events_of
read_back _ es (Sound.one {v} e) l a =
    opened (v ∷ []) (first_taken 1 v) es l a {header = 6}
    (record {
      code = simp (e, number_back (length es) l);
      finishing = simp (e, number_back (length es) l);
      consumed = simp (e, number_back (length es) l) (omega arith);
      long = omega arith;
      given = simp e;
      made = simp e;
      alike = refl;
      events = simp e (counted_events (v ∷ []) (first_taken 1 v) es l a);
    })
read_back _ es (Sound.two {v} {w} e f g) l a =
    opened (v ∷ w ∷ []) (both_of v w) es l a {header = 7}
    (record {
      code = simp (e, f, g, number_back (length es) l);
      finishing = simp (e, f, g, number_back (length es) l);
      consumed = simp (e, f, g, number_back (length es) l) (omega arith);
      long = omega arith;
      given = simp (e, f, g);
      made = simp (e, f, g);
      alike = refl;
      events = simp (e, f, g) (counted_events (v ∷ w ∷ []) (both_of v w) es l a);
    })

-- ---- every accepted capture is written so

-- the events of some records, with the bytes that they were read from
record Reread (devices : ℕ) (xs : List ℕ) (n : ℕ) (es : List Event) : Type 0 where
  bytes : xs ≡ records_bytes es
  allowed : Allowed devices es
  count : length es ≡ n

-- a valid record, before those that are reread already
one_more : (devices : ℕ) (q : Quad) (xs : List ℕ) (n : ℕ) (es : List Event) (e : Event) → quad_of devices q ≡ Ok e → Reread devices xs n es
    → Reread devices (q.kind ∷ q.a ∷ q.b ∷ q.c ∷ xs) (suc n) (e ∷ es)
one_more devices q xs n es e v r =
    let t = only_those devices q.kind q.a q.b q.c e v in
    record { bytes = rw (← t.bytes, ← r.bytes) refl; allowed = (t.operands, t.count, r.allowed); count = ap suc r.count }

-- a refusal is no acceptance
some_code : (why : Refusal) → code_of (Err why) ≡ 0 → ⊥
unfolding code_of
some_code Kind z = omega arith
some_code Operand z = omega arith

module _ (n k : ℕ) (d : Bus) where
  -- bytes over are no acceptance
  none_over : (x : ℕ) (l : List ℕ) → (records_of n k d [] (x ∷ l)).finishing ≡ 0 → ⊥
  unfolding records_of
  none_over x l = cond_ind (λ (w : Whole). w.finishing ≡ 0 → ⊥) (ltb k n) (λ _ z. omega arith) (λ _ z. omega arith)

  at_end : (records_of n k d [] []).finishing ≡ 0 → Reread d.devices [] (n - k) (events_in d.devices (take (n - k) []))
  unfolding records_of
  at_end z =
      by_test (eqb k n)
      (λ e. let none : n - k ≡ 0 = omega (arith, eqb-true k n e) in rw none (record { bytes = refl; allowed = tt; count = refl }))
      (λ e. absurd (omega (arith, rw e at z)))

  -- a counted record, judged; what is reread behind it comes from the acceptance of the rest
  module _ (q : Quad) (xs : List ℕ) (m : ℕ) (es : List Event) where
    abbrev outcome : Record → Whole
    outcome r = on_record r (stepped n k d q (quads xs) (over xs)) (refused n k d q (quads xs) (over xs))

    judged : ((e : Event) → (records_of n (k + 1) (answers_of d e).bus (quads xs) (over xs)).finishing ≡ 0 → Reread d.devices xs m es)
        → (r : Record) → quad_of d.devices q ≡ r → (outcome r).finishing ≡ 0
        → Reread d.devices (q.kind ∷ q.a ∷ q.b ∷ q.c ∷ xs) (suc m) (event_then r es)
    judged behind (Ok e) v z = one_more d.devices q xs m es e v (behind e z)
    judged behind (Err why) v z = absurd (some_code why z)

reread : (n k : ℕ) (d : Bus) (xs : List ℕ) → (records_of n k d (quads xs) (over xs)).finishing ≡ 0
    → Reread d.devices xs (n - k) (events_in d.devices (take (n - k) (quads xs)))
reread n k d [] z = at_end n k d z
reread n k d (x ∷ []) z = absurd (none_over n k d x [] z)
reread n k d (x ∷ y ∷ []) z = absurd (none_over n k d x (y ∷ []) z)
reread n k d (x ∷ y ∷ w ∷ []) z = absurd (none_over n k d x (y ∷ w ∷ []) z)
reread n k d (kind ∷ a ∷ b ∷ c ∷ xs) z =
    let q = four kind a b c in
    let m = n - (k + 1) in
    by_test (ltb k n)
    (λ e.
    let one : n - k ≡ suc m = omega (arith, ltb-true k n e) in
    rw one
    (judged n k d q xs m (events_in d.devices (take m (quads xs)))
    (λ e y.
    subst (λ (devices : ℕ). Reread devices xs m (events_in devices (take m (quads xs)))) (same_count d e) (reread n (k + 1) (answers_of d e).bus xs y))
    (quad_of d.devices q) refl
    (rw (counted n k d q (quads xs) (over xs) e) at z)))
    (λ e. absurd (omega (arith, rw (uncounted n k d q (quads xs) (over xs) e) at z)))

-- four bytes, as the writer puts their number
digits : (a b c d : ℕ) → a < 256 → b < 256 → c < 256 → d < 256 → count_bytes_of (number 0 (a ∷ b ∷ c ∷ d ∷ [])) ≡ a ∷ b ∷ c ∷ d ∷ []
unfolding count_bytes_of
digits a b c d l m n o =
    let count = number 0 (a ∷ b ∷ c ∷ d ∷ []) in
    let first : count / 0x1000000 % 0x100 ≡ a = omega arith in
    let second : count / 0x10000 % 0x100 ≡ b = omega arith in
    let third : count / 0x100 % 0x100 ≡ c = omega arith in
    let fourth : count % 0x100 ≡ d = omega arith in
    rw (first, second, third, fourth)

-- what holds of each event and of each refusal holds of a record
by_record : (P : Whole → Type 0) (r : Record) (step : Event → Whole) (refuse : ℕ → Whole) → ((e : Event) → P (step e)) → ((code : ℕ) → P (refuse code))
    → P (on_record r step refuse)
by_record P (Ok e) step refuse f g = f e
by_record P (Err why) step refuse f g = g (code_of (Err why))

-- the record count stays what the header says
count_kept : (n k : ℕ) (d : Bus) (qs : List Quad) (l : List ℕ) → (records_of n k d qs l).reader.count ≡ n
unfolding records_of
count_kept n k d [] [] = refl
count_kept n k d [] (x ∷ l) = cond_ind (λ (w : Whole). w.reader.count ≡ n) (ltb k n) (λ _. refl) (λ _. refl)
count_kept n k d (q ∷ qs) l =
    by_test (ltb k n)
    (λ e.
    rw (counted n k d q qs l e)
    (by_record (λ (w : Whole). w.reader.count ≡ n) (quad_of d.devices q) (stepped n k d q qs l) (refused n k d q qs l)
    (λ e. count_kept n (k + 1) (answers_of d e).bus qs l) (λ _. refl)))
    (λ e. rw (uncounted n k d q qs l e) refl)

-- a capture, as it is written for some variants and events
record Rewritten (devices : ℕ) (xs variants : List ℕ) (w : Whole) (es : List Event) : Type 0 where
  allowed : Allowed devices es
  count : length es ≡ w.reader.count
  small : length es < 0x100000000
  same : xs ≡ capture_of variants es

-- behind its variant bytes
recount : (variants : List ℕ) (p : Bus) (xs : List ℕ) → Bytes xs → (record_count_of p xs).finishing ≡ 0
    → Rewritten p.devices (length variants ∷ variants ++ xs) variants (record_count_of p xs) (events_behind (number_header p.devices 4 0 xs))
unfolding record_count_of header_of
recount variants p [] k z = absurd (omega arith)
recount variants p (a ∷ []) k z = absurd (omega arith)
recount variants p (a ∷ b ∷ []) k z = absurd (omega arith)
recount variants p (a ∷ b ∷ c ∷ []) k z = absurd (omega arith)
recount variants p (a ∷ b ∷ c ∷ d ∷ xs) k z =
    let n = number 0 (a ∷ b ∷ c ∷ d ∷ []) in
    let r = rw (sub-zero n) at (reread n 0 p xs z) in
    let header = digits a b c d k.0 k.1.0 k.1.1.0 k.1.1.1.0 in
    record {
      allowed = r.allowed;
      count = r.count ∙ sym (count_kept n 0 p (quads xs) (over xs));
      small = rw r.count (omega (arith, k.0, k.1.0, k.1.1.0, k.1.1.1.0));
      same = rw (r.count, header, ← r.bytes) (ap (λ (ys : List ℕ). length variants ∷ ys) (sym (append_assoc variants (a ∷ b ∷ c ∷ d ∷ []) xs)));
    }

-- header bytes before it
before : {devices : ℕ} {xs variants : List ℕ} {w : Whole} {es : List Event} (n : ℕ) → Rewritten devices xs variants w es
    → Rewritten devices xs variants (then_of n [] w) es
before n r = record { allowed = r.allowed; count = r.count; small = r.small; same = r.same }

-- behind the first variant of two
second_back : (v : ℕ) → variant_of v ≡ true → (xs : List ℕ) → Bytes xs → (second_variant_of v xs).finishing ≡ 0
    → Sound (v ∷ second_in v xs) × (length (v ∷ second_in v xs) ≡ 2)
    × Rewritten 2 (2 ∷ v ∷ xs) (v ∷ second_in v xs) (second_variant_of v xs) (events_behind (second_header v xs))
unfolding second_variant_of
second_back v e [] k z = absurd (omega arith)
second_back v e (w ∷ xs) k z =
    by_test (variant_of w)
    (λ f. by_test (eqb (address_of w) (address_of v))
    (λ g. absurd (omega (arith, rw (f, g) at z)))
    (λ g. rw (f, g) (Sound.two e f g, refl, before 1 (recount (v ∷ w ∷ []) (both_of v w) xs k.1 (rw (f, g) at z)))))
    (λ f. absurd (omega (arith, rw f at z)))

pub written_back : (xs : List ℕ) → Bytes xs → (whole_of xs).finishing ≡ 0 → WrittenBack xs
unfolding whole_of variants_of events_of variants_in
written_back [] k z = absurd (omega arith)
written_back (n ∷ []) k z =
    by_test (eqb n 1 || eqb n 2) (λ e. absurd (omega (arith, rw e at z))) (λ e. absurd (omega (arith, rw e at z)))
written_back (n ∷ v ∷ xs) k z =
    by_test (eqb n 1 || eqb n 2)
    (λ e. by_test (variant_of v)
    (λ f. by_test (eqb n 2)
    (λ g.
    let r = second_back v f xs k.1.1 (rw (e, f, g) at z) in
    let two = eqb-true n 2 g in
    rw two
    (record {
      variants = rw f r.0;
      allowed = rw f (rw r.1 r.2.allowed);
      count = rw f r.2.count;
      small = rw f r.2.small;
      same = rw f r.2.same;
    }))
    (λ g.
    let one : n ≡ 1 = omega (arith, counts n e, eqb-false n 2 g) in
    let r = recount (v ∷ []) (first_taken 1 v) xs k.1.1 (rw f at (rw one at z)) in
    rw one
    (record {
      variants = rw f (Sound.one f);
      allowed = rw f r.allowed;
      count = rw f r.count;
      small = rw f r.small;
      same = rw f r.same;
    })))
    (λ f. absurd (omega (arith, rw (e, f) at z))))
    (λ e. absurd (omega (arith, rw e at z)))
