-- The front of a capture: its header and some bytes behind it. `headed`: a capture whose finishing code is 0 has a complete header. `front_variants`,
-- `front_bus`, `front_events`: of its front the variants and the bus at them are the same, and the events are its first ones, one for each four bytes.
-- `reached`: of an accepted capture's first k records no byte is refused, so many records are done, and the answers are its first ones. `all`: with
-- k its record count they are the capture.
-- Assumes nothing.
use mathlib.Core.Path.{◌≡◌, refl, sym, ap, subst, ◌∙◌}
use mathlib.Core.Bool.{true, false, ◌||◌}
use mathlib.Core.List.{List, [], ◌∷◌, ◌++◌}
use Prim.Native.Nat.{ℕ, zero, suc, ◌+◌, ◌*◌, ◌/◌, ◌%◌, ◌≤◌, ◌<◌}
use native.Mathlib.Omega.{arith}
use native.Mathlib.Nat.{zero-add}
use lib.Dec.{eqb, ltb}
use lib.ListN.{length, get_or, take, drop, take-append-drop}
use lib.Seq.{take_all, take_at, length-take-le}
use borrow.Author.Tests.{eqb-true, eqb-false}
use Rattle.laws.proofs.Choices.{by_test, clash}
use Rattle.registers.specs.Page.{address_of}
use Rattle.device.specs.declared.Event.{Event}
use Rattle.device.specs.Ranges.{variant_of}
use Rattle.record.specs.Record.{Record}
use Rattle.std.specs.Prelude.{Ok, Err}
use Rattle.record.specs.declared.refusal.Refusal.TheVariants.{Kind, Operand}
use Rattle.record.specs.Record.{code_of}
use Rattle.record.specs.Fours.{Quad, quads, over, quad_of, event_then, events_in}
use Rattle.pair.specs.declared.Bus.{Bus}
use Rattle.pair.specs.Bus.{answers_of}
use Rattle.capture.specs.Reader.{Out, fresh_of}
use Rattle.capture.specs.Whole.{Whole, number, on_record, then_of, refuses_of, recording}
use Rattle.capture.specs.Whole.{records_of, record_count_of, second_variant_of, variants_of, whole_of}
use Rattle.capture_laws.specs.Events.{events_of, variants_in, bus_in}
use Rattle.capture_laws.specs.Schedule.{after}
use Rattle.capture_laws.proofs.Run.{run_of, run_append}
use Rattle.capture_laws.proofs.Sections.{whole_run}
use Rattle.capture_laws.proofs.Cuts.{whole_call}
use Rattle.capture_laws.proofs.Places.{stands}
use Rattle.capture_laws.proofs.Fours.{run_even, run_code}
use Rattle.capture_laws.proofs.Stepping.{step_by_step}
use Rattle.history.proofs.Feeding.{held_to_the_end}
use Rattle.history.specs.Latches.{Accepted, Reached, record_count, header_bytes, front}

-- ---- a complete header

pub data Headed : List ℕ → Type 0 where
  one : (v a b c d : ℕ) (l : List ℕ) → variant_of v ≡ true → Headed (1 ∷ v ∷ a ∷ b ∷ c ∷ d ∷ l)
  two : (v w a b c d : ℕ) (l : List ℕ) → variant_of v ≡ true → variant_of w ≡ true → eqb (address_of w) (address_of v) ≡ false
      → Headed (2 ∷ v ∷ w ∷ a ∷ b ∷ c ∷ d ∷ l)

-- the bytes of the record count, behind what makes a header of them
counted : (P : List ℕ → Type 0) (bus : _) (xs : List ℕ) → (record_count_of bus xs).finishing ≡ 0 → ((a b c d : ℕ) (l : List ℕ) → P (a ∷ b ∷ c ∷ d ∷ l)) → P xs
unfolding record_count_of
counted P bus [] z f = absurd (omega arith)
counted P bus (a ∷ []) z f = absurd (omega arith)
counted P bus (a ∷ b ∷ []) z f = absurd (omega arith)
counted P bus (a ∷ b ∷ c ∷ []) z f = absurd (omega arith)
counted P bus (a ∷ b ∷ c ∷ d ∷ l) z f = f a b c d l

second_headed : (v : ℕ) → variant_of v ≡ true → (xs : List ℕ) → (second_variant_of v xs).finishing ≡ 0 → Headed (2 ∷ v ∷ xs)
unfolding second_variant_of
second_headed v known [] z = absurd (omega arith)
second_headed v known (w ∷ xs) z =
    by_test (variant_of w)
    (λ e. by_test (eqb (address_of w) (address_of v))
    (λ f. absurd (omega (arith, rw (e, f) at z)))
    (λ f. counted (λ (ys : List ℕ). Headed (2 ∷ v ∷ w ∷ ys)) _ xs (rw (e, f) at z) (λ a b c d l. two v w a b c d l known e f)))
    (λ e. absurd (omega (arith, rw e at z)))

pub headed : (xs : List ℕ) → (whole_of xs).finishing ≡ 0 → Headed xs
unfolding whole_of variants_of
headed [] z = absurd (omega arith)
headed (n ∷ []) z = by_test (eqb n 1 || eqb n 2) (λ e. absurd (omega (arith, rw e at z))) (λ e. absurd (omega (arith, rw e at z)))
headed (n ∷ v ∷ xs) z =
    by_test (eqb n 1 || eqb n 2)
    (λ e. by_test (variant_of v)
    (λ f. by_test (eqb n 2)
    (λ g. subst (λ (m : ℕ). Headed (m ∷ v ∷ xs)) (sym (eqb-true n 2 g)) (second_headed v f xs (rw (e, f, g) at z)))
    (λ g. subst (λ (m : ℕ). Headed (m ∷ v ∷ xs)) (sym (only n e g))
    (counted (λ (ys : List ℕ). Headed (1 ∷ v ∷ ys)) _ xs (rw (e, f, g) at z) (λ a b c d l. one v a b c d l f))))
    (λ f. absurd (omega (arith, rw (e, f) at z))))
    (λ e. absurd (omega (arith, rw e at z)))
  where
    only : (n : ℕ) → (eqb n 1 || eqb n 2) ≡ true → eqb n 2 ≡ false → n ≡ 1
    only n e g = by_test (eqb n 1) (λ t. eqb-true n 1 t) (λ t. clash (rw (t, g) at e))

-- ---- the header and some bytes behind it

six : (m : ℕ) → 5 + 1 + m ≡ suc (suc (suc (suc (suc (suc m)))))
six m = omega arith

seven : (m : ℕ) → 5 + 2 + m ≡ suc (suc (suc (suc (suc (suc (suc m))))))
seven m = omega arith

-- up to three bytes are no record
no_quad : (r : ℕ) (l : List ℕ) → r < 4 → quads (take r l) ≡ []
no_quad zero l h = refl
no_quad (suc r) [] h = refl
no_quad (suc zero) (x ∷ l) h = refl
no_quad (suc (suc r)) (x ∷ []) h = refl
no_quad (suc (suc zero)) (x ∷ a ∷ l) h = refl
no_quad (suc (suc (suc r))) (x ∷ a ∷ []) h = refl
no_quad (suc (suc (suc zero))) (x ∷ a ∷ b ∷ l) h = refl
no_quad (suc (suc (suc (suc r)))) (x ∷ a ∷ b ∷ l) h = absurd (omega arith)

-- the records of k fours of bytes and up to three more
quads_front : (k r : ℕ) (l : List ℕ) → r < 4 → quads (take (k * 4 + r) l) ≡ take k (quads l)
quads_front zero r l h = rw (zero-add r) (no_quad r l h)
quads_front (suc k) r l h = rw (four k) (behind l (λ m. quads_front k r m h))
  where
    four : (k : ℕ) → suc k * 4 + r ≡ suc (suc (suc (suc (k * 4 + r))))
    four k = omega arith

    behind : (l : List ℕ) → ((m : List ℕ) → quads (take (k * 4 + r) m) ≡ take k (quads m))
        → quads (take (suc (suc (suc (suc (k * 4 + r))))) l) ≡ take (suc k) (quads l)
    behind [] rest = refl
    behind (x ∷ []) rest = refl
    behind (x ∷ a ∷ []) rest = refl
    behind (x ∷ a ∷ b ∷ []) rest = refl
    behind (x ∷ a ∷ b ∷ c ∷ l) rest = ap (λ (qs : List Quad). record { kind = x; a = a; b = b; c = c } ∷ qs) (rest l)

events_front : (devices k : ℕ) (qs : List Quad) → events_in devices (take k qs) ≡ take k (events_in devices qs)
events_front devices zero qs = refl
events_front devices (suc k) [] = refl
events_front devices (suc k) (q ∷ qs) = judge (quad_of devices q) (events_front devices k qs)
  where
    judge : (r : Record) → events_in devices (take k qs) ≡ take k (events_in devices qs)
        → event_then r (events_in devices (take k qs)) ≡ take (suc k) (event_then r (events_in devices qs))
    judge (Ok e) rest = ap (λ (es : List Event). e ∷ es) rest
    judge (Err why) rest = refl

-- two cuts, in either order
take_swap : (n k : ℕ) (qs : List Quad) → take n (take k qs) ≡ take k (take n qs)
take_swap zero zero qs = refl
take_swap zero (suc k) qs = refl
take_swap (suc n) zero qs = refl
take_swap (suc n) (suc k) [] = refl
take_swap (suc n) (suc k) (q ∷ qs) = ap (λ (rest : List Quad). q ∷ rest) (take_swap n k qs)

-- of the counted records those of the bytes in front are the first
counted_front : (devices n m : ℕ) (l : List ℕ) → events_in devices (take n (quads (take m l))) ≡ take (m / 4) (events_in devices (take n (quads l)))
counted_front devices n m l =
    let fours : m ≡ m / 4 * 4 + m % 4 = omega arith in
    ap (λ (j : ℕ). events_in devices (take n (quads (take j l)))) fours
    ∙ ap (λ (qs : List Quad). events_in devices (take n qs)) (quads_front (m / 4) (m % 4) l (omega arith))
    ∙ ap (events_in devices) (take_swap n (m / 4) (quads l))
    ∙ events_front devices (m / 4) (take n (quads l))

-- the same variants and the same bus at them, and the first of the events
pub front_variants : {xs : List ℕ} → Headed xs → (m : ℕ) → variants_in (take (header_bytes xs + m) xs) ≡ variants_in xs
unfolding variants_in
front_variants (one v a b c d l known) m = rw (six m)
front_variants (two v w a b c d l known other apart) m = rw (seven m)

pub front_bus : {xs : List ℕ} → Headed xs → (m : ℕ) → bus_in (take (header_bytes xs + m) xs) ≡ bus_in xs
unfolding bus_in variants_in
front_bus (one v a b c d l known) m = rw (six m)
front_bus (two v w a b c d l known other apart) m = rw (seven m)

pub front_events : {xs : List ℕ} → Headed xs → (m : ℕ) → events_of (take (header_bytes xs + m) xs) ≡ take (m / 4) (events_of xs)
unfolding events_of
front_events (one v a b c d l known) m = rw (six m, known) (counted_front 1 (number 0 (a ∷ b ∷ c ∷ d ∷ [])) m l)
front_events (two v w a b c d l known other apart) m = rw (seven m, known, other, apart) (counted_front 2 (number 0 (a ∷ b ∷ c ∷ d ∷ [])) m l)

-- of whole records
pub first_events : {xs : List ℕ} → Headed xs → (k : ℕ) → events_of (front xs k) ≡ take k (events_of xs)
first_events {xs} h k =
    let whole : k * 4 / 4 ≡ k = omega arith in
    front_events h (k * 4) ∙ ap (λ (j : ℕ). take j (events_of xs)) whole

pub bus_devices : {xs : List ℕ} → Headed xs → (bus_in xs).devices ≡ get_or xs 0 0
unfolding bus_in variants_in
bus_devices (one v a b c d l known) = rw known
bus_devices (two v w a b c d l known other apart) = rw (known, other, apart)

-- ---- the counted end

-- a finishing code of 0: every counted record is done, and four bytes are consumed for each
record AtEnd (w : Whole) (n k : ℕ) : Type 0 where
  done : w.reader.done ≡ n
  consumed : k * 4 + w.consumed ≡ n * 4

at_end : (n k : ℕ) (p : Bus) (qs : List Quad) (l : List ℕ) → (records_of n k p qs l).finishing ≡ 0 → AtEnd (records_of n k p qs l) n k
unfolding records_of code_of
at_end n k p [] [] z =
    by_test (eqb k n)
    (λ e. let same = eqb-true k n e in record { done = same; consumed = omega arith })
    (λ e. absurd (omega (arith, rw e at z)))
at_end n k p [] (x ∷ l) z = by_test (ltb k n) (λ e. absurd (omega (arith, rw e at z))) (λ e. absurd (omega (arith, rw e at z)))
at_end n k p (q ∷ qs) l z =
    by_test (ltb k n)
    (λ e. rw e (judge (quad_of p.devices q) (λ v. at_end n (k + 1) (answers_of p v).bus qs l) (rw e at z)))
    (λ e. absurd (omega (arith, rw e at z)))
  where
    rest : Event → Whole
    rest v = records_of n (k + 1) (answers_of p v).bus qs l

    step : Event → Whole
    step v = then_of 4 ((answers_of p v).first ∷ (answers_of p v).second ∷ []) (rest v)

    refuse : ℕ → Whole
    refuse code = then_of 3 [] (refuses_of (recording n k p (q.kind ∷ q.a ∷ q.b ∷ [])) code)

    judge : (r : Record) → ((v : Event) → (rest v).finishing ≡ 0 → AtEnd (rest v) n (k + 1)) → (on_record r step refuse).finishing ≡ 0
        → AtEnd (on_record r step refuse) n k
    judge (Ok v) more z = let e = more v z in record { done = e.done; consumed = omega (arith, e.consumed) }
    judge (Err Kind) more z = absurd (omega arith)
    judge (Err Operand) more z = absurd (omega arith)

-- every counted record is done, and the header and the counted records are what is consumed
record Complete (xs : List ℕ) : Type 0 where
  done : (whole_of xs).reader.done ≡ record_count xs
  consumed : (whole_of xs).consumed ≡ header_bytes xs + record_count xs * 4

complete : {xs : List ℕ} → Headed xs → (whole_of xs).finishing ≡ 0 → Complete xs
unfolding whole_of variants_of second_variant_of record_count_of
complete (one v a b c d l known) z =
    let e = at_end _ 0 _ (quads l) (over l) (rw known at z) in
    record { done = rw known e.done; consumed = rw known (omega (arith, e.consumed)) }
complete (two v w a b c d l known other apart) z =
    let e = at_end _ 0 _ (quads l) (over l) (rw (known, other, apart) at z) in
    record { done = rw (known, other, apart) e.done; consumed = rw (known, other, apart) (omega (arith, e.consumed)) }

-- ---- accepted

module _ (xs : List ℕ) (accepted : Accepted xs) where
  pub header : Headed xs
  header = headed xs accepted.finishing

  end : Complete xs
  end = complete header accepted.finishing

  -- every counted record has its event
  pub events_counted : length (events_of xs) ≡ record_count xs
  events_counted = sym (step_by_step xs).done ∙ end.done

  pub all : front xs (record_count xs) ≡ xs
  all =
      let room = length (whole_of xs).answers in
      let size = (rw (whole_call xs room (omega arith)) at (stands fresh_of xs room)).done accepted.code in
      take_all (header_bytes xs + record_count xs * 4) xs (omega (arith, size, end.consumed))

  module _ (k : ℕ) (few : k ≤ record_count xs) where
    done_front : (whole_of (front xs k)).reader.done ≡ k
    done_front =
        (step_by_step (front xs k)).done
        ∙ ap length (first_events header k)
        ∙ length-take-le k (events_of xs) (omega (arith, events_counted))

    -- the run over the front, and the rest of the run
    cut : run_of fresh_of xs ≡ after (run_of fresh_of (front xs k)) (run_of (run_of fresh_of (front xs k)).reader (drop (header_bytes xs + k * 4) xs))
    cut = ap (run_of fresh_of) (sym (take-append-drop (header_bytes xs + k * 4) xs)) ∙ run_append fresh_of (front xs k) (drop (header_bytes xs + k * 4) xs)

    none_held : (run_of fresh_of (front xs k)).reader.held ≡ 0
    none_held =
        let s = (run_of fresh_of (front xs k)).reader in
        let parts : (whole_of (front xs k ++ drop (header_bytes xs + k * 4) xs)).code ≡ 0 =
        ap (λ (ys : List ℕ). (whole_of ys).code) (take-append-drop (header_bytes xs + k * 4) xs) ∙ accepted.code in
        by_test (eqb s.held 0)
        (λ z. eqb-true s.held 0 z)
        (λ n. absurd (held_to_the_end (front xs k) (drop (header_bytes xs + k * 4) xs) (eqb-false s.held 0 n) parts))

    pub reached : Reached xs k
    reached =
        let f = front xs k in
        let run = whole_run f in
        let whole : (whole_of xs).answers ≡ (run_of fresh_of f).answers ++ (run_of (run_of fresh_of f).reader (drop (header_bytes xs + k * 4) xs)).answers =
        ap (λ (o : Out). o.answers) (sym (whole_run xs) ∙ cut) in
        let two : length (run_of fresh_of f).answers ≡ k * 2 =
        omega (arith, run_even fresh_of f, ap (λ (o : Out). o.reader.done) run, done_front) in
        record {
          code = ap (λ (o : Out). o.code) (sym run) ∙ run_code fresh_of f ∙ none_held;
          done = done_front;
          answers = ap (λ (o : Out). o.answers) (sym run) ∙ sym (ap (take (k * 2)) whole ∙ take_at (run_of fresh_of f).answers _ (k * 2) two);
        }
