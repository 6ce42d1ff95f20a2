-- A run of a whole capture, byte by byte, is what its sections and its records by fours give: `whole_run`. And its field for the
-- finishing code is what asking the end state to finish gives: `whole_finishing`.
-- Assumes nothing.
use Prim.Native.Nat.{ℕ, ◌+◌, ◌*◌, ◌≤◌, ◌<◌}
use mathlib.Core.Path.{◌≡◌, refl, sym, ap, ◌∙◌}
use mathlib.Core.List.{List, [], ◌∷◌, ◌++◌, append-nil}
use mathlib.Core.Bool.{Bool, true, false, cond, ◌||◌}
use native.Mathlib.Omega.{arith}
use native.Mathlib.Nat.{add-zero}
use lib.Dec.{ltb, eqb}
use lib.ListN.{length}
use borrow.Author.Tests.{ltb-true, ltb-false, eqb-true, eqb-false, eq-eqb, ne_eqb}
use Rattle.laws.proofs.Choices.{cond_ind, by_test}
use Rattle.device.specs.declared.Event.{Event}
use Rattle.registers.specs.Page.{address_of}
use Rattle.device.specs.Ranges.{variant_of}
use Rattle.device.proofs.InRange.{powered_variant}
use Rattle.record.specs.Record.{Record}
use Rattle.std.specs.Prelude.{Ok, Err}
use Rattle.record.specs.declared.refusal.Refusal.{Refusal}
use Rattle.record.specs.declared.refusal.Refusal.TheVariants.{Kind, Operand}
use Rattle.record.specs.Record.{decode_of, code_of}
use Rattle.record.specs.Fours.{Quad, quads, over, quad_of}
use Rattle.pair.specs.declared.Bus.{Bus}
use Rattle.pair.specs.Bus.{count_place, header_length, answers_of}
use Rattle.pair.proofs.Kept.{same_count}
use Rattle.pair.proofs.Heading.{counts}
use Rattle.capture.specs.declared.Reader.{Reader}
use Rattle.capture.specs.Reader.{fresh_of, with_head, hold_of, between_of, header_length_of, one_address, quiet_of, answered_of, judged_of, turn_of}
use Rattle.capture.specs.Reader.{Out, stop_of, join_of, end_of}
use Rattle.capture.specs.Whole.{Whole, refuses_of, then_of, heading, recording, on_record, records_of}
use Rattle.capture.specs.Whole.{number, record_count_of, first_taken, both_of, second_variant_of, none_of, variants_of, whole_of}
use Rattle.capture.proofs.Turns.{opened_turn, other_count_turn, variant_turn, one_address_turn, other_variant_turn, counted_turn}
use Rattle.capture.proofs.Turns.{carried_turn, judged_turn, past_turn}
use Rattle.capture.proofs.Outcomes.{join_join, join_none}
use Rattle.capture_laws.proofs.Run.{run_of, run_on, run_stop, run_nil}

-- a whole capture's result, as a call's outcome
abbrev pub outcome : Whole → Out
outcome w = record { code = w.code; consumed = w.consumed; answers = w.answers; reader = w.reader }

-- a byte that is taken with no answer, and one that is refused
module _ (s : Reader) {s' : Reader} (b : ℕ) (bs : List ℕ) (e : turn_of s b ≡ quiet_of s') where
  taken : s'.held ≡ 0 → run_of s (b ∷ bs) ≡ join_of 1 [] (run_of s' bs)
  taken z = rw e at (run_on s b bs (rw e z))

  refused : (s'.held ≡ 0 → ⊥) → run_of s (b ∷ bs) ≡ stop_of s'
  refused n = rw e at (run_stop s b bs (rw e n))

-- in the records: where some are left, three bytes are carried and the fourth is judged_of; where none is left, a byte is refused
module _ (n k : ℕ) (d : Bus) where
  module _ (e : ltb k n ≡ true) where
    left : k < n
    left = ltb-true k n e

    pub first : (x : ℕ) → turn_of (recording n k d []) x ≡ quiet_of (recording n k d (x ∷ []))
    first x = carried_turn (recording n k d []) x refl refl left (omega arith)

    pub second : (x a : ℕ) → turn_of (recording n k d (x ∷ [])) a ≡ quiet_of (recording n k d (x ∷ a ∷ []))
    second x a = carried_turn (recording n k d (x ∷ [])) a refl refl left (omega arith)

    pub third : (x a b : ℕ) → turn_of (recording n k d (x ∷ a ∷ [])) b ≡ quiet_of (recording n k d (x ∷ a ∷ b ∷ []))
    third x a b = carried_turn (recording n k d (x ∷ a ∷ [])) b refl refl left (omega arith)

    pub fourth : (x a b c : ℕ)
        → turn_of (recording n k d (x ∷ a ∷ b ∷ [])) c ≡ judged_of (recording n k d (x ∷ a ∷ b ∷ [])) (decode_of d.devices x a b c)
    fourth x a b c = judged_turn (recording n k d (x ∷ a ∷ b ∷ [])) c refl refl left (omega arith)

    one_in : (x : ℕ) (ys : List ℕ) → run_of (recording n k d []) (x ∷ ys) ≡ join_of 1 [] (run_of (recording n k d (x ∷ [])) ys)
    one_in x ys = taken _ x ys (first x) refl

    two_in : (x a : ℕ) (ys : List ℕ)
        → run_of (recording n k d []) (x ∷ a ∷ ys) ≡ join_of 2 [] (run_of (recording n k d (x ∷ a ∷ [])) ys)
    two_in x a ys =
        one_in x (a ∷ ys) ∙ ap (join_of 1 []) (taken _ a ys (second x a) refl) ∙ join_join 1 1 [] [] (run_of (recording n k d (x ∷ a ∷ [])) ys)

    three_in : (x a b : ℕ) (ys : List ℕ)
        → run_of (recording n k d []) (x ∷ a ∷ b ∷ ys) ≡ join_of 3 [] (run_of (recording n k d (x ∷ a ∷ b ∷ [])) ys)
    three_in x a b ys =
        let s = recording n k d (x ∷ a ∷ b ∷ []) in
        two_in x a (b ∷ ys) ∙ ap (join_of 2 []) (taken _ b ys (third x a b) refl) ∙ join_join 2 1 [] [] (run_of s ys)

  module _ (e : ltb k n ≡ false) (x : ℕ) where
    pub past : turn_of (recording n k d []) x ≡ quiet_of (hold_of (recording n k d []) 5)
    past = past_turn (recording n k d []) x refl refl (ltb-false k n e)

    full : (ys : List ℕ) → run_of (recording n k d []) (x ∷ ys) ≡ stop_of (hold_of (recording n k d []) 5)
    full ys = refused _ x ys past (λ z. omega arith)

pub lasting : (why : Refusal) → code_of (Err why) ≡ 0 → ⊥
unfolding code_of
lasting Kind z = omega arith
lasting Operand z = omega arith

-- the state after an event is again one in the records
pub stepped : (n k : ℕ) (d : Bus) (l : List ℕ) (v : Event)
    → between_of (recording n k d l) (k + 1) (answers_of d v).bus ≡ recording n (k + 1) (answers_of d v).bus []
stepped n k d l v =
    let same : header_length d ≡ header_length (answers_of d v).bus = omega (arith, same_count d v) in
    λ i. with_head (recording n (k + 1) (answers_of d v).bus []) (same i)

-- up to three bytes and no more
few_run : (n k : ℕ) (d : Bus) (x : ℕ) (l : List ℕ)
    → (ltb k n ≡ true → run_of (recording n k d []) (x ∷ l) ≡ join_of (length (x ∷ l)) [] (run_of (recording n k d (x ∷ l)) []))
    → run_of (recording n k d []) (x ∷ l) ≡ outcome (records_of n k d [] (x ∷ l))
unfolding records_of
few_run n k d x l taken =
    by_test (ltb k n)
    (λ e. simp e (taken e ∙ ap (join_of (length (x ∷ l)) []) (run_nil (recording n k d (x ∷ l)))))
    (λ e. simp e (full n k d e x l))

records_run : (n k : ℕ) (d : Bus) (xs : List ℕ) → run_of (recording n k d []) xs ≡ outcome (records_of n k d (quads xs) (over xs))
unfolding records_of
records_run n k d [] = run_nil (recording n k d [])
records_run n k d (x ∷ []) = few_run n k d x [] (λ e. one_in n k d e x [])
records_run n k d (x ∷ a ∷ []) = few_run n k d x (a ∷ []) (λ e. two_in n k d e x a [])
records_run n k d (x ∷ a ∷ b ∷ []) = few_run n k d x (a ∷ b ∷ []) (λ e. three_in n k d e x a b [])
records_run n k d (x ∷ a ∷ b ∷ c ∷ xs) =
    by_test (ltb k n)
    (λ e. three_in n k d e x a b (c ∷ xs) ∙ go e (decode_of d.devices x a b c) refl (λ v. records_run n (k + 1) (answers_of d v).bus xs))
    (λ e. simp e (full n k d e x (a ∷ b ∷ c ∷ xs)))
  where
    s : Reader
    s = recording n k d (x ∷ a ∷ b ∷ [])

    -- the state after the event
    next : Event → Reader
    next v = recording n (k + 1) (answers_of d v).bus []

    pair : Event → List ℕ
    pair v = (answers_of d v).first ∷ (answers_of d v).second ∷ []

    go : ltb k n ≡ true → (r : Record) → decode_of d.devices x a b c ≡ r
        → ((v : Event) → run_of (next v) xs ≡ outcome (records_of n (k + 1) (answers_of d v).bus (quads xs) (over xs)))
        → join_of 3 [] (run_of s (c ∷ xs)) ≡ outcome (records_of n k d (quads (x ∷ a ∷ b ∷ c ∷ xs)) (over (x ∷ a ∷ b ∷ c ∷ xs)))
    go e (Ok v) q ih =
        let t : turn_of s c ≡ answered_of s (answers_of d v) = rw q at (fourth n k d e x a b c) in
        let same = stepped n k d (x ∷ a ∷ b ∷ []) v in
        simp (e, q)
        (ap (join_of 3 []) (rw t at (run_on s c xs (rw t refl)))
        ∙ ap (λ (u : Reader). join_of 3 [] (join_of 1 (pair v) (run_of u xs))) same
        ∙ join_join 3 1 [] (pair v) (run_of (next v) xs)
        ∙ ap (join_of 4 (pair v)) (ih v))
    go e (Err why) q ih =
        let t : turn_of s c ≡ quiet_of (hold_of s (code_of (Err why))) = rw q at (fourth n k d e x a b c) in
        simp (e, q) (ap (join_of 3 []) (refused _ c xs t (lasting why)))

-- a byte of the count
count_in : (h n : ℕ) (d : Bus) (b : ℕ) (ys : List ℕ) → count_place d ≤ h → h < header_length d
    → run_of (heading h n d) (b ∷ ys) ≡ join_of 1 [] (run_of (heading (h + 1) (n * 256 + b) d) ys)
count_in h n d b ys l m = taken (heading h n d) b ys (counted_turn (heading h n d) b refl l m) refl

-- bytes of the count, all but the last
counts_in : (l : List ℕ) (h n : ℕ) (d : Bus) (ys : List ℕ) → count_place d ≤ h → h + length l ≤ header_length d
    → run_of (heading h n d) (l ++ ys) ≡ join_of (length l) [] (run_of (heading (h + length l) (number n l) d) ys)
counts_in [] h n d ys m f = rw (add-zero h) (sym (join_none (run_of (heading h n d) ys)))
counts_in (b ∷ l) h n d ys m f =
    let next : h + 1 + length l ≡ h + length (b ∷ l) = omega arith in
    let one : 1 + length l ≡ length (b ∷ l) = omega arith in
    count_in h n d b (l ++ ys) m (omega arith)
    ∙ ap (join_of 1 []) (counts_in l (h + 1) (n * 256 + b) d ys (omega arith) (omega arith))
    ∙ join_join 1 (length l) [] [] (run_of (heading (h + 1 + length l) (number (n * 256 + b) l) d) ys)
    ∙ rw (next, one)

few_counts : (d : Bus) (l : List ℕ) → length l < 4
    → run_of (heading (count_place d) 0 d) l ≡ join_of (length l) [] (stop_of (heading (count_place d + length l) (number 0 l) d))
few_counts d l h =
    ap (run_of (heading (count_place d) 0 d)) (sym (append-nil l))
    ∙ counts_in l (count_place d) 0 d [] (omega arith) (omega arith)
    ∙ ap (join_of (length l) []) (run_nil (heading (count_place d + length l) (number 0 l) d))

count_run : (d : Bus) (xs : List ℕ) → run_of (heading (count_place d) 0 d) xs ≡ outcome (record_count_of d xs)
unfolding record_count_of
count_run d [] = run_nil (heading (count_place d) 0 d)
count_run d (a ∷ []) = few_counts d (a ∷ []) (omega arith)
count_run d (a ∷ b ∷ []) = few_counts d (a ∷ b ∷ []) (omega arith)
count_run d (a ∷ b ∷ c ∷ []) = few_counts d (a ∷ b ∷ c ∷ []) (omega arith)
count_run d (a ∷ b ∷ c ∷ e ∷ xs) =
    let l = a ∷ b ∷ c ∷ e ∷ [] in
    counts_in l (count_place d) 0 d xs (omega arith) (omega arith) ∙ ap (join_of 4 []) (records_run (number 0 l) 0 d xs)

-- the second variant byte, behind a first
second_run : (v : ℕ) (xs : List ℕ) → run_of (heading 2 0 (first_taken 2 v)) xs ≡ outcome (second_variant_of v xs)
unfolding second_variant_of
second_run v [] = run_nil (heading 2 0 (first_taken 2 v))
second_run v (w ∷ xs) =
    by_test (variant_of w)
    (λ e. by_test (eqb (address_of w) (address_of v))
    (λ f. simp (e, f) (refused _ w xs (one_address_turn s w refl (omega arith) at e (one f)) (λ z. omega arith)))
    (λ f. simp (e, f) (taken _ w xs (variant_turn s w refl (omega arith) at e (one f)) refl ∙ ap (join_of 1 []) (count_run (both_of v w) xs))))
    (λ e. simp e (refused _ w xs (other_variant_turn s w refl (omega arith) at e) (λ z. omega arith)))
  where
    s : Reader
    s = heading 2 0 (first_taken 2 v)

    at : 2 < count_place (first_taken 2 v)
    at = omega arith

    one : {t : Bool} → eqb (address_of w) (address_of v) ≡ t → one_address s w ≡ t
    one f = rw (powered_variant v) f

-- the first variant byte, one or two devices
variant_run : (n : ℕ) → (eqb n 1 || eqb n 2) ≡ true → (xs : List ℕ) → run_of (heading 1 0 (none_of n)) xs ≡ outcome (variants_of n xs)
unfolding variants_of
variant_run n c [] = run_nil (heading 1 0 (none_of n))
variant_run n c (v ∷ xs) =
    by_test (variant_of v)
    (λ e. simp e (taken _ v xs (variant_turn s v refl (omega arith) at e refl) refl ∙ ap (join_of 1 []) rest))
    (λ e. simp e (refused _ v xs (other_variant_turn s v refl (omega arith) at e) (λ z. omega arith)))
  where
    s : Reader
    s = heading 1 0 (none_of n)

    at : 1 < count_place (none_of n)
    at = omega (arith, counts n c)

    rest : run_of (heading 2 0 (first_taken n v)) xs ≡ outcome (cond (eqb n 2) (second_variant_of v xs) (record_count_of (first_taken n v) xs))
    rest =
        by_test (eqb n 2)
        (λ t. simp t (rw (eqb-true n 2 t) (second_run v xs)))
        (λ t. let place : 2 ≡ count_place (first_taken n v) = omega (arith, counts n c, eqb-false n 2 t) in
        simp t (ap (λ (h : ℕ). run_of (heading h 0 (first_taken n v)) xs) place ∙ count_run (first_taken n v) xs))

pub whole_run : (xs : List ℕ) → run_of fresh_of xs ≡ outcome (whole_of xs)
unfolding whole_of
whole_run [] = run_nil fresh_of
whole_run (n ∷ xs) =
    by_test (eqb n 1 || eqb n 2)
    (λ e. simp e (taken _ n xs (opened_turn fresh_of n refl refl e) refl ∙ ap (join_of 1 []) (variant_run n e xs)))
    (λ e. simp e (refused _ n xs (other_count_turn fresh_of n refl refl e) (λ z. omega arith)))

-- ---- the finishing code

abbrev Finishes : Whole → Type 0
Finishes w = end_of w.reader ≡ w.finishing

short : (n k : ℕ) → ltb k n ≡ true → eqb k n ≡ false
short n k e = ne_eqb k n (λ q. omega (arith, ltb-true k n e))

-- in the header a state is not at the counted end; in the records it is where all are done
header_end : (s : Reader) → s.held ≡ 0 → s.head < header_length_of s → end_of s ≡ 6
header_end s z l = simp (eq-eqb s.held 0 z, ne_eqb s.head (header_length_of s) (λ e. omega arith))

records_end : (s : Reader) → s.held ≡ 0 → s.head ≡ header_length_of s → end_of s ≡ cond (eqb s.done s.count) 0 6
records_end s z h = simp (eq-eqb s.held 0 z, eq-eqb s.head (header_length_of s) h)

records_finishing : (n k : ℕ) (d : Bus) (qs : List Quad) (l : List ℕ) → Finishes (records_of n k d qs l)
unfolding records_of code_of
records_finishing n k d [] [] = records_end (recording n k d []) refl refl
records_finishing n k d [] (x ∷ l) =
    cond_ind Finishes (ltb k n) (λ e. records_end (recording n k d (x ∷ l)) refl refl ∙ rw (short n k e)) (λ _. refl)
records_finishing n k d (q ∷ qs) l =
    cond_ind Finishes (ltb k n) (λ _. each (quad_of d.devices q) (λ e. records_finishing n (k + 1) (answers_of d e).bus qs l)) (λ _. refl)
  where
    rest : Event → Whole
    rest e = records_of n (k + 1) (answers_of d e).bus qs l

    step_one : Event → Whole
    step_one e = then_of 4 ((answers_of d e).first ∷ (answers_of d e).second ∷ []) (rest e)

    refuse : ℕ → Whole
    refuse code = then_of 3 [] (refuses_of (recording n k d (q.kind ∷ q.a ∷ q.b ∷ [])) code)

    each : (r : Record) → ((e : Event) → Finishes (rest e)) → Finishes (on_record r step_one refuse)
    each (Ok e) f = f e
    each (Err Kind) f = refl
    each (Err Operand) f = refl

count_finishing : (d : Bus) (xs : List ℕ) → Finishes (record_count_of d xs)
unfolding record_count_of
count_finishing d [] = header_end (heading (count_place d) 0 d) refl (omega arith)
count_finishing d (a ∷ []) = header_end (heading (count_place d + 1) (number 0 (a ∷ [])) d) refl (omega arith)
count_finishing d (a ∷ b ∷ []) = header_end (heading (count_place d + 2) (number 0 (a ∷ b ∷ [])) d) refl (omega arith)
count_finishing d (a ∷ b ∷ c ∷ []) = header_end (heading (count_place d + 3) (number 0 (a ∷ b ∷ c ∷ [])) d) refl (omega arith)
count_finishing d (a ∷ b ∷ c ∷ e ∷ xs) = records_finishing (number 0 (a ∷ b ∷ c ∷ e ∷ [])) 0 d (quads xs) (over xs)

second_finishing : (v : ℕ) (xs : List ℕ) → Finishes (second_variant_of v xs)
unfolding second_variant_of
second_finishing v [] = header_end (heading 2 0 (first_taken 2 v)) refl (omega arith)
second_finishing v (w ∷ xs) =
    cond_ind Finishes (variant_of w)
    (λ _. cond_ind Finishes (eqb (address_of w) (address_of v)) (λ _. refl) (λ _. count_finishing (both_of v w) xs))
    (λ _. refl)

variant_finishing : (n : ℕ) (xs : List ℕ) → Finishes (variants_of n xs)
unfolding variants_of
variant_finishing n [] = header_end (heading 1 0 (none_of n)) refl (omega arith)
variant_finishing n (v ∷ xs) =
    cond_ind Finishes (variant_of v)
    (λ _. cond_ind Finishes (eqb n 2) (λ _. second_finishing v xs) (λ _. count_finishing (first_taken n v) xs))
    (λ _. refl)

pub whole_finishing : (xs : List ℕ) → end_of (whole_of xs).reader ≡ (whole_of xs).finishing
unfolding whole_of
whole_finishing [] = header_end fresh_of refl (omega arith)
whole_finishing (n ∷ xs) = cond_ind Finishes (eqb n 1 || eqb n 2) (λ _. variant_finishing n xs) (λ _. refl)
