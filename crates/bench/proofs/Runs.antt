-- The two ways out of the bench's call, and that its promise has one answer: `one_run`.
-- Assumes nothing.
use Prim.Native.Nat.{ℕ, ◌+◌, ◌*◌, ◌/◌, ◌≤◌, ◌<◌}
use mathlib.Core.Path.{◌≡◌, sym, ap, ◌∙◌}
use mathlib.Core.List.{List}
use lib.Dec.{leb}
use lib.ListN.{length, take}
use borrow.Author.Tests.{leb-true, leb-false}
use Rattle.capture.specs.declared.Fed.{Fed}
use Rattle.capture.specs.Reader.{Out, fresh_of, feed_of, call_of, end_of, Meets}
use Rattle.capture.specs.Whole.{whole_of}
use Rattle.capture_laws.specs.Schedule.{Bytes}
use Rattle.capture_laws.proofs.Rooms.{feed_short}
use Rattle.capture_laws.proofs.Cuts.{fresh_ranges, whole_call}
use Rattle.capture_laws.proofs.Sections.{whole_run, whole_finishing}
use Rattle.capture_laws.proofs.Counts.{written_small}
use Rattle.laws.proofs.Choices.{by_test}
use Rattle.bench.specs.Bench.{last_of, bench_of, Ran, RanWhole}

-- ---- the call against the whole-capture definition

-- with room for every answer the state finishes as the whole does
end_fits : (xs : List ℕ) (room : ℕ) → length (whole_of xs).answers ≤ room → end_of (call_of fresh_of xs room).reader ≡ (whole_of xs).finishing
end_fits xs room fits = rw (ap (λ (o : Out). o.reader) (whole_call xs room fits)) (whole_finishing xs)

-- ---- what the call returns

-- a code and an end state that a call reports, as the bench reports them
pub ran : (xs entry : List ℕ) {exit : List ℕ} (fed : Fed) → Meets (call_of fresh_of xs (length entry)) fed entry exit
    → Ran (bench_of xs (length entry)) (fed.written * 16 + last_of fed.code fed.reader) entry exit
unfolding bench_of
ran xs entry fed m =
    by_test (leb (length (whole_of xs).answers) (length entry))
    (λ e.
    let fits = leb-true (length (whole_of xs).answers) (length entry) e in
    let call = whole_call xs (length entry) fits in
    let same = rw call at m in
    let end : end_of fed.reader ≡ (whole_of xs).finishing = rw m.reader (end_fits xs (length entry) fits) in
    rw e (record { told = rw (same.written, same.code, end); buffer = same.buffer }))
    (λ e.
    let few = leb-false (length (whole_of xs).answers) (length entry) e in
    let run = whole_run xs in
    let s = feed_short fresh_of xs (length entry) (rw (ap (λ (o : Out). length o.answers) run) few) in
    let t = rw fresh_ranges at m in
    let pairs = length entry / 2 * 2 in
    let same : (feed_of fresh_of xs (length entry)).answers ≡ take pairs (whole_of xs).answers = s.answers ∙ ap (λ (o : Out). take pairs o.answers) run in
    rw e (record { told = rw (t.written, t.code, s.code, same); buffer = rw same at t.buffer }))

-- two results that meet the promise are equal, and so are their buffers
pub one_run : (capture : List ℕ) {r s : ℕ} {entry exit exit' : List ℕ}
    → RanWhole capture r entry exit → RanWhole capture s entry exit' → (r ≡ s) × (exit ≡ exit')
one_run capture p q = (p.told ∙ sym q.told, p.buffer ∙ sym q.buffer)

-- a whole capture writes fewer than 2 ^ 33 answer bytes, so the result fits
pub small : (xs entry : List ℕ) {exit : List ℕ} (fed : Fed) → Bytes xs → Meets (call_of fresh_of xs (length entry)) fed entry exit → fed.written < 8589934592
small xs entry fed k m = rw m.written (written_small xs (length entry) k)
