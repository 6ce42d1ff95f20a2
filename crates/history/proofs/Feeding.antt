-- `fed_state`: the state that feeding leaves, call by call with whatever buffers, after 7 too, is that of the whole-capture definition for the bytes
-- consumed so far. `goes_on`: with the bytes of a capture whose code is 0, behind those, a call gives 0 or 7 and nothing else.
-- `held_to_the_end`: no capture whose code is 0 has a front that is refused.
-- Assumes nothing.
use mathlib.Core.Path.{◌≡◌, sym, ap, subst, ◌∙◌}
use mathlib.Core.Bool.{true}
use mathlib.Core.List.{List, ◌++◌}
use mathlib.Core.Logic.{◌⊎◌, inl, inr}
use Prim.Native.Nat.{ℕ}
use native.Mathlib.Omega.{arith}
use lib.Dec.{eqb}
use lib.ListN.{length, take}
use lib.Seq.{take-length}
use borrow.Author.Tests.{eqb-true, eqb-false}
use Rattle.laws.proofs.Choices.{by_test}
use Rattle.capture.specs.declared.Reader.{Reader}
use Rattle.capture.specs.declared.Fed.{Fed}
use Rattle.capture.specs.Reader.{Out, fresh_of, feed_of, call_of, ranges_of, FedWith}
use Rattle.capture.specs.Whole.{whole_of}
use Rattle.capture_laws.proofs.Run.{run_of, run_nil, run_held, run_append, feed_run, feed_ranges}
use Rattle.capture_laws.proofs.Fours.{run_code}
use Rattle.capture_laws.proofs.Sections.{whole_run}
use Rattle.capture_laws.proofs.Cuts.{fresh_ranges}
use Rattle.capture_laws.proofs.Places.{feed_stands}
use Rattle.history.specs.Latches.{FeedsTo}
use Rattle.history.specs.Latches.FeedsTo.{fresh, called}

-- a call that gives 0 or 7 leaves the state of the run over what it consumed
run_consumed : (s : Reader) (part : List ℕ) (room : ℕ) → ranges_of s ≡ true → ((feed_of s part room).code ≡ 0) ⊎ ((feed_of s part room).code ≡ 7)
    → (run_of s (take (feed_of s part room).consumed part)).reader ≡ (feed_of s part room).reader
run_consumed s part room h (inl z) =
    let all : take (feed_of s part room).consumed part ≡ part =
    ap (λ (n : ℕ). take n part) ((feed_stands s part room h).done z) ∙ take-length part in
    ap (λ (l : List ℕ). (run_of s l).reader) all ∙ sym (ap (λ (o : Out). o.reader) (feed_run s part room (λ q. omega (arith, z, q))))
run_consumed s part room h (inr q) =
    let front = rw h at ((feed_stands s part room h).waits q).place.front in
    let run = feed_run s (take (feed_of s part room).consumed part) room (λ seven. omega (arith, seven, ap (λ (o : Out). o.code) front)) in
    ap (λ (o : Out). o.reader) (sym run ∙ front)

record Stand (bytes : List ℕ) (s : Reader) : Type 0 where
  run : (run_of fresh_of bytes).reader ≡ s
  ranges : ranges_of s ≡ true

stand : {bytes : List ℕ} {s : Reader} → FeedsTo bytes s → Stand bytes s
stand fresh = record { run = ap (λ (o : Out). o.reader) (run_nil fresh_of); ranges = fresh_ranges }
stand (called {bytes} {s} {r} part entry exit f b m c) =
    let before = stand f in
    let h = before.ranges in
    let room = length entry in
    let o = feed_of s part room in
    let call : call_of s part room ≡ o = rw h in
    let code : (o.code ≡ 0) ⊎ (o.code ≡ 7) = subst (λ (n : ℕ). (n ≡ 0) ⊎ (n ≡ 7)) (m.code ∙ ap (λ (x : Out). x.code) call) c in
    let reader : r.reader ≡ o.reader = m.reader ∙ ap (λ (x : Out). x.reader) call in
    let consumed : r.consumed ≡ o.consumed = m.consumed ∙ ap (λ (x : Out). x.consumed) call in
    record {
      run = ap (λ (x : Out). x.reader) (run_append fresh_of bytes (take r.consumed part))
          ∙ ap (λ (t : Reader). (run_of t (take r.consumed part)).reader) before.run
          ∙ ap (λ (n : ℕ). (run_of s (take n part)).reader) consumed
          ∙ run_consumed s part room h code
          ∙ sym reader;
      ranges = subst (λ (t : Reader). ranges_of t ≡ true) (sym reader) (feed_ranges s part room b h);
    }

pub fed_state : {bytes : List ℕ} {s : Reader} → FeedsTo bytes s → s ≡ (whole_of bytes).reader
fed_state {bytes} f = sym (stand f).run ∙ ap (λ (o : Out). o.reader) (whole_run bytes)

-- ---- an accepted capture's own bytes

-- a code that a state holds is the code of all that comes after it
pub held_to_the_end : (xs ys : List ℕ) → ((run_of fresh_of xs).reader.held ≡ 0 → ⊥) → (whole_of (xs ++ ys)).code ≡ 0 → ⊥
held_to_the_end xs ys held zero =
    let s = (run_of fresh_of xs).reader in
    let code : (run_of fresh_of (xs ++ ys)).code ≡ s.held =
    ap (λ (o : Out). o.code) (run_append fresh_of xs ys) ∙ ap (λ (o : Out). o.code) (run_held s ys held) in
    held (sym code ∙ ap (λ (o : Out). o.code) (whole_run (xs ++ ys)) ∙ zero)

pub goes_on : {bytes : List ℕ} {s : Reader} {r : Fed} (part rest entry exit : List ℕ) → (whole_of ((bytes ++ part) ++ rest)).code ≡ 0 → FeedsTo bytes s
    → FedWith s part r entry exit → (r.code ≡ 0) ⊎ (r.code ≡ 7)
goes_on {bytes} {s} {r} part rest entry exit zero f m =
    let before = stand f in
    let room = length entry in
    let o = feed_of s part room in
    let call : call_of s part room ≡ o = rw before.ranges in
    let code : r.code ≡ o.code = m.code ∙ ap (λ (x : Out). x.code) call in
    by_test (eqb o.code 7)
    (λ e. inr (code ∙ eqb-true o.code 7 e))
    (λ e. by_test (eqb o.code 0)
    (λ z. inl (code ∙ eqb-true o.code 0 z))
    (λ z.
    let run = feed_run s part room (eqb-false o.code 7 e) in
    let held : (run_of fresh_of (bytes ++ part)).reader.held ≡ o.code =
    ap (λ (x : Out). x.reader.held) (run_append fresh_of bytes part)
    ∙ ap (λ (t : Reader). (run_of t part).reader.held) before.run
    ∙ sym (run_code s part)
    ∙ sym (ap (λ (x : Out). x.code) run) in
    absurd (held_to_the_end (bytes ++ part) rest (λ h. eqb-false o.code 0 z (sym held ∙ h)) zero)))
