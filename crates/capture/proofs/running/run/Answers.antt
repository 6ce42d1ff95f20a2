use borrow.Author.Rules.{rules}
use Prim.Native.Nat.{ℕ, ◌-◌, ◌<◌}
use borrow.Rule.Slice.PartMut.{put_mid}
use native.Mathlib.Omega.{arith}
use lib.ListN.{length, get_or, take, drop}
use lib.Bits.{bit_or}
use mathlib.Core.Path.{◌≡◌, sym, ap, ◌∙◌}
use mathlib.Core.List.{List, [], ◌∷◌}
use Rattle.laws.proofs.Buffers.{laid}
use Rattle.device.specs.declared.Device.{Device}
use Rattle.device.specs.declared.Event.{Event}
use Rattle.device.specs.declared.Outcome.{Outcome}
use Rattle.device.specs.Step.{effect_of, answer_of}
use Rattle.record.specs.Record.{Record}
use Rattle.std.specs.Prelude.{Ok}
use Rattle.record.specs.Record.{decode_of}
use Rattle.pair.specs.declared.hand.Hand.{Hand}
use Rattle.capture.specs.declared.Reader.{Reader}
use Rattle.capture.proofs.Records.{waiting, hand_at, Running, Stepped, run_start, run_refused, run_effect}
use Rattle.capture.proofs.running.run.Goals as goal

-- a record is read under the state's device count
read : (s : Reader) (kind a b byte : ℕ) {h : Hand} {r : Record} → h ≡ hand_at s → r ≡ decode_of h.devices kind a b byte
    → decode_of s.bus.devices kind a b byte ≡ r
read s kind a b byte held e = ap (λ (h : Hand). decode_of h.devices kind a b byte) (sym held) ∙ sym e

-- the answers with a record's pair stored
stored : {s : Reader} {input before : List ℕ} {from start : ℕ} {answers : List ℕ} {kind a b : ℕ} {device : Device} {done at written left : ℕ}
    → Running s input before from start answers kind a b device done at written left
    → ((i : ℕ) → get_or input i 0 < 256)
    → {h : Hand} → h ≡ hand_at s → {r : Record} → r ≡ decode_of h.devices kind a b (get_or input at 0)
    → {e : Event} → r ≡ Ok e → {o : Outcome} → o ≡ effect_of device e → {answer : ℕ} → answer ≡ answer_of o
    → {part : List ℕ} → part ≡ bit_or answer h.lines ∷ o.byte ∷ drop 2 (take (length answers - written) (drop written answers))
    → Stepped s input before from start answers (put_mid written (length answers - written) answers part) o.device done at written left
stored {s} {answers = answers} {kind = kind} {a = a} {b = b} {written = written} l small held e valid {o} did given {part} pair =
    let there = laid answers part (_ ∷ _ ∷ []) written pair in
    run_effect l small _ (read s kind a b _ held e ∙ valid) o did (rw (given, held) at there)

pub upto-left-requires : goal.upto-left-requires
upto-left-requires c =
    let w = waiting c.args.ahead.reader c.args.ahead.in_range c.requires.waits in
    omega (arith, w.counted)

pub loop-e-init : goal.loop-e-init
loop-e-init c =
    let a = c.args in
    rw (c.upto-left.ensures, c.picked-device.ensures, c.taken-h.ensures)
    (run_start a.ahead a.input.now a.answers.now a.start c.requires (search rules) (omega arith) (omega arith))

pub returns-in_default : goal.returns-in_default
returns-in_default c =
    let told = c.in_default.is in
    rw (c.refused.ensures, told, c.carrying-n.ensures, c.taken-h.ensures)
    (run_refused c.loop-e.invariant _ (read c.args.ahead.reader _ _ _ _ c.taken-h.ensures c.decode-decoded.ensures ∙ told))

pub returns-then-left-eq0 : goal.returns-then-left-eq0
returns-then-left-eq0 c =
    let s =
    stored c.loop-e.invariant (λ i. (c.type_inv.input i).fits)
    c.taken-h.ensures c.decode-decoded.ensures c.in-Ok.is c.effect-o.ensures c.answer.ensures c.put_pair.ensures
    in
    rw (c.report.ensures, c.between.ensures, c.taken-h.ensures) s.last

pub returns-then-leaves : goal.returns-then-leaves
returns-then-leaves c =
    let s =
    stored c.loop-e.invariant (λ i. (c.type_inv.input i).fits)
    c.taken-h.ensures c.decode-decoded.ensures c.in-Ok.is c.effect-o.ensures c.answer.ensures c.put_pair.ensures
    in
    rw (c.report-then-leaves.ensures, c.carrying.ensures, c.taken-h.ensures) (s.leaves (omega arith))

pub loop-e-preserved : goal.loop-e-preserved
loop-e-preserved c =
    let s =
    stored c.loop-e.invariant (λ i. (c.shared_slice_known-in-loop-e-1.given i).fits)
    c.taken-h.ensures c.decode-decoded.ensures c.in-Ok.is c.effect-o.ensures c.answer.ensures c.put_pair.ensures
    in
    s.again (omega arith) (rw c.taken-h.ensures at (sym c.leaves.ensures ∙ c.if-leaves.false))
