use borrow.Author.Tests.{ltb-true}
use native.Mathlib.Omega.{arith}
use Prim.Native.Nat.{◌<◌}
use mathlib.Core.Path.{sym, ◌∙◌}
use Rattle.capture.specs.Reader.{header_length_of}
use Rattle.capture.proofs.InRange.{completed, short_header, count_small}
use Rattle.capture.proofs.Records.{not_waiting}
use Rattle.capture.proofs.Turns.{held_turn, head_turn, carried_turn, past_turn}
use Rattle.capture.proofs.taking.take_quiet.Goals as goal

pub returns-then-s-ne0 : goal.returns-then-s-ne0
returns-then-s-ne0 c = let a = c.args in held_turn a.s a.b c.if-s-ne0.true

pub head_byte-requires : goal.head_byte-requires
head_byte-requires c =
    let inside : c.args.s.head < header_length_of c.args.s = ltb-true _ _ (sym c.ahead.ensures ∙ c.if-ahead.true) in
    record { head_bound = omega (arith, inside, short_header c.args.s c.requires.in_range); count_bound = count_small c.args.s c.requires.in_range inside }

pub returns-then-ahead : goal.returns-then-ahead
returns-then-ahead c =
    let a = c.args in
    let inside = ltb-true _ _ (sym c.ahead.ensures ∙ c.if-ahead.true) in
    rw (c.told.ensures, c.head_byte.ensures) (head_turn a.s a.b c.if-s-ne0.false inside)

pub carry-requires : goal.carry-requires
carry-requires c =
    not_waiting c.args.s c.requires.in_range c.requires.quiet c.if-s-ne0.false

pub returns-then-s : goal.returns-then-s
returns-then-s c =
    let few = not_waiting c.args.s c.requires.in_range c.requires.quiet c.if-s-ne0.false in
    let complete = completed c.args.s c.requires.in_range (sym c.ahead.ensures ∙ c.if-ahead.false) in
    rw c.carry.ensures (carried_turn c.args.s c.args.b c.if-s-ne0.false complete c.if-s.true few)

pub returns : goal.returns
returns c =
    let complete = completed c.args.s c.requires.in_range (sym c.ahead.ensures ∙ c.if-ahead.false) in
    rw c.hold.ensures (past_turn c.args.s c.args.b c.if-s-ne0.false complete c.if-s.false)
