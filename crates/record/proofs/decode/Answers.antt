use mathlib.Core.Path.{sym}
use Rattle.std.proofs.lemmas.Result.{err_from_is_err_and}
use native.Mathlib.Omega.{arith}
use Rattle.record.specs.Record.{decode_of}
use Rattle.device.specs.Ranges.{operands_of}
use Rattle.record.proofs.Conversions.{numbered_by}
use Rattle.record.proofs.Known.{past_last, of_two, numbered, of_no_kind}
use Rattle.record.proofs.decode.Goals as goal

pub returns-then-last_kind-kind : goal.returns-then-last_kind-kind
returns-then-last_kind-kind c = sym (past_last _ _ _ _ _ (rw c.last_kind.ensures at c.if-last_kind-kind.true))

pub returns-in_err-try_from : goal.returns-in_err-try_from
returns-in_err-try_from c =
    let p = err_from_is_err_and c.from_residual.result c.from_residual.ensures.1 in
    let none = numbered_by c.args.kind c.in_err-try_from.ensures in
    rw (p.1, p.2, none.0) (sym (of_no_kind _ _ _ _ _ none.1))

pub returns-in-Write : goal.returns-in-Write
unfolding decode_of operands_of
returns-in-Write c = rw (c.admit.ensures, numbered (numbered_by c.args.kind c.in_ok-try_from.ensures) c.in-Write.is)

pub returns-in-Read : goal.returns-in-Read
unfolding decode_of operands_of
returns-in-Read c = rw (c.admit-in-Read.ensures, numbered (numbered_by c.args.kind c.in_ok-try_from.ensures) c.in-Read.is)

pub returns-in-Send : goal.returns-in-Send
unfolding decode_of operands_of
returns-in-Send c = rw (c.admit-in-Send.ensures, numbered (numbered_by c.args.kind c.in_ok-try_from.ensures) c.in-Send.is)

pub returns-in-Receive : goal.returns-in-Receive
unfolding decode_of operands_of
returns-in-Receive c = rw (c.admit-in-Receive.ensures, numbered (numbered_by c.args.kind c.in_ok-try_from.ensures) c.in-Receive.is)

pub returns-in-Convert : goal.returns-in-Convert
unfolding decode_of operands_of
returns-in-Convert c = rw (c.admit-in-Convert.ensures, numbered (numbered_by c.args.kind c.in_ok-try_from.ensures) c.in-Convert.is)

pub returns-in-Open : goal.returns-in-Open
unfolding decode_of operands_of
returns-in-Open c = rw (c.admit-in-Open.ensures, numbered (numbered_by c.args.kind c.in_ok-try_from.ensures) c.in-Open.is)

pub returns-in-PowerOn : goal.returns-in-PowerOn
unfolding decode_of operands_of
returns-in-PowerOn c = rw (c.admit-in-PowerOn.ensures, numbered (numbered_by c.args.kind c.in_ok-try_from.ensures) c.in-PowerOn.is)

pub returns-in-ConvertSecond : goal.returns-in-ConvertSecond
unfolding decode_of operands_of
returns-in-ConvertSecond c =
    let kind = numbered (numbered_by c.args.kind c.in_ok-try_from.ensures) c.in-ConvertSecond.is in
    let two = of_two c.args.devices (omega (arith, c.if-last_kind-kind.false, c.last_kind.ensures, kind)) in
    rw (c.admit-in-ConvertSecond.ensures, kind, two)

pub returns-in-OpenSecond : goal.returns-in-OpenSecond
unfolding decode_of operands_of
returns-in-OpenSecond c =
    let kind = numbered (numbered_by c.args.kind c.in_ok-try_from.ensures) c.in-OpenSecond.is in
    let two = of_two c.args.devices (omega (arith, c.if-last_kind-kind.false, c.last_kind.ensures, kind)) in
    rw (c.admit-in-OpenSecond.ensures, kind, two)
