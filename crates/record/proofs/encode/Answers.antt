use Rattle.record.specs.Record.{encode_of}
use Rattle.record.proofs.encode.Goals as goal

pub returns-in-Write : goal.returns-in-Write
unfolding encode_of
returns-in-Write c = rw c.in-Write.is

pub returns-in-Read : goal.returns-in-Read
unfolding encode_of
returns-in-Read c = rw c.in-Read.is

pub returns-in-Send : goal.returns-in-Send
unfolding encode_of
returns-in-Send c = rw c.in-Send.is

pub returns-in-Receive : goal.returns-in-Receive
unfolding encode_of
returns-in-Receive c = rw c.in-Receive.is

pub returns-in-Convert : goal.returns-in-Convert
unfolding encode_of
returns-in-Convert c = rw c.in-Convert.is

pub returns-in-Open : goal.returns-in-Open
unfolding encode_of
returns-in-Open c = rw c.in-Open.is

pub returns-in-PowerOn : goal.returns-in-PowerOn
unfolding encode_of
returns-in-PowerOn c = rw c.in-PowerOn.is

pub returns-in-ConvertSecond : goal.returns-in-ConvertSecond
unfolding encode_of
returns-in-ConvertSecond c = rw c.in-ConvertSecond.is

pub returns-in-OpenSecond : goal.returns-in-OpenSecond
unfolding encode_of
returns-in-OpenSecond c = rw c.in-OpenSecond.is
