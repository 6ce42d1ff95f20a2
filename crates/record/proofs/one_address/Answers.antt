use Rattle.record.proofs.one_address.Goals as goal

pub returns : goal.returns
returns c = rw (c.address.ensures, c.address-2.ensures)
