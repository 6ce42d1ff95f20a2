use Rattle.std.proofs.Common.{refl, rules}
use Rattle.capture_laws.proofs.Counts.{bytes_of}
use Rattle.listing_loop.proofs.Making.{made_part, made_more, made_last}
use Rattle.listing_loop.proofs.lay_part.Goals as goal

pub returns-then-is_empty-fed : goal.returns-then-is_empty-fed
returns-then-is_empty-fed c =
    made_part c.args.reader c.args.part.now c.feed-fed.ensures refl c.record_lines-size.ensures
    (bytes_of c.args.part.now (λ i. (c.type_inv.part i).fits)) c.requires.0 (search rules) c.requires.1
    (made_more c.args.part.now c.feed-fed.result _ c.is_empty.ensures c.if-is_empty-fed.true)

pub returns-else-is_empty-fed : goal.returns-else-is_empty-fed
returns-else-is_empty-fed c =
    made_part c.args.reader c.args.part.now c.feed-fed.ensures refl c.record_lines-size.ensures
    (bytes_of c.args.part.now (λ i. (c.type_inv.part i).fits)) c.requires.0 (search rules) c.requires.1
    (made_last c.args.part.now c.feed-fed.result _ c.is_empty.ensures c.if-is_empty-fed.false)
