use mathlib.Core.Path.{◌≡◌, sym, ◌∙◌}
use mathlib.Core.Bool.{Bool, true, ◌&&◌}
use Rattle.record.specs.Writer.{header_of, count_bytes_of}
use Rattle.record.proofs.Writings.{header_2_refused, header_2_address, header_2_fits}
use Rattle.record.proofs.write_header_2.Goals as goal

-- both variants passed their test

passed : {x y s t : Bool} → x ≡ s → y ≡ t → (x && y) ≡ true → (s && t) ≡ true
passed p q e = rw (p, q) at e

pub returns-then-not-variant : goal.returns-then-not-variant
returns-then-not-variant c = header_2_refused _ _ _ _ (rw (c.variant.ensures, c.variant-2.ensures) at c.if-not-variant.true)

pub returns-then-one_address : goal.returns-then-one_address
returns-then-one_address c =
    let good = passed c.variant.ensures c.variant-2.ensures c.if-not-variant.false in
    header_2_address _ _ _ _ good (sym c.one_address.ensures ∙ c.if-one_address.true)

pub returns : goal.returns
unfolding header_of count_bytes_of
returns c =
    let good = passed c.variant.ensures c.variant-2.ensures c.if-not-variant.false in
    header_2_fits _ _ _ _ good (sym c.one_address.ensures ∙ c.if-one_address.false) (rw c.header_2.ensures at c.put.ensures)
