use mir.Facts.{to_z-of_z}
use Rattle.fan.specs.Table.{stands_of}
use Rattle.fan.proofs.Signed.{wide, pos_fits, less_fits}
use Rattle.fan.proofs.table.stands.Goals as goal

pub returns : goal.returns
unfolding stands_of
returns c =
    let t = rw c.from-temperature.ensures at c.from-temperature.type_inv in
    let h = rw c.from.ensures at c.from.type_inv in
    let reading = to_z-of_z c.ranges.reading in
    let wide_reading = to_z-of_z (wide c.ranges.reading) in
    let difference = to_z-of_z (less_fits _ _ t h) in
    rw (c.from-temperature.ensures, c.from.ensures, c.from-reading.ensures, reading, wide_reading)
    (rw (to_z-of_z (pos_fits _ t), to_z-of_z (pos_fits _ h), difference))
