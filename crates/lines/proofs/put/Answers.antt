use Rattle.std.proofs.Common.{◌∙◌}
use Rattle.lines.proofs.Layers.{all_three}
use Rattle.lines.proofs.put.Goals as goal

pub returns-clause-laid : goal.returns-clause-laid
returns-clause-laid c =
    let front = c.in_ok-room.ensures.cases in
    let middle = c.in_ok-rest.ensures.cases in
    let back = c.in_ok-rest-2.ensures.cases in
    all_three _ _ _ _ (c.as_bytes-digits.ensures.value ∙ c.format.ensures.text)
    c.copy_from_slice.ensures.after c.copy_from_slice-2.ensures.after c.copy_from_slice-3.ensures.after
    front.3 middle.3 back.3 front.4 middle.4 back.4
