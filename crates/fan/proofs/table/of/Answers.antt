use Rattle.std.proofs.Common.{rules, ◌∙◌, ◌≡◌, length}
use Rattle.std.specs.Simd.{first_chunks}
use Rattle.fan.proofs.Entries.{by_twos}
use Rattle.fan.proofs.table.of.Goals as goal

pub returns : goal.returns
returns c =
    let long : length c.args.bytes ≡ 16 = search rules in
    let front : c.as_chunks.result.0.now ≡ first_chunks 2 8 c.args.bytes = rw long at c.as_chunks.ensures.front in
    c.copy_from_slice.ensures.after ∙ front ∙ by_twos c.args.bytes long
