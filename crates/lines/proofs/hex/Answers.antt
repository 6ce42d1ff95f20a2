use Rattle.std.proofs.Common.{◌≡◌, ℕ, ◌+◌, ◌%◌, cond, ltb, get_or, ap, ◌∙◌, arith}
use Rattle.laws.proofs.Tables.{tabulate, entry}
use Rattle.lines.specs.Lines.{hex_of}
use Rattle.lines.proofs.hex.Goals as goal

digit_at : (n : ℕ) → get_or (tabulate hex_of 0 16) (n % 16) 0 ≡ hex_of n
unfolding hex_of
digit_at n =
    let last : n % 16 % 16 ≡ n % 16 = omega arith in
    entry 0 hex_of 16 (n % 16) (omega arith) ∙ ap (λ d. cond (ltb d 10) (d + 48) (d + 55)) last

pub returns : goal.returns
unfolding hex_of
returns c = rw c.from.ensures (digit_at c.args.n)
