use Rattle.std.proofs.Common.{rules, ◌≡◌, ℕ, ◌<◌, ◌≤◌, ◌+◌, length}
use mathlib.Core.List.{[]}
use lib.ListN.{get_or}
use Rattle.fan.proofs.Entries.{value_listed}
use Rattle.fan.proofs.table.value.Goals as goal

pub returns : goal.returns
returns c =
    let xs = c.args.table in
    let first : c.args.step ≡ 0 → c.map_or.result ≡ 0 = λ e. search rules in
    let some : (i : ℕ) → c.args.step ≡ i + 1 → i < length xs → c.map_or.result ≡ get_or (get_or xs i []) 1 0 = λ i e h. search rules in
    let past : (i : ℕ) → c.args.step ≡ i + 1 → length xs ≤ i → c.map_or.result ≡ 0 = λ i e h. search rules in
    value_listed xs c.args.step c.map_or.result first some past
