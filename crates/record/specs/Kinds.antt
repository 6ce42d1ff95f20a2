-- The kinds by number: 01 to 07; request c: 08 and 09.
-- Assumes nothing.
use Rattle.std.specs.Prelude.{ℕ, ◌≡◌, cond, eqb, Result, Ok, Err, MatchResult}
use Rattle.record.specs.declared.kind.Kind.{Kind}
use Rattle.record.specs.declared.kind.Kind.TheVariants.{Write, Read, Send, Receive, Convert, Open, PowerOn, ConvertSecond, OpenSecond}
use Rattle.record.specs.declared.refusal.Refusal.{Refusal}
use Rattle.record.specs.declared.refusal.Refusal.TheVariants as refusal

abbrev pub number_of : Kind → ℕ
number_of Write = 0x01
number_of Read = 0x02
number_of Send = 0x03
number_of Receive = 0x04
number_of Convert = 0x05
number_of Open = 0x06
number_of PowerOn = 0x07
number_of ConvertSecond = 0x08
number_of OpenSecond = 0x09

-- the kind of this number, or a refusal
abbrev pub kind_of : ℕ → Result Kind Refusal
kind_of n =
    cond (eqb n 0x01) (Ok Write)
    (cond (eqb n 0x02) (Ok Read)
    (cond (eqb n 0x03) (Ok Send)
    (cond (eqb n 0x04) (Ok Receive)
    (cond (eqb n 0x05) (Ok Convert)
    (cond (eqb n 0x06) (Ok Open)
    (cond (eqb n 0x07) (Ok PowerOn)
    (cond (eqb n 0x08) (Ok ConvertSecond)
    (cond (eqb n 0x09) (Ok OpenSecond) (Err refusal.Kind)))))))))

-- the result is the kind of this number, or a refusal of a number that no kind has (proofs/Conversions.antt: is_numbered)
abbrev pub Numbered : ℕ → Result Kind Refusal → Type 0
Numbered n r = MatchResult r (λ kind. number_of kind ≡ n) (λ why. (why ≡ refusal.Kind) × ((kind : Kind) → number_of kind ≡ n → ⊥))
