-- How a cut capture is fed: which buffers the calls are lent, when a call follows another, and what comes of it. A call is known by what
-- `feed` promises of it, and by nothing else.
-- Assumes nothing.
use Rattle.std.specs.Prelude.{ℕ, zero, suc, ◌≤◌, ◌<◌, true, ◌≡◌, List, [], ◌∷◌, ◌++◌, length, take, drop}
use Rattle.capture.specs.declared.Reader.{Reader}
use Rattle.capture.specs.declared.Fed.{Fed}
use Rattle.capture.specs.Reader.{Out, join_of, finish_of, ranges_of, FedWith}
use Rattle.capture.specs.Whole.{whole_of}

-- a buffer that a call is lent: the bytes that it holds, as many as there is room
abbrev pub Buffer : Type 0
Buffer = List ℕ

-- what a caller sees of a call: the result, and the bytes of its buffer that the call says it wrote
abbrev pub seen : Fed → Buffer → Out
seen r exit = record { code = r.code; consumed = r.consumed; answers = take r.written exit; reader = r.reader }

-- one outcome and then another: counts added, answers joined, the last code and state
abbrev pub after : Out → Out → Out
after a b = join_of a.consumed a.answers b

-- one part of a capture, fed to its end with these buffers, one for each call, in the order of the calls: the first of any length, each
-- later one of two bytes or more. A call that gives 7 is followed by one that is given the unread rest, from the state that the 7 left; any
-- other code ends the part
pub data Part : List Buffer → Reader → List ℕ → Out → Type 0 where
  last : {s : Reader} {xs : List ℕ} {entry exit : Buffer} {r : Fed} → FedWith s xs r entry exit → (r.code ≡ 7 → ⊥) → Part (entry ∷ []) s xs (seen r exit)
  again : {s : Reader} {xs : List ℕ} {entry exit next : Buffer} {later : List Buffer} {r : Fed} {o : Out} → FedWith s xs r entry exit
      → r.code ≡ 7 → 2 ≤ length next → Part (next ∷ later) r.reader (drop r.consumed xs) o → Part (entry ∷ next ∷ later) s xs (after (seen r exit) o)

-- one or more parts in order, each with its own buffers, each from the state that the one before it left
pub data Parts : List (List Buffer) → Reader → List (List ℕ) → Out → Type 0 where
  one : {buffers : List Buffer} {s : Reader} {xs : List ℕ} {o : Out} → Part buffers s xs o → Parts (buffers ∷ []) s (xs ∷ []) o
  more : {buffers : List Buffer} {later : List (List Buffer)} {s : Reader} {xs : List ℕ} {ps : List (List ℕ)} {o p : Out}
      → Part buffers s xs o → Parts later o.reader ps p → Parts (buffers ∷ later) s (xs ∷ ps) (after o p)

-- ---- the buffers that a caller lends, of whatever contents and length

-- to the first n calls of a part, `lent i` to call i (from 0)
abbrev pub to_calls : (ℕ → Buffer) → ℕ → List Buffer
to_calls lent zero = []
to_calls lent (suc n) = lent 0 ∷ to_calls (λ i. lent (suc i)) n

-- to the parts, of so many calls each, `lent j i` to call i of part j
abbrev pub to_parts : (ℕ → ℕ → Buffer) → List ℕ → List (List Buffer)
to_parts lent [] = []
to_parts lent (n ∷ ns) = to_calls (lent 0) n ∷ to_parts (λ j. lent (suc j)) ns

-- two bytes or more for every call of a part but its first
abbrev pub Roomy : (ℕ → Buffer) → Type 0
Roomy lent = (i : ℕ) → 2 ≤ length (lent (suc i))

-- feeding a part with the lent buffers, in their order, comes to its end after so many calls
pub record PartEnds (lent : ℕ → Buffer) (s : Reader) (xs : List ℕ) : Type 0 where
  pub calls : ℕ
  pub outcome : Out
  pub fed : Part (to_calls lent calls) s xs outcome

-- and so does feeding parts, each after its number of calls
pub record PartsEnd (lent : ℕ → ℕ → Buffer) (s : Reader) (ps : List (List ℕ)) : Type 0 where
  pub calls : List ℕ
  pub outcome : Out
  pub fed : Parts (to_parts lent calls) s ps outcome

-- ---- the capture that was cut

abbrev pub joined : List (List ℕ) → List ℕ
joined [] = []
joined (xs ∷ ps) = xs ++ joined ps

-- a byte string
abbrev pub Bytes : List ℕ → Type 0
Bytes [] = Unit {0}
Bytes (b ∷ bs) = (b < 256) × Bytes bs

-- what a cut capture's outcome shares with the whole one's; and its state never gets 8
pub record SameAsWhole (o : Out) (xs : List ℕ) : Type 0 where
  pub answers : o.answers ≡ (whole_of xs).answers
  pub consumed : o.consumed ≡ (whole_of xs).consumed
  pub code : o.code ≡ (whole_of xs).code
  pub reader : o.reader ≡ (whole_of xs).reader
  pub finishing : finish_of o.reader ≡ (whole_of xs).finishing
  pub ranges : ranges_of o.reader ≡ true
